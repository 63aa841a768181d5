-- What an extract says, and what that is worth from an opening on. Assumes nothing.
use Rattle.std.specs.Prelude.{◌≡◌, ℕ, true, cond, List, [], ◌∷◌, length, IfOk, Ok, Err, vec_items, Result}
use Rattle.orders.specs.Desk.{turn, worked_all}
use Rattle.orders.specs.Orders.{Numbered}
use Rattle.entries.specs.Sheet.{Sheet, sheet}
use Rattle.pages.specs.Opening.{opened_page}
use Rattle.pages.specs.declared.refusal.Refusal.{Refusal}
use Rattle.pages.specs.declared.refusal.Refusal.TheVariants.{NoParcel}
use Rattle.filings.specs.declared.filing.Filing.{Filing}
use Rattle.steps.specs.Acting.{acts}
use Rattle.work.specs.Promises.{From}
use Rattle.work.specs.State.{State}
use Rattle.extracts.specs.Existing.{may_exist}
use Rattle.extracts.specs.Open.{all_open}
use Rattle.extracts.specs.declared.error.ExtractError.{ExtractError}
use Rattle.extracts.specs.declared.error.ExtractError.TheVariants.{Refused, NoMemory}
use Rattle.extracts.specs.declared.extract.Extract.{Extract}

-- the number that was asked for, its page, and the open filings that touch it, rising
pub record Content : Type 0 where
  pub parcel : ℕ
  pub page : Sheet
  pub filings : List ℕ

abbrev pub content : Extract → Content
content x = record { parcel = x.parcel; page = sheet x.page; filings = vec_items x.«open» }

-- the page as it stands; no parcel can have the number that is refused
abbrev pub extract_of : State → ℕ → Result Content Refusal
extract_of s p = cond (may_exist s p) (Ok (record { parcel = p; page = s.desk.register p; filings = all_open s p })) (Err NoParcel)

-- WHAT IT IS WORTH

-- with no open filing on it the page is what the order of filing makes of it so far, and no work on what was filed can change it
pub record Final (bytes : List ℕ) (s : State) (p : ℕ) (page : Sheet) : Type 0 where
  pub as_filed : page ≡ turn (acts s.parcels) (opened_page s.parcels bytes) s.desk.filed (length s.desk.filed) p
  pub stays : (ns : List ℕ) → (worked_all (acts s.parcels) s.desk ns).register p ≡ page

-- by the open filings that are named: the page is what the order of filing makes of it before the first of them
abbrev pub Settled : List ℕ → State → ℕ → Sheet → List ℕ → Type 0
Settled bytes s p page [] = Final bytes s p page
Settled bytes s p page (n ∷ ns) = page ≡ turn (acts s.parcels) (opened_page s.parcels bytes) s.desk.filed n p

-- of every registry that came about from an opening
abbrev pub Worth : State → ℕ → Sheet → List ℕ → Type 0
Worth s p page ns = (bytes : List ℕ) (ys : List (Numbered Filing)) → From bytes ys s → Settled bytes s p page ns

-- THE CALL

-- the answer is one, unless there was no memory for it
abbrev pub Answers : State → ℕ → Result Extract ExtractError → Type 0
Answers s p (Ok x) = Ok (content x) ≡ extract_of s p
Answers s p (Err (Refused e)) = Err e ≡ extract_of s p
Answers s p (Err NoMemory) = may_exist s p ≡ true

pub record Extracts (s : State) (p : ℕ) (r : Result Extract ExtractError) : Type 0 where
  pub answer : Answers s p r
  pub settled : IfOk r (λ x. Worth s p (sheet x.page) (vec_items x.«open»))
