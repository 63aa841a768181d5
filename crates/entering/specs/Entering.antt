-- Entering filing n in a register that was opened with P parcels: which pages it writes, or why it is rejected. Assumes nothing.
use Rattle.std.specs.Prelude.{MatchBool, ◌≡◌, ℕ, ◌+◌, ◌-◌, ◌^◌, min, Bool, cond, List, [], ◌∷◌, Ok, Err, Result, nat_lt}
use Rattle.std.specs.Result.{result_map_both}
use denote.Ref.{MutBor}
use Rattle.entries.specs.Sheet.{Sheet, sheet}
use Rattle.entries.specs.declared.page.Page.{Page}
use Rattle.entries.specs.Rank.{closed_sheet, made_sheet}
use Rattle.pages.specs.Register.{Register, page_at, put, put_page, room}
use Rattle.pages.specs.declared.refusal.Lent.TheVariants as lent
use Rattle.pages.specs.declared.refusal.Refusal.{Refusal}
use Rattle.pages.specs.declared.refusal.Refusal.TheVariants.{Short}
use Rattle.filings.specs.Touches.{first_made}
use Rattle.filings.specs.declared.filing.Filing.{Filing}
use Rattle.filings.specs.declared.filing.Filing.TheVariants.{Transfer, Charge, Reserve, Fill, Release, Postpone, Subdivide, Merge}
use Rattle.entering.specs.Acts.{if_live, transferred, charged, kept_for, filled_by, released_by, postponed_by, divisible, mergeable}
use Rattle.entering.specs.Outcome.{verdict}
use Rattle.entering.specs.declared.outcome.Outcome.{Outcome}
use Rattle.entering.specs.declared.outcome.Rejection.{Rejection}
use Rattle.entering.specs.declared.outcome.Rejection.TheVariants.{NotLive}

-- a page that is written
pub record Change : Type 0 where
  pub parcel : ℕ
  pub page : Sheet

abbrev pub on : ℕ → Sheet → Change
on p s = record { parcel = p; page = s }

abbrev pub alone : ℕ → Result Sheet Rejection → Result (List Change) Rejection
alone p (Ok s) = Ok (on p s ∷ [])
alone p (Err k) = Err k

-- areas are kept in 64 bits; from an opening on no sum comes near that
abbrev pub capped : ℕ → ℕ
capped area = min area (2 ^ 64 - 1)

-- the parcel is closed, and both parts have its owner and its entries
abbrev pub subdivided : ℕ → ℕ → Sheet → ℕ → ℕ → List Change
subdivided first p s a m = on p (closed_sheet s) ∷ on first (made_sheet s a m) ∷ on (first + 1) (made_sheet s a (s.area - m)) ∷ []

-- both are closed, and the whole has their owner, their land and their entries
abbrev pub merged : ℕ → ℕ → ℕ → Sheet → Sheet → ℕ → List Change
merged first p q s t a = on p (closed_sheet s) ∷ on q (closed_sheet t) ∷ on first (made_sheet s a (capped (s.area + t.area))) ∷ []

-- the decision over the kinds, where the first parcel that filing n may make is known: the pages that are written, or the first reason to reject
abbrev pub act : ℕ → ℕ → Filing → Register → Result (List Change) Rejection
act first n (Transfer p a b) r = if_live (r p) (alone p (transferred (r p) a b))
act first n (Charge p a h m) r = if_live (r p) (alone p (charged (r p) n a h m))
act first n (Reserve p a h) r = if_live (r p) (alone p (kept_for (r p) n a h))
act first n (Fill p a h k m) r = if_live (r p) (alone p (filled_by (r p) a h k m))
act first n (Release p h k) r = if_live (r p) (alone p (released_by (r p) h k))
act first n (Postpone p h k) r = if_live (r p) (alone p (postponed_by (r p) h k))
act first n (Subdivide p a m) r = if_live (r p) (divisible (r p) a m (Ok (subdivided first p (r p) a m)))
act first n (Merge p q a) r = if_live (r p) (if_live (r q) (mergeable p q (r p) (r q) a (Ok (merged first p q (r p) (r q) a))))

abbrev pub puts : List Change → Register → Register
puts [] r = r
puts (c ∷ cs) r = puts cs (put c.parcel c.page r)

abbrev pub put_pages : List Change → List ℕ → List ℕ
put_pages [] ws = ws
put_pages (c ∷ cs) ws = put_pages cs (put_page ws c.parcel c.page)

abbrev pub register_after : Result (List Change) Rejection → Register → Register
register_after (Ok cs) r = puts cs r
register_after (Err k) r = r

abbrev pub words_after : Result (List Change) Rejection → List ℕ → List ℕ
words_after (Ok cs) ws = put_pages cs ws
words_after (Err k) ws = ws

-- the outcome of a filing, and the register after it
unfoldable pub outcome : ℕ → ℕ → Filing → Register → Outcome
outcome P n f r = verdict (act (first_made P n) n f r)

unfoldable pub entered : ℕ → ℕ → Filing → Register → Register
entered P n f r = register_after (act (first_made P n) n f r) r

-- THE CALL

-- room for the parcels that the filing may make is looked at first
abbrev pub short_of_room : ℕ → ℕ → List ℕ → Bool
short_of_room P n ws = nat_lt (room ws) (first_made P n + 2)

abbrev pub entering : ℕ → ℕ → Filing → List ℕ → Result Outcome Refusal
entering P n f ws = cond (short_of_room P n ws) (Err (Short lent.Pages)) (Ok (outcome P n f (page_at ws)))

abbrev pub words_entered : ℕ → ℕ → Filing → List ℕ → List ℕ
words_entered P n f ws = cond (short_of_room P n ws) ws (words_after (act (first_made P n) n f (page_at ws)) ws)

abbrev pub register_entered : ℕ → ℕ → Filing → List ℕ → Register
register_entered P n f ws = cond (short_of_room P n ws) (page_at ws) (entered P n f (page_at ws))

-- what entering one filing makes of lent words that have room for it; they are lent on under the same name
pub record Done (a : Result (List Change) Rejection) (before : MutBor (List ℕ)) (r : Result (Unit {0}) Rejection) (after : MutBor (List ℕ)) : Type 0 where
  pub answer : r ≡ result_map_both (λ _. tt) (λ k. k) a
  pub words : after.now ≡ words_after a before.now
  pub register : page_at after.now ≡ register_after a (page_at before.now)
  pub same : after.ghost_name ≡ before.ghost_name

-- what a change of one page comes to, by an act of which only its contract is known
pub record Acted (post : Page → Result Page Rejection → Type 0) (p : ℕ) (before : MutBor (List ℕ)) (r : Result (Unit {0}) Rejection) (after : MutBor (List ℕ)) : Type 0 where
  pub page : Page
  pub made : Result Page Rejection
  pub was : sheet page ≡ page_at before.now p
  pub acts : post page made
  pub done : Done (alone p (result_map_both sheet (λ k. k) made)) before r after

-- a page that is not live is not acted on
abbrev pub Changed : (Page → Result Page Rejection → Type 0) → ℕ → MutBor (List ℕ) → Result (Unit {0}) Rejection → MutBor (List ℕ) → Type 0
Changed post p before r after = MatchBool (page_at before.now p).live (Acted post p before r after) (Done (Err NotLive) before r after)
