-- Rank from an opening on, over the order of filing: only who lets another pass comes to rank behind a later entry. Assumes nothing.
use Rattle.std.specs.Prelude.{◌≡◌, ℕ, zero, suc, Bool, true, false, cond, ◌&&◌, ◌||◌, List, [], Some, None, Option, ◌==◌}
use Rattle.std.specs.List.{slice_get}
use Rattle.orders.specs.Desk.{turn}
use Rattle.entries.specs.Order.{all_below, follower}
use Rattle.entries.specs.Rank.{ahead, any, has, is, numbers}
use Rattle.entries.specs.declared.entry.Entry.{Entry}
use Rattle.pages.specs.Opening.{opened_page}
use Rattle.pages.specs.Register.{Register}
use Rattle.filings.specs.Touches.{first_made, may_make, member, named}
use Rattle.filings.specs.declared.filing.Filing.{Filing}
use Rattle.filings.specs.declared.filing.Filing.TheVariants.{Transfer, Charge, Reserve, Fill, Release, Postpone, Subdivide, Merge}
use Rattle.entering.specs.Entering.{outcome}
use Rattle.entering.specs.declared.outcome.Outcome.{Outcome}
use Rattle.entering.specs.declared.outcome.Outcome.TheVariants.{Entered, Rejected}
use Rattle.steps.specs.Acting.{acts}
use Rattle.steps.specs.Reasons.{some}

-- some entry stands behind the first entry k of h
abbrev pub has_behind : ℕ → ℕ → List Entry → Bool
has_behind k h es = any (λ _. true) (follower (is k h) es)

-- the filing postpones the entry k of h on page p, where there is one behind it to let pass
abbrev pub gives_way : ℕ → ℕ → Filing → Register → ℕ → Bool
gives_way k h (Transfer q a b) r p = false
gives_way k h (Charge q a i m) r p = false
gives_way k h (Reserve q a i) r p = false
gives_way k h (Fill q a i j m) r p = false
gives_way k h (Release q i j) r p = false
gives_way k h (Postpone q i j) r p = q == p && (j == k && (i == h && has_behind k h (r p).entries))
gives_way k h (Subdivide q a m) r p = false
gives_way k h (Merge q o a) r p = false

abbrev pub if_entered : Outcome → Bool → Bool → Bool
if_entered Entered x y = x
if_entered (Rejected k) x y = y

module _ (P k h : ℕ) where
  -- On which pages the entry k of h has let another pass, once filing n was entered, where `before` says it of the register r before it:
  -- a page that it made goes by the pages that it was made of.
  abbrev pub passing : ℕ → Filing → Register → (ℕ → Bool) → ℕ → Bool
  passing n f r before p = cond (member p (may_make (first_made P n) f)) (some before (named f)) (before p || gives_way k h f r p)

  -- what is rejected, and what is not there, lets nobody pass
  abbrev pub passing_if : ℕ → Option Filing → Register → (ℕ → Bool) → ℕ → Bool
  passing_if n None r before p = before p
  passing_if n (Some f) r before p = if_entered (outcome P n f r) (passing n f r before p) (before p)

module _ (P : ℕ) (start : Register) (fs : List Filing) (k h : ℕ) where
  -- before filing n: the entry k of h has let another pass on page p, or on a page that it was made of
  unfoldable pub let_pass : ℕ → ℕ → Bool
  let_pass zero p = false
  let_pass (suc n) p = passing_if P k h n (slice_get fs n) (turn (acts P) start fs n) (let_pass n) p

-- An entry that never let another pass has before it only entries of smaller numbers, that is of earlier filings. A reservation
-- counts from its own filing, also once it is filled, since its entry keeps the number.
abbrev pub RankKept : Type 0
RankKept =
    (P : ℕ) (start : Register) → ((p : ℕ) → (start p).entries ≡ []) → (fs : List Filing) (n p k h : ℕ) →
    let_pass P start fs k h n p ≡ false → has k h (turn (acts P) start fs n p).entries ≡ true →
    all_below k (numbers (ahead k h (turn (acts P) start fs n p).entries)) ≡ true

-- an opening is such a start
abbrev pub OpensWithoutEntries : Type 0
OpensWithoutEntries = (P : ℕ) (bytes : List ℕ) (p : ℕ) → (opened_page P bytes p).entries ≡ []
