-- What is promised of every registry from an opening on, and what each call says of it. Assumes nothing.
use Rattle.std.specs.Prelude.{◌≡◌, ℕ, ◌≤◌, true, false, List, [], length, Some, Ok, Result}
use Rattle.std.specs.List.{slice_get}
use Rattle.orders.specs.Desk.{FirstOpen, ReachedBy, accepted, asked, first_open, logged, open_at, opened, ready_from, touched_by, worked_all}
use Rattle.orders.specs.Laws.{AsFiled, Goes, InOrder}
use Rattle.orders.specs.Orders.{Numbered, numbers_of}
use Rattle.entries.specs.Order.{all_below, distinct}
use Rattle.entries.specs.Rank.{ahead, has, numbers}
use Rattle.pages.specs.Opening.{checked, opened_page}
use Rattle.pages.specs.Register.{page_at}
use Rattle.pages.specs.declared.refusal.Refusal.{Refusal}
use Rattle.filings.specs.declared.filing.Filing.{Filing}
use Rattle.entering.specs.declared.outcome.Outcome.{Outcome}
use Rattle.steps.specs.Acting.{acts}
use Rattle.steps.specs.Ranks.{let_pass}
use Rattle.work.specs.Calls.{answered, image_filed, image_worked, number_given, state_filed, state_worked, taking_in}
use Rattle.work.specs.State.{Image, State, desk_in, state_in}

-- by any interleaving of filing and asking, whatever was asked for, since it was opened with these pages; ys were worked, in this order
pub record From (bytes : List ℕ) (ys : List (Numbered Filing)) (s : State) : Type 0 where
  pub opening : checked s.parcels bytes ≡ Ok tt
  pub reached : ReachedBy (acts s.parcels) (opened_page s.parcels bytes) ys s.desk

pub record Promised (bytes : List ℕ) (ys : List (Numbered Filing)) (s : State) : Type 0 where
  -- each page is what the order of filing makes of it before the first open filing that touches it, and each outcome that of the order of filing
  pub as_filed : AsFiled (acts s.parcels) (opened_page s.parcels bytes) s.desk
  -- of the same opening and the same filings only those that are done count, and not in which order they were worked
  pub only_done_counts :
      (zs : List (Numbered Filing)) (t : State) → From bytes zs t → t.parcels ≡ s.parcels → t.desk.filed ≡ s.desk.filed →
      ((n : ℕ) → open_at t.desk n ≡ open_at s.desk n) → t ≡ s
  -- what was worked is just what is done, and of two that share a page the one filed first was worked first
  pub in_order : InOrder (acts s.parcels) s.desk ys
  -- every order of what is open in which that stays so will be accepted to its end
  pub goes_on : (zs : List (Numbered Filing)) → Goes (acts s.parcels) s.desk zs → accepted (acts s.parcels) s.desk (numbers_of zs) ≡ true
  -- the first open filing is the first that may be worked
  pub never_stuck : (n : ℕ) → FirstOpen s.desk n → ready_from (acts s.parcels) s.desk 0 (length s.desk.filed) ≡ Some n
  -- a page that no open filing touches stays as it is, whatever is asked for
  pub settled :
      (p : ℕ) → ((i : ℕ) → open_at s.desk i ≡ true → touched_by (acts s.parcels) i (slice_get s.desk.filed i) p ≡ false) → (ns : List ℕ) →
      (worked_all (acts s.parcels) s.desk ns).register p ≡ s.desk.register p
  -- an entry that never let another pass has before it only what was filed earlier
  pub rank :
      (p k h : ℕ) → let_pass s.parcels (opened_page s.parcels bytes) s.desk.filed k h (first_open (acts s.parcels) s.desk p) p ≡ false →
      has k h (s.desk.register p).entries ≡ true → all_below k (numbers (ahead k h (s.desk.register p).entries)) ≡ true
  -- a page has at most 32 entries, under distinct numbers of filings that came in before the first open one that touches it
  pub room : (p : ℕ) → length (s.desk.register p).entries ≤ 32
  pub distinct_numbers : (p : ℕ) → distinct (numbers (s.desk.register p).entries) ≡ true
  pub below : (p : ℕ) → all_below (first_open (acts s.parcels) s.desk p) (numbers (s.desk.register p).entries) ≡ true

-- what came about from an opening still does after the call, with what was worked so far as `log` has it
pub record Onward (before after : State) (log : List (Numbered Filing) → List (Numbered Filing)) : Type 0 where
  pub reached : (bytes : List ℕ) (ys : List (Numbered Filing)) → From bytes ys before → From bytes (log ys) after
  pub promised : (bytes : List ℕ) (ys : List (Numbered Filing)) → From bytes ys before → Promised bytes (log ys) after

-- THE CALLS

-- the pages of an opening are there, and from here on it is open
pub record Begun (P : ℕ) (bytes : List ℕ) (after : Image) : Type 0 where
  pub state : state_in after ≡ record { parcels = P; desk = opened (opened_page P bytes) }
  pub reached : From bytes [] (state_in after)
  pub promised : Promised bytes [] (state_in after)

pub record Begins (P : ℕ) (before after : Image) : Type 0 where
  pub image : after ≡ record { pages = before.pages; filings = before.filings; marks = before.marks; parcels = P; filed = 0 }
  pub begun : (bytes : List ℕ) → page_at before.pages ≡ opened_page P bytes → checked P bytes ≡ Ok tt → Begun P bytes after

pub record Files (r : Result ℕ Refusal) (bytes : List ℕ) (before after : Image) : Type 0 where
  pub answer : r ≡ number_given before (taking_in before bytes)
  pub image : after ≡ image_filed (taking_in before bytes) bytes before
  pub state : state_in after ≡ state_filed (taking_in before bytes) (state_in before)
  pub onward : Onward (state_in before) (state_in after) (λ ys. ys)

pub record Works (r : Result Outcome Refusal) (n : ℕ) (before after : Image) : Type 0 where
  pub answer : r ≡ answered before.parcels n (page_at before.pages) (asked (acts before.parcels) (desk_in before) n)
  pub image : after ≡ image_worked n (asked (acts before.parcels) (desk_in before) n) before
  pub state : state_in after ≡ state_worked n (state_in before)
  pub onward : Onward (state_in before) (state_in after) (logged (acts before.parcels) (asked (acts before.parcels) (desk_in before) n) n)
