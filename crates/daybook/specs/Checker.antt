-- When an order of work is allowed, and what it leaves. Assumes nothing.
use Rattle.std.specs.Prelude.{◌≡◌, ℕ, suc, true, false, cond, List, [], ◌∷◌, ◌++◌, length, codes, decimal, is_ok, Some, Ok, Err, Result}
use Rattle.std.specs.List.{slice_get}
use Rattle.orders.specs.Desk.{Answer, Desk, absent, finished, waits, ready, accepted, asked, is_ready, open_at, turn, work, worked_all}
use Rattle.orders.specs.Orders.{Numbered, among}
use Rattle.entries.specs.Sheet.{Sheet}
use Rattle.pages.specs.Opening.{opened_page}
use Rattle.pages.specs.Refusal.{refusal_text}
use Rattle.pages.specs.declared.refusal.Refusal.{Refusal}
use Rattle.pages.specs.declared.refusal.Refusal.TheVariants.{Done, NotThere, Waits}
use Rattle.filings.specs.declared.filing.Filing.{Filing}
use Rattle.entering.specs.Entering.{outcome}
use Rattle.entering.specs.declared.outcome.Outcome.{Outcome}
use Rattle.steps.specs.Acting.{acts}
use Rattle.work.specs.Calls.{image_worked}
use Rattle.work.specs.Promises.{From}
use Rattle.work.specs.State.{Image, State, desk_in, state_in}
use Rattle.daybook.specs.declared.checker.Misplaced.{Misplaced}

-- why what may not be worked is refused
abbrev pub refusal_of : Answer Filing → Refusal
refusal_of absent = NotThere
refusal_of finished = Done
refusal_of (waits i) = Waits i
refusal_of (ready f) = Done

abbrev pub misplaced : ℕ → Refusal → Misplaced
misplaced place refusal = record { place = place; refusal = refusal }

-- as 'number 3 of the order: refused 9 at 0'
abbrev pub misplaced_text : Misplaced → List ℕ
misplaced_text m = codes "number " ++ (decimal m.place ++ (codes " of the order: refused " ++ refusal_text m.refusal))

-- the numbers from a place of the list on: allowed, or the first place where one would not be worked
unfoldable pub checking : ℕ → Desk Sheet Filing Outcome → ℕ → List ℕ → Result (Unit {0}) Misplaced
checking P d i [] = Ok tt
checking P d i (n ∷ ns) =
    cond (is_ready (acts P) (asked (acts P) d n)) (checking P (work (acts P) d n) (suc i) ns) (Err (misplaced i (refusal_of (asked (acts P) d n))))

-- what is worked of them: all before the first that would not be
unfoldable pub desk_checked : ℕ → Desk Sheet Filing Outcome → List ℕ → Desk Sheet Filing Outcome
desk_checked P d [] = d
desk_checked P d (n ∷ ns) = cond (is_ready (acts P) (asked (acts P) d n)) (desk_checked P (work (acts P) d n) ns) d

unfoldable pub image_checked : Image → List ℕ → Image
image_checked im [] = im
image_checked im (n ∷ ns) =
    cond (is_ready (acts im.parcels) (asked (acts im.parcels) (desk_in im) n)) (image_checked (image_worked n (asked (acts im.parcels) (desk_in im) n) im) ns) im

-- the register and the outcomes of the order of filing
pub record InOrderOfFiling (bytes : List ℕ) (s : State) : Type 0 where
  pub page : (p : ℕ) → s.desk.register p ≡ turn (acts s.parcels) (opened_page s.parcels bytes) s.desk.filed (length s.desk.filed) p
  pub outcomes :
      (n : ℕ) (f : Filing) → slice_get s.desk.filed n ≡ Some f →
      slice_get s.desk.marks n ≡ Some (Some (outcome s.parcels n f (turn (acts s.parcels) (opened_page s.parcels bytes) s.desk.filed n)))

pub record Checks (r : Result (Unit {0}) Misplaced) (order : List ℕ) (before after : Image) : Type 0 where
  pub answer : r ≡ checking before.parcels (desk_in before) 0 order
  pub image : after ≡ image_checked before order
  pub state : state_in after ≡ record { parcels = before.parcels; desk = desk_checked before.parcels (desk_in before) order }
  -- it is allowed just where work would take each number in turn
  pub allowed : is_ok r ≡ accepted (acts before.parcels) (desk_in before) order
  -- from an opening on, another list that is allowed and works the same filings leaves the same register and outcomes
  pub same :
      (bytes : List ℕ) (ys : List (Numbered Filing)) → From bytes ys (state_in before) → is_ok r ≡ true → (other : List ℕ) → accepted (acts before.parcels) (desk_in before) other ≡ true →
      ((n : ℕ) → among n other ≡ among n order) → worked_all (acts before.parcels) (desk_in before) other ≡ desk_in after
  -- and one that leaves none open leaves those of the order of filing
  pub whole : (bytes : List ℕ) (ys : List (Numbered Filing)) → From bytes ys (state_in before) → ((n : ℕ) → open_at (desk_in after) n ≡ false) → InOrderOfFiling bytes (state_in after)
