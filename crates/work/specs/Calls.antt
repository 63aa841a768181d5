-- What each call answers, and what it makes of the memory and of the state. What is refused changes nothing. Assumes nothing.
use Rattle.std.specs.Prelude.{◌≡◌, ℕ, ◌+◌, ◌<◌, ◌≤◌, cond, List, length, Some, Ok, Err, Result, nat_le, nat_lt, slice_set}
use Rattle.orders.specs.Desk.{Answer, absent, finished, waits, ready, filed_more, opened, work}
use Rattle.pages.specs.Opening.{opened_page, words_opened}
use Rattle.pages.specs.Register.{Register, page_at, room}
use Rattle.pages.specs.declared.refusal.Lent.TheVariants as lent
use Rattle.pages.specs.declared.refusal.Refusal.{Refusal}
use Rattle.pages.specs.declared.refusal.Refusal.TheVariants.{Done, NotThere, Short, Waits}
use Rattle.filings.specs.Keeping.{admitted, kept_in, put_slot, slot_of, slots_in}
use Rattle.filings.specs.Reading.{reading}
use Rattle.filings.specs.Touches.{first_made}
use Rattle.filings.specs.declared.filing.Filing.{Filing}
use Rattle.entering.specs.Entering.{act, outcome, words_after}
use Rattle.entering.specs.declared.outcome.Outcome.{Outcome}
use Rattle.steps.specs.Acting.{acts}
use Rattle.work.specs.Marks.{mark_byte}
use Rattle.work.specs.State.{Image, State}

-- OPENING

abbrev pub image_over : List ℕ → List ℕ → List ℕ → Image
image_over pages filings marks = record { pages = pages; filings = filings; marks = marks; parcels = 0; filed = 0 }

abbrev pub image_opened : Result (Unit {0}) Refusal → ℕ → List ℕ → Image → Image
image_opened (Err e) P bs im = im
image_opened (Ok u) P bs im = record {
  pages = words_opened (Ok u) P bs im.pages;
  filings = im.filings;
  marks = im.marks;
  parcels = P;
  filed = 0;
}

abbrev pub state_opened : Result (Unit {0}) Refusal → ℕ → List ℕ → State → State
state_opened (Err e) P bs s = s
state_opened (Ok u) P bs s = record { parcels = P; desk = opened (opened_page P bs) }

-- FILING

-- room for the pages that the next filing may make, for its slot and for its mark
abbrev pub lacks_room : Image → Result (Unit {0}) Refusal
lacks_room im =
    cond (nat_lt (room im.pages) (first_made im.parcels im.filed + 2)) (Err (Short lent.Pages))
    (cond (nat_le (slots_in im.filings) im.filed) (Err (Short lent.Filings))
    (cond (nat_le (length im.marks) im.filed) (Err (Short lent.Marks)) (Ok tt)))

abbrev pub then : {X Y : Type 0} → Result X Refusal → Result Y Refusal → Result Y Refusal
then (Err e) y = Err e
then (Ok x) y = y

-- but for a filing that there may not be
abbrev pub wants_room : Image → Result (Unit {0}) Refusal
wants_room im = cond (nat_lt im.filed 16384) (lacks_room im) (Ok tt)

-- memory first; then its bytes; then how many there are
abbrev pub taking_in : Image → List ℕ → Result Filing Refusal
taking_in im bs = then (wants_room im) (admitted im.filed (reading bs))

-- what comes in has room, and its slot will hold it
pub record Admits (im : Image) (bs : List ℕ) (f : Filing) : Type 0 where
  pub few : im.filed < 16384
  pub pages : first_made im.parcels im.filed + 2 ≤ room im.pages
  pub slot : im.filed < slots_in im.filings
  pub mark : im.filed < length im.marks
  pub kept : kept_in (slot_of bs) ≡ Some f

abbrev pub number_given : Image → Result Filing Refusal → Result ℕ Refusal
number_given im (Err e) = Err e
number_given im (Ok f) = Ok im.filed

abbrev pub image_filed : Result Filing Refusal → List ℕ → Image → Image
image_filed (Err e) bs im = im
image_filed (Ok f) bs im = record {
  pages = im.pages;
  filings = put_slot im.filings im.filed (slot_of bs);
  marks = slice_set im.marks im.filed 0;
  parcels = im.parcels;
  filed = im.filed + 1;
}

abbrev pub state_filed : Result Filing Refusal → State → State
state_filed (Err e) s = s
state_filed (Ok f) s = record { parcels = s.parcels; desk = filed_more s.desk f }

-- WORK

abbrev pub answered : ℕ → ℕ → Register → Answer Filing → Result Outcome Refusal
answered P n r absent = Err NotThere
answered P n r finished = Err Done
answered P n r (waits i) = Err (Waits i)
answered P n r (ready f) = Ok (outcome P n f r)

abbrev pub image_worked : ℕ → Answer Filing → Image → Image
image_worked n absent im = im
image_worked n finished im = im
image_worked n (waits i) im = im
image_worked n (ready f) im = record {
  pages = words_after (act (first_made im.parcels n) n f (page_at im.pages)) im.pages;
  filings = im.filings;
  marks = slice_set im.marks n (mark_byte (outcome im.parcels n f (page_at im.pages)));
  parcels = im.parcels;
  filed = im.filed;
}

abbrev pub state_worked : ℕ → State → State
state_worked n s = record { parcels = s.parcels; desk = work (acts s.parcels) s.desk n }
