-- The state of a registry, and the memory that it lies in. Assumes nothing.
use Rattle.std.specs.Prelude.{ℕ, List}
use Rattle.orders.specs.Desk.{Desk}
use Rattle.entries.specs.Sheet.{Sheet}
use Rattle.filings.specs.Keeping.{kept_at}
use Rattle.filings.specs.declared.filed.Filed.{Filed}
use Rattle.filings.specs.declared.filing.Filing.{Filing}
use Rattle.pages.specs.Register.{page_at}
use Rattle.entering.specs.declared.outcome.Outcome.{Outcome}
use Rattle.work.specs.Listed.{filed_in, marks_in}
use Rattle.work.specs.declared.registry.Registry.{Registry}

-- the three parts of the memory as they lie, and the two counts
pub record Image : Type 0 where
  pub pages : List ℕ
  pub filings : List ℕ
  pub marks : List ℕ
  pub parcels : ℕ
  pub filed : ℕ

abbrev pub image_of : Registry → Image
image_of r = record {
  pages = r.memory.pages.now;
  filings = r.memory.filings.now;
  marks = r.memory.marks.now;
  parcels = r.parcels;
  filed = r.filed;
}

-- the pages, what was filed, and what came of it
abbrev pub desk_in : Image → Desk Sheet Filing Outcome
desk_in i = record {
  register = page_at i.pages;
  filed = filed_in (kept_at i.filings) i.filed;
  marks = marks_in i.marks i.filed;
}

pub record State : Type 0 where
  -- at the opening
  pub parcels : ℕ
  pub desk : Desk Sheet Filing Outcome

abbrev pub state_in : Image → State
state_in i = record { parcels = i.parcels; desk = desk_in i }

abbrev pub state_of : Registry → State
state_of r = state_in (image_of r)

-- a filing under its number, in a register that was opened with P parcels
abbrev pub numbered : ℕ → ℕ → Filing → Filed
numbered P n f = record { parcels = P; number = n; filing = f }
