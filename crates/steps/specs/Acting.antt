-- Filings as acts on the register: what the general law of orders of work is used at. Assumes nothing.
use Rattle.std.specs.Prelude.{ℕ}
use Rattle.orders.specs.Steps.{Acts, Local}
use Rattle.entries.specs.Sheet.{Sheet}
use Rattle.filings.specs.Touches.{member, shares, touched_by}
use Rattle.filings.specs.declared.filing.Filing.{Filing}
use Rattle.entering.specs.Entering.{entered, outcome}
use Rattle.entering.specs.declared.outcome.Outcome.{Outcome}

-- in a register that was opened with P parcels
abbrev pub acts : ℕ → Acts Sheet Filing Outcome
acts P = record {
  touches = λ n f q. member q (touched_by P n f);
  shares = λ n f m g. shares (touched_by P n f) (touched_by P m g);
  outcome = λ n f r. outcome P n f r;
  step = λ n f r. entered P n f r;
}

-- A filing changes only pages that it touches, and what it does there and its outcome depend on those pages alone.
abbrev pub FilingsAreLocal : Type 0
FilingsAreLocal = (P : ℕ) → Local (acts P)
