-- What lies in memory under the numbers below a count, as lists. Assumes nothing.
use Rattle.std.specs.Prelude.{ℕ, zero, suc, List, [], ◌∷◌, ◌++◌, Option, slice_index}
use Rattle.std.specs.Option.{option_to_list}
use Rattle.filings.specs.declared.filing.Filing.{Filing}
use Rattle.entering.specs.declared.outcome.Outcome.{Outcome}
use Rattle.work.specs.Marks.{mark_of}

-- the filings that are kept
unfoldable pub filed_in : (ℕ → Option Filing) → ℕ → List Filing
filed_in kept zero = []
filed_in kept (suc n) = filed_in kept n ++ option_to_list (kept n)

-- their marks
unfoldable pub marks_in : List ℕ → ℕ → List (Option Outcome)
marks_in ms zero = []
marks_in ms (suc n) = marks_in ms n ++ mark_of (slice_index ms n) ∷ []
