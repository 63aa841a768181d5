-- The mark of a filing in a byte, and back; a byte that is no mark reads as the last reason. Assumes nothing.
use Rattle.std.specs.Prelude.{ℕ, ◌+◌, cond, Some, None, Option, ◌==◌}
use Rattle.entering.specs.Outcome.{reason_of}
use Rattle.entering.specs.declared.outcome.Outcome.{Outcome}
use Rattle.entering.specs.declared.outcome.Outcome.TheVariants.{Entered, Rejected}
use Rattle.entering.specs.declared.outcome.Rejection.TheVariants.{NotLive, NotOwner, NoEntry, Area, Itself, Unlike, Full}

abbrev pub mark_byte : Outcome → ℕ
mark_byte Entered = 1
mark_byte (Rejected k) = 1 + reason_of k

abbrev pub mark_of : ℕ → Option Outcome
mark_of b =
    cond (b == 0) None
    (cond (b == 1) (Some Entered)
    (cond (b == 2) (Some (Rejected NotLive))
    (cond (b == 3) (Some (Rejected NotOwner))
    (cond (b == 4) (Some (Rejected NoEntry))
    (cond (b == 5) (Some (Rejected Area))
    (cond (b == 6) (Some (Rejected Itself))
    (cond (b == 7) (Some (Rejected Unlike)) (Some (Rejected Full)))))))))
