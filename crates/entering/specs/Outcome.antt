-- The number of each reason for a rejection, and what comes of a filing that is entered or not. Assumes nothing.
use Rattle.std.specs.Prelude.{ℕ, cond, Some, None, Option, Ok, Err, Result, ◌==◌}
use Rattle.entering.specs.declared.outcome.Outcome.{Outcome}
use Rattle.entering.specs.declared.outcome.Outcome.TheVariants.{Entered, Rejected}
use Rattle.entering.specs.declared.outcome.Rejection.{Rejection}
use Rattle.entering.specs.declared.outcome.Rejection.TheVariants.{NotLive, NotOwner, NoEntry, Area, Itself, Unlike, Full}

abbrev pub reason_of : Rejection → ℕ
reason_of NotLive = 1
reason_of NotOwner = 2
reason_of NoEntry = 3
reason_of Area = 4
reason_of Itself = 5
reason_of Unlike = 6
reason_of Full = 7

abbrev pub reason_numbered : ℕ → Option Rejection
reason_numbered n =
    cond (n == 1) (Some NotLive)
    (cond (n == 2) (Some NotOwner)
    (cond (n == 3) (Some NoEntry)
    (cond (n == 4) (Some Area)
    (cond (n == 5) (Some Itself)
    (cond (n == 6) (Some Unlike)
    (cond (n == 7) (Some Full) None))))))

-- what comes of a filing, whatever is made where it is entered
abbrev pub verdict : {X : Type 0} → Result X Rejection → Outcome
verdict (Ok x) = Entered
verdict (Err k) = Rejected k
