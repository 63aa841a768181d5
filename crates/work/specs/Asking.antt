-- What the registry answers to whoever asks to work a number. Assumes nothing.
use Rattle.std.specs.Prelude.{ℕ, Ok, Err, Result}
use Rattle.orders.specs.Desk.{Answer, absent, asked, finished, ready, waits}
use Rattle.pages.specs.declared.refusal.Refusal.{Refusal}
use Rattle.pages.specs.declared.refusal.Refusal.TheVariants.{Done, NotThere, Waits}
use Rattle.filings.specs.declared.filed.Filed.{Filed}
use Rattle.filings.specs.declared.filing.Filing.{Filing}
use Rattle.steps.specs.Acting.{acts}
use Rattle.work.specs.State.{Image, desk_in, numbered}

-- the answer of the desk by the clerks' rule
abbrev pub answer_to : Image → ℕ → Answer Filing
answer_to im n = asked (acts im.parcels) (desk_in im) n

-- as it is told: a refusal, or the filing that may be worked
abbrev pub told : ℕ → ℕ → Answer Filing → Result Filed Refusal
told P n absent = Err NotThere
told P n finished = Err Done
told P n (waits i) = Err (Waits i)
told P n (ready f) = Ok (numbered P n f)
