-- Who is told of a filing may work it. Assumes nothing.
use Rattle.std.proofs.Common.{◌≡◌, ℕ, is_ok, refl}
use Rattle.orders.specs.Desk.{Answer, absent, finished, is_ready, ready, waits}
use Rattle.filings.specs.declared.filing.Filing.{Filing}
use Rattle.steps.specs.Acting.{acts}
use Rattle.work.specs.Asking.{told}

pub told_ready : (P n : ℕ) (x : Answer Filing) → is_ok (told P n x) ≡ is_ready (acts P) x
told_ready P n absent = refl
told_ready P n finished = refl
told_ready P n (waits i) = refl
told_ready P n (ready f) = refl
