-- The seven filings, by computation. Assumes nothing.
use Rattle.std.proofs.Common.{◌≡◌, ℕ, zero, suc, ◌<◌, refl, arith}
use Rattle.entries.specs.Rank.{any, changed, yielded}
use Rattle.entering.specs.Entering.{entered, outcome}
use Rattle.entering.specs.declared.outcome.Outcome.TheVariants.{Entered}
use Rattle.steps.specs.Example.{Example, after, filing}

all_entered : (n : ℕ) → n < 7 → outcome 2 n (filing n) (after n) ≡ Entered
unfolding entered outcome any changed yielded
all_entered zero l = refl
all_entered (suc zero) l = refl
all_entered (suc (suc zero)) l = refl
all_entered (suc (suc (suc zero))) l = refl
all_entered (suc (suc (suc (suc zero)))) l = refl
all_entered (suc (suc (suc (suc (suc zero))))) l = refl
all_entered (suc (suc (suc (suc (suc (suc zero)))))) l = refl
all_entered (suc (suc (suc (suc (suc (suc (suc n))))))) l = absurd (omega arith)

pub example : Example
unfolding entered any changed yielded
example = record {
  outcomes = all_entered;
  charged = refl;
  reserved = refl;
  charged_again = refl;
  transferred = refl;
  filled = refl;
  postponed = refl;
  closed = refl;
  part = refl;
  rest = refl;
  untouched = refl;
}
