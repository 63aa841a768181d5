-- From an opening on, by induction over the order of filing. Assumes nothing.
use Rattle.std.proofs.Common.{ℕ, zero, suc, ◌+◌, ◌*◌, ◌<◌, ◌≤◌, List, sym, refl, ◌∙◌, subst, arith}
use Rattle.orders.proofs.Places.{nth_there}
use Rattle.orders.specs.Desk.{stepped, turn}
use Rattle.pages.specs.Opening.{opened_page}
use Rattle.pages.specs.Register.{Register}
use Rattle.filings.specs.declared.filing.Filing.{Filing}
use Rattle.entering.specs.Entering.{entered}
use Rattle.steps.specs.Acting.{acts}
use Rattle.steps.specs.Run.{Well, FromAnOpeningOn}
use Rattle.steps.proofs.Areas.{land_kept}
use Rattle.steps.proofs.Opening.{opens_well}
use Rattle.steps.proofs.Sound.{stays_sound}

-- one filing on
well_more : (P k : ℕ) (bytes : List ℕ) (f : Filing) (r : Register) → Well P k bytes r → Well P (suc k) bytes (entered P k f r)
well_more P k bytes f r well =
    let kept = λ (m : ℕ) (h : P + 2 * suc k ≤ m).
    let before = well.small m (omega arith) in
    land_kept.from_opening P k f r m (omega arith) well.live (omega arith)
    in
    record {
      sound = stays_sound P k f r well.sound;
      live = land_kept.yet_to_be_made P k f r well.live;
      land = λ m h. kept m h ∙ well.land m (omega arith);
      small = λ m h. subst (λ n. n < 9007199254740992) (sym (kept m h)) (well.small m (omega arith));
    }

pub from_an_opening_on : FromAnOpeningOn
unfolding turn
from_an_opening_on P bytes fs zero good h = record {
  sound = opens_well.sound P bytes;
  live = λ p l. let low = opens_well.live P bytes p l in omega arith;
  land = λ m l. refl;
  small = λ m l. opens_well.land P bytes good m;
}
from_an_opening_on P bytes fs (suc k) good h =
    let at = nth_there fs k h in
    subst (λ o. Well P (suc k) bytes (stepped (acts P) k o (turn (acts P) (opened_page P bytes) fs k))) (sym at.1)
    (well_more P k bytes at.0 (turn (acts P) (opened_page P bytes) fs k) (from_an_opening_on P bytes fs k good (omega arith)))
