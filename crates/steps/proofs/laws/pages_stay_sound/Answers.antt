-- The law as it is proved in Sound.
use Rattle.steps.proofs.Sound.{stays_sound}
use Rattle.steps.proofs.laws.pages_stay_sound.Goals as goal

pub returns : goal.returns
returns c = stays_sound
