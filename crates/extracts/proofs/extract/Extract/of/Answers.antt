use Rattle.work.specs.State.{state_of}
use Rattle.extracts.proofs.Naming.{extracts}
use Rattle.extracts.proofs.extract.Extract.of.Goals as goal

pub returns : goal.returns
returns c = extracts (state_of c.args.registry.now) c.args.parcel _ c.in_ok-drawn.ensures
