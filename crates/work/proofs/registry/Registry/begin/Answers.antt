use Rattle.std.proofs.Common.{refl}
use Rattle.work.specs.State.{image_of}
use Rattle.work.proofs.Promises.{begun}
use Rattle.work.proofs.registry.Registry.begin.Goals as goal

pub returns : goal.returns
returns c = record { image = refl; begun = λ bytes pages checked. begun c.args.parcels bytes (image_of c.args.self.now) _ refl pages checked }
