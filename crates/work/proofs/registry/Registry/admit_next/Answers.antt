-- What is refused changes nothing.
use Rattle.std.proofs.Common.{sym, ◌∙◌}
use Rattle.work.specs.State.{image_of}
use Rattle.work.proofs.Admits.{taken_in}
use Rattle.work.proofs.Promises.{not_filed}
use Rattle.work.proofs.registry.Registry.admit_next.Goals as goal

pub returns-clause-refuses : goal.returns-clause-refuses
returns-clause-refuses c =
    let wanted = sym c.room_for_next.ensures ∙ c.in_ok-room_for_next.was in
    not_filed (image_of c.args.self.now) c.args.bytes.now c.admit.result (taken_in (image_of c.args.self.now) c.args.bytes.now wanted c.admit.result c.admit.ensures.answer)
