use Rattle.std.proofs.Common.{arith}
use Rattle.std.proofs.lemmas.Grind.{common_steps}
use Rattle.work.specs.State.{image_of}
use Rattle.daybook.proofs.InTurn.{all_done, at_first, goes_on, stops}
use Rattle.daybook.proofs.checker.check_order.Goals as goal

pub loop-place-init : goal.loop-place-init
loop-place-init c = at_first c.args.order.now (image_of c.args.registry.now)

pub returns-in_err-map_err : goal.returns-in_err-map_err
returns-in_err-map_err c =
    let e = c.work.ensures in
    stops c.args.order.now (image_of c.args.registry.now) c.loop-place.place-counter (image_of c.loop-place.registry) c.loop-place.invariant
    c.loop-place-test.true (image_of c.work.new.self) c.work.result (record { answer = e.answer; image = e.image; state = e.state; onward = e.onward })
    c.from_residual.result (λ o was. grind (arith, common_steps)) (λ e was. grind (arith, common_steps))

pub loop-place-preserved : goal.loop-place-preserved
loop-place-preserved c =
    let e = c.work.ensures in
    goes_on c.args.order.now (image_of c.args.registry.now) c.loop-place.place-counter (image_of c.loop-place.registry) c.loop-place.invariant
    c.loop-place-test.true (image_of c.work.new.self) c.work.result (record { answer = e.answer; image = e.image; state = e.state; onward = e.onward })
    (λ e was. grind (arith, common_steps))

pub returns : goal.returns
returns c =
    all_done c.args.order.now (image_of c.args.registry.now) c.loop-place.place-counter (image_of c.loop-place.registry) c.loop-place.invariant
    c.loop-place-test.false
