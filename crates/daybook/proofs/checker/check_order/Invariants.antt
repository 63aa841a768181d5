use Rattle.std.proofs.Common.{drop}
use Rattle.work.specs.State.{image_of}
use Rattle.daybook.proofs.InTurn.{SoFar}
use Rattle.daybook.proofs.checker.check_order.Given as goal

-- the numbers before this place were worked
abbrev pub invariant-loop-place : goal.invariant-loop-place
invariant-loop-place l = SoFar (drop l.place-counter l.order) l.order l.place-counter (image_of l.initial.registry) (image_of l.registry)
