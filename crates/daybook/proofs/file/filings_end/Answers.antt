use Rattle.std.proofs.Common.{◌≡◌, ◌∷◌, ◌≤◌, length, drop, subst, refl, arith}
use Rattle.std.proofs.lemmas.Grind.{common_steps}
use Rattle.daybook.proofs.Ends.{Left, first_left, goes_on}
use Rattle.daybook.proofs.file.filings_end.Goals as goal

pub loop-length-init : goal.loop-length-init
loop-length-init c =
    rw c.unwrap_or-rest.ensures (first_left c.args.bytes.now c.args.start c.get.result _ refl (λ none. grind (arith, common_steps)) (λ x some. (grind (arith, common_steps), grind (arith, common_steps))))

pub loop-length-preserved : goal.loop-length-preserved
loop-length-preserved c =
    let whole : c.loop-length.rest.now ≡ c.in-Some.field-0-0.now ∷ c.in-Some.behind.now = grind (arith, common_steps) in
    let within : c.in-Some.field-0-0.now ≤ length c.in-Some.behind.now = grind (arith, common_steps) in
    let next : drop c.in-Some.field-0-0.now c.in-Some.behind.now ≡ c.in_ok-rest.rest.now = grind (arith, common_steps) in
    subst (Left c.args.bytes.now c.args.start) next
    (goes_on c.args.bytes.now c.args.start c.in-Some.field-0-0.now c.in-Some.behind.now (subst (Left c.args.bytes.now c.args.start) whole c.loop-length.invariant) c.if-length-eq0.false within)
