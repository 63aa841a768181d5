use Rattle.std.proofs.Common.{◌≡◌, ◌∙◌, ap, get_or, drop, length, arith, rules}
use Rattle.std.proofs.lemmas.Grind.{common_steps}
use Rattle.std.proofs.lemmas.List.{drop_all, get_or-take, length-take-le}
use Rattle.pages.specs.Bytes.{byte}
use Rattle.pages.proofs.Made.{from_rest, made_at}
use Rattle.pages.proofs.bytes.bytes_at.Goals as goal

pub returns-in-Some : goal.returns-in-Some
returns-in-Some g c =
    let rest = c.unwrap_or-rest.result.now in
    let chunk = c.in-Some.ensures.cases in
    let is : rest ≡ drop c.args.at c.args.bytes.now = let past = drop_all c.args.at c.args.bytes.now in grind (arith, common_steps) in
    from_rest c.args.bytes.now _ c.args.at _ rest is (ap length chunk.same ∙ length-take-le _ rest chunk.enough) (λ i h. ap (λ l. get_or l i 0) chunk.same ∙ get_or-take _ rest i 0 h)

pub returns-in-None : goal.returns-in-None
returns-in-None g c =
    let rest = c.unwrap_or-rest.result.now in
    let made = c.from_fn.ensures.items in
    let is : rest ≡ drop c.args.at c.args.bytes.now = let past = drop_all c.args.at c.args.bytes.now in grind (arith, common_steps) in
    let each = made_at _ _ (λ i y. y ≡ byte rest i) (λ p q i y e k. let met = k.met in (search rules, search rules)) _ 0 _ made in
    from_rest c.args.bytes.now _ c.args.at _ rest is made.long each
