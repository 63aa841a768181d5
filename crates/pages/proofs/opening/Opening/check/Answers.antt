use Rattle.std.proofs.Common.{◌≡◌, ◌∙◌, not, sym, refl, ap, arith, rules, tests, Ok, Err}
use Rattle.std.proofs.lemmas.Iterator.{YieldsList-from_range}
use Rattle.std.proofs.lemmas.Iterator.Search.{find_from_yields_List}
use Rattle.std.specs.Option.{option_map, option_map_or}
use Rattle.pages.specs.Opening.{fits, area_in, areas_checked, checked}
use Rattle.pages.specs.declared.refusal.Refusal.TheVariants.{Area}
use Rattle.pages.proofs.Openings.{areas_found}
use Rattle.pages.proofs.opening.Opening.check.Goals as goal

pub returns : goal.returns
returns c =
    let bs = c.args.self.pages.now in
    let n = c.args.self.parcels in
    let refused : c.map_or.result ≡ option_map_or (λ p. Err (Area p)) (option_map (λ p. p) c.find-unfit.result) (Ok tt) = search rules in
    let whole : checked c.args.self.parcels bs ≡ areas_checked bs 0 n = search rules in
    refused ∙ ap (λ o. option_map_or (λ p. Err (Area p)) o (Ok tt))
    (find_from_yields_List (λ p. not (fits (area_in bs p))) _ _ c.find-unfit.result c.find-unfit.ensures.ran (YieldsList-from_range 0 n n refl (omega arith)) (λ x b q k. search (rules, tests))) ∙ areas_found bs 0 n ∙ sym whole
