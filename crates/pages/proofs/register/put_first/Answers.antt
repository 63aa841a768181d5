use Rattle.std.proofs.Common.{arith, refl}
use Rattle.entries.specs.Sheet.{sheet}
use Rattle.pages.proofs.Registers.{first_left, first_put}
use Rattle.pages.proofs.register.put_first.Goals as goal

pub returns-in-Some : goal.returns-in-Some
returns-in-Some c = record {
  words = first_put c.args.words.now (sheet c.args.page.now) c.in-Some.ensures.cases.enough _ _ c.put_words.ensures.words refl;
  fits = λ h. c.put_words.ensures.fits;
}

pub returns-in_default : goal.returns-in_default
returns-in_default c = record { words = first_left c.args.words.now (sheet c.args.page.now) c.in_default.ensures.cases; fits = λ h. let few = c.in_default.ensures.cases in absurd (omega arith) }
