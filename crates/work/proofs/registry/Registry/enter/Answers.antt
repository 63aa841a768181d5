-- The filing that may be worked has the number that was asked for, so its memory is there and the desk is as the rule says.
use Rattle.std.proofs.Common.{Ok, set, refl, ap, ◌∙◌, arith}
use Rattle.pages.specs.Register.{page_at}
use Rattle.filings.specs.Touches.{first_made}
use Rattle.entering.specs.Entering.{act, entered, outcome, words_after}
use Rattle.work.specs.Calls.{answered, image_worked}
use Rattle.work.specs.Marks.{mark_byte}
use Rattle.work.specs.State.{image_of, state_of}
use Rattle.work.proofs.Promises.{onward_worked}
use Rattle.work.proofs.Working.{state_entered, told_of}
use Rattle.work.proofs.registry.Registry.enter.Goals as goal

pub returns : goal.returns
returns c =
    let told = told_of _ _ _ _ c.requires.0 in
    let n = c.args.filed.number in
    let f = c.args.filed.filing in
    let im = image_of c.args.self.now in
    let within = c.requires.1 in
    let marked = c.args.self.now.marked in
    let after = c.enter.ensures in
    let pages = after.pages ∙ ap (λ P. words_after (act (first_made P n) n f (page_at im.pages)) im.pages) told.1 in
    let register = after.register ∙ ap (λ P. entered P n f (page_at im.pages)) told.1 in
    let marks = after.marks ∙ ap (λ P. set im.marks n (mark_byte (outcome P n f (page_at im.pages)))) told.1 in
    let state = state_entered im _ n f within (omega arith) told.0 register after.filings marks refl refl in
    record {
      answer = after.answer ∙ ap (λ P. Ok (outcome P n f (page_at im.pages))) told.1 ∙ ap (answered im.parcels n (page_at im.pages)) told.0;
      image = (λ i. record { pages = pages i; filings = after.filings i; marks = marks i; parcels = im.parcels; filed = im.filed }) ∙ ap (λ x. image_worked n x im) told.0;
      state = state;
      onward = onward_worked (state_of c.args.self.now) _ n state;
    }
