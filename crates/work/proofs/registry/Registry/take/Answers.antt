use Rattle.std.proofs.Common.{◌+◌, refl, ap, ◌∙◌}
use Rattle.work.specs.Calls.{image_filed, number_given, state_filed}
use Rattle.work.specs.State.{image_of, state_of}
use Rattle.work.proofs.Admits.{state_one_more}
use Rattle.work.proofs.Promises.{onward_filed}
use Rattle.work.proofs.registry.Registry.take.Goals as goal

pub returns : goal.returns
returns c =
    let e = c.requires.0 in
    let filed = state_one_more (image_of c.args.self.now) _ c.args.bytes.now _ c.requires.1 c.keep.ensures.pages c.keep.ensures.kept c.keep.ensures.marks refl refl in
    record {
      answer = ap (number_given (image_of c.args.self.now)) e;
      image = (λ i. record {
        pages = c.keep.ensures.pages i;
        filings = c.keep.ensures.filings i;
        marks = c.keep.ensures.marks i;
        parcels = c.args.self.now.parcels;
        filed = c.args.self.now.filed + 1;
      }) ∙ ap (λ x. image_filed x c.args.bytes.now (image_of c.args.self.now)) e;
      state = filed ∙ ap (λ x. state_filed x (state_of c.args.self.now)) e;
      onward = onward_filed (state_of c.args.self.now) _ c.args.filing filed;
    }
