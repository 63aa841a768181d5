use Rattle.std.proofs.Common.{◌≡◌, ap, ◌∙◌, arith}
use Rattle.pages.specs.Opening.{opened_words}
use Rattle.pages.specs.Register.{room}
use Rattle.pages.proofs.Openings.{opened_none, opened_more, opened_all}
use Rattle.pages.proofs.opening.write_opening.Goals as goal

pub loop-parcel-init : goal.loop-parcel-init
loop-parcel-init c = opened_none c.args.opening.parcels c.args.opening.pages.now c.args.words.now

pub loop-parcel-preserved : goal.loop-parcel-preserved
loop-parcel-preserved c =
    opened_more c.args.opening.parcels c.args.opening.pages.now c.args.words.now c.loop-parcel.parcel c.loop-parcel.words _ _ (omega arith) c.loop-parcel.invariant
    c.page.ensures (omega (arith, c.write_page.auto.words)) c.write_page.ensures.words c.write_page.ensures.register

pub returns : goal.returns
returns c =
    let last : c.loop-parcel.parcel ≡ room c.args.words.now = omega arith in
    record {
      words = c.loop-parcel.invariant.words ∙ ap (opened_words c.args.opening.parcels c.args.opening.pages.now c.args.words.now) last;
      register = opened_all c.args.opening.parcels c.args.opening.pages.now c.args.words.now c.loop-parcel.parcel c.loop-parcel.words last c.requires c.loop-parcel.invariant;
    }
