use Rattle.std.proofs.Common.{◌∙◌, ap}
use Rattle.entries.specs.Sheet.{sheet}
use Rattle.pages.specs.Register.{page_at}
use Rattle.pages.proofs.Registers.{page_put, put_there, room_left}
use Rattle.pages.proofs.register.write_page.Goals as goal

pub returns : goal.returns
returns c =
    let ws = c.args.words.now in
    let p = c.args.parcel in
    let s = sheet c.args.page in
    let m = c.page_start-start.ensures in
    let is = put_there ws p s _ m _ c.put_first.ensures.words in
    record { words = is; register = ap page_at is ∙ page_put ws p s (λ h. c.put_first.ensures.fits (room_left ws p s _ m h)) }
