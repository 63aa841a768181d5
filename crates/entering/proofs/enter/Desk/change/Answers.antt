-- What the act made is what is written.
use Rattle.std.proofs.Common.{rules, Ok, Err}
use Rattle.entering.proofs.enter.Desk.change.Goals as goal

pub returns-in_err-made : goal.returns-in_err-made
returns-in_err-made g c =
    rw c.in_ok-page.ensures.live (record { page = c.in_ok-page.page; made = Err c.in_err-made.field-0.0; was = c.in_ok-page.ensures.read; acts = search rules; done = search rules })

pub returns : goal.returns
returns g c =
    rw c.in_ok-page.ensures.live (record { page = c.in_ok-page.page; made = Ok c.in_ok-made.made; was = c.in_ok-page.ensures.read; acts = search rules; done = search rules })
