-- The laws as they are proved in Pages.
use Rattle.steps.proofs.Pages.{whole_pages}
use Rattle.steps.proofs.laws.whole_pages.Goals as goal

pub returns : goal.returns
returns c = whole_pages
