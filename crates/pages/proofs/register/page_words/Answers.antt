use Rattle.pages.proofs.Registers.{page_got}
use Rattle.pages.proofs.register.page_words.Goals as goal

pub returns : goal.returns
returns c = page_got c.args.words.now c.args.parcel c.as_chunks.result.0.now c.get.result c.as_chunks.ensures.front c.as_chunks.ensures.front_len c.get.ensures.lookup
