use Rattle.std.proofs.Common.{◌∙◌, arith}
use Rattle.entries.specs.Sheet.{sheet}
use Rattle.pages.proofs.Writing.{sheet_written}
use Rattle.pages.proofs.words.put_words.Goals as goal

pub returns : goal.returns
returns c = record {
  words =
      sheet_written (sheet c.args.page.now) _ _ _ (omega arith) (c.copy_from_slice.ensures.after ∙ c.head_words.ensures.words)
      (c.copy_from_slice-2.ensures.after ∙ c.as_flattened.ensures.value ∙ c.places_of.ensures.words);
  fits = record { owner = c.head_words.ensures.fits; few = c.head_words.ensures.few; entries = c.places_of.ensures.fits };
}
