-- The text of a number that nothing has. Assumes nothing.
use Rattle.std.specs.Prelude.{ℕ, List, ◌++◌, codes, decimal}
use Rattle.pages.specs.declared.unknown.UnknownNumber.{UnknownNumber}

abbrev pub unknown_text : UnknownNumber → List ℕ
unknown_text e = codes "nothing has the number " ++ decimal e.0
