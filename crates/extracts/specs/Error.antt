-- The text of why there is no extract. Assumes nothing.
use Rattle.std.specs.Prelude.{ℕ, List, ◌++◌, codes}
use Rattle.pages.specs.Refusal.{refusal_text}
use Rattle.extracts.specs.declared.error.ExtractError.{ExtractError}
use Rattle.extracts.specs.declared.error.ExtractError.TheVariants.{NoMemory, Refused}

-- as 'refused 11 at 0'
abbrev pub error_text : ExtractError → List ℕ
error_text (Refused refusal) = codes "refused " ++ refusal_text refusal
error_text NoMemory = codes "no memory for the extract"
