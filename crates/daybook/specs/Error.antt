-- What is said of a file that is not worked. Assumes nothing.
use Rattle.std.specs.Prelude.{ℕ, List, ◌++◌, codes, decimal}
use Rattle.pages.specs.Refusal.{refusal_text}
use Rattle.daybook.specs.declared.error.Missing.{Missing}
use Rattle.daybook.specs.declared.error.Missing.TheVariants.{Parcels, End, Filing, Number, Parcel}
use Rattle.daybook.specs.declared.error.Malformed.{Malformed}
use Rattle.daybook.specs.declared.error.FileError.{FileError}
use Rattle.daybook.specs.declared.error.FileError.TheVariants as fault

abbrev pub missing_text : Missing → List ℕ
missing_text Parcels = codes "the number of parcels is cut off"
missing_text End = codes "no byte 0 after the filings"
missing_text Filing = codes "a filing is cut off"
missing_text Number = codes "half a number in the order of work"
missing_text Parcel = codes "no parcel behind the order of work"

-- as 'a filing is cut off at byte 18'
abbrev pub malformed_text : Malformed → List ℕ
malformed_text m = missing_text m.lacks ++ (codes " at byte " ++ decimal m.at)

-- as 'opening refused 2 at 12', or 'malformed file: a filing is cut off at byte 18'
abbrev pub file_error_text : FileError → List ℕ
file_error_text (fault.Refused refusal) = codes "opening refused " ++ refusal_text refusal
file_error_text (fault.Malformed malformed) = codes "malformed file: " ++ malformed_text malformed
