-- What is promised of the format: a file is read as what it says, and nothing else is read. Assumes nothing.
use Rattle.std.specs.Prelude.{◌≡◌, ℕ, ◌<◌, List, length, Ok}
use Rattle.std.specs.List.{AllByRecursion}
use Rattle.pages.specs.Opening.{checked}
use Rattle.daybook.specs.File.{Parts, written, reading}

-- whatever a good opening, filings of one byte and more and an order are, the file that says them is read as them
abbrev pub ReadsWhatIsWritten : Type 0
ReadsWhatIsWritten =
    (p : Parts) → checked p.parcels p.pages ≡ Ok tt → AllByRecursion (λ filing. 0 < length filing) p.filings → reading (written p) ≡ Ok p

-- and bytes that are read are the file that says what was read
abbrev pub WrittenIfRead : Type 0
WrittenIfRead = (bs : List ℕ) (p : Parts) → AllByRecursion (λ b. b < 256) bs → reading bs ≡ Ok p → written p ≡ bs
