-- The number, the place and the text of each refusal. Assumes nothing.
use Rattle.std.specs.Prelude.{ℕ, List, ◌++◌, codes, decimal}
use Rattle.pages.specs.declared.refusal.Lent.{Lent}
use Rattle.pages.specs.declared.refusal.Lent.TheVariants as lent
use Rattle.pages.specs.declared.refusal.Refusal.{Refusal}
use Rattle.pages.specs.declared.refusal.Refusal.TheVariants.{Parcels, Pages, Area, Kind, Length, Amount, Full, NotThere, Done, Waits, NoParcel, Short}

abbrev pub number_of : Refusal → ℕ
number_of Parcels = 1
number_of (Pages bytes) = 2
number_of (Area parcel) = 3
number_of Kind = 4
number_of (Length length) = 5
number_of (Amount byte) = 6
number_of Full = 7
number_of NotThere = 8
number_of Done = 9
number_of (Waits filing) = 10
number_of NoParcel = 11
number_of (Short part) = 12

abbrev pub lent_place : Lent → ℕ
lent_place lent.Pages = 0
lent_place lent.Filings = 1
lent_place lent.Marks = 2

abbrev pub place_of : Refusal → ℕ
place_of Parcels = 0
place_of (Pages bytes) = bytes
place_of (Area parcel) = parcel
place_of Kind = 0
place_of (Length length) = length
place_of (Amount byte) = byte
place_of Full = 0
place_of NotThere = 0
place_of Done = 0
place_of (Waits filing) = filing
place_of NoParcel = 0
place_of (Short part) = lent_place part

-- as '2 at 12'
abbrev pub refusal_text : Refusal → List ℕ
refusal_text r = decimal (number_of r) ++ (codes " at " ++ decimal (place_of r))
