-- What an opening is refused for. Assumes nothing.
use Rattle.std.specs.Prelude.{ℕ, zero, suc, ◌+◌, ◌*◌, Bool, true, cond, ◌&&◌, ◌||◌, List, length, Ok, Err, Result, ◌==◌, nat_le, nat_lt}
use Rattle.entries.specs.Rank.{vacant_sheet}
use Rattle.pages.specs.Bytes.{four}
use Rattle.pages.specs.Register.{Register, no_page, room, put_page}
use Rattle.pages.specs.declared.refusal.Lent.TheVariants as lent
use Rattle.pages.specs.declared.refusal.Refusal.{Refusal}
use Rattle.pages.specs.declared.refusal.Refusal.TheVariants.{Parcels, Pages, Area, Short}

-- an area is 1 to 1,000,000,000 square metres
abbrev pub fits : ℕ → Bool
fits area = nat_le 1 area && nat_le area 1000000000

-- a page of an opening is its owner in four bytes and its area in four
abbrev pub owner_in : List ℕ → ℕ → ℕ
owner_in bs parcel = four bs (8 * parcel)

abbrev pub area_in : List ℕ → ℕ → ℕ
area_in bs parcel = four bs (8 * parcel + 4)

-- the areas of n parcels from one on: refused at the first that does not fit
abbrev pub areas_checked : List ℕ → ℕ → ℕ → Result (Unit {0}) Refusal
areas_checked bs parcel zero = Ok tt
areas_checked bs parcel (suc n) = cond (fits (area_in bs parcel)) (areas_checked bs (suc parcel) n) (Err (Area parcel))

-- P, then the number of pages, then their areas
abbrev pub checked : ℕ → List ℕ → Result (Unit {0}) Refusal
checked parcels bs =
    cond (parcels == 0 || nat_lt 1024 parcels) (Err Parcels)
    (cond (length bs == 8 * parcels) (areas_checked bs 0 parcels) (Err (Pages (length bs))))

-- the register of an opening: each parcel is live, with its owner and its area, and no entries
abbrev pub opened_page : ℕ → List ℕ → Register
opened_page parcels bs p = cond (nat_lt p parcels) (vacant_sheet true (owner_in bs p) (area_in bs p)) no_page

-- the first n pages of some words written so, whatever lay there
unfoldable pub opened_words : ℕ → List ℕ → List ℕ → ℕ → List ℕ
opened_words parcels bs ws zero = ws
opened_words parcels bs ws (suc n) = put_page (opened_words parcels bs ws n) n (opened_page parcels bs n)

-- room for the parcels is looked at before all else
abbrev pub opening : ℕ → List ℕ → List ℕ → Result (Unit {0}) Refusal
opening parcels bs ws = cond (nat_lt (room ws) parcels) (Err (Short lent.Pages)) (checked parcels bs)

-- what is refused changes nothing; else all pages that there is room for are written
abbrev pub words_opened : Result (Unit {0}) Refusal → ℕ → List ℕ → List ℕ → List ℕ
words_opened (Err r) parcels bs ws = ws
words_opened (Ok u) parcels bs ws = opened_words parcels bs ws (room ws)

abbrev pub register_opened : Result (Unit {0}) Refusal → ℕ → List ℕ → Register → Register
register_opened (Err r) parcels bs before = before
register_opened (Ok u) parcels bs before = opened_page parcels bs
