-- The file that the programs read: what it is to say, and how it is taken apart. Assumes nothing.
use Rattle.std.specs.Prelude.{ℕ, zero, suc, ◌+◌, ◌-◌, ◌*◌, ◌/◌, ◌%◌, cond, List, [], ◌∷◌, ◌++◌, length, take, drop, Some, None, Ok, Err, Option, Result, ◌==◌, nat_le, nat_lt}
use Rattle.std.specs.Borrow.{Bor}
use Rattle.std.specs.List.{flat_map}
use Rattle.pages.specs.Bytes.{byte, two}
use Rattle.pages.specs.Opening.{checked}
use Rattle.pages.specs.declared.refusal.Refusal.{Refusal}
use Rattle.daybook.specs.declared.error.Missing.{Missing}
use Rattle.daybook.specs.declared.error.Missing.TheVariants.{Parcels, End, Filing, Number}
use Rattle.daybook.specs.declared.error.Malformed.{Malformed}
use Rattle.daybook.specs.declared.error.FileError.{FileError}
use Rattle.daybook.specs.declared.error.FileError.TheVariants as fault
use Rattle.daybook.specs.declared.file.DayBook.{DayBook}
use Rattle.daybook.specs.declared.rows.Filings.{Filings}
use Rattle.daybook.specs.declared.rows.Numbers.{Numbers}

-- what a file says
pub record Parts : Type 0 where
  pub parcels : ℕ
  -- 8 bytes a page
  pub pages : List ℕ
  -- the bytes of each filing
  pub filings : List (List ℕ)
  -- numbers of filings
  pub order : List ℕ

-- THE FORMAT

abbrev pub two_bytes : ℕ → List ℕ
two_bytes n = n % 256 ∷ n / 256 ∷ []

abbrev pub after_length : List ℕ → List ℕ
after_length filing = length filing ∷ filing

abbrev pub written : Parts → List ℕ
written p = two_bytes p.parcels ++ (p.pages ++ (flat_map after_length p.filings ++ 0 ∷ flat_map two_bytes p.order))

-- READING IT

-- the filings in a row of bytes, at most n of them
abbrev pub cut : ℕ → List ℕ → List (List ℕ)
cut zero bs = []
cut (suc n) [] = []
cut (suc n) (b ∷ bs) = take b bs ∷ cut n (drop b bs)

abbrev pub first_filing : List ℕ → Option (List ℕ × List ℕ)
first_filing [] = None
first_filing (b ∷ bs) = Some (take b bs, drop b bs)

abbrev pub two_parts : Bor (List ℕ) × Bor (List ℕ) → List ℕ × List ℕ
two_parts x = (x.0.now, x.1.now)

abbrev pub filings_in : List ℕ → List (List ℕ)
filings_in bs = cut (length bs) bs

abbrev pub numbers_in : List ℕ → List ℕ
numbers_in [] = []
numbers_in (a ∷ []) = []
numbers_in (a ∷ b ∷ bs) = (a + b * 256) ∷ numbers_in bs

-- what the iterators have left
abbrev pub filings_left : Filings → List (List ℕ)
filings_left it = filings_in it.rest.now

abbrev pub numbers_left : Numbers → List ℕ
numbers_left it = numbers_in it.rest.now

-- what the code has taken apart
abbrev pub parts : DayBook → Parts
parts d = record { parcels = d.opening.parcels; pages = d.opening.pages.now; filings = filings_in d.filings.now; order = numbers_in d.order.now }

abbrev pub malformed : Missing → ℕ → Malformed
malformed what place = record { lacks = what; at = place }

-- where the byte 0 after the filings stands, if they begin at a place; at most n of them are passed over
abbrev pub end_from : ℕ → List ℕ → ℕ → Result ℕ Malformed
end_from zero bs place = Err (malformed End (length bs))
end_from (suc n) bs place =
    cond (nat_le (length bs) place) (Err (malformed End (length bs)))
    (cond (byte bs place == 0) (Ok place)
    (cond (nat_le (length bs - place) (byte bs place)) (Err (malformed Filing place)) (end_from n bs (place + (1 + byte bs place)))))

-- the first page begins behind the number of parcels
abbrev pub pages_in : List ℕ → List ℕ
pages_in bs = take (8 * two bs 0) (drop 2 bs)

abbrev pub filings_start : List ℕ → ℕ
filings_start bs = 2 + 8 * two bs 0

-- what is read once the filings are known to end at a place; the order is whole numbers
abbrev pub parts_to : List ℕ → ℕ → Parts
parts_to bs end = record {
  parcels = two bs 0;
  pages = pages_in bs;
  filings = filings_in (take (end - filings_start bs) (drop (filings_start bs) bs));
  order = numbers_in (drop (end + 1) bs);
}

abbrev pub read_to : List ℕ → Result ℕ Malformed → Result Parts FileError
read_to bs (Err m) = Err (fault.Malformed m)
read_to bs (Ok end) =
    cond ((length bs - (end + 1)) % 2 == 0) (Ok (parts_to bs end))
    (Err (fault.Malformed (malformed Number (length bs - 1))))

-- the opening is looked at before the rest
abbrev pub unless_refused : Result (Unit {0}) Refusal → Result Parts FileError → Result Parts FileError
unless_refused (Err r) rest = Err (fault.Refused r)
unless_refused (Ok u) rest = rest

abbrev pub reading : List ℕ → Result Parts FileError
reading bs =
    cond (nat_lt (length bs) 2) (Err (fault.Malformed (malformed Parcels (length bs))))
    (unless_refused (checked (two bs 0) (pages_in bs)) (read_to bs (end_from (length bs) bs (filings_start bs))))

-- A FILE FOR AN EXTRACT

-- a day book as it was taken apart, in bytes
pub record Bytes : Type 0 where
  pub parcels : ℕ
  pub pages : List ℕ
  pub filings : List ℕ
  pub order : List ℕ

abbrev pub bytes_of : DayBook → Bytes
bytes_of d = record { parcels = d.opening.parcels; pages = d.opening.pages.now; filings = d.filings.now; order = d.order.now }

-- the last number is no part of the order: it is the parcel
abbrev pub last_taken : Bytes → Option (Bytes × ℕ)
last_taken b =
    cond (nat_lt (length b.order) 2) None
    (Some (record { parcels = b.parcels; pages = b.pages; filings = b.filings; order = take (length b.order - 2) b.order }, two (drop (length b.order - 2) b.order) 0))

abbrev pub bytes_and_parcel : DayBook × ℕ → Bytes × ℕ
bytes_and_parcel x = (bytes_of x.0, x.1)
