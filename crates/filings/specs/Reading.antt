-- The bytes of a filing: its kind, then its fields, low byte first. Assumes nothing.
use Rattle.std.specs.Prelude.{ℕ, ◌≤◌, cond, List, length, Some, None, Ok, Err, Option, Result, ◌==◌, nat_le}
use Rattle.pages.specs.Bytes.{byte, eight, four, two}
use Rattle.pages.specs.declared.refusal.Refusal.{Refusal}
use Rattle.pages.specs.declared.refusal.Refusal.TheVariants as refusal
use Rattle.filings.specs.Kind.{kind_numbered, length_of}
use Rattle.filings.specs.declared.filing.Filing.{Filing}
use Rattle.filings.specs.declared.filing.Filing.TheVariants as filing
use Rattle.filings.specs.declared.kind.Kind.{Kind}
use Rattle.filings.specs.declared.kind.Kind.TheVariants.{Transfer, Charge, Reserve, Fill, Release, Postpone, Subdivide, Merge}

-- the empty filing has no kind: its first byte counts as 0
abbrev pub kind_in : List ℕ → Option Kind
kind_in bs = kind_numbered (byte bs 0)

abbrev pub at_most : ℕ → ℕ → Option ℕ
at_most most n = cond (nat_le n most) (Some n) None

-- an amount is at most 10^15, an area at most 1,000,000,000; what is larger is refused at its first byte
abbrev pub limited : ℕ → Option ℕ → (ℕ → Filing) → Result Filing Refusal
limited at None f = Err (refusal.Amount at)
limited at (Some n) f = Ok (f n)

abbrev pub fields : Kind → List ℕ → Result Filing Refusal
fields Transfer bs = Ok (filing.Transfer (two bs 1) (four bs 3) (four bs 7))
fields Charge bs = limited 11 (at_most 1000000000000000 (eight bs 11)) (filing.Charge (two bs 1) (four bs 3) (four bs 7))
fields Reserve bs = Ok (filing.Reserve (two bs 1) (four bs 3) (four bs 7))
fields Fill bs = limited 13 (at_most 1000000000000000 (eight bs 13)) (filing.Fill (two bs 1) (four bs 3) (four bs 7) (two bs 11))
fields Release bs = Ok (filing.Release (two bs 1) (four bs 3) (two bs 7))
fields Postpone bs = Ok (filing.Postpone (two bs 1) (four bs 3) (two bs 7))
fields Subdivide bs = limited 7 (at_most 1000000000 (four bs 7)) (filing.Subdivide (two bs 1) (four bs 3))
fields Merge bs = Ok (filing.Merge (two bs 1) (two bs 3) (four bs 5))

-- the length is looked at once the kind is known, the fields once the length is right
abbrev pub of_kind : Option Kind → List ℕ → Result Filing Refusal
of_kind None bs = Err refusal.Kind
of_kind (Some kind) bs = cond (length bs == length_of kind) (fields kind bs) (Err (refusal.Length (length bs)))

abbrev pub reading : List ℕ → Result Filing Refusal
reading bs = of_kind (kind_in bs) bs

-- what the limits come to, in a filing that was read
abbrev pub WithinLimits : Filing → Type 0
WithinLimits (filing.Transfer parcel owner to) = Unit {0}
WithinLimits (filing.Charge parcel owner holder amount) = amount ≤ 1000000000000000
WithinLimits (filing.Reserve parcel owner holder) = Unit {0}
WithinLimits (filing.Fill parcel owner holder number amount) = amount ≤ 1000000000000000
WithinLimits (filing.Release parcel holder number) = Unit {0}
WithinLimits (filing.Postpone parcel holder number) = Unit {0}
WithinLimits (filing.Subdivide parcel owner area) = area ≤ 1000000000
WithinLimits (filing.Merge parcel other owner) = Unit {0}
