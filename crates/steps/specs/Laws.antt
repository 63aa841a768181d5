-- What entering one filing leaves as it was, and who may change it. Assumes nothing.
use Rattle.std.specs.Prelude.{◌≡◌, ℕ, true, false, ◌≢◌}
use Rattle.entries.specs.Rank.{has}
use Rattle.pages.specs.Register.{Register}
use Rattle.filings.specs.Touches.{first_made, may_make, member}
use Rattle.filings.specs.declared.filing.Filing.{Filing}
use Rattle.filings.specs.declared.filing.Filing.TheVariants.{Transfer, Release}
use Rattle.entering.specs.Entering.{entered, outcome}
use Rattle.entering.specs.declared.outcome.Outcome.TheVariants.{Rejected}
use Rattle.entering.specs.declared.outcome.Rejection.{Rejection}

-- p is none of the parcels that filing n may make
abbrev pub NotMade : ℕ → ℕ → Filing → ℕ → Type 0
NotMade P n f p = member p (may_make (first_made P n) f) ≡ false

-- a filing that is rejected changes nothing
abbrev pub RejectedStays : Type 0
RejectedStays = (P n : ℕ) (f : Filing) (r : Register) (k : Rejection) → outcome P n f r ≡ Rejected k → entered P n f r ≡ r

-- nothing is done to the page of a parcel that is not live
abbrev pub ClosedStays : Type 0
ClosedStays = (P n : ℕ) (f : Filing) (r : Register) (p : ℕ) → NotMade P n f p → (r p).live ≡ false → entered P n f r p ≡ r p

-- only a transfer that the owner signs changes who owns a parcel
abbrev pub ByOwner : Type 0
ByOwner =
    (P n : ℕ) (f : Filing) (r : Register) (p : ℕ) → NotMade P n f p → ((entered P n f r p).owner ≢ (r p).owner) → (b : ℕ) × (f ≡ Transfer p (r p).owner b)

-- only a release that its holder signs takes an entry from a page
abbrev pub ByHolder : Type 0
ByHolder =
    (P n : ℕ) (f : Filing) (r : Register) (p k h : ℕ) → NotMade P n f p → has k h (r p).entries ≡ true → has k h (entered P n f r p).entries ≡ false →
    f ≡ Release p h k
