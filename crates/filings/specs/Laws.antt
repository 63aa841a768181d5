-- What is promised of the pages that filings touch, and of the slots that keep them. Assumes nothing.
use Rattle.std.specs.Prelude.{◌≡◌, ℕ, ◌+◌, ◌*◌, ◌<◌, ◌≤◌, true, false, ◌⊎◌, List, ◌++◌, length, Some, None, Ok, Option, ◌≢◌}
use Rattle.filings.specs.Keeping.{kept_at, kept_in, put, put_kept, put_slot, slot_of, slots_in}
use Rattle.filings.specs.Reading.{WithinLimits, reading}
use Rattle.filings.specs.Touches.{all_below, first_made, may_make, member, named, shares, touched_by}
use Rattle.filings.specs.declared.filing.Filing.{Filing}
use Rattle.filings.specs.declared.filing.Filing.TheVariants.{Subdivide, Merge}

-- to share a page is to have one in common, whichever is asked first
pub record Sharing : Type 0 where
  pub symmetric : (xs ys : List ℕ) → shares xs ys ≡ shares ys xs
  pub some : (xs ys : List ℕ) → shares xs ys ≡ true → (p : ℕ) × (member p xs ≡ true) × (member p ys ≡ true)
  pub none : (xs ys : List ℕ) → shares xs ys ≡ false → (p : ℕ) → member p xs ≡ true → member p ys ≢ true
  pub only_none : (xs ys : List ℕ) → ((p : ℕ) → member p xs ≡ true → member p ys ≢ true) → shares xs ys ≡ false

-- a filing touches what it names and what it may make, and nothing else
pub record Touching : Type 0 where
  pub all : (P n : ℕ) (f : Filing) → touched_by P n f ≡ named f ++ may_make (first_made P n) f
  pub names : (P n : ℕ) (f : Filing) (p : ℕ) → member p (named f) ≡ true → member p (touched_by P n f) ≡ true
  pub makes : (P n : ℕ) (f : Filing) (p : ℕ) → member p (may_make (first_made P n) f) ≡ true → member p (touched_by P n f) ≡ true
  pub first_part : (P n parcel owner area : ℕ) → member (P + 2 * n) (touched_by P n (Subdivide parcel owner area)) ≡ true
  pub second_part : (P n parcel owner area : ℕ) → member (P + 2 * n + 1) (touched_by P n (Subdivide parcel owner area)) ≡ true
  pub whole : (P n parcel other owner : ℕ) → member (P + 2 * n) (touched_by P n (Merge parcel other owner)) ≡ true
  pub only :
      (P n : ℕ) (f : Filing) (p : ℕ) → member p (touched_by P n f) ≡ true → (member p (named f) ≡ true) ⊎ ((p ≡ P + 2 * n) ⊎ (p ≡ P + 2 * n + 1))
  pub below : (n : ℕ) (xs : List ℕ) (p : ℕ) → all_below n xs ≡ true → member p xs ≡ true → p < n

-- no two filings may make the same parcel, and none one that was there at the opening
pub record MadeApart : Type 0 where
  pub apart :
      (P n m : ℕ) (f g : Filing) (p : ℕ) → (n ≢ m) → member p (may_make (first_made P n) f) ≡ true → member p (may_make (first_made P m) g) ≢ true
  pub new : (P n : ℕ) (f : Filing) (p : ℕ) → member p (may_make (first_made P n) f) ≡ true → P ≤ p
  pub within : (P n : ℕ) (f : Filing) (p : ℕ) → member p (may_make (first_made P n) f) ≡ true → p < P + 2 * (n + 1)

-- a slot that is written is read back, and all others are as they were
pub record Keeping : Type 0 where
  pub size : (ms : List ℕ) (n : ℕ) (slot : List ℕ) → length slot ≡ 24 → length (put_slot ms n slot) ≡ length ms
  pub whole : (bs : List ℕ) → length (slot_of bs) ≡ 24
  pub written :
      (ms : List ℕ) (n : ℕ) (slot : List ℕ) → length slot ≡ 24 → kept_at (put_slot ms n slot) ≡ put_kept (slots_in ms) n (kept_in slot) (kept_at ms)
  pub read : (bs : List ℕ) (f : Filing) → reading bs ≡ Ok f → kept_in (slot_of bs) ≡ Some f
  pub past : (ms : List ℕ) (n : ℕ) → slots_in ms ≤ n → kept_at ms n ≡ None
  pub here : (n : ℕ) (o : Option Filing) (kept : ℕ → Option Filing) → put n o kept n ≡ o
  pub other : (n : ℕ) (o : Option Filing) (kept : ℕ → Option Filing) (m : ℕ) → (m ≢ n) → put n o kept m ≡ kept m

-- whatever bytes come in, and whatever the memory holds: no amount and no area is above its limit
pub record Limits : Type 0 where
  pub read : (bs : List ℕ) (f : Filing) → reading bs ≡ Ok f → WithinLimits f
  pub kept : (ms : List ℕ) (n : ℕ) (f : Filing) → kept_at ms n ≡ Some f → WithinLimits f
