-- The land of all live parcels together, which no filing changes. Assumes nothing.
use Rattle.std.specs.Prelude.{◌≡◌, ℕ, zero, suc, ◌+◌, ◌*◌, ◌^◌, ◌<◌, ◌≤◌, true, false, cond}
use Rattle.entries.specs.Sheet.{Sheet}
use Rattle.pages.specs.Register.{Register}
use Rattle.filings.specs.declared.filing.Filing.{Filing}
use Rattle.entering.specs.Entering.{entered}

-- the sum of g over the numbers below m
unfoldable pub span : (ℕ → ℕ) → ℕ → ℕ
span g zero = 0
span g (suc m) = g m + span g m

abbrev pub live_area : Sheet → ℕ
live_area s = cond s.live s.area 0

-- the land of the live parcels below m
abbrev pub total : Register → ℕ → ℕ
total r m = span (λ p. live_area (r p)) m

-- every live parcel has a number below m
abbrev pub LiveBelow : ℕ → Register → Type 0
LiveBelow m r = (p : ℕ) → (r p).live ≡ true → p < m

pub record LandKept : Type 0 where
  -- no land is lost or won, in a register in which all areas together fit in 64 bits and the two parcels that the filing may make are yet to be made
  pub areas :
      (P n : ℕ) (f : Filing) (r : Register) (m : ℕ) → P + 2 * n + 2 ≤ m → LiveBelow m r →
      (r (P + 2 * n)).live ≡ false → (r (P + 2 * n + 1)).live ≡ false → total r m < 2 ^ 64 → total (entered P n f r) m ≡ total r m
  -- from an opening with P parcels on they always are, so that the land stays the same
  pub from_opening :
      (P n : ℕ) (f : Filing) (r : Register) (m : ℕ) → P + 2 * n + 2 ≤ m → LiveBelow (P + 2 * n) r → total r m < 2 ^ 64 → total (entered P n f r) m ≡ total r m
  pub yet_to_be_made : (P n : ℕ) (f : Filing) (r : Register) → LiveBelow (P + 2 * n) r → LiveBelow (P + 2 * suc n) (entered P n f r)
