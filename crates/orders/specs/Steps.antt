-- Acts on a register, of whatever kinds, and what it is for each to be local. Everything on orders of work rests on this alone.
-- Assumes nothing.
use Rattle.std.specs.Prelude.{◌≡◌, ℕ, Bool, true, false, ◌≢◌}

-- A register is a page for each number. An act bears a number and touches some pages; two acts share a page or not.
pub record Acts (Page Act Result : Type 0) : Type 0 where
  pub touches : ℕ → Act → ℕ → Bool
  pub shares : ℕ → Act → ℕ → Act → Bool
  pub outcome : ℕ → Act → (ℕ → Page) → Result
  pub step : ℕ → Act → (ℕ → Page) → ℕ → Page

-- Acts share a page just where both touch one. An act changes no page but those that it touches, and what it does there and what
-- comes of it depend on no other.
pub record Local {Page Act Result : Type 0} (w : Acts Page Act Result) : Type 0 where
  pub no_common : (n : ℕ) (a : Act) (m : ℕ) (b : Act) → w.shares n a m b ≡ false → (q : ℕ) → w.touches n a q ≡ true → w.touches m b q ≢ true
  pub common : (n : ℕ) (a : Act) (m : ℕ) (b : Act) → w.shares n a m b ≡ true → (q : ℕ) × (w.touches n a q ≡ true) × (w.touches m b q ≡ true)
  pub only_there : (n : ℕ) (a : Act) (r : ℕ → Page) (q : ℕ) → w.touches n a q ≡ false → w.step n a r q ≡ r q
  pub outcome_there : (n : ℕ) (a : Act) (r s : ℕ → Page) → ((q : ℕ) → w.touches n a q ≡ true → r q ≡ s q) → w.outcome n a r ≡ w.outcome n a s
  pub step_there :
      (n : ℕ) (a : Act) (r s : ℕ → Page) → ((q : ℕ) → w.touches n a q ≡ true → r q ≡ s q) → (q : ℕ) → w.touches n a q ≡ true → w.step n a r q ≡ w.step n a s q
