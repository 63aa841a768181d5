-- What stands at a place of a list that has grown or changed by one. Assumes nothing.
use Rattle.std.proofs.Common.{◌≡◌, ℕ, zero, suc, ◌<◌, List, [], ◌∷◌, ◌++◌, length, set, Some, refl, arith}
use Rattle.std.specs.List.{slice_get}

module _ {X : Type 0} where
  pub nth_front : (xs : List X) (x : X) (k : ℕ) → k < length xs → slice_get (xs ++ x ∷ []) k ≡ slice_get xs k
  nth_front [] x k h = absurd (omega arith)
  nth_front (y ∷ xs) x zero h = refl
  nth_front (y ∷ xs) x (suc k) h = nth_front xs x k (omega arith)

  pub nth_last : (xs : List X) (x : X) (k : ℕ) → k ≡ length xs → slice_get (xs ++ x ∷ []) k ≡ Some x
  nth_last [] x zero h = refl
  nth_last [] x (suc k) h = absurd (omega arith)
  nth_last (y ∷ xs) x zero h = absurd (omega arith)
  nth_last (y ∷ xs) x (suc k) h = nth_last xs x k (omega arith)

  pub nth_there : (xs : List X) (k : ℕ) → k < length xs → (x : X) × (slice_get xs k ≡ Some x)
  nth_there [] k h = absurd (omega arith)
  nth_there (x ∷ xs) zero h = (x, refl)
  nth_there (x ∷ xs) (suc k) h = nth_there xs k (omega arith)

  pub nth_set_same : (xs : List X) (k : ℕ) (x : X) → k < length xs → slice_get (set xs k x) k ≡ Some x
  nth_set_same [] k x h = absurd (omega arith)
  nth_set_same (y ∷ xs) zero x h = refl
  nth_set_same (y ∷ xs) (suc k) x h = nth_set_same xs k x (omega arith)

  pub nth_set_other : (xs : List X) (j k : ℕ) (x : X) → (k ≡ j → ⊥) → slice_get (set xs j x) k ≡ slice_get xs k
  nth_set_other [] j k x h = refl
  nth_set_other (y ∷ xs) zero zero x h = absurd (h refl)
  nth_set_other (y ∷ xs) zero (suc k) x h = refl
  nth_set_other (y ∷ xs) (suc j) zero x h = refl
  nth_set_other (y ∷ xs) (suc j) (suc k) x h = nth_set_other xs j k x (λ e. h (omega arith))
