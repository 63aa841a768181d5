-- A result that is good has passed each of its tests. Assumes nothing.
use Rattle.std.proofs.Common.{◌≡◌, ℕ, Bool, true, false, cond, Ok, Err, Result, refl, arith}

module _ {X E : Type 0} where
  pub passed : (b : Bool) (x : Result X E) (k : E) (y : X) → cond b x (Err k) ≡ Ok y → (b ≡ true) × (x ≡ Ok y)
  passed true x k y e = (refl, e)
  passed false x k y e = absurd (let z : ◌≡◌ {A = ℕ} 0 1 = cc in omega arith)

  pub passed_not : (b : Bool) (x : Result X E) (k : E) (y : X) → cond b (Err k) x ≡ Ok y → (b ≡ false) × (x ≡ Ok y)
  passed_not true x k y e = absurd (let z : ◌≡◌ {A = ℕ} 0 1 = cc in omega arith)
  passed_not false x k y e = (refl, e)

pub same_ok : {X : Type 0} (E : Type 0) (x y : X) → ◌≡◌ {A = Result X E} (Ok x) (Ok y) → x ≡ y
same_ok E x y e = cc
