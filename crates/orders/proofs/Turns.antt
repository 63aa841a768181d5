-- The registers of the order of filing. Assumes nothing.
use Rattle.std.proofs.Common.{◌≡◌, ℕ, zero, suc, ◌<◌, ◌≤◌, false, List, [], ◌∷◌, ◌++◌, length, Some, None, Option, sym, refl, ap, ◌∙◌, ⊎_elim, arith}
use Rattle.std.proofs.lemmas.Bool.{cases_eq}
use Rattle.std.specs.List.{slice_get}
use Rattle.orders.specs.Desk.{stepped, touched_by, turn}
use Rattle.orders.specs.Steps.{Acts, Local}
use Rattle.orders.proofs.Places.{nth_front}

module _ {Page Act Result : Type 0} (w : Acts Page Act Result) (local : Local w) where
  pub stepped_other : (n : ℕ) (o : Option Act) (r : ℕ → Page) (p : ℕ) → touched_by w n o p ≡ false → stepped w n o r p ≡ r p
  stepped_other n None r p h = refl
  stepped_other n (Some a) r p h = local.only_there n a r p h

  -- where nothing from k up to m touches a page, it is the same before k and before m
  pub turn_untouched :
      (start : ℕ → Page) (fs : List Act) (p k m : ℕ) → k ≤ m → ((j : ℕ) → k ≤ j → j < m → touched_by w j (slice_get fs j) p ≡ false) →
      turn w start fs m p ≡ turn w start fs k p
  unfolding turn
  turn_untouched start fs p k zero h none = let e : 0 ≡ k = omega arith in ap (λ n. turn w start fs n p) e
  turn_untouched start fs p k (suc m) h none =
      ⊎_elim
      (λ (e : k ≡ suc m). ap (λ n. turn w start fs n p) (sym e))
      (λ (other : k ≡ suc m → ⊥).
      stepped_other m (slice_get fs m) (turn w start fs m) p (none m (omega arith) (omega arith)) ∙
      turn_untouched start fs p k m (omega arith) (λ j a b. none j a (omega arith)))
      (cases_eq k (suc m))

  -- what is filed later does not matter
  pub turn_more : (start : ℕ → Page) (fs : List Act) (a : Act) (k : ℕ) → k ≤ length fs → turn w start (fs ++ a ∷ []) k ≡ turn w start fs k
  unfolding turn
  turn_more start fs a zero h = refl
  turn_more start fs a (suc k) h = λ i. stepped w k (nth_front fs a k h i) (turn_more start fs a k (omega arith) i)
