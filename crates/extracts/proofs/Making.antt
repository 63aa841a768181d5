-- Only one filing can have made a parcel: the one that its number names. Assumes nothing.
use Rattle.std.proofs.Common.{◌≡◌, ℕ, zero, suc, ◌+◌, ◌-◌, ◌/◌, ◌<◌, ◌≤◌, Bool, false, ◌||◌, List, [], ◌∷◌, Some, None, Option, refl, ap, ◌∙◌, arith}
use Rattle.std.proofs.Math.Bool.{or-false}
use Rattle.std.proofs.lemmas.Bool.{or_from}
use Rattle.std.proofs.lemmas.Bool.Decides.{nat_tests}
use Rattle.std.specs.List.{slice_get}
use Rattle.filings.specs.Touches.{first_made, may_make, member}
use Rattle.filings.specs.declared.filing.Filing.{Filing}
use Rattle.filings.specs.declared.filing.Filing.TheVariants.{Transfer, Charge, Reserve, Fill, Release, Postpone, Subdivide, Merge}
use Rattle.extracts.specs.Existing.{made_by}

-- a filing makes no parcel but the first that it may make and the next
not_made : (f : Filing) (first p : ℕ) → (first ≡ p → ⊥) → (first + 1 ≡ p → ⊥) → member p (may_make first f) ≡ false
not_made (Transfer parcel owner to) first p one two = refl
not_made (Charge parcel owner holder amount) first p one two = refl
not_made (Reserve parcel owner holder) first p one two = refl
not_made (Fill parcel owner holder number amount) first p one two = refl
not_made (Release parcel holder number) first p one two = refl
not_made (Postpone parcel holder number) first p one two = refl
not_made (Subdivide parcel owner area) first p one two = grind (arith, nat_tests)
not_made (Merge parcel other owner) first p one two = grind (arith, nat_tests)

-- none of these, where all may make only later ones
made_later : (P n : ℕ) (fs : List Filing) (p : ℕ) → p < first_made P n → made_by P n fs p ≡ false
unfolding made_by
made_later P n [] p h = refl
made_later P n (f ∷ fs) p h =
    or_from _ _ (not_made f (first_made P n) p (λ e. omega arith) (λ e. omega arith)) (made_later P (suc n) fs p (omega arith))

abbrev pub made_of : ℕ → Option Filing → ℕ → Bool
made_of first None p = false
made_of first (Some f) p = member p (may_make first f)

-- the filing k places on, of which the parcel is one of two
made_there : (P n k : ℕ) (fs : List Filing) (p : ℕ) → first_made P (n + k) ≤ p → p < first_made P (n + k) + 2 → made_by P n fs p ≡ made_of (first_made P (n + k)) (slice_get fs k) p
unfolding made_by
made_there P n k [] p low high = refl
made_there P n zero (f ∷ fs) p low high =
    let here : n ≡ n + 0 = omega arith in
    ap (λ b. member p (may_make (first_made P n) f) || b) (made_later P (suc n) fs p (omega arith)) ∙ or-false _ ∙ ap (λ i. member p (may_make (first_made P i) f)) here
made_there P n (suc k) (f ∷ fs) p low high =
    let on : suc n + k ≡ n + suc k = omega arith in
    ap (λ b. b || made_by P (suc n) fs p) (not_made f (first_made P n) p (λ e. omega arith) (λ e. omega arith)) ∙
    made_there P (suc n) k fs p (omega arith) (omega arith) ∙ ap (λ i. made_of (first_made P i) (slice_get fs k) p) on

pub made_is : (P : ℕ) (fs : List Filing) (p : ℕ) → P ≤ p → made_by P 0 fs p ≡ made_of (first_made P ((p - P) / 2)) (slice_get fs ((p - P) / 2)) p
made_is P fs p past =
    let k : ℕ = (p - P) / 2 in
    let same : 0 + k ≡ k = omega arith in
    made_there P 0 k fs p (omega arith) (omega arith) ∙ ap (λ i. made_of (first_made P i) (slice_get fs k) p) same
