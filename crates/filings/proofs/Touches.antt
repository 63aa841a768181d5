-- Pages that are shared, and pages that a filing touches. Assumes nothing.
use Rattle.std.proofs.Common.{◌≡◌, ℕ, ◌+◌, ◌*◌, ◌<◌, ◌≤◌, true, false, eqb, ◌⊎◌, List, [], ◌∷◌, ◌++◌, sym, refl, ap, ◌∙◌, inl, inr, ⊎_elim, arith}
use Rattle.std.proofs.lemmas.Bool.{cases_Bool, eq-eqb, or_cases, or_left, or_right}
use Rattle.std.proofs.lemmas.Bool.Decides.{nat_tests}
use Rattle.filings.specs.Laws.{MadeApart, Sharing, Touching}
use Rattle.filings.specs.Touches.{all_below, first_made, may_make, member, named, shares, touched_by}
use Rattle.filings.specs.declared.filing.Filing.{Filing}
use Rattle.filings.specs.declared.filing.Filing.TheVariants.{Transfer, Charge, Reserve, Fill, Release, Postpone, Subdivide, Merge}

-- SHARING

some_page : (xs ys : List ℕ) → shares xs ys ≡ true → (p : ℕ) × (member p xs ≡ true) × (member p ys ≡ true)
some_page [] ys e = absurd (grind (arith, nat_tests))
some_page (x ∷ xs) ys e =
    ⊎_elim
    (λ (h : member x ys ≡ true). (x, or_left (eqb x x) (member x xs) (eq-eqb x x refl), h))
    (λ h. let s = some_page xs ys h in (s.0, or_right (eqb x s.0) (member s.0 xs) s.1, s.2))
    (or_cases (member x ys) (shares xs ys) e)

both : (xs ys : List ℕ) (p : ℕ) → member p xs ≡ true → member p ys ≡ true → shares xs ys ≡ true
both [] ys p e h = grind (arith, nat_tests)
both (x ∷ xs) ys p e h = grind (arith, nat_tests, both xs ys p)

none : (xs ys : List ℕ) → shares xs ys ≡ false → (p : ℕ) → member p xs ≡ true → member p ys ≡ true → ⊥
none xs ys e p a b = grind (arith, nat_tests, both xs ys p a b)

only_none : (xs ys : List ℕ) → ((p : ℕ) → member p xs ≡ true → member p ys ≡ true → ⊥) → shares xs ys ≡ false
only_none xs ys h =
    ⊎_elim (λ e. let s = some_page xs ys e in absurd (h s.0 s.1 s.2)) (λ e. e) (cases_Bool (shares xs ys))

symmetric : (xs ys : List ℕ) → shares xs ys ≡ shares ys xs
symmetric xs ys =
    ⊎_elim
    (λ e. let s = some_page xs ys e in e ∙ sym (both ys xs s.0 s.2 s.1))
    (λ e. e ∙ sym (only_none ys xs (λ p a b. none xs ys e p b a)))
    (cases_Bool (shares xs ys))

pub sharing : Sharing
sharing = record { symmetric = symmetric; some = some_page; none = none; only_none = only_none }

-- TOUCHING

member_append : (p : ℕ) (xs ys : List ℕ) → member p (xs ++ ys) ≡ true → (member p xs ≡ true) ⊎ (member p ys ≡ true)
member_append p [] ys e = inr e
member_append p (x ∷ xs) ys e = grind (arith, nat_tests, member_append p xs ys)

member_left : (p : ℕ) (xs ys : List ℕ) → member p xs ≡ true → member p (xs ++ ys) ≡ true
member_left p [] ys e = grind (arith, nat_tests)
member_left p (x ∷ xs) ys e = grind (arith, nat_tests, member_left p xs ys)

member_right : (p : ℕ) (xs ys : List ℕ) → member p ys ≡ true → member p (xs ++ ys) ≡ true
member_right p [] ys e = e
member_right p (x ∷ xs) ys e = grind (arith, nat_tests, member_right p xs ys)

not_none : (p : ℕ) {X : Type 0} → member p [] ≡ true → X
not_none p e = absurd (grind (arith, nat_tests))

-- what a filing may make is the first of its two numbers or the second
made_one : (first : ℕ) (f : Filing) (p : ℕ) → member p (may_make first f) ≡ true → (p ≡ first) ⊎ (p ≡ first + 1)
made_one first (Transfer parcel owner to) p e = not_none p e
made_one first (Charge parcel owner holder amount) p e = not_none p e
made_one first (Reserve parcel owner holder) p e = not_none p e
made_one first (Fill parcel owner holder number amount) p e = not_none p e
made_one first (Release parcel holder number) p e = not_none p e
made_one first (Postpone parcel holder number) p e = not_none p e
made_one first (Subdivide parcel owner area) p e = grind (arith, nat_tests)
made_one first (Merge parcel other owner) p e = grind (arith, nat_tests)

module _ (P n : ℕ) (f : Filing) where
  all : touched_by P n f ≡ named f ++ may_make (first_made P n) f
  unfolding touched_by
  all = refl

  names : (p : ℕ) → member p (named f) ≡ true → member p (touched_by P n f) ≡ true
  names p e = ap (member p) all ∙ member_left p (named f) (may_make (first_made P n) f) e

  makes : (p : ℕ) → member p (may_make (first_made P n) f) ≡ true → member p (touched_by P n f) ≡ true
  makes p e = ap (member p) all ∙ member_right p (named f) (may_make (first_made P n) f) e

  only : (p : ℕ) → member p (touched_by P n f) ≡ true → (member p (named f) ≡ true) ⊎ ((p ≡ P + 2 * n) ⊎ (p ≡ P + 2 * n + 1))
  only p e =
      ⊎_elim inl (λ h. inr (made_one (first_made P n) f p h)) (member_append p (named f) (may_make (first_made P n) f) (sym (ap (member p) all) ∙ e))

member_first : (p : ℕ) (ps : List ℕ) → member p (p ∷ ps) ≡ true
member_first p ps = grind (arith, nat_tests)

below : (n : ℕ) (xs : List ℕ) (p : ℕ) → all_below n xs ≡ true → member p xs ≡ true → p < n
below n [] p a e = grind (arith, nat_tests)
below n (x ∷ xs) p a e = grind (arith, nat_tests, below n xs p)

pub touching : Touching
touching = record {
  all = all;
  names = names;
  makes = makes;
  first_part = λ P n parcel owner area. makes P n (Subdivide parcel owner area) (P + 2 * n) (member_first (P + 2 * n) ((P + 2 * n + 1) ∷ []));
  second_part = λ P n parcel owner area. makes P n (Subdivide parcel owner area) (P + 2 * n + 1) (or_right (eqb (P + 2 * n) (P + 2 * n + 1)) _ (member_first (P + 2 * n + 1) []));
  whole = λ P n parcel other owner. makes P n (Merge parcel other owner) (P + 2 * n) (member_first (P + 2 * n) []);
  only = only;
  below = below;
}

-- MADE

module _ (P n : ℕ) (f : Filing) (p : ℕ) (e : member p (may_make (first_made P n) f) ≡ true) where
  new : P ≤ p
  new = grind (arith, made_one (first_made P n) f p e)

  within : p < P + 2 * (n + 1)
  within = grind (arith, made_one (first_made P n) f p e)

apart : (P n m : ℕ) (f g : Filing) (p : ℕ) → (n ≡ m → ⊥) → member p (may_make (first_made P n) f) ≡ true → member p (may_make (first_made P m) g) ≡ true → ⊥
apart P n m f g p other a b =
    grind (arith, made_one (first_made P n) f p a, made_one (first_made P m) g p b)

pub made_apart : MadeApart
made_apart = record { apart = apart; new = new; within = within }
