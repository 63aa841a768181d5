-- The first entry that answers a test: where it stands, and what each act does there. Assumes nothing.
use Rattle.std.proofs.Common.{◌≡◌, ℕ, suc, ◌+◌, ◌<◌, ◌≤◌, Bool, true, false, cond, ◌||◌, List, [], ◌∷◌, ◌++◌, length, get_or, set, refl, ap, ◌∙◌, ⊎_elim, add-one, arith, ltb, position, Some, None}
use Rattle.std.specs.List.{remove, swap}
use Rattle.std.proofs.lemmas.List.Edits.{swap_is}
use Rattle.std.proofs.lemmas.Bool.{cases_Bool}
use Rattle.std.proofs.lemmas.Bool.Decides.{nat_tests}
use Rattle.std.specs.List.{position_or_len}
use Rattle.std.proofs.lemmas.List.Recursion.{is_position_or_len}
use Rattle.entries.specs.Rank.{any, front, changed, charge, without, yielded}
use Rattle.entries.specs.declared.entry.Entry.{Entry}

-- the entries at a place and at the next have changed places
abbrev swapped : Entry → List Entry → ℕ → List Entry
swapped d es k = set (set es k (get_or es (suc k) d)) (suc k) (get_or es k d)

module _ (t : Entry → Bool) where
  pub any_append : (xs ys : List Entry) → any t (xs ++ ys) ≡ (any t xs || any t ys)
  unfolding any
  any_append [] ys = refl
  any_append (e ∷ xs) ys = let next = any_append xs ys in ⊎_elim (λ y. cc) (λ n. cc) (cases_Bool (t e))

  front_within : (es : List Entry) → any t es ≡ true → length (front t es) < length es
  unfolding any front
  front_within [] h = absurd (let z : ◌≡◌ {A = ℕ} 0 1 = cc in omega arith)
  front_within (e ∷ es) h =
      let P : Bool → Type 0 = λ b. (b || any t es) ≡ true → length (cond b [] (e ∷ front t es)) < suc (length es) in
      elim (t e) as P [ true ↦ (λ _. omega arith) | false ↦ (λ g. omega (arith, front_within es g)) ] h

  changed_is : (new : Entry) (es : List Entry) → changed t new es ≡ set es (length (front t es)) new
  unfolding changed front
  changed_is new [] = refl
  changed_is new (e ∷ es) = let next = changed_is new es in ⊎_elim (λ y. cc) (λ n. cc) (cases_Bool (t e))

  without_is : (es : List Entry) → any t es ≡ true → without t es ≡ remove es (length (front t es))
  unfolding any without front
  without_is [] h = cc
  without_is (e ∷ es) h = ⊎_elim (λ y. cc) (λ n. let next = without_is es (cc) in cc) (cases_Bool (t e))

  -- the last has none behind it
  yielded_last : (es : List Entry) → length es ≤ suc (length (front t es)) → yielded t es ≡ es
  unfolding yielded front
  yielded_last [] h = refl
  yielded_last (e ∷ []) h = ⊎_elim (λ y. cc) (λ n. cc) (cases_Bool (t e))
  yielded_last (e ∷ f ∷ es) h =
      let P : Bool → Type 0 = λ b. suc (suc (length es)) ≤ suc (length (cond b [] (e ∷ front t (f ∷ es)))) → cond b (f ∷ e ∷ es) (e ∷ yielded t (f ∷ es)) ≡ e ∷ f ∷ es in
      elim (t e) as P [ true ↦ (λ g. absurd (omega arith)) | false ↦ (λ g. ap (λ l. e ∷ l) (yielded_last (f ∷ es) (omega arith))) ] h

  yielded_is : (d : Entry) (es : List Entry) → suc (length (front t es)) < length es → yielded t es ≡ swapped d es (length (front t es))
  unfolding yielded front
  yielded_is d [] h = refl
  yielded_is d (e ∷ []) h = absurd (omega arith)
  yielded_is d (e ∷ f ∷ es) h =
      let P : Bool → Type 0 = λ b. suc (length (cond b [] (e ∷ front t (f ∷ es)))) < suc (suc (length es)) → cond b (f ∷ e ∷ es) (e ∷ yielded t (f ∷ es)) ≡ swapped d (e ∷ f ∷ es) (length (cond b [] (e ∷ front t (f ∷ es)))) in
      elim (t e) as P [ true ↦ (λ g. refl) | false ↦ (λ g. ap (λ l. e ∷ l) (yielded_is d (f ∷ es) (omega arith))) ] h

  -- the first place that answers, as std counts it
  front_is : (es : List Entry) → length (front t es) ≡ position_or_len t es
  unfolding front
  front_is es = is_position_or_len (λ fs. length (front t fs)) t refl (λ e fs. turned (t e) e (front t fs)) es
    where
      turned : (b : Bool) (e : Entry) (fs : List Entry) → length (cond b [] (e ∷ fs)) ≡ cond b 0 (1 + length fs)
      turned true e fs = refl
      turned false e fs = omega arith

  any_is : (es : List Entry) → any t es ≡ ltb (length (front t es)) (length es)
  unfolding any front
  any_is [] = refl
  any_is (e ∷ es) =
      let P : Bool → Type 0 = λ b. (b || any t es) ≡ ltb (length (cond b [] (e ∷ front t es))) (suc (length es)) in
      elim (t e) as P [ true ↦ grind (arith, nat_tests) | false ↦ any_is es ∙ grind (arith, nat_tests) ]

  pub none_of : (es : List Entry) → position t es ≡ None → any t es ≡ false
  none_of es h =
      let here = front_is es in
      let there = any_is es in
      ⊎_elim (λ y. absurd (let z : ◌≡◌ {A = ℕ} 0 1 = cc in omega arith)) (λ n. cc) (cases_Bool (ltb (position_or_len t es) (length es)))

  -- where the first that answers stands, each act on it is one at that place
  module _ (es : List Entry) (k : ℕ) (h : position t es ≡ Some k) where
    pub found_at : (any t es ≡ true) × (length (front t es) ≡ k)
    found_at =
        let here = front_is es in
        let there = any_is es in
        ⊎_elim (λ y. (cc, cc)) (λ n. absurd (let z : ◌≡◌ {A = ℕ} 0 1 = cc in omega arith)) (cases_Bool (ltb (position_or_len t es) (length es)))

    pub any_at : any t es ≡ true
    any_at = found_at.0

    pub changed_at : (new : Entry) → changed t new es ≡ set es k new
    changed_at new = changed_is new es ∙ ap (λ k. set es k new) found_at.1

    pub without_at : without t es ≡ remove es k
    without_at = without_is es found_at.0 ∙ ap (remove es) found_at.1

    pub yielded_at_end : length es ≡ k + 1 → yielded t es ≡ es
    yielded_at_end e = let rank = found_at.1 in yielded_last es (omega arith)

    pub yielded_at : k + 1 < length es → yielded t es ≡ swap es k (k + 1)
    yielded_at more =
        let rank = found_at.1 in
        let d = charge 0 0 0 in
        yielded_is d es (omega arith) ∙ ap (swapped d es) rank ∙ rw (← add-one k) (swap_is es k (k + 1) d (omega arith) (omega arith))
