-- What the acts do to the answers of any test, each by one induction. Assumes nothing.
use Rattle.std.proofs.Common.{◌≡◌, suc, ◌+◌, ◌≤◌, Bool, true, false, cond, not, ◌||◌, List, [], ◌∷◌, ◌++◌, length, refl, ⊎_elim, arith}
use Rattle.std.proofs.lemmas.Bool.{cases_Bool}
use Rattle.entries.specs.Order.{follower}
use Rattle.entries.specs.Rank.{any, front, changed, without, yielded}
use Rattle.entries.specs.declared.entry.Entry.{Entry}

-- the answer of s is the same of each entry that answers t and of the new one
abbrev pub Alike : (t s : Entry → Bool) → Entry → Type 0
Alike t s new = (e : Entry) → t e ≡ true → s e ≡ s new

-- no entry answers both tests
abbrev pub Apart : (t s : Entry → Bool) → Type 0
Apart t s = (e : Entry) → t e ≡ true → s e ≡ false

or_swap : (a b c : Bool) → (a || (b || c)) ≡ (b || (a || c))
or_swap true true c = refl
or_swap true false c = refl
or_swap false b c = refl

or_mono : (a b c : Bool) → (b ≡ true → c ≡ true) → (a || b) ≡ true → (a || c) ≡ true
or_mono true b c f h = refl
or_mono false b c f h = f h

or_assoc : (a b c : Bool) → ((a || b) || c) ≡ (a || (b || c))
or_assoc true b c = refl
or_assoc false b c = refl

-- e stands before f, or f alone before e
fewer : (b : Bool) (e f : Entry) (es : List Entry) → length (cond b [] (f ∷ e ∷ es)) ≤ length (e ∷ cond b [] (f ∷ es))
fewer true e f es = omega arith
fewer false e f es = omega arith

longer : (b : Bool) (e : Entry) (xs ys : List Entry) → length xs ≤ length ys → length (cond b [] (e ∷ xs)) ≤ length (cond b [] (e ∷ ys))
longer true e xs ys h = omega arith
longer false e xs ys h = omega arith

at_most_one : (b : Bool) (e : Entry) → length (cond b [] (e ∷ [])) ≤ 1
at_most_one true e = omega arith
at_most_one false e = omega arith

or_true : (a : Bool) → (a || true) ≡ true
or_true true = refl
or_true false = refl

module _ (t s : Entry → Bool) where
  pub any_changed : (new : Entry) → Alike t s new → (es : List Entry) → any s (changed t new es) ≡ any s es
  unfolding any changed
  any_changed new alike [] = refl
  any_changed new alike (e ∷ es) =
      let next = any_changed new alike es in
      ⊎_elim (λ y. let a = alike e y in cc) (λ n. cc) (cases_Bool (t e))

  -- what does not answer t stays
  pub changed_keeps : (new : Entry) → Apart t s → (es : List Entry) → any s es ≡ true → any s (changed t new es) ≡ true
  unfolding any changed
  changed_keeps new apart [] h = h
  changed_keeps new apart (e ∷ es) h =
      ⊎_elim
      (λ y. let a = apart e y in let more = or_true (s new) in cc)
      (λ n. let more : (s e || any s (changed t new es)) ≡ true = or_mono (s e) _ _ (changed_keeps new apart es) h in cc)
      (cases_Bool (t e))

  pub any_without : Apart t s → (es : List Entry) → any s (without t es) ≡ any s es
  unfolding any without
  any_without apart [] = refl
  any_without apart (e ∷ es) =
      let next = any_without apart es in
      ⊎_elim (λ y. let a = apart e y in cc) (λ n. cc) (cases_Bool (t e))

  pub without_any : (es : List Entry) → any s (without t es) ≡ true → any s es ≡ true
  unfolding any without
  without_any [] h = h
  without_any (e ∷ es) h =
      let P : Bool → Type 0 = λ b. any s (cond b es (e ∷ without t es)) ≡ true → (s e || any s es) ≡ true in
      elim (t e) as P [ true ↦ (λ g. or_mono (s e) true (any s es) (λ _. g) (or_true (s e))) | false ↦ or_mono (s e) (any s (without t es)) (any s es) (without_any es) ] h

  pub any_yielded : (es : List Entry) → any s (yielded t es) ≡ any s es
  unfolding any yielded
  any_yielded [] = refl
  any_yielded (e ∷ []) = ⊎_elim (λ y. cc) (λ n. cc) (cases_Bool (t e))
  any_yielded (e ∷ f ∷ es) =
      let next = any_yielded (f ∷ es) in
      let turned = or_swap (s f) (s e) (any s es) in
      ⊎_elim (λ y. cc) (λ n. cc) (cases_Bool (t e))

  pub front_changed : (new : Entry) → Alike t s new → (es : List Entry) → front s (changed t new es) ≡ changed t new (front s es)
  unfolding front changed
  front_changed new alike [] = refl
  front_changed new alike (e ∷ es) =
      let next = front_changed new alike es in
      ⊎_elim
      (λ y. let a = alike e y in ⊎_elim (λ b. cc) (λ m. cc) (cases_Bool (s e)))
      (λ n. ⊎_elim (λ b. cc) (λ m. cc) (cases_Bool (s e)))
      (cases_Bool (t e))

  pub front_without : Apart t s → (es : List Entry) → front s (without t es) ≡ without t (front s es)
  unfolding front without
  front_without apart [] = refl
  front_without apart (e ∷ es) =
      let next = front_without apart es in
      ⊎_elim
      (λ y. let a = apart e y in cc)
      (λ n. ⊎_elim (λ b. cc) (λ m. cc) (cases_Bool (s e)))
      (cases_Bool (t e))

  -- what t does puts nothing new before the first that answers s
  pub front_yielded : Apart t s → (q : Entry → Bool) (es : List Entry) → any q (front s (yielded t es)) ≡ true → any q (front s es) ≡ true
  unfolding any front yielded
  front_yielded apart q [] h = h
  front_yielded apart q (e ∷ []) h = ⊎_elim (λ y. cc) (λ n. cc) (cases_Bool (t e))
  front_yielded apart q (e ∷ f ∷ es) h =
      let turned = or_swap (q f) (q e) (any q (front s es)) in
      ⊎_elim
      (λ y. let a = apart e y in ⊎_elim (λ b. cc) (λ m. cc) (cases_Bool (s f)))
      (λ n. ⊎_elim (λ b. cc) (λ m. let more : (q e || any q (front s (f ∷ es))) ≡ true = or_mono (q e) _ _ (front_yielded apart q (f ∷ es)) (cc) in cc) (cases_Bool (s e)))
      (cases_Bool (t e))

  pub length_front_yielded : Apart t s → (es : List Entry) → length (front s (yielded t es)) ≤ length (front s es)
  unfolding front yielded
  length_front_yielded apart [] = omega arith
  length_front_yielded apart (e ∷ []) =
      let P : Bool → Type 0 = λ b. length (front s (cond b (e ∷ []) (e ∷ []))) ≤ length (front s (e ∷ [])) in
      elim (t e) as P [ true ↦ omega arith | false ↦ omega arith ]
  length_front_yielded apart (e ∷ f ∷ es) =
      let next = length_front_yielded apart (f ∷ es) in
      ⊎_elim
      (λ y. let a = apart e y in rw (y, a) (fewer (s f) e f (front s es)))
      (λ n. rw n (longer (s e) e _ _ next))
      (cases_Bool (t e))

  -- what ranks before the first that answers u still does, but for what t answers
  pub front_kept : Apart t s → (u : Entry → Bool) (es : List Entry) → any s (front u es) ≡ true → any s (front u (yielded t es)) ≡ true
  unfolding any front yielded
  front_kept apart u [] h = h
  front_kept apart u (e ∷ []) h = ⊎_elim (λ y. cc) (λ n. cc) (cases_Bool (t e))
  front_kept apart u (e ∷ f ∷ es) h =
      ⊎_elim
      (λ y. let a = apart e y in ⊎_elim (λ b. cc) (λ m. ⊎_elim (λ c. cc) (λ p. cc) (cases_Bool (u f))) (cases_Bool (u e)))
      (λ n. ⊎_elim (λ b. cc) (λ m. let more : (s e || any s (front u (yielded t (f ∷ es)))) ≡ true = or_mono (s e) _ _ (front_kept apart u (f ∷ es)) (cc) in cc) (cases_Bool (u e)))
      (cases_Bool (t e))

  -- of two that stand, one ranks before the other
  pub one_in_front : Apart t s → (es : List Entry) → any t es ≡ true → any s es ≡ true → any s (front t es) ≡ not (any t (front s es))
  unfolding any front
  one_in_front apart [] h g = cc
  one_in_front apart (e ∷ es) h g =
      ⊎_elim
      (λ y. let a = apart e y in cc)
      (λ n. ⊎_elim (λ b. cc) (λ m. let next = one_in_front apart es (cc) (cc) in cc) (cases_Bool (s e)))
      (cases_Bool (t e))

module _ (t : Entry → Bool) where
  pub front_append : (es ys : List Entry) → any t es ≡ true → front t (es ++ ys) ≡ front t es
  unfolding any front
  front_append [] ys h = cc
  front_append (e ∷ es) ys h = ⊎_elim (λ y. cc) (λ n. let next = front_append es ys (cc) in cc) (cases_Bool (t e))

  -- the one that yields has at most its follower new before it
  pub front_itself : (q : Entry → Bool) (es : List Entry) → any q (front t (yielded t es)) ≡ true → (any q (front t es) || any q (follower t es)) ≡ true
  unfolding any front yielded follower
  front_itself q [] h = h
  front_itself q (e ∷ []) h = ⊎_elim (λ y. cc) (λ n. cc) (cases_Bool (t e))
  front_itself q (e ∷ f ∷ es) h =
      ⊎_elim
      (λ y. ⊎_elim (λ b. cc) (λ m. cc) (cases_Bool (t f)))
      (λ n. let more : (q e || (any q (front t (f ∷ es)) || any q (follower t (f ∷ es)))) ≡ true = or_mono (q e) _ _ (front_itself q (f ∷ es)) (cc) in let joined = or_assoc (q e) (any q (front t (f ∷ es))) (any q (follower t (f ∷ es))) in cc)
      (cases_Bool (t e))

  -- and all that stood before it still does
  pub front_itself_keeps : (q : Entry → Bool) (es : List Entry) → any q (front t es) ≡ true → any q (front t (yielded t es)) ≡ true
  unfolding any front yielded
  front_itself_keeps q [] h = h
  front_itself_keeps q (e ∷ []) h = ⊎_elim (λ y. cc) (λ n. cc) (cases_Bool (t e))
  front_itself_keeps q (e ∷ f ∷ es) h =
      ⊎_elim
      (λ y. cc)
      (λ n. let more : (q e || any q (front t (yielded t (f ∷ es)))) ≡ true = or_mono (q e) _ _ (front_itself_keeps q (f ∷ es)) (cc) in cc)
      (cases_Bool (t e))

  pub length_front_itself : (es : List Entry) → length (front t (yielded t es)) ≤ length (front t es) + 1
  unfolding front yielded
  length_front_itself [] = omega arith
  length_front_itself (e ∷ []) =
      let P : Bool → Type 0 = λ b. length (front t (cond b (e ∷ []) (e ∷ []))) ≤ length (front t (e ∷ [])) + 1 in
      elim (t e) as P [ true ↦ omega arith | false ↦ omega arith ]
  length_front_itself (e ∷ f ∷ es) =
      let next = length_front_itself (f ∷ es) in
      ⊎_elim (λ y. rw y (rw y (at_most_one (t f) f))) (λ n. rw n (rw n (omega arith))) (cases_Bool (t e))

  pub changed_stands : (s : Entry → Bool) (new : Entry) (es : List Entry) → s new ≡ true → any t es ≡ true → any s (changed t new es) ≡ true
  unfolding any changed
  changed_stands s new [] y h = cc
  changed_stands s new (e ∷ es) y h =
      ⊎_elim (λ b. cc) (λ n. let next = changed_stands s new es y (cc) in let more = or_true (s e) in cc) (cases_Bool (t e))

  pub length_changed : (new : Entry) (es : List Entry) → length (changed t new es) ≡ length es
  unfolding changed
  length_changed new [] = refl
  length_changed new (e ∷ es) = let next = length_changed new es in ⊎_elim (λ y. cc) (λ n. cc) (cases_Bool (t e))

  pub length_without : (es : List Entry) → any t es ≡ true → suc (length (without t es)) ≡ length es
  unfolding any without
  length_without [] h = cc
  length_without (e ∷ es) h = ⊎_elim (λ y. cc) (λ n. let next = length_without es (cc) in cc) (cases_Bool (t e))

  pub without_none : (es : List Entry) → any t es ≡ false → without t es ≡ es
  unfolding any without
  without_none [] h = refl
  without_none (e ∷ es) h = ⊎_elim (λ y. cc) (λ n. let next = without_none es (cc) in cc) (cases_Bool (t e))

  pub length_yielded : (es : List Entry) → length (yielded t es) ≡ length es
  unfolding yielded
  length_yielded [] = refl
  length_yielded (e ∷ []) = ⊎_elim (λ y. cc) (λ n. cc) (cases_Bool (t e))
  length_yielded (e ∷ f ∷ es) = let next = length_yielded (f ∷ es) in ⊎_elim (λ y. cc) (λ n. cc) (cases_Bool (t e))
