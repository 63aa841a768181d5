-- The numbers under which entries stand, and the acts. Assumes nothing.
use Rattle.std.proofs.Common.{◌≡◌, ℕ, Bool, true, false, not, ◌&&◌, ◌||◌, eqb, ltb, List, [], ◌∷◌, ◌++◌, sym, refl, ap, ◌∙◌, ⊎_elim, arith}
use Rattle.std.proofs.lemmas.List.{map_push}
use Rattle.std.proofs.lemmas.Bool.{and_parts, cases_Bool, not-true, or_parts}
use Rattle.std.proofs.lemmas.Bool.Decides.{nat_tests}
use Rattle.entries.specs.Order.{member, distinct, all_below}
use Rattle.entries.specs.Rank.{any, changed, without, yielded, numbers}
use Rattle.entries.specs.declared.entry.Entry.{Entry}
use Rattle.entries.proofs.First.{any_append}
use Rattle.entries.proofs.Tests.{any_yielded, without_any}

pub eqb_turned : (a b : ℕ) → eqb a b ≡ eqb b a
eqb_turned a b = grind (arith, nat_tests)

-- this number, asked of an entry
abbrev pub under : ℕ → Entry → Bool
under n e = eqb e.number n

-- a number that is not below n, asked of an entry
abbrev pub from : ℕ → Entry → Bool
from n e = not (ltb e.number n)

pub member_is : (n : ℕ) (es : List Entry) → member n (numbers es) ≡ any (under n) es
unfolding member numbers any
member_is n [] = refl
member_is n (e ∷ es) = ap (λ b. eqb e.number n || b) (member_is n es)

pub below_is : (n : ℕ) (es : List Entry) → all_below n (numbers es) ≡ not (any (from n) es)
unfolding all_below numbers any
below_is n [] = refl
below_is n (e ∷ es) = let next = below_is n es in ⊎_elim (λ y. cc) (λ m. cc) (cases_Bool (ltb e.number n))

pub numbers_append : (e : Entry) (es : List Entry) → numbers (es ++ e ∷ []) ≡ numbers es ++ e.number ∷ []
unfolding numbers
numbers_append e es = map_push (λ e. e.number) es e

member_append : (n m : ℕ) (ms : List ℕ) → member n (ms ++ m ∷ []) ≡ (member n ms || eqb m n)
unfolding member
member_append n m [] = ⊎_elim (λ y. cc) (λ no. cc) (cases_Bool (eqb m n))
member_append n m (x ∷ ms) = let next = member_append n m ms in ⊎_elim (λ y. cc) (λ no. cc) (cases_Bool (eqb x n))

pub distinct_append : (n : ℕ) (ms : List ℕ) → member n ms ≡ false → distinct (ms ++ n ∷ []) ≡ distinct ms
unfolding member distinct
distinct_append n [] h = refl
distinct_append n (m ∷ ms) h =
    let parts = or_parts (eqb m n) (member n ms) h in
    let next = distinct_append n ms parts.1 in
    let here = member_append m n ms in
    let turned = eqb_turned n m in
    ⊎_elim (λ y. cc) (λ no. cc) (cases_Bool (member m ms))

pub below_append : (n : ℕ) (e : Entry) (es : List Entry) → all_below n (numbers (es ++ e ∷ [])) ≡ (all_below n (numbers es) && ltb e.number n)
unfolding any
below_append n e es =
    let was = below_is n es in
    let is = below_is n (es ++ e ∷ []) in
    let parts = any_append (from n) es (e ∷ []) in
    ⊎_elim
    (λ y. ⊎_elim (λ b. cc) (λ m. cc) (cases_Bool (ltb e.number n)))
    (λ no. ⊎_elim (λ b. cc) (λ m. cc) (cases_Bool (ltb e.number n)))
    (cases_Bool (any (from n) es))

distinct_turned : (a b : ℕ) (ns : List ℕ) → distinct (b ∷ a ∷ ns) ≡ distinct (a ∷ b ∷ ns)
unfolding distinct member
distinct_turned a b ns =
    let turned = eqb_turned a b in
    ⊎_elim (λ y. ⊎_elim (λ p. cc) (λ q. cc) (cases_Bool (member b ns)))
    (λ n. ⊎_elim
    (λ p. ⊎_elim (λ r. cc) (λ s. cc) (cases_Bool (member b ns)))
    (λ q. ⊎_elim (λ r. cc) (λ s. cc) (cases_Bool (member b ns)))
    (cases_Bool (member a ns)))
    (cases_Bool (eqb a b))

module _ (t : Entry → Bool) where
  pub numbers_changed : (new : Entry) → ((e : Entry) → t e ≡ true → e.number ≡ new.number) → (es : List Entry) → numbers (changed t new es) ≡ numbers es
  unfolding numbers changed
  numbers_changed new same [] = refl
  numbers_changed new same (e ∷ es) =
      let next = numbers_changed new same es in
      ⊎_elim (λ y. let s = same e y in cc) (λ n. cc) (cases_Bool (t e))

  pub member_without : (n : ℕ) (es : List Entry) → member n (numbers (without t es)) ≡ true → member n (numbers es) ≡ true
  member_without n es h = member_is n es ∙ without_any t (under n) es (sym (member_is n (without t es)) ∙ h)

  pub member_yielded : (n : ℕ) (es : List Entry) → member n (numbers (yielded t es)) ≡ member n (numbers es)
  member_yielded n es = member_is n (yielded t es) ∙ any_yielded t (under n) es ∙ sym (member_is n es)

  pub distinct_without : (es : List Entry) → distinct (numbers es) ≡ true → distinct (numbers (without t es)) ≡ true
  unfolding distinct numbers without
  distinct_without [] h = refl
  distinct_without (e ∷ es) h =
      let parts = and_parts (not (member e.number (numbers es))) (distinct (numbers es)) h in
      let next = distinct_without es parts.1 in
      let absent = not-true (member e.number (numbers es)) parts.0 in
      ⊎_elim
      (λ y. cc)
      (λ n. ⊎_elim (λ b. let there = member_without e.number es b in cc) (λ m. cc) (cases_Bool (member e.number (numbers (without t es)))))
      (cases_Bool (t e))

  pub distinct_yielded : (es : List Entry) → distinct (numbers (yielded t es)) ≡ distinct (numbers es)
  unfolding distinct numbers yielded member
  distinct_yielded [] = refl
  distinct_yielded (e ∷ []) = ⊎_elim (λ y. cc) (λ n. cc) (cases_Bool (t e))
  distinct_yielded (e ∷ f ∷ es) =
      let next = distinct_yielded (f ∷ es) in
      let kept = member_yielded e.number (f ∷ es) in
      let turned = distinct_turned e.number f.number (numbers es) in
      ⊎_elim (λ y. cc) (λ n. cc) (cases_Bool (t e))

  pub below_without : (n : ℕ) (es : List Entry) → all_below n (numbers es) ≡ true → all_below n (numbers (without t es)) ≡ true
  below_without n es h =
      let was = below_is n es in
      let is = below_is n (without t es) in
      ⊎_elim (λ y. let there = without_any t (from n) es y in cc) (λ m. cc) (cases_Bool (any (from n) (without t es)))

  pub below_yielded : (n : ℕ) (es : List Entry) → all_below n (numbers (yielded t es)) ≡ all_below n (numbers es)
  below_yielded n es = below_is n (yielded t es) ∙ ap not (any_yielded t (from n) es) ∙ sym (below_is n es)
