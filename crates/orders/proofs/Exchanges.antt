-- Exchanging two acts that share no page changes no page and no outcome. Assumes nothing.
use Rattle.std.proofs.Common.{◌≡◌, ℕ, Bool, true, false, cond, eqb, ◌≢◌, List, ◌∷◌, Some, Option, sym, refl, ap, ◌∙◌, ⊎_elim}
use Rattle.std.proofs.lemmas.Bool.{cases_Bool, eqb-true, true≢false}
use Rattle.orders.specs.Laws.{Exchange}
use Rattle.orders.specs.Orders.{Numbered, Holds, here, there, Single, one, Apart, Exchanged, same, swap, skip, more, worked, outcome_in}
use Rattle.orders.specs.Steps.{Acts, Local}

module _ {Page Act Result : Type 0} (w : Acts Page Act Result) (local : Local w) where
  -- TWO NEIGHBOURS

  -- what one touches the other does not
  untouched : (x y : Numbered Act) → Apart w x y → (q : ℕ) → w.touches x.number x.act q ≡ true → w.touches y.number y.act q ≡ false
  untouched x y apart q t =
      ⊎_elim (λ u. absurd (local.no_common x.number x.act y.number y.act apart.none q t u)) (λ f. f) (cases_Bool (w.touches y.number y.act q))

  pub apart_sym : (x y : Numbered Act) → Apart w x y → Apart w y x
  apart_sym x y apart = record {
    none = ⊎_elim
        (λ t.
        let both = local.common y.number y.act x.number x.act t in
        absurd (true≢false (sym both.1 ∙ untouched x y apart both.0 both.2)))
        (λ f. f)
        (cases_Bool (w.shares y.number y.act x.number x.act));
  }

  abbrev after : Numbered Act → (ℕ → Page) → ℕ → Page
  after x r = w.step x.number x.act r

  module _ (x y : Numbered Act) (apart : Apart w x y) (r : ℕ → Page) where
    -- an act finds the pages that it touches as they were before the other
    unseen : (q : ℕ) → w.touches x.number x.act q ≡ true → after y r q ≡ r q
    unseen q t = local.only_there y.number y.act r q (untouched x y apart q t)

    outcome_same : w.outcome x.number x.act (after y r) ≡ w.outcome x.number x.act r
    outcome_same = local.outcome_there x.number x.act (after y r) r unseen

  two_pages : (x y : Numbered Act) → Apart w x y → (r : ℕ → Page) (q : ℕ) → after y (after x r) q ≡ after x (after y r) q
  two_pages x y apart r q =
      ⊎_elim
      (λ t.
      local.only_there y.number y.act (after x r) q (untouched x y apart q t) ∙
      sym (local.step_there x.number x.act (after y r) r (unseen x y apart r) q t))
      (λ f.
      ⊎_elim
      (λ u. local.step_there y.number y.act (after x r) r (unseen y x (apart_sym x y apart) r) q u)
      (λ g. local.only_there y.number y.act (after x r) q g ∙ local.only_there x.number x.act r q f ∙ sym (local.only_there y.number y.act r q g))
      (cases_Bool (w.touches y.number y.act q)) ∙
      sym (local.only_there x.number x.act (after y r) q f))
      (cases_Bool (w.touches x.number x.act q))

  -- LISTS

  pub holds_exchanged : {xs ys : List (Numbered Act)} {z : Numbered Act} → Exchanged w xs ys → Holds z xs → Holds z ys
  holds_exchanged same h = h
  holds_exchanged (swap apart) here = there here
  holds_exchanged (swap apart) (there here) = here
  holds_exchanged (swap apart) (there (there h)) = there (there h)
  holds_exchanged (skip e) here = here
  holds_exchanged (skip e) (there h) = there (holds_exchanged e h)
  holds_exchanged (more e f) h = holds_exchanged f (holds_exchanged e h)

  pub exchanged_sym : {xs ys : List (Numbered Act)} → Exchanged w xs ys → Exchanged w ys xs
  exchanged_sym same = same
  exchanged_sym (swap {x} {y} apart) = swap (apart_sym x y apart)
  exchanged_sym (skip e) = skip (exchanged_sym e)
  exchanged_sym (more e f) = more (exchanged_sym f) (exchanged_sym e)

  swapped_first :
      (x y : Numbered Act) {xs : List (Numbered Act)} → ((z : Numbered Act) → Holds z (y ∷ xs) → z.number ≢ x.number) →
      ((z : Numbered Act) → Holds z xs → z.number ≢ y.number) → (z : Numbered Act) → Holds z (x ∷ xs) → z.number ≢ y.number
  swapped_first x y p q z here = λ e. p y here (sym e)
  swapped_first x y p q z (there h) = q z h

  pub single_exchanged : {xs ys : List (Numbered Act)} → Exchanged w xs ys → Single xs → Single ys
  single_exchanged same s = s
  single_exchanged (swap {x} {y} apart) (one p (one q s)) = one (swapped_first x y p q) (one (λ z h. p z (there h)) s)
  single_exchanged (skip e) (one p s) = one (λ y h. p y (holds_exchanged (exchanged_sym e) h)) (single_exchanged e s)
  single_exchanged (more e f) s = single_exchanged f (single_exchanged e s)

  -- of two acts with different numbers each is told of under its own
  two_outcomes :
      (k : ℕ) (x y : Numbered Act) → x.number ≢ y.number → (a b rest : Option Result) →
      cond (eqb x.number k) a (cond (eqb y.number k) b rest) ≡ cond (eqb y.number k) b (cond (eqb x.number k) a rest)
  two_outcomes k x y differ a b rest = by_tests (eqb x.number k) (eqb y.number k) refl refl
    where
      by_tests : (s t : Bool) → eqb x.number k ≡ s → eqb y.number k ≡ t → cond s a (cond t b rest) ≡ cond t b (cond s a rest)
      by_tests true true p q = absurd (differ (eqb-true _ _ p ∙ sym (eqb-true _ _ q)))
      by_tests true false p q = refl
      by_tests false true p q = refl
      by_tests false false p q = refl

  pub exchange : Exchange w
  unfolding worked outcome_in
  exchange xs ys r single same = record { pages = λ p. refl; outcomes = λ k. refl }
  exchange _ _ r (one differ (one q s)) (swap {x} {y} {xs} apart) =
      let registers : after y (after x r) ≡ after x (after y r) = (λ i q. two_pages x y apart r q i) in
      record {
        pages = λ p. ap (λ s. worked w xs s p) registers;
        outcomes = λ k.
            two_outcomes k x y (λ e. differ y here (sym e)) _ _ _ ∙
            (λ i. cond (eqb y.number k) (Some (outcome_same y x (apart_sym x y apart) r i))
            (cond (eqb x.number k) (Some (sym (outcome_same x y apart r) i)) (outcome_in w xs (registers i) k)));
      }
  exchange _ _ r (one differ s) (skip {x} {xs} {ys} e) =
      let rest = exchange xs ys (after x r) s e in
      record {
        pages = rest.pages;
        outcomes = λ k. ap (cond (eqb x.number k) (Some (w.outcome x.number x.act r))) (rest.outcomes k);
      }
  exchange _ _ r s (more {xs} {ys} {zs} e f) =
      let first = exchange xs ys r s e in
      let second = exchange ys zs r (single_exchanged e s) f in
      record { pages = λ p. first.pages p ∙ second.pages p; outcomes = λ k. first.outcomes k ∙ second.outcomes k }
