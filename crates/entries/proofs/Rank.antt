-- The laws of a page's entries, for the entries that a number and a holder name. Assumes nothing.
use Rattle.std.proofs.Common.{◌≡◌, ℕ, ◌≤◌, Bool, true, false, ◌||◌, eqb, List, [], ◌∷◌, ◌++◌, length, Decides, sym, refl, ap, ◌∙◌, subst, ⊎_elim, arith}
use Rattle.std.proofs.lemmas.List.{length_push}
use Rattle.std.proofs.lemmas.Bool.{and_from, and_parts, cases_Bool, eq-eqb, eqb-true, true≢false}
use Rattle.entries.specs.Laws.{WhatStands, OthersUnchanged, NumbersThatStand, StaysDistinct, StaysBelow, HowMany, NothingNewAhead, RankNoWorse, OrderKept}
use Rattle.entries.specs.Order.{Other, alike, same, same_claim, distinct, all_below}
use Rattle.entries.specs.Rank.{any, is, is_reserved, reserves, charge, ahead, filled, released, numbers}
use Rattle.entries.specs.declared.entry.Claim.{Claim}
use Rattle.entries.specs.declared.entry.Claim.TheVariants.{Charge, Reserved}
use Rattle.entries.specs.declared.entry.Entry.{Entry}
use Rattle.entries.proofs.First.{any_append}
use Rattle.entries.proofs.Numbers.{eqb_turned, numbers_append, numbers_changed, member_without, member_yielded}
use Rattle.entries.proofs.Numbers.{distinct_append, distinct_without, distinct_yielded, below_append, below_without, below_yielded}
use Rattle.entries.proofs.Tests.{Alike, Apart, any_changed, any_without, without_any, any_yielded, changed_keeps, changed_stands}
use Rattle.entries.proofs.Tests.{front_append, front_changed, front_without, front_yielded, front_itself, front_itself_keeps, front_kept, one_in_front}
use Rattle.entries.proofs.Tests.{length_changed, length_without, length_yielded, length_front_yielded, length_front_itself, without_none}

pub named : (k h : ℕ) (e : Entry) → is k h e ≡ true → (e.number ≡ k) × (e.holder ≡ h)
named k h e y =
    let parts = and_parts (eqb e.number k) (eqb e.holder h) y in
    (eqb-true _ _ parts.0, eqb-true _ _ parts.1)

pub reserved_is : (k h : ℕ) (e : Entry) → is_reserved k h e ≡ true → is k h e ≡ true
reserved_is k h e y = (and_parts (is k h e) (reserves e.claim) y).0

pub charge_is : (k h m : ℕ) → is k h (charge k h m) ≡ true
charge_is k h m = and_from (eqb k k) (eqb h h) (eq-eqb k k refl) (eq-eqb h h refl)

pub other_turned : (k h j i : ℕ) → Other k h j i → Other j i k h
other_turned k h j i other = let a = eqb_turned k j in let b = eqb_turned h i in cc

-- no entry has two names
pub other_apart : (k h j i : ℕ) → Other k h j i → Apart (is j i) (is k h)
other_apart k h j i other e y =
    let at = named j i e y in
    let a = eqb_turned k j in
    let b = eqb_turned h i in
    cc

-- a charge that fills a reservation has its name
pub charge_alike : (k h j i m : ℕ) → Alike (is_reserved j i) (is k h) (charge j i m)
charge_alike k h j i m e y = let at = named j i e (reserved_is j i e y) in cc

same_claims : (a b : Claim) → same_claim a b ≡ true → a ≡ b
same_claims (Charge m) (Charge n) h = ap Charge (eqb-true m n h)
same_claims (Charge m) Reserved h = cc
same_claims Reserved (Charge n) h = cc
same_claims Reserved Reserved h = refl

same_claim_itself : (a : Claim) → same_claim a a ≡ true
same_claim_itself (Charge m) = eq-eqb m m refl
same_claim_itself Reserved = refl

pub same_from : (e f : Entry) → same e f ≡ true → e ≡ f
same_from e f h =
    let parts = and_parts (is e.number e.holder f) (same_claim e.claim f.claim) h in
    let at = named e.number e.holder f parts.0 in
    let kind = same_claims e.claim f.claim parts.1 in
    let name = sym at.0 in
    let who = sym at.1 in
    λ x. record { number = name x; holder = who x; claim = kind x }

same_itself : (e : Entry) → same e e ≡ true
same_itself e =
    and_from _ _ (and_from _ _ (eq-eqb e.number e.number refl) (eq-eqb e.holder e.holder refl)) (same_claim_itself e.claim)

pub same_decides : (e f : Entry) → Decides (same e f) (e ≡ f)
same_decides e f = (same_from e f, λ p. subst (λ (g : Entry). same e g ≡ true) p (same_itself e))

pub alike_decides : (es fs : List Entry) → Decides (alike es fs) (es ≡ fs)
unfolding alike
alike_decides [] [] = (λ y. refl, λ e. refl)
alike_decides [] (f ∷ fs) = (λ y. absurd (true≢false (sym y)), λ e. absurd (let z : ◌≡◌ {A = ℕ} 0 1 = cc in omega arith))
alike_decides (e ∷ es) [] = (λ y. absurd (true≢false (sym y)), λ p. absurd (let z : ◌≡◌ {A = ℕ} 0 1 = cc in omega arith))
alike_decides (e ∷ es) (f ∷ fs) =
    let here = same_decides e f in
    let rest = alike_decides es fs in (
      λ y. let both = and_parts _ _ y in let p = here.0 both.0 in let q = rest.0 both.1 in (λ i. p i ∷ q i),
      λ p. let q : e ≡ f = cc in let r : es ≡ fs = cc in and_from _ _ (here.1 q) (rest.1 r),
    )

-- an entry that does not answer a test is none that does
pub unlike_apart : (t : Entry → Bool) (e : Entry) → t e ≡ false → Apart t (same e)
unlike_apart t e differs f y = ⊎_elim (λ b. let p = same_from e f b in cc) (λ n. n) (cases_Bool (same e f))

pub charge_unlike : (e : Entry) (j i m : ℕ) → is j i e ≡ false → Alike (is_reserved j i) (same e) (charge j i m)
charge_unlike e j i m differs f y =
    let apart = unlike_apart (is j i) e differs in
    apart f (reserved_is j i f y) ∙ sym (apart (charge j i m) (charge_is j i m))

-- one more entry that is asked
pub any_push : (s : Entry → Bool) (e : Entry) (es : List Entry) → any s (es ++ e ∷ []) ≡ (any s es || s e)
unfolding any
any_push s e es = let parts = any_append s es (e ∷ []) in ⊎_elim (λ y. cc) (λ n. cc) (cases_Bool (s e))

pub what_stands : WhatStands
what_stands = record {
  append = λ k h e es. any_push (is k h) e es;
  fill = λ k h j i m es. any_changed (is_reserved j i) (is k h) (charge j i m) (charge_alike k h j i m) es;
  release = λ k h j i es other. any_without (is j i) (is k h) (other_apart k h j i other) es;
  postpone = λ k h j i es. any_yielded (is j i) (is k h) es;
}

pub others_unchanged : OthersUnchanged
others_unchanged = record {
  decides = same_decides;
  decides_all = alike_decides;
  append = λ e new es. any_push (same e) new es;
  fill = λ e j i m es differs. any_changed (is_reserved j i) (same e) (charge j i m) (charge_unlike e j i m differs) es;
  fill_keeps = λ e j i m es differs. changed_keeps (is_reserved j i) (same e) (charge j i m) (unlike_apart (is_reserved j i) e differs) es;
  charge_stands = λ j i m es y. changed_stands (is_reserved j i) (same (charge j i m)) (charge j i m) es (same_itself (charge j i m)) y;
  release = λ e j i es differs. any_without (is j i) (same e) (unlike_apart (is j i) e differs) es;
  postpone = λ e j i es. any_yielded (is j i) (same e) es;
}

filled_numbers : (j i m : ℕ) (es : List Entry) → numbers (filled j i m es) ≡ numbers es
filled_numbers j i m es = numbers_changed (is_reserved j i) (charge j i m) (λ e y. (named j i e (reserved_is j i e y)).0) es

pub numbers_that_stand : NumbersThatStand
numbers_that_stand = record {
  append = numbers_append;
  fill = filled_numbers;
  release = λ n j i es. member_without (is j i) n es;
  postpone = λ n j i es. member_yielded (is j i) n es;
}

pub stays_distinct : StaysDistinct
stays_distinct = record {
  append = λ e es differs. ap distinct (numbers_append e es) ∙ distinct_append e.number (numbers es) differs;
  fill = λ j i m es. ap distinct (filled_numbers j i m es);
  release = λ j i es. distinct_without (is j i) es;
  postpone = λ j i es. distinct_yielded (is j i) es;
}

pub stays_below : StaysBelow
stays_below = record {
  append = below_append;
  fill = λ n j i m es. ap (all_below n) (filled_numbers j i m es);
  release = λ n j i es. below_without (is j i) n es;
  postpone = λ n j i es. below_yielded (is j i) n es;
}

pub how_many : HowMany
how_many = record {
  append = λ e es. length_push es e;
  fill = λ j i m es. length_changed (is_reserved j i) (charge j i m) es;
  release = λ j i es y. omega (arith, length_without (is j i) es y);
  postpone = λ j i es. length_yielded (is j i) es;
}

fill_ahead : (k h j i m : ℕ) (es : List Entry) → ahead k h (filled j i m es) ≡ filled j i m (ahead k h es)
fill_ahead k h j i m es = front_changed (is_reserved j i) (is k h) (charge j i m) (charge_alike k h j i m) es

release_ahead : (k h j i : ℕ) (es : List Entry) → Other k h j i → ahead k h (released j i es) ≡ released j i (ahead k h es)
release_ahead k h j i es other = front_without (is j i) (is k h) (other_apart k h j i other) es

pub nothing_new_ahead : NothingNewAhead
nothing_new_ahead = record {
  append = λ k h e es y. front_append (is k h) es (e ∷ []) y;
  fill = fill_ahead;
  fill_numbers = λ k h j i m es. ap numbers (fill_ahead k h j i m es) ∙ filled_numbers j i m (ahead k h es);
  release = release_ahead;
  release_nothing = λ q k h j i es other y. without_any (is j i) q (ahead k h es) (ap (any q) (sym (release_ahead k h j i es other)) ∙ y);
  postpone = λ q k h j i es other. front_yielded (is j i) (is k h) (other_apart k h j i other) q es;
  itself = λ q k h es. front_itself (is k h) q es;
  itself_keeps = λ q k h es. front_itself_keeps (is k h) q es;
}

length_released : (j i : ℕ) (es : List Entry) → length (released j i es) ≤ length es
length_released j i es =
    ⊎_elim
    (λ y. omega (arith, length_without (is j i) es y))
    (λ n. omega (arith, ap length (without_none (is j i) es n)))
    (cases_Bool (any (is j i) es))

pub rank_no_worse : RankNoWorse
rank_no_worse = record {
  append = λ k h e es y. ap length (front_append (is k h) es (e ∷ []) y);
  fill = λ k h j i m es. ap length (fill_ahead k h j i m es) ∙ length_changed (is_reserved j i) (charge j i m) (ahead k h es);
  release = λ k h j i es other. rw (release_ahead k h j i es other) (length_released j i (ahead k h es));
  postpone = λ k h j i es other. length_front_yielded (is j i) (is k h) (other_apart k h j i other) es;
  itself = λ k h es. length_front_itself (is k h) es;
}

pub order_kept : OrderKept
order_kept = record {
  one = λ k h j i es other a b. one_in_front (is k h) (is j i) (other_apart j i k h (other_turned k h j i other)) es a b;
  append = λ k h j i e es y. ap (any (is k h)) (front_append (is j i) es (e ∷ []) y);
  fill = λ k h j i n g m es. ap (any (is k h)) (fill_ahead j i n g m es) ∙ any_changed (is_reserved n g) (is k h) (charge n g m) (charge_alike k h n g m) (ahead j i es);
  release = λ k h j i n g es one other. ap (any (is k h)) (release_ahead j i n g es other) ∙ any_without (is n g) (is k h) (other_apart k h n g one) (ahead j i es);
  postpone = λ k h j i n g es other y. front_kept (is n g) (is k h) (other_apart k h n g other) (is j i) es y;
}
