-- Pages stay sound. Assumes nothing.
use Rattle.std.proofs.Common.{◌≡◌, ℕ, suc, ◌≤◌, true, false, ltb, List, [], ◌∷◌, length, sym, refl, ap, ◌∙◌, subst, ⊎_elim, arith}
use Rattle.std.proofs.lemmas.Bool.{and_from, and_parts, cases_Bool, lt-ltb, ltb-true, ne_eqb, or_from}
use Rattle.entries.specs.Order.{all_below, distinct, member}
use Rattle.entries.specs.Rank.{numbers}
use Rattle.entries.specs.declared.entry.Entry.{Entry}
use Rattle.entries.proofs.Rank.{stays_distinct, stays_below, how_many}
use Rattle.pages.specs.Register.{Register}
use Rattle.filings.specs.Touches.{first_made, may_make, member as touched_in}
use Rattle.filings.specs.declared.filing.Filing.{Filing}
use Rattle.entering.specs.Entering.{entered}
use Rattle.steps.specs.Entries.{SignedFor}
use Rattle.steps.specs.Sound.{Sound, StaysSound}
use Rattle.steps.proofs.Fates.{Course, course, fate}
use Rattle.steps.proofs.Fates.Course.{same, more, fill, release, postpone}
use Rattle.steps.proofs.Pages.{made_of}
use Rattle.steps.proofs.Stays.{by_outcome}

-- ONE LIST OF ENTRIES

record SoundList (n : ℕ) (es : List Entry) : Type 0 where
  room : length es ≤ 32
  distinct_numbers : distinct (numbers es) ≡ true
  below : all_below n (numbers es) ≡ true

below_more : (n : ℕ) (ns : List ℕ) → all_below n ns ≡ true → all_below (suc n) ns ≡ true
unfolding all_below
below_more n [] y = refl
below_more n (m ∷ ms) y =
    let parts = and_parts (ltb m n) (all_below n ms) y in
    let l = ltb-true m n parts.0 in
    and_from _ _ (lt-ltb m (suc n) (omega arith)) (below_more n ms parts.1)

-- a number that is not below is none of them
not_among : (n : ℕ) (ns : List ℕ) → all_below n ns ≡ true → member n ns ≡ false
unfolding all_below member
not_among n [] y = refl
not_among n (m ∷ ms) y =
    let parts = and_parts (ltb m n) (all_below n ms) y in
    let l = ltb-true m n parts.0 in
    or_from _ _ (ne_eqb m n (λ e. omega arith)) (not_among n ms parts.1)

later : (n : ℕ) (es : List Entry) → SoundList n es → SoundList (suc n) es
later n es s = record { room = s.room; distinct_numbers = s.distinct_numbers; below = below_more n (numbers es) s.below }

pub signed_number : {n p a : ℕ} {f : Filing} {e : Entry} → SignedFor n p a f e → e.number ≡ n
signed_number signed = ⊎_elim (λ s. ap (λ (e : Entry). e.number) s.2) (λ s. ap (λ (e : Entry). e.number) s.1) signed

course_sound : {n p a : ℕ} {f : Filing} {es fs : List Entry} → Course n p a f es fs → SoundList n es → SoundList (suc n) fs
course_sound {n} {es = es} (same e) s = subst (SoundList (suc n)) (sym e) (later n es s)
course_sound {n} {es = es} (more e signed room new) s =
    let next = later n es s in
    let number = signed_number signed in
    subst (SoundList (suc n)) (sym new)
    (record {
      room = omega (arith, how_many.append e es);
      distinct_numbers = stays_distinct.append e es (ap (λ k. member k (numbers es)) number ∙ not_among n (numbers es) s.below) ∙ s.distinct_numbers;
      below = stays_below.append (suc n) e es ∙ and_from _ _ next.below (lt-ltb e.number (suc n) (omega arith));
    })
course_sound {n} {es = es} (fill k h m this found e) s =
    let next = later n es s in
    subst (SoundList (suc n)) (sym e)
    (record {
      room = omega (arith, how_many.fill k h m es);
      distinct_numbers = stays_distinct.fill k h m es ∙ s.distinct_numbers;
      below = stays_below.fill (suc n) k h m es ∙ next.below;
    })
course_sound {n} {es = es} (release k h this found e) s =
    let next = later n es s in
    subst (SoundList (suc n)) (sym e)
    (record {
      room = omega (arith, how_many.release k h es found);
      distinct_numbers = stays_distinct.release k h es s.distinct_numbers;
      below = stays_below.release (suc n) k h es next.below;
    })
course_sound {n} {es = es} (postpone k h this found e) s =
    let next = later n es s in
    subst (SoundList (suc n)) (sym e)
    (record {
      room = omega (arith, how_many.postpone k h es);
      distinct_numbers = stays_distinct.postpone k h es ∙ s.distinct_numbers;
      below = stays_below.postpone (suc n) k h es ∙ next.below;
    })

-- ALL PAGES

module _ (P n : ℕ) (f : Filing) (r : Register) (s : Sound n r) where
  page_before : (p : ℕ) → SoundList n (r p).entries
  page_before p = record { room = s.room p; distinct_numbers = s.distinct_numbers p; below = s.below p }

  page_after : (p : ℕ) → SoundList (suc n) (entered P n f r p).entries
  page_after p =
      ⊎_elim
      (λ y. by_outcome (λ after. SoundList (suc n) (after p).entries) P n f r
      (λ e. let from = made_of P n f p r e y in subst (SoundList (suc n)) (sym from.2) (later n (r from.0).entries (page_before from.0)))
      (later n (r p).entries (page_before p)))
      (λ new. course_sound (course (fate P n f r p new)) (page_before p))
      (cases_Bool (touched_in p (may_make (first_made P n) f)))

-- where nothing is filed
pub sound_later : (n : ℕ) (r : Register) → Sound n r → Sound (suc n) r
sound_later n r s = record { room = s.room; distinct_numbers = s.distinct_numbers; below = λ p. below_more n (numbers (r p).entries) (s.below p) }

-- where no page has entries
pub sound_bare : (r : Register) → ((p : ℕ) → (r p).entries ≡ []) → Sound 0 r
unfolding distinct all_below numbers
sound_bare r bare = record {
  room = λ p. rw (bare p) (omega arith);
  distinct_numbers = λ p. ap (λ (es : List Entry). distinct (numbers es)) (bare p);
  below = λ p. ap (λ (es : List Entry). all_below 0 (numbers es)) (bare p);
}

pub stays_sound : StaysSound
stays_sound P n f r s = record {
  room = λ p. (page_after P n f r s p).room;
  distinct_numbers = λ p. (page_after P n f r s p).distinct_numbers;
  below = λ p. (page_after P n f r s p).below;
}
