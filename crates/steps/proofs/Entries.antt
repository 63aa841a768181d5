-- What becomes of one entry, and of the order of two. Assumes nothing.
use Rattle.std.proofs.Common.{◌≡◌, ℕ, Bool, true, false, cond, eqb, ◌⊎◌, List, [], ◌∷◌, ◌++◌, sym, refl, ap, ◌∙◌, subst, inl, inr, ⊎_elim}
use Rattle.std.proofs.lemmas.Bool.{and_parts, both_ways, cases_Bool, not-true, or_cases, or_left, or_right}
use Rattle.entries.specs.Order.{before, distinct, member, same, stands}
use Rattle.entries.specs.Rank.{any, changed, charge, front, has, is, is_reserved, numbers, released, reserves, without}
use Rattle.entries.specs.declared.entry.Claim.{Claim}
use Rattle.entries.specs.declared.entry.Claim.TheVariants.{Charge, Reserved}
use Rattle.entries.specs.declared.entry.Entry.{Entry}
use Rattle.entries.proofs.Rank.{named, reserved_is, same_from, order_kept, others_unchanged}
use Rattle.entries.proofs.Tests.{without_any}
use Rattle.filings.specs.declared.filing.Filing.{Filing}
use Rattle.filings.specs.declared.filing.Filing.TheVariants.{Fill, Release, Postpone}
use Rattle.steps.specs.Entries.{Amounts, NewEntries, Order, SignedFor}
use Rattle.steps.proofs.Fates.{Course, course, fate}
use Rattle.steps.proofs.Fates.Course.{same as as_it_was, more, fill, release, postpone}
use Rattle.steps.proofs.Stays.{named_alike}

-- AMOUNTS

reserved_claim : (c : Claim) → reserves c ≡ true → c ≡ Reserved
reserved_claim (Charge m) y = cc
reserved_claim Reserved y = refl

module _ {n p a : ℕ} {f : Filing} {es fs : List Entry} (e : Entry) where
  entry_changed :
      Course n p a f es fs → stands e es ≡ true → stands e fs ≡ false →
      (f ≡ Release p e.holder e.number) ⊎ ((m : ℕ) × (f ≡ Fill p a e.holder e.number m) × (e.claim ≡ Reserved))
  entry_changed (as_it_was w) y gone = absurd (both_ways (stands e fs) gone (ap (stands e) w ∙ y))
  entry_changed (more new signed room w) y gone =
      absurd (both_ways (stands e fs) gone (ap (stands e) w ∙ others_unchanged.append e new es ∙ or_left (stands e es) (same e new) y))
  entry_changed (fill j i m this found w) y gone =
      ⊎_elim
      (λ t. let at = named j i e (reserved_is j i e t) in
      let kind = reserved_claim e.claim (and_parts (is j i e) (reserves e.claim) t).1 in
      inr (m, cc, kind))
      (λ t. absurd (both_ways (stands e fs) gone (ap (stands e) w ∙ others_unchanged.fill_keeps e j i m es t y)))
      (cases_Bool (is_reserved j i e))
  entry_changed (release j i this found w) y gone =
      ⊎_elim
      (λ t. let at = named j i e t in inl (cc))
      (λ t. absurd (both_ways (stands e fs) gone (ap (stands e) w ∙ others_unchanged.release e j i es t ∙ y)))
      (cases_Bool (is j i e))
  entry_changed (postpone j i this found w) y gone = absurd (both_ways (stands e fs) gone (ap (stands e) w ∙ others_unchanged.postpone e j i es ∙ y))

pub amounts : Amounts
amounts P n f r p e new y gone = entry_changed e (course (fate P n f r p new)) y gone

-- NEW ENTRIES

-- what stands after one entry was changed stood before, or is what came in its place
changed_from : (s t : Entry → Bool) (new : Entry) (es : List Entry) → any s (changed t new es) ≡ true → (any s es ≡ true) ⊎ (s new ≡ true)
unfolding any changed
changed_from s t new [] y = inl y
changed_from s t new (e ∷ es) y =
    ⊎_elim
    (λ a. ⊎_elim (λ b. inr b) (λ b. inl (or_right (s e) (any s es) b)) (or_cases (s new) (any s es) (ap (λ b. any s (cond b (new ∷ es) (e ∷ changed t new es))) (sym a) ∙ y)))
    (λ a. ⊎_elim
    (λ b. inl (or_left (s e) (any s es) b))
    (λ b. ⊎_elim (λ d. inl (or_right (s e) (any s es) d)) inr (changed_from s t new es b))
    (or_cases (s e) (any s (changed t new es)) (ap (λ b. any s (cond b (new ∷ es) (e ∷ changed t new es))) (sym a) ∙ y)))
    (cases_Bool (t e))

module _ {n p a : ℕ} {f : Filing} {es fs : List Entry} (e : Entry) where
  entry_added :
      Course n p a f es fs → stands e es ≡ false → stands e fs ≡ true →
      SignedFor n p a f e ⊎ ((m : ℕ) × (f ≡ Fill p a e.holder e.number m) × (e ≡ charge e.number e.holder m))
  entry_added (as_it_was w) none y = absurd (both_ways (stands e es) none (ap (stands e) (sym w) ∙ y))
  entry_added (more new signed room w) none y =
      ⊎_elim
      (λ t. absurd (both_ways (stands e es) none t))
      (λ t. inl (subst (SignedFor n p a f) (sym (same_from e new t)) signed))
      (or_cases (stands e es) (same e new) (sym (others_unchanged.append e new es) ∙ ap (stands e) (sym w) ∙ y))
  entry_added (fill j i m this found w) none y =
      ⊎_elim
      (λ t. absurd (both_ways (stands e es) none t))
      (λ t. let is_it = same_from e (charge j i m) t in inr (m, cc, cc))
      (changed_from (same e) (is_reserved j i) (charge j i m) es (ap (stands e) (sym w) ∙ y))
  entry_added (release j i this found w) none y = absurd (both_ways (stands e es) none (without_any (is j i) (same e) es (ap (stands e) (sym w) ∙ y)))
  entry_added (postpone j i this found w) none y =
      absurd (both_ways (stands e es) none (sym (others_unchanged.postpone e j i es) ∙ ap (stands e) (sym w) ∙ y))

pub new_entries : NewEntries
new_entries P n f r p e new none y = entry_added e (course (fate P n f r p new)) none y

-- ORDER

-- what stands ahead stays there when entries are added at the end
front_longer : (s t : Entry → Bool) (es ys : List Entry) → any s (front t es) ≡ true → any s (front t (es ++ ys)) ≡ true
unfolding any front
front_longer s t [] ys h = absurd (both_ways false refl h)
front_longer s t (e ∷ es) ys h =
    ⊎_elim
    (λ y. cc)
    (λ y. let next = front_longer s t es ys in ⊎_elim (λ b. cc) (λ b. let more = next (cc) in cc) (cases_Bool (s e)))
    (cases_Bool (t e))

module _ {n p a : ℕ} {f : Filing} {es fs : List Entry} (k h j i : ℕ) where
  order_changed :
      Course n p a f es fs → before k h j i es ≡ true → before k h j i fs ≡ false →
      (f ≡ Postpone p h k) ⊎ (((f ≡ Release p h k) × (fs ≡ released k h es)) ⊎ ((f ≡ Release p i j) × (fs ≡ released j i es)))
  order_changed (as_it_was w) y gone = absurd (both_ways (before k h j i fs) gone (ap (before k h j i) w ∙ y))
  order_changed (more e signed room w) y gone =
      absurd (both_ways (before k h j i fs) gone (ap (before k h j i) w ∙ front_longer (is k h) (is j i) es (e ∷ []) y))
  order_changed (fill l g m this found w) y gone =
      absurd (both_ways (before k h j i fs) gone (ap (before k h j i) w ∙ order_kept.fill k h j i l g m es ∙ y))
  order_changed (release l g this found w) y gone =
      named_alike k h l g
      (λ u v. inr (inl (cc, cc)))
      (λ one. named_alike j i l g
      (λ u v. inr (inr (cc, cc)))
      (λ other. absurd (both_ways (before k h j i fs) gone (ap (before k h j i) w ∙ order_kept.release k h j i l g es one other ∙ y))))
  order_changed (postpone l g this found w) y gone =
      named_alike k h l g
      (λ u v. inl (cc))
      (λ one. absurd (both_ways (before k h j i fs) gone (ap (before k h j i) w ∙ order_kept.postpone k h j i l g es one y)))

-- an entry k of h stands under its number
has_number : (k h : ℕ) (es : List Entry) → has k h es ≡ true → member k (numbers es) ≡ true
unfolding any member numbers
has_number k h [] y = absurd (both_ways false refl y)
has_number k h (e ∷ es) y =
    ⊎_elim
    (λ t. or_left (eqb e.number k) _ (and_parts (eqb e.number k) (eqb e.holder h) t).0)
    (λ t. or_right (eqb e.number k) _ (has_number k h es t))
    (or_cases (is k h e) (has k h es) y)

-- where numbers are distinct nothing of that name is left
pub gone_for_good : (k h : ℕ) (es : List Entry) → distinct (numbers es) ≡ true → has k h (released k h es) ≡ false
unfolding any distinct numbers without
gone_for_good k h [] one = refl
gone_for_good k h (e ∷ es) one =
    let parts = and_parts _ (distinct (numbers es)) one in
    ⊎_elim
    (λ y. let at = named k h e y in
    let none = not-true (member e.number (numbers es)) parts.0 in
    let left : has k h es ≡ false = ⊎_elim (λ t. absurd (both_ways (member k (numbers es)) (ap (λ l. member l (numbers es)) (sym at.0) ∙ none) (has_number k h es t))) (λ t. t) (cases_Bool (has k h es)) in
    cc)
    (λ y. let next = gone_for_good k h es parts.1 in cc)
    (cases_Bool (is k h e))

pub order : Order
order = record {
  changes = λ P n f r p k h j i new y gone.
      ⊎_elim inl (λ s. inr (⊎_elim (λ t. inl t.0) (λ t. inr t.0) s)) (order_changed k h j i (course (fate P n f r p new)) y gone);
  postponed = λ P n f r p k h j i new one y here there gone.
      ⊎_elim (λ e. e)
      (λ s. ⊎_elim
      (λ t. absurd (both_ways _ (ap (has k h) t.1 ∙ gone_for_good k h (r p).entries one) here))
      (λ t. absurd (both_ways _ (ap (has j i) t.1 ∙ gone_for_good j i (r p).entries one) there))
      s)
      (order_changed k h j i (course (fate P n f r p new)) y gone);
}
