-- Who never let another pass has only earlier entries before it. Assumes nothing.
use Rattle.std.proofs.Common.{◌≡◌, ℕ, zero, suc, Bool, true, false, ◌||◌, eqb, List, [], ◌∷◌, ◌++◌, Some, None, Option, sym, refl, ap, ◌∙◌, subst, ⊎_elim}
use Rattle.std.specs.List.{slice_get}
use Rattle.std.proofs.lemmas.Bool.{and_from, both_ways, cases_Bool, cond-false, cond-true, eq-eqb, eqb-true, or_cases, or_parts}
use Rattle.orders.specs.Desk.{stepped, turn}
use Rattle.entries.specs.Order.{all_below, distinct, follower}
use Rattle.entries.specs.Rank.{ahead, any, front, has, is, numbers, postponed, released}
use Rattle.entries.specs.declared.entry.Entry.{Entry}
use Rattle.entries.proofs.Numbers.{below_is, from}
use Rattle.entries.proofs.Rank.{named as called, nothing_new_ahead, what_stands}
use Rattle.pages.specs.Register.{Register}
use Rattle.filings.specs.Touches.{first_made, may_make, member, named}
use Rattle.filings.specs.declared.filing.Filing.{Filing}
use Rattle.filings.specs.declared.filing.Filing.TheVariants.{Postpone}
use Rattle.entering.specs.Entering.{entered, outcome}
use Rattle.entering.specs.declared.outcome.Outcome.{Outcome}
use Rattle.entering.specs.declared.outcome.Outcome.TheVariants.{Entered}
use Rattle.steps.specs.Acting.{acts}
use Rattle.steps.specs.Ranks.{RankKept, gives_way, has_behind, if_entered, let_pass, passing, passing_if}
use Rattle.steps.specs.Reasons.{some}
use Rattle.steps.specs.Sound.{Sound}
use Rattle.steps.proofs.Entries.{gone_for_good}
use Rattle.steps.proofs.Fates.{Course, course, fate}
use Rattle.steps.proofs.Fates.Course.{same, more, fill, release, postpone}
use Rattle.steps.proofs.Pages.{made_of}
use Rattle.steps.proofs.Sound.{signed_number, sound_bare, sound_later, stays_sound}
use Rattle.steps.proofs.Stays.{either_outcome, named_alike, rejected_stays}

-- ONE LIST OF ENTRIES

-- where an entry k of h stands, all before it have smaller numbers
abbrev Ranked : ℕ → ℕ → List Entry → Type 0
Ranked k h es = has k h es ≡ true → all_below k (numbers (ahead k h es)) ≡ true

-- where no number that is not below k is new, all stay below it
none_new : (k : ℕ) (xs ys : List Entry) → (any (from k) ys ≡ true → any (from k) xs ≡ true) → all_below k (numbers xs) ≡ true → all_below k (numbers ys) ≡ true
none_new k xs ys old below =
    let was = below_is k xs in
    let now = below_is k ys in
    ⊎_elim (λ y. let there = old y in cc) (λ n. cc) (cases_Bool (any (from k) ys))

-- all entries rank before a new one
front_new : (t : Entry → Bool) (e : Entry) (es : List Entry) → any t es ≡ false → t e ≡ true → front t (es ++ e ∷ []) ≡ es
unfolding any front
front_new t e [] none y = cc
front_new t e (f ∷ es) none y =
    let parts = or_parts (t f) (any t es) none in
    let next = front_new t e es parts.1 y in
    let here = parts.0 in
    cc

none_of : (q : Entry → Bool) (es : List Entry) → any (λ _. true) es ≡ false → any q es ≡ false
unfolding any
none_of q [] none = refl
none_of q (e ∷ es) none = absurd (both_ways true none refl)

module _ {n p a : ℕ} {f : Filing} {es fs : List Entry} (k h : ℕ) where
  -- on a page that the filing does not make, unless it lets another pass
  course_ranked :
      Course n p a f es fs → distinct (numbers es) ≡ true → all_below n (numbers es) ≡ true → (f ≡ Postpone p h k → has_behind k h es ≡ false) →
      Ranked k h es → Ranked k h fs
  course_ranked (same w) one low stays ranked = subst (Ranked k h) (sym w) ranked
  course_ranked (more e signed room w) one low stays ranked =
      subst (Ranked k h) (sym w)
      (λ y. ⊎_elim
      (λ t. ap (λ xs. all_below k (numbers xs)) (nothing_new_ahead.append k h e es t) ∙ ranked t)
      (λ none. ⊎_elim
      (λ t. absurd (both_ways (has k h es) none t))
      (λ t. let number : n ≡ k = sym (signed_number signed) ∙ (called k h e t).0 in
      ap (λ xs. all_below k (numbers xs)) (front_new (is k h) e es none t) ∙ subst (λ m. all_below m (numbers es) ≡ true) number low)
      (or_cases (has k h es) (is k h e) (sym (what_stands.append k h e es) ∙ y)))
      (cases_Bool (has k h es)))
  course_ranked (fill j i m this found w) one low stays ranked =
      subst (Ranked k h) (sym w)
      (λ y. ap (all_below k) (nothing_new_ahead.fill_numbers k h j i m es) ∙ ranked (sym (what_stands.fill k h j i m es) ∙ y))
  course_ranked (release j i this found w) one low stays ranked =
      named_alike k h j i
      (λ u v. let itself : fs ≡ released k h es = cc in λ y. absurd (both_ways (has k h fs) (ap (has k h) itself ∙ gone_for_good k h es one) y))
      (λ other. subst (Ranked k h) (sym w)
      (λ y. none_new k (ahead k h es) _ (nothing_new_ahead.release_nothing (from k) k h j i es other) (ranked (sym (what_stands.release k h j i es other) ∙ y))))
  course_ranked (postpone j i this found w) one low stays ranked =
      let stood : has k h fs ≡ true → has k h es ≡ true = λ y. sym (what_stands.postpone k h j i es) ∙ ap (has k h) (sym w) ∙ y in
      named_alike k h j i
      (λ u v. let itself : fs ≡ postponed k h es = cc in
      let last = none_of (from k) (follower (is k h) es) (stays (cc)) in
      λ y. none_new k (ahead k h es) (ahead k h fs)
      (λ t. ⊎_elim
      (λ b. b)
      (λ b. absurd (both_ways _ last b))
      (or_cases _ _ (nothing_new_ahead.itself (from k) k h es (ap (λ xs. any (from k) (ahead k h xs)) (sym itself) ∙ t))))
      (ranked (stood y)))
      (λ other y. none_new k (ahead k h es) (ahead k h fs)
      (λ t. nothing_new_ahead.postpone (from k) k h j i es other (ap (λ xs. any (from k) (ahead k h xs)) (sym w) ∙ t))
      (ranked (stood y)))

-- ONE FILING

none_among : (t : ℕ → Bool) (ps : List ℕ) → some t ps ≡ false → (q : ℕ) → member q ps ≡ true → t q ≡ false
none_among t [] none q y = absurd (both_ways false refl y)
none_among t (p ∷ ps) none q y =
    let parts = or_parts (t p) (some t ps) none in
    ⊎_elim
    (λ e. ap t (sym (eqb-true p q e)) ∙ parts.0)
    (λ e. none_among t ps parts.1 q e)
    (or_cases (eqb p q) (member q ps) y)

-- a postponement that lets nobody pass finds none behind
none_behind : (k h p : ℕ) (r : Register) (f : Filing) → gives_way k h f r p ≡ false → f ≡ Postpone p h k → has_behind k h (r p).entries ≡ false
none_behind k h p r f none this =
    ⊎_elim
    (λ y. absurd (both_ways _ (ap (λ g. gives_way k h g r p) (sym this) ∙ none)
    (and_from _ _ (eq-eqb p p refl) (and_from _ _ (eq-eqb k k refl) (and_from _ _ (eq-eqb h h refl) y)))))
    (λ n. n)
    (cases_Bool (has_behind k h (r p).entries))

module _ (P n k h : ℕ) (r : Register) (before : ℕ → Bool) (sound : Sound n r) (ranked : (p : ℕ) → before p ≡ false → Ranked k h (r p).entries) where
  entered_ranked : (f : Filing) (p : ℕ) → outcome P n f r ≡ Entered → passing P k h n f r before p ≡ false → Ranked k h (entered P n f r p).entries
  entered_ranked f p e none =
      ⊎_elim
      (λ made. let from = made_of P n f p r e made in
      let old = none_among before (named f) (sym (cond-true _ (some before (named f)) (before p || gives_way k h f r p) made) ∙ none) from.0 from.1 in
      subst (Ranked k h) (sym from.2) (ranked from.0 old))
      (λ new. let parts = or_parts (before p) (gives_way k h f r p) (sym (cond-false _ (some before (named f)) _ new) ∙ none) in
      course_ranked k h (course (fate P n f r p new)) (sound.distinct_numbers p) (sound.below p) (none_behind k h p r f parts.1) (ranked p parts.0))
      (cases_Bool (member p (may_make (first_made P n) f)))

  stepped_ranked : (o : Option Filing) (p : ℕ) → passing_if P k h n o r before p ≡ false → Ranked k h (stepped (acts P) n o r p).entries
  stepped_ranked None p none = ranked p none
  stepped_ranked (Some f) p none =
      let there = λ (o : Outcome). if_entered o (passing P k h n f r before p) (before p) in
      ⊎_elim
      (λ e. entered_ranked f p e (ap there (sym e) ∙ none))
      (λ s. subst (λ after. Ranked k h (after p).entries) (sym (rejected_stays P n f r s.0 s.1)) (ranked p (ap there (sym s.1) ∙ none)))
      (either_outcome (outcome P n f r))

stepped_sound : (P n : ℕ) (r : Register) → Sound n r → (o : Option Filing) → Sound (suc n) (stepped (acts P) n o r)
stepped_sound P n r sound None = sound_later n r sound
stepped_sound P n r sound (Some f) = stays_sound P n f r sound

-- THE ORDER OF FILING

turn_sound : (P : ℕ) (start : Register) → ((p : ℕ) → (start p).entries ≡ []) → (fs : List Filing) (n : ℕ) → Sound n (turn (acts P) start fs n)
unfolding turn
turn_sound P start bare fs zero = sound_bare start bare
turn_sound P start bare fs (suc n) = stepped_sound P n (turn (acts P) start fs n) (turn_sound P start bare fs n) (slice_get fs n)

pub rank_kept : RankKept
unfolding turn let_pass all_below numbers front
rank_kept P start bare fs zero p k h none y = ap (λ (es : List Entry). all_below k (numbers (ahead k h es))) (bare p)
rank_kept P start bare fs (suc n) p k h none y =
    stepped_ranked P n k h (turn (acts P) start fs n) (let_pass P start fs k h n) (turn_sound P start bare fs n) (λ q. rank_kept P start bare fs n q k h) (slice_get fs n) p none y
