-- The first reason that holds is the outcome. Assumes nothing.
use Rattle.std.proofs.Common.{◌≡◌, ℕ, suc, ◌<◌, ◌≤◌, Bool, true, false, cond, not, ◌&&◌, ◌||◌, eqb, ltb, leb, ◌⊎◌, length, Ok, Err, sym, refl, ap, ◌∙◌, subst, inl, inr, ⊎_elim, arith}
use Rattle.std.proofs.lemmas.Bool.{both_ways, cases_Bool, cases_order}
use Rattle.std.proofs.lemmas.Bool.Decides.{nat_tests}
use Rattle.entries.specs.Order.{alike}
use Rattle.entries.specs.Rank.{has, has_reserved}
use Rattle.entries.specs.Sheet.{Sheet}
use Rattle.pages.specs.Register.{Register}
use Rattle.filings.specs.declared.filing.Filing.{Filing}
use Rattle.filings.specs.declared.filing.Filing.TheVariants.{Transfer, Charge, Reserve, Fill, Release, Postpone, Subdivide, Merge}
use Rattle.entering.specs.Entering.{alone, outcome}
use Rattle.entering.specs.Outcome.{reason_of, verdict}
use Rattle.entering.specs.declared.outcome.Outcome.TheVariants.{Entered, Rejected}
use Rattle.entering.specs.declared.outcome.Rejection.{Rejection}
use Rattle.entering.specs.declared.outcome.Rejection.TheVariants.{NotLive, NotOwner, NoEntry, Area, Itself, Unlike, Full}
use Rattle.steps.specs.Reasons.{FirstReason, by_table, condition, first_of}

-- THE TABLE

no_room : (m : ℕ) → leb 32 m ≡ not (ltb m 32)
no_room m = grind (arith, nat_tests)

nothing_cut : (m area : ℕ) → (eqb m 0 || leb area m) ≡ not (ltb 0 m && ltb m area)
nothing_cut m area = grind (arith, nat_tests)

-- a filing on one page, with one more test after those of the page and of the owner; u is the row of the table for that test
on_one_page :
    (p : ℕ) (l o t u : Bool) (s : Sheet) (k : Rejection) → u ≡ not t →
    verdict (cond l (alone p (cond o (cond t (Ok s) (Err k)) (Err NotOwner))) (Err NotLive)) ≡
    cond (not l || false) (Rejected NotLive) (cond (not o || false) (Rejected NotOwner) (cond u (Rejected k) Entered))
on_one_page p false o t u s k row = refl
on_one_page p true false t u s k row = refl
on_one_page p true true true u s k row = cc
on_one_page p true true false u s k row = cc

table : (P n : ℕ) (f : Filing) (r : Register) → outcome P n f r ≡ by_table f r
unfolding outcome
table P n (Transfer p a b) r = on_one_page p (r p).live (eqb (r p).owner a) true false _ Full refl
table P n (Charge p a h m) r = on_one_page p (r p).live (eqb (r p).owner a) _ _ _ Full (no_room (length (r p).entries))
table P n (Reserve p a h) r = on_one_page p (r p).live (eqb (r p).owner a) _ _ _ Full (no_room (length (r p).entries))
table P n (Fill p a h k m) r = on_one_page p (r p).live (eqb (r p).owner a) (has_reserved k h (r p).entries) _ _ NoEntry refl
table P n (Release p h k) r = on_one_page p (r p).live true (has k h (r p).entries) _ _ NoEntry refl
table P n (Postpone p h k) r = on_one_page p (r p).live true (has k h (r p).entries) _ _ NoEntry refl
table P n (Subdivide p a m) r =
    let cut = nothing_cut m (r p).area in
    ⊎_elim
    (λ l. ⊎_elim (λ o. ⊎_elim (λ s. cc) (λ s. cc) (cases_Bool (ltb 0 m && ltb m (r p).area))) (λ o. cc) (cases_Bool (eqb (r p).owner a)))
    (λ l. cc)
    (cases_Bool (r p).live)
table P n (Merge p q a) r =
    ⊎_elim
    (λ l. ⊎_elim
    (λ l'. ⊎_elim
    (λ o. ⊎_elim
    (λ o'. ⊎_elim (λ i. cc) (λ i. ⊎_elim (λ s. cc) (λ s. cc) (cases_Bool (alike (r p).entries (r q).entries))) (cases_Bool (eqb p q)))
    (λ o'. cc)
    (cases_Bool (eqb (r q).owner a)))
    (λ o. cc)
    (cases_Bool (eqb (r p).owner a)))
    (λ l'. cc)
    (cases_Bool (r q).live))
    (λ l. cc)
    (cases_Bool (r p).live)

-- THE FIRST OF THEM

abbrev of_reason : ℕ → Rejection
of_reason n =
    cond (eqb n 1) NotLive (cond (eqb n 2) NotOwner (cond (eqb n 3) NoEntry (cond (eqb n 4) Area (cond (eqb n 5) Itself (cond (eqb n 6) Unlike Full)))))

of_its_reason : (k : Rejection) → of_reason (reason_of k) ≡ k
of_its_reason k =
    elim k as (λ j. of_reason (reason_of j) ≡ j)
    [ NotLive ↦ refl | NotOwner ↦ refl | NoEntry ↦ refl | Area ↦ refl | Itself ↦ refl | Unlike ↦ refl | Full ↦ refl ]

same_reason : (j k : Rejection) → reason_of j ≡ reason_of k → j ≡ k
same_reason j k e = sym (of_its_reason j) ∙ ap of_reason e ∙ of_its_reason k

one_to_seven : (k : Rejection) → (1 ≤ reason_of k) × (reason_of k < 8)
one_to_seven k =
    elim k as (λ j. (1 ≤ reason_of j) × (reason_of j < 8)) [
      | NotLive ↦ omega arith
      | NotOwner ↦ omega arith
      | NoEntry ↦ omega arith
      | Area ↦ omega arith
      | Itself ↦ omega arith
      | Unlike ↦ omega arith
      | Full ↦ omega arith
    ]

module _ (c : Rejection → Bool) where
  -- no reason of a number below m holds
  abbrev NoneBelow : ℕ → Type 0
  NoneBelow m = (j : Rejection) → reason_of j < m → c j ≡ false

  none_yet : NoneBelow 1
  none_yet j h = absurd (omega (arith, one_to_seven j))

  none_here : (k : Rejection) → NoneBelow (reason_of k) → c k ≡ false → NoneBelow (suc (reason_of k))
  none_here k before n j h =
      ⊎_elim
      (λ e. ap c (same_reason j k e) ∙ n)
      (λ o. ⊎_elim (λ l. before j l) (λ g. absurd (omega arith)) o)
      (cases_order (reason_of j) (reason_of k))

  all_below : NoneBelow 8 → (k : Rejection) → c k ≡ false
  all_below none k = none k (one_to_seven k).1

  -- either none holds, or one does and is the first
  FirstHere : Type 0
  FirstHere = ((first_of c ≡ Entered) × NoneBelow 8) ⊎ ((k : Rejection) × (first_of c ≡ Rejected k) × (c k ≡ true) × NoneBelow (reason_of k))

  first_here : FirstHere
  unfolding FirstHere
  first_here =
      let n1 = none_yet in
      ⊎_elim (λ y. inr (NotLive, cc, y, n1))
      (λ a. let n2 = none_here NotLive n1 a in ⊎_elim (λ y. inr (NotOwner, cc, y, n2))
      (λ b. let n3 = none_here NotOwner n2 b in ⊎_elim (λ y. inr (NoEntry, cc, y, n3))
      (λ d. let n4 = none_here NoEntry n3 d in ⊎_elim (λ y. inr (Area, cc, y, n4))
      (λ e. let n5 = none_here Area n4 e in ⊎_elim (λ y. inr (Itself, cc, y, n5))
      (λ f. let n6 = none_here Itself n5 f in ⊎_elim (λ y. inr (Unlike, cc, y, n6))
      (λ g. let n7 = none_here Unlike n6 g in ⊎_elim (λ y. inr (Full, cc, y, n7))
      (λ h. inl (cc, none_here Full n7 h))
      (cases_Bool (c Full))) (cases_Bool (c Unlike))) (cases_Bool (c Itself))) (cases_Bool (c Area))) (cases_Bool (c NoEntry))) (cases_Bool (c NotOwner))) (cases_Bool (c NotLive))

  told : (k : Rejection) → first_of c ≡ Rejected k → (c k ≡ true) × NoneBelow (reason_of k)
  unfolding FirstHere
  told k e =
      ⊎_elim
      (λ n. absurd (let o = n.0 in let z : ◌≡◌ {A = ℕ} 0 1 = cc in omega arith))
      (λ s. let o = s.1 in let same : s.0 ≡ k = cc in subst (λ j. (c j ≡ true) × NoneBelow (reason_of j)) same (s.2, s.3))
      first_here

  telling : (k : Rejection) → c k ≡ true → NoneBelow (reason_of k) → first_of c ≡ Rejected k
  unfolding FirstHere
  telling k y before =
      ⊎_elim
      (λ n. absurd (both_ways (c k) (all_below n.1 k) y))
      (λ s. ⊎_elim
      (λ e. s.1 ∙ ap Rejected (same_reason s.0 k e))
      (λ o. ⊎_elim (λ l. absurd (both_ways (c s.0) (before s.0 l) s.2)) (λ l. absurd (both_ways (c k) (s.3 k l) y)) o)
      (cases_order (reason_of s.0) (reason_of k)))
      first_here

  none_told : first_of c ≡ Entered → (k : Rejection) → c k ≡ false
  unfolding FirstHere
  none_told e =
      ⊎_elim (λ n. all_below n.1) (λ s. absurd (let o = s.1 in let z : ◌≡◌ {A = ℕ} 0 1 = cc in omega arith)) first_here

  none_telling : ((k : Rejection) → c k ≡ false) → first_of c ≡ Entered
  unfolding FirstHere
  none_telling none = ⊎_elim (λ n. n.0) (λ s. absurd (both_ways (c s.0) (none s.0) s.2)) first_here

pub first_reason : FirstReason
first_reason = record {
  table = table;
  rejected = λ P n f r k e. let t = told (λ j. condition j f r) k (sym (table P n f r) ∙ e) in record { holds = t.0; none_before = t.1 };
  rejects = λ P n f r k first. table P n f r ∙ telling (λ j. condition j f r) k first.holds first.none_before;
  entered = λ P n f r e. none_told (λ j. condition j f r) (sym (table P n f r) ∙ e);
  enters = λ P n f r none. table P n f r ∙ none_telling (λ j. condition j f r) none;
}
