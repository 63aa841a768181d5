-- The rule lets through just the lawful orders: from lawful to accepted, and back. Assumes nothing.
use Rattle.std.proofs.Common.{◌≡◌, ℕ, zero, suc, ◌+◌, ◌-◌, ◌<◌, ◌≤◌, Bool, true, false, not, ◌&&◌, ◌||◌, ◌⊎◌, List, [], ◌∷◌, length, replicate, Some, None, Option, sym, refl, ap, ◌∙◌, subst, inl, inr, ⊎_elim, zero-add, arith}
use Rattle.std.proofs.lemmas.Option.{slice_get_within}
use Rattle.std.proofs.lemmas.Bool.{and_parts, cases_Bool, cases_eq, eq-eqb, ne_eqb, true≢false}
use Rattle.std.specs.List.{slice_get}
use Rattle.orders.specs.Desk.{Desk, Answer, absent, finished, waits, ready, is_open, open_at, all_open, shares_with, asked, worked_on, work, worked_all, is_ready, accepted}
use Rattle.orders.specs.Laws.{Goes, AcceptedGoes, AcceptedIsDone, LawfulIsAccepted, AcceptedIsLawful}
use Rattle.orders.specs.Orders.{Numbered, Holds, here, there, Before, among, first, later, Single, none, one, Apart, numbered, numbers_of}
use Rattle.orders.specs.Steps.{Acts, Local}
use Rattle.orders.proofs.Accepted.{closes, goes_is_accepted, leaves, still_another, worked_if}
use Rattle.orders.proofs.Exchanges.{exchanged_sym, holds_exchanged, single_exchanged}
use Rattle.orders.proofs.Kept.{Ready}
use Rattle.orders.proofs.Lawfuls.{Inserted, at, past, taken_out, inserted_length, other_holds, before_first, before_second, lawful_is_exchanged}
use Rattle.orders.proofs.Reached.{ready_means}

-- ACTS IN THE ORDER OF FILING

module _ {Act : Type 0} where
  numbered_length : (k : ℕ) (fs : List Act) → length (numbered k fs) ≡ length fs
  unfolding numbered
  numbered_length k [] = refl
  numbered_length k (a ∷ fs) = ap suc (numbered_length (suc k) fs)

  -- an act stands among them under the number of its place
  numbered_there : (k : ℕ) (fs : List Act) (n : ℕ) (a : Act) → slice_get fs n ≡ Some a → Holds (record { number = k + n; act = a }) (numbered k fs)
  unfolding numbered
  numbered_there k [] n a e = absurd (let z : ◌≡◌ {A = ℕ} 0 1 = cc in omega arith)
  numbered_there k (b ∷ fs) zero a e =
      let same : b ≡ a = cc in
      let place : k ≡ k + 0 = omega arith in
      subst (λ x. Holds x (record { number = k; act = b } ∷ numbered (suc k) fs)) (λ i. record { number = place i; act = same i }) here
  numbered_there k (b ∷ fs) (suc n) a e =
      let place : suc k + n ≡ k + suc n = omega arith in
      subst (λ m. Holds (record { number = m; act = a }) (record { number = k; act = b } ∷ numbered (suc k) fs)) place (there (numbered_there (suc k) fs n a e))

  numbered_back : (k : ℕ) (fs : List Act) {x : Numbered Act} → Holds x (numbered k fs) → (k ≤ x.number) × (slice_get fs (x.number - k) ≡ Some x.act)
  unfolding numbered
  numbered_back k [] h = elim h [ ]
  numbered_back k (b ∷ fs) here = (omega arith, let zero_off : k - k ≡ 0 = omega arith in ap (slice_get (b ∷ fs)) zero_off)
  numbered_back k (b ∷ fs) {x} (there h) =
      let rest = numbered_back (suc k) fs h in
      let up = rest.0 in
      let place : x.number - k ≡ suc (x.number - suc k) = omega arith in
      (omega arith, ap (slice_get (b ∷ fs)) place ∙ rest.1)

  -- counted from 0
  filed_at : (fs : List Act) {x : Numbered Act} → Holds x (numbered 0 fs) → slice_get fs x.number ≡ Some x.act
  filed_at fs {x} h = let off : x.number ≡ x.number - 0 = omega arith in ap (slice_get fs) off ∙ (numbered_back 0 fs h).1

  numbered_single : (k : ℕ) (fs : List Act) → Single (numbered k fs)
  unfolding numbered
  numbered_single k [] = none
  numbered_single k (b ∷ fs) = one (λ y h e. let up = (numbered_back (suc k) fs h).0 in omega arith) (numbered_single (suc k) fs)

  numbered_before :
      (k : ℕ) (fs : List Act) (i j : ℕ) (a b : Act) → i < j → slice_get fs i ≡ Some a → slice_get fs j ≡ Some b →
      Before (record { number = k + i; act = a }) (record { number = k + j; act = b }) (numbered k fs)
  unfolding numbered
  numbered_before k [] i j a b l p q = absurd (let z : ◌≡◌ {A = ℕ} 0 1 = cc in omega arith)
  numbered_before k (c ∷ fs) i zero a b l p q = absurd (omega arith)
  numbered_before k (c ∷ fs) zero (suc j) a b l p q =
      let same : c ≡ a = cc in
      let place : k ≡ k + 0 = omega arith in
      let place' : suc k + j ≡ k + suc j = omega arith in
      subst (λ x. Before x (record { number = k + suc j; act = b }) (record { number = k; act = c } ∷ numbered (suc k) fs)) (λ t. record { number = place t; act = same t })
      (first (subst (λ m. Holds (record { number = m; act = b }) (numbered (suc k) fs)) place' (numbered_there (suc k) fs j b q)))
  numbered_before k (c ∷ fs) (suc i) (suc j) a b l p q =
      let place : suc k + i ≡ k + suc i = omega arith in
      let place' : suc k + j ≡ k + suc j = omega arith in
      let deeper = numbered_before (suc k) fs i j a b (omega arith) p q in
      later (subst (λ m. Before (record { number = m; act = a }) (record { number = k + suc j; act = b }) (numbered (suc k) fs)) place
      (subst (λ m. Before (record { number = suc k + i; act = a }) (record { number = m; act = b }) (numbered (suc k) fs)) place' deeper))

  before_at :
      (fs : List Act) (i j : ℕ) (a b : Act) → i < j → slice_get fs i ≡ Some a → slice_get fs j ≡ Some b →
      Before (record { number = i; act = a }) (record { number = j; act = b }) (numbered 0 fs)
  before_at fs i j a b l p q =
      subst (λ n. Before (record { number = n; act = a }) (record { number = j; act = b }) (numbered 0 fs)) (zero-add i)
      (subst (λ n. Before (record { number = 0 + i; act = a }) (record { number = n; act = b }) (numbered 0 fs)) (zero-add j) (numbered_before 0 fs i j a b l p q))

  -- and only those that come before are before
  numbered_rises : (k : ℕ) (fs : List Act) {x y : Numbered Act} → Before x y (numbered k fs) → x.number < y.number
  unfolding numbered
  numbered_rises k [] h = elim h [ ]
  numbered_rises k (c ∷ fs) (first h) = let up = (numbered_back (suc k) fs h).0 in omega arith
  numbered_rises k (c ∷ fs) (later b) = numbered_rises (suc k) fs b

  -- as many acts, each among the others and none twice, are all of them
  in_either : {x y : Numbered Act} {ws xs : List (Numbered Act)} → Inserted y ws xs → Holds x xs → (y ≡ x) ⊎ Holds x ws
  in_either at here = inl refl
  in_either at (there h) = inr h
  in_either (past i) here = inr here
  in_either (past i) (there h) = ⊎_elim inl (λ k. inr (there k)) (in_either i h)

  all_of_them :
      (ys xs : List (Numbered Act)) → Single ys → ((y : Numbered Act) → Holds y ys → Holds y xs) → length ys ≡ length xs → (x : Numbered Act) → Holds x xs → Holds x ys
  all_of_them [] [] s among l x h = elim h [ ]
  all_of_them [] (z ∷ xs) s among l x h = absurd (omega arith)
  all_of_them (y ∷ ys) xs (one once s) among l x h =
      let out = taken_out (among y here) in
      let size = inserted_length out.1 in
      ⊎_elim
      (λ (e : y ≡ x). subst (λ z. Holds z (y ∷ ys)) e here)
      (λ k. there (all_of_them ys out.0 s (λ z m. other_holds (once z m) out.1 (among z (there m))) (omega arith) x k))
      (in_either out.1 h)

module _ {Page Act Result : Type 0} (w : Acts Page Act Result) (local : Local w) where
  -- FROM LAWFUL TO ACCEPTED

  none_worked : (k n : ℕ) → n < k → slice_get {X = Option Result} (replicate k None) n ≡ Some None
  none_worked zero n h = absurd (omega arith)
  none_worked (suc k) zero h = refl
  none_worked (suc k) (suc n) h = none_worked k n (omega arith)

  open_all : (start : ℕ → Page) (fs : List Act) (n : ℕ) (a : Act) → slice_get fs n ≡ Some a → open_at {Result = Result} (all_open start fs) n ≡ true
  open_all start fs n a e = ap is_open (none_worked (length fs) n (slice_get_within fs n a e))

  shares_some : (x y : Numbered Act) → (Apart w x y → ⊥) → w.shares x.number x.act y.number y.act ≡ true
  shares_some x y share = ⊎_elim (λ t. t) (λ f. absurd (share (record { none = f }))) (cases_Bool (w.shares x.number x.act y.number y.act))

  pub lawful_is_accepted : LawfulIsAccepted w
  lawful_is_accepted start fs ys lawful =
      let exchanged = lawful_is_exchanged w local (numbered 0 fs) ys lawful in
      let stands : (y : Numbered Act) → Holds y ys → slice_get fs y.number ≡ Some y.act = λ y h. filed_at fs (holds_exchanged w local (exchanged_sym w local exchanged) h) in
      goes_is_accepted w local (all_open start fs) ys (record {
        single = single_exchanged w local exchanged lawful.single;
        stands = stands;
        is_open = λ y h. open_all start fs y.number y.act (stands y h);
        in_order = λ y h i b l is_there o share.
            lawful.in_order (record { number = i; act = b }) y (before_at fs i y.number b y.act l is_there (stands y h))
            (λ a. true≢false (sym share ∙ a.none));
      })

  -- FROM ACCEPTED TO LAWFUL

  ready_some : (x : Answer Act) → is_ready w x ≡ true → (a : Act) × (x ≡ ready a)
  ready_some absent e = absurd (true≢false (sym e))
  ready_some finished e = absurd (true≢false (sym e))
  ready_some (waits i) e = absurd (true≢false (sym e))
  ready_some (ready a) e = (a, refl)

  -- what was accepted is worked
  accepted_ready : (d : Desk Page Act Result) (n : ℕ) → is_ready w (asked w d n) ≡ true → (a : Act) × Ready w local d n a
  accepted_ready d n e = let found = ready_some (asked w d n) e in (found.0, ready_means w local d n found.0 found.1)

  pub accepted_is_done : AcceptedIsDone w
  unfolding accepted worked_all among
  accepted_is_done [] d acc n = by_mark (open_at d n)
    where
      by_mark : (t : Bool) → t ≡ (t && true)
      by_mark true = refl
      by_mark false = refl
  accepted_is_done (m ∷ ns) d acc n =
      let both = and_parts _ _ acc in
      let r = accepted_ready d m both.0 in
      let rest = accepted_is_done ns (work w d m) both.1 n in
      let is = worked_if w local d m r.0 r.1 in
      ⊎_elim
      (λ (same : m ≡ n).
      let shut : open_at (work w d m) n ≡ false = ap (λ e. open_at e n) is ∙ ap (open_at (worked_on w d m r.0)) (sym same) ∙ closes w local d m r.0 r.1.is_open in
      rest ∙ ap (λ t. t && not (among n ns)) shut ∙ sym (ap (λ t. open_at d n && not (t || among n ns)) (eq-eqb m n same) ∙ and_false (open_at d n)))
      (λ (other : m ≡ n → ⊥).
      let stays : open_at (work w d m) n ≡ open_at d n = ap (λ e. open_at e n) is ∙ leaves w local d m r.0 n (λ e. other (sym e)) in
      rest ∙ (λ i. stays i && not (sym (ne_eqb m n other) i || among n ns)))
      (cases_eq m n)
    where
      and_false : (t : Bool) → (t && false) ≡ false
      and_false true = refl
      and_false false = refl

  goes_more :
      (d : Desk Page Act Result) (y : Numbered Act) (ys : List (Numbered Act)) → slice_get d.filed y.number ≡ Some y.act → Ready w local d y.number y.act →
      Goes w (worked_on w d y.number y.act) ys → Goes w d (y ∷ ys)
  goes_more d y ys is_there r goes = record {
    single = one (λ z h. still_another w local d y.number y.act r.is_open z.number (goes.is_open z h)) goes.single;
    stands = at_each_stands;
    is_open = at_each_open;
    in_order = at_each_order;
  }
    where
      at_each_stands : (z : Numbered Act) → Holds z (y ∷ ys) → slice_get d.filed z.number ≡ Some z.act
      at_each_stands _ here = is_there
      at_each_stands z (there h) = goes.stands z h

      at_each_open : (z : Numbered Act) → Holds z (y ∷ ys) → open_at d z.number ≡ true
      at_each_open _ here = r.is_open
      at_each_open z (there h) =
          let o = goes.is_open z h in
          sym (leaves w local d y.number y.act z.number (still_another w local d y.number y.act r.is_open z.number o)) ∙ o

      at_each_order :
          (z : Numbered Act) → Holds z (y ∷ ys) → (i : ℕ) (b : Act) → i < z.number → slice_get d.filed i ≡ Some b → open_at d i ≡ true →
          w.shares i b z.number z.act ≡ true → Before (record { number = i; act = b }) z (y ∷ ys)
      at_each_order _ here i b l t o share =
          absurd (true≢false (sym (λ j. o j && (ap (λ x. shares_with w y.number y.act i x) t ∙ share) j) ∙ r.clear i l))
      at_each_order z (there h) i b l t o share =
          ⊎_elim
          (λ (e : i ≡ y.number).
          let t' = subst (λ k. slice_get d.filed k ≡ Some b) e t in
          let same : y.act ≡ b = cc in
          subst (λ x. Before x z (y ∷ ys)) (λ j. record { number = sym e j; act = same j }) (first h))
          (λ (another : i ≡ y.number → ⊥).
          later (goes.in_order z h i b l t (leaves w local d y.number y.act i another ∙ o) share))
          (cases_eq i y.number)

  pub accepted_goes : AcceptedGoes w
  unfolding accepted
  accepted_goes d [] stands acc = record { single = none; stands = λ y h. elim h [ ]; is_open = λ y h. elim h [ ]; in_order = λ y h. elim h [ ] }
  accepted_goes d (y ∷ ys) stands acc =
      let both = and_parts _ _ acc in
      let found = ready_some (asked w d y.number) both.0 in
      let is_there = stands y here in
      let means = ready_means w local d y.number found.0 found.1 in
      let means_there = means.there in
      let same : found.0 ≡ y.act = cc in
      let r = subst (Ready w local d y.number) same means in
      goes_more d y ys is_there r
      (accepted_goes (worked_on w d y.number y.act) ys (λ z h. stands z (there h)) (subst (λ e. accepted w e (numbers_of ys) ≡ true) (worked_if w local d y.number y.act r) both.1))

  pub accepted_is_lawful : AcceptedIsLawful w
  accepted_is_lawful start fs ys stands size acc =
      let goes = accepted_goes (all_open start fs) ys stands acc in
      let all = all_of_them ys (numbered 0 fs) goes.single
      (λ y h. subst (λ n. Holds (record { number = n; act = y.act }) (numbered 0 fs)) (zero-add y.number) (numbered_there 0 fs y.number y.act (stands y h)))
      (size ∙ sym (numbered_length 0 fs))
      in
      record {
        single = numbered_single 0 fs;
        as_many = size ∙ sym (numbered_length 0 fs);
        all = all;
        in_order = λ x y b share.
            let is_there = filed_at fs (before_first b) in
            goes.in_order y (all y (before_second b)) x.number x.act (numbered_rises 0 fs b) is_there
            (open_all start fs x.number x.act is_there) (shares_some x y share);
      }
