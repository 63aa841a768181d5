-- What is ready is worked, and so is every order that goes by the rule. Assumes nothing.
use Rattle.std.proofs.Common.{◌≡◌, ℕ, zero, suc, ◌+◌, ◌<◌, ◌≤◌, true, false, ◌&&◌, ◌≢◌, List, [], ◌∷◌, length, Some, None, Option, sym, refl, ap, ◌∙◌, ⊎_elim, arith}
use Rattle.std.proofs.lemmas.Option.{slice_get_past}
use Rattle.std.proofs.lemmas.Bool.{and_parts, cases_Bool, cases_eq, cases_lt, cond-true, cond-false, true≢false}
use Rattle.std.specs.List.{slice_get}
use Rattle.orders.specs.Desk.{Desk, ready, is_open, open_at, shares_with, in_way, way_from, unless_waits, if_open, if_there, asked, worked_on, if_ready, work, is_ready, accepted, ready_from, FirstOpen}
use Rattle.orders.specs.Laws.{FirstIsReady, Goes, GoesIsAccepted, NeverStuck}
use Rattle.orders.specs.Orders.{Numbered, Holds, here, there, Before, first, later, Single, one, numbers_of}
use Rattle.orders.specs.Steps.{Acts, Local}
use Rattle.orders.proofs.Kept.{Ready}
use Rattle.orders.proofs.Places.{nth_set_same, nth_set_other, nth_there}
use Rattle.orders.proofs.Reached.{kept_reached}
use Rattle.orders.proofs.Lawfuls.{before_second}

module _ {Page Act Result : Type 0} (w : Acts Page Act Result) (local : Local w) where
  -- WHAT IS READY IS WORKED

  way_clear : (d : Desk Page Act Result) (n : ℕ) (a : Act) (i k : ℕ) → ((j : ℕ) → i ≤ j → j < i + k → in_way w d n a j ≡ false) → way_from w d n a i k ≡ None
  way_clear d n a i zero clear = refl
  way_clear d n a i (suc k) clear =
      cond-false (in_way w d n a i) _ _ (clear i (omega arith) (omega arith)) ∙ way_clear d n a (i + 1) k (λ j l m. clear j (omega arith) (omega arith))

  pub ready_if : (d : Desk Page Act Result) (n : ℕ) (a : Act) → Ready w local d n a → asked w d n ≡ ready a
  unfolding asked
  ready_if d n a r =
      ap (if_there w d n) r.there ∙
      (λ i. if_open w (r.is_open i) (unless_waits w a (way_clear d n a 0 n (λ j l m. r.clear j (omega arith)) i)))

  -- who asks for what is done gets nothing
  shut_not_ready : (d : Desk Page Act Result) (i : ℕ) → open_at d i ≡ false → is_ready w (asked w d i) ≡ false
  unfolding asked
  shut_not_ready d i shut = by_act (slice_get d.filed i)
    where
      by_act : (o : Option Act) → is_ready w (if_there w d i o) ≡ false
      by_act None = refl
      by_act (Some b) = ap (λ t. is_ready w (if_open w t (unless_waits w b (way_from w d i b 0 i)))) shut

  pub never_stuck : NeverStuck w
  never_stuck d n a is_there still_open first_one = ready_if d n a (record { there = is_there; is_open = still_open; clear = λ i l. ap (λ t. t && shares_with w n a i (slice_get d.filed i)) (first_one i l) })

  first_ready : (d : Desk Page Act Result) (n : ℕ) (a : Act) → slice_get d.filed n ≡ Some a → FirstOpen d n → (i k : ℕ) → i ≤ n → n < i + k → ready_from w d i k ≡ Some n
  first_ready d n a is_there lead i zero l m = absurd (omega arith)
  first_ready d n a is_there lead i (suc k) l m =
      ⊎_elim
      (λ (here : i ≡ n).
      cond-true (is_ready w (asked w d i)) _ _ (ap (λ j. is_ready w (asked w d j)) here ∙ ap (is_ready w) (never_stuck d n a is_there lead.is_open lead.before)) ∙ ap Some here)
      (λ (other : i ≡ n → ⊥).
      cond-false (is_ready w (asked w d i)) _ _ (shut_not_ready d i (lead.before i (omega arith))) ∙ first_ready d n a is_there lead (i + 1) k (omega arith) (omega arith))
      (cases_eq i n)

  pub worked_if : (d : Desk Page Act Result) (n : ℕ) (a : Act) → Ready w local d n a → work w d n ≡ worked_on w d n a
  unfolding work
  worked_if d n a r = ap (if_ready w d n) (ready_if d n a r)

  -- A DESK AND WHAT IS STILL TO BE WORKED

  open_within : (d : Desk Page Act Result) (n : ℕ) → open_at d n ≡ true → n < length d.marks
  open_within d n o = ⊎_elim (λ h. h) (λ (h : length d.marks ≤ n). absurd (true≢false (sym o ∙ ap is_open (slice_get_past d.marks n h)))) (cases_lt n (length d.marks))

  pub first_is_ready : FirstIsReady w
  first_is_ready start d r n lead =
      let size = (kept_reached w local start r).as_long in
      let within = open_within d n lead.is_open in
      let found = nth_there d.filed n (omega arith) in
      first_ready d n found.0 found.1 lead 0 (length d.filed) (omega arith) (omega arith)

  module _ (d : Desk Page Act Result) (n : ℕ) (a : Act) where
    pub closes : open_at d n ≡ true → open_at (worked_on w d n a) n ≡ false
    closes o = ap is_open (nth_set_same d.marks n (Some (w.outcome n a d.register)) (open_within d n o))

    pub leaves : (i : ℕ) → i ≢ n → open_at (worked_on w d n a) i ≡ open_at d i
    leaves i other = ap is_open (nth_set_other d.marks n i (Some (w.outcome n a d.register)) other)

    -- what is open after is another, and was open before
    pub still_another : open_at d n ≡ true → (i : ℕ) → open_at (worked_on w d n a) i ≡ true → i ≢ n
    still_another o i p e = true≢false (sym p ∙ ap (open_at (worked_on w d n a)) e ∙ closes o)

  abbrev act_of : ℕ → Act → Numbered Act
  act_of i b = record { number = i; act = b }

  not_before_first : {x y : Numbered Act} {ys : List (Numbered Act)} → Single (y ∷ ys) → x.number < y.number → Before x y (y ∷ ys) → ⊥
  not_before_first s l (first h) = omega arith
  not_before_first (one once s) l (later b) = once _ (before_second b) refl

  before_tail : {x y z : Numbered Act} {ys : List (Numbered Act)} → x.number ≢ y.number → Before x z (y ∷ ys) → Before x z ys
  before_tail other (first h) = absurd (other refl)
  before_tail other (later b) = b

  sharing : (n i : ℕ) (a : Act) (o : Option Act) → shares_with w n a i o ≡ true → (b : Act) × (o ≡ Some b) × (w.shares i b n a ≡ true)
  sharing n i a None e = absurd (true≢false (sym e))
  sharing n i a (Some b) e = (b, refl, e)

  goes_ready : (d : Desk Page Act Result) (y : Numbered Act) (ys : List (Numbered Act)) → Goes w d (y ∷ ys) → Ready w local d y.number y.act
  goes_ready d y ys goes = record {
    there = goes.stands y here;
    is_open = goes.is_open y here;
    clear = λ i l.
        ⊎_elim
        (λ t.
        let both = and_parts _ _ t in
        let other = sharing y.number i y.act (slice_get d.filed i) both.1 in
        absurd (not_before_first goes.single l (goes.in_order y here i other.0 l other.1 both.0 other.2)))
        (λ f. f)
        (cases_Bool (in_way w d y.number y.act i));
  }

  rest_single : {y : Numbered Act} {ys : List (Numbered Act)} → Single (y ∷ ys) → Single ys
  rest_single (one once s) = s

  once_only : {y : Numbered Act} {ys : List (Numbered Act)} → Single (y ∷ ys) → (z : Numbered Act) → Holds z ys → z.number ≢ y.number
  once_only (one once s) = once

  goes_on : (d : Desk Page Act Result) (y : Numbered Act) (ys : List (Numbered Act)) → Goes w d (y ∷ ys) → Goes w (worked_on w d y.number y.act) ys
  goes_on d y ys goes = record {
    single = rest_single goes.single;
    stands = λ z h. goes.stands z (there h);
    is_open = λ z h. leaves d y.number y.act z.number (once_only goes.single z h) ∙ goes.is_open z (there h);
    in_order = λ z h i b l is_there o share.
        let other = still_another d y.number y.act (goes.is_open y here) i o in
        before_tail other (goes.in_order z (there h) i b l is_there (sym (leaves d y.number y.act i other) ∙ o) share);
  }

  pub goes_is_accepted : GoesIsAccepted w
  unfolding accepted
  goes_is_accepted d [] goes = refl
  goes_is_accepted d (y ∷ ys) goes =
      let r = goes_ready d y ys goes in
      let rest = goes_is_accepted (worked_on w d y.number y.act) ys (goes_on d y ys goes) in
      (λ i. is_ready w (ready_if d y.number y.act r i) && accepted w (worked_if d y.number y.act r i) (numbers_of ys)) ∙ rest
