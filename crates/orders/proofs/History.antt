-- What was worked so far, in the order of work: just what is done, and by the rule. Assumes nothing.
use Rattle.std.proofs.Common.{◌≡◌, ℕ, ◌<◌, ◌≤◌, true, false, ◌≢◌, ◌⊎◌, List, [], ◌∷◌, ◌++◌, length, Some, None, sym, refl, ap, ◌∙◌, subst, inl, inr, ⊎_elim, arith}
use Rattle.std.proofs.lemmas.Option.{slice_get_within}
use Rattle.std.proofs.lemmas.List.{length_push}
use Rattle.std.proofs.lemmas.Bool.{cases_Bool, cases_eq, cases_lt, true≢false}
use Rattle.std.specs.List.{slice_get}
use Rattle.orders.specs.Desk.{Desk, Answer, absent, finished, waits, ready, is_open, open_at, opened, filed_more, asked, worked_on, if_ready, work, logged, touched_by, ReachedBy, by_opening, by_filing, by_work}
use Rattle.orders.specs.Laws.{InOrder, WorkedInOrder}
use Rattle.orders.specs.Orders.{Numbered, Holds, here, there, Before, first, later, Single, none, one, Apart}
use Rattle.orders.specs.Steps.{Acts, Local}
use Rattle.orders.proofs.Accepted.{closes, leaves}
use Rattle.orders.proofs.Kept.{Kept, Ready}
use Rattle.orders.proofs.Places.{nth_front, nth_last}
use Rattle.orders.proofs.Reached.{kept_reached, reached, ready_means}

-- ONE MORE AT THE END

module _ {Act : Type 0} (z : Numbered Act) where
  holds_front : {x : Numbered Act} {ys : List (Numbered Act)} → Holds x ys → Holds x (ys ++ z ∷ [])
  holds_front here = here
  holds_front (there h) = there (holds_front h)

  holds_last : (ys : List (Numbered Act)) → Holds z (ys ++ z ∷ [])
  holds_last [] = here
  holds_last (y ∷ ys) = there (holds_last ys)

  holds_either : {x : Numbered Act} (ys : List (Numbered Act)) → Holds x (ys ++ z ∷ []) → Holds x ys ⊎ (z ≡ x)
  holds_either [] here = inr refl
  holds_either [] (there h) = elim h [ ]
  holds_either (y ∷ ys) here = inl here
  holds_either (y ∷ ys) (there h) = ⊎_elim (λ k. inl (there k)) inr (holds_either ys h)

  before_front : {x y : Numbered Act} {ys : List (Numbered Act)} → Before x y ys → Before x y (ys ++ z ∷ [])
  before_front (first h) = first (holds_front h)
  before_front (later b) = later (before_front b)

  before_last : {x : Numbered Act} {ys : List (Numbered Act)} → Holds x ys → Before x z (ys ++ z ∷ [])
  before_last (here {xs}) = first (holds_last xs)
  before_last (there h) = later (before_last h)

  single_more : (ys : List (Numbered Act)) → Single ys → ((y : Numbered Act) → Holds y ys → y.number ≢ z.number) → Single (ys ++ z ∷ [])
  single_more [] s new = one (λ y h. elim h [ ]) none
  single_more (y ∷ ys) (one once s) new =
      one (λ x h. ⊎_elim (λ k. once x k) (λ (e : z ≡ x). λ same. new y here (sym (ap (λ u. u.number) e ∙ same))) (holds_either ys h))
      (single_more ys s (λ x h. new x (there h)))

module _ {Page Act Result : Type 0} (w : Acts Page Act Result) (local : Local w) where
  at_the_opening : (start : ℕ → Page) → InOrder w (opened start) []
  at_the_opening start = record {
    single = none;
    done = λ n a e. absurd (let z : ◌≡◌ {A = ℕ} 0 1 = cc in omega arith);
    filed = λ y h. elim h [ ];
    finished = λ y h. elim h [ ];
    in_order = λ x y h. elim h [ ];
  }

  -- FILING

  module _ (start : ℕ → Page) (d : Desk Page Act Result) (a : Act) (ys : List (Numbered Act)) (kept : Kept w local start d) (so_far : InOrder w d ys) where
    open_front : (n : ℕ) → n < length d.filed → open_at (filed_more d a) n ≡ open_at d n
    open_front n h = let l = kept.as_long in ap is_open (nth_front d.marks None n (omega arith))

    new_is_open : (n : ℕ) → n ≡ length d.filed → open_at (filed_more d a) n ≡ true
    new_is_open n e = let l = kept.as_long in ap is_open (nth_last d.marks None n (omega arith))

    within : (y : Numbered Act) → Holds y ys → y.number < length d.filed
    within y h = slice_get_within d.filed y.number y.act (so_far.filed y h)

    on_more : InOrder w (filed_more d a) ys
    on_more = record {
      single = so_far.single;
      done = λ n b e shut.
          ⊎_elim
          (λ (h : n < length d.filed). so_far.done n b (sym (nth_front d.filed a n h) ∙ e) (sym (open_front n h) ∙ shut))
          (λ (h : length d.filed ≤ n).
          let there = slice_get_within (d.filed ++ a ∷ []) n b e in
          let size = length_push d.filed a in
          let last : n ≡ length d.filed = omega arith in
          absurd (true≢false (sym (new_is_open n last) ∙ shut)))
          (cases_lt n (length d.filed));
      filed = λ y h. nth_front d.filed a y.number (within y h) ∙ so_far.filed y h;
      finished = λ y h. open_front y.number (within y h) ∙ so_far.finished y h;
      in_order = so_far.in_order;
    }

  -- WORK

  module _ (start : ℕ → Page) (d : Desk Page Act Result) (n : ℕ) (a : Act) (ys : List (Numbered Act)) (kept : Kept w local start d) (so_far : InOrder w d ys) (r : Ready w local d n a) where
    abbrev this : Numbered Act
    this = record { number = n; act = a }

    is_new : (y : Numbered Act) → Holds y ys → y.number ≢ n
    is_new y h e = true≢false (sym r.is_open ∙ ap (open_at d) (sym e) ∙ so_far.finished y h)

    -- who was filed later and shares a page is not done yet
    not_overtaken : (y : Numbered Act) → Holds y ys → n < y.number → (Apart w this y → ⊥) → ⊥
    not_overtaken y h l share =
        ⊎_elim
        (λ t.
        let page = local.common n a y.number y.act t in
        let still = kept.in_turn n y.number page.0 l (ap (λ o. touched_by w n o page.0) r.there ∙ page.1) (ap (λ o. touched_by w y.number o page.0) (so_far.filed y h) ∙ page.2) r.is_open in
        true≢false (sym still ∙ so_far.finished y h))
        (λ f. share (record { none = f }))
        (cases_Bool (w.shares n a y.number y.act))

    order : (x y : Numbered Act) → Holds x ys ⊎ (this ≡ x) → Holds y ys ⊎ (this ≡ y) → x.number < y.number → (Apart w x y → ⊥) → Before x y (ys ++ this ∷ [])
    order x y (inl g) (inl h) l share = before_front this (so_far.in_order x y g h l share)
    order x y (inl g) (inr e) l share = subst (λ z. Before x z (ys ++ this ∷ [])) e (before_last this g)
    order x y (inr e) (inl h) l share = absurd (not_overtaken y h (subst (λ z. z.number < y.number) (sym e) l) (λ apart. share (subst (λ z. Apart w z y) e apart)))
    order x y (inr e) (inr f) l share = let p = ap (λ z. z.number) e in let q = ap (λ z. z.number) f in absurd (omega arith)

    on_worked : InOrder w (worked_on w d n a) (ys ++ this ∷ [])
    on_worked = record {
      single = single_more this ys so_far.single is_new;
      done = λ m b e shut.
          ⊎_elim
          (λ (same : m ≡ n).
          let is_there = r.there in
          let e' = subst (λ k. slice_get d.filed k ≡ Some b) same e in
          let act : a ≡ b = cc in
          subst (λ z. Holds z (ys ++ this ∷ [])) (λ i. record { number = sym same i; act = act i }) (holds_last this ys))
          (λ (other : m ≢ n). holds_front this (so_far.done m b e (sym (leaves w local d n a m other) ∙ shut)))
          (cases_eq m n);
      filed = λ y h. ⊎_elim (λ k. so_far.filed y k) (λ (e : this ≡ y). subst (λ z. slice_get d.filed z.number ≡ Some z.act) e r.there) (holds_either this ys h);
      finished = λ y h.
          ⊎_elim
          (λ k. leaves w local d n a y.number (is_new y k) ∙ so_far.finished y k)
          (λ (e : this ≡ y). subst (λ z. open_at (worked_on w d n a) z.number ≡ false) e (closes w local d n a r.is_open))
          (holds_either this ys h);
      in_order = λ x y g h l share. order x y (holds_either this ys g) (holds_either this ys h) l share;
    }

  module _ (start : ℕ → Page) where
    on_asked :
        (d : Desk Page Act Result) (n : ℕ) (ys : List (Numbered Act)) → Kept w local start d → InOrder w d ys → (x : Answer Act) → asked w d n ≡ x →
        InOrder w (if_ready w d n x) (logged w x n ys)
    on_asked d n ys kept so_far absent e = so_far
    on_asked d n ys kept so_far finished e = so_far
    on_asked d n ys kept so_far (waits i) e = so_far
    on_asked d n ys kept so_far (ready a) e = on_worked start d n a ys kept so_far (ready_means w local d n a e)

    by_steps : {ys : List (Numbered Act)} {d : Desk Page Act Result} → ReachedBy w start ys d → InOrder w d ys
    unfolding work
    by_steps by_opening = at_the_opening start
    by_steps (by_filing {ys} {d} r a) = on_more start d a ys (kept_reached w local start (reached w local start r)) (by_steps r)
    by_steps (by_work {ys} {d} r n) = on_asked d n ys (kept_reached w local start (reached w local start r)) (by_steps r) (asked w d n) refl

  pub worked_in_order : WorkedInOrder w
  worked_in_order start ys d r = by_steps start r
