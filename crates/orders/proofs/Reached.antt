-- The main theorem: what is reached from an opening is as filed. Assumes nothing.
use Rattle.std.proofs.Common.{◌≡◌, ℕ, zero, suc, ◌+◌, ◌<◌, ◌≤◌, Bool, true, false, ◌&&◌, List, [], ◌∷◌, length, Some, None, Option, sym, refl, ap, ◌∙◌, subst, ⊎_elim, arith}
use Rattle.std.proofs.lemmas.Option.{slice_get_past}
use Rattle.std.proofs.lemmas.Bool.{and_parts, cases_Bool, cases_eq, cases_lt, cond-true, cond-false, true≢false}
use Rattle.std.specs.List.{slice_get}
use Rattle.orders.specs.Desk.{Desk, Answer, absent, finished, waits, ready, open_at, in_way, way_from, unless_waits, if_open, if_there, asked, worked_on, if_ready, work, Reached, at_opening, on_filing, on_work, ReachedBy, by_opening, by_filing, by_work, touched_by, open_from, first_open, is_open, worked_all}
use Rattle.orders.specs.Laws.{AsFiled, OrderOfWorkUnseen, UntouchedIsFinal}
use Rattle.orders.specs.Orders.{Numbered}
use Rattle.orders.specs.Steps.{Acts, Local}
use Rattle.orders.proofs.Kept.{Kept, Ready, kept_opened, kept_filed, kept_worked}
use Rattle.orders.proofs.Places.{nth_set_other}

-- which answer it was
abbrev which : {Act : Type 0} → Answer Act → ℕ
which absent = 0
which finished = 1
which (waits i) = 2
which (ready a) = 3

module _ {Page Act Result : Type 0} (w : Acts Page Act Result) (local : Local w) where
  other_answer : {X : Type 0} {x y : Answer Act} → (which x ≡ which y → ⊥) → x ≡ y → X
  other_answer h e = absurd (h (ap which e))

  -- nothing in the way below
  pub way_none : (d : Desk Page Act Result) (n : ℕ) (a : Act) (i k : ℕ) → way_from w d n a i k ≡ None → (j : ℕ) → i ≤ j → j < i + k → in_way w d n a j ≡ false
  way_none d n a i zero e j l m = absurd (omega arith)
  way_none d n a i (suc k) e j l m =
      ⊎_elim
      (λ t. absurd (let s = cond-true (in_way w d n a i) (Some i) (way_from w d n a (i + 1) k) t in let z : ◌≡◌ {A = ℕ} 0 1 = cc in omega arith))
      (λ f.
      ⊎_elim
      (λ (at : j ≡ i). ap (in_way w d n a) at ∙ f)
      (λ (other : j ≡ i → ⊥).
      way_none d n a (i + 1) k (sym (cond-false (in_way w d n a i) (Some i) (way_from w d n a (i + 1) k) f) ∙ e) j (omega arith) (omega arith))
      (cases_eq j i))
      (cases_Bool (in_way w d n a i))

  module _ (d : Desk Page Act Result) (n : ℕ) (a : Act) where
    by_way : (b : Act) (v : Option ℕ) → slice_get d.filed n ≡ Some b → open_at d n ≡ true → way_from w d n b 0 n ≡ v → unless_waits w b v ≡ ready a → Ready w local d n a
    by_way b None there is_open way e =
        let same : b ≡ a = cc in
        subst (Ready w local d n) same (record { there = there; is_open = is_open; clear = λ i l. way_none d n b 0 n way i (omega arith) (omega arith) })
    by_way b (Some i) there is_open way e = other_answer (λ h. omega arith) e

    by_mark : (b : Act) (t : Bool) → slice_get d.filed n ≡ Some b → open_at d n ≡ t → if_open w t (unless_waits w b (way_from w d n b 0 n)) ≡ ready a → Ready w local d n a
    by_mark b true there is_open e = by_way b (way_from w d n b 0 n) there is_open refl e
    by_mark b false there is_open e = other_answer (λ h. omega arith) e

    by_act : (o : Option Act) → slice_get d.filed n ≡ o → if_there w d n o ≡ ready a → Ready w local d n a
    by_act None there e = other_answer (λ h. omega arith) e
    by_act (Some b) there e = by_mark b (open_at d n) there refl e

    -- the answer `ready` is given just where the rule lets it be worked
    pub ready_means : asked w d n ≡ ready a → Ready w local d n a
    unfolding asked
    ready_means e = by_act (slice_get d.filed n) refl e

  module _ (start : ℕ → Page) where
    kept_asked : (d : Desk Page Act Result) (n : ℕ) → Kept w local start d → (x : Answer Act) → asked w d n ≡ x → Kept w local start (if_ready w d n x)
    kept_asked d n kept absent e = kept
    kept_asked d n kept finished e = kept
    kept_asked d n kept (waits i) e = kept
    kept_asked d n kept (ready a) e = kept_worked w local start d n a kept (ready_means d n a e)

    pub kept_work : (d : Desk Page Act Result) (n : ℕ) → Kept w local start d → Kept w local start (work w d n)
    unfolding work
    kept_work d n kept = kept_asked d n kept (asked w d n) refl

    pub kept_reached : {d : Desk Page Act Result} → Reached w start d → Kept w local start d
    kept_reached at_opening = kept_opened w local start
    kept_reached (on_filing {d} r a) = kept_filed w local start d a (kept_reached r)
    kept_reached (on_work {d} r n) = kept_work d n (kept_reached r)

    -- whatever was worked so far
    pub reached : {ys : List (Numbered Act)} {d : Desk Page Act Result} → ReachedBy w start ys d → Reached w start d
    reached by_opening = at_opening
    reached (by_filing {ys} {d} r a) = on_filing (reached r) a
    reached (by_work {ys} {d} r n) = on_work (reached r) n

  -- THE FIRST OPEN ACT THAT TOUCHES A PAGE

  pub record First (d : Desk Page Act Result) (p i k f : ℕ) : Type 0 where
    pub from : i ≤ f
    pub to : f ≤ i + k
    pub below : (j : ℕ) → i ≤ j → j < f → (open_at d j && touched_by w j (slice_get d.filed j) p) ≡ false
    pub at : f < i + k → (open_at d f && touched_by w f (slice_get d.filed f) p) ≡ true

  pub first_is : (d : Desk Page Act Result) (p i k : ℕ) → First d p i k (open_from w d p i k)
  unfolding open_from
  first_is d p i zero = record { from = omega arith; to = omega arith; below = λ j l m. absurd (omega arith); at = λ h. absurd (omega arith) }
  first_is d p i (suc k) =
      ⊎_elim
      (λ t.
      subst (First d p i (suc k)) (sym (cond-true (open_at d i && touched_by w i (slice_get d.filed i) p) i (open_from w d p (suc i) k) t))
      (record { from = omega arith; to = omega arith; below = λ j l m. absurd (omega arith); at = λ h. t }))
      (λ f.
      let rest = first_is d p (suc i) k in
      let up = rest.from in
      let down = rest.to in
      subst (First d p i (suc k)) (sym (cond-false (open_at d i && touched_by w i (slice_get d.filed i) p) i (open_from w d p (suc i) k) f))
      (record {
        from = omega arith;
        to = omega arith;
        below = λ j l m.
            ⊎_elim
            (λ (e : j ≡ i). ap (λ n. open_at d n && touched_by w n (slice_get d.filed n) p) e ∙ f)
            (λ (other : j ≡ i → ⊥). rest.below j (omega arith) m)
            (cases_eq j i);
        at = λ h. rest.at (omega arith);
      }))
      (cases_Bool (open_at d i && touched_by w i (slice_get d.filed i) p))

  and_second : (x y : Bool) → (x && y) ≡ false → y ≡ true → x ≡ false
  and_second true y e f = absurd (true≢false (sym f ∙ e))
  and_second false y e f = refl

  as_filed : (start : ℕ → Page) (d : Desk Page Act Result) → Kept w local start d → AsFiled w start d
  as_filed start d kept = record {
    page = λ p.
        let f : ℕ = first_open w d p in
        let first = first_is d p 0 (length d.filed) in
        kept.page p f
        (λ i l t. and_second (open_at d i) _ (first.below i (omega arith) l) t)
        (λ j l t. above p j (first_is d p 0 (length d.filed)) l t);
    outcome = kept.outcome;
  }
    where
      above : (p j : ℕ) {f : ℕ} → First d p 0 (length d.filed) f → f ≤ j → touched_by w j (slice_get d.filed j) p ≡ true → open_at d j ≡ true
      above p j {f} first l t =
          ⊎_elim
          (λ (h : f < length d.filed).
          let here = and_parts _ _ (first.at (omega arith)) in
          ⊎_elim
          (λ (e : j ≡ f). ap (open_at d) e ∙ here.0)
          (λ (other : j ≡ f → ⊥). kept.in_turn f j p (omega arith) here.1 t here.0)
          (cases_eq j f))
          (λ (h : length d.filed ≤ f).
          absurd (true≢false (sym t ∙ ap (λ o. touched_by w j o p) (slice_get_past d.filed j (omega arith)))))
          (cases_lt f (length d.filed))

  pub order_of_work_unseen : OrderOfWorkUnseen w
  order_of_work_unseen start d r = as_filed start d (kept_reached start r)

  -- A PAGE THAT NO OPEN ACT TOUCHES

  pub record Free (d : Desk Page Act Result) (p : ℕ) : Type 0 where
    pub untouched : (i : ℕ) → open_at d i ≡ true → touched_by w i (slice_get d.filed i) p ≡ false

  pub record Stays (d e : Desk Page Act Result) (p : ℕ) : Type 0 where
    pub page : e.register p ≡ d.register p
    pub free : Free e p

  free_worked : (d : Desk Page Act Result) (p n : ℕ) (a : Act) → Free d p → Ready w local d n a → Stays d (worked_on w d n a) p
  free_worked d p n a free r =
      let not_here = sym (ap (λ o. touched_by w n o p) r.there) ∙ free.untouched n r.is_open in
      record {
        page = local.only_there n a d.register p not_here;
        free = record {
          untouched = λ i o.
              ⊎_elim
              (λ (e : i ≡ n). ap (λ k. touched_by w k (slice_get d.filed k) p) e ∙ free.untouched n r.is_open)
              (λ (other : i ≡ n → ⊥). free.untouched i (sym (ap is_open (nth_set_other d.marks n i (Some (w.outcome n a d.register)) other)) ∙ o))
              (cases_eq i n);
        };
      }

  free_asked : (d : Desk Page Act Result) (p n : ℕ) → Free d p → (x : Answer Act) → asked w d n ≡ x → Stays d (if_ready w d n x) p
  free_asked d p n free absent e = record { page = refl; free = free }
  free_asked d p n free finished e = record { page = refl; free = free }
  free_asked d p n free (waits i) e = record { page = refl; free = free }
  free_asked d p n free (ready a) e = free_worked d p n a free (ready_means d n a e)

  free_work : (d : Desk Page Act Result) (p n : ℕ) → Free d p → Stays d (work w d n) p
  unfolding work
  free_work d p n free = free_asked d p n free (asked w d n) refl

  free_final : (ns : List ℕ) (d : Desk Page Act Result) (p : ℕ) → Free d p → (worked_all w d ns).register p ≡ d.register p
  unfolding worked_all
  free_final [] d p free = refl
  free_final (n ∷ ns) d p free = let one = free_work d p n free in free_final ns (work w d n) p one.free ∙ one.page

  pub untouched_is_final : UntouchedIsFinal w
  untouched_is_final d p free ns = free_final ns d p (record { untouched = free })
