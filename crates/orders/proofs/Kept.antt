-- What filing and working keep: by pages, without ever reordering a list. Assumes nothing.
use Rattle.std.proofs.Common.{◌≡◌, ℕ, zero, suc, ◌<◌, ◌≤◌, Bool, true, false, ◌&&◌, [], ◌∷◌, ◌++◌, length, Some, None, Option, sym, refl, ap, ◌∙◌, subst, ⊎_elim, arith}
use Rattle.std.proofs.lemmas.Option.{slice_get_past, slice_get_within}
use Rattle.std.proofs.lemmas.List.{length-set, length_push}
use Rattle.std.proofs.lemmas.Bool.{cases_Bool, cases_eq, cases_lt, true≢false}
use Rattle.std.specs.List.{slice_get}
use Rattle.orders.specs.Desk.{Desk, is_open, open_at, opened, filed_more, shares_with, in_way, worked_on, stepped, turn, touched_by}
use Rattle.orders.specs.Steps.{Acts, Local}
use Rattle.orders.proofs.Places.{nth_front, nth_last, nth_set_same, nth_set_other}
use Rattle.orders.proofs.Turns.{turn_untouched, turn_more}

module _ {Page Act Result : Type 0} (w : Acts Page Act Result) (local : Local w) where
  abbrev touches : Desk Page Act Result → ℕ → ℕ → Bool
  touches d n p = touched_by w n (slice_get d.filed n) p

  pub record Kept (start : ℕ → Page) (d : Desk Page Act Result) : Type 0 where
    pub as_long : length d.marks ≡ length d.filed
    -- of two that touch a page the later is open where the earlier is
    pub in_turn : (i j p : ℕ) → i < j → touched_by w i (slice_get d.filed i) p ≡ true → touched_by w j (slice_get d.filed j) p ≡ true → open_at d i ≡ true → open_at d j ≡ true
    -- a page of which those below k are done and those from k on are open
    pub page :
        (p k : ℕ) → ((i : ℕ) → i < k → touched_by w i (slice_get d.filed i) p ≡ true → open_at d i ≡ false) →
        ((j : ℕ) → k ≤ j → touched_by w j (slice_get d.filed j) p ≡ true → open_at d j ≡ true) → d.register p ≡ turn w start d.filed k p
    pub outcome :
        (n : ℕ) (a : Act) (o : Result) → slice_get d.filed n ≡ Some a → slice_get d.marks n ≡ Some (Some o) → o ≡ w.outcome n a (turn w start d.filed n)

  -- THE OPENING

  never_some : {X : Type 0} {x : X} → ◌≡◌ {A = Option X} None (Some x) → ⊥
  never_some e = let z : ◌≡◌ {A = ℕ} 0 1 = cc in omega arith

  pub kept_opened : (start : ℕ → Page) → Kept start (opened start)
  unfolding turn
  kept_opened start = record {
    as_long = refl;
    in_turn = λ i j p l s t o. absurd (true≢false (sym s));
    page = λ p k below above. turn_start p k;
    outcome = λ n a o e. absurd (never_some e);
  }
    where
      turn_start : (p k : ℕ) → start p ≡ turn w start [] k p
      turn_start p zero = refl
      turn_start p (suc k) = turn_start p k

  -- FILING

  module _ (start : ℕ → Page) (d : Desk Page Act Result) (a : Act) (kept : Kept start d) where
    m : ℕ
    m = length d.filed

    d' : Desk Page Act Result
    d' = filed_more d a

    open_before : (i : ℕ) → i < length d.filed → open_at (filed_more d a) i ≡ open_at d i
    open_before i h = let l = kept.as_long in ap is_open (nth_front d.marks None i (omega arith))

    open_new : open_at (filed_more d a) (length d.filed) ≡ true
    open_new = let l = kept.as_long in ap is_open (nth_last d.marks None (length d.filed) (omega arith))

    touch_before : (i p : ℕ) → i < length d.filed → touched_by w i (slice_get (filed_more d a).filed i) p ≡ touched_by w i (slice_get d.filed i) p
    touch_before i p h = ap (λ o. touched_by w i o p) (nth_front d.filed a i h)

    touch_past : (i p : ℕ) → length d.filed < i → touched_by w i (slice_get (filed_more d a).filed i) p ≡ false
    touch_past i p h = ap (λ o. touched_by w i o p) (slice_get_past (d.filed ++ a ∷ []) i (simp length_push (omega arith)))

    touch_none : (i p : ℕ) → length d.filed ≤ i → touched_by w i (slice_get d.filed i) p ≡ false
    touch_none i p h = ap (λ o. touched_by w i o p) (slice_get_past d.filed i h)

    never : {t : Bool} {X : Type 0} → t ≡ false → t ≡ true → X
    never e f = absurd (true≢false (sym f ∙ e))

    filed_in_turn :
        (i j p : ℕ) → i < j → touched_by w i (slice_get (filed_more d a).filed i) p ≡ true → touched_by w j (slice_get (filed_more d a).filed j) p ≡ true →
        open_at (filed_more d a) i ≡ true → open_at (filed_more d a) j ≡ true
    filed_in_turn i j p l ti tj oi =
        ⊎_elim
        (λ (h : j < length d.filed).
        let hi : i < length d.filed = omega arith in
        open_before j h ∙ kept.in_turn i j p l (sym (touch_before i p hi) ∙ ti) (sym (touch_before j p h) ∙ tj) (sym (open_before i hi) ∙ oi))
        (λ (h : length d.filed ≤ j).
        ⊎_elim
        (λ (e : j ≡ length d.filed). ap (open_at (filed_more d a)) e ∙ open_new)
        (λ (other : j ≡ length d.filed → ⊥). never (touch_past j p (omega arith)) tj)
        (cases_eq j (length d.filed)))
        (cases_lt j (length d.filed))

    -- a page on which nothing from the new act on is done
    filed_page_below :
        (p k : ℕ) → k ≤ length d.filed → ((i : ℕ) → i < k → touched_by w i (slice_get (filed_more d a).filed i) p ≡ true → open_at (filed_more d a) i ≡ false) →
        ((j : ℕ) → k ≤ j → touched_by w j (slice_get (filed_more d a).filed j) p ≡ true → open_at (filed_more d a) j ≡ true) →
        d.register p ≡ turn w start (filed_more d a).filed k p
    filed_page_below p k h below above =
        kept.page p k
        (λ i l t. let hi : i < length d.filed = omega arith in sym (open_before i hi) ∙ below i l (touch_before i p hi ∙ t))
        (λ j l t.
        ⊎_elim
        (λ (hj : j < length d.filed). sym (open_before j hj) ∙ above j l (touch_before j p hj ∙ t))
        (λ (hj : length d.filed ≤ j). never (touch_none j p hj) t)
        (cases_lt j (length d.filed)))
        ∙ ap (λ r. r p) (sym (turn_more w local start d.filed a k h))

    filed_page :
        (p k : ℕ) → ((i : ℕ) → i < k → touched_by w i (slice_get (filed_more d a).filed i) p ≡ true → open_at (filed_more d a) i ≡ false) →
        ((j : ℕ) → k ≤ j → touched_by w j (slice_get (filed_more d a).filed j) p ≡ true → open_at (filed_more d a) j ≡ true) →
        d.register p ≡ turn w start (filed_more d a).filed k p
    filed_page p k below above =
        ⊎_elim
        (λ (h : length d.filed < k).
        let untouched : (j : ℕ) → length d.filed ≤ j → touched_by w j (slice_get (filed_more d a).filed j) p ≡ false = (λ j l.
        ⊎_elim
        (λ (e : j ≡ length d.filed).
        ⊎_elim (λ t. never (below (length d.filed) h (subst (λ n. touched_by w n (slice_get (d.filed ++ a ∷ []) n) p ≡ true) e t)) open_new) (λ f. f)
        (cases_Bool (touched_by w j (slice_get (d.filed ++ a ∷ []) j) p)))
        (λ (other : j ≡ length d.filed → ⊥). touch_past j p (omega arith))
        (cases_eq j (length d.filed)))
        in
        filed_page_below p (length d.filed) (omega arith) (λ i l. below i (omega arith)) (λ j l t. never (untouched j l) t) ∙
        sym (turn_untouched w local start (filed_more d a).filed p (length d.filed) k (omega arith) (λ j l u. untouched j l)))
        (λ (h : k ≤ length d.filed). filed_page_below p k h below above)
        (cases_lt (length d.filed) k)

    filed_outcome :
        (n : ℕ) (b : Act) (o : Result) → slice_get (filed_more d a).filed n ≡ Some b → slice_get (filed_more d a).marks n ≡ Some (Some o) →
        o ≡ w.outcome n b (turn w start (filed_more d a).filed n)
    filed_outcome n b o e f =
        let l = kept.as_long in
        ⊎_elim
        (λ (h : n < length d.filed).
        kept.outcome n b o (sym (nth_front d.filed a n h) ∙ e) (sym (nth_front d.marks None n (omega arith)) ∙ f) ∙
        ap (w.outcome n b) (sym (turn_more w local start d.filed a n (omega arith))))
        (λ (h : length d.filed ≤ n).
        ⊎_elim
        (λ (at : n ≡ length d.filed). absurd (let s = nth_last d.marks None n (omega arith) in let z : ◌≡◌ {A = ℕ} 0 1 = cc in omega arith))
        (λ (other : n ≡ length d.filed → ⊥).
        absurd (never_some (sym (slice_get_past (d.marks ++ None ∷ []) n (simp length_push (omega arith))) ∙ f)))
        (cases_eq n (length d.filed)))
        (cases_lt n (length d.filed))

    pub kept_filed : Kept start (filed_more d a)
    kept_filed = record {
      as_long = let l = kept.as_long in simp length_push (omega arith);
      in_turn = filed_in_turn;
      page = filed_page;
      outcome = filed_outcome;
    }

  -- WORK

  never_both : {X : Type 0} (t : Bool) → t ≡ false → t ≡ true → X
  never_both t e f = absurd (true≢false (sym f ∙ e))

  -- an act that touches a page of another is in its way, if it is open and comes first
  open_shares : (n i q : ℕ) (a : Act) (o : Option Act) → touched_by w i o q ≡ true → w.touches n a q ≡ true → shares_with w n a i o ≡ true
  open_shares n i q a None t u = never_both false refl t
  open_shares n i q a (Some b) t u =
      ⊎_elim (λ y. y) (λ none. absurd (local.no_common i b n a none q t u)) (cases_Bool (w.shares i b n a))

  -- what makes an act ready
  pub record Ready (d : Desk Page Act Result) (n : ℕ) (a : Act) : Type 0 where
    pub there : slice_get d.filed n ≡ Some a
    pub is_open : open_at d n ≡ true
    pub clear : (i : ℕ) → i < n → in_way w d n a i ≡ false

  module _ (start : ℕ → Page) (d : Desk Page Act Result) (n : ℕ) (a : Act) (kept : Kept start d) (r : Ready d n a) where
    within : n < length d.marks
    within = let l = kept.as_long in let h = slice_get_within d.filed n a r.there in omega arith

    open_other : (i : ℕ) → (i ≡ n → ⊥) → open_at (worked_on w d n a) i ≡ open_at d i
    open_other i other = ap is_open (nth_set_other d.marks n i (Some (w.outcome n a d.register)) other)

    open_now : open_at (worked_on w d n a) n ≡ false
    open_now = ap is_open (nth_set_same d.marks n (Some (w.outcome n a d.register)) within)

    touched : (q : ℕ) → touched_by w n (slice_get d.filed n) q ≡ w.touches n a q
    touched q = ap (λ o. touched_by w n o q) r.there

    done_before : (i q : ℕ) → i < n → touched_by w i (slice_get d.filed i) q ≡ true → w.touches n a q ≡ true → open_at d i ≡ false
    done_before i q l t u =
        ⊎_elim
        (λ o. never_both (in_way w d n a i) (r.clear i l) ((λ j. o j && open_shares n i q a (slice_get d.filed i) t u j)))
        (λ e. e)
        (cases_Bool (open_at d i))

    -- the pages that it touches are those before it in the order of filing
    before : (q : ℕ) → w.touches n a q ≡ true → d.register q ≡ turn w start d.filed n q
    before q u =
        kept.page q n (λ i l t. done_before i q l t u)
        (λ j l t.
        ⊎_elim
        (λ (e : j ≡ n). ap (open_at d) e ∙ r.is_open)
        (λ (other : j ≡ n → ⊥). kept.in_turn n j q (omega arith) (touched q ∙ u) t r.is_open)
        (cases_eq j n))

    worked_in_turn :
        (i j p : ℕ) → i < j → touched_by w i (slice_get d.filed i) p ≡ true → touched_by w j (slice_get d.filed j) p ≡ true →
        open_at (worked_on w d n a) i ≡ true → open_at (worked_on w d n a) j ≡ true
    worked_in_turn i j p l ti tj oi =
        ⊎_elim
        (λ (e : i ≡ n). never_both (open_at (worked_on w d n a) n) open_now (subst (λ k. open_at (worked_on w d n a) k ≡ true) e oi))
        (λ (other : i ≡ n → ⊥).
        let was : open_at d i ≡ true = sym (open_other i other) ∙ oi in
        ⊎_elim
        (λ (e : j ≡ n).
        let tn : w.touches n a p ≡ true = sym (touched p) ∙ subst (λ k. touched_by w k (slice_get d.filed k) p ≡ true) e tj in
        never_both (open_at d i) (done_before i p (omega arith) ti tn) was)
        (λ (apart : j ≡ n → ⊥). open_other j apart ∙ kept.in_turn i j p l ti tj was)
        (cases_eq j n))
        (cases_eq i n)

    worked_page_here :
        (p k : ℕ) → w.touches n a p ≡ true →
        ((i : ℕ) → i < k → touched_by w i (slice_get d.filed i) p ≡ true → open_at (worked_on w d n a) i ≡ false) →
        ((j : ℕ) → k ≤ j → touched_by w j (slice_get d.filed j) p ≡ true → open_at (worked_on w d n a) j ≡ true) →
        w.step n a d.register p ≡ turn w start d.filed k p
    unfolding turn
    worked_page_here p k u below above =
        ⊎_elim
        (λ (h : n < k).
        let untouched : (j : ℕ) → suc n ≤ j → j < k → touched_by w j (slice_get d.filed j) p ≡ false = (λ j l m.
        ⊎_elim
        (λ t.
        let apart : j ≡ n → ⊥ = (λ e. omega arith) in
        never_both (open_at d j) (sym (open_other j apart) ∙ below j m t) (kept.in_turn n j p (omega arith) (touched p ∙ u) t r.is_open))
        (λ f. f)
        (cases_Bool (touched_by w j (slice_get d.filed j) p)))
        in
        local.step_there n a d.register (turn w start d.filed n) before p u ∙
        ap (λ o. stepped w n o (turn w start d.filed n) p) (sym r.there) ∙
        sym (turn_untouched w local start d.filed p (suc n) k (omega arith) untouched))
        (λ (h : k ≤ n). never_both (open_at (worked_on w d n a) n) open_now (above n h (touched p ∙ u)))
        (cases_lt n k)

    worked_page_other :
        (p k : ℕ) → w.touches n a p ≡ false →
        ((i : ℕ) → i < k → touched_by w i (slice_get d.filed i) p ≡ true → open_at (worked_on w d n a) i ≡ false) →
        ((j : ℕ) → k ≤ j → touched_by w j (slice_get d.filed j) p ≡ true → open_at (worked_on w d n a) j ≡ true) →
        w.step n a d.register p ≡ turn w start d.filed k p
    worked_page_other p k u below above =
        let other : (i : ℕ) → touched_by w i (slice_get d.filed i) p ≡ true → i ≡ n → ⊥ =
        (λ i t e. true≢false (sym t ∙ ap (λ j. touched_by w j (slice_get d.filed j) p) e ∙ touched p ∙ u))
        in
        local.only_there n a d.register p u ∙
        kept.page p k
        (λ i l t. sym (open_other i (other i t)) ∙ below i l t)
        (λ j l t. sym (open_other j (other j t)) ∙ above j l t)

    worked_outcome :
        (m : ℕ) (b : Act) (o : Result) → slice_get d.filed m ≡ Some b → slice_get (worked_on w d n a).marks m ≡ Some (Some o) → o ≡ w.outcome m b (turn w start d.filed m)
    worked_outcome m b o e f =
        ⊎_elim
        (λ (at : m ≡ n).
        let set_here = nth_set_same d.marks n (Some (w.outcome n a d.register)) within in
        let f' = subst (λ k. slice_get (worked_on w d n a).marks k ≡ Some (Some o)) at f in
        let e' = subst (λ k. slice_get d.filed k ≡ Some b) at e in
        let there = r.there in
        let is : o ≡ w.outcome n a d.register = cc in
        let act : a ≡ b = cc in
        is ∙ local.outcome_there n a d.register (turn w start d.filed n) before ∙ (λ j. w.outcome (sym at j) (act j) (turn w start d.filed (sym at j))))
        (λ (other : m ≡ n → ⊥).
        kept.outcome m b o e (sym (nth_set_other d.marks n m (Some (w.outcome n a d.register)) other) ∙ f))
        (cases_eq m n)

    pub kept_worked : Kept start (worked_on w d n a)
    kept_worked = record {
      as_long = length-set d.marks n _ ∙ kept.as_long;
      in_turn = worked_in_turn;
      page = λ p k below above.
          ⊎_elim (λ u. worked_page_here p k u below above) (λ u. worked_page_other p k u below above) (cases_Bool (w.touches n a p));
      outcome = worked_outcome;
    }
