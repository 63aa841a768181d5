-- What is known of a filing that may come in, and what it makes of the state. Assumes nothing.
use Rattle.std.proofs.Common.{◌≡◌, ℕ, ◌+◌, ◌<◌, Bool, true, false, cond, eqb, ltb, leb, List, [], ◌∷◌, ◌++◌, length, set, is_some, IfOk, Some, None, Ok, Err, Option, Result, sym, refl, ap, ◌∙◌, ⊎_elim, add-one, arith}
use Rattle.std.proofs.lemmas.List.{get_or-set_same, get_or-set_other}
use Rattle.std.proofs.lemmas.Bool.{cases_eq, cond-true, cond-false, eq-eqb, leb-false, lt-ltb, ltb-false, ne_eqb}
use Rattle.std.specs.Option.{option_to_list}
use Rattle.pages.specs.Register.{page_at, room}
use Rattle.pages.specs.declared.refusal.Refusal.{Refusal}
use Rattle.filings.specs.Keeping.{Admitted, admitted, kept_at, kept_in, put, put_kept, slot_of, slots_in}
use Rattle.filings.specs.Reading.{reading}
use Rattle.filings.specs.Touches.{first_made}
use Rattle.filings.specs.declared.filing.Filing.{Filing}
use Rattle.work.specs.Calls.{Admits, lacks_room, state_filed, taking_in, then, wants_room}
use Rattle.work.specs.Listed.{filed_in, marks_in}
use Rattle.work.specs.Marks.{mark_of}
use Rattle.work.specs.State.{Image, state_in}
use Rattle.work.proofs.Listing.{filed_same, marks_same}

-- a row of checks was passed
passed : (b : Bool) {X : Type 0} (e : Refusal) (x : Result X Refusal) (y : X) → cond b (Err e) x ≡ Ok y → (b ≡ false) × (x ≡ Ok y)
passed true e x y h = absurd (let z : ◌≡◌ {A = ℕ} 0 1 = cc in omega arith)
passed false e x y h = (refl, h)

module _ (im : Image) (bs : List ℕ) (wanted : wants_room im ≡ Ok tt) where
  pub taken_in : (x : Result Filing Refusal) → x ≡ admitted im.filed (reading bs) → x ≡ taking_in im bs
  taken_in x e = e ∙ ap (λ o. then o (admitted im.filed (reading bs))) (sym wanted)

  pub admits : (x : Result Filing Refusal) → IfOk x (Admitted im.filed bs) → IfOk x (Admits im bs)
  admits (Err e) h = tt
  admits (Ok f) h =
      let room_there : lacks_room im ≡ Ok tt = sym (cond-true (ltb im.filed 16384) (lacks_room im) (Ok tt) (lt-ltb _ _ h.few)) ∙ wanted in
      let one = passed (ltb (room im.pages) (first_made im.parcels im.filed + 2)) _ _ tt room_there in
      let two = passed (leb (slots_in im.filings) im.filed) _ _ tt one.1 in
      let three = passed (leb (length im.marks) im.filed) _ _ tt two.1 in
      record {
        few = h.few;
        pages = ltb-false _ _ one.0;
        slot = leb-false _ _ two.0;
        mark = leb-false _ _ three.0;
        kept = h.kept;
      }

-- what is kept after: the filing under its number, and all others as they were
module _ (before after : ℕ → Option Filing) (slots n : ℕ) (f : Filing) (within : n < slots) (is : after ≡ put_kept slots n (Some f) before) where
  put_is : after ≡ put n (Some f) before
  put_is = is ∙ cond-true (ltb n slots) _ _ (lt-ltb _ _ within)

  kept_here : after n ≡ Some f
  kept_here = ap (λ k. k n) put_is ∙ cond-true (eqb n n) _ _ (eq-eqb n n refl)

  kept_other : (k : ℕ) → (k ≡ n → ⊥) → after k ≡ before k
  kept_other k other = ap (λ g. g k) put_is ∙ cond-false (eqb k n) _ _ (ne_eqb k n other)

  pub all_kept : ((k : ℕ) → k < n → is_some (before k) ≡ true) → (k : ℕ) → k < n + 1 → is_some (after k) ≡ true
  all_kept all k h =
      ⊎_elim
      (λ (e : k ≡ n). ap is_some (ap after e ∙ kept_here))
      (λ (other : k ≡ n → ⊥). ap is_some (kept_other k other) ∙ all k (omega arith))
      (cases_eq k n)

  pub filed_one_more : filed_in after (n + 1) ≡ filed_in before n ++ f ∷ []
  unfolding filed_in
  filed_one_more =
      ap (filed_in after) (add-one n) ∙
      (λ i. filed_same after before n (λ k h. kept_other k (λ e. omega arith)) i ++ option_to_list (kept_here i))

pub marks_one_more : (ms : List ℕ) (n : ℕ) → n < length ms → marks_in (set ms n 0) (n + 1) ≡ marks_in ms n ++ None ∷ []
unfolding marks_in
marks_one_more ms n within =
    ap (marks_in (set ms n 0)) (add-one n) ∙
    (λ i. marks_same (set ms n 0) ms n (λ k h. get_or-set_other ms n k 0 0 (λ e. omega arith)) i ++ mark_of (get_or-set_same ms n 0 0 within i) ∷ [])

pub state_one_more :
    (im after : Image) (bs : List ℕ) (f : Filing) → Admits im bs f → after.pages ≡ im.pages →
    kept_at after.filings ≡ put_kept (slots_in im.filings) im.filed (kept_in (slot_of bs)) (kept_at im.filings) →
    after.marks ≡ set im.marks im.filed 0 → after.parcels ≡ im.parcels → after.filed ≡ im.filed + 1 →
    state_in after ≡ state_filed (Ok f) (state_in im)
state_one_more im after bs f a pages filings marks parcels filed =
    let is : kept_at after.filings ≡ put_kept (slots_in im.filings) im.filed (Some f) (kept_at im.filings) =
    filings ∙ ap (λ o. put_kept (slots_in im.filings) im.filed o (kept_at im.filings)) a.kept
    in
    let listed : filed_in (kept_at after.filings) after.filed ≡ filed_in (kept_at im.filings) im.filed ++ f ∷ [] =
    ap (filed_in (kept_at after.filings)) filed ∙ filed_one_more (kept_at im.filings) (kept_at after.filings) (slots_in im.filings) im.filed f a.slot is
    in
    let marked : marks_in after.marks after.filed ≡ marks_in im.marks im.filed ++ None ∷ [] =
    (λ i. marks_in (marks i) (filed i)) ∙ marks_one_more im.marks im.filed a.mark
    in
    λ i. record { parcels = parcels i; desk = record { register = page_at (pages i); filed = listed i; marks = marked i } }
