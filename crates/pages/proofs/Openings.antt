-- The checks of an opening: its areas, one parcel at a time, and what a good one is known by. Assumes nothing.
use Rattle.std.proofs.Common.{◌≡◌, ℕ, zero, suc, not, Some, Option, ◌+◌, ◌*◌, ◌/◌, ◌<◌, ◌≤◌, Bool, true, false, cond, ◌||◌, eqb, ltb, List, length, Ok, Err, Result, sym, refl, ap, ◌∙◌, subst, ⊎_elim, add-one, arith}
use Rattle.std.proofs.lemmas.Bool.{cases_eq, cases_lt, cond-true, cond-false, eq-eqb, eqb-true, le-ltb, lt-ltb, ne_eqb}
use Rattle.std.specs.List.{find, range_with_len}
use Rattle.std.specs.Option.{option_map_or}
use Rattle.entries.specs.Sheet.{Sheet}
use Rattle.pages.specs.Opening.{fits, area_in, areas_checked, checked, opened_page, opened_words}
use Rattle.pages.specs.Register.{Register, page_at, put, put_kept, put_page, room}
use Rattle.pages.specs.declared.refusal.Refusal.{Refusal}
use Rattle.pages.specs.declared.refusal.Refusal.TheVariants.{Parcels, Pages, Area}

-- refused is the first parcel whose area does not fit
pub areas_found :
    (bs : List ℕ) (parcel n : ℕ) →
    option_map_or (λ p. Err (Area p)) (find (λ p. not (fits (area_in bs p))) (range_with_len parcel n)) (Ok tt) ≡ areas_checked bs parcel n
areas_found bs parcel zero = refl
areas_found bs parcel (suc n) =
    let later = areas_found bs (parcel + 1) n ∙ ap (λ p. areas_checked bs p n) (add-one parcel) in
    by_area (fits (area_in bs parcel)) _ _ later
  where
    by_area :
        (b : Bool) (o : Option ℕ) (r : Result (Unit {0}) Refusal) → option_map_or (λ p. Err (Area p)) o (Ok tt) ≡ r →
        option_map_or (λ p. Err (Area p)) (cond (not b) (Some parcel) o) (Ok tt) ≡ cond b r (Err (Area parcel))
    by_area true o r e = e
    by_area false o r e = refl

-- a good opening has 8 bytes a page
good_length : (a b : Bool) (r : Result (Unit {0}) Refusal) (n : ℕ) → cond a (Err Parcels) (cond b r (Err (Pages n))) ≡ Ok tt → b ≡ true
good_length true b r n e = absurd (let z : ◌≡◌ {A = ℕ} 0 1 = cc in omega arith)
good_length false true r n e = refl
good_length false false r n e = absurd (let z : ◌≡◌ {A = ℕ} 0 1 = cc in omega arith)

pub checked_length : (parcels : ℕ) (bs : List ℕ) → checked parcels bs ≡ Ok tt → length bs ≡ 8 * parcels
checked_length parcels bs good = eqb-true _ _ (good_length (eqb parcels 0 || ltb 1024 parcels) (eqb (length bs) (8 * parcels)) _ _ good)

-- THE PAGES OF AN OPENING, WRITTEN ONE BY ONE

module _ (parcels : ℕ) (bs ws : List ℕ) where
  -- the register once the first n pages are written
  abbrev pub below : ℕ → Register
  below n q = cond (ltb q n) (opened_page parcels bs q) (page_at ws q)

  pub record OpenedTo (n : ℕ) (after : List ℕ) : Type 0 where
    pub words : after ≡ opened_words parcels bs ws n
    pub register : page_at after ≡ below n
    pub size : length after ≡ length ws

  pub opened_none : OpenedTo 0 ws
  unfolding opened_words
  opened_none = record { words = refl; register = (λ i q. sym (cond-false (ltb q 0) (opened_page parcels bs q) (page_at ws q) (le-ltb q 0 (omega arith))) i); size = refl }

  below_more : (n q : ℕ) → put n (opened_page parcels bs n) (below n) q ≡ below (n + 1) q
  below_more n q =
      ⊎_elim
      (λ (e : q ≡ n). cond-true (eqb q n) _ _ (eq-eqb q n e) ∙ ap (opened_page parcels bs) (sym e) ∙ sym (cond-true (ltb q (n + 1)) _ _ (lt-ltb _ _ (omega arith))))
      (λ (other : q ≡ n → ⊥).
      cond-false (eqb q n) _ _ (ne_eqb q n other) ∙
      ⊎_elim
      (λ (h : q < n). cond-true (ltb q n) _ _ (lt-ltb _ _ h) ∙ sym (cond-true (ltb q (n + 1)) _ _ (lt-ltb _ _ (omega arith))))
      (λ (h : n ≤ q). cond-false (ltb q n) _ _ (le-ltb _ _ h) ∙ sym (cond-false (ltb q (n + 1)) _ _ (le-ltb _ _ (omega arith))))
      (cases_lt q n))
      (cases_eq q n)

  pub opened_more :
      (n : ℕ) (before after : List ℕ) (s : Sheet) → n < room ws → OpenedTo n before → s ≡ opened_page parcels bs n → length after ≡ length before →
      after ≡ put_page before n s → page_at after ≡ put_kept (room before) n s (page_at before) → OpenedTo (n + 1) after
  unfolding opened_words
  opened_more n before after s inside so_far is size words register =
      let room_kept : room before ≡ room ws = ap (λ k. k / 132) so_far.size in
      record {
        words = words ∙ (λ i. put_page (so_far.words i) n (is i)) ∙ ap (opened_words parcels bs ws) (sym (add-one n));
        register =
            register ∙
            cond-true (ltb n (room before)) _ _ (lt-ltb _ _ (subst (λ k. n < k) (sym room_kept) inside)) ∙
            (λ i. put n (is i) (so_far.register i)) ∙
            (λ i q. below_more n q i);
        size = size ∙ so_far.size;
      }

  pub opened_all : (n : ℕ) (after : List ℕ) → n ≡ room ws → parcels ≤ room ws → OpenedTo n after → page_at after ≡ opened_page parcels bs
  unfolding page_at
  opened_all n after last enough all =
      all.register ∙
      (λ i q. at q i)
    where
      at : (q : ℕ) → below n q ≡ opened_page parcels bs q
      at q =
          ⊎_elim
          (λ (h : q < n). cond-true (ltb q n) _ _ (lt-ltb _ _ h))
          (λ (h : n ≤ q).
          cond-false (ltb q n) _ _ (le-ltb _ _ h) ∙
          cond-false (ltb q (room ws)) _ _ (le-ltb _ _ (omega arith)) ∙
          sym (cond-false (ltb q parcels) _ _ (le-ltb _ _ (omega arith))))
          (cases_lt q n)
