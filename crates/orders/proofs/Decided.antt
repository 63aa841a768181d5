-- A desk is decided by what was filed and which of it is done. Assumes nothing.
use Rattle.std.proofs.Common.{◌≡◌, ℕ, zero, suc, ◌<◌, ◌≤◌, cond, ◌&&◌, List, [], ◌∷◌, length, Some, None, Option, sym, refl, ap, ◌∙◌, subst, ⊎_elim, arith}
use Rattle.std.proofs.lemmas.Option.{slice_get_past}
use Rattle.std.proofs.lemmas.Bool.{cases_lt, true≢false}
use Rattle.std.specs.List.{slice_get}
use Rattle.orders.specs.Desk.{Desk, Reached, is_open, open_at, open_from, touched_by, turn}
use Rattle.orders.specs.Laws.{OnlyDoneCounts}
use Rattle.orders.specs.Steps.{Acts, Local}
use Rattle.orders.proofs.Places.{nth_there}
use Rattle.orders.proofs.Reached.{kept_reached, order_of_work_unseen}

-- lists that have the same at each place are the same
same_places : {X : Type 0} (xs ys : List X) → ((n : ℕ) → slice_get xs n ≡ slice_get ys n) → xs ≡ ys
same_places [] [] same = refl
same_places [] (y ∷ ys) same = absurd (let e = same 0 in let z : ◌≡◌ {A = ℕ} 0 1 = cc in omega arith)
same_places (x ∷ xs) [] same = absurd (let e = same 0 in let z : ◌≡◌ {A = ℕ} 0 1 = cc in omega arith)
same_places (x ∷ xs) (y ∷ ys) same =
    let e = same 0 in
    let head : x ≡ y = cc in
    λ i. head i ∷ same_places xs ys (λ n. same (suc n)) i

module _ {Page Act Result : Type 0} (w : Acts Page Act Result) (local : Local w) where
  module _ (d e : Desk Page Act Result) (filed : d.filed ≡ e.filed) (opens : (n : ℕ) → open_at d n ≡ open_at e n) where
    same_first : (p i k : ℕ) → open_from w d p i k ≡ open_from w e p i k
    unfolding open_from
    same_first p i zero = refl
    same_first p i (suc k) = λ t. cond (opens i t && touched_by w i (slice_get (filed t) i) p) i (same_first p (suc i) k t)

    module _ (start : ℕ → Page) (r : Reached w start d) (s : Reached w start e) where
      same_page : (p : ℕ) → d.register p ≡ e.register p
      same_page p =
          (order_of_work_unseen w local start d r).page p ∙
          (λ t. turn w start (filed t) ((same_first p 0 (length d.filed) ∙ ap (λ l. open_from w e p 0 (length l)) filed) t) p) ∙
          sym ((order_of_work_unseen w local start e s).page p)

      same_mark : (n : ℕ) (a : Act) → slice_get d.filed n ≡ Some a → (x y : Option Result) → slice_get d.marks n ≡ Some x → slice_get e.marks n ≡ Some y → x ≡ y
      same_mark n a is None None p q = refl
      same_mark n a is None (Some o) p q = absurd (true≢false (sym (ap is_open p) ∙ opens n ∙ ap is_open q))
      same_mark n a is (Some o) None p q = absurd (true≢false (sym (ap is_open q) ∙ sym (opens n) ∙ ap is_open p))
      same_mark n a is (Some o) (Some u) p q =
          let here = (order_of_work_unseen w local start d r).outcome n a o is p in
          let there = (order_of_work_unseen w local start e s).outcome n a u (subst (λ l. slice_get l n ≡ Some a) filed is) q in
          ap Some (here ∙ (λ t. w.outcome n a (turn w start (filed t) n)) ∙ sym there)

      same_place : (n : ℕ) → slice_get d.marks n ≡ slice_get e.marks n
      same_place n =
          let one = (kept_reached w local start r).as_long in
          let two = (kept_reached w local start s).as_long in
          let size = ap length filed in
          ⊎_elim
          (λ (h : n < length d.filed).
          let act = nth_there d.filed n h in
          let x = nth_there d.marks n (omega arith) in
          let y = nth_there e.marks n (omega arith) in
          x.1 ∙ ap Some (same_mark n act.0 act.1 x.0 y.0 x.1 y.1) ∙ sym y.1)
          (λ (h : length d.filed ≤ n). slice_get_past d.marks n (omega arith) ∙ sym (slice_get_past e.marks n (omega arith)))
          (cases_lt n (length d.filed))

  pub only_done_counts : OnlyDoneCounts w
  only_done_counts start d e r s filed opens =
      λ t. record {
        register = λ p. same_page d e filed opens start r s p t;
        filed = filed t;
        marks = same_places d.marks e.marks (same_place d e filed opens start r s) t;
      }
