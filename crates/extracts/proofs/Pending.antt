-- The open filings that touch a page, as they are listed, and the first of them. Assumes nothing.
use Rattle.std.proofs.Common.{◌≡◌, ℕ, zero, suc, ◌+◌, Bool, true, false, cond, List, ◌∷◌, filter, get_or, sym, refl, ap, ◌∙◌, add-one, arith}
use Rattle.std.specs.List.{range_with_len}
use Rattle.orders.specs.Desk.{open_from}
use Rattle.steps.specs.Acting.{acts}
use Rattle.work.specs.State.{State}
use Rattle.extracts.specs.Open.{open_there}

-- one that is looked at is the first, or the first of those behind it is
one_more : (b : Bool) (i f d : ℕ) (ns : List ℕ) → f ≡ get_or ns 0 d → cond b i f ≡ get_or (cond b (i ∷ ns) ns) 0 d
one_more true i f d ns is = refl
one_more false i f d ns is = is

module _ (s : State) (p : ℕ) where
  abbrev listed : ℕ → ℕ → List ℕ
  listed i k = filter (open_there s p) (range_with_len i k)

  -- the first open one is the first that is listed; where there is none, the number behind them all
  pub first_listed : (i k : ℕ) → open_from (acts s.parcels) s.desk p i k ≡ get_or (listed i k) 0 (i + k)
  unfolding open_from
  first_listed i zero = omega arith
  first_listed i (suc k) =
      let on : suc i + k ≡ i + suc k = omega arith in
      one_more (open_there s p i) i (open_from (acts s.parcels) s.desk p (suc i) k) (i + suc k) (listed (i + 1) k)
      (first_listed (suc i) k ∙ ap (λ j. get_or (listed j k) 0 (suc i + k)) (sym (add-one i)) ∙ ap (λ d. get_or (listed (i + 1) k) 0 d) on)
