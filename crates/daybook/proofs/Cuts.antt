-- The filings in a row, one filing at a time. Assumes nothing.
use Rattle.std.proofs.Common.{◌≡◌, ℕ, zero, suc, ◌≤◌, min, List, [], ◌∷◌, length, take, drop, Some, sym, refl, ap, ◌∙◌, arith, length-drop}
use Rattle.std.proofs.lemmas.List.{drop_min, take_min}
use Rattle.std.proofs.lemmas.Option.{same_Some}
use Rattle.daybook.specs.File.{cut, filings_in, first_filing}

-- it does not matter how many filings may be cut, if there are enough
cut_enough : (n m : ℕ) (bs : List ℕ) → length bs ≤ n → length bs ≤ m → cut n bs ≡ cut m bs
cut_enough zero zero bs h k = refl
cut_enough zero (suc m) [] h k = refl
cut_enough zero (suc m) (b ∷ bs) h k = grind arith
cut_enough (suc n) zero [] h k = refl
cut_enough (suc n) zero (b ∷ bs) h k = grind arith
cut_enough (suc n) (suc m) [] h k = refl
cut_enough (suc n) (suc m) (b ∷ bs) h k =
    ap (λ l. take b bs ∷ l) (cut_enough n m (drop b bs) (simp length-drop (omega arith)) (simp length-drop (omega arith)))

-- a row cut at a length or at its end
pub first_cut : (b : ℕ) (bs : List ℕ) → filings_in (b ∷ bs) ≡ take (min b (length bs)) bs ∷ filings_in (drop (min b (length bs)) bs)
first_cut b bs =
    rw (take_min b bs, drop_min b bs) (ap (λ l. take b bs ∷ l) (cut_enough (length bs) (length (drop b bs)) (drop b bs) (simp length-drop (omega arith)) (omega arith)))

pub as_first : (b : ℕ) (bs : List ℕ) → Some (take (min b (length bs)) bs, drop (min b (length bs)) bs) ≡ first_filing (b ∷ bs)
as_first b bs = λ i. Some (take_min b bs i, drop_min b bs i)

-- what is cut off first is the first filing of the row
pub first_row : (bs x y : List ℕ) → Some (x, y) ≡ first_filing bs → filings_in bs ≡ x ∷ filings_in y
first_row [] x y is = absurd (let z : ◌≡◌ {A = ℕ} 0 1 = cc in omega arith)
first_row (b ∷ bs) x y is =
    let both = same_Some (x, y) (take (min b (length bs)) bs, drop (min b (length bs)) bs) (is ∙ sym (as_first b bs)) in
    rw (ap (λ p. p.0) both, ap (λ p. p.1) both) (first_cut b bs)
