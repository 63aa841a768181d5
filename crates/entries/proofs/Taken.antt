-- What a write to the places of a page makes of the first n, which are its entries. Assumes nothing.
use Rattle.std.proofs.Common.{◌≡◌, ℕ, zero, suc, ◌+◌, ◌-◌, ◌<◌, ◌≤◌, List, [], ◌∷◌, ◌++◌, length, get_or, take, drop, set, refl, sym, ap, ◌∙◌, arith}
use borrow.Rule.Slice.PartMut.{put_mid}
use Rattle.std.specs.List.{between, remove, swap}
use Rattle.std.proofs.lemmas.List.Edits.{swap_is, length-between}
use Rattle.std.proofs.lemmas.List.{get_or-take, length-take-le, length-append, length-drop, append_assoc, drop-drop, take_at, take-take}
use Rattle.std.proofs.lemmas.Slice.{between_is}

module _ {X : Type 0} where
  pub take_of_set : (n : ℕ) (xs : List X) (k : ℕ) (x : X) → take n (set xs k x) ≡ set (take n xs) k x
  take_of_set zero xs k x = refl
  take_of_set (suc n) [] k x = refl
  take_of_set (suc n) (y ∷ xs) zero x = refl
  take_of_set (suc n) (y ∷ xs) (suc k) x = ap (λ l. y ∷ l) (take_of_set n xs k x)

  module _ (xs : List X) (n : ℕ) (all : n ≤ length xs) where
    pub take_of_rotated : (k : ℕ) (ys : List X) → k < n → ys ≡ between k n xs → take (n - 1) (put_mid k (n - k) xs (drop 1 ys ++ take 1 ys)) ≡ remove (take n xs) k
    take_of_rotated k ys lt e =
        let size = ap length e ∙ length-between xs k n (omega arith) in
        let low = take-take k n xs (omega arith) in
        let high = ap (drop 1) (e ∙ between_is xs k n) ∙ drop-drop 1 k (take n xs) in
        let next : k + 1 ≡ suc k = omega arith in
        let parts : take k xs ++ drop 1 ys ≡ remove (take n xs) k = cc in
        ap (take (n - 1)) (ap (λ l. take k xs ++ l) (append_assoc (drop 1 ys) (take 1 ys) _) ∙ sym (append_assoc (take k xs) (drop 1 ys) _)) ∙ take_at _ _ (n - 1) (omega (arith, length-append (take k xs) (drop 1 ys), length-take-le k xs (omega arith), length-drop 1 ys)) ∙ parts

    pub take_of_exchanged : (k j : ℕ) → k < n → j < n → (d : X) → take n (swap xs k j) ≡ swap (take n xs) k j
    take_of_exchanged k j lt less d =
        let long = length-take-le n xs all in
        let was = swap_is xs k j d (omega arith) (omega arith) in
        let is = swap_is (take n xs) k j d (omega arith) (omega arith) in
        let outer = take_of_set n (set xs k (get_or xs j d)) j (get_or xs k d) in
        let inner = take_of_set n xs k (get_or xs j d) in
        let here = get_or-take n xs k d lt in
        let there = get_or-take n xs j d less in
        cc
