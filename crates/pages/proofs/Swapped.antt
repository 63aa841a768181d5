-- Any part of a list in place of another of its size. Assumes nothing.
use Rattle.std.proofs.Common.{◌≡◌, ℕ, ◌+◌, ◌-◌, ◌≤◌, List, ◌++◌, length, take, drop, sym, ap, ◌∙◌, arith, length-drop, length-take}
use Rattle.std.proofs.lemmas.List.Edits.{drop-paste, length-paste, paste_all}
use Rattle.std.proofs.Math.Seq.{paste}
use Rattle.std.proofs.lemmas.List.{take_at, take-take, take-append-le, drop_at, drop-append-le, drop-drop, drop-take, length-take-le}

module _ {X : Type 0} (xs ys : List X) (a n : ℕ) (size : length ys ≡ n) (within : a + n ≤ length xs) where
  abbrev pub swapped : List X
  swapped = take a xs ++ (ys ++ drop (a + n) xs)

  pub swapped_here : take n (drop a swapped) ≡ ys
  swapped_here =
      ap (take n) (drop_at (take a xs) (ys ++ drop (a + n) xs) a (length-take-le a xs (omega arith))) ∙ take_at ys (drop (a + n) xs) n size

  pub swapped_below : (b : ℕ) → b + n ≤ a → take n (drop b swapped) ≡ take n (drop b xs)
  swapped_below b h =
      let front = length-take-le a xs (omega arith) in
      let m : ℕ = a - b in
      let split : a ≡ b + m = omega arith in
      let left : drop b (take a xs) ≡ take m (drop b xs) = ap (λ k. drop b (take k xs)) split ∙ drop-take b m xs in
      let long : n ≤ length (drop b (take a xs)) = simp (length-drop, length-take) (omega arith) in
      ap (take n) (drop-append-le b (take a xs) (ys ++ drop (a + n) xs) (omega arith)) ∙
      take-append-le n (drop b (take a xs)) (ys ++ drop (a + n) xs) long ∙
      ap (take n) left ∙
      take-take n m (drop b xs) (omega arith)

  pasted : paste xs a ys n ≡ swapped
  pasted = paste_all xs a ys n (sym size)

  pub swapped_above : (b : ℕ) → a + n ≤ b → drop b swapped ≡ drop b xs
  swapped_above b h =
      let m : ℕ = b - (a + n) in
      let split : a + n + m ≡ b = omega arith in
      let rest : drop (a + n) swapped ≡ drop (a + n) xs = ap (drop (a + n)) (sym pasted) ∙ drop-paste xs a ys n (omega arith) (omega arith) in
      ap (λ k. drop k swapped) (sym split) ∙ sym (drop-drop m (a + n) swapped) ∙ ap (drop m) rest ∙ drop-drop m (a + n) xs ∙ ap (λ k. drop k xs) split

  pub swapped_size : length swapped ≡ length xs
  swapped_size = ap length (sym pasted) ∙ length-paste xs a ys n within (omega arith)
