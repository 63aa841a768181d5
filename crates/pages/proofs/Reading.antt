-- A page read from its words, entry by entry. Assumes nothing.
use Rattle.std.proofs.Common.{◌≡◌, ℕ, zero, suc, ◌*◌, ◌+◌, ◌%◌, ◌^◌, ◌<◌, ◌≤◌, cond, eqb, List, [], ◌∷◌, length, get_or, take, drop, Some, refl, sym, ap, ◌∙◌, arith}
use Rattle.std.specs.List.{slice_get}
use Rattle.std.specs.Simd.{first_chunks}
use Rattle.std.proofs.lemmas.List.{get_or-take, drop-drop}
use Rattle.entries.specs.declared.entry.Claim.TheVariants.{Charge, Reserved}
use Rattle.entries.specs.declared.entry.Entry.{Entry}
use Rattle.pages.specs.Words.{entry_in, entries_in}

pub chunk_at : {X : Type 0} (n k : ℕ) (xs : List X) (i : ℕ) → i < k → slice_get (first_chunks n k xs) i ≡ Some (take n (drop (n * i) xs))
chunk_at n zero xs i h = absurd (omega arith)
chunk_at n (suc k) xs zero h = let none : 0 ≡ n * 0 = omega arith in ap (λ j. Some (take n (drop j xs))) none
chunk_at n (suc k) xs (suc i) h =
    let next : n + n * i ≡ n * suc i = omega arith in
    chunk_at n k (drop n xs) i (omega arith) ∙ ap (λ l. Some (take n l)) (drop-drop (n * i) n xs ∙ ap (λ j. drop j xs) next)

pub get_in_front : {X : Type 0} (xs : List X) (n i : ℕ) → i < n → slice_get (take n xs) i ≡ slice_get xs i
get_in_front xs zero i h = absurd (omega arith)
get_in_front [] (suc n) i h = refl
get_in_front (x ∷ xs) (suc n) zero h = refl
get_in_front (x ∷ xs) (suc n) (suc i) h = get_in_front xs n i (omega arith)

-- an entry is read from the first four words alone
pub four_words : (ws : List ℕ) → entry_in (take 4 ws) ≡ entry_in ws
four_words ws =
    let at = λ (k : ℕ) (h : k < 4). get_or-take 4 ws k 0 h in
    let a : get_or (take 4 ws) 0 0 ≡ get_or ws 0 0 = at 0 (omega arith) in
    let b : get_or (take 4 ws) 1 0 ≡ get_or ws 1 0 = at 1 (omega arith) in
    let c : get_or (take 4 ws) 2 0 ≡ get_or ws 2 0 = at 2 (omega arith) in
    let d : get_or (take 4 ws) 3 0 ≡ get_or ws 3 0 = at 3 (omega arith) in
    λ i. record { number = a i % 2 ^ 16; holder = b i % 2 ^ 32; claim = cond (eqb (c i) 1) Reserved (Charge (d i)) }

pub entries_read :
    (n : ℕ) (es : List Entry) (ws : List ℕ) (d : Entry) → n ≤ length es → ((i : ℕ) → i < n → get_or es i d ≡ entry_in (drop (4 * i) ws)) →
    take n es ≡ entries_in n ws
unfolding entries_in
entries_read zero es ws d long is = refl
entries_read (suc n) [] ws d long is = absurd (omega arith)
entries_read (suc n) (e ∷ es) ws d long is =
    let next = λ (i : ℕ). ap entry_in (sym (drop-drop (4 * i) 4 ws ∙ ap (λ k. drop k ws) (four_more i))) in
    let rest = entries_read n es (drop 4 ws) d (omega arith) (λ i h. is (suc i) (omega arith) ∙ next i) in
    λ j. is 0 (omega arith) j ∷ rest j
  where
    four_more : (i : ℕ) → 4 + 4 * i ≡ 4 * suc i
    four_more i = omega arith
