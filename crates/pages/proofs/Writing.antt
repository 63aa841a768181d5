-- A page written to its words, place by place. Assumes nothing.
use Rattle.std.proofs.Common.{◌≡◌, ℕ, zero, suc, ◌<◌, List, [], ◌∷◌, ◌++◌, length, get_or, take, drop, Some, None, Option, refl, ap, ◌∙◌, append-nil, arith, length-drop}
use borrow.Rule.Slice.PartMut.{put_mid}
use Rattle.std.proofs.lemmas.List.{drop_all, take_at}
use Rattle.std.specs.List.{flat_map, slice_get}
use Rattle.entries.specs.Sheet.{Sheet}
use Rattle.entries.specs.declared.entry.Claim.{Claim}
use Rattle.entries.specs.declared.entry.Claim.TheVariants.{Charge, Reserved}
use Rattle.entries.specs.declared.entry.Entry.{Entry}
use Rattle.pages.specs.Words.{claim_words, head_words, place_words, places, sheet_words}

claim_size : (c : Claim) → length (claim_words c) ≡ 2
claim_size (Charge m) = refl
claim_size Reserved = refl

pub place_size : (o : Option Entry) → length (place_words o) ≡ 4
place_size None = refl
place_size (Some e) = ap (λ n. suc (suc n)) (claim_size e.claim)

pub places_written :
    (n : ℕ) (es : List Entry) (written : List (List ℕ)) → length written ≡ n → ((i : ℕ) → i < n → get_or written i [] ≡ place_words (slice_get es i)) →
    flat_map (λ x. x) written ≡ places n es
unfolding places
places_written zero es [] long is = refl
places_written zero es (x ∷ xs) long is = absurd (omega arith)
places_written (suc n) es [] long is = absurd (omega arith)
places_written (suc n) [] (x ∷ xs) long is =
    let rest = places_written n [] xs (omega arith) (λ i h. is (suc i) (omega arith)) in
    λ j. is 0 (omega arith) j ++ rest j
places_written (suc n) (e ∷ es) (x ∷ xs) long is =
    let rest = places_written n es xs (omega arith) (λ i h. is (suc i) (omega arith)) in
    λ j. is 0 (omega arith) j ++ rest j

-- the head, then the places behind it
pub sheet_written :
    (s : Sheet) (head rest behind : List ℕ) → length (head ++ rest) ≡ 132 → head ≡ head_words s → behind ≡ places 32 s.entries →
    put_mid 4 128 (head ++ rest) behind ≡ sheet_words s
sheet_written s head rest behind long is places_are =
    let four : length head ≡ 4 = ap length is in
    let front : take 4 (head ++ rest) ≡ head = take_at head rest 4 four in
    let none : drop 128 (drop 4 (head ++ rest)) ≡ [] = drop_all 128 (drop 4 (head ++ rest)) (simp length-drop (omega arith)) in
    λ j. (front ∙ is) j ++ ((λ k. places_are k ++ none k) ∙ append-nil (places 32 s.entries)) j
