-- A page that is written is read back, and every other page is as it was. Assumes nothing.
use Rattle.std.proofs.Common.{Bor, Option, Some, None, ◌≡◌, ℕ, zero, suc, ◌+◌, ◌-◌, ◌*◌, ◌/◌, ◌%◌, ◌^◌, ◌<◌, ◌≤◌, min, Bool, true, false, cond, eqb, ltb, ◌⊎◌, List, [], ◌∷◌, ◌++◌, length, take, drop, sym, refl, ap, ◌∙◌, inl, inr, ⊎_elim, arith, append-nil, length-append, length-drop}
use borrow.Rule.Slice.PartMut.{put_mid}
use Rattle.std.proofs.lemmas.List.{drop_all, drop-drop, take_all, take-append-drop}
use Rattle.std.proofs.lemmas.Bool.{cases_Bool, cases_lt, cond-true, cond-false, eqb-true, eqb-false, ltb-false, ltb-true, le-ltb, lt-ltb, true≢false}
use Rattle.std.proofs.lemmas.Option.{get_or_from_slice_get}
use Rattle.std.specs.List.{slice_get}
use Rattle.std.specs.Option.{MatchOption}
use Rattle.std.specs.Simd.{first_chunks}
use Rattle.std.specs.Slice.{IsItemAt}
use Rattle.entries.specs.Sheet.{Sheet}
use Rattle.entries.specs.declared.entry.Claim.{Claim}
use Rattle.entries.specs.declared.entry.Claim.TheVariants.{Charge, Reserved}
use Rattle.entries.specs.declared.entry.Entry.{Entry}
use Rattle.pages.specs.Register.{no_page, put, put_kept, room, words_at, page_at, put_page}
use Rattle.pages.specs.Words.{flag, claim_words, entry_words, places, sheet_words, entry_in, entries_in, sheet_in, FitsEntry, FitsSheet}
use Rattle.pages.proofs.Reading.{chunk_at}
use Rattle.pages.proofs.Swapped.{swapped, swapped_here, swapped_below, swapped_above, swapped_size}
use Rattle.pages.proofs.Writing.{place_size}

-- ONE PAGE

entry_back : (number holder : ℕ) (c : Claim) (rest : List ℕ) → number < 2 ^ 16 → holder < 2 ^ 32 → entry_in (number ∷ holder ∷ (claim_words c ++ rest)) ≡ record { number = number; holder = holder; claim = c }
entry_back number holder (Charge m) rest n h =
    let a : number % 2 ^ 16 ≡ number = omega arith in
    let b : holder % 2 ^ 32 ≡ holder = omega arith in
    λ i. record { number = a i; holder = b i; claim = Charge m }
entry_back number holder Reserved rest n h =
    let a : number % 2 ^ 16 ≡ number = omega arith in
    let b : holder % 2 ^ 32 ≡ holder = omega arith in
    λ i. record { number = a i; holder = b i; claim = Reserved }

entry_passed : (number holder : ℕ) (c : Claim) (rest : List ℕ) → drop 4 (number ∷ holder ∷ (claim_words c ++ rest)) ≡ rest
entry_passed number holder (Charge m) rest = refl
entry_passed number holder Reserved rest = refl

entries_back : (n : ℕ) (es : List Entry) → length es ≤ n → ((i : ℕ) → i < n → FitsEntry (slice_get es i)) → entries_in (length es) (places n es) ≡ es
unfolding entries_in places
entries_back n [] few fit = refl
entries_back zero (e ∷ es) few fit = absurd (omega arith)
entries_back (suc n) (e ∷ es) few fit =
    let here = fit 0 (omega arith) in
    let first = entry_back e.number e.holder e.claim (places n es) here.0 here.1 in
    let rest = ap (entries_in (length es)) (entry_passed e.number e.holder e.claim (places n es)) ∙ entries_back n es (omega arith) (λ i h. fit (suc i) (omega arith)) in
    λ j. first j ∷ rest j

flag_back : (b : Bool) → eqb (flag b) 1 ≡ b
flag_back true = refl
flag_back false = refl

read_back : (s : Sheet) → FitsSheet s → sheet_in (sheet_words s) ≡ s
read_back s fit =
    let small = fit.owner in
    let few = fit.few in
    let owner : s.owner % 2 ^ 32 ≡ s.owner = omega arith in
    let count : min (length s.entries) 32 ≡ length s.entries = omega arith in
    let entries = ap (λ n. entries_in n (places 32 s.entries)) count ∙ entries_back 32 s.entries few fit.entries in
    λ i. record { live = flag_back s.live i; owner = owner i; area = s.area; entries = entries i }

places_size : (n : ℕ) (es : List Entry) → length (places n es) ≡ 4 * n
unfolding places
places_size zero es = refl
places_size (suc n) [] = let e = places_size n [] in omega arith
places_size (suc n) (e ∷ es) =
    length-append (entry_words e) (places n es) ∙ (let a = place_size (Rattle.std.specs.declared.option.Option.TheVariants.Some e) in let b = places_size n es in omega arith)

pub sheet_size : (s : Sheet) → length (sheet_words s) ≡ 132
sheet_size s = let e = places_size 32 s.entries in omega arith

-- THE REGISTER

module _ (ws : List ℕ) (p : ℕ) (s : Sheet) where
  past : ltb p (room ws) ≡ false → put_page ws p s ≡ ws
  unfolding put_page
  past e = cond-false (ltb p (room ws)) _ _ e

  module _ (here : ltb p (room ws) ≡ true) where
    fits_in : 132 * p + 132 ≤ length ws
    fits_in = let h = ltb-true p (room ws) here in omega arith

    is_swapped : put_page ws p s ≡ swapped ws (sheet_words s) (132 * p) 132 (sheet_size s) fits_in
    unfolding put_page
    is_swapped = cond-true (ltb p (room ws)) _ _ here

    size_here : length (put_page ws p s) ≡ length ws
    size_here = ap length is_swapped ∙ swapped_size ws (sheet_words s) (132 * p) 132 (sheet_size s) fits_in

    words_here : words_at (put_page ws p s) p ≡ sheet_words s
    words_here = ap (λ l. words_at l p) is_swapped ∙ swapped_here ws (sheet_words s) (132 * p) 132 (sheet_size s) fits_in

    words_other : (q : ℕ) → (q ≡ p → ⊥) → words_at (put_page ws p s) q ≡ words_at ws q
    words_other q other =
        ap (λ l. words_at l q) is_swapped ∙
        ⊎_elim
        (λ (h : q < p). swapped_below ws (sheet_words s) (132 * p) 132 (sheet_size s) fits_in (132 * q) (omega arith))
        (λ (h : p < q). ap (take 132) (swapped_above ws (sheet_words s) (132 * p) 132 (sheet_size s) fits_in (132 * q) (omega arith)))
        apart
      where
        apart : (q < p) ⊎ (p < q)
        apart = ⊎_elim inl (λ (h : p ≤ q). inr (omega arith)) (cases_lt q p)

  pub put_page_size : length (put_page ws p s) ≡ length ws
  put_page_size = ⊎_elim size_here (λ e. ap length (past e)) (cases_Bool (ltb p (room ws)))

  put_page_room : room (put_page ws p s) ≡ room ws
  put_page_room = ap (λ n. n / 132) put_page_size

  module _ (fit : FitsSheet s) (here : ltb p (room ws) ≡ true) where
    put_here : page_at (put_page ws p s) p ≡ s
    unfolding page_at
    put_here =
        cond-true (ltb p (room (put_page ws p s))) _ _ (ap (ltb p) put_page_room ∙ here) ∙ ap sheet_in (words_here here) ∙ read_back s fit

    put_other : (q : ℕ) → (q ≡ p → ⊥) → page_at (put_page ws p s) q ≡ page_at ws q
    unfolding page_at
    put_other q other =
        (λ i. cond (ltb q (put_page_room i)) (sheet_in (words_other here q other i)) no_page)

    put_at : (q : ℕ) → page_at (put_page ws p s) q ≡ put p s (page_at ws) q
    put_at q =
        ⊎_elim
        (λ e. ap (page_at (put_page ws p s)) (eqb-true q p e) ∙ put_here ∙ sym (cond-true (eqb q p) _ _ e))
        (λ e. put_other q (eqb-false q p e) ∙ sym (cond-false (eqb q p) _ _ e))
        (cases_Bool (eqb q p))

  pub page_put : (p < room ws → FitsSheet s) → page_at (put_page ws p s) ≡ put_kept (room ws) p s (page_at ws)
  page_put fit =
      ⊎_elim
      (λ e. (λ i q. put_at (fit (ltb-true p (room ws) e)) e q i) ∙ sym (cond-true (ltb p (room ws)) _ _ e))
      (λ e. ap page_at (past e) ∙ sym (cond-false (ltb p (room ws)) _ _ e))
      (cases_Bool (ltb p (room ws)))

-- the first page of some words, written or left
module _ (ws : List ℕ) (s : Sheet) where
  pub first_put : 132 ≤ length ws → (after new : List ℕ) → new ≡ sheet_words s → after ≡ new ++ drop 132 ws → after ≡ put_page ws 0 s
  unfolding put_page
  first_put enough after new written kept =
      kept ∙ (λ i. written i ++ drop 132 ws) ∙ sym (cond-true (ltb 0 (room ws)) _ _ (lt-ltb 0 (room ws) (omega arith)))

  pub first_left : length ws < 132 → ws ≡ put_page ws 0 s
  unfolding put_page
  first_left few = sym (cond-false (ltb 0 (room ws)) _ _ (le-ltb 0 (room ws) (omega arith)))

-- what `write_page` does: it lends the words from the page on, and of these the first page is written
module _ (ws : List ℕ) (p : ℕ) (s : Sheet) (start : ℕ) (is : start ≡ 132 * min p (room ws)) where
  abbrev pub rest : List ℕ
  rest = take (length ws - start) (drop start ws)

  whole : rest ≡ drop start ws
  whole = take_all (length ws - start) (drop start ws) (simp length-drop (omega arith))

  behind : drop (length ws - start) (drop start ws) ≡ []
  behind = drop_all (length ws - start) (drop start ws) (simp length-drop (omega arith))

  left : length rest ≡ length ws - start
  left = ap length whole ∙ length-drop start ws

  pub room_left : p < room ws → 0 < room rest
  room_left h = let long = left in omega arith

  put_here_or_past : (p < room ws) ⊎ (room ws ≤ p) → put_mid start (length ws - start) ws (put_page rest 0 s) ≡ put_page ws p s
  unfolding put_page
  put_here_or_past (inl h) =
      let here : start ≡ 132 * p = omega arith in
      let kept : drop 132 rest ≡ drop (start + 132) ws = ap (drop 132) whole ∙ drop-drop 132 start ws in
      let put : put_page rest 0 s ≡ sheet_words s ++ drop (start + 132) ws =
      cond-true (ltb 0 (room rest)) _ _ (lt-ltb 0 (room rest) (room_left h)) ∙ ap (λ l. sheet_words s ++ l) kept in
      (λ i. take start ws ++ (put i ++ behind i)) ∙
      ap (λ l. take start ws ++ l) (append-nil (sheet_words s ++ drop (start + 132) ws)) ∙
      ap (λ n. take n ws ++ (sheet_words s ++ drop (n + 132) ws)) here ∙
      sym (cond-true (ltb p (room ws)) _ _ (lt-ltb p (room ws) h))
  put_here_or_past (inr h) =
      let put : put_page rest 0 s ≡ rest = let long = left in cond-false (ltb 0 (room rest)) _ _ (le-ltb 0 (room rest) (omega arith)) in
      (λ i. take start ws ++ ((put ∙ whole) i ++ behind i)) ∙
      ap (λ l. take start ws ++ l) (append-nil (drop start ws)) ∙
      take-append-drop start ws ∙
      sym (cond-false (ltb p (room ws)) _ _ (le-ltb p (room ws) h))

  pub put_there : (part : List ℕ) → part ≡ put_page rest 0 s → put_mid start (length ws - start) ws part ≡ put_page ws p s
  put_there part e = ap (put_mid start (length ws - start) ws) e ∙ put_here_or_past (cases_lt p (room ws))

-- what `read_page` reads
module _ (ws : List ℕ) (p : ℕ) where
  pub read_there : p < room ws → page_at ws p ≡ sheet_in (words_at ws p)
  unfolding page_at
  read_there h = cond-true (ltb p (room ws)) _ _ (lt-ltb _ _ h)

  pub read_past : room ws ≤ p → page_at ws p ≡ no_page
  unfolding page_at
  read_past h = cond-false (ltb p (room ws)) _ _ (le-ltb _ _ h)

  pub page_got :
      (pages : List (List ℕ)) (got : Option (Bor (List ℕ))) → pages ≡ first_chunks 132 (room ws) ws → length pages ≡ room ws → IsItemAt pages p got →
      MatchOption got (page_at ws p ≡ no_page) (λ page. page_at ws p ≡ sheet_in page.now)
  page_got pages None are many found = let outside = ltb-false _ _ (sym found.0) in read_past (omega arith)
  page_got pages (Some page) are many found =
      let inside = ltb-true _ _ (sym found.0) in
      let here : p < room ws = omega arith in
      let chunk = ap (λ l. slice_get l p) are ∙ chunk_at 132 _ ws p here in
      read_there here ∙ ap sheet_in (sym (found.1 ∙ get_or_from_slice_get pages p _ _ chunk))

  -- a live page lies within the memory
  pub live_within : (page_at ws p).live ≡ true → p < room ws
  unfolding page_at
  live_within live =
      ⊎_elim (λ h. h) (λ (h : room ws ≤ p). absurd (true≢false (sym live ∙ ap (λ (s : Sheet). s.live) (cond-false (ltb p (room ws)) _ _ (le-ltb _ _ h))))) (cases_lt p (room ws))
