-- Bytes that are read are the file that says what was read. Assumes nothing.
use Rattle.std.proofs.Common.{◌≡◌, ℕ, zero, suc, ◌+◌, ◌-◌, ◌*◌, ◌/◌, ◌%◌, ◌<◌, ◌≤◌, Bool, true, false, cond, eqb, ltb, leb, List, [], ◌∷◌, ◌++◌, length, take, drop, Ok, Err, Result, sym, refl, ap, ◌∙◌, subst, arith, length-drop, length-take}
use Rattle.std.specs.List.{flat_map, AllByRecursion}
use Rattle.std.proofs.ByRecursion.{All-drop}
use Rattle.std.proofs.lemmas.List.{take-append-drop, drop-drop, drop_more, length-take-le, drop-take, take-take}
use Rattle.std.proofs.lemmas.Bool.{leb-false, eqb-true, ltb-false}
use Rattle.pages.specs.Bytes.{byte, two}
use Rattle.pages.specs.Opening.{checked}
use Rattle.pages.specs.declared.refusal.Refusal.{Refusal}
use Rattle.daybook.specs.declared.error.Malformed.{Malformed}
use Rattle.daybook.specs.declared.error.FileError.{FileError}
use Rattle.daybook.specs.File.{Parts, after_length, two_bytes, written, cut, filings_in, numbers_in, end_from, pages_in, filings_start, reading, parts_to, read_to, unless_refused}
use Rattle.daybook.specs.Laws.{WrittenIfRead}

-- bytes in pairs are the numbers that they were read as
numbers_read : (bs : List ℕ) → AllByRecursion (λ b. b < 256) bs → length bs % 2 ≡ 0 → flat_map two_bytes (numbers_in bs) ≡ bs
numbers_read [] all even = refl
numbers_read (a ∷ []) all even = absurd (omega arith)
numbers_read (a ∷ b ∷ bs) all even =
    let low : (a + b * 256) % 256 ≡ a = let x = all.0 in omega arith in
    let high : (a + b * 256) / 256 ≡ b = let x = all.0 in omega arith in
    let rest = numbers_read bs all.1.1 (omega arith) in
    λ i. low i ∷ high i ∷ rest i

-- the filings that lie between two places of a file, and the byte 0 behind them
pub record Row (bs : List ℕ) (place end : ℕ) : Type 0 where
  pub from : place ≤ end
  pub within : end < length bs
  pub stop : byte bs end ≡ 0
  pub whole : (n : ℕ) → end - place ≤ n → flat_map after_length (cut n (take (end - place) (drop place bs))) ≡ take (end - place) (drop place bs)

-- no filing
row_none : (bs : List ℕ) (place end : ℕ) → place ≡ end → place < length bs → byte bs place ≡ 0 → Row bs place end
row_none bs place end e inside stop = record {
  from = omega arith;
  within = omega arith;
  stop = ap (byte bs) (sym e) ∙ stop;
  whole = λ n h. let none : end - place ≡ 0 = omega arith in rw none (none_cut n);
}
  where
    none_cut : (n : ℕ) → flat_map after_length (cut n []) ≡ []
    none_cut zero = refl
    none_cut (suc n) = refl

-- one filing more at the front
row_more :
    (bs : List ℕ) (place end : ℕ) → place < length bs → byte bs place < length bs - place → Row bs (place + (1 + byte bs place)) end → Row bs place end
row_more bs place end inside whole_filing r =
    let b : ℕ = byte bs place in
    let next : ℕ = place + (1 + b) in
    let later = r.from in
    let ys : List ℕ = take (b + (end - next)) (drop (place + 1) bs) in
    let front : take (end - place) (drop place bs) ≡ b ∷ ys =
    let size : end - place ≡ suc (b + (end - next)) = omega arith in
    (λ i. take (size i) (drop_more bs place 0 inside i))
    in
    let enough : b ≤ length (drop (place + 1) bs) = simp length-drop (omega arith) in
    let filing : length (take b ys) ≡ b = ap length (take-take b (b + (end - next)) (drop (place + 1) bs) (omega arith)) ∙ length-take-le b (drop (place + 1) bs) enough in
    let behind : drop b ys ≡ take (end - next) (drop next bs) =
    drop-take b (end - next) (drop (place + 1) bs) ∙
    ap (take (end - next)) (drop-drop b (place + 1) bs ∙ ap (λ k. drop k bs) (omega arith))
    in
    record {
      from = omega arith;
      within = r.within;
      stop = r.stop;
      whole = λ n h. subst (λ l. flat_map after_length (cut n l) ≡ l) (sym front) (again n b ys (end - next) (omega arith) filing
          (λ m k. subst (λ l. flat_map after_length (cut m l) ≡ l) (sym behind) (r.whole m k)));
    }
  where
    again :
        (n b : ℕ) (ys : List ℕ) (left : ℕ) → left < n → length (take b ys) ≡ b →
        ((m : ℕ) → left ≤ m → flat_map after_length (cut m (drop b ys)) ≡ drop b ys) → flat_map after_length (cut n (b ∷ ys)) ≡ b ∷ ys
    again zero b ys left some filing rest = absurd (omega arith)
    again (suc m) b ys left some filing rest =
        let tail = ap (λ l. take b ys ++ l) (rest m (omega arith)) ∙ take-append-drop b ys in
        λ i. filing i ∷ tail i

row_read : (n : ℕ) (bs : List ℕ) (place end : ℕ) → end_from n bs place ≡ Ok end → Row bs place end
row_read zero bs place end e = grind arith
row_read (suc n) bs place end e =
    by_tests (leb (length bs) place) (eqb (byte bs place) 0) (leb (length bs - place) (byte bs place)) _ _ (row_read n bs (place + (1 + byte bs place)) end) refl refl refl e
  where
    by_tests :
        (a b c : Bool) (x z : Malformed) → (end_from n bs (place + (1 + byte bs place)) ≡ Ok end → Row bs (place + (1 + byte bs place)) end) → leb (length bs) place ≡ a → eqb (byte bs place) 0 ≡ b → leb (length bs - place) (byte bs place) ≡ c →
        ◌≡◌ {A = Result ℕ Malformed} (cond a (Err x) (cond b (Ok place) (cond c (Err z) (end_from n bs (place + (1 + byte bs place)))))) (Ok end) → Row bs place end
    by_tests true b c x z later p q r h = grind arith
    by_tests false true c x z later p q r h = row_none bs place end (cc) (leb-false _ _ p) (eqb-true _ _ q)
    by_tests false false true x z later p q r h = grind arith
    by_tests false false false x z later p q r h =
        row_more bs place end (leb-false _ _ p) (leb-false _ _ r) (later h)

-- what a file that is read whole has: a good opening, filings to some end, and an order of whole numbers
pub record Whole (bs : List ℕ) (p : Parts) : Type 0 where
  pub two_there : 2 ≤ length bs
  pub good : checked (two bs 0) (pages_in bs) ≡ Ok tt
  pub end : ℕ
  pub row : Row bs (filings_start bs) end
  pub even : (length bs - (end + 1)) % 2 ≡ 0
  pub is : p ≡ parts_to bs end

whole_if_read : (bs : List ℕ) (p : Parts) → reading bs ≡ Ok p → Whole bs p
whole_if_read bs p e =
    by_length (ltb (length bs) 2) _ refl (checked (two bs 0) (pages_in bs)) refl (end_from (length bs) bs (filings_start bs)) refl e
  where
    by_order :
        (t : Bool) (end : ℕ) (x : FileError) → eqb ((length bs - (end + 1)) % 2) 0 ≡ t → 2 ≤ length bs → checked (two bs 0) (pages_in bs) ≡ Ok tt →
        end_from (length bs) bs (filings_start bs) ≡ Ok end → cond t (Ok (parts_to bs end)) (Err x) ≡ Ok p → Whole bs p
    by_order true end x s two_there good ends h = record {
      two_there = two_there;
      good = good;
      end = end;
      row = row_read (length bs) bs (filings_start bs) end ends;
      even = eqb-true _ _ s;
      is = cc;
    }
    by_order false end x s two_there good ends h = grind arith

    by_length :
        (t : Bool) (x : FileError) → ltb (length bs) 2 ≡ t → (o : Result (Unit {0}) Refusal) → checked (two bs 0) (pages_in bs) ≡ o → (f : Result ℕ Malformed) →
        end_from (length bs) bs (filings_start bs) ≡ f → cond t (Err x) (unless_refused o (read_to bs f)) ≡ Ok p → Whole bs p
    by_length true x s o q f r h = grind arith
    by_length false x s (Err y) q f r h = grind arith
    by_length false x s (Ok u) q (Err m) r h = grind arith
    by_length false x s (Ok u) q (Ok end) r h = by_order (eqb ((length bs - (end + 1)) % 2) 0) end _ refl (ltb-false _ _ s) q r h

-- the first two bytes are those of the number that they were read as
first_two : (bs : List ℕ) → 2 ≤ length bs → AllByRecursion (λ b. b < 256) bs → two_bytes (two bs 0) ++ drop 2 bs ≡ bs
first_two [] h all = absurd (omega arith)
first_two (a ∷ []) h all = absurd (omega arith)
first_two (a ∷ b ∷ bs) h all =
    let low : (a + b * 256) % 256 ≡ a = let x = all.0 in omega arith in
    let high : (a + b * 256) / 256 ≡ b = let x = all.0 in omega arith in
    λ i. low i ∷ high i ∷ bs

pub written_if_read : WrittenIfRead
written_if_read bs p bytes e =
    let w = whole_if_read bs p e in
    let end : ℕ = w.end in
    let start : ℕ = filings_start bs in
    let region : List ℕ = take (end - start) (drop start bs) in
    let later = w.row.from in
    let within = w.row.within in
    let filings : flat_map after_length (filings_in region) ≡ region = w.row.whole (length region) (simp (length-take, length-drop) (omega arith)) in
    let order : flat_map two_bytes (numbers_in (drop (end + 1) bs)) ≡ drop (end + 1) bs =
    numbers_read (drop (end + 1) bs) (All-drop (λ b. b < 256) (end + 1) bs bytes) (simp length-drop w.even)
    in
    let stop : 0 ∷ drop (end + 1) bs ≡ drop end bs = ap (λ b. b ∷ drop (end + 1) bs) (sym w.row.stop) ∙ sym (drop_more bs end 0 within) in
    let behind : drop (end - start) (drop start bs) ≡ drop end bs = drop-drop (end - start) start bs ∙ ap (λ k. drop k bs) (omega arith) in
    let rest : region ++ 0 ∷ drop (end + 1) bs ≡ drop start bs = ap (λ l. region ++ l) (stop ∙ sym behind) ∙ take-append-drop (end - start) (drop start bs) in
    let pages : pages_in bs ++ drop start bs ≡ drop 2 bs = ap (λ l. pages_in bs ++ l) (sym (drop-drop (8 * two bs 0) 2 bs)) ∙ take-append-drop (8 * two bs 0) (drop 2 bs) in
    ap written w.is ∙
    (λ i. two_bytes (two bs 0) ++ (pages_in bs ++ (filings i ++ 0 ∷ order i))) ∙
    (λ i. two_bytes (two bs 0) ++ (pages_in bs ++ rest i)) ∙
    (λ i. two_bytes (two bs 0) ++ pages i) ∙
    first_two bs w.two_there bytes
