-- A file that is written is read as what it says. Assumes nothing.
use Rattle.std.proofs.Common.{◌≡◌, ℕ, zero, suc, ◌+◌, ◌-◌, ◌*◌, ◌/◌, ◌%◌, ◌<◌, ◌≤◌, List, [], ◌∷◌, ◌++◌, length, take, drop, Ok, sym, refl, ap, ◌∙◌, append_assoc, add-zero, arith, length-append}
use Rattle.std.specs.List.{flat_map, AllByRecursion}
use Rattle.std.proofs.lemmas.List.{get_or_at, take_at, drop_at}
use Rattle.pages.specs.Bytes.{byte, two}
use Rattle.pages.specs.Opening.{checked}
use Rattle.pages.proofs.Openings.{checked_length}
use Rattle.daybook.specs.File.{after_length, two_bytes, written, cut, filings_in, numbers_in, end_from, pages_in, filings_start}
use Rattle.daybook.specs.Laws.{ReadsWhatIsWritten}
use Rattle.daybook.proofs.Ends.{at_end, passed}
use Rattle.daybook.proofs.Reading.{read_whole}

-- the bytes of the filings
abbrev rows : List (List ℕ) → List ℕ
rows fs = flat_map after_length fs

-- the filings end where they were written to
row_end :
    (fs : List (List ℕ)) (pre rest : List ℕ) (n : ℕ) → AllByRecursion (λ f. 0 < length f) fs → length (pre ++ (rows fs ++ 0 ∷ rest)) - length pre ≤ n →
    end_from n (pre ++ (rows fs ++ 0 ∷ rest)) (length pre) ≡ Ok (length pre + length (rows fs))
row_end [] pre rest n all h =
    at_end n (pre ++ 0 ∷ rest) (length pre) (simp length-append (omega arith)) h (get_or_at pre 0 rest 0 (length pre) refl) ∙ ap Ok (sym (add-zero (length pre)))
row_end (f ∷ fs) pre rest n all h =
    let bs : List ℕ = pre ++ (rows (f ∷ fs) ++ 0 ∷ rest) in
    let long : byte bs (length pre) ≡ length f = get_or_at pre (length f) _ 0 (length pre) refl in
    let pre' : List ℕ = pre ++ after_length f in
    let same : bs ≡ pre' ++ (rows fs ++ 0 ∷ rest) = ap (λ l. pre ++ (length f ∷ l)) (append_assoc f (rows fs) (0 ∷ rest)) ∙ sym (append_assoc pre (after_length f) (rows fs ++ 0 ∷ rest)) in
    let place : length pre + (1 + byte bs (length pre)) ≡ length pre' = rw long (simp length-append (omega arith)) in
    let sizes : length bs ≡ length pre + (1 + (length f + (length (rows fs) + (1 + length rest)))) = simp length-append (omega arith) in
    let sizes' : length pre' ≡ length pre + (1 + length f) = simp length-append (omega arith) in
    let sizes'' : length (rows (f ∷ fs)) ≡ 1 + (length f + length (rows fs)) = simp length-append (omega arith) in
    passed n bs (length pre) (omega arith) h (λ e. let x = all.0 in omega arith) (omega arith) n (omega arith) ∙
    ap (end_from n bs) place ∙
    ap (λ l. end_from n l (length pre')) same ∙
    row_end fs pre' rest n all.1 (let e = ap length same in omega arith) ∙
    ap Ok (omega arith)

cut_rows : (fs : List (List ℕ)) (n : ℕ) → length (rows fs) ≤ n → cut n (rows fs) ≡ fs
cut_rows [] zero h = refl
cut_rows [] (suc n) h = refl
cut_rows (f ∷ fs) zero h = absurd (omega arith)
cut_rows (f ∷ fs) (suc n) h =
    let sizes : length (rows (f ∷ fs)) ≡ 1 + (length f + length (rows fs)) = simp length-append (omega arith) in
    let first = take_at f (rows fs) (length f) refl in
    let rest = ap (cut n) (drop_at f (rows fs) (length f) refl) ∙ cut_rows fs n (omega arith) in
    λ i. first i ∷ rest i

numbers_written : (ns : List ℕ) → numbers_in (flat_map two_bytes ns) ≡ ns
numbers_written [] = refl
numbers_written (n ∷ ns) =
    let whole : n % 256 + n / 256 * 256 ≡ n = omega arith in
    λ i. whole i ∷ numbers_written ns i

pairs : (ns : List ℕ) → length (flat_map two_bytes ns) ≡ 2 * length ns
pairs [] = refl
pairs (n ∷ ns) = let e = pairs ns in omega arith

pub reads_what_is_written : ReadsWhatIsWritten
reads_what_is_written p good some =
    let bs : List ℕ = written p in
    let fs : List ℕ = rows p.filings in
    let order : List ℕ = flat_map two_bytes p.order in
    let pre : List ℕ = two_bytes p.parcels ++ p.pages in
    let parcels : two bs 0 ≡ p.parcels = omega arith in
    let eight = checked_length p.parcels p.pages good in
    let pages : pages_in bs ≡ p.pages = take_at p.pages (fs ++ 0 ∷ order) (8 * two bs 0) (omega arith) in
    let start : filings_start bs ≡ length pre = omega arith in
    let end : ℕ = length pre + length fs in
    let sizes : length bs ≡ length pre + (length fs + (1 + length order)) = simp length-append (omega arith) in
    let ends : end_from (length bs) bs (filings_start bs) ≡ Ok end =
    ap (end_from (length bs) bs) start ∙ row_end p.filings pre order (length bs) some (omega arith)
    in
    let all : take (end - filings_start bs) (drop (filings_start bs) bs) ≡ fs =
    ap (take (end - filings_start bs)) (drop_at pre (fs ++ 0 ∷ order) (filings_start bs) (omega arith)) ∙ take_at fs (0 ∷ order) (end - filings_start bs) (omega arith)
    in
    let behind : bs ≡ (pre ++ (fs ++ 0 ∷ [])) ++ order =
    sym (append_assoc pre (fs ++ 0 ∷ []) order ∙ ap (λ l. pre ++ l) (append_assoc fs (0 ∷ []) order))
    in
    let last : drop (end + 1) bs ≡ order =
    ap (drop (end + 1)) behind ∙ drop_at (pre ++ (fs ++ 0 ∷ [])) order (end + 1) (simp length-append (omega arith))
    in
    let even = pairs p.order in
    read_whole bs end (omega arith) ((λ i. checked (parcels i) (pages i)) ∙ good) ends (omega arith) ∙
    ap Ok (λ i. record {
      parcels = parcels i;
      pages = pages i;
      filings = (ap filings_in all ∙ cut_rows p.filings (length fs) (omega arith)) i;
      order = (ap numbers_in last ∙ numbers_written p.order) i;
    })
