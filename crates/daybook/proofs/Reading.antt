-- A file that is read whole, from what is read of its parts. Assumes nothing.
use Rattle.std.proofs.Common.{◌≡◌, ℕ, ◌+◌, ◌-◌, ◌%◌, ◌≤◌, eqb, ltb, List, length, Ok, ap, ◌∙◌}
use Rattle.std.proofs.lemmas.Bool.{cond-true, cond-false, le-ltb, eq-eqb}
use Rattle.pages.specs.Bytes.{two}
use Rattle.pages.specs.Opening.{checked}
use Rattle.daybook.specs.File.{end_from, pages_in, filings_start, reading, parts_to, read_to, unless_refused}

-- what a file with two bytes and more says goes by its opening, then by the rest
pub opening_first :
    (bs : List ℕ) → 2 ≤ length bs →
    reading bs ≡ unless_refused (checked (two bs 0) (pages_in bs)) (read_to bs (end_from (length bs) bs (filings_start bs)))
opening_first bs two_there = cond-false (ltb (length bs) 2) _ _ (le-ltb _ _ two_there)

pub read_whole :
    (bs : List ℕ) (end : ℕ) → 2 ≤ length bs → checked (two bs 0) (pages_in bs) ≡ Ok tt →
    end_from (length bs) bs (filings_start bs) ≡ Ok end → (length bs - (end + 1)) % 2 ≡ 0 → reading bs ≡ Ok (parts_to bs end)
read_whole bs end two_there o e even =
    opening_first bs two_there ∙
    ap (λ x. unless_refused x (read_to bs (end_from (length bs) bs (filings_start bs)))) o ∙
    ap (read_to bs) e ∙
    cond-true (eqb ((length bs - (end + 1)) % 2) 0) _ _ (eq-eqb _ _ even)
