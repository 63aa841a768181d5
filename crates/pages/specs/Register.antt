-- The register in memory: a page for each number of a parcel, 132 words each. Assumes nothing.
use Rattle.std.specs.Prelude.{ℕ, ◌+◌, ◌*◌, ◌/◌, false, cond, List, ◌++◌, length, take, drop, ◌==◌, nat_lt}
use Rattle.entries.specs.Sheet.{Sheet}
use Rattle.entries.specs.Rank.{vacant_sheet}
use Rattle.pages.specs.Words.{sheet_words, sheet_in}

-- a page for each number; one that no parcel has is a page without land
abbrev pub Register : Type 0
Register = ℕ → Sheet

abbrev pub no_page : Sheet
no_page = vacant_sheet false 0 0

abbrev pub put : ℕ → Sheet → Register → Register
put p s r q = cond (q == p) s (r q)

-- the same where there is room for so many pages; a page past them is not kept
abbrev pub put_kept : ℕ → ℕ → Sheet → Register → Register
put_kept pages p s r = cond (nat_lt p pages) (put p s r) r

-- how many pages there is room for; what is left over at the end is no page
abbrev pub room : List ℕ → ℕ
room ws = length ws / 132

abbrev pub words_at : List ℕ → ℕ → List ℕ
words_at ws p = take 132 (drop (132 * p) ws)

-- the register that lies in some words
unfoldable pub page_at : List ℕ → Register
page_at ws p = cond (nat_lt p (room ws)) (sheet_in (words_at ws p)) no_page

-- the words after a page was written: just its own are replaced
unfoldable pub put_page : List ℕ → ℕ → Sheet → List ℕ
put_page ws p s = cond (nat_lt p (room ws)) (take (132 * p) ws ++ (sheet_words s ++ drop (132 * p + 132) ws)) ws
