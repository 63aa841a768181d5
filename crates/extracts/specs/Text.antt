-- The text of an extract. Its last line has no end: whoever prints it ends it. Assumes nothing.
use Rattle.std.specs.Prelude.{ℕ, Bool, true, false, cond, List, ◌++◌, length, codes, decimal, flat_map, ◌==◌, nat_lt}
use Rattle.entries.specs.Sheet.{Sheet}
use Rattle.entries.specs.declared.entry.Claim.{Claim}
use Rattle.entries.specs.declared.entry.Claim.TheVariants.{Charge, Reserved}
use Rattle.entries.specs.declared.entry.Entry.{Entry}
use Rattle.extracts.specs.Drawing.{Content}

abbrev pub claim_text : Claim → List ℕ
claim_text (Charge amount) = codes " charge " ++ (decimal amount ++ codes "\n")
claim_text Reserved = codes " kept\n"

-- as '1 holder 7 charge 2000', or '1 holder 7 kept'
abbrev pub entry_line : Entry → List ℕ
entry_line e = decimal e.number ++ (codes " holder " ++ (decimal e.holder ++ claim_text e.claim))

abbrev pub life_text : Bool → List ℕ
life_text true = codes "live"
life_text false = codes "closed"

-- as 'parcel 15 owner 5 area 60 live', and the entries in their rank
abbrev pub there_text : ℕ → Sheet → List ℕ
there_text p page =
    codes "parcel " ++
    (decimal p ++ (codes " owner " ++ (decimal page.owner ++ (codes " area " ++ (decimal page.area ++ (codes " " ++ (life_text page.live ++ (codes "\n" ++ flat_map entry_line page.entries))))))))

-- a parcel has at least one square metre, so a page without land is that of no parcel
abbrev pub is_there : Sheet → Bool
is_there page = nat_lt 0 page.area

abbrev pub page_text : ℕ → Sheet → List ℕ
page_text p page = cond (is_there page) (there_text p page) (codes "parcel " ++ (decimal p ++ codes " not there\n"))

abbrev pub number_text : ℕ → List ℕ
number_text n = codes " " ++ decimal n

-- as 'open 16 17'
abbrev pub open_text : List ℕ → List ℕ
open_text ns = cond (length ns == 0) (codes "open none") (codes "open" ++ flat_map number_text ns)

abbrev pub extract_text : Content → List ℕ
extract_text x = page_text x.parcel x.page ++ open_text x.filings
