-- A page as words of memory, one field to a word: live, owner, area, number of entries, then 32 places of four words each.
-- Assumes nothing.
use Rattle.std.specs.Prelude.{ℕ, zero, suc, ◌%◌, ◌^◌, ◌<◌, ◌≤◌, min, Bool, true, false, cond, List, [], ◌∷◌, ◌++◌, length, drop, Some, None, Option, ◌==◌, slice_index}
use Rattle.std.specs.List.{slice_get}
use Rattle.entries.specs.Sheet.{Sheet}
use Rattle.entries.specs.declared.entry.Claim.{Claim}
use Rattle.entries.specs.declared.entry.Claim.TheVariants.{Charge, Reserved}
use Rattle.entries.specs.declared.entry.Entry.{Entry}

-- WRITING

abbrev pub flag : Bool → ℕ
flag true = 1
flag false = 0

-- a charge is kind 0, a reservation kind 1 and without an amount
abbrev pub claim_words : Claim → List ℕ
claim_words (Charge amount) = 0 ∷ amount ∷ []
claim_words Reserved = 1 ∷ 0 ∷ []

abbrev pub entry_words : Entry → List ℕ
entry_words e = e.number ∷ e.holder ∷ claim_words e.claim

-- a place that no entry has is zero
abbrev pub place_words : Option Entry → List ℕ
place_words None = 0 ∷ 0 ∷ 0 ∷ 0 ∷ []
place_words (Some e) = entry_words e

-- the first n places
unfoldable pub places : ℕ → List Entry → List ℕ
places zero es = []
places (suc n) [] = place_words None ++ places n []
places (suc n) (e ∷ es) = place_words (Some e) ++ places n es

abbrev pub head_words : Sheet → List ℕ
head_words s = flag s.live ∷ s.owner ∷ s.area ∷ length s.entries ∷ []

abbrev pub sheet_words : Sheet → List ℕ
sheet_words s = head_words s ++ places 32 s.entries

-- what the types of the code keep: it is what makes a page that was written read back
abbrev pub FitsEntry : Option Entry → Type 0
FitsEntry None = Unit {0}
FitsEntry (Some e) = (e.number < 2 ^ 16) × (e.holder < 2 ^ 32)

pub record FitsSheet (s : Sheet) : Type 0 where
  pub owner : s.owner < 2 ^ 32
  pub few : length s.entries ≤ 32
  pub entries : (i : ℕ) → i < 32 → FitsEntry (slice_get s.entries i)

-- READING, from any words: each field is cut to its type

abbrev pub claim_in : List ℕ → Claim
claim_in ws = cond (slice_index ws 2 == 1) Reserved (Charge (slice_index ws 3))

abbrev pub entry_in : List ℕ → Entry
entry_in ws = record { number = slice_index ws 0 % 2 ^ 16; holder = slice_index ws 1 % 2 ^ 32; claim = claim_in ws }

unfoldable pub entries_in : ℕ → List ℕ → List Entry
entries_in zero ws = []
entries_in (suc n) ws = entry_in ws ∷ entries_in n (drop 4 ws)

abbrev pub sheet_in : List ℕ → Sheet
sheet_in ws = record {
  live = (slice_index ws 0 == 1);
  owner = slice_index ws 1 % 2 ^ 32;
  area = slice_index ws 2;
  entries = entries_in (min (slice_index ws 3) 32) (drop 4 ws);
}
