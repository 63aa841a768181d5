-- What each act makes of a page's entries. An entry goes by its number and its holder, never by one alone. Assumes nothing.
use Rattle.std.specs.Prelude.{ℕ, Bool, true, false, cond, ◌&&◌, ◌||◌, List, [], ◌∷◌, ◌++◌, map, length, Some, None, Option, ◌==◌, nat_lt}
use Rattle.entries.specs.Sheet.{Sheet}
use Rattle.entries.specs.declared.entry.Claim.{Claim}
use Rattle.entries.specs.declared.entry.Claim.TheVariants.{Charge, Reserved}
use Rattle.entries.specs.declared.entry.Entry.{Entry}

-- this is an entry k of h
abbrev pub is : ℕ → ℕ → Entry → Bool
is k h e = e.number == k && e.holder == h

abbrev pub reserves : Claim → Bool
reserves (Charge m) = false
reserves Reserved = true

abbrev pub is_reserved : ℕ → ℕ → Entry → Bool
is_reserved k h e = is k h e && reserves e.claim

-- some entry answers the test
unfoldable pub any : (Entry → Bool) → List Entry → Bool
any t [] = false
any t (e ∷ es) = t e || any t es

-- the entries before the first that answers the test, and all where none does
unfoldable pub front : (Entry → Bool) → List Entry → List Entry
front t [] = []
front t (e ∷ es) = cond (t e) [] (e ∷ front t es)

-- another entry stands where the first that answers the test stood
unfoldable pub changed : (Entry → Bool) → Entry → List Entry → List Entry
changed t new [] = []
changed t new (e ∷ es) = cond (t e) (new ∷ es) (e ∷ changed t new es)

-- the first that answers the test is gone
unfoldable pub without : (Entry → Bool) → List Entry → List Entry
without t [] = []
without t (e ∷ es) = cond (t e) es (e ∷ without t es)

-- an entry stands right behind the first of those that were behind it
abbrev pub behind : Entry → List Entry → List Entry
behind e [] = e ∷ []
behind e (f ∷ es) = f ∷ e ∷ es

-- the first that answers the test has changed places with the one after it
unfoldable pub yielded : (Entry → Bool) → List Entry → List Entry
yielded t [] = []
yielded t (e ∷ es) = cond (t e) (behind e es) (e ∷ yielded t es)

abbrev pub has : ℕ → ℕ → List Entry → Bool
has k h es = any (is k h) es

abbrev pub has_reserved : ℕ → ℕ → List Entry → Bool
has_reserved k h es = any (is_reserved k h) es

-- the entries that rank before the first entry k of h
abbrev pub ahead : ℕ → ℕ → List Entry → List Entry
ahead k h es = front (is k h) es

abbrev pub charge : ℕ → ℕ → ℕ → Entry
charge k h m = record { number = k; holder = h; claim = Charge m }

abbrev pub reservation : ℕ → ℕ → Entry
reservation k h = record { number = k; holder = h; claim = Reserved }

-- the reservation k of h is a charge of m cents, in the rank that was kept for it
abbrev pub filled : ℕ → ℕ → ℕ → List Entry → List Entry
filled k h m es = changed (is_reserved k h) (charge k h m) es

abbrev pub released : ℕ → ℕ → List Entry → List Entry
released k h es = without (is k h) es

abbrev pub postponed : ℕ → ℕ → List Entry → List Entry
postponed k h es = yielded (is k h) es

-- the numbers that stand, in their rank
unfoldable pub numbers : List Entry → List ℕ
numbers es = map (λ e. e.number) es

-- a page of the same parcel with other entries
abbrev pub with_entries : Sheet → List Entry → Sheet
with_entries s es = record { live = s.live; owner = s.owner; area = s.area; entries = es }

abbrev pub vacant_sheet : Bool → ℕ → ℕ → Sheet
vacant_sheet live owner area = record { live = live; owner = owner; area = area; entries = [] }

abbrev pub owned_sheet : Sheet → ℕ → Sheet
owned_sheet s owner = record { live = s.live; owner = owner; area = s.area; entries = s.entries }

abbrev pub closed_sheet : Sheet → Sheet
closed_sheet s = record { live = false; owner = s.owner; area = s.area; entries = s.entries }

-- a live page that takes over the entries of another
abbrev pub made_sheet : Sheet → ℕ → ℕ → Sheet
made_sheet s owner area = record { live = true; owner = owner; area = area; entries = s.entries }

-- a page has at most 32 entries
abbrev pub appended_sheet : Sheet → Entry → Option Sheet
appended_sheet s e = cond (nat_lt (length s.entries) 32) (Some (with_entries s (s.entries ++ e ∷ []))) None

abbrev pub filled_sheet : Sheet → ℕ → ℕ → ℕ → Option Sheet
filled_sheet s k h m = cond (has_reserved k h s.entries) (Some (with_entries s (filled k h m s.entries))) None

abbrev pub released_sheet : Sheet → ℕ → ℕ → Option Sheet
released_sheet s k h = cond (has k h s.entries) (Some (with_entries s (released k h s.entries))) None

abbrev pub postponed_sheet : Sheet → ℕ → ℕ → Option Sheet
postponed_sheet s k h = cond (has k h s.entries) (Some (with_entries s (postponed k h s.entries))) None
