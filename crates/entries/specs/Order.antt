-- What is asked of the entries of a page: what stands, under which numbers, and who ranks before whom. Assumes nothing.
use Rattle.std.specs.Prelude.{◌≡◌, ℕ, Bool, true, false, cond, not, ◌&&◌, ◌||◌, List, [], ◌∷◌, ◌==◌, nat_lt}
use Rattle.entries.specs.Rank.{any, is, has, ahead}
use Rattle.entries.specs.declared.entry.Claim.{Claim}
use Rattle.entries.specs.declared.entry.Claim.TheVariants.{Charge, Reserved}
use Rattle.entries.specs.declared.entry.Entry.{Entry}

-- an entry k of h is none j of i
abbrev pub Other : ℕ → ℕ → ℕ → ℕ → Type 0
Other k h j i = (k == j && h == i) ≡ false

abbrev pub same_claim : Claim → Claim → Bool
same_claim (Charge m) (Charge n) = m == n
same_claim (Charge m) Reserved = false
same_claim Reserved (Charge n) = false
same_claim Reserved Reserved = true

abbrev pub same : Entry → Entry → Bool
same e f = is e.number e.holder f && same_claim e.claim f.claim

-- the same entries in the same rank
unfoldable pub alike : List Entry → List Entry → Bool
alike [] [] = true
alike [] (f ∷ fs) = false
alike (e ∷ es) [] = false
alike (e ∷ es) (f ∷ fs) = same e f && alike es fs

-- this very entry is on the page, with its number, holder, kind and amount
abbrev pub stands : Entry → List Entry → Bool
stands e es = any (same e) es

unfoldable pub member : ℕ → List ℕ → Bool
member n [] = false
member n (m ∷ ms) = m == n || member n ms

unfoldable pub distinct : List ℕ → Bool
distinct [] = true
distinct (n ∷ ns) = not (member n ns) && distinct ns

unfoldable pub all_below : ℕ → List ℕ → Bool
all_below n [] = true
all_below n (m ∷ ms) = nat_lt m n && all_below n ms

-- the first of a list, where there is one
abbrev pub head : List Entry → List Entry
head [] = []
head (e ∷ es) = e ∷ []

-- the one entry right behind the first that answers the test, where there is one
unfoldable pub follower : (Entry → Bool) → List Entry → List Entry
follower t [] = []
follower t (e ∷ es) = cond (t e) (head es) (follower t es)

-- the entry k of h ranks before the entry j of i
abbrev pub before : ℕ → ℕ → ℕ → ℕ → List Entry → Bool
before k h j i es = has k h (ahead j i es)
