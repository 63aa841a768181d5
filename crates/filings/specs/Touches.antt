-- The pages that a filing touches: the parcels that it names, and those that it may make. Assumes nothing.
use Rattle.std.specs.Prelude.{ℕ, ◌+◌, ◌*◌, Bool, true, false, ◌&&◌, ◌||◌, List, [], ◌∷◌, ◌++◌, ◌==◌, nat_lt}
use Rattle.filings.specs.declared.filing.Filing.{Filing}
use Rattle.filings.specs.declared.filing.Filing.TheVariants.{Transfer, Charge, Reserve, Fill, Release, Postpone, Subdivide, Merge}
use Rattle.filings.specs.declared.touched.Touched.{Touched}
use Rattle.filings.specs.declared.touched.Touched.TheVariants.{One, Three}

-- whether there is such a parcel or not
abbrev pub named : Filing → List ℕ
named (Transfer parcel owner to) = parcel ∷ []
named (Charge parcel owner holder amount) = parcel ∷ []
named (Reserve parcel owner holder) = parcel ∷ []
named (Fill parcel owner holder number amount) = parcel ∷ []
named (Release parcel holder number) = parcel ∷ []
named (Postpone parcel holder number) = parcel ∷ []
named (Subdivide parcel owner area) = parcel ∷ []
named (Merge parcel other owner) = parcel ∷ other ∷ []

-- where P parcels were opened, filing n may make this one and the next, and no others
abbrev pub first_made : ℕ → ℕ → ℕ
first_made P n = P + 2 * n

-- those that it may make, from the first on
abbrev pub may_make : ℕ → Filing → List ℕ
may_make first (Transfer parcel owner to) = []
may_make first (Charge parcel owner holder amount) = []
may_make first (Reserve parcel owner holder) = []
may_make first (Fill parcel owner holder number amount) = []
may_make first (Release parcel holder number) = []
may_make first (Postpone parcel holder number) = []
may_make first (Subdivide parcel owner area) = first ∷ (first + 1) ∷ []
may_make first (Merge parcel other owner) = first ∷ []

unfoldable pub touched_by : ℕ → ℕ → Filing → List ℕ
touched_by P n f = named f ++ may_make (first_made P n) f

abbrev pub pages_of : Touched → List ℕ
pages_of (One p) = p ∷ []
pages_of (Three p q r) = p ∷ q ∷ r ∷ []

abbrev pub member : ℕ → List ℕ → Bool
member p [] = false
member p (q ∷ qs) = q == p || member p qs

abbrev pub all_below : ℕ → List ℕ → Bool
all_below n [] = true
all_below n (q ∷ qs) = nat_lt q n && all_below n qs

-- some page is in both
abbrev pub shares : List ℕ → List ℕ → Bool
shares [] ys = false
shares (x ∷ xs) ys = member x ys || shares xs ys
