-- Which numbers a parcel can have. Assumes nothing.
use Rattle.std.specs.Prelude.{ℕ, suc, Bool, false, ◌||◌, List, [], ◌∷◌, nat_lt}
use Rattle.filings.specs.Touches.{first_made, may_make, member}
use Rattle.filings.specs.declared.filing.Filing.{Filing}
use Rattle.work.specs.State.{State}

-- one of these filings, numbered from n on, may make the parcel p, where P were opened
unfoldable pub made_by : ℕ → ℕ → List Filing → ℕ → Bool
made_by P n [] p = false
made_by P n (f ∷ fs) p = member p (may_make (first_made P n) f) || made_by P (suc n) fs p

-- there since the opening, or one that a filing may make that came in, whether it is open, entered or rejected
abbrev pub may_exist : State → ℕ → Bool
may_exist s p = nat_lt p s.parcels || made_by s.parcels 0 s.desk.filed p
