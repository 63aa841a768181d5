-- The table of reasons: when each holds, and that the first that holds is the outcome. Assumes nothing.
use Rattle.std.specs.Prelude.{◌≡◌, ℕ, ◌<◌, Bool, true, false, cond, not, ◌||◌, List, [], ◌∷◌, length, Some, None, Option, ◌==◌, nat_le}
use Rattle.entries.specs.Order.{alike}
use Rattle.entries.specs.Rank.{has, has_reserved}
use Rattle.pages.specs.Register.{Register}
use Rattle.filings.specs.Touches.{named}
use Rattle.filings.specs.declared.filing.Filing.{Filing}
use Rattle.filings.specs.declared.filing.Filing.TheVariants.{Transfer, Charge, Reserve, Fill, Release, Postpone, Subdivide, Merge}
use Rattle.entering.specs.Entering.{outcome}
use Rattle.entering.specs.Outcome.{reason_of}
use Rattle.entering.specs.declared.outcome.Outcome.{Outcome}
use Rattle.entering.specs.declared.outcome.Outcome.TheVariants.{Entered, Rejected}
use Rattle.entering.specs.declared.outcome.Rejection.{Rejection}
use Rattle.entering.specs.declared.outcome.Rejection.TheVariants.{NotLive, NotOwner, NoEntry, Area, Itself, Unlike, Full}

-- some parcel of a list answers a test
abbrev pub some : (ℕ → Bool) → List ℕ → Bool
some t [] = false
some t (p ∷ ps) = t p || some t ps

-- who signs as owner; a release and a postponement are signed by the holder
abbrev pub owner_signing : Filing → Option ℕ
owner_signing (Transfer p a b) = Some a
owner_signing (Charge p a h m) = Some a
owner_signing (Reserve p a h) = Some a
owner_signing (Fill p a h k m) = Some a
owner_signing (Release p h k) = None
owner_signing (Postpone p h k) = None
owner_signing (Subdivide p a m) = Some a
owner_signing (Merge p q a) = Some a

abbrev pub not_owned_by : Option ℕ → Register → ℕ → Bool
not_owned_by None r p = false
not_owned_by (Some a) r p = not ((r p).owner == a)

abbrev pub no_entry : Filing → Register → Bool
no_entry (Transfer p a b) r = false
no_entry (Charge p a h m) r = false
no_entry (Reserve p a h) r = false
no_entry (Fill p a h k m) r = not (has_reserved k h (r p).entries)
no_entry (Release p h k) r = not (has k h (r p).entries)
no_entry (Postpone p h k) r = not (has k h (r p).entries)
no_entry (Subdivide p a m) r = false
no_entry (Merge p q a) r = false

abbrev pub no_part : Filing → Register → Bool
no_part (Transfer p a b) r = false
no_part (Charge p a h m) r = false
no_part (Reserve p a h) r = false
no_part (Fill p a h k m) r = false
no_part (Release p h k) r = false
no_part (Postpone p h k) r = false
no_part (Subdivide p a m) r = m == 0 || nat_le (r p).area m
no_part (Merge p q a) r = false

abbrev pub with_itself : Filing → Register → Bool
with_itself (Transfer p a b) r = false
with_itself (Charge p a h m) r = false
with_itself (Reserve p a h) r = false
with_itself (Fill p a h k m) r = false
with_itself (Release p h k) r = false
with_itself (Postpone p h k) r = false
with_itself (Subdivide p a m) r = false
with_itself (Merge p q a) r = p == q

abbrev pub with_unlike : Filing → Register → Bool
with_unlike (Transfer p a b) r = false
with_unlike (Charge p a h m) r = false
with_unlike (Reserve p a h) r = false
with_unlike (Fill p a h k m) r = false
with_unlike (Release p h k) r = false
with_unlike (Postpone p h k) r = false
with_unlike (Subdivide p a m) r = false
with_unlike (Merge p q a) r = not (alike (r p).entries (r q).entries)

abbrev pub on_full_page : Filing → Register → Bool
on_full_page (Transfer p a b) r = false
on_full_page (Charge p a h m) r = nat_le 32 (length (r p).entries)
on_full_page (Reserve p a h) r = nat_le 32 (length (r p).entries)
on_full_page (Fill p a h k m) r = false
on_full_page (Release p h k) r = false
on_full_page (Postpone p h k) r = false
on_full_page (Subdivide p a m) r = false
on_full_page (Merge p q a) r = false

-- the table, a row for each reason
abbrev pub condition : Rejection → Filing → Register → Bool
condition NotLive f r = some (λ p. not (r p).live) (named f)
condition NotOwner f r = some (not_owned_by (owner_signing f) r) (named f)
condition NoEntry f r = no_entry f r
condition Area f r = no_part f r
condition Itself f r = with_itself f r
condition Unlike f r = with_unlike f r
condition Full f r = on_full_page f r

-- the first of the seven that holds
abbrev pub first_of : (Rejection → Bool) → Outcome
first_of c =
    cond (c NotLive) (Rejected NotLive)
    (cond (c NotOwner) (Rejected NotOwner)
    (cond (c NoEntry) (Rejected NoEntry)
    (cond (c Area) (Rejected Area)
    (cond (c Itself) (Rejected Itself)
    (cond (c Unlike) (Rejected Unlike)
    (cond (c Full) (Rejected Full) Entered))))))

abbrev pub by_table : Filing → Register → Outcome
by_table f r = first_of (λ k. condition k f r)

-- reason k holds, and none of a smaller number
pub record First (k : Rejection) (f : Filing) (r : Register) : Type 0 where
  pub holds : condition k f r ≡ true
  pub none_before : (j : Rejection) → reason_of j < reason_of k → condition j f r ≡ false

pub record FirstReason : Type 0 where
  pub table : (P n : ℕ) (f : Filing) (r : Register) → outcome P n f r ≡ by_table f r
  pub rejected : (P n : ℕ) (f : Filing) (r : Register) (k : Rejection) → outcome P n f r ≡ Rejected k → First k f r
  pub rejects : (P n : ℕ) (f : Filing) (r : Register) (k : Rejection) → First k f r → outcome P n f r ≡ Rejected k
  pub entered : (P n : ℕ) (f : Filing) (r : Register) → outcome P n f r ≡ Entered → (k : Rejection) → condition k f r ≡ false
  pub enters : (P n : ℕ) (f : Filing) (r : Register) → ((k : Rejection) → condition k f r ≡ false) → outcome P n f r ≡ Entered
