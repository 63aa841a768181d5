-- What each kind of filing makes of a page that it names, or why it is rejected: the checks stand in the order of the reasons.
-- Assumes nothing.
use Rattle.std.specs.Prelude.{ℕ, cond, ◌&&◌, [], ◌∷◌, ◌++◌, length, Ok, Err, Result, ◌==◌, nat_lt}
use Rattle.entries.specs.Order.{alike}
use Rattle.entries.specs.Sheet.{Sheet}
use Rattle.entries.specs.Rank.{charge, filled, has, has_reserved, owned_sheet, postponed, released, reservation, with_entries}
use Rattle.entries.specs.declared.entry.Entry.{Entry}
use Rattle.entering.specs.declared.outcome.Rejection.{Rejection}
use Rattle.entering.specs.declared.outcome.Rejection.TheVariants.{NotLive, NotOwner, NoEntry, Area, Itself, Unlike, Full}

module _ {X : Type 0} where
  abbrev pub if_live : Sheet → Result X Rejection → Result X Rejection
  if_live s x = cond s.live x (Err NotLive)

  -- signed by the owner
  abbrev pub if_owner : Sheet → ℕ → Result X Rejection → Result X Rejection
  if_owner s a x = cond (s.owner == a) x (Err NotOwner)

abbrev pub transferred : Sheet → ℕ → ℕ → Result Sheet Rejection
transferred s a b = if_owner s a (Ok (owned_sheet s b))

-- a new entry comes last, unless it would be the 33rd
abbrev pub last : Sheet → Entry → Result Sheet Rejection
last s e = cond (nat_lt (length s.entries) 32) (Ok (with_entries s (s.entries ++ e ∷ []))) (Err Full)

abbrev pub charged : Sheet → ℕ → ℕ → ℕ → ℕ → Result Sheet Rejection
charged s n a h m = if_owner s a (last s (charge n h m))

abbrev pub kept_for : Sheet → ℕ → ℕ → ℕ → Result Sheet Rejection
kept_for s n a h = if_owner s a (last s (reservation n h))

abbrev pub filled_by : Sheet → ℕ → ℕ → ℕ → ℕ → Result Sheet Rejection
filled_by s a h k m = if_owner s a (cond (has_reserved k h s.entries) (Ok (with_entries s (filled k h m s.entries))) (Err NoEntry))

-- signed by the holder: who holds no such entry finds none
abbrev pub released_by : Sheet → ℕ → ℕ → Result Sheet Rejection
released_by s h k = cond (has k h s.entries) (Ok (with_entries s (released k h s.entries))) (Err NoEntry)

abbrev pub postponed_by : Sheet → ℕ → ℕ → Result Sheet Rejection
postponed_by s h k = cond (has k h s.entries) (Ok (with_entries s (postponed k h s.entries))) (Err NoEntry)

-- what is cut off is something, and less than all
abbrev pub divisible : {X : Type 0} → Sheet → ℕ → ℕ → Result X Rejection → Result X Rejection
divisible s a m x = if_owner s a (cond (nat_lt 0 m && nat_lt m s.area) x (Err Area))

-- two pages of one owner, of different parcels p and q, with the same entries
abbrev pub mergeable : {X : Type 0} → ℕ → ℕ → Sheet → Sheet → ℕ → Result X Rejection → Result X Rejection
mergeable p q s t a x = if_owner s a (if_owner t a (cond (p == q) (Err Itself) (cond (alike s.entries t.entries) x (Err Unlike))))
