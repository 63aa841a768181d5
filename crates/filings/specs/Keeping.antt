-- Filings in memory: slot n, of 24 bytes, has filing n as it came in, then zeroes. Assumes nothing.
use Rattle.std.specs.Prelude.{◌≡◌, ℕ, ◌+◌, ◌-◌, ◌*◌, ◌/◌, ◌<◌, cond, ◌&&◌, List, ◌++◌, length, take, drop, replicate, Some, None, Ok, Err, Option, Result, ◌==◌, nat_le, nat_lt}
use Rattle.std.specs.Result.{result_ok}
use Rattle.pages.specs.declared.refusal.Lent.TheVariants.{Filings}
use Rattle.pages.specs.declared.refusal.Refusal.{Refusal}
use Rattle.pages.specs.declared.refusal.Refusal.TheVariants.{Full, Short}
use Rattle.filings.specs.Kind.{length_of}
use Rattle.filings.specs.Reading.{kind_in, reading}
use Rattle.filings.specs.declared.filing.Filing.{Filing}
use Rattle.filings.specs.declared.kind.Kind.{Kind}

-- what is kept, by number, with another under this one
abbrev pub put : ℕ → Option Filing → (ℕ → Option Filing) → ℕ → Option Filing
put n o kept m = cond (m == n) o (kept m)

-- how many slots there are; what is left over at the end is none
abbrev pub slots_in : List ℕ → ℕ
slots_in ms = length ms / 24

abbrev pub slot_at : List ℕ → ℕ → List ℕ
slot_at ms n = take 24 (drop (24 * n) ms)

abbrev pub length_kept : Option Kind → ℕ
length_kept None = 0
length_kept (Some kind) = length_of kind

-- what a slot holds is read as a filing of the length of its kind; what is no filing is none
unfoldable pub kept_in : List ℕ → Option Filing
kept_in slot = result_ok (reading (take (length_kept (kind_in slot)) slot))

unfoldable pub kept_at : List ℕ → ℕ → Option Filing
kept_at ms n = cond (nat_lt n (slots_in ms)) (kept_in (slot_at ms n)) None

-- the bytes of a filing, as far as they go into a slot, then zeroes
abbrev pub slot_of : List ℕ → List ℕ
slot_of bs = take 24 bs ++ replicate (24 - length bs) 0

-- just one slot is replaced; past the end nothing is
unfoldable pub put_slot : List ℕ → ℕ → List ℕ → List ℕ
put_slot ms n slot = cond (nat_lt n (slots_in ms)) (take (24 * n) ms ++ (slot ++ drop (24 * n + 24) ms)) ms

-- the same for what is kept, where there are so many slots
abbrev pub put_kept : ℕ → ℕ → Option Filing → (ℕ → Option Filing) → ℕ → Option Filing
put_kept slots n o kept = cond (nat_lt n slots) (put n o kept) kept

-- there are at most 16,384 filings: one more is refused, once it was read
abbrev pub admitted : ℕ → Result Filing Refusal → Result Filing Refusal
admitted n (Err e) = Err e
admitted n (Ok f) = cond (nat_lt n 16384) (Ok f) (Err Full)

-- what is admitted has a number that there may be, and its slot will hold just that
pub record Admitted (n : ℕ) (bs : List ℕ) (f : Filing) : Type 0 where
  pub few : n < 16384
  pub kept : kept_in (slot_of bs) ≡ Some f

-- filing n: memory is looked at first, and only where there may be such a filing
abbrev pub taking : List ℕ → ℕ → List ℕ → Result Filing Refusal
taking ms n bs = cond (nat_lt n 16384 && nat_le (slots_in ms) n) (Err (Short Filings)) (admitted n (reading bs))

-- the memory after, and what is kept there: the same as before where the filing was refused
abbrev pub memory_after : Result Filing Refusal → List ℕ → ℕ → List ℕ → List ℕ
memory_after (Err e) ms n bs = ms
memory_after (Ok f) ms n bs = put_slot ms n (slot_of bs)

abbrev pub kept_after : Result Filing Refusal → ℕ → (ℕ → Option Filing) → ℕ → Option Filing
kept_after (Err e) n kept = kept
kept_after (Ok f) n kept = put n (Some f) kept
