-- The open filings that touch a page. Assumes nothing.
use Rattle.std.specs.Prelude.{ℕ, Bool, ◌&&◌, List, filter, length}
use Rattle.std.specs.List.{range_with_len, slice_get}
use Rattle.orders.specs.Desk.{open_at, touched_by}
use Rattle.steps.specs.Acting.{acts}
use Rattle.work.specs.State.{State}

-- the filing n is open and touches the page p, whatever will become of it
abbrev pub open_there : State → ℕ → ℕ → Bool
open_there s p n = open_at s.desk n && touched_by (acts s.parcels) n (slice_get s.desk.filed n) p

-- all such numbers below k, rising
abbrev pub open_below : State → ℕ → ℕ → List ℕ
open_below s p k = filter (open_there s p) (range_with_len 0 k)

abbrev pub all_open : State → ℕ → List ℕ
all_open s p = open_below s p (length s.desk.filed)
