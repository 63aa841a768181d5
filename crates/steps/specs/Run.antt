-- What holds from an opening on, whatever is filed: said of the registers of the order of filing. Assumes nothing.
use Rattle.std.specs.Prelude.{◌≡◌, ℕ, ◌+◌, ◌*◌, ◌^◌, ◌<◌, ◌≤◌, List, length, Ok}
use Rattle.orders.specs.Desk.{turn}
use Rattle.pages.specs.Opening.{checked, opened_page}
use Rattle.pages.specs.Register.{Register}
use Rattle.filings.specs.declared.filing.Filing.{Filing}
use Rattle.steps.specs.Acting.{acts}
use Rattle.steps.specs.Areas.{LiveBelow, total}
use Rattle.steps.specs.Sound.{Sound}

-- before filing k, of those that came in: at most 32 entries on a page, under distinct numbers below k; all live parcels are those of
-- the opening or were made by filings below k; and the land of all live parcels together is that of the opening, far below 2^64,
-- so that the cap on the area of a merger is never met
pub record Well (P k : ℕ) (bytes : List ℕ) (r : Register) : Type 0 where
  pub sound : Sound k r
  pub live : LiveBelow (P + 2 * k) r
  pub land : (m : ℕ) → P + 2 * k ≤ m → total r m ≡ total (opened_page P bytes) m
  pub small : (m : ℕ) → P + 2 * k ≤ m → total r m < 2 ^ 53

abbrev pub FromAnOpeningOn : Type 0
FromAnOpeningOn =
    (P : ℕ) (bytes : List ℕ) (fs : List Filing) (k : ℕ) → checked P bytes ≡ Ok tt → k ≤ length fs → Well P k bytes (turn (acts P) (opened_page P bytes) fs k)
