-- Where the laws start: the register of an opening is sound, and its land stays below 2^53. Assumes nothing.
use Rattle.std.specs.Prelude.{◌≡◌, ℕ, ◌^◌, ◌<◌, List, Ok}
use Rattle.pages.specs.Opening.{checked, opened_page}
use Rattle.steps.specs.Areas.{LiveBelow, total}
use Rattle.steps.specs.Sound.{Sound}

pub record OpensWell : Type 0 where
  pub sound : (P : ℕ) (bytes : List ℕ) → Sound 0 (opened_page P bytes)
  pub live : (P : ℕ) (bytes : List ℕ) → LiveBelow P (opened_page P bytes)
  -- at most 1024 parcels of at most 1,000,000,000 square metres
  pub land : (P : ℕ) (bytes : List ℕ) → checked P bytes ≡ Ok tt → (m : ℕ) → total (opened_page P bytes) m < 2 ^ 53
