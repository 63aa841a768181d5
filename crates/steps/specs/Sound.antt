-- Pages as they are from an opening on: at most 32 entries, under distinct numbers of filings that came before. Assumes nothing.
use Rattle.std.specs.Prelude.{◌≡◌, ℕ, suc, ◌≤◌, true, length}
use Rattle.entries.specs.Order.{all_below, distinct}
use Rattle.entries.specs.Rank.{numbers}
use Rattle.pages.specs.Register.{Register}
use Rattle.filings.specs.declared.filing.Filing.{Filing}
use Rattle.entering.specs.Entering.{entered}

-- before filing n
pub record Sound (n : ℕ) (r : Register) : Type 0 where
  pub room : (p : ℕ) → length (r p).entries ≤ 32
  pub distinct_numbers : (p : ℕ) → distinct (numbers (r p).entries) ≡ true
  pub below : (p : ℕ) → all_below n (numbers (r p).entries) ≡ true

abbrev pub StaysSound : Type 0
StaysSound = (P n : ℕ) (f : Filing) (r : Register) → Sound n r → Sound (suc n) (entered P n f r)
