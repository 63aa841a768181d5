-- Seven filings, one after another, and the pages after each. Assumes nothing.
use Rattle.std.specs.Prelude.{◌≡◌, ℕ, zero, suc, ◌<◌, Bool, true, false, cond, List, [], ◌∷◌, ◌==◌, slice_index_or}
use Rattle.entries.specs.Rank.{charge, vacant_sheet}
use Rattle.entries.specs.Sheet.{Sheet}
use Rattle.entries.specs.declared.entry.Entry.{Entry}
use Rattle.pages.specs.Register.{Register, no_page}
use Rattle.filings.specs.declared.filing.Filing.{Filing}
use Rattle.filings.specs.declared.filing.Filing.TheVariants.{Transfer, Charge, Reserve, Fill, Postpone, Subdivide}
use Rattle.entries.specs.Rank.{reservation}
use Rattle.entering.specs.Entering.{entered, outcome}
use Rattle.entering.specs.declared.outcome.Outcome.TheVariants.{Entered}

-- two parcels of owner 5
abbrev pub opening : Register
opening p = cond (p == 0) (vacant_sheet true 5 100) (cond (p == 1) (vacant_sheet true 5 50) no_page)

abbrev pub seven : List Filing
seven = Charge 0 5 9 1000 ∷ Reserve 0 5 7 ∷ Charge 0 5 8 500 ∷ Transfer 1 5 6 ∷ Fill 0 5 7 1 2000 ∷ Postpone 0 9 0 ∷ Subdivide 0 5 40 ∷ []

abbrev pub filing : ℕ → Filing
filing n = slice_index_or seven n (Transfer 0 0 0)

-- the register after the first n of them
abbrev pub after : ℕ → Register
after zero = opening
after (suc n) = entered 2 n (filing n) (after n)

abbrev pub page : Bool → ℕ → List Entry → Sheet
page live area es = record { live = live; owner = 5; area = area; entries = es }

-- holder 9 has given way to the reservation that is now a charge
abbrev pub ranked : List Entry
ranked = charge 1 7 2000 ∷ charge 0 9 1000 ∷ charge 2 8 500 ∷ []

pub record Example : Type 0 where
  pub outcomes : (n : ℕ) → n < 7 → outcome 2 n (filing n) (after n) ≡ Entered
  pub charged : after 1 0 ≡ page true 100 (charge 0 9 1000 ∷ [])
  pub reserved : after 2 0 ≡ page true 100 (charge 0 9 1000 ∷ reservation 1 7 ∷ [])
  pub charged_again : after 3 0 ≡ page true 100 (charge 0 9 1000 ∷ reservation 1 7 ∷ charge 2 8 500 ∷ [])
  pub transferred : after 4 1 ≡ vacant_sheet true 6 50
  pub filled : after 5 0 ≡ page true 100 (charge 0 9 1000 ∷ charge 1 7 2000 ∷ charge 2 8 500 ∷ [])
  pub postponed : after 6 0 ≡ page true 100 ranked
  pub closed : after 7 0 ≡ page false 100 ranked
  pub part : after 7 14 ≡ page true 40 ranked
  pub rest : after 7 15 ≡ page true 60 ranked
  pub untouched : after 7 1 ≡ vacant_sheet true 6 50
