-- A parcel's page as a registrar reads it: no places, only the entries that stand. Assumes nothing.
use Rattle.std.specs.Prelude.{ℕ, Bool, List, take}
use Rattle.entries.specs.declared.entry.Entry.{Entry}
use Rattle.entries.specs.declared.page.Page.{Page}

pub record Sheet : Type 0 where
  pub live : Bool
  pub owner : ℕ
  pub area : ℕ
  -- best rank first
  pub entries : List Entry

abbrev pub sheet : Page → Sheet
sheet page = record { live = page.live; owner = page.owner; area = page.area; entries = take page.count page.entries }
