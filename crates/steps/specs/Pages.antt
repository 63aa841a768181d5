-- The pages that a filing of each kind leaves where it is entered, whole. Assumes nothing.
use Rattle.std.specs.Prelude.{◌≡◌, ℕ, ◌+◌, ◌-◌, ◌*◌, ◌<◌, true, [], ◌∷◌, ◌++◌, ◌≢◌}
use Rattle.entries.specs.Rank.{charge, closed_sheet, filled, made_sheet, owned_sheet, postponed, released, with_entries}
use Rattle.entries.specs.Sheet.{Sheet}
use Rattle.pages.specs.Register.{Register}
use Rattle.filings.specs.declared.filing.Filing.{Filing}
use Rattle.filings.specs.declared.filing.Filing.TheVariants.{Transfer, Charge, Reserve, Fill, Release, Postpone, Subdivide, Merge}
use Rattle.entries.specs.Rank.{reservation}
use Rattle.entering.specs.Entering.{capped, entered, outcome}
use Rattle.entering.specs.declared.outcome.Outcome.TheVariants.{Entered}

-- page p is now s, and all others are as they were
pub record Only (before after : Register) (p : ℕ) (s : Sheet) : Type 0 where
  pub here : after p ≡ s
  pub other : (q : ℕ) → (q ≢ p) → after q ≡ before q

-- filing n was entered, and wrote page s for parcel p
abbrev pub Writes : ℕ → ℕ → Filing → Register → ℕ → Sheet → Type 0
Writes P n f r p s = outcome P n f r ≡ Entered → Only r (entered P n f r) p s

-- parcel p of owner a was subdivided by filing n: m of its area became the parcel P + 2 * n, and the rest the next
pub record Subdivided (P n p a m : ℕ) (r : Register) : Type 0 where
  pub live : (r p).live ≡ true
  pub owner : (r p).owner ≡ a
  pub something : 0 < m
  pub less : m < (r p).area
  pub part : entered P n (Subdivide p a m) r (P + 2 * n) ≡ made_sheet (r p) a m
  pub rest : entered P n (Subdivide p a m) r (P + 2 * n + 1) ≡ made_sheet (r p) a ((r p).area - m)
  pub closed : (p ≢ P + 2 * n) → (p ≢ P + 2 * n + 1) → entered P n (Subdivide p a m) r p ≡ closed_sheet (r p)
  pub elsewhere : (q : ℕ) → (q ≢ p) → (q ≢ P + 2 * n) → (q ≢ P + 2 * n + 1) → entered P n (Subdivide p a m) r q ≡ r q

-- parcels p and q of owner a were merged by filing n into the parcel P + 2 * n
pub record Merged (P n p q a : ℕ) (r : Register) : Type 0 where
  pub live : (r p).live ≡ true
  pub other_live : (r q).live ≡ true
  pub owner : (r p).owner ≡ a
  pub other_owner : (r q).owner ≡ a
  pub two : p ≡ q → ⊥
  pub alike : (r p).entries ≡ (r q).entries
  pub whole : entered P n (Merge p q a) r (P + 2 * n) ≡ made_sheet (r p) a (capped ((r p).area + (r q).area))
  pub closed : (p ≢ P + 2 * n) → entered P n (Merge p q a) r p ≡ closed_sheet (r p)
  pub other_closed : (q ≢ P + 2 * n) → entered P n (Merge p q a) r q ≡ closed_sheet (r q)
  pub elsewhere : (o : ℕ) → (o ≢ p) → (o ≢ q) → (o ≢ P + 2 * n) → entered P n (Merge p q a) r o ≡ r o

pub record WholePages : Type 0 where
  pub transferred : (P n p a b : ℕ) (r : Register) → Writes P n (Transfer p a b) r p (owned_sheet (r p) b)
  pub charged : (P n p a h m : ℕ) (r : Register) → Writes P n (Charge p a h m) r p (with_entries (r p) ((r p).entries ++ charge n h m ∷ []))
  pub reserved : (P n p a h : ℕ) (r : Register) → Writes P n (Reserve p a h) r p (with_entries (r p) ((r p).entries ++ reservation n h ∷ []))
  pub filled : (P n p a h k m : ℕ) (r : Register) → Writes P n (Fill p a h k m) r p (with_entries (r p) (filled k h m (r p).entries))
  pub released : (P n p h k : ℕ) (r : Register) → Writes P n (Release p h k) r p (with_entries (r p) (released k h (r p).entries))
  pub postponed : (P n p h k : ℕ) (r : Register) → Writes P n (Postpone p h k) r p (with_entries (r p) (postponed k h (r p).entries))
  pub subdivided : (P n p a m : ℕ) (r : Register) → outcome P n (Subdivide p a m) r ≡ Entered → Subdivided P n p a m r
  pub merged : (P n p q a : ℕ) (r : Register) → outcome P n (Merge p q a) r ≡ Entered → Merged P n p q a r
