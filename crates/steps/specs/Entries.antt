-- What entering one filing may do to an entry and to the order of two, on a page that it does not make. Assumes nothing.
use Rattle.std.specs.Prelude.{◌≡◌, ℕ, true, false, ◌⊎◌}
use Rattle.entries.specs.Order.{before, distinct, stands}
use Rattle.entries.specs.Rank.{charge, has, numbers}
use Rattle.entries.specs.declared.entry.Claim.TheVariants.{Reserved}
use Rattle.entries.specs.declared.entry.Entry.{Entry}
use Rattle.pages.specs.Register.{Register}
use Rattle.filings.specs.declared.filing.Filing.{Filing}
use Rattle.filings.specs.declared.filing.Filing.TheVariants.{Charge, Reserve, Fill, Release, Postpone}
use Rattle.entries.specs.Rank.{reservation}
use Rattle.entering.specs.Entering.{entered}
use Rattle.steps.specs.Laws.{NotMade}

-- an entry that stands stays as it is, in number, holder, kind and amount, until its holder releases it or, where it is a reservation, the owner lets it be filled
abbrev pub Amounts : Type 0
Amounts =
    (P n : ℕ) (f : Filing) (r : Register) (p : ℕ) (e : Entry) → NotMade P n f p → stands e (r p).entries ≡ true → stands e (entered P n f r p).entries ≡ false →
    (f ≡ Release p e.holder e.number) ⊎ ((m : ℕ) × (f ≡ Fill p (r p).owner e.holder e.number m) × (e.claim ≡ Reserved))

-- the owner a of parcel p signs filing n, which is f, for the new entry e
abbrev pub SignedFor : ℕ → ℕ → ℕ → Filing → Entry → Type 0
SignedFor n p a f e =
    ((m : ℕ) × (f ≡ Charge p a e.holder m) × (e ≡ charge n e.holder m)) ⊎ ((f ≡ Reserve p a e.holder) × (e ≡ reservation n e.holder))

-- an entry that did not stand is one that the owner signs for, with the holder and the amount that the filing names
abbrev pub NewEntries : Type 0
NewEntries =
    (P n : ℕ) (f : Filing) (r : Register) (p : ℕ) (e : Entry) → NotMade P n f p → stands e (r p).entries ≡ false → stands e (entered P n f r p).entries ≡ true →
    SignedFor n p (r p).owner f e ⊎ ((m : ℕ) × (f ≡ Fill p (r p).owner e.holder e.number m) × (e ≡ charge e.number e.holder m))

pub record Order : Type 0 where
  -- the entry k of h ranks before the entry j of i until it is postponed by its holder, or one of the two is released
  pub changes :
      (P n : ℕ) (f : Filing) (r : Register) (p k h j i : ℕ) → NotMade P n f p → before k h j i (r p).entries ≡ true → before k h j i (entered P n f r p).entries ≡ false →
      (f ≡ Postpone p h k) ⊎ ((f ≡ Release p h k) ⊎ (f ≡ Release p i j))
  -- After a release both can stand only where such entries stood twice. Where numbers are distinct, and both still stand, it was the postponement.
  pub postponed :
      (P n : ℕ) (f : Filing) (r : Register) (p k h j i : ℕ) → NotMade P n f p → distinct (numbers (r p).entries) ≡ true →
      before k h j i (r p).entries ≡ true → has k h (entered P n f r p).entries ≡ true → has j i (entered P n f r p).entries ≡ true →
      before k h j i (entered P n f r p).entries ≡ false → f ≡ Postpone p h k
