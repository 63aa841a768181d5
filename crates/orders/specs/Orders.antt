-- Orders of work, as lists of acts with their numbers. Assumes nothing.
use Rattle.std.specs.Prelude.{◌≡◌, ℕ, suc, Bool, false, cond, ◌||◌, ◌≢◌, List, [], ◌∷◌, length, Some, None, Option, ◌==◌}
use Rattle.orders.specs.Steps.{Acts}

pub record Numbered (Act : Type 0) : Type 0 where
  pub number : ℕ
  pub act : Act

-- x stands in the list; x stands before y; no number stands twice
pub data Holds {Act : Type 0} (x : Numbered Act) : List (Numbered Act) → Type 0 where
  here : {xs : List (Numbered Act)} → Holds x (x ∷ xs)
  there : {y : Numbered Act} {xs : List (Numbered Act)} → Holds x xs → Holds x (y ∷ xs)

pub data Before {Act : Type 0} (x y : Numbered Act) : List (Numbered Act) → Type 0 where
  first : {xs : List (Numbered Act)} → Holds y xs → Before x y (x ∷ xs)
  later : {z : Numbered Act} {xs : List (Numbered Act)} → Before x y xs → Before x y (z ∷ xs)

pub data Single {Act : Type 0} : List (Numbered Act) → Type 0 where
  none : Single []
  one : {x : Numbered Act} {xs : List (Numbered Act)} → ((y : Numbered Act) → Holds y xs → y.number ≢ x.number) → Single xs → Single (x ∷ xs)

-- n is among the numbers
unfoldable pub among : ℕ → List ℕ → Bool
among n [] = false
among n (m ∷ ms) = m == n || among n ms

-- acts in the order of filing, numbered from k on
unfoldable pub numbered : {Act : Type 0} → ℕ → List Act → List (Numbered Act)
numbered k [] = []
numbered k (a ∷ fs) = record { number = k; act = a } ∷ numbered (suc k) fs

abbrev pub numbers_of : {Act : Type 0} → List (Numbered Act) → List ℕ
numbers_of [] = []
numbers_of (x ∷ xs) = x.number ∷ numbers_of xs

module _ {Page Act Result : Type 0} (w : Acts Page Act Result) where
  -- the register after they were worked one by one
  unfoldable pub worked : List (Numbered Act) → (ℕ → Page) → ℕ → Page
  worked [] r = r
  worked (x ∷ xs) r = worked xs (w.step x.number x.act r)

  -- what came of the act of this number, if it is among them
  unfoldable pub outcome_in : List (Numbered Act) → (ℕ → Page) → ℕ → Option Result
  outcome_in [] r k = None
  outcome_in (x ∷ xs) r k = cond (x.number == k) (Some (w.outcome x.number x.act r)) (outcome_in xs (w.step x.number x.act r) k)

  -- two acts that share no page
  pub record Apart (x y : Numbered Act) : Type 0 where
    pub none : w.shares x.number x.act y.number y.act ≡ false

  -- orders that come about by exchanging neighbours that share no page
  pub data Exchanged : List (Numbered Act) → List (Numbered Act) → Type 0 where
    same : {xs : List (Numbered Act)} → Exchanged xs xs
    swap : {x y : Numbered Act} {xs : List (Numbered Act)} → Apart x y → Exchanged (x ∷ y ∷ xs) (y ∷ x ∷ xs)
    skip : {x : Numbered Act} {xs ys : List (Numbered Act)} → Exchanged xs ys → Exchanged (x ∷ xs) (x ∷ ys)
    more : {xs ys zs : List (Numbered Act)} → Exchanged xs ys → Exchanged ys zs → Exchanged xs zs

  -- ys are the acts of xs, and of two that share a page the one that is first in xs is first in ys
  pub record Lawful (xs ys : List (Numbered Act)) : Type 0 where
    pub single : Single xs
    pub as_many : length ys ≡ length xs
    pub all : (x : Numbered Act) → Holds x xs → Holds x ys
    pub in_order : (x y : Numbered Act) → Before x y xs → (Apart x y → ⊥) → Before x y ys
