-- What is promised of the acts on a page's entries, whatever stands there; only StaysDistinct speaks of distinct numbers. Assumes nothing.
use Rattle.std.specs.Prelude.{◌≡◌, ℕ, ◌+◌, ◌≤◌, Bool, true, false, not, ◌&&◌, ◌||◌, List, [], ◌∷◌, ◌++◌, length, Decides, nat_lt}
use Rattle.entries.specs.Order.{Other, alike, same, stands, member, distinct, all_below, follower, before}
use Rattle.entries.specs.Rank.{is, is_reserved, any, has, has_reserved, ahead, charge, filled, released, postponed, numbers}
use Rattle.entries.specs.declared.entry.Entry.{Entry}

-- only releasing an entry takes it from the page, and only appending it brings it there
pub record WhatStands : Type 0 where
  pub append : (k h : ℕ) (e : Entry) (es : List Entry) → has k h (es ++ e ∷ []) ≡ (has k h es || is k h e)
  pub fill : (k h j i m : ℕ) (es : List Entry) → has k h (filled j i m es) ≡ has k h es
  pub release : (k h j i : ℕ) (es : List Entry) → Other k h j i → has k h (released j i es) ≡ has k h es
  pub postpone : (k h j i : ℕ) (es : List Entry) → has k h (postponed j i es) ≡ has k h es

-- what is done to one entry leaves every other as it was, in number, holder, kind and amount
pub record OthersUnchanged : Type 0 where
  pub decides : (e f : Entry) → Decides (same e f) (e ≡ f)
  pub decides_all : (es fs : List Entry) → Decides (alike es fs) (es ≡ fs)
  pub append : (e new : Entry) (es : List Entry) → stands e (es ++ new ∷ []) ≡ (stands e es || same e new)
  pub fill : (e : Entry) (j i m : ℕ) (es : List Entry) → is j i e ≡ false → stands e (filled j i m es) ≡ stands e es
  pub fill_keeps : (e : Entry) (j i m : ℕ) (es : List Entry) → is_reserved j i e ≡ false → stands e es ≡ true → stands e (filled j i m es) ≡ true
  pub charge_stands : (j i m : ℕ) (es : List Entry) → has_reserved j i es ≡ true → stands (charge j i m) (filled j i m es) ≡ true
  pub release : (e : Entry) (j i : ℕ) (es : List Entry) → is j i e ≡ false → stands e (released j i es) ≡ stands e es
  pub postpone : (e : Entry) (j i : ℕ) (es : List Entry) → stands e (postponed j i es) ≡ stands e es

pub record NumbersThatStand : Type 0 where
  pub append : (e : Entry) (es : List Entry) → numbers (es ++ e ∷ []) ≡ numbers es ++ e.number ∷ []
  pub fill : (j i m : ℕ) (es : List Entry) → numbers (filled j i m es) ≡ numbers es
  pub release : (n j i : ℕ) (es : List Entry) → member n (numbers (released j i es)) ≡ true → member n (numbers es) ≡ true
  pub postpone : (n j i : ℕ) (es : List Entry) → member n (numbers (postponed j i es)) ≡ member n (numbers es)

pub record StaysDistinct : Type 0 where
  pub append : (e : Entry) (es : List Entry) → member e.number (numbers es) ≡ false → distinct (numbers (es ++ e ∷ [])) ≡ distinct (numbers es)
  pub fill : (j i m : ℕ) (es : List Entry) → distinct (numbers (filled j i m es)) ≡ distinct (numbers es)
  pub release : (j i : ℕ) (es : List Entry) → distinct (numbers es) ≡ true → distinct (numbers (released j i es)) ≡ true
  pub postpone : (j i : ℕ) (es : List Entry) → distinct (numbers (postponed j i es)) ≡ distinct (numbers es)

pub record StaysBelow : Type 0 where
  pub append : (n : ℕ) (e : Entry) (es : List Entry) → all_below n (numbers (es ++ e ∷ [])) ≡ (all_below n (numbers es) && nat_lt e.number n)
  pub fill : (n j i m : ℕ) (es : List Entry) → all_below n (numbers (filled j i m es)) ≡ all_below n (numbers es)
  pub release : (n j i : ℕ) (es : List Entry) → all_below n (numbers es) ≡ true → all_below n (numbers (released j i es)) ≡ true
  pub postpone : (n j i : ℕ) (es : List Entry) → all_below n (numbers (postponed j i es)) ≡ all_below n (numbers es)

pub record HowMany : Type 0 where
  pub append : (e : Entry) (es : List Entry) → length (es ++ e ∷ []) ≡ length es + 1
  pub fill : (j i m : ℕ) (es : List Entry) → length (filled j i m es) ≡ length es
  pub release : (j i : ℕ) (es : List Entry) → has j i es ≡ true → length (released j i es) + 1 ≡ length es
  pub postpone : (j i : ℕ) (es : List Entry) → length (postponed j i es) ≡ length es

-- Whatever is asked of the entries ahead, by any test: an act on another entry puts nothing new there, and only that entry's
-- own postponement does, at most the one entry that stood right behind it.
pub record NothingNewAhead : Type 0 where
  pub append : (k h : ℕ) (e : Entry) (es : List Entry) → has k h es ≡ true → ahead k h (es ++ e ∷ []) ≡ ahead k h es
  pub fill : (k h j i m : ℕ) (es : List Entry) → ahead k h (filled j i m es) ≡ filled j i m (ahead k h es)
  pub fill_numbers : (k h j i m : ℕ) (es : List Entry) → numbers (ahead k h (filled j i m es)) ≡ numbers (ahead k h es)
  pub release : (k h j i : ℕ) (es : List Entry) → Other k h j i → ahead k h (released j i es) ≡ released j i (ahead k h es)
  pub release_nothing : (q : Entry → Bool) (k h j i : ℕ) (es : List Entry) → Other k h j i → any q (ahead k h (released j i es)) ≡ true → any q (ahead k h es) ≡ true
  pub postpone : (q : Entry → Bool) (k h j i : ℕ) (es : List Entry) → Other k h j i → any q (ahead k h (postponed j i es)) ≡ true → any q (ahead k h es) ≡ true
  pub itself : (q : Entry → Bool) (k h : ℕ) (es : List Entry) → any q (ahead k h (postponed k h es)) ≡ true → (any q (ahead k h es) || any q (follower (is k h) es)) ≡ true
  pub itself_keeps : (q : Entry → Bool) (k h : ℕ) (es : List Entry) → any q (ahead k h es) ≡ true → any q (ahead k h (postponed k h es)) ≡ true

-- no act on another entry lets an entry rank behind more than before, and its own postponement behind one more at most
pub record RankNoWorse : Type 0 where
  pub append : (k h : ℕ) (e : Entry) (es : List Entry) → has k h es ≡ true → length (ahead k h (es ++ e ∷ [])) ≡ length (ahead k h es)
  pub fill : (k h j i m : ℕ) (es : List Entry) → length (ahead k h (filled j i m es)) ≡ length (ahead k h es)
  pub release : (k h j i : ℕ) (es : List Entry) → Other k h j i → length (ahead k h (released j i es)) ≤ length (ahead k h es)
  pub postpone : (k h j i : ℕ) (es : List Entry) → Other k h j i → length (ahead k h (postponed j i es)) ≤ length (ahead k h es)
  pub itself : (k h : ℕ) (es : List Entry) → length (ahead k h (postponed k h es)) ≤ length (ahead k h es) + 1

-- Of two entries that stand one ranks before the other, and goes on doing so until it is itself postponed or one of them is released.
pub record OrderKept : Type 0 where
  pub one : (k h j i : ℕ) (es : List Entry) → Other k h j i → has k h es ≡ true → has j i es ≡ true → before j i k h es ≡ not (before k h j i es)
  pub append : (k h j i : ℕ) (e : Entry) (es : List Entry) → has j i es ≡ true → before k h j i (es ++ e ∷ []) ≡ before k h j i es
  pub fill : (k h j i n g m : ℕ) (es : List Entry) → before k h j i (filled n g m es) ≡ before k h j i es
  pub release : (k h j i n g : ℕ) (es : List Entry) → Other k h n g → Other j i n g → before k h j i (released n g es) ≡ before k h j i es
  pub postpone : (k h j i n g : ℕ) (es : List Entry) → Other k h n g → before k h j i es ≡ true → before k h j i (postponed n g es) ≡ true
