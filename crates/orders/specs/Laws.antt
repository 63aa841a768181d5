-- What is promised of orders of work, for acts of whatever kinds. Assumes nothing.
use Rattle.std.specs.Prelude.{◌≡◌, ℕ, ◌<◌, true, false, not, ◌&&◌, List, length, Some}
use Rattle.std.specs.List.{slice_get}
use Rattle.orders.specs.Desk.{Desk, FirstOpen, Reached, ReachedBy, turn, first_open, open_at, all_open, asked, ready, accepted, ready_from, touched_by, worked_all}
use Rattle.orders.specs.Orders.{Numbered, Holds, Before, among, Single, Apart, Exchanged, Lawful, worked, outcome_in, numbered, numbers_of}
use Rattle.orders.specs.Steps.{Acts}

module _ {Page Act Result : Type 0} (w : Acts Page Act Result) where
  -- the same register and the same outcomes
  pub record Agree (r : ℕ → Page) (xs ys : List (Numbered Act)) : Type 0 where
    pub pages : (p : ℕ) → worked w xs r p ≡ worked w ys r p
    pub outcomes : (k : ℕ) → outcome_in w xs r k ≡ outcome_in w ys r k

  abbrev pub Exchange : Type 0
  Exchange = (xs ys : List (Numbered Act)) (r : ℕ → Page) → Single xs → Exchanged w xs ys → Agree r xs ys

  abbrev pub LawfulIsExchanged : Type 0
  LawfulIsExchanged = (xs ys : List (Numbered Act)) → Lawful w xs ys → Exchanged w xs ys

  abbrev pub ExchangedIsLawful : Type 0
  ExchangedIsLawful = (xs ys : List (Numbered Act)) → Single xs → Exchanged w xs ys → Lawful w xs ys

  abbrev pub LawfulOrdersAgree : Type 0
  LawfulOrdersAgree = (xs ys zs : List (Numbered Act)) (r : ℕ → Page) → Lawful w xs ys → Lawful w xs zs → Agree r ys zs

  -- THE MAIN THEOREM. Whatever was filed and asked for in whatever order: each page is what the order of filing makes of it before
  -- the first open act that touches it, and each act that is done has the outcome that it has in the order of filing.
  pub record AsFiled (start : ℕ → Page) (d : Desk Page Act Result) : Type 0 where
    pub page : (p : ℕ) → d.register p ≡ turn w start d.filed (first_open w d p) p
    pub outcome : (n : ℕ) (a : Act) (o : Result) → slice_get d.filed n ≡ Some a → slice_get d.marks n ≡ Some (Some o) → o ≡ w.outcome n a (turn w start d.filed n)

  abbrev pub OrderOfWorkUnseen : Type 0
  OrderOfWorkUnseen = (start : ℕ → Page) (d : Desk Page Act Result) → Reached w start d → AsFiled start d

  -- Of the same acts only those that are done count, and not in which order they were worked, nor what was asked for in between.
  abbrev pub OnlyDoneCounts : Type 0
  OnlyDoneCounts =
      (start : ℕ → Page) (d e : Desk Page Act Result) → Reached w start d → Reached w start e →
      d.filed ≡ e.filed → ((n : ℕ) → open_at d n ≡ open_at e n) → d ≡ e

  -- Just the lawful orders are accepted: orders of all that was filed, in which each number is worked when it is asked for.
  abbrev pub LawfulIsAccepted : Type 0
  LawfulIsAccepted = (start : ℕ → Page) (fs : List Act) (ys : List (Numbered Act)) → Lawful w (numbered 0 fs) ys → accepted w (all_open start fs) (numbers_of ys) ≡ true

  abbrev pub AcceptedIsLawful : Type 0
  AcceptedIsLawful =
      (start : ℕ → Page) (fs : List Act) (ys : List (Numbered Act)) → ((y : Numbered Act) → Holds y ys → slice_get fs y.number ≡ Some y.act) →
      length ys ≡ length fs → accepted w (all_open start fs) (numbers_of ys) ≡ true → Lawful w (numbered 0 fs) ys

  -- What was worked so far, in the order of work, is just what is done, each once; of two that share a page the one filed first came first.
  pub record InOrder (d : Desk Page Act Result) (ys : List (Numbered Act)) : Type 0 where
    pub single : Single ys
    pub done : (n : ℕ) (a : Act) → slice_get d.filed n ≡ Some a → open_at d n ≡ false → Holds (record { number = n; act = a }) ys
    pub filed : (y : Numbered Act) → Holds y ys → slice_get d.filed y.number ≡ Some y.act
    pub finished : (y : Numbered Act) → Holds y ys → open_at d y.number ≡ false
    pub in_order : (x y : Numbered Act) → Holds x ys → Holds y ys → x.number < y.number → (Apart w x y → ⊥) → Before x y ys

  abbrev pub WorkedInOrder : Type 0
  WorkedInOrder = (start : ℕ → Page) (ys : List (Numbered Act)) (d : Desk Page Act Result) → ReachedBy w start ys d → InOrder d ys

  -- Open acts, each once, and each behind all open ones that were filed before it and share a page with it.
  pub record Goes (d : Desk Page Act Result) (ys : List (Numbered Act)) : Type 0 where
    pub single : Single ys
    pub stands : (y : Numbered Act) → Holds y ys → slice_get d.filed y.number ≡ Some y.act
    pub is_open : (y : Numbered Act) → Holds y ys → open_at d y.number ≡ true
    pub in_order :
        (y : Numbered Act) → Holds y ys → (i : ℕ) (b : Act) → i < y.number → slice_get d.filed i ≡ Some b → open_at d i ≡ true →
        w.shares i b y.number y.act ≡ true → Before (record { number = i; act = b }) y ys

  -- whatever was done before, such an order is accepted to its end, and no other is
  abbrev pub GoesIsAccepted : Type 0
  GoesIsAccepted = (d : Desk Page Act Result) (ys : List (Numbered Act)) → Goes d ys → accepted w d (numbers_of ys) ≡ true

  abbrev pub AcceptedGoes : Type 0
  AcceptedGoes =
      (d : Desk Page Act Result) (ys : List (Numbered Act)) → ((y : Numbered Act) → Holds y ys → slice_get d.filed y.number ≡ Some y.act) →
      accepted w d (numbers_of ys) ≡ true → Goes d ys

  -- of what is accepted to its end just the numbers in the list are done
  abbrev pub AcceptedIsDone : Type 0
  AcceptedIsDone =
      (ns : List ℕ) (d : Desk Page Act Result) → accepted w d ns ≡ true → (n : ℕ) → open_at (worked_all w d ns) n ≡ (open_at d n && not (among n ns))

  -- the clerks are never stuck: the first open act can be worked
  abbrev pub NeverStuck : Type 0
  NeverStuck =
      (d : Desk Page Act Result) (n : ℕ) (a : Act) → slice_get d.filed n ≡ Some a → open_at d n ≡ true → ((i : ℕ) → i < n → open_at d i ≡ false) → asked w d n ≡ ready a

  -- and it is the first that can
  abbrev pub FirstIsReady : Type 0
  FirstIsReady = (start : ℕ → Page) (d : Desk Page Act Result) → Reached w start d → (n : ℕ) → FirstOpen d n → ready_from w d 0 (length d.filed) ≡ Some n

  -- a page that no open act touches is final: whatever is asked for of what was filed, it stays as it is
  abbrev pub UntouchedIsFinal : Type 0
  UntouchedIsFinal =
      (d : Desk Page Act Result) (p : ℕ) → ((i : ℕ) → open_at d i ≡ true → touched_by w i (slice_get d.filed i) p ≡ false) → (ns : List ℕ) →
      (worked_all w d ns).register p ≡ d.register p
