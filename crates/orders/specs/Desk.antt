-- The clerks' desk: what was filed, which of it is open, and the rule by which it is worked. Assumes nothing.
use Rattle.std.specs.Prelude.{◌≡◌, ℕ, zero, suc, ◌<◌, Bool, true, false, cond, ◌&&◌, List, [], ◌∷◌, ◌++◌, length, replicate, Some, None, Option, slice_set}
use Rattle.std.specs.List.{find, range_with_len, slice_get}
use Rattle.orders.specs.Orders.{Numbered}
use Rattle.orders.specs.Steps.{Acts}

-- an act has the number of its place among what was filed; its mark is what came of it, and none while it is open
pub record Desk (Page Act Result : Type 0) : Type 0 where
  pub register : ℕ → Page
  pub filed : List Act
  pub marks : List (Option Result)

-- the answer to whoever asks to work a number
pub data Answer (Act : Type 0) : Type 0 where
  absent : Answer Act
  finished : Answer Act
  -- the smallest open number in its way
  waits : ℕ → Answer Act
  ready : Act → Answer Act

abbrev pub is_open : {Result : Type 0} → Option (Option Result) → Bool
is_open None = false
is_open (Some None) = true
is_open (Some (Some o)) = false

module _ {Page Act Result : Type 0} where
  -- is the act of this number there and open
  abbrev pub open_at : Desk Page Act Result → ℕ → Bool
  open_at d n = is_open (slice_get d.marks n)

  -- this act is open, and all that were filed before it are done
  pub record FirstOpen (d : Desk Page Act Result) (n : ℕ) : Type 0 where
    pub is_open : open_at d n ≡ true
    pub before : (i : ℕ) → i < n → open_at d i ≡ false

  abbrev pub opened : (ℕ → Page) → Desk Page Act Result
  opened r = record { register = r; filed = []; marks = [] }

  -- all of these were filed and none was worked
  abbrev pub all_open : (ℕ → Page) → List Act → Desk Page Act Result
  all_open r fs = record { register = r; filed = fs; marks = replicate (length fs) None }

  -- it comes in open, under the next number
  abbrev pub filed_more : Desk Page Act Result → Act → Desk Page Act Result
  filed_more d a = record { register = d.register; filed = d.filed ++ a ∷ []; marks = d.marks ++ None ∷ [] }

module _ {Page Act Result : Type 0} (w : Acts Page Act Result) where
  abbrev pub shares_with : ℕ → Act → ℕ → Option Act → Bool
  shares_with n a i None = false
  shares_with n a i (Some b) = w.shares i b n a

  -- the act i is open and shares a page with the act a of number n
  abbrev pub in_way : Desk Page Act Result → ℕ → Act → ℕ → Bool
  in_way d n a i = open_at d i && shares_with n a i (slice_get d.filed i)

  -- the smallest in its way, of k numbers from i on
  abbrev pub way_from : Desk Page Act Result → ℕ → Act → ℕ → ℕ → Option ℕ
  way_from d n a i k = find (in_way d n a) (range_with_len i k)

  abbrev pub unless_waits : Act → Option ℕ → Answer Act
  unless_waits a None = ready a
  unless_waits a (Some i) = waits i

  abbrev pub if_open : Bool → Answer Act → Answer Act
  if_open true x = x
  if_open false x = finished

  abbrev pub if_there : Desk Page Act Result → ℕ → Option Act → Answer Act
  if_there d n None = absent
  if_there d n (Some a) = if_open (open_at d n) (unless_waits a (way_from d n a 0 n))

  -- an act may be worked if no open one with a smaller number shares a page with it
  unfoldable pub asked : Desk Page Act Result → ℕ → Answer Act
  asked d n = if_there d n (slice_get d.filed n)

  abbrev pub worked_on : Desk Page Act Result → ℕ → Act → Desk Page Act Result
  worked_on d n a = record {
    register = w.step n a d.register;
    filed = d.filed;
    marks = slice_set d.marks n (Some (w.outcome n a d.register));
  }

  abbrev pub if_ready : Desk Page Act Result → ℕ → Answer Act → Desk Page Act Result
  if_ready d n absent = d
  if_ready d n finished = d
  if_ready d n (waits i) = d
  if_ready d n (ready a) = worked_on d n a

  -- who asks for what may not be worked changes nothing
  unfoldable pub work : Desk Page Act Result → ℕ → Desk Page Act Result
  work d n = if_ready d n (asked d n)

  -- whatever is asked for, one number after another
  unfoldable pub worked_all : Desk Page Act Result → List ℕ → Desk Page Act Result
  worked_all d [] = d
  worked_all d (n ∷ ns) = worked_all (work d n) ns

  abbrev pub is_ready : Answer Act → Bool
  is_ready absent = false
  is_ready finished = false
  is_ready (waits i) = false
  is_ready (ready a) = true

  -- the smallest that may be worked, of k numbers from i on
  abbrev pub ready_from : Desk Page Act Result → ℕ → ℕ → Option ℕ
  ready_from d i k = find (λ j. is_ready (asked d j)) (range_with_len i k)

  -- each of these numbers is worked when it is asked for, one after another
  unfoldable pub accepted : Desk Page Act Result → List ℕ → Bool
  accepted d [] = true
  accepted d (n ∷ ns) = is_ready (asked d n) && accepted (work d n) ns

  -- what was worked so far, in the order of work, once somebody has asked for one more
  abbrev pub logged : Answer Act → ℕ → List (Numbered Act) → List (Numbered Act)
  logged absent n ys = ys
  logged finished n ys = ys
  logged (waits i) n ys = ys
  logged (ready a) n ys = ys ++ record { number = n; act = a } ∷ []

  -- what comes about from an opening by any interleaving of filing and asking
  pub data Reached (start : ℕ → Page) : Desk Page Act Result → Type 0 where
    at_opening : Reached start (opened start)
    on_filing : {d : Desk Page Act Result} → Reached start d → (a : Act) → Reached start (filed_more d a)
    on_work : {d : Desk Page Act Result} → Reached start d → (n : ℕ) → Reached start (work d n)

  -- the same, with what was worked so far
  pub data ReachedBy (start : ℕ → Page) : List (Numbered Act) → Desk Page Act Result → Type 0 where
    by_opening : ReachedBy start [] (opened start)
    by_filing : {ys : List (Numbered Act)} {d : Desk Page Act Result} → ReachedBy start ys d → (a : Act) → ReachedBy start ys (filed_more d a)
    by_work : {ys : List (Numbered Act)} {d : Desk Page Act Result} → ReachedBy start ys d → (n : ℕ) → ReachedBy start (logged (asked d n) n ys) (work d n)

  -- THE ORDER OF FILING

  abbrev pub stepped : ℕ → Option Act → (ℕ → Page) → ℕ → Page
  stepped n None r = r
  stepped n (Some a) r = w.step n a r

  -- the register before the act k, had they been worked one by one in the order in which they were filed
  unfoldable pub turn : (ℕ → Page) → List Act → ℕ → ℕ → Page
  turn start fs zero = start
  turn start fs (suc k) = stepped k (slice_get fs k) (turn start fs k)

  abbrev pub touched_by : ℕ → Option Act → ℕ → Bool
  touched_by n None q = false
  touched_by n (Some a) q = w.touches n a q

  -- the smallest open number that touches a page, of k from i on; where there is none, the number behind them
  unfoldable pub open_from : Desk Page Act Result → ℕ → ℕ → ℕ → ℕ
  open_from d p i zero = i
  open_from d p i (suc k) = cond (open_at d i && touched_by i (slice_get d.filed i) p) i (open_from d p (suc i) k)

  abbrev pub first_open : Desk Page Act Result → ℕ → ℕ
  first_open d p = open_from d p 0 (length d.filed)
