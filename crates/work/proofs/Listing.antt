-- Filings and marks as lists: how long they are, what stands at a number, and what a change in memory makes of them. Assumes nothing.
use Rattle.std.proofs.Common.{◌≡◌, ℕ, zero, suc, ◌<◌, ◌≤◌, true, false, List, [], ◌∷◌, ◌++◌, length, get_or, set, is_none, is_some, Some, None, Option, sym, refl, ap, ◌∙◌, ⊎_elim, arith}
use Rattle.std.proofs.lemmas.List.{get_or-set_same, get_or-set_other, length_push, set-append_left, set_at}
use Rattle.std.proofs.lemmas.Bool.{cases_lt, true≢false}
use Rattle.std.proofs.lemmas.Option.{slice_get_past, slice_get_within}
use Rattle.std.specs.List.{slice_get}
use Rattle.std.specs.Option.{option_to_list}
use Rattle.orders.proofs.Places.{nth_front, nth_last}
use Rattle.orders.specs.Desk.{is_open}
use Rattle.filings.specs.declared.filing.Filing.{Filing}
use Rattle.entering.specs.declared.outcome.Outcome.{Outcome}
use Rattle.work.specs.Listed.{filed_in, marks_in}
use Rattle.work.specs.Marks.{mark_of}

-- FILINGS

one_more : {X : Type 0} (o : Option X) → is_some o ≡ true → (x : X) × (o ≡ Some x) × (option_to_list o ≡ x ∷ [])
one_more None some = absurd (true≢false (sym some))
one_more (Some x) some = (x, refl, refl)

module _ (kept : ℕ → Option Filing) where
  pub filed_length : (n : ℕ) → ((k : ℕ) → k < n → is_some (kept k) ≡ true) → length (filed_in kept n) ≡ n
  unfolding filed_in
  filed_length zero all = refl
  filed_length (suc n) all =
      let last = one_more (kept n) (all n (omega arith)) in
      ap (λ l. length (filed_in kept n ++ l)) last.2 ∙ length_push (filed_in kept n) last.0 ∙ (let l = filed_length n (λ k h. all k (omega arith)) in omega arith)

  pub filed_nth : (n i : ℕ) → ((k : ℕ) → k < n → is_some (kept k) ≡ true) → i < n → slice_get (filed_in kept n) i ≡ kept i
  unfolding filed_in
  filed_nth zero i all h = absurd (omega arith)
  filed_nth (suc n) i all h =
      let last = one_more (kept n) (all n (omega arith)) in
      let size = filed_length n (λ k l. all k (omega arith)) in
      ap (λ l. slice_get (filed_in kept n ++ l) i) last.2 ∙
      ⊎_elim
      (λ (below : i < n). nth_front (filed_in kept n) last.0 i (omega arith) ∙ filed_nth n i (λ k l. all k (omega arith)) below)
      (λ (here : n ≤ i).
      let at : i ≡ n = omega arith in
      nth_last (filed_in kept n) last.0 i (omega arith) ∙ sym last.1 ∙ ap kept (sym at))
      (cases_lt i n)

  pub filed_past : (n i : ℕ) → ((k : ℕ) → k < n → is_some (kept k) ≡ true) → n ≤ i → slice_get (filed_in kept n) i ≡ None
  filed_past n i all past = let size = filed_length n all in slice_get_past (filed_in kept n) i (omega arith)

  pub filed_below : (n i : ℕ) (f : Filing) → ((k : ℕ) → k < n → is_some (kept k) ≡ true) → slice_get (filed_in kept n) i ≡ Some f → i < n
  filed_below n i f all there = let size = filed_length n all in let within = slice_get_within (filed_in kept n) i f there in omega arith

pub filed_same : (kept other : ℕ → Option Filing) (n : ℕ) → ((k : ℕ) → k < n → kept k ≡ other k) → filed_in kept n ≡ filed_in other n
unfolding filed_in
filed_same kept other zero same = refl
filed_same kept other (suc n) same = λ i. filed_same kept other n (λ k h. same k (omega arith)) i ++ option_to_list (same n (omega arith) i)

-- MARKS

pub marks_length : (ms : List ℕ) (n : ℕ) → length (marks_in ms n) ≡ n
unfolding marks_in
marks_length ms zero = refl
marks_length ms (suc n) = length_push (marks_in ms n) (mark_of (get_or ms n 0)) ∙ (let l = marks_length ms n in omega arith)

pub marks_nth : (ms : List ℕ) (n i : ℕ) → i < n → slice_get (marks_in ms n) i ≡ Some (mark_of (get_or ms i 0))
unfolding marks_in
marks_nth ms zero i h = absurd (omega arith)
marks_nth ms (suc n) i h =
    let size = marks_length ms n in
    ⊎_elim
    (λ (below : i < n). nth_front (marks_in ms n) (mark_of (get_or ms n 0)) i (omega arith) ∙ marks_nth ms n i below)
    (λ (here : n ≤ i).
    let at : n ≡ i = omega arith in
    nth_last (marks_in ms n) (mark_of (get_or ms n 0)) i (omega arith) ∙ ap (λ k. Some (mark_of (get_or ms k 0))) at)
    (cases_lt i n)

pub marks_same : (ms other : List ℕ) (n : ℕ) → ((k : ℕ) → k < n → get_or ms k 0 ≡ get_or other k 0) → marks_in ms n ≡ marks_in other n
unfolding marks_in
marks_same ms other zero same = refl
marks_same ms other (suc n) same = λ i. marks_same ms other n (λ k h. same k (omega arith)) i ++ mark_of (same n (omega arith) i) ∷ []

pub marks_set : (ms : List ℕ) (n k b : ℕ) → k < n → k < length ms → marks_in (set ms k b) n ≡ set (marks_in ms n) k (mark_of b)
unfolding marks_in
marks_set ms zero k b h within = absurd (omega arith)
marks_set ms (suc n) k b h within =
    let size = marks_length ms n in
    ⊎_elim
    (λ (below : k < n).
    (λ i. marks_set ms n k b below within i ++ mark_of (get_or-set_other ms k n b 0 (λ e. omega arith) i) ∷ []) ∙
    sym (set-append_left (marks_in ms n) (mark_of (get_or ms n 0) ∷ []) k (mark_of b) (omega arith)))
    (λ (here : n ≤ k).
    let at : n ≡ k = omega arith in
    (λ i. marks_same (set ms k b) ms n (λ j l. get_or-set_other ms k j b 0 (λ e. omega arith)) i ++ mark_of ((ap (λ j. get_or (set ms k b) j 0) at ∙ get_or-set_same ms k b 0 within) i) ∷ []) ∙
    sym (set_at (marks_in ms n) (mark_of (get_or ms n 0)) [] (mark_of b) k (omega arith)))
    (cases_lt k n)

-- a filing is open while it has no mark
pub open_there : (ms : List ℕ) (m n : ℕ) → n < m → is_open (slice_get (marks_in ms m) n) ≡ is_none (mark_of (get_or ms n 0))
open_there ms m n here = ap is_open (marks_nth ms m n here) ∙ by_mark (mark_of (get_or ms n 0))
  where
    by_mark : (o : Option Outcome) → is_open (Some o) ≡ is_none o
    by_mark None = refl
    by_mark (Some x) = refl

pub open_past : (ms : List ℕ) (m n : ℕ) → m ≤ n → is_open (slice_get (marks_in ms m) n) ≡ false
open_past ms m n past = let size = marks_length ms m in ap is_open (slice_get_past (marks_in ms m) n (omega arith))
