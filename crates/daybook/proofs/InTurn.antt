-- Working a list in turn: what is kept at each number, and what follows at the first that is refused and at the end. Assumes nothing.
use Rattle.std.proofs.Common.{◌≡◌, ℕ, zero, suc, ◌+◌, ◌<◌, ◌≤◌, true, false, not, ◌&&◌, List, [], ◌∷◌, length, get_or, drop, is_ok, Some, None, Ok, Err, Option, Result, sym, refl, ap, ◌∙◌, subst, add-one, drop-cons, arith}
use Rattle.std.proofs.lemmas.Bool.{true≢false}
use Rattle.std.proofs.lemmas.List.{drop_all}
use Rattle.std.proofs.lemmas.Grind.{common_steps}
use Rattle.std.specs.List.{slice_get}
use Rattle.orders.proofs.Places.{nth_there}
use Rattle.std.proofs.lemmas.Option.{slice_get_within}
use Rattle.orders.proofs.Reached.{kept_reached, reached}
use Rattle.orders.proofs.Rule.{accepted_is_done}
use Rattle.orders.specs.Desk.{Answer, Desk, absent, finished, waits, ready, accepted, asked, if_ready, is_open, is_ready, by_work, open_at, open_from, turn, work, worked_all}
use Rattle.orders.specs.Orders.{Numbered, among}
use Rattle.orders.specs.Steps.{Acts}
use Rattle.pages.specs.Opening.{opened_page}
use Rattle.pages.specs.Register.{page_at}
use Rattle.pages.specs.declared.refusal.Refusal.{Refusal}
use Rattle.filings.specs.declared.filing.Filing.{Filing}
use Rattle.entering.specs.Entering.{outcome}
use Rattle.entering.specs.declared.outcome.Outcome.{Outcome}
use Rattle.steps.proofs.Locals.{filings_are_local}
use Rattle.steps.specs.Acting.{acts}
use Rattle.work.proofs.Promises.{promised}
use Rattle.work.specs.Calls.{answered, image_worked}
use Rattle.work.specs.Promises.{From, Works}
use Rattle.work.specs.State.{Image, State, desk_in, state_in}
use Rattle.daybook.specs.Checker.{Checks, InOrderOfFiling, checking, desk_checked, image_checked, misplaced, refusal_of}
use Rattle.daybook.specs.declared.checker.Misplaced.{Misplaced}

-- OF ANY DESK

module _ {Page Act Result : Type 0} (w : Acts Page Act Result) where
  filed_kept : (d : Desk Page Act Result) (n : ℕ) → (work w d n).filed ≡ d.filed
  unfolding work
  filed_kept d n = by_answer (asked w d n)
    where
      by_answer : (x : Answer Act) → (if_ready w d n x).filed ≡ d.filed
      by_answer absent = refl
      by_answer finished = refl
      by_answer (waits i) = refl
      by_answer (ready a) = refl

  filed_all : (ns : List ℕ) (d : Desk Page Act Result) → (worked_all w d ns).filed ≡ d.filed
  unfolding worked_all
  filed_all [] d = refl
  filed_all (n ∷ ns) d = filed_all ns (work w d n) ∙ filed_kept d n

  -- with none open the first open one is behind all
  none_open : (d : Desk Page Act Result) (p : ℕ) → ((n : ℕ) → open_at d n ≡ false) → (i k : ℕ) → open_from w d p i k ≡ i + k
  unfolding open_from
  none_open d p shut i zero = omega arith
  none_open d p shut i (suc k) = let at = shut i in let rest = none_open d p shut (suc i) k in grind (arith, common_steps)

pub record Came (bytes : List ℕ) (s : State) : Type 0 where
  pub log : List (Numbered Filing)
  pub from : From bytes log s

came_all : (bytes : List ℕ) (P : ℕ) (ns : List ℕ) (d : Desk _ _ _) → Came bytes (record { parcels = P; desk = d }) → Came bytes (record { parcels = P; desk = worked_all (acts P) d ns })
unfolding worked_all
came_all bytes P [] d came = came
came_all bytes P (n ∷ ns) d came = came_all bytes P ns (work (acts P) d n) (record { log = _; from = record { opening = came.from.opening; reached = by_work came.from.reached n } })

-- THE LIST

module _ (P : ℕ) where
  allowed_is : (ns : List ℕ) (d : Desk _ _ _) (i : ℕ) → is_ok (checking P d i ns) ≡ accepted (acts P) d ns
  unfolding checking accepted
  allowed_is [] d i = refl
  allowed_is (n ∷ ns) d i = let rest = allowed_is ns (work (acts P) d n) (suc i) in grind (arith, common_steps)

  all_worked : (ns : List ℕ) (d : Desk _ _ _) → accepted (acts P) d ns ≡ true → desk_checked P d ns ≡ worked_all (acts P) d ns
  unfolding accepted desk_checked worked_all
  all_worked [] d acc = refl
  all_worked (n ∷ ns) d acc = let rest = all_worked ns (work (acts P) d n) in grind (arith, common_steps)

-- WHAT FOLLOWS

-- from an opening on, with none left open
module _ (bytes : List ℕ) (s : State) (came : Came bytes s) (shut : (n : ℕ) → open_at s.desk n ≡ false) where
  in_order_of_filing : InOrderOfFiling bytes s
  in_order_of_filing =
      let as_filed = (promised bytes came.log s came.from).as_filed in
      record {
        page = λ p.
            as_filed.page p ∙
            ap (λ k. turn (acts s.parcels) (opened_page s.parcels bytes) s.desk.filed k p) (none_open (acts s.parcels) s.desk p shut 0 (length s.desk.filed) ∙ omega arith);
        outcomes = λ n f is.
            let within = slice_get_within s.desk.filed n f is in
            let size = (kept_reached (acts s.parcels) (filings_are_local s.parcels) (opened_page s.parcels bytes) (reached (acts s.parcels) (filings_are_local s.parcels) (opened_page s.parcels bytes) came.from.reached)).as_long in
            let mark = nth_there s.desk.marks n (omega arith) in
            by_mark n f is mark.0 mark.1;
      }
    where
      by_mark :
          (n : ℕ) (f : Filing) → slice_get s.desk.filed n ≡ Some f → (x : Option Outcome) → slice_get s.desk.marks n ≡ Some x →
          slice_get s.desk.marks n ≡ Some (Some (outcome s.parcels n f (turn (acts s.parcels) (opened_page s.parcels bytes) s.desk.filed n)))
      by_mark n f is None e = absurd (true≢false (sym (ap is_open e) ∙ shut n))
      by_mark n f is (Some o) e = e ∙ ap (λ x. Some (Some x)) ((promised bytes came.log s came.from).as_filed.outcome n f o is e)

module _ (all : List ℕ) (before after : Image) (r : Result (Unit {0}) Misplaced) where
  checks :
      r ≡ checking before.parcels (desk_in before) 0 all → after ≡ image_checked before all → desk_in after ≡ desk_checked before.parcels (desk_in before) all →
      after.parcels ≡ before.parcels → ((bytes : List ℕ) → Came bytes (state_in before) → Came bytes (state_in after)) → Checks r all before after
  checks answer image desk parcels came =
      let allowed = ap is_ok answer ∙ allowed_is before.parcels all (desk_in before) 0 in
      record {
        answer = answer;
        image = image;
        state = λ t. record { parcels = parcels t; desk = desk t };
        allowed = allowed;
        same = λ bytes ys from ok other acc same. agree bytes (record { log = ys; from = from }) (sym allowed ∙ ok) other acc same ∙ sym desk;
        whole = λ bytes ys from shut. in_order_of_filing bytes (state_in after) (came bytes (record { log = ys; from = from })) shut;
      }
    where
      agree :
          (bytes : List ℕ) → Came bytes (state_in before) → accepted (acts before.parcels) (desk_in before) all ≡ true → (other : List ℕ) →
          accepted (acts before.parcels) (desk_in before) other ≡ true → ((n : ℕ) → among n other ≡ among n all) →
          worked_all (acts before.parcels) (desk_in before) other ≡ desk_checked before.parcels (desk_in before) all
      agree bytes start acc other acc' same =
          let P = before.parcels in
          let d = desk_in before in
          let one = came_all bytes P other d start in
          let two = came_all bytes P all d start in
          let is = (promised bytes two.log _ two.from).only_done_counts one.log _ one.from refl (filed_all (acts P) other d ∙ sym (filed_all (acts P) all d))
          (λ n. accepted_is_done (acts P) (filings_are_local P) other d acc' n ∙ ap (λ t. open_at d n && not t) (same n) ∙ sym (accepted_is_done (acts P) (filings_are_local P) all d acc n))
          in
          ap (λ s. s.desk) is ∙ sym (all_worked P all d acc)

-- AT EACH NUMBER

-- what is known before the numbers from a place on are worked
pub record SoFar (ns all : List ℕ) (i : ℕ) (before now : Image) : Type 0 where
  pub parcels : now.parcels ≡ before.parcels
  pub left : checking now.parcels (desk_in now) i ns ≡ checking before.parcels (desk_in before) 0 all
  pub desk : desk_checked now.parcels (desk_in now) ns ≡ desk_checked before.parcels (desk_in before) all
  pub image : image_checked now ns ≡ image_checked before all
  pub came : (bytes : List ℕ) → Came bytes (state_in before) → Came bytes (state_in now)

module _ (all : List ℕ) (before : Image) where
  pub at_first : SoFar all all 0 before before
  at_first = record { parcels = refl; left = refl; desk = refl; image = refl; came = λ bytes came. came }

  module _ (n : ℕ) (ns : List ℕ) (i : ℕ) (now next : Image) (so_far : SoFar (n ∷ ns) all i before now) where
    abbrev P : ℕ
    P = now.parcels

    abbrev answer : Answer Filing
    answer = asked (acts now.parcels) (desk_in now) n

    came_on : (r : Result Outcome Refusal) → Works r n now next → (bytes : List ℕ) → Came bytes (state_in before) → Came bytes (state_in next)
    came_on r works bytes start =
        let came = so_far.came bytes start in
        record { log = _; from = works.onward.reached bytes came.log came.from }

    parcels_on : (r : Result Outcome Refusal) → Works r n now next → next.parcels ≡ now.parcels
    parcels_on r works = ap (λ s. s.parcels) works.state

    -- it was worked
    ready_if_done : (o : Outcome) (x : Answer Filing) → Ok o ≡ answered P n (page_at now.pages) x → is_ready (acts P) x ≡ true
    ready_if_done o absent e = grind arith
    ready_if_done o finished e = grind arith
    ready_if_done o (waits j) e = grind arith
    ready_if_done o (ready f) e = refl

    pub on_done : (o : Outcome) → Works (Ok o) n now next → SoFar ns all (suc i) before next
    unfolding checking desk_checked image_checked
    on_done o works =
        let goes = ready_if_done o answer works.answer in
        let parcels = parcels_on (Ok o) works in
        let desk : desk_in next ≡ work (acts P) (desk_in now) n = ap (λ s. s.desk) works.state in
        let image = works.image in
        record {
          parcels = parcels ∙ so_far.parcels;
          left = let left = so_far.left in grind (arith, common_steps);
          desk = let desks = so_far.desk in grind (arith, common_steps);
          image = let images = so_far.image in grind (arith, common_steps);
          came = came_on (Ok o) works;
        }

    -- it was refused
    not_ready_if_refused : (e : Refusal) (x : Answer Filing) → Err e ≡ answered P n (page_at now.pages) x → (is_ready (acts P) x ≡ false) × (refusal_of x ≡ e) × (image_worked n x now ≡ now)
    not_ready_if_refused e absent is = (refl, cc, refl)
    not_ready_if_refused e finished is = (refl, cc, refl)
    not_ready_if_refused e (waits j) is = (refl, cc, refl)
    not_ready_if_refused e (ready f) is = absurd (grind arith)

    pub on_refused : (e : Refusal) → Works (Err e) n now next → Checks (Err (misplaced i e)) all before next
    unfolding checking desk_checked image_checked
    on_refused e works =
        let stops = not_ready_if_refused e answer works.answer in
        let same : next ≡ now = works.image ∙ stops.2 in
        let left = so_far.left in
        let desks = so_far.desk in
        let images = so_far.image in
        checks all before next (Err (misplaced i e)) (grind (arith, common_steps)) (grind (arith, common_steps)) (grind (arith, common_steps))
        (ap (λ im. im.parcels) same ∙ so_far.parcels)
        (came_on (Err e) works)

  pub at_last : (i : ℕ) (now : Image) → SoFar [] all i before now → Checks (Ok tt) all before now
  unfolding checking desk_checked image_checked
  at_last i now so_far = checks all before now (Ok tt) so_far.left so_far.image so_far.desk so_far.parcels so_far.came

  -- in the code, which goes by the place in the list
  module _ (i : ℕ) (now : Image) (so_far : SoFar (drop i all) all i before now) where
    pub all_done : length all ≤ i → Checks (Ok tt) all before now
    all_done past = at_last i now (subst (λ l. SoFar l all i before now) (drop_all i all past) so_far)

    module _ (inside : i < length all) (next : Image) (r : Result Outcome Refusal) (works : Works r (get_or all i 0) now next) where
      here : SoFar (get_or all i 0 ∷ drop (suc i) all) all i before now
      here = subst (λ l. SoFar l all i before now) (drop-cons all i 0 inside) so_far

      pub goes_on : ((e : Refusal) → r ≡ Err e → ⊥) → SoFar (drop (i + 1) all) all (i + 1) before next
      goes_on never = subst (λ (k : ℕ). SoFar (drop k all) all k before next) (sym (add-one i)) (by_result r works never)
        where
          by_result : (x : Result Outcome Refusal) → Works x (get_or all i 0) now next → ((e : Refusal) → x ≡ Err e → ⊥) → SoFar (drop (suc i) all) all (suc i) before next
          by_result (Ok o) w never = on_done (get_or all i 0) (drop (suc i) all) i now next here o w
          by_result (Err e) w never = absurd (never e refl)

      pub stops : (q : Result (Unit {0}) Misplaced) → ((o : Outcome) → r ≡ Ok o → ⊥) → ((e : Refusal) → r ≡ Err e → q ≡ Err (misplaced i e)) → Checks q all before next
      stops q never told = by_result r works never told
        where
          by_result :
              (x : Result Outcome Refusal) → Works x (get_or all i 0) now next → ((o : Outcome) → x ≡ Ok o → ⊥) →
              ((e : Refusal) → x ≡ Err e → q ≡ Err (misplaced i e)) → Checks q all before next
          by_result (Ok o) w never told = absurd (never o refl)
          by_result (Err e) w never told = subst (λ y. Checks y all before next) (sym (told e refl)) (on_refused (get_or all i 0) (drop (suc i) all) i now next here e w)
