-- The promises are kept: the laws of orders at filings, which are local, carried along each call. Assumes nothing.
use Rattle.std.proofs.Common.{◌≡◌, ℕ, ◌≤◌, true, List, [], length, IfErr, Ok, Err, Result, sym, refl, ap, ◌∙◌, subst, arith}
use Rattle.orders.proofs.Accepted.{first_is_ready, goes_is_accepted}
use Rattle.orders.proofs.Decided.{only_done_counts}
use Rattle.orders.proofs.History.{worked_in_order}
use Rattle.orders.proofs.Reached.{first_is, order_of_work_unseen, reached, untouched_is_final}
use Rattle.orders.specs.Desk.{Answer, Reached, ReachedBy, absent, finished, waits, ready, asked, by_filing, by_opening, by_work, first_open, if_ready, logged, open_at, opened, work}
use Rattle.orders.specs.Laws.{AsFiled}
use Rattle.orders.specs.Orders.{Numbered}
use Rattle.entries.specs.Order.{all_below, distinct}
use Rattle.entries.specs.Rank.{ahead, has, numbers}
use Rattle.pages.specs.Opening.{checked, opened_page}
use Rattle.pages.specs.Register.{page_at}
use Rattle.pages.specs.declared.refusal.Refusal.{Refusal}
use Rattle.filings.specs.declared.filed.Filed.{Filed}
use Rattle.filings.specs.declared.filing.Filing.{Filing}
use Rattle.steps.proofs.Locals.{filings_are_local}
use Rattle.steps.proofs.Opening.{no_entries}
use Rattle.steps.proofs.Ranks.{rank_kept}
use Rattle.steps.proofs.Run.{from_an_opening_on}
use Rattle.steps.specs.Acting.{acts}
use Rattle.work.specs.Asking.{answer_to, told}
use Rattle.work.specs.Calls.{answered, image_filed, image_worked, number_given, state_filed, state_worked, taking_in}
use Rattle.work.specs.Listed.{filed_in, marks_in}
use Rattle.work.specs.Promises.{Begun, Files, From, Onward, Promised, Works}
use Rattle.work.specs.State.{Image, State, desk_in, state_in}

module _ (bytes : List ℕ) (ys : List (Numbered Filing)) (s : State) (from : From bytes ys s) where
  came : Reached (acts s.parcels) (opened_page s.parcels bytes) s.desk
  came = reached (acts s.parcels) (filings_are_local s.parcels) (opened_page s.parcels bytes) from.reached

  as_filed : AsFiled (acts s.parcels) (opened_page s.parcels bytes) s.desk
  as_filed = order_of_work_unseen (acts s.parcels) (filings_are_local s.parcels) (opened_page s.parcels bytes) s.desk came

  decided :
      (zs : List (Numbered Filing)) (t : State) → From bytes zs t → t.parcels ≡ s.parcels → t.desk.filed ≡ s.desk.filed →
      ((n : ℕ) → open_at t.desk n ≡ open_at s.desk n) → t ≡ s
  decided zs t other parcels filed opens =
      let there = reached (acts s.parcels) (filings_are_local s.parcels) (opened_page s.parcels bytes) (subst (λ P. ReachedBy (acts P) (opened_page P bytes) zs t.desk) parcels other.reached) in
      let same = only_done_counts (acts s.parcels) (filings_are_local s.parcels) (opened_page s.parcels bytes) t.desk s.desk there came filed opens in
      λ i. record { parcels = parcels i; desk = same i }

  pub promised : Promised bytes ys s
  promised =
      let P = s.parcels in
      let d = s.desk in
      let local = filings_are_local P in
      let start = opened_page P bytes in
      let page = as_filed.page in
      let turns = first_is (acts P) local d in
      let well = λ (p : ℕ). from_an_opening_on P bytes d.filed (first_open (acts P) d p) from.opening (let up = (turns p 0 (length d.filed)).to in omega arith) in
      record {
        as_filed = as_filed;
        only_done_counts = decided;
        in_order = worked_in_order (acts P) local start ys d from.reached;
        goes_on = λ zs goes. goes_is_accepted (acts P) local d zs goes;
        never_stuck = λ n lead. first_is_ready (acts P) local start d came n lead;
        settled = λ p free ns. untouched_is_final (acts P) local d p free ns;
        rank = λ p k h never stands.
            subst (λ x. all_below k (numbers (ahead k h x.entries)) ≡ true) (sym (page p))
            (rank_kept P start (no_entries P bytes) d.filed (first_open (acts P) d p) p k h never (subst (λ x. has k h x.entries ≡ true) (page p) stands));
        room = λ p. subst (λ x. length x.entries ≤ 32) (sym (page p)) ((well p).sound.room p);
        distinct_numbers = λ p. subst (λ x. distinct (numbers x.entries) ≡ true) (sym (page p)) ((well p).sound.distinct_numbers p);
        below = λ p. subst (λ x. all_below (first_open (acts P) d p) (numbers x.entries) ≡ true) (sym (page p)) ((well p).sound.below p);
      }

-- whatever keeps what was reached keeps what is promised
onward : (before after : State) (log : List (Numbered Filing) → List (Numbered Filing)) → ((bytes : List ℕ) (ys : List (Numbered Filing)) → From bytes ys before → From bytes (log ys) after) → Onward before after log
onward before after log reached = record { reached = reached; promised = λ bytes ys from. promised bytes (log ys) after (reached bytes ys from) }

onward_same : (s : State) → Onward s s (λ ys. ys)
onward_same s = onward s s (λ ys. ys) (λ bytes ys from. from)

pub onward_filed : (s after : State) (f : Filing) → after ≡ state_filed (Ok f) s → Onward s after (λ ys. ys)
onward_filed s after f e =
    onward s after (λ ys. ys) (λ bytes ys from. subst (From bytes ys) (sym e) (record { opening = from.opening; reached = by_filing from.reached f }))

pub onward_worked : (s after : State) (n : ℕ) → after ≡ state_worked n s → Onward s after (logged (acts s.parcels) (asked (acts s.parcels) s.desk n) n)
onward_worked s after n e =
    let log = logged (acts s.parcels) (asked (acts s.parcels) s.desk n) n in
    onward s after log (λ bytes ys from. subst (From bytes (log ys)) (sym e) (record { opening = from.opening; reached = by_work from.reached n }))

pub not_filed : (im : Image) (bs : List ℕ) (x : Result Filing Refusal) → x ≡ taking_in im bs → IfErr x (λ e. Files (Err e) bs im im)
not_filed im bs (Ok f) is = tt
not_filed im bs (Err e) is = record {
  answer = ap (number_given im) is;
  image = ap (λ x. image_filed x bs im) is;
  state = ap (λ x. state_filed x (state_in im)) is;
  onward = onward_same (state_in im);
}

-- an opened registry is the first that is reached
pub begun : (P : ℕ) (bytes : List ℕ) (im after : Image) → after ≡ record { pages = im.pages; filings = im.filings; marks = im.marks; parcels = P; filed = 0 } → page_at im.pages ≡ opened_page P bytes → checked P bytes ≡ Ok tt → Begun P bytes after
unfolding filed_in marks_in
begun P bytes im after is pages ok =
    let state : state_in after ≡ record { parcels = P; desk = opened (opened_page P bytes) } =
    ap state_in is ∙ (λ i. record { parcels = P; desk = record { register = pages i; filed = []; marks = [] } })
    in
    let from : From bytes [] (state_in after) = subst (From bytes []) (sym state) (record { opening = ok; reached = by_opening }) in
    record { state = state; reached = from; promised = promised bytes [] (state_in after) from }

-- what is refused changes nothing
unchanged :
    (im : Image) (n : ℕ) (e : Refusal) (x : Answer Filing) → Err e ≡ told im.parcels n x →
    (Err e ≡ answered im.parcels n (page_at im.pages) x) × (im ≡ image_worked n x im) × (desk_in im ≡ if_ready (acts im.parcels) (desk_in im) n x)
unchanged im n e absent is = (cc, refl, refl)
unchanged im n e finished is = (cc, refl, refl)
unchanged im n e (waits i) is = (cc, refl, refl)
unchanged im n e (ready f) is = absurd (let z : ◌≡◌ {A = ℕ} 0 1 = cc in omega arith)

pub not_worked : (im : Image) (n : ℕ) (x : Result Filed Refusal) → x ≡ told im.parcels n (answer_to im n) → IfErr x (λ e. Works (Err e) n im im)
unfolding work
not_worked im n (Ok f) is = tt
not_worked im n (Err e) is =
    let same = unchanged im n e (answer_to im n) is in
    let state : state_in im ≡ state_worked n (state_in im) = λ i. record { parcels = im.parcels; desk = same.2 i } in
    record { answer = same.0; image = same.1; state = state; onward = onward_worked (state_in im) (state_in im) n state }
