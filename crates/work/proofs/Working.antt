-- What work makes of the state, from what it makes of the memory. Assumes nothing.
use Rattle.std.proofs.Common.{◌≡◌, ℕ, ◌<◌, ◌≤◌, ◌+◌, false, List, length, set, Some, Ok, sym, refl, ap, ◌∙◌, arith}
use Rattle.orders.specs.Desk.{Answer, absent, asked, finished, if_ready, ready, waits, work}
use Rattle.std.proofs.lemmas.Bool.{le-ltb}
use Rattle.pages.specs.Register.{page_at, room}
use Rattle.filings.specs.Keeping.{kept_at}
use Rattle.filings.specs.declared.filed.Filed.{Filed}
use Rattle.filings.specs.declared.filing.Filing.{Filing}
use Rattle.filings.specs.Touches.{first_made}
use Rattle.entering.specs.Entering.{entered, outcome, short_of_room}
use Rattle.entering.specs.declared.outcome.Outcome.{Outcome}
use Rattle.entering.specs.declared.outcome.Outcome.TheVariants.{Entered, Rejected}
use Rattle.entering.specs.declared.outcome.Rejection.TheVariants.{NotLive, NotOwner, NoEntry, Area, Itself, Unlike, Full}
use Rattle.steps.specs.Acting.{acts}
use Rattle.work.specs.Asking.{told}
use Rattle.work.specs.Calls.{state_worked}
use Rattle.work.specs.Listed.{filed_in, marks_in}
use Rattle.work.specs.Marks.{mark_byte, mark_of}
use Rattle.work.specs.State.{Image, desk_in, numbered, state_in}
use Rattle.work.proofs.Listing.{marks_set}

-- what was marked is read back
mark_back : (o : Outcome) → mark_of (mark_byte o) ≡ Some o
mark_back Entered = refl
mark_back (Rejected NotLive) = refl
mark_back (Rejected NotOwner) = refl
mark_back (Rejected NoEntry) = refl
mark_back (Rejected Area) = refl
mark_back (Rejected Itself) = refl
mark_back (Rejected Unlike) = refl
mark_back (Rejected Full) = refl

-- the state after, once the answer is known
pub state_after : (im : Image) (n : ℕ) (x : Answer Filing) → x ≡ asked (acts im.parcels) (desk_in im) n → state_worked n (state_in im) ≡ record { parcels = im.parcels; desk = if_ready (acts im.parcels) (desk_in im) n x }
unfolding work
state_after im n x e = λ i. record { parcels = im.parcels; desk = if_ready (acts im.parcels) (desk_in im) n (sym e i) }

pub state_entered :
    (im after : Image) (n : ℕ) (f : Filing) → n < im.filed → n < length im.marks → ready f ≡ asked (acts im.parcels) (desk_in im) n →
    page_at after.pages ≡ entered im.parcels n f (page_at im.pages) → after.filings ≡ im.filings →
    after.marks ≡ set im.marks n (mark_byte (outcome im.parcels n f (page_at im.pages))) → after.parcels ≡ im.parcels → after.filed ≡ im.filed →
    state_in after ≡ state_worked n (state_in im)
state_entered im after n f here within e pages filings marks parcels filed =
    let o : Outcome = outcome im.parcels n f (page_at im.pages) in
    let marked : marks_in after.marks after.filed ≡ set (marks_in im.marks im.filed) n (Some o) =
    (λ i. marks_in (marks i) (filed i)) ∙ marks_set im.marks im.filed n (mark_byte o) here within ∙ ap (set (marks_in im.marks im.filed) n) (mark_back o)
    in
    (λ i. record { parcels = parcels i; desk = record { register = pages i; filed = filed_in (kept_at (filings i)) (filed i); marks = marked i } }) ∙
    sym (state_after im n (ready f) e)

-- what may be worked is what was asked for
pub told_of : (P n : ℕ) (filed : Filed) (x : Answer Filing) → Ok filed ≡ told P n x → (ready filed.filing ≡ x) × (filed.parcels ≡ P)
told_of P n filed absent e = absurd (let z : ◌≡◌ {A = ℕ} 0 1 = cc in omega arith)
told_of P n filed finished e = absurd (let z : ◌≡◌ {A = ℕ} 0 1 = cc in omega arith)
told_of P n filed (waits i) e = absurd (let z : ◌≡◌ {A = ℕ} 0 1 = cc in omega arith)
told_of P n filed (ready f) e = let same : filed ≡ numbered P n f = cc in (ap (λ (x : Filed). ready x.filing) same, ap (λ (x : Filed). x.parcels) same)

-- where there is room, no filing is short of it
pub enough : (P n : ℕ) (ws : List ℕ) → first_made P n + 2 ≤ room ws → short_of_room P n ws ≡ false
enough P n ws h = le-ltb _ _ (omega arith)
