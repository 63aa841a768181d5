-- A rejected filing changes nothing, closed pages stay, and owners and holders keep what is theirs. Assumes nothing.
use Rattle.std.proofs.Common.{◌≡◌, ℕ, true, false, ◌&&◌, eqb, ◌⊎◌, List, Ok, Err, Result, sym, refl, ap, ◌∙◌, subst, inl, inr, ⊎_elim, arith}
use Rattle.std.proofs.lemmas.Bool.{and_parts, both_ways, cases_Bool, eqb-true, or_left}
use Rattle.entries.specs.Order.{Other}
use Rattle.entries.specs.Rank.{has, is}
use Rattle.entries.specs.Sheet.{Sheet}
use Rattle.entries.specs.declared.entry.Entry.{Entry}
use Rattle.entries.proofs.Rank.{what_stands}
use Rattle.pages.specs.Register.{Register}
use Rattle.filings.specs.Touches.{first_made}
use Rattle.filings.specs.declared.filing.Filing.{Filing}
use Rattle.filings.specs.declared.filing.Filing.TheVariants.{Transfer, Release}
use Rattle.entering.specs.Entering.{Change, act, entered, outcome, register_after}
use Rattle.entering.specs.Outcome.{verdict}
use Rattle.entering.specs.declared.outcome.Outcome.{Outcome}
use Rattle.entering.specs.declared.outcome.Outcome.TheVariants.{Entered, Rejected}
use Rattle.entering.specs.declared.outcome.Rejection.{Rejection}
use Rattle.steps.specs.Laws.{RejectedStays, ClosedStays, ByOwner, ByHolder}
use Rattle.steps.proofs.Fates.{Course, Fate, course, fate}
use Rattle.steps.proofs.Fates.Course.{same, more, fill, release, postpone}
use Rattle.steps.proofs.Fates.Fate.{unchanged, transferred, appended, filling, releasing, postponing, closed}

rejected_leaves : (x : Result (List Change) Rejection) (r : Register) (k : Rejection) → verdict x ≡ Rejected k → register_after x r ≡ r
rejected_leaves (Ok cs) r k e = absurd (let z : ◌≡◌ {A = ℕ} 0 1 = cc in omega arith)
rejected_leaves (Err j) r k e = refl

pub rejected_stays : RejectedStays
unfolding outcome entered
rejected_stays P n f r k e = rejected_leaves (act (first_made P n) n f r) r k e

pub either_outcome : (o : Outcome) → (o ≡ Entered) ⊎ ((k : Rejection) × (o ≡ Rejected k))
either_outcome Entered = inl refl
either_outcome (Rejected k) = inr (k, refl)

-- what holds where the filing is entered and of the register as it was, holds of the register after it
pub by_outcome : (Q : Register → Type 0) (P n : ℕ) (f : Filing) (r : Register) → (outcome P n f r ≡ Entered → Q (entered P n f r)) → Q r → Q (entered P n f r)
by_outcome Q P n f r yes_entered as_before =
    ⊎_elim yes_entered (λ s. subst Q (sym (rejected_stays P n f r s.0 s.1)) as_before) (either_outcome (outcome P n f r))

-- two names of an entry are one, or they are apart
pub named_alike : {X : Type 0} (k h j i : ℕ) → (k ≡ j → h ≡ i → X) → (Other k h j i → X) → X
named_alike k h j i alike other =
    ⊎_elim
    (λ y. let parts = and_parts (eqb k j) (eqb h i) y in alike (eqb-true k j parts.0) (eqb-true h i parts.1))
    other
    (cases_Bool (eqb k j && eqb h i))

abbrev owner_of : Sheet → ℕ
owner_of s = s.owner

module _ {n p : ℕ} {f : Filing} {s t : Sheet} where
  kept_closed : Fate n p f s t → s.live ≡ false → t ≡ s
  kept_closed (unchanged e) shut = e
  kept_closed (transferred b this live e) shut = absurd (both_ways s.live shut live)
  kept_closed (appended e signed live room new) shut = absurd (both_ways s.live shut live)
  kept_closed (filling k h m this live found e) shut = absurd (both_ways s.live shut live)
  kept_closed (releasing k h this live found e) shut = absurd (both_ways s.live shut live)
  kept_closed (postponing k h this live found e) shut = absurd (both_ways s.live shut live)
  kept_closed (closed makes live e) shut = absurd (both_ways s.live shut live)

  owner_kept : Fate n p f s t → (t.owner ≡ s.owner → ⊥) → (b : ℕ) × (f ≡ Transfer p s.owner b)
  owner_kept (unchanged e) other = absurd (other (ap owner_of e))
  owner_kept (transferred b this live e) other = (b, this)
  owner_kept (appended e signed live room new) other = absurd (other (ap owner_of new))
  owner_kept (filling k h m this live found e) other = absurd (other (ap owner_of e))
  owner_kept (releasing k h this live found e) other = absurd (other (ap owner_of e))
  owner_kept (postponing k h this live found e) other = absurd (other (ap owner_of e))
  owner_kept (closed makes live e) other = absurd (other (ap owner_of e))

module _ {n p a : ℕ} {f : Filing} {es fs : List Entry} (k h : ℕ) where
  entry_kept : Course n p a f es fs → has k h es ≡ true → has k h fs ≡ false → f ≡ Release p h k
  entry_kept (same e) y gone = absurd (both_ways (has k h fs) gone (ap (has k h) e ∙ y))
  entry_kept (more e signed room new) y gone =
      absurd (both_ways (has k h fs) gone (ap (has k h) new ∙ what_stands.append k h e es ∙ or_left (has k h es) (is k h e) y))
  entry_kept (fill j i m this found e) y gone = absurd (both_ways (has k h fs) gone (ap (has k h) e ∙ what_stands.fill k h j i m es ∙ y))
  entry_kept (release j i this found e) y gone =
      named_alike k h j i
      (λ q w. cc)
      (λ other. absurd (both_ways (has k h fs) gone (ap (has k h) e ∙ what_stands.release k h j i es other ∙ y)))
  entry_kept (postpone j i this found e) y gone = absurd (both_ways (has k h fs) gone (ap (has k h) e ∙ what_stands.postpone k h j i es ∙ y))

pub closed_stays : ClosedStays
closed_stays P n f r p new shut = kept_closed (fate P n f r p new) shut

pub by_owner : ByOwner
by_owner P n f r p new other = owner_kept (fate P n f r p new) other

pub by_holder : ByHolder
by_holder P n f r p k h new y gone = entry_kept k h (course (fate P n f r p new)) y gone
