-- A filing changes only pages that it touches, and depends on those alone. Assumes nothing.
use Rattle.std.proofs.Common.{◌≡◌, ℕ, ◌+◌, Bool, true, false, cond, ◌&&◌, eqb, ltb, List, [], ◌∷◌, ◌++◌, Ok, Err, Result, sym, refl, ap, ◌∙◌, ⊎_elim}
use Rattle.std.proofs.lemmas.Bool.{cases_Bool, cond-false, eq-eqb, eqb-true, or_left, or_right, true≢false}
use Rattle.std.specs.List.{AllByRecursion}
use Rattle.entries.specs.Order.{alike}
use Rattle.entries.specs.Sheet.{Sheet}
use Rattle.pages.specs.Register.{Register, put}
use Rattle.filings.specs.Touches.{first_made, may_make, member, named, touched_by}
use Rattle.filings.specs.declared.filing.Filing.{Filing}
use Rattle.filings.specs.declared.filing.Filing.TheVariants.{Transfer, Charge, Reserve, Fill, Release, Postpone, Subdivide, Merge}
use Rattle.filings.proofs.Touches.{sharing}
use Rattle.entering.specs.Acts.{if_live, if_owner, transferred, charged, kept_for, filled_by, released_by, postponed_by, divisible, mergeable}
use Rattle.entering.specs.Entering.{Change, act, alone, subdivided, merged, puts, register_after, outcome, entered}
use Rattle.entering.specs.Outcome.{verdict}
use Rattle.entering.specs.declared.outcome.Rejection.{Rejection}
use Rattle.steps.specs.Acting.{FilingsAreLocal}

-- WHAT IT WRITES

-- only pages of a list are written
abbrev Within : List ℕ → Result (List Change) Rejection → Type 0
Within ps (Ok cs) = AllByRecursion (λ c. member c.parcel ps ≡ true) cs
Within ps (Err k) = Unit {0}

within_cond : (ps : List ℕ) (b : Bool) (x y : Result (List Change) Rejection) → Within ps x → Within ps y → Within ps (cond b x y)
within_cond ps true x y p q = p
within_cond ps false x y p q = q

within_alone : (p : ℕ) (ps : List ℕ) (x : Result Sheet Rejection) → Within (p ∷ ps) (alone p x)
within_alone p ps (Ok s) = (or_left (eqb p p) _ (eq-eqb p p refl), tt)
within_alone p ps (Err k) = tt

at_head : (p : ℕ) (ps : List ℕ) → member p (p ∷ ps) ≡ true
at_head p ps = or_left (eqb p p) (member p ps) (eq-eqb p p refl)

further : (p q : ℕ) (ps : List ℕ) → member p ps ≡ true → member p (q ∷ ps) ≡ true
further p q ps h = or_right (eqb q p) (member p ps) h

within_live : (ps : List ℕ) (s : Sheet) (x : Result (List Change) Rejection) → Within ps x → Within ps (if_live s x)
within_live ps s x h = within_cond ps s.live x _ h tt

within_owner : (ps : List ℕ) (s : Sheet) (a : ℕ) (x : Result (List Change) Rejection) → Within ps x → Within ps (if_owner s a x)
within_owner ps s a x h = within_cond ps (eqb s.owner a) x _ h tt

within_subdivided : (first p : ℕ) (s : Sheet) (a m : ℕ) → Within (p ∷ first ∷ (first + 1) ∷ []) (Ok (subdivided first p s a m))
within_subdivided first p s a m = (
  at_head p (first ∷ (first + 1) ∷ []),
  (
    further first p (first ∷ (first + 1) ∷ []) (at_head first ((first + 1) ∷ [])),
    (further (first + 1) p (first ∷ (first + 1) ∷ []) (further (first + 1) first ((first + 1) ∷ []) (at_head (first + 1) [])), tt),
  ),
)

within_merged : (first p q : ℕ) (s t : Sheet) (a : ℕ) → Within (p ∷ q ∷ first ∷ []) (Ok (merged first p q s t a))
within_merged first p q s t a = (
  at_head p (q ∷ first ∷ []),
  (further q p (q ∷ first ∷ []) (at_head q (first ∷ [])), (further first p (q ∷ first ∷ []) (further first q (first ∷ []) (at_head first [])), tt)),
)

within_act : (first n : ℕ) (f : Filing) (r : Register) → Within (named f ++ may_make first f) (act first n f r)
within_act first n (Transfer p a b) r = within_live (p ∷ []) (r p) _ (within_alone p [] (transferred (r p) a b))
within_act first n (Charge p a h m) r = within_live (p ∷ []) (r p) _ (within_alone p [] (charged (r p) n a h m))
within_act first n (Reserve p a h) r = within_live (p ∷ []) (r p) _ (within_alone p [] (kept_for (r p) n a h))
within_act first n (Fill p a h k m) r = within_live (p ∷ []) (r p) _ (within_alone p [] (filled_by (r p) a h k m))
within_act first n (Release p h k) r = within_live (p ∷ []) (r p) _ (within_alone p [] (released_by (r p) h k))
within_act first n (Postpone p h k) r = within_live (p ∷ []) (r p) _ (within_alone p [] (postponed_by (r p) h k))
within_act first n (Subdivide p a m) r =
    let ps : List ℕ = p ∷ first ∷ (first + 1) ∷ [] in
    within_live ps (r p) _ (within_owner ps (r p) a _ (within_cond ps (ltb 0 m && ltb m (r p).area) _ _ (within_subdivided first p (r p) a m) tt))
within_act first n (Merge p q a) r =
    let ps : List ℕ = p ∷ q ∷ first ∷ [] in
    within_live ps (r p) _
    (within_live ps (r q) _
    (within_owner ps (r p) a _
    (within_owner ps (r q) a _
    (within_cond ps (eqb p q) _ _ tt (within_cond ps (alike (r p).entries (r q).entries) _ _ (within_merged first p q (r p) (r q) a) tt)))))

-- a page that is not written stays
puts_other : (ps : List ℕ) (cs : List Change) (r : Register) (q : ℕ) → Within ps (Ok cs) → member q ps ≡ false → puts cs r q ≡ r q
puts_other ps [] r q within out = refl
puts_other ps (c ∷ cs) r q within out =
    puts_other ps cs (put c.parcel c.page r) q within.1 out ∙
    cond-false (eqb q c.parcel) _ _
    (⊎_elim
    (λ e. absurd (true≢false (sym within.0 ∙ ap (λ p. member p ps) (sym (eqb-true q c.parcel e)) ∙ out)))
    (λ f. f)
    (cases_Bool (eqb q c.parcel)))

after_other : (ps : List ℕ) (x : Result (List Change) Rejection) (r : Register) (q : ℕ) → Within ps x → member q ps ≡ false → register_after x r q ≡ r q
after_other ps (Ok cs) r q within out = puts_other ps cs r q within out
after_other ps (Err k) r q within out = refl

-- where two registers agree on a page they agree on it after the same pages were written
puts_agree : (cs : List Change) (r s : Register) (q : ℕ) → r q ≡ s q → puts cs r q ≡ puts cs s q
puts_agree [] r s q e = e
puts_agree (c ∷ cs) r s q e = puts_agree cs (put c.parcel c.page r) (put c.parcel c.page s) q (ap (cond (eqb q c.parcel) c.page) e)

after_agree : (x : Result (List Change) Rejection) (r s : Register) (q : ℕ) → r q ≡ s q → register_after x r q ≡ register_after x s q
after_agree (Ok cs) r s q e = puts_agree cs r s q e
after_agree (Err k) r s q e = e

-- WHAT IT READS

act_agree : (first n : ℕ) (f : Filing) (r s : Register) → ((q : ℕ) → member q (named f ++ may_make first f) ≡ true → r q ≡ s q) → act first n f r ≡ act first n f s
act_agree first n (Transfer p a b) r s e = ap (λ x. if_live x (alone p (transferred x a b))) (e p (at_head p []))
act_agree first n (Charge p a h m) r s e = ap (λ x. if_live x (alone p (charged x n a h m))) (e p (at_head p []))
act_agree first n (Reserve p a h) r s e = ap (λ x. if_live x (alone p (kept_for x n a h))) (e p (at_head p []))
act_agree first n (Fill p a h k m) r s e = ap (λ x. if_live x (alone p (filled_by x a h k m))) (e p (at_head p []))
act_agree first n (Release p h k) r s e = ap (λ x. if_live x (alone p (released_by x h k))) (e p (at_head p []))
act_agree first n (Postpone p h k) r s e = ap (λ x. if_live x (alone p (postponed_by x h k))) (e p (at_head p []))
act_agree first n (Subdivide p a m) r s e =
    ap (λ x. if_live x (divisible x a m (Ok (subdivided first p x a m)))) (e p (at_head p (first ∷ (first + 1) ∷ [])))
act_agree first n (Merge p q a) r s e =
    let one = e p (at_head p (q ∷ first ∷ [])) in
    let two = e q (further q p (q ∷ first ∷ []) (at_head q (first ∷ []))) in
    λ i. if_live (one i) (if_live (two i) (mergeable p q (one i) (two i) a (Ok (merged first p q (one i) (two i) a))))

-- THE LAW

pub filings_are_local : FilingsAreLocal
unfolding touched_by outcome entered
filings_are_local P = record {
  no_common = λ n f m g none q t u. sharing.none (touched_by P n f) (touched_by P m g) none q t u;
  common = λ n f m g some. sharing.some (touched_by P n f) (touched_by P m g) some;
  only_there = λ n f r q out. after_other (touched_by P n f) (act (first_made P n) n f r) r q (within_act (first_made P n) n f r) out;
  outcome_there = λ n f r s e. ap verdict (act_agree (first_made P n) n f r s e);
  step_there = λ n f r s e q t.
      ap (λ x. register_after x r q) (act_agree (first_made P n) n f r s e) ∙ after_agree (act (first_made P n) n f s) r s q (e q t);
}
