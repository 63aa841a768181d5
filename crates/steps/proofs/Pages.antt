-- The pages that filings leave where they are entered. Assumes nothing.
use Rattle.std.proofs.Common.{◌≡◌, ℕ, ◌+◌, Bool, true, false, cond, ◌&&◌, eqb, ltb, List, [], ◌∷◌, ◌++◌, length, Ok, Err, Result, sym, refl, ap, ◌∙◌, ⊎_elim, arith}
use Rattle.std.proofs.lemmas.Bool.{and_parts, both_ways, cond-false, cond-true, eq-eqb, eqb-false, eqb-true, ltb-true, ne_eqb, or_cases, or_left}
use Rattle.entries.specs.Order.{alike}
use Rattle.entries.specs.Rank.{charge, filled, has, has_reserved, made_sheet, owned_sheet, postponed, released, with_entries}
use Rattle.entries.specs.Sheet.{Sheet}
use Rattle.entries.proofs.Rank.{others_unchanged}
use Rattle.pages.specs.Register.{Register, put}
use Rattle.filings.specs.Touches.{first_made, may_make, member, named}
use Rattle.filings.specs.declared.filing.Filing.{Filing}
use Rattle.filings.specs.declared.filing.Filing.TheVariants.{Transfer, Charge, Reserve, Fill, Release, Postpone, Subdivide, Merge}
use Rattle.entries.specs.Rank.{reservation}
use Rattle.entering.specs.Entering.{Change, act, alone, entered, merged, outcome, puts, register_after, subdivided}
use Rattle.entering.specs.Outcome.{verdict}
use Rattle.entering.specs.declared.outcome.Outcome.TheVariants.{Entered}
use Rattle.entering.specs.declared.outcome.Rejection.{Rejection}
use Rattle.entering.specs.declared.outcome.Rejection.TheVariants.{NotLive, NotOwner, NoEntry, Area, Itself, Unlike, Full}
use Rattle.steps.specs.Pages.{Merged, Only, Subdivided, WholePages, Writes}
use Rattle.steps.proofs.Passed.{passed, passed_not, same_ok}

-- a page is written
pub put_here : (r : Register) (i : ℕ) (s : Sheet) → put i s r i ≡ s
put_here r i s = cond-true (eqb i i) s (r i) (eq-eqb i i refl)

pub put_other : (r : Register) (i : ℕ) (s : Sheet) (p : ℕ) → (p ≡ i → ⊥) → put i s r p ≡ r p
put_other r i s p d = cond-false (eqb p i) s (r p) (ne_eqb p i d)

-- ONE PAGE

module _ (q : ℕ) (r : Register) (s : Sheet) where
  alone_written : (x : Result Sheet Rejection) → verdict (alone q x) ≡ Entered → ((t : Sheet) → x ≡ Ok t → s ≡ t) → Only r (register_after (alone q x) r) q s
  alone_written (Ok t) e here = record { here = put_here r q t ∙ sym (here t refl); other = put_other r q t }
  alone_written (Err k) e here = absurd (let z : ◌≡◌ {A = ℕ} 0 1 = cc in omega arith)

  -- x is what becomes of page q, if it is live
  live_written :
      (l : Bool) (x : Result Sheet Rejection) → verdict (cond l (alone q x) (Err NotLive)) ≡ Entered → ((t : Sheet) → x ≡ Ok t → s ≡ t) →
      Only r (register_after (cond l (alone q x) (Err NotLive)) r) q s
  live_written true x e here = alone_written x e here
  live_written false x e here = absurd (let z : ◌≡◌ {A = ℕ} 0 1 = cc in omega arith)

  -- with one test
  tested : (b : Bool) (k : Rejection) (t : Sheet) → cond b (Ok s) (Err k) ≡ Ok t → s ≡ t
  tested b k t y = same_ok Rejection s t (passed b (Ok s) k t y).1

  -- with two
  tested_twice : (b c : Bool) (j k : Rejection) (t : Sheet) → cond b (cond c (Ok s) (Err k)) (Err j) ≡ Ok t → s ≡ t
  tested_twice b c j k t y = tested c k t (passed b (cond c (Ok s) (Err k)) j t y).1

module _ (P n p : ℕ) where
  was_transferred : (a b : ℕ) (r : Register) → Writes P n (Transfer p a b) r p (owned_sheet (r p) b)
  unfolding outcome entered
  was_transferred a b r e = live_written p r _ (r p).live _ e (tested p r _ (eqb (r p).owner a) NotOwner)

  was_charged : (a h m : ℕ) (r : Register) → Writes P n (Charge p a h m) r p (with_entries (r p) ((r p).entries ++ charge n h m ∷ []))
  unfolding outcome entered
  was_charged a h m r e = live_written p r _ (r p).live _ e (tested_twice p r _ (eqb (r p).owner a) (ltb (length (r p).entries) 32) NotOwner Full)

  was_reserved : (a h : ℕ) (r : Register) → Writes P n (Reserve p a h) r p (with_entries (r p) ((r p).entries ++ reservation n h ∷ []))
  unfolding outcome entered
  was_reserved a h r e = live_written p r _ (r p).live _ e (tested_twice p r _ (eqb (r p).owner a) (ltb (length (r p).entries) 32) NotOwner Full)

  was_filled : (a h k m : ℕ) (r : Register) → Writes P n (Fill p a h k m) r p (with_entries (r p) (filled k h m (r p).entries))
  unfolding outcome entered
  was_filled a h k m r e = live_written p r _ (r p).live _ e (tested_twice p r _ (eqb (r p).owner a) (has_reserved k h (r p).entries) NotOwner NoEntry)

  was_released : (h k : ℕ) (r : Register) → Writes P n (Release p h k) r p (with_entries (r p) (released k h (r p).entries))
  unfolding outcome entered
  was_released h k r e = live_written p r _ (r p).live _ e (tested p r _ (has k h (r p).entries) NoEntry)

  was_postponed : (h k : ℕ) (r : Register) → Writes P n (Postpone p h k) r p (with_entries (r p) (postponed k h (r p).entries))
  unfolding outcome entered
  was_postponed h k r e = live_written p r _ (r p).live _ e (tested p r _ (has k h (r p).entries) NoEntry)

-- SUBDIVISION AND MERGER

-- what is entered writes pages
some_pages : (x : Result (List Change) Rejection) → verdict x ≡ Entered → (cs : List Change) × (x ≡ Ok cs)
some_pages (Ok cs) e = (cs, refl)
some_pages (Err k) e = absurd (let z : ◌≡◌ {A = ℕ} 0 1 = cc in omega arith)

-- the tests that a subdivision has passed, and the pages that it writes
pub record Cut (P n p a m : ℕ) (r : Register) : Type 0 where
  pub live : (r p).live ≡ true
  pub owns : eqb (r p).owner a ≡ true
  pub cut : (ltb 0 m && ltb m (r p).area) ≡ true
  pub pages : entered P n (Subdivide p a m) r ≡ puts (subdivided (first_made P n) p (r p) a m) r

module _ (P n p a m : ℕ) (r : Register) (e : outcome P n (Subdivide p a m) r ≡ Entered) where
  pub cuts : Cut P n p a m r
  unfolding outcome entered
  cuts =
      let written = some_pages (act (first_made P n) n (Subdivide p a m) r) e in
      let alive = passed (r p).live _ NotLive written.0 written.1 in
      let owns = passed (eqb (r p).owner a) _ NotOwner written.0 alive.1 in
      let cut = passed (ltb 0 m && ltb m (r p).area) (Ok (subdivided (first_made P n) p (r p) a m)) Area written.0 owns.1 in
      record { live = alive.0; owns = owns.0; cut = cut.0; pages = ap (λ x. register_after x r) (written.1 ∙ sym cut.1) }

  was_subdivided : Subdivided P n p a m r
  was_subdivided =
      let first = first_made P n in
      let parts = and_parts (ltb 0 m) (ltb m (r p).area) cuts.cut in
      let after : (q : ℕ) → entered P n (Subdivide p a m) r q ≡ puts (subdivided first p (r p) a m) r q = λ q. ap (λ x. x q) cuts.pages in
      let one = eq-eqb first first refl in
      let two = eq-eqb (first + 1) (first + 1) refl in
      let apart = ne_eqb first (first + 1) (λ h. omega arith) in
      record {
        live = cuts.live;
        owner = eqb-true (r p).owner a cuts.owns;
        something = ltb-true 0 m parts.0;
        less = ltb-true m (r p).area parts.1;
        part = after first ∙ cc;
        rest = after (first + 1) ∙ cc;
        closed = λ x y. let h = ne_eqb p first x in let k = ne_eqb p (first + 1) y in let l = eq-eqb p p refl in after p ∙ cc;
        elsewhere = λ q w x y. let h = ne_eqb q first x in let k = ne_eqb q (first + 1) y in let l = ne_eqb q p w in after q ∙ cc;
      }

-- the tests that a merger has passed, and the pages that it writes
pub record Join (P n p q a : ℕ) (r : Register) : Type 0 where
  pub live : (r p).live ≡ true
  pub other_live : (r q).live ≡ true
  pub owns : eqb (r p).owner a ≡ true
  pub other_owns : eqb (r q).owner a ≡ true
  pub apart : eqb p q ≡ false
  pub same : alike (r p).entries (r q).entries ≡ true
  pub pages : entered P n (Merge p q a) r ≡ puts (merged (first_made P n) p q (r p) (r q) a) r

module _ (P n p q a : ℕ) (r : Register) (e : outcome P n (Merge p q a) r ≡ Entered) where
  pub joins : Join P n p q a r
  unfolding outcome entered
  joins =
      let written = some_pages (act (first_made P n) n (Merge p q a) r) e in
      let alive = passed (r p).live _ NotLive written.0 written.1 in
      let alive' = passed (r q).live _ NotLive written.0 alive.1 in
      let owns = passed (eqb (r p).owner a) _ NotOwner written.0 alive'.1 in
      let owns' = passed (eqb (r q).owner a) _ NotOwner written.0 owns.1 in
      let others = passed_not (eqb p q) _ Itself written.0 owns'.1 in
      let alikes = passed (alike (r p).entries (r q).entries) (Ok (merged (first_made P n) p q (r p) (r q) a)) Unlike written.0 others.1 in
      record {
        live = alive.0;
        other_live = alive'.0;
        owns = owns.0;
        other_owns = owns'.0;
        apart = others.0;
        same = alikes.0;
        pages = ap (λ x. register_after x r) (written.1 ∙ sym alikes.1);
      }

  was_merged : Merged P n p q a r
  was_merged =
      let first = first_made P n in
      let after : (o : ℕ) → entered P n (Merge p q a) r o ≡ puts (merged first p q (r p) (r q) a) r o = λ o. ap (λ x. x o) joins.pages in
      let one = eq-eqb first first refl in
      let apart = joins.apart in
      record {
        live = joins.live;
        other_live = joins.other_live;
        owner = eqb-true (r p).owner a joins.owns;
        other_owner = eqb-true (r q).owner a joins.other_owns;
        two = eqb-false p q apart;
        alike = (others_unchanged.decides_all (r p).entries (r q).entries).0 joins.same;
        whole = after first ∙ cc;
        closed = λ x. let h = ne_eqb p first x in let l = eq-eqb p p refl in after p ∙ cc;
        other_closed = λ x. let h = ne_eqb q first x in let l = eq-eqb q q refl in after q ∙ cc;
        elsewhere = λ o w v x. let h = ne_eqb o first x in let k = ne_eqb o q v in let l = ne_eqb o p w in after o ∙ cc;
      }

pub whole_pages : WholePages
whole_pages = record {
  transferred = was_transferred;
  charged = was_charged;
  reserved = was_reserved;
  filled = was_filled;
  released = was_released;
  postponed = was_postponed;
  subdivided = was_subdivided;
  merged = was_merged;
}

-- A PAGE THAT IS MADE

-- page p is the made page o, which takes over the entries of page q
made_entries : (r after : Register) (p q o a m : ℕ) → eqb o p ≡ true → after o ≡ made_sheet (r q) a m → (after p).entries ≡ (r q).entries
made_entries r after p q o a m y made = ap (λ x. (after x).entries) (sym (eqb-true o p y)) ∙ ap (λ (s : Sheet). s.entries) made

-- it has the entries of a page that the filing names
pub made_of :
    (P n : ℕ) (f : Filing) (p : ℕ) (r : Register) → outcome P n f r ≡ Entered → member p (may_make (first_made P n) f) ≡ true →
    (q : ℕ) × (member q (named f) ≡ true) × ((entered P n f r p).entries ≡ (r q).entries)
made_of P n (Transfer q a b) p r e y = absurd (both_ways false refl y)
made_of P n (Charge q a h m) p r e y = absurd (both_ways false refl y)
made_of P n (Reserve q a h) p r e y = absurd (both_ways false refl y)
made_of P n (Fill q a h k m) p r e y = absurd (both_ways false refl y)
made_of P n (Release q h k) p r e y = absurd (both_ways false refl y)
made_of P n (Postpone q h k) p r e y = absurd (both_ways false refl y)
made_of P n (Subdivide q a m) p r e y =
    let first = first_made P n in
    let s = was_subdivided P n q a m r e in
    let made = λ (o b : ℕ). made_entries r (entered P n (Subdivide q a m) r) p q o a b in (
      q,
      or_left (eqb q q) false (eq-eqb q q refl),
      ⊎_elim
          (λ t. made first m t s.part)
          (λ t. ⊎_elim (λ u. made (first + 1) _ u s.rest) (λ u. absurd (both_ways false refl u)) (or_cases (eqb (first + 1) p) false t))
          (or_cases (eqb first p) _ y),
    )
made_of P n (Merge q o a) p r e y =
    let first = first_made P n in (
      q,
      or_left (eqb q q) _ (eq-eqb q q refl),
      ⊎_elim
          (λ t. made_entries r (entered P n (Merge q o a) r) p q first a _ t (was_merged P n q o a r e).whole)
          (λ t. absurd (both_ways false refl t))
          (or_cases (eqb first p) false y),
    )
