-- What becomes of a page that the filing does not make: one of seven things, from which the laws follow by cases. Assumes nothing.
use Rattle.std.proofs.Common.{◌≡◌, ℕ, ◌+◌, ◌<◌, Bool, true, false, cond, ◌&&◌, eqb, ltb, List, [], ◌∷◌, ◌++◌, length, Ok, Err, Result, sym, refl, ap, ◌∙◌, subst, inl, inr, ⊎_elim, arith}
use Rattle.std.proofs.lemmas.Bool.{cases_Bool, eqb-true, ltb-true, or_parts}
use Rattle.entries.specs.Sheet.{Sheet}
use Rattle.entries.specs.Order.{alike}
use Rattle.entries.specs.Rank.{charge, closed_sheet, filled, has, has_reserved, owned_sheet, postponed, released, with_entries}
use Rattle.entries.specs.declared.entry.Entry.{Entry}
use Rattle.entries.proofs.Numbers.{eqb_turned}
use Rattle.pages.specs.Register.{Register}
use Rattle.filings.specs.Touches.{first_made, may_make}
use Rattle.filings.specs.declared.filing.Filing.{Filing}
use Rattle.filings.specs.declared.filing.Filing.TheVariants.{Transfer, Charge, Reserve, Fill, Release, Postpone, Subdivide, Merge}
use Rattle.entering.specs.Acts.{if_live, if_owner, last}
use Rattle.entries.specs.Rank.{reservation}
use Rattle.entering.specs.Entering.{Change, alone, entered, puts, register_after, subdivided, merged}
use Rattle.entering.specs.declared.outcome.Rejection.{Rejection}
use Rattle.entering.specs.declared.outcome.Rejection.TheVariants.{NotLive, NotOwner, NoEntry, Area, Itself, Unlike, Full}
use Rattle.steps.specs.Entries.{SignedFor}
use Rattle.steps.specs.Laws.{NotMade}
use Rattle.steps.proofs.Passed.{passed, same_ok}

-- the page of parcel p was s, and after filing n, which is f, it is t
pub data Fate (n p : ℕ) (f : Filing) (s t : Sheet) : Type 0 where
  unchanged : t ≡ s → Fate n p f s t
  transferred : (b : ℕ) → f ≡ Transfer p s.owner b → s.live ≡ true → t ≡ owned_sheet s b → Fate n p f s t
  appended : (e : Entry) → SignedFor n p s.owner f e → s.live ≡ true → length s.entries < 32 → t ≡ with_entries s (s.entries ++ e ∷ []) → Fate n p f s t
  filling : (k h m : ℕ) → f ≡ Fill p s.owner h k m → s.live ≡ true → has_reserved k h s.entries ≡ true →
      t ≡ with_entries s (filled k h m s.entries) → Fate n p f s t
  releasing : (k h : ℕ) → f ≡ Release p h k → s.live ≡ true → has k h s.entries ≡ true → t ≡ with_entries s (released k h s.entries) → Fate n p f s t
  postponing : (k h : ℕ) → f ≡ Postpone p h k → s.live ≡ true → has k h s.entries ≡ true → t ≡ with_entries s (postponed k h s.entries) → Fate n p f s t
  closed : (may_make 0 f ≡ [] → ⊥) → s.live ≡ true → t ≡ closed_sheet s → Fate n p f s t

-- A FILING ON ONE PAGE

module _ (n : ℕ) (f : Filing) (r : Register) (q : ℕ) where
  -- the page q was live and is now what x says, or all is as it was
  alone_fate :
      (x : Result Sheet Rejection) → (r q).live ≡ true → ((t : Sheet) → x ≡ Ok t → Fate n q f (r q) t) → (p : ℕ) → Fate n p f (r p) (register_after (alone q x) r p)
  alone_fate (Ok t) l here p =
      ⊎_elim
      (λ y. let same = eqb-true p q y in let at : register_after (alone q (Ok t)) r p ≡ t = cc in
      subst (λ u. Fate n p f (r p) u) (sym at) (subst (λ z. Fate n z f (r z) t) (sym same) (here t refl)))
      (λ no. unchanged (cc))
      (cases_Bool (eqb p q))
  alone_fate (Err k) l here p = unchanged refl

  one_page :
      (x : Result Sheet Rejection) → ((t : Sheet) → (r q).live ≡ true → x ≡ Ok t → Fate n q f (r q) t) → (p : ℕ) →
      Fate n p f (r p) (register_after (if_live (r q) (alone q x)) r p)
  one_page x here p =
      ⊎_elim
      (λ l. subst (λ b. Fate n p f (r p) (register_after (cond b (alone q x) (Err NotLive)) r p)) (sym l) (alone_fate x l (λ t. here t l) p))
      (λ l. subst (λ b. Fate n p f (r p) (register_after (cond b (alone q x) (Err NotLive)) r p)) (sym l) (unchanged refl))
      (cases_Bool (r q).live)

  -- a new entry on it
  last_fate :
      (a : ℕ) (e : Entry) → ((r q).owner ≡ a → SignedFor n q (r q).owner f e) → (t : Sheet) → (r q).live ≡ true →
      if_owner (r q) a (last (r q) e) ≡ Ok t → Fate n q f (r q) t
  last_fate a e signed t l y =
      let owns = passed (eqb (r q).owner a) (last (r q) e) NotOwner t y in
      let room = passed (ltb (length (r q).entries) 32) (Ok (with_entries (r q) ((r q).entries ++ e ∷ []))) Full t owns.1 in
      appended e (signed (eqb-true (r q).owner a owns.0)) l (ltb-true (length (r q).entries) 32 room.0) (sym (same_ok Rejection _ t room.1))

-- FILINGS THAT CLOSE PAGES

other_than : (p q : ℕ) → eqb q p ≡ false → eqb p q ≡ false
other_than p q h = eqb_turned p q ∙ h

module _ (n p : ℕ) (f : Filing) (r : Register) where
  -- whatever test fails, all is as it was
  tested :
      (b : Bool) (x : Result (List Change) Rejection) (k : Rejection) → (b ≡ true → Fate n p f (r p) (register_after x r p)) →
      Fate n p f (r p) (register_after (cond b x (Err k)) r p)
  tested true x k here = here refl
  tested false x k here = unchanged refl

  tested_not :
      (b : Bool) (x : Result (List Change) Rejection) (k : Rejection) → (b ≡ false → Fate n p f (r p) (register_after x r p)) →
      Fate n p f (r p) (register_after (cond b (Err k) x) r p)
  tested_not true x k here = unchanged refl
  tested_not false x k here = here refl

subdivided_elsewhere :
    (first q p a m : ℕ) (r : Register) → eqb p first ≡ false → eqb p (first + 1) ≡ false →
    puts (subdivided first q (r q) a m) r p ≡ cond (eqb p q) (closed_sheet (r q)) (r p)
subdivided_elsewhere first q p a m r one two = cc

merged_elsewhere :
    (first q o p a : ℕ) (r : Register) → eqb p first ≡ false →
    puts (merged first q o (r q) (r o) a) r p ≡ cond (eqb p o) (closed_sheet (r o)) (cond (eqb p q) (closed_sheet (r q)) (r p))
merged_elsewhere first q o p a r one = cc

makes_some : {x : ℕ} {xs : List ℕ} → x ∷ xs ≡ [] → ⊥
makes_some e = let z : ◌≡◌ {A = ℕ} 0 1 = cc in omega arith

closed_there :
    (n : ℕ) (f : Filing) (r : Register) (q p : ℕ) (u t : Sheet) → (may_make 0 f ≡ [] → ⊥) → (r q).live ≡ true →
    u ≡ cond (eqb p q) (closed_sheet (r q)) t → Fate n p f (r p) t → Fate n p f (r p) u
closed_there n f r q p u t makes l e rest =
    ⊎_elim
    (λ y. let same = eqb-true p q y in closed makes (ap (λ z. (r z).live) same ∙ l) (cc))
    (λ no. let kept : u ≡ t = cc in subst (λ v. Fate n p f (r p) v) (sym kept) rest)
    (cases_Bool (eqb p q))

module _ (P n : ℕ) where
  pub fate : (f : Filing) (r : Register) (p : ℕ) → NotMade P n f p → Fate n p f (r p) (entered P n f r p)
  unfolding entered
  fate (Transfer q a b) r p new =
      one_page n (Transfer q a b) r q _
      (λ t l y. let owns = passed (eqb (r q).owner a) (Ok (owned_sheet (r q) b)) NotOwner t y in
      transferred b (let same = eqb-true (r q).owner a owns.0 in cc) l (sym (same_ok Rejection _ t owns.1)))
      p
  fate (Charge q a h m) r p new = one_page n (Charge q a h m) r q _ (last_fate n (Charge q a h m) r q a (charge n h m) (λ same. inl (m, cc, refl))) p
  fate (Reserve q a h) r p new = one_page n (Reserve q a h) r q _ (last_fate n (Reserve q a h) r q a (reservation n h) (λ same. inr (cc, refl))) p
  fate (Fill q a h k m) r p new =
      one_page n (Fill q a h k m) r q _
      (λ t l y. let owns = passed (eqb (r q).owner a) _ NotOwner t y in
      let found = passed (has_reserved k h (r q).entries) (Ok (with_entries (r q) (filled k h m (r q).entries))) NoEntry t owns.1 in
      filling k h m (let same = eqb-true (r q).owner a owns.0 in cc) l found.0 (sym (same_ok Rejection _ t found.1)))
      p
  fate (Release q h k) r p new =
      one_page n (Release q h k) r q _
      (λ t l y. let found = passed (has k h (r q).entries) (Ok (with_entries (r q) (released k h (r q).entries))) NoEntry t y in
      releasing k h refl l found.0 (sym (same_ok Rejection _ t found.1)))
      p
  fate (Postpone q h k) r p new =
      one_page n (Postpone q h k) r q _
      (λ t l y. let found = passed (has k h (r q).entries) (Ok (with_entries (r q) (postponed k h (r q).entries))) NoEntry t y in
      postponing k h refl l found.0 (sym (same_ok Rejection _ t found.1)))
      p
  fate (Subdivide q a m) r p new =
      let f = Subdivide q a m in
      let first = first_made P n in
      let parts = or_parts (eqb first p) _ new in
      let two = or_parts (eqb (first + 1) p) false parts.1 in
      tested n p f r (r q).live _ NotLive (λ l. tested n p f r (eqb (r q).owner a) _ NotOwner (λ o. tested n p f r (ltb 0 m && ltb m (r q).area) _ Area (λ c.
      closed_there n f r q p _ (r p) makes_some l (subdivided_elsewhere first q p a m r (other_than p first parts.0) (other_than p (first + 1) two.0)) (unchanged refl))))
  fate (Merge q o a) r p new =
      let f = Merge q o a in
      let first = first_made P n in
      let parts = or_parts (eqb first p) false new in
      tested n p f r (r q).live _ NotLive (λ l. tested n p f r (r o).live _ NotLive (λ l'.
      tested n p f r (eqb (r q).owner a) _ NotOwner (λ x. tested n p f r (eqb (r o).owner a) _ NotOwner (λ x'.
      tested_not n p f r (eqb q o) _ Itself (λ i. tested n p f r (alike (r q).entries (r o).entries) _ Unlike (λ s.
      closed_there n f r o p _ _ makes_some l' (merged_elsewhere first q o p a r (other_than p first parts.0)) (closed_there n f r q p _ (r p) makes_some l refl (unchanged refl))))))))

-- THE ENTRIES ALONE

-- the entries of parcel p, whose owner is a, were es, and after filing n, which is f, they are fs
pub data Course (n p a : ℕ) (f : Filing) (es fs : List Entry) : Type 0 where
  same : fs ≡ es → Course n p a f es fs
  more : (e : Entry) → SignedFor n p a f e → length es < 32 → fs ≡ es ++ e ∷ [] → Course n p a f es fs
  fill : (k h m : ℕ) → f ≡ Fill p a h k m → has_reserved k h es ≡ true → fs ≡ filled k h m es → Course n p a f es fs
  release : (k h : ℕ) → f ≡ Release p h k → has k h es ≡ true → fs ≡ released k h es → Course n p a f es fs
  postpone : (k h : ℕ) → f ≡ Postpone p h k → has k h es ≡ true → fs ≡ postponed k h es → Course n p a f es fs

abbrev entries_of : Sheet → List Entry
entries_of s = s.entries

pub course : {n p : ℕ} {f : Filing} {s t : Sheet} → Fate n p f s t → Course n p s.owner f s.entries t.entries
course (unchanged e) = same (ap entries_of e)
course (transferred b is live e) = same (ap entries_of e)
course (appended e signed live room new) = more e signed room (ap entries_of new)
course (filling k h m is live found e) = fill k h m is found (ap entries_of e)
course (releasing k h is live found e) = release k h is found (ap entries_of e)
course (postponing k h is live found e) = postpone k h is found (ap entries_of e)
course (closed makes live e) = same (ap entries_of e)
