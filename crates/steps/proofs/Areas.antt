-- No land is lost or won. Assumes nothing.
use Rattle.std.proofs.Common.{◌≡◌, ℕ, zero, suc, ◌+◌, ◌-◌, ◌*◌, ◌^◌, ◌<◌, ◌≤◌, true, false, [], sym, refl, ap, ◌∙◌, ⊎_elim, arith}
use Rattle.std.proofs.lemmas.Bool.{both_ways, cases_Bool, cases_eq, cond-false, cond-true}
use Rattle.entries.specs.Rank.{closed_sheet, made_sheet}
use Rattle.entries.specs.Sheet.{Sheet}
use Rattle.pages.specs.Register.{Register, put}
use Rattle.filings.specs.Touches.{first_made, may_make, member}
use Rattle.filings.specs.declared.filing.Filing.{Filing}
use Rattle.filings.specs.declared.filing.Filing.TheVariants.{Transfer, Charge, Reserve, Fill, Release, Postpone, Subdivide, Merge}
use Rattle.filings.proofs.Touches.{made_apart}
use Rattle.entering.specs.Entering.{capped, entered, outcome}
use Rattle.entering.specs.declared.outcome.Outcome.TheVariants.{Entered}
use Rattle.steps.specs.Areas.{LandKept, LiveBelow, live_area, span, total}
use Rattle.steps.specs.Laws.{NotMade}
use Rattle.steps.proofs.Fates.{Fate, fate}
use Rattle.steps.proofs.Fates.Fate.{unchanged, transferred, appended, filling, releasing, postponing, closed}
use Rattle.steps.proofs.Pages.{cuts, joins, put_other, put_here, whole_pages}
use Rattle.steps.proofs.Stays.{by_outcome}

-- A SUM IN WHICH ONE PLACE CHANGES

span_same : (g h : ℕ → ℕ) (m : ℕ) → ((p : ℕ) → p < m → g p ≡ h p) → span g m ≡ span h m
unfolding span
span_same g h zero same = refl
span_same g h (suc m) same =
    let here = same m (omega arith) in
    let rest = span_same g h m (λ p l. same p (omega arith)) in
    omega arith

span_changed : (g h : ℕ → ℕ) (i m : ℕ) → i < m → ((p : ℕ) → (p ≡ i → ⊥) → g p ≡ h p) → span h m + g i ≡ span g m + h i
unfolding span
span_changed g h i zero l same = absurd (omega arith)
span_changed g h i (suc m) l same =
    ⊎_elim
    (λ e. let rest = span_same g h m (λ p k. same p (omega arith)) in let a = ap g e in let b = ap h e in omega arith)
    (λ d. let here = same m d in let rest = span_changed g h i m (omega arith) same in omega arith)
    (cases_eq m i)

total_put : (r : Register) (i : ℕ) (s : Sheet) (m : ℕ) → i < m → total (put i s r) m + live_area (r i) ≡ total r m + live_area s
total_put r i s m l =
    let sum = span_changed (λ p. live_area (r p)) (λ p. live_area (put i s r p)) i m l (λ p d. ap live_area (sym (put_other r i s p d))) in
    sum ∙ ap (λ x. total r m + live_area x) (put_here r i s)

-- FILINGS THAT MAKE NO PAGE

area_kept : {n p : ℕ} {f : Filing} {s t : Sheet} → Fate n p f s t → may_make 0 f ≡ [] → live_area t ≡ live_area s
area_kept (unchanged e) none = ap live_area e
area_kept (transferred b this live e) none = ap live_area e
area_kept (appended e signed live room new) none = ap live_area new
area_kept (filling k h m this live found e) none = ap live_area e
area_kept (releasing k h this live found e) none = ap live_area e
area_kept (postponing k h this live found e) none = ap live_area e
area_kept (closed makes live e) none = absurd (makes none)

-- what is live after was live before
live_kept : {n p : ℕ} {f : Filing} {s t : Sheet} → Fate n p f s t → t.live ≡ true → s.live ≡ true
live_kept (unchanged e) y = ap (λ (u : Sheet). u.live) (sym e) ∙ y
live_kept (transferred b this live e) y = live
live_kept (appended e signed live room new) y = live
live_kept (filling k h m this live found e) y = live
live_kept (releasing k h this live found e) y = live
live_kept (postponing k h this live found e) y = live
live_kept (closed makes live e) y = live

live_area_of : (s : Sheet) → s.live ≡ true → live_area s ≡ s.area
live_area_of s y = cond-true s.live s.area 0 y

no_area : (s : Sheet) → s.live ≡ false → live_area s ≡ 0
no_area s y = cond-false s.live s.area 0 y

live_differs : (r : Register) (p q : ℕ) → (r p).live ≡ true → (r q).live ≡ false → p ≡ q → ⊥
live_differs r p q y shut e = both_ways (r q).live shut (ap (λ o. (r o).live) (sym e) ∙ y)

module _ (P n : ℕ) (r : Register) (m : ℕ) (room : P + 2 * n + 2 ≤ m) (within : LiveBelow m r) where
  abbrev first : ℕ
  first = P + 2 * n

  module _ (new : (r (P + 2 * n)).live ≡ false) (next : (r (P + 2 * n + 1)).live ≡ false) (fits : total r m < 2 ^ 64) where
    subdivision_keeps : (p a k : ℕ) → outcome P n (Subdivide p a k) r ≡ Entered → total (entered P n (Subdivide p a k) r) m ≡ total r m
    subdivision_keeps p a k e =
        let s = whole_pages.subdivided P n p a k r e in
        let one = live_differs r p first s.live new in
        let two = live_differs r p (first + 1) s.live next in
        let r1 = put p (closed_sheet (r p)) r in
        let r2 = put first (made_sheet (r p) a k) r1 in
        let a1 = total_put r p (closed_sheet (r p)) m (within p s.live) in
        let a2 = total_put r1 first (made_sheet (r p) a k) m (omega arith) in
        let a3 = total_put r2 (first + 1) (made_sheet (r p) a ((r p).area - k)) m (omega arith) in
        let b1 = live_area_of (r p) s.live in
        let b2 = ap live_area (put_other r p (closed_sheet (r p)) first (λ h. one (sym h))) ∙ no_area (r first) new in
        let far = put_other r1 first (made_sheet (r p) a k) (first + 1) (λ h. omega arith) ∙ put_other r p (closed_sheet (r p)) (first + 1) (λ h. two (sym h)) in
        let b3 = ap live_area far ∙ no_area (r (first + 1)) next in
        let c = s.less in
        ap (λ x. total x m) (cuts P n p a k r e).pages ∙ omega arith

    merger_keeps : (p q a : ℕ) → outcome P n (Merge p q a) r ≡ Entered → total (entered P n (Merge p q a) r) m ≡ total r m
    merger_keeps p q a e =
        let s = whole_pages.merged P n p q a r e in
        let one = live_differs r p first s.live new in
        let two = live_differs r q first s.other_live new in
        let r1 = put p (closed_sheet (r p)) r in
        let r2 = put q (closed_sheet (r q)) r1 in
        let whole = made_sheet (r p) a (capped ((r p).area + (r q).area)) in
        let a1 = total_put r p (closed_sheet (r p)) m (within p s.live) in
        let a2 = total_put r1 q (closed_sheet (r q)) m (within q s.other_live) in
        let a3 = total_put r2 first whole m (omega arith) in
        let b1 = live_area_of (r p) s.live in
        let b2 = ap live_area (put_other r p (closed_sheet (r p)) q (λ h. s.two (sym h))) ∙ live_area_of (r q) s.other_live in
        let b3 = ap live_area (put_other r1 q (closed_sheet (r q)) first (λ h. two (sym h)) ∙ put_other r p (closed_sheet (r p)) first (λ h. one (sym h))) ∙ no_area (r first) new in
        ap (λ x. total x m) (joins P n p q a r e).pages ∙ omega arith

kept_where_none_made : (P n : ℕ) (f : Filing) (r : Register) (m : ℕ) → may_make 0 f ≡ [] → ((p : ℕ) → NotMade P n f p) → total (entered P n f r) m ≡ total r m
kept_where_none_made P n f r m none new =
    span_same (λ p. live_area (entered P n f r p)) (λ p. live_area (r p)) m (λ p l. area_kept (fate P n f r p (new p)) none)

areas :
    (P n : ℕ) (f : Filing) (r : Register) (m : ℕ) → P + 2 * n + 2 ≤ m → LiveBelow m r →
    (r (P + 2 * n)).live ≡ false → (r (P + 2 * n + 1)).live ≡ false → total r m < 2 ^ 64 → total (entered P n f r) m ≡ total r m
areas P n (Transfer p a b) r m room within new next fits = kept_where_none_made P n (Transfer p a b) r m refl (λ q. refl)
areas P n (Charge p a h k) r m room within new next fits = kept_where_none_made P n (Charge p a h k) r m refl (λ q. refl)
areas P n (Reserve p a h) r m room within new next fits = kept_where_none_made P n (Reserve p a h) r m refl (λ q. refl)
areas P n (Fill p a h k v) r m room within new next fits = kept_where_none_made P n (Fill p a h k v) r m refl (λ q. refl)
areas P n (Release p h k) r m room within new next fits = kept_where_none_made P n (Release p h k) r m refl (λ q. refl)
areas P n (Postpone p h k) r m room within new next fits = kept_where_none_made P n (Postpone p h k) r m refl (λ q. refl)
areas P n (Subdivide p a k) r m room within new next fits =
    by_outcome (λ after. total after m ≡ total r m) P n (Subdivide p a k) r (subdivision_keeps P n r m room within new next fits p a k) refl
areas P n (Merge p q a) r m room within new next fits =
    by_outcome (λ after. total after m ≡ total r m) P n (Merge p q a) r (merger_keeps P n r m room within new next fits p q a) refl

yet_to_be_made : (P n : ℕ) (f : Filing) (r : Register) → LiveBelow (P + 2 * n) r → LiveBelow (P + 2 * suc n) (entered P n f r)
yet_to_be_made P n f r within p live =
    ⊎_elim
    (λ y. let l = made_apart.within P n f p y in omega arith)
    (λ new. let l = within p (live_kept (fate P n f r p new) live) in omega arith)
    (cases_Bool (member p (may_make (first_made P n) f)))

not_live_from : (m : ℕ) (r : Register) → LiveBelow m r → (p : ℕ) → m ≤ p → (r p).live ≡ false
not_live_from m r within p l = ⊎_elim (λ y. let k = within p y in absurd (omega arith)) (λ shut. shut) (cases_Bool (r p).live)

from_opening :
    (P n : ℕ) (f : Filing) (r : Register) (m : ℕ) → P + 2 * n + 2 ≤ m → LiveBelow (P + 2 * n) r → total r m < 2 ^ 64 → total (entered P n f r) m ≡ total r m
from_opening P n f r m room within fits =
    let shut = not_live_from (P + 2 * n) r within in
    areas P n f r m room (λ p y. let l = within p y in omega arith) (shut (P + 2 * n) (omega arith)) (shut (P + 2 * n + 1) (omega arith)) fits

pub land_kept : LandKept
land_kept = record { areas = areas; from_opening = from_opening; yet_to_be_made = yet_to_be_made }
