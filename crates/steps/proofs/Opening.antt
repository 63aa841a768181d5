-- An opening is sound, and its land stays below 2^53. Assumes nothing.
use Rattle.std.proofs.Common.{◌≡◌, ℕ, zero, suc, ◌+◌, ◌*◌, ◌^◌, ◌<◌, ◌≤◌, true, false, cond, ◌||◌, eqb, ltb, leb, List, [], length, Ok, sym, refl, ap, ◌∙◌, subst, ⊎_elim, arith}
use Rattle.std.proofs.lemmas.Bool.{and_parts, both_ways, cases_eq, cases_lt, cond-false, cond-true, le-ltb, leb-true, lt-ltb, ltb-false, or_parts}
use Rattle.entries.specs.Rank.{vacant_sheet}
use Rattle.entries.specs.Sheet.{Sheet}
use Rattle.pages.specs.Opening.{area_in, areas_checked, checked, fits, opened_page, owner_in}
use Rattle.pages.specs.Register.{no_page}
use Rattle.steps.specs.Areas.{live_area, span, total}
use Rattle.steps.specs.Opening.{OpensWell}
use Rattle.steps.proofs.Passed.{passed, passed_not}
use Rattle.steps.proofs.Sound.{sound_bare}

module _ (P : ℕ) (bytes : List ℕ) where
  pub no_entries : (p : ℕ) → (opened_page P bytes p).entries ≡ []
  no_entries p =
      elim (ltb p P) as (λ b. (cond b (vacant_sheet true (owner_in bytes p) (area_in bytes p)) no_page).entries ≡ []) [ true ↦ refl | false ↦ refl ]

  -- a page past the parcels is none
  past : (p : ℕ) → P ≤ p → opened_page P bytes p ≡ no_page
  past p l = cond-false (ltb p P) _ _ (le-ltb p P l)

  live : (p : ℕ) → (opened_page P bytes p).live ≡ true → p < P
  live p y =
      ⊎_elim (λ l. l) (λ l. absurd (both_ways false refl (sym (ap (λ (s : Sheet). s.live) (past p l)) ∙ y))) (cases_lt p P)

  -- each area that was looked at fits
  areas_fit : (q n : ℕ) → areas_checked bytes q n ≡ Ok tt → (p : ℕ) → q ≤ p → p < q + n → area_in bytes p ≤ 1000000000
  areas_fit q zero good p from to = absurd (omega arith)
  areas_fit q (suc n) good p from to =
      let parts = passed (fits (area_in bytes q)) (areas_checked bytes (suc q) n) _ tt good in
      ⊎_elim
      (λ e. let fit = leb-true _ _ (and_parts (leb 1 (area_in bytes q)) (leb (area_in bytes q) 1000000000) parts.0).1 in subst (λ o. area_in bytes o ≤ 1000000000) e fit)
      (λ d. areas_fit (suc q) n parts.1 p (omega arith) (omega arith))
      (cases_eq q p)

-- a sum of no more than P numbers, each of which fits
span_within :
    (g : ℕ → ℕ) (P : ℕ) → ((p : ℕ) → p < P → g p ≤ 1000000000) → ((p : ℕ) → P ≤ p → g p ≡ 0) → (m : ℕ) →
    (span g m ≤ 1000000000 * m) × (span g m ≤ 1000000000 * P)
unfolding span
span_within g P some none zero = (omega arith, omega arith)
span_within g P some none (suc m) =
    let rest = span_within g P some none m in
    ⊎_elim
    (λ l. let here = some m l in (omega arith, omega arith))
    (λ l. let here = none m l in (omega arith, omega arith))
    (cases_lt m P)

land : (P : ℕ) (bytes : List ℕ) → checked P bytes ≡ Ok tt → (m : ℕ) → total (opened_page P bytes) m < 2 ^ 53
land P bytes good m =
    let count = passed_not (eqb P 0 || ltb 1024 P) _ _ tt good in
    let whole = passed (eqb (length bytes) (8 * P)) _ _ tt count.1 in
    let few = ltb-false 1024 P (or_parts (eqb P 0) (ltb 1024 P) count.0).1 in
    let each = areas_fit P bytes 0 P whole.1 in
    let sum =
    span_within (λ p. live_area (opened_page P bytes p)) P
    (λ p l.
    let here = ap live_area (cond-true (ltb p P) (vacant_sheet true (owner_in bytes p) (area_in bytes p)) no_page (lt-ltb p P l)) in
    let fit = each p (omega arith) (omega arith) in
    omega arith)
    (λ p l. ap live_area (past P bytes p l))
    m in
    omega (arith, sum.1)

pub opens_well : OpensWell
opens_well = record { sound = λ P bytes. sound_bare (opened_page P bytes) (no_entries P bytes); live = live; land = land }
