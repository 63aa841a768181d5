-- What the open filings that an extract names say of its page. Assumes nothing.
use Rattle.std.proofs.Common.{◌≡◌, ℕ, ◌<◌, ◌≤◌, Bool, true, false, cond, ◌&&◌, List, [], ◌∷◌, ◌+◌, length, get_or, Ok, Err, vec_items, sym, ap, ◌∙◌, ⊎_elim, zero-le, arith}
use Rattle.std.proofs.lemmas.Bool.{cases_lt}
use Rattle.std.specs.List.{slice_get}
use Rattle.std.proofs.lemmas.Option.{slice_get_past}
use Rattle.orders.proofs.Reached.{first_is}
use Rattle.orders.specs.Desk.{first_open, open_at, touched_by, turn}
use Rattle.entries.specs.Sheet.{Sheet, sheet}
use Rattle.pages.specs.Opening.{opened_page}
use Rattle.pages.specs.declared.refusal.Refusal.TheVariants.{NoParcel}
use Rattle.steps.proofs.Locals.{filings_are_local}
use Rattle.steps.specs.Acting.{acts}
use Rattle.work.proofs.Promises.{promised}
use Rattle.work.specs.State.{State}
use Rattle.extracts.specs.Drawing.{Content, Extracts, Worth, content, extract_of}
use Rattle.extracts.specs.Existing.{may_exist}
use Rattle.extracts.specs.Open.{all_open}
use Rattle.extracts.specs.declared.extract.Extract.{Extract}
use Rattle.extracts.proofs.Pending.{first_listed}

module _ (s : State) (p : ℕ) where
  -- how many were filed
  abbrev n : ℕ
  n = length s.desk.filed

  -- the page before the filing k in the order of filing
  abbrev before : List ℕ → ℕ → Sheet
  before bytes k = turn (acts s.parcels) (opened_page s.parcels bytes) s.desk.filed k p

  -- what touches the page is done, if the first open one is behind all that was filed
  free : first_open (acts s.parcels) s.desk p ≡ n → (i : ℕ) → open_at s.desk i ≡ true → touched_by (acts s.parcels) i (slice_get s.desk.filed i) p ≡ false
  free past i still =
      ⊎_elim
      (λ (there : i < n).
      ap (λ t. t && touched_by (acts s.parcels) i (slice_get s.desk.filed i) p) (sym still) ∙
      (first_is (acts s.parcels) (filings_are_local s.parcels) s.desk p 0 n).below i zero-le (omega arith))
      (λ (behind : n ≤ i). ap (λ o. touched_by (acts s.parcels) i o p) (slice_get_past s.desk.filed i behind))
      (cases_lt i n)

  first_in : (ns : List ℕ) → ns ≡ all_open s p → first_open (acts s.parcels) s.desk p ≡ get_or ns 0 (0 + n)
  first_in ns all = first_listed s p 0 n ∙ ap (λ l. get_or l 0 (0 + n)) (sym all)

  worth : (page : Sheet) (ns : List ℕ) → page ≡ s.desk.register p → ns ≡ all_open s p → Worth s p page ns
  worth page [] is all bytes ys from =
      let kept = promised bytes ys s from in
      let end : 0 + n ≡ n = omega arith in
      let past = first_in [] all ∙ end in
      record { as_filed = is ∙ kept.as_filed.page p ∙ ap (before bytes) past; stays = λ ns. kept.settled p (free past) ns ∙ sym is }
  worth page (k ∷ ns) is all bytes ys from = is ∙ (promised bytes ys s from).as_filed.page p ∙ ap (before bytes) (first_in (k ∷ ns) all)

  abbrev drawn : Content
  drawn = record { parcel = p; page = s.desk.register p; filings = all_open s p }

  -- who has the answer has no refusal
  not_refused : (b : Bool) (x : Content) → Ok x ≡ cond b (Ok drawn) (Err NoParcel) → x ≡ drawn
  not_refused true x is = cc
  not_refused false x is = cc

  -- with the answer it is known what the page is worth
  pub extracts : (x : Extract) → Ok (content x) ≡ extract_of s p → Extracts s p (Ok x)
  extracts x is =
      let same = not_refused (may_exist s p) (content x) is in
      record { answer = is; settled = worth (sheet x.page) (vec_items x.«open») (ap (λ (y : Content). y.page) same) (ap (λ (y : Content). y.filings) same) }
