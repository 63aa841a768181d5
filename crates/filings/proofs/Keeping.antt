-- A filing that is put into its slot is kept there, and every other slot is as it was. Assumes nothing.
use Rattle.std.proofs.Common.{◌≡◌, ℕ, zero, suc, ◌+◌, ◌-◌, ◌*◌, ◌/◌, ◌<◌, ◌≤◌, min, cond, eqb, ltb, List, ◌++◌, length, take, drop, replicate, get_or, Bor, MatchOption, Some, None, Ok, Err, Option, sym, refl, ap, ap₂, ◌∙◌, ⊎_elim, arith, length-append, length-take}
use Rattle.std.proofs.lemmas.Option.{get_or_from_slice_get}
use Rattle.pages.proofs.Reading.{chunk_at}
use borrow.Rule.Slice.PartMut.{put_mid}
use Rattle.std.proofs.lemmas.List.{drop-drop, drop-replicate, get_or_append_left, length-replicate, take_all, take_at, take_min}
use Rattle.std.proofs.lemmas.Bool.{cases_Bool, cases_lt, cond-true, cond-false, eq-eqb, eqb-true, ne_eqb, le-ltb, lt-ltb}
use Rattle.std.proofs.lemmas.Bool.Decides.{nat_tests}
use Rattle.std.specs.Result.{result_ok}
use Rattle.std.specs.Simd.{first_chunks}
use Rattle.std.specs.Slice.{IsItemAt}
use Rattle.pages.specs.declared.refusal.Refusal.TheVariants.{Length}
use Rattle.pages.proofs.Swapped.{swapped, swapped_here, swapped_below, swapped_above, swapped_size}
use Rattle.filings.specs.Kind.{kind_numbered, length_of}
use Rattle.filings.specs.Keeping.{Admitted, put, put_kept, slots_in, slot_at, slot_of, length_kept, kept_in, kept_at, put_slot}
use Rattle.filings.specs.Laws.{Keeping}
use Rattle.filings.specs.Reading.{fields, kind_in, of_kind, reading}
use Rattle.filings.specs.declared.filing.Filing.{Filing}
use Rattle.filings.specs.declared.kind.Kind.{Kind}
use Rattle.filings.specs.declared.kind.Kind.TheVariants.{Transfer, Charge, Reserve, Fill, Release, Postpone, Subdivide, Merge}

-- ONE SLOT

pub of_its_kind : (slot : List ℕ) (kind : Option Kind) → kind ≡ kind_in slot → result_ok (reading (take (length_kept kind) slot)) ≡ kept_in slot
unfolding kept_in
of_its_kind slot kind e = ap (λ k. result_ok (reading (take (length_kept k) slot))) e

padding :
    (bs : List ℕ) (size n : ℕ) → n ≡ min size (length bs) → size - n ≡ size - length bs →
    take n bs ++ drop n (replicate size 0) ≡ take size bs ++ replicate (size - length bs) 0
padding bs size n much left =
    ap₂ ◌++◌ (ap (λ k. take k bs) much ∙ take_min size bs) (drop-replicate n size 0 ∙ ap (λ k. replicate k 0) left)

-- what `padded` makes: as much of the bytes as goes into a slot, over zeroes
pub padded_is : (bs xs : List ℕ) (n : ℕ) → n ≡ min (length bs) 24 → xs ≡ take n bs → xs ++ drop n (replicate 24 0) ≡ slot_of bs
padded_is bs xs n e is = ap (λ l. l ++ drop n (replicate 24 0)) is ∙ padding bs 24 n (omega arith) (omega arith)

-- READING

pub none_past : (ms : List ℕ) (n : ℕ) → slots_in ms ≤ n → kept_at ms n ≡ None
unfolding kept_at
none_past ms n h = cond-false (ltb n (slots_in ms)) _ _ (le-ltb _ _ h)

-- what `slot_at` finds
pub found_at :
    (ms : List ℕ) (n : ℕ) (slots : List (List ℕ)) (r : Option (Bor (List ℕ))) →
    slots ≡ first_chunks 24 (slots_in ms) ms → length slots ≡ slots_in ms → IsItemAt slots n r →
    MatchOption r (kept_at ms n ≡ None) (λ slot. kept_at ms n ≡ kept_in slot.now)
unfolding kept_at
found_at ms n slots None is size found = none_past ms n (let h = found.3 in omega arith)
found_at ms n slots (Some slot) is size found =
    let there : n < slots_in ms = let h = found.3.0 in omega arith in
    cond-true (ltb n (slots_in ms)) _ _ (lt-ltb _ _ there) ∙
    ap kept_in (sym (found.1 ∙ ap (λ l. get_or l n slot.now) is ∙ get_or_from_slice_get _ n _ slot.now (chunk_at 24 (slots_in ms) ms n there)))

-- WRITING

module _ (ms : List ℕ) (n : ℕ) (slot : List ℕ) (size : length slot ≡ 24) (there : n < slots_in ms) where
  fits_in : 24 * n + 24 ≤ length ms
  fits_in = omega arith

  is_swapped : put_slot ms n slot ≡ swapped ms slot (24 * n) 24 size fits_in
  unfolding put_slot
  is_swapped = grind (arith, nat_tests)

  -- what `write_slot` does
  pub put_there : (m : ℕ) (copied : List ℕ) → m ≡ 24 → copied ≡ slot → put_mid (24 * n) m ms copied ≡ put_slot ms n slot
  put_there m copied e is =
      ap (put_mid (24 * n) m ms) is ∙
      ap (λ rest. take (24 * n) ms ++ (slot ++ rest)) (drop-drop m (24 * n) ms ∙ ap (λ k. drop (24 * n + k) ms) e) ∙
      sym is_swapped

  same_size : length (put_slot ms n slot) ≡ length ms
  same_size = ap length is_swapped ∙ swapped_size ms slot (24 * n) 24 size fits_in

  same_room : slots_in (put_slot ms n slot) ≡ slots_in ms
  same_room = ap (λ k. k / 24) same_size

  slot_here : slot_at (put_slot ms n slot) n ≡ slot
  slot_here = ap (λ l. slot_at l n) is_swapped ∙ swapped_here ms slot (24 * n) 24 size fits_in

  slot_other : (m : ℕ) → (m ≡ n → ⊥) → slot_at (put_slot ms n slot) m ≡ slot_at ms m
  slot_other m other =
      ap (λ l. slot_at l m) is_swapped ∙
      ⊎_elim
      (λ (h : m < n). swapped_below ms slot (24 * n) 24 size fits_in (24 * m) (omega arith))
      (λ (h : n ≤ m). ap (take 24) (swapped_above ms slot (24 * n) 24 size fits_in (24 * m) (omega arith)))
      (cases_lt m n)

  room_after : (m : ℕ) → kept_at (put_slot ms n slot) m ≡ cond (ltb m (slots_in ms)) (kept_in (slot_at (put_slot ms n slot) m)) None
  unfolding kept_at
  room_after m = rw same_room

  kept_here : kept_at (put_slot ms n slot) n ≡ kept_in slot
  kept_here = grind (arith, nat_tests, room_after n, slot_here)

  kept_other : (m : ℕ) → (m ≡ n → ⊥) → kept_at (put_slot ms n slot) m ≡ kept_at ms m
  unfolding kept_at
  kept_other m other = grind (arith, nat_tests, room_after m, slot_other m other)

  kept_slot : (m : ℕ) → kept_at (put_slot ms n slot) m ≡ put n (kept_in slot) (kept_at ms) m
  kept_slot m = grind (arith, nat_tests, kept_here, kept_other m)

  pub kept_put : kept_at (put_slot ms n slot) ≡ put_kept (slots_in ms) n (kept_in slot) (kept_at ms)
  kept_put = (λ i m. kept_slot m i) ∙ sym (cond-true (ltb n (slots_in ms)) _ _ (lt-ltb _ _ there))

module _ (ms : List ℕ) (n : ℕ) (slot : List ℕ) (past : slots_in ms ≤ n) where
  pub put_past : ms ≡ put_slot ms n slot
  unfolding put_slot
  put_past = grind (arith, nat_tests)

  pub kept_past : kept_at ms ≡ put_kept (slots_in ms) n (kept_in slot) (kept_at ms)
  kept_past = grind (arith, nat_tests)

-- READING BACK

length_fits : (kind : Kind) → (1 ≤ length_of kind) × (length_of kind ≤ 24)
length_fits Transfer = grind arith
length_fits Charge = grind arith
length_fits Reserve = grind arith
length_fits Fill = grind arith
length_fits Release = grind arith
length_fits Postpone = grind arith
length_fits Subdivide = grind arith
length_fits Merge = grind arith

record Whole (bs : List ℕ) (o : Option Kind) : Type 0 where
  kind : Kind
  is : o ≡ Some kind
  size : length bs ≡ length_of kind

-- what is read has a kind, and its length
whole : (bs : List ℕ) (f : Filing) (o : Option Kind) → of_kind o bs ≡ Ok f → Whole bs o
whole bs f None e = cc
whole bs f (Some kind) e =
    ⊎_elim
    (λ t. record { kind = kind; is = refl; size = eqb-true _ _ t })
    (λ t. let r = sym (cond-false _ (fields kind bs) (Err (Length (length bs))) t) ∙ e in cc)
    (cases_Bool (eqb (length bs) (length_of kind)))

pub read_back : (bs : List ℕ) (f : Filing) → reading bs ≡ Ok f → kept_in (slot_of bs) ≡ Some f
read_back bs f e =
    let w = whole bs f (kind_in bs) e in
    let short = length_fits w.kind in
    let size = w.size in
    let rest : List ℕ = replicate (24 - length bs) 0 in
    let is : slot_of bs ≡ bs ++ rest = ap (λ l. l ++ rest) (take_all 24 bs (omega arith)) in
    let same : Some w.kind ≡ kind_in (bs ++ rest) = sym w.is ∙ ap kind_numbered (sym (get_or_append_left bs rest 0 0 (omega arith))) in
    ap kept_in is ∙
    sym (of_its_kind (bs ++ rest) (Some w.kind) same) ∙
    ap (λ l. result_ok (reading l)) (take_at bs rest (length_of w.kind) size) ∙
    ap result_ok e

-- what `admit` gives
pub is_admitted : (n : ℕ) (bs : List ℕ) (f : Filing) → n < 16384 → Ok f ≡ reading bs → Admitted n bs f
is_admitted n bs f few e = record { few = few; kept = read_back bs f (sym e) }

-- THE LAWS

slot_size : (bs : List ℕ) → length (slot_of bs) ≡ 24
slot_size bs = simp (length-append, length-take, length-replicate) (omega arith)

module _ (ms : List ℕ) (n : ℕ) (slot : List ℕ) (size : length slot ≡ 24) where
  size_kept : length (put_slot ms n slot) ≡ length ms
  size_kept = grind (arith, nat_tests, same_size ms n slot size, put_past ms n slot)

  pub kept_all : kept_at (put_slot ms n slot) ≡ put_kept (slots_in ms) n (kept_in slot) (kept_at ms)
  kept_all = grind (arith, nat_tests, kept_put ms n slot size, put_past ms n slot, kept_past ms n slot)

pub keeping : Keeping
keeping = record {
  size = size_kept;
  whole = slot_size;
  written = kept_all;
  read = read_back;
  past = none_past;
  here = λ n o kept. cond-true (eqb n n) o (kept n) (eq-eqb n n refl);
  other = λ n o kept m h. cond-false (eqb m n) o (kept m) (ne_eqb m n h);
}
