-- Where the filings of a file end, one filing at a time. Assumes nothing.
use Rattle.std.proofs.Common.{◌≡◌, ℕ, zero, suc, ◌+◌, ◌-◌, ◌<◌, ◌≤◌, Bool, true, false, cond, eqb, leb, List, [], ◌∷◌, length, drop, Some, None, Option, Ok, Bor, sym, refl, ap, ◌∙◌, subst, arith, length-drop}
use Rattle.std.specs.Option.{unwrap_or}
use Rattle.std.proofs.lemmas.List.{drop_all, drop-drop, drop_more}
use Rattle.std.proofs.lemmas.Grind.{common_steps}
use Rattle.std.proofs.lemmas.Bool.{leb-false}
use Rattle.pages.specs.Bytes.{byte}
use Rattle.daybook.specs.File.{end_from}

-- three tests in a row, of which the last way differs
last_way :
    {A : Type 0} (a b c : Bool) (x y z v w : A) → (a ≡ false → b ≡ false → c ≡ false → v ≡ w) →
    cond a x (cond b y (cond c z v)) ≡ cond a x (cond b y (cond c z w))
last_way true b c x y z v w h = refl
last_way false true c x y z v w h = refl
last_way false false true x y z v w h = refl
last_way false false false x y z v w h = h refl refl refl

-- it does not matter how many filings may be passed over, if there are enough
pub enough :
    (n m : ℕ) (bs : List ℕ) (place : ℕ) → length bs - place ≤ n → length bs - place ≤ m → end_from n bs place ≡ end_from m bs place
enough zero zero bs place h k = refl
enough zero (suc m) bs place h k = grind (arith, common_steps)
enough (suc n) zero bs place h k = grind (arith, common_steps)
enough (suc n) (suc m) bs place h k =
    last_way (leb (length bs) place) (eqb (byte bs place) 0) (leb (length bs - place) (byte bs place)) _ _ _ _ _
    (λ a b c.
    let inside = leb-false (length bs) place a in
    enough n m bs (place + (1 + byte bs place)) (omega arith) (omega arith))

-- one step: at the byte 0, and past a filing
pub at_end : (n : ℕ) (bs : List ℕ) (place : ℕ) → place < length bs → length bs - place ≤ n → byte bs place ≡ 0 → end_from n bs place ≡ Ok place
at_end zero bs place inside h e = absurd (omega arith)
at_end (suc n) bs place inside h e = grind (arith, common_steps)

pub passed :
    (n : ℕ) (bs : List ℕ) (place : ℕ) → place < length bs → length bs - place ≤ n → (byte bs place ≡ 0 → ⊥) → byte bs place < length bs - place →
    (m : ℕ) → length bs - (place + (1 + byte bs place)) ≤ m → end_from n bs place ≡ end_from m bs (place + (1 + byte bs place))
passed zero bs place inside h some whole m k = absurd (omega arith)
passed (suc n) bs place inside h some whole m k =
    let later = enough n m bs (place + (1 + byte bs place)) (omega arith) k in
    grind (arith, common_steps)

-- IN THE CODE, WHICH GOES BY WHAT IS LEFT OF THE FILE

abbrev place_of : List ℕ → List ℕ → ℕ
place_of bs rest = length bs - length rest

-- what is left of the file decides
pub record Left (bs : List ℕ) (start : ℕ) (rest : List ℕ) : Type 0 where
  pub short : length rest ≤ length bs
  pub is : rest ≡ drop (place_of bs rest) bs
  pub from : 0 < length rest → start ≤ place_of bs rest
  pub end : end_from (length rest) bs (place_of bs rest) ≡ end_from (length bs) bs start

at_start : (bs : List ℕ) (start : ℕ) → start ≤ length bs → Left bs start (drop start bs)
at_start bs start within =
    let size : length (drop start bs) ≡ length bs - start = length-drop start bs in
    let place : length bs - length (drop start bs) ≡ start = omega (arith, size) in
    record {
      short = omega (arith, size);
      is = ap (λ k. drop k bs) (sym place);
      from = λ some. omega (arith, place);
      end = ap (end_from (length (drop start bs)) bs) place ∙ enough _ _ bs start (omega (arith, size)) (omega arith);
    }

past_end : (bs : List ℕ) (start : ℕ) → length bs < start → Left bs start []
past_end bs start past = record {
  short = omega arith;
  is = sym (drop_all (length bs - 0) bs (omega arith));
  from = λ some. absurd (omega arith);
  end = enough 0 (length bs) bs start (omega arith) (omega arith);
}

-- where the filings start, or nothing where that is past the end
pub first_left :
    (bs : List ℕ) (start : ℕ) (r : Option (Bor (List ℕ))) (none : Bor (List ℕ)) → none.now ≡ [] →
    (r ≡ None → length bs < start) → ((x : Bor (List ℕ)) → r ≡ Some x → (start ≤ length bs) × (x.now ≡ drop start bs)) →
    Left bs start (unwrap_or r none).now
first_left bs start None none e past within = subst (Left bs start) (sym e) (past_end bs start (past refl))
first_left bs start (Some x) none e past within = subst (Left bs start) (sym (within x refl).1) (at_start bs start (within x refl).0)

module _ (bs : List ℕ) (start b : ℕ) (behind : List ℕ) (left : Left bs start (b ∷ behind)) where
  abbrev place : ℕ
  place = place_of bs (b ∷ behind)

  inside : place < length bs
  inside = let short = left.short in omega arith

  first : b ∷ behind ≡ byte bs place ∷ drop (place + 1) bs
  first = left.is ∙ drop_more bs place 0 inside

  byte_is : byte bs place ≡ b
  byte_is = let e = first in cc

  behind_is : behind ≡ drop (place + 1) bs
  behind_is = let e = first in cc

  pub goes_on : (b ≡ 0 → ⊥) → b ≤ length behind → Left bs start (drop b behind)
  goes_on some within =
      let short = left.short in
      let from = left.from (omega arith) in
      let is = byte_is in
      let size : length (drop b behind) ≡ length behind - b = length-drop b behind in
      let next : length bs - length (drop b behind) ≡ place + (1 + byte bs place) = omega (arith, size, is, short) in
      record {
        short = omega (arith, size, short);
        is = ap (drop b) behind_is ∙ drop-drop b (place + 1) bs ∙ ap (λ k. drop k bs) (omega (arith, next, is));
        from = λ more. omega (arith, next, from);
        end = ap (end_from (length (drop b behind)) bs) next ∙ sym (passed (length (b ∷ behind)) bs place inside (omega arith) (λ e. some (sym is ∙ e)) (omega (arith, is)) (length (drop b behind)) (omega (arith, size, is))) ∙ left.end;
      }
