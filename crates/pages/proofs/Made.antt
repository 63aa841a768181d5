-- An array that is made element by element, by a function of the place. Assumes nothing.
use Rattle.std.proofs.Common.{◌≡◌, ℕ, zero, suc, ◌+◌, ◌<◌, ◌≤◌, List, [], ◌∷◌, length, get_or, drop, refl, sym, ap, ◌∙◌, subst, ⊎_elim, arith}
use denote.Param.Members.{Mut, Called}
use Rattle.std.specs.Array.{IsFromFnResultFrom, IsFromFnResult}
use Rattle.std.proofs.lemmas.Bool.{cases_eq}
use Rattle.std.proofs.lemmas.List.{get_or-drop}
use Rattle.pages.specs.Bytes.{byte, bytes_from}

-- what each call says of its result holds of the element in that place
module _ {F B : Type 0} (g : Mut F (ℕ × Unit {0}) B) (f : F) (R : ℕ → B → Type 0) where
  module _ (each : (p q : F) (i : ℕ) (y : B) → p ≡ f → Called g p (i, tt) y q → (q ≡ f) × R i y) (ys : List B) (d : B) where
    made_from : (p : F) (i n : ℕ) → p ≡ f → IsFromFnResultFrom g p ys i n → (k : ℕ) → i ≤ k → k < i + n → R k (get_or ys k d)
    made_from p i zero e made k low high = absurd (omega arith)
    made_from p i (suc n) e (q, y, is, call, rest) k low high =
        let turn = each p q i y e call in
        ⊎_elim
        (λ (here : i ≡ k). subst (λ j. R j (get_or ys j d)) here (subst (R i) (sym (is.1 d)) turn.1))
        (λ (later : i ≡ k → ⊥). made_from q (i + 1) n turn.0 rest k (omega arith) (omega arith))
        (cases_eq i k)

    pub made_at : (n : ℕ) → IsFromFnResult g f ys n → (k : ℕ) → k < n → R k (get_or ys k d)
    made_at n made k h = made_from f 0 n refl made.each k (omega arith) (omega arith)

pub all_bytes : (bs : List ℕ) (n at : ℕ) (ys : List ℕ) → length ys ≡ n → ((k : ℕ) → k < n → get_or ys k 0 ≡ byte bs (at + k)) → ys ≡ bytes_from n bs at
all_bytes bs zero at [] long is = refl
all_bytes bs zero at (y ∷ ys) long is = absurd (omega arith)
all_bytes bs (suc n) at [] long is = absurd (omega arith)
all_bytes bs (suc n) at (y ∷ ys) long is =
    let first : y ≡ byte bs at = is 0 (omega arith) ∙ ap (byte bs) (omega arith) in
    let rest = all_bytes bs n (at + 1) ys (omega arith) (λ k h. is (suc k) (omega arith) ∙ ap (byte bs) (omega arith)) in
    λ j. first j ∷ rest j

-- the same, told of what is left behind the place
pub from_rest : (bs : List ℕ) (n at : ℕ) (ys rest : List ℕ) → rest ≡ drop at bs → length ys ≡ n → ((k : ℕ) → k < n → get_or ys k 0 ≡ get_or rest k 0) → ys ≡ bytes_from n bs at
from_rest bs n at ys rest is long same = all_bytes bs n at ys long (λ k h. same k h ∙ ap (λ l. get_or l k 0) is ∙ get_or-drop at bs k 0)
