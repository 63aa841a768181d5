-- Lawful orders are just those that come about by exchanges of neighbours that share no page. Assumes nothing.
use Rattle.std.proofs.Common.{◌≡◌, suc, ◌≢◌, List, [], ◌∷◌, length, sym, refl, ap, ◌∙◌, ⊎_elim, arith}
use Rattle.std.proofs.lemmas.Bool.{cases_Bool, true≢false}
use Rattle.orders.specs.Laws.{LawfulIsExchanged, ExchangedIsLawful, LawfulOrdersAgree}
use Rattle.orders.specs.Orders.{Numbered, Holds, here, there, Before, first, later, Single, one, Apart, Exchanged, same, swap, skip, more, Lawful}
use Rattle.orders.specs.Steps.{Acts, Local}
use Rattle.orders.proofs.Exchanges.{exchange, exchanged_sym, holds_exchanged, single_exchanged}

module _ {Act : Type 0} where
  -- ys is ws with x put in somewhere
  pub data Inserted (x : Numbered Act) : List (Numbered Act) → List (Numbered Act) → Type 0 where
    at : {ws : List (Numbered Act)} → Inserted x ws (x ∷ ws)
    past : {z : Numbered Act} {ws ys : List (Numbered Act)} → Inserted x ws ys → Inserted x (z ∷ ws) (z ∷ ys)

  pub taken_out : {x : Numbered Act} {ys : List (Numbered Act)} → Holds x ys → (ws : List (Numbered Act)) × Inserted x ws ys
  taken_out here = (_, at)
  taken_out (there {y} h) = let rest = taken_out h in (y ∷ rest.0, past rest.1)

  pub inserted_length : {x : Numbered Act} {ws ys : List (Numbered Act)} → Inserted x ws ys → length ys ≡ suc (length ws)
  inserted_length at = refl
  inserted_length (past i) = ap suc (inserted_length i)

  -- another than x is in ys just where it is in ws
  pub other_holds : {x z : Numbered Act} {ws ys : List (Numbered Act)} → z.number ≢ x.number → Inserted x ws ys → Holds z ys → Holds z ws
  other_holds differ at here = absurd (differ refl)
  other_holds differ at (there h) = h
  other_holds differ (past i) here = here
  other_holds differ (past i) (there h) = there (other_holds differ i h)

  other_before :
      {x u v : Numbered Act} {ws ys : List (Numbered Act)} → u.number ≢ x.number → v.number ≢ x.number → Inserted x ws ys → Before u v ys → Before u v ws
  other_before du dv at (first h) = absurd (du refl)
  other_before du dv at (later b) = b
  other_before du dv (past i) (first h) = first (other_holds dv i h)
  other_before du dv (past i) (later b) = later (other_before du dv i b)

  pub before_first : {u v : Numbered Act} {xs : List (Numbered Act)} → Before u v xs → Holds u xs
  before_first (first h) = here
  before_first (later b) = there (before_first b)

  pub before_second : {u v : Numbered Act} {xs : List (Numbered Act)} → Before u v xs → Holds v xs
  before_second (first h) = there h
  before_second (later b) = there (before_second b)

  before_rest : {x z u : Numbered Act} {ys : List (Numbered Act)} → z.number ≢ x.number → Before x u (z ∷ ys) → Before x u ys
  before_rest differ (first h) = absurd (differ refl)
  before_rest differ (later b) = b

module _ {Page Act Result : Type 0} (w : Acts Page Act Result) (local : Local w) where
  -- FROM EXCHANGED TO LAWFUL

  same_length : {xs ys : List (Numbered Act)} → Exchanged w xs ys → length ys ≡ length xs
  same_length same = refl
  same_length (swap apart) = refl
  same_length (skip e) = ap suc (same_length e)
  same_length (more e f) = same_length f ∙ same_length e

  order_kept : {xs ys : List (Numbered Act)} → Exchanged w xs ys → (x y : Numbered Act) → (Apart w x y → ⊥) → Before x y xs → Before x y ys
  order_kept same x y share b = b
  order_kept (swap apart) x y share (first here) = absurd (share apart)
  order_kept (swap apart) x y share (first (there h)) = later (first h)
  order_kept (swap apart) x y share (later (first h)) = first (there h)
  order_kept (swap apart) x y share (later (later b)) = later (later b)
  order_kept (skip e) x y share (first h) = first (holds_exchanged w local e h)
  order_kept (skip e) x y share (later b) = later (order_kept e x y share b)
  order_kept (more e f) x y share b = order_kept f x y share (order_kept e x y share b)

  pub exchanged_is_lawful : ExchangedIsLawful w
  exchanged_is_lawful xs ys single e = record {
    single = single;
    as_many = same_length e;
    all = λ x h. holds_exchanged w local e h;
    in_order = λ x y b share. order_kept e x y share b;
  }

  -- FROM LAWFUL TO EXCHANGED

  -- x moves back to where it was put in, past acts that share no page with it
  moved_back :
      {x : Numbered Act} {ws ys : List (Numbered Act)} → Inserted x ws ys → Single ws → ((z : Numbered Act) → Holds z ws → z.number ≢ x.number) →
      ((z : Numbered Act) → Holds z ws → (Apart w x z → ⊥) → Before x z ys) → Exchanged w (x ∷ ws) ys
  moved_back at single differ in_order = same
  moved_back {x} (past {z} {ws} {ys} i) (one once single) differ in_order =
      more (swap free) (skip (moved_back i single (λ u h. differ u (there h)) deeper))
    where
      free : Apart w x z
      free = record {
        none = ⊎_elim
            (λ t.
            let after = before_rest (differ z here) (in_order z here (λ a. true≢false (sym t ∙ a.none))) in
            absurd (once z (other_holds (differ z here) i (before_second after)) refl))
            (λ f. f)
            (cases_Bool (w.shares x.number x.act z.number z.act));
      }

      deeper : (u : Numbered Act) → Holds u ws → (Apart w x u → ⊥) → Before x u ys
      deeper u h share = before_rest (differ z here) (in_order u (there h) share)

  -- the first act taken out of both
  lawful_rest :
      (x : Numbered Act) (xs ys : List (Numbered Act)) → Lawful w (x ∷ xs) ys → ((y : Numbered Act) → Holds y xs → y.number ≢ x.number) → Single xs →
      (ws : List (Numbered Act)) → Inserted x ws ys → Lawful w xs ws
  lawful_rest x xs ys lawful differ single ws i = record {
    single = single;
    as_many = let l = lawful.as_many in let m = inserted_length i in omega arith;
    all = λ y h. other_holds (differ y h) i (lawful.all y (there h));
    in_order = λ u v b share.
        other_before (differ u (before_first b)) (differ v (before_second b)) i (lawful.in_order u v (later b) share);
  }

  -- and put in again, it is exchanged with those before it
  first_put :
      (x : Numbered Act) (xs ys ws : List (Numbered Act)) → Lawful w (x ∷ xs) ys → ((y : Numbered Act) → Holds y xs → y.number ≢ x.number) → Single xs →
      Inserted x ws ys → Exchanged w xs ws → Exchanged w (x ∷ xs) ys
  first_put x xs ys ws lawful differ single i rest =
      let back = λ (z : Numbered Act) (h : Holds z ws). holds_exchanged w local (exchanged_sym w local rest) h in
      more (skip rest)
      (moved_back i (single_exchanged w local rest single) (λ z h. differ z (back z h)) (λ z h share. lawful.in_order x z (first (back z h)) share))

  pub lawful_is_exchanged : LawfulIsExchanged w
  lawful_is_exchanged [] [] lawful = same
  lawful_is_exchanged [] (y ∷ ys) lawful = absurd (let l = lawful.as_many in omega arith)
  lawful_is_exchanged (x ∷ xs) ys lawful =
      let out = taken_out (lawful.all x here) in
      by_single lawful.single out.0 out.1 (λ l. lawful_is_exchanged xs out.0 l)
    where
      by_single : Single (x ∷ xs) → (ws : List (Numbered Act)) → Inserted x ws ys → (Lawful w xs ws → Exchanged w xs ws) → Exchanged w (x ∷ xs) ys
      by_single (one differ single) ws i rest = first_put x xs ys ws lawful differ single i (rest (lawful_rest x xs ys lawful differ single ws i))

  pub lawful_orders_agree : LawfulOrdersAgree w
  lawful_orders_agree xs ys zs r lawful lawful' =
      let first = exchange w local xs ys r lawful.single (lawful_is_exchanged xs ys lawful) in
      let second = exchange w local xs zs r lawful.single (lawful_is_exchanged xs zs lawful') in
      record { pages = λ p. sym (first.pages p) ∙ second.pages p; outcomes = λ k. sym (first.outcomes k) ∙ second.outcomes k }
