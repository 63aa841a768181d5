-- No amount and no area above its limit is ever read. Assumes nothing.
use Rattle.std.proofs.Common.{arith, ℕ, ◌≤◌, List, take, Some, None, Ok, Err, Option, Result, subst}
use Rattle.std.proofs.lemmas.Bool.Decides.{nat_tests}
use Rattle.std.specs.Result.{result_ok}
use Rattle.pages.specs.Bytes.{eight, four, two}
use Rattle.pages.specs.declared.refusal.Refusal.{Refusal}
use Rattle.filings.specs.Keeping.{kept_at, kept_in, length_kept, slot_at}
use Rattle.filings.specs.Laws.{Limits}
use Rattle.filings.specs.Reading.{WithinLimits, at_most, fields, kind_in, limited, of_kind, reading}
use Rattle.filings.specs.declared.filing.Filing.{Filing}
use Rattle.filings.specs.declared.filing.Filing.TheVariants as filing
use Rattle.filings.specs.declared.kind.Kind.{Kind}
use Rattle.filings.specs.declared.kind.Kind.TheVariants.{Transfer, Charge, Reserve, Fill, Release, Postpone, Subdivide, Merge}

-- each filing that a result may hold
abbrev Each : Result Filing Refusal → Type 0
Each (Ok f) = WithinLimits f
Each (Err e) = Unit {0}

abbrev KeptEach : Option Filing → Type 0
KeptEach (Some f) = WithinLimits f
KeptEach None = Unit {0}

each_limited : (at most n : ℕ) (f : ℕ → Filing) → (n ≤ most → WithinLimits (f n)) → Each (limited at (at_most most n) f)
each_limited at most n f h = grind (arith, nat_tests)

each_field : (kind : Kind) (bs : List ℕ) → Each (fields kind bs)
each_field Transfer bs = tt
each_field Charge bs = each_limited 11 1000000000000000 (eight bs 11) (filing.Charge (two bs 1) (four bs 3) (four bs 7)) (λ h. h)
each_field Reserve bs = tt
each_field Fill bs = each_limited 13 1000000000000000 (eight bs 13) (filing.Fill (two bs 1) (four bs 3) (four bs 7) (two bs 11)) (λ h. h)
each_field Release bs = tt
each_field Postpone bs = tt
each_field Subdivide bs = each_limited 7 1000000000 (four bs 7) (filing.Subdivide (two bs 1) (four bs 3)) (λ h. h)
each_field Merge bs = tt

each_kind : (o : Option Kind) (bs : List ℕ) → Each (of_kind o bs)
each_kind None bs = tt
each_kind (Some kind) bs = grind (arith, nat_tests, each_field kind bs)

each_read : (bs : List ℕ) → Each (reading bs)
each_read bs = each_kind (kind_in bs) bs

kept_part : (r : Result Filing Refusal) → Each r → KeptEach (result_ok r)
kept_part (Ok f) h = h
kept_part (Err e) h = tt

each_kept : (ms : List ℕ) (n : ℕ) → KeptEach (kept_at ms n)
unfolding kept_at kept_in
each_kept ms n =
    let slot = slot_at ms n in
    let bs = take (length_kept (kind_in slot)) slot in
    grind (arith, nat_tests, kept_part (reading bs) (each_read bs))

pub limits : Limits
limits = record { read = λ bs f e. subst Each e (each_read bs); kept = λ ms n f e. subst KeptEach e (each_kept ms n) }
