-- Entries compare by what they are, and so do lists of them.
use Rattle.std.proofs.Common.{◌≡◌, List, refl, rules}
use Rattle.std.specs.Cmp.Rules.{comparing}
use lib.Pointwise.{pointwise}
use Rattle.std.proofs.lemmas.Slice.Eq.{slice_eq-Decides}
use Rattle.std.proofs.lemmas.Bool.Decides.{same_from_decides}
use Rattle.entries.specs.Order.{alike}
use Rattle.entries.specs.contracts.entry.EntryPartialEq.TheImpl.{eq-value}
use Rattle.entries.specs.declared.entry.Entry.{Entry}
use Rattle.entries.proofs.Rank.{alike_decides}

pub pointwise_alike : (es fs : List Entry) → pointwise eq-value.it es fs ≡ alike es fs
pointwise_alike es fs = same_from_decides _ _ (slice_eq-Decides {E = eq-value.it} (λ a b. search (comparing, rules)) es fs _ refl) (alike_decides es fs)
