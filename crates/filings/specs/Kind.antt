-- The kinds of filings, 1 to 8, and how many bytes each has. Assumes nothing.
use Rattle.std.specs.Prelude.{ℕ, cond, Some, None, Option, ◌==◌}
use Rattle.filings.specs.declared.kind.Kind.{Kind}
use Rattle.filings.specs.declared.kind.Kind.TheVariants.{Transfer, Charge, Reserve, Fill, Release, Postpone, Subdivide, Merge}

abbrev pub kind_numbered : ℕ → Option Kind
kind_numbered n =
    cond (n == 1) (Some Transfer)
    (cond (n == 2) (Some Charge)
    (cond (n == 3) (Some Reserve)
    (cond (n == 4) (Some Fill)
    (cond (n == 5) (Some Release)
    (cond (n == 6) (Some Postpone)
    (cond (n == 7) (Some Subdivide)
    (cond (n == 8) (Some Merge) None)))))))

abbrev pub length_of : Kind → ℕ
length_of Transfer = 11
length_of Charge = 19
length_of Reserve = 11
length_of Fill = 21
length_of Release = 9
length_of Postpone = 9
length_of Subdivide = 11
length_of Merge = 9
