use Rattle.pages.proofs.Openings.{OpenedTo}
use Rattle.pages.proofs.opening.write_opening.Given as goal

abbrev pub invariant-loop-parcel : goal.invariant-loop-parcel
invariant-loop-parcel l = OpenedTo l.opening.parcels l.opening.pages.now l.initial.words l.parcel l.words
