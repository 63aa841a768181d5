-- The line that tells what came of a number of the order. Assumes nothing.
use Rattle.std.specs.Prelude.{ℕ, List, ◌++◌, Ok, Err, codes, decimal, Result}
use Rattle.pages.specs.Refusal.{refusal_text}
use Rattle.pages.specs.declared.refusal.Refusal.{Refusal}
use Rattle.pages.specs.declared.refusal.Refusal.TheVariants.{Parcels, Pages, Area, Kind, Length, Amount, Full, NotThere, Done, Waits, NoParcel, Short}
use Rattle.entering.specs.Outcome.{reason_of}
use Rattle.entering.specs.declared.outcome.Outcome.{Outcome}
use Rattle.entering.specs.declared.outcome.Outcome.TheVariants.{Entered, Rejected}
use Rattle.programs.specs.declared.line.Line.{Line}

abbrev pub refused_text : Refusal → List ℕ
refused_text r = codes " refused " ++ refusal_text r

-- who has to wait is told for which
abbrev pub turned_away : Refusal → List ℕ
turned_away Parcels = refused_text Parcels
turned_away (Pages bytes) = refused_text (Pages bytes)
turned_away (Area parcel) = refused_text (Area parcel)
turned_away Kind = refused_text Kind
turned_away (Length length) = refused_text (Length length)
turned_away (Amount byte) = refused_text (Amount byte)
turned_away Full = refused_text Full
turned_away NotThere = refused_text NotThere
turned_away Done = refused_text Done
turned_away (Waits earlier) = codes " waits for " ++ decimal earlier
turned_away NoParcel = refused_text NoParcel
turned_away (Short part) = refused_text (Short part)

abbrev pub answer_text : Result Outcome Refusal → List ℕ
answer_text (Ok Entered) = codes " entered"
answer_text (Ok (Rejected rejection)) = codes " rejected " ++ decimal (reason_of rejection)
answer_text (Err refusal) = turned_away refusal

-- as '3 entered', '9 rejected 2', '1 waits for 0', '17 refused 8 at 0'
abbrev pub line_text : Line → List ℕ
line_text l = decimal l.number ++ answer_text l.answer
