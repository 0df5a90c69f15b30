-- The clauses of audited papers that follow from the public laws of the machine.
use Rattle.std.specs.Prelude.{List, []}
use Rattle.snap_base.specs.declared.transactions.State.{State}
use Rattle.protocol.specs.Events.{Event}
use Rattle.protocol.specs.Facts.{Alone}
use Rattle.protocol.specs.Fixed.{Fixed}
use Rattle.protocol.specs.History.{history}
use Rattle.protocol.specs.Runs.{IsQuiet, reached}
use Rattle.audit_words.specs.Audited.{EachLine, EachMeets, HasShape, ShapeOf}
use Rattle.audit_words.specs.Beside.{TellsPlaced}
use Rattle.audit_words.specs.Clauses.{TellsEvidence, TellsMeaning, TellsOrder, TellsPlace}
use Rattle.audit_words.specs.Happenings.{seen}
use Rattle.audit_words.specs.Reports.{meaning_of, report_lines}
use Rattle.audit_words.specs.Seen.{first_ring}

-- the clauses 1, 2 and 4 of the papers of a run
pub record Half {C : Type 0} (w : Fixed C) (finish : C → List State → Alone) (es : List Event) : Type 0 where
  pub numbered : EachMeets w.text es (first_ring w.text)
  pub shape : ShapeOf HasShape w.text (seen w.code.only_reads w.text es) (report_lines w es)
  pub meaning : EachLine (TellsMeaning (meaning_of w finish) w.text (report_lines w es)) [] (report_lines w es)

-- where no event is allowed any more
abbrev pub IsHalfAudited : {C : Type 0} → Fixed C → (C → List State → Alone) → List Event → Type 0
IsHalfAudited w finish es = IsQuiet w (reached w es) → Half w finish es

-- places, and their order
pub record TellsPlacesInOrder {C : Type 0} (w : Fixed C) (es : List Event) : Type 0 where
  pub places : EachLine (TellsPlace (seen w.code.only_reads w.text es)) [] (report_lines w es)
  pub order : EachLine (TellsOrder (seen w.code.only_reads w.text es)) [] (report_lines w es)

-- where the events tell who was placed and who has its place as the history has it
abbrev pub HasPlacesWhereTold : {C : Type 0} → Fixed C → List Event → Type 0
HasPlacesWhereTold w es = IsQuiet w (reached w es) → TellsPlaced w.text (history w es) (seen w.code.only_reads w.text es) → TellsPlacesInOrder w es

-- in all
abbrev pub HasPlaces : {C : Type 0} → Fixed C → List Event → Type 0
HasPlaces w es = IsQuiet w (reached w es) → TellsPlacesInOrder w es

-- the sixth clause, where no event is allowed any more
abbrev pub HasEvidence : {C : Type 0} → Fixed C → (C → List State → Alone) → List Event → Type 0
HasEvidence w finish es = IsQuiet w (reached w es) → EachLine (TellsEvidence (meaning_of w finish) w.text (seen w.code.only_reads w.text es) (report_lines w es)) [] (report_lines w es)
