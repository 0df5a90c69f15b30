-- What a run of a work on empty logs gives is an input in order: its text, its trace, and what it has printed.
use Rattle.std.specs.Prelude.{ℕ, List, map}
use Rattle.std.specs.List.{AllByRecursion}
use Rattle.aml_slice.specs.Controls.{Rest}
use Rattle.run_effects.specs.core_events.declared.events.Event as code
use Rattle.run_effects.specs.core_events.Meant.{event_meant}
use Rattle.machine_laws.specs.Programs.{with_code}
use Rattle.protocol.specs.Fixed.{Fixed}
use Rattle.protocol.specs.Runs.{IsQuiet, IsRun, reached}
use Rattle.run_effects.specs.Lines.{report_text}
use Rattle.snap_hand.specs.snap_work.Works.{Work}
use Rattle.trace_text.specs.Lines.{IsEvent}
use Rattle.trace_text.specs.Traces.{IsTrace}
use Rattle.work_text.specs.Reads.{IsWork}
use Rattle.audit_words.specs.Inputs.{IsInOrder, first_text, input_of}
use Rattle.audit_words.specs.Papers.{AreWhole}

-- the text of the work with its methods as code, on empty logs
abbrev pub first_machine : Work → Fixed Rest
first_machine w = with_code w.program (first_text w)

-- A text that stands for the work, the trace of a run of it that can't go on, both of whole lines, and what that run has printed.
abbrev pub QuietRunsAreInOrder : Work → Type 0
QuietRunsAreInOrder w =
    (text trace : List ℕ) (events : List code.Event)
    → IsWork text w → AreWhole text → IsTrace trace events → AreWhole trace
    → IsRun (first_machine w) (map event_meant events) → IsQuiet (first_machine w) (reached (first_machine w) (map event_meant events))
    → IsInOrder (input_of text trace (report_text (first_machine w) (map event_meant events)))

-- The numbers of each event of a run of a work's text on empty logs are of their types.
abbrev pub FirstEventsAreInRange : Work → Type 0
FirstEventsAreInRange w =
    (text : List ℕ) (events : List code.Event) → IsWork text w → IsRun (first_machine w) (map event_meant events) → AllByRecursion IsEvent events
