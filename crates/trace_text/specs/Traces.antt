-- A trace: the lines of its events.
use Rattle.std.specs.Prelude.{◌≡◌, ◌≢◌, ℕ, ◌+◌, List, [], ◌∷◌, ◌++◌, map, length, ⊤}
use Rattle.std.specs.List.{AllByRecursion, flat_map}
use Rattle.core_events.specs.declared.events.Event.{Event}
use Rattle.snap_base.specs.Lines.{lines}
use Rattle.trace_text.specs.declared.trace_no.TraceNo.{TraceNo}
use Rattle.trace_text.specs.declared.trace_no.TraceNo.TheVariants as no
use Rattle.trace_text.specs.Lines.{event_line, IsEvent}

-- the text that events are printed as, one after the other
abbrev pub trace_of : List Event → List ℕ
trace_of es = flat_map (λ e. event_line e ++ 10 ∷ []) es

-- the text has a line for each of the events, and no other
pub record IsTrace (text : List ℕ) (es : List Event) : Type 0 where
  pub events : AllByRecursion IsEvent es
  pub said : lines text ≡ map event_line es

-- the lines before this one, from 1 on, are of events, and this one is of none
pub record IsFirstNoEvent (text : List ℕ) (line : ℕ) : Type 0 where
  pub before : List Event
  pub none : List ℕ
  pub behind : List (List ℕ)
  pub cut : lines text ≡ map event_line before ++ none ∷ behind
  pub number : line ≡ length before + 1
  pub events : AllByRecursion IsEvent before
  pub no_event : (e : Event) → IsEvent e → none ≢ event_line e

abbrev pub IsTraceNo : List ℕ → TraceNo → Type 0
IsTraceNo text (no.Line line) = IsFirstNoEvent text line
IsTraceNo text no.Memory = ⊤
