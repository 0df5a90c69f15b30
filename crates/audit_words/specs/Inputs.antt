-- The input of an audit: the papers that it has, and the first thing that is wrong with it, in the order in which it is looked for.
use Rattle.std.specs.Prelude.{◌≡◌, ℕ, List, ◌++◌, map}
use Rattle.aml_check.specs.Meaning.{alone}
use Rattle.aml_check.specs.Names.{method_at}
use Rattle.aml_tree.specs.Tree.{CheckedMethod}
use Rattle.snap_work.specs.Works.{Work}
use Rattle.snap_work.specs.declared.faults.WorkFault.{WorkFault}
use Rattle.work_text.specs.Reads.{IsWork, IsFirstWorkFault}
use Rattle.core_events.specs.declared.events.Event as code
use Rattle.core_events.specs.Meant.{event_meant}
use Rattle.trace_text.specs.Traces.{IsTrace, IsFirstNoEvent}
use Rattle.protocol.specs.Events.{Event}
use Rattle.protocol.specs.Fixed as fixed
use Rattle.audit_words.specs.Papers.{AreParts, LacksDivider, Line, IsReport, IsFirstNoLine, ended, report_divider, trace_divider}
use Rattle.audit_words.specs.Clauses.{Language}
use Rattle.audit_words.specs.Audited.{Audited, IsOff}

-- ---- a work

-- the text of a work that begins on empty logs
abbrev pub first_text : Work → fixed.Text
first_text w = record {
  coordinators = w.coordinators;
  logs = w.logs;
  batch = w.batch;
  batches = w.batches;
  acts = w.acts;
  txs = w.txs;
  opening = record { states = w.states; next_tid = 1; next_bid = 1; next_c = 1 };
}

-- what a program's methods mean, and whether a transaction's method only reads
abbrev pub language_of_methods : List CheckedMethod → Language
language_of_methods p = record { meaning = λ world tx. alone p world tx; reads = λ tx. (method_at p tx.method).is_read }

-- that of a work's program
abbrev pub language : Work → Language
language w = language_of_methods w.program

-- ---- an input in order

-- text, trace and report as one input, each behind its divider; the text ends with a line feed
abbrev pub input_of : List ℕ → List ℕ → List ℕ → List ℕ
input_of text trace report = text ++ (ended trace_divider ++ (trace ++ (ended report_divider ++ report)))

-- The parts of the input are a text, which stands for this work, the trace of these events, and a report of these lines.
pub record ArePapers (input : List ℕ) (w : Work) (es : List Event) (ls : List Line) : Type 0 where
  pub text : List ℕ
  pub trace : List ℕ
  pub report : List ℕ
  pub events : List code.Event
  pub parts : AreParts input text trace report
  pub is_work : IsWork text w
  pub is_trace : IsTrace trace events
  pub meant : es ≡ map event_meant events
  pub is_report : IsReport report ls

-- They are the papers of a run.
pub record IsInOrder (input : List ℕ) : Type 0 where
  pub work : Work
  pub events : List Event
  pub lines : List Line
  pub papers : ArePapers input work events lines
  pub audited : Audited (language work) (first_text work) events lines

-- ---- what is wrong with any other

pub data InputFault : Type 0 where
  -- a divider is lacking
  Parts : InputFault
  -- the text stands for no work
  Text : WorkFault → InputFault
  -- this line of the trace, from 1 on, is no event
  Trace : (line : ℕ) → InputFault
  -- this line of the report, from 1 on, is of no form
  Report : (line : ℕ) → InputFault
  -- this clause is false: the first clause at an event, from 0 on, the others at a line of the report, from 1 on
  Clause : (clause : ℕ) (at : ℕ) → InputFault

-- the input has parts, of which P holds
abbrev pub HasParts : List ℕ → (List ℕ → List ℕ → List ℕ → Type 0) → Type 0
HasParts input P = (text : List ℕ) × ((trace : List ℕ) × ((report : List ℕ) × (AreParts input text trace report × P text trace report)))

-- It is the first fault: what is asked before it holds.
abbrev pub IsFirstFault : List ℕ → InputFault → Type 0
IsFirstFault input Parts = LacksDivider input
IsFirstFault input (Text f) = HasParts input (λ text trace report. IsFirstWorkFault text f)
IsFirstFault input (Trace line) = HasParts input (λ text trace report. (w : Work) × (IsWork text w × IsFirstNoEvent trace line))
IsFirstFault input (Report line) =
    HasParts input (λ text trace report. (w : Work) × ((es : List code.Event) × (IsWork text w × IsTrace trace es × IsFirstNoLine report line)))
IsFirstFault input (Clause clause at) =
    (w : Work) × ((es : List Event) × ((ls : List Line) × (ArePapers input w es ls × IsOff (language w) (first_text w) es ls clause at)))
