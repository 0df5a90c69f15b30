-- The numbers that verdicts tell of names fit their types: all but values and codes, which are the code's.
use Rattle.std.specs.Prelude.{◌≡◌, ℕ, ◌<◌, ◌^◌, Some, List, ⊤}
use Rattle.std.specs.List.{AllByRecursion}
use Rattle.snap_base.specs.States.{IsState}
use Rattle.snap_base.specs.declared.verdicts.Verdict.{Verdict}
use Rattle.snap_base.specs.declared.verdicts.Verdict.TheVariants as verdicts
use Rattle.aml_slice.specs.aml_tree.Tree.{CheckedMethod}
use Rattle.machine_laws.specs.Programs.{IsTextOf, with_code}
use Rattle.protocol.specs.Events.{Event}
use Rattle.protocol.specs.Fixed.{Fixed, Text}
use Rattle.protocol.specs.Runs.{IsQuiet, IsRun, reached}
use Rattle.protocol.specs.Verdicts.{verdict}
use Rattle.run_effects.specs.Lines.{report_text}
use Rattle.audit_words.specs.Papers.{IsPlaceInRange, IsReport}
use Rattle.audit_words.specs.Reports.{report_lines}

-- batches, tids and commit numbers have 64 bits, transactions 32, and actors 16
abbrev pub AreInRange : Verdict → Type 0
AreInRange (verdicts.Committed p v) = IsPlaceInRange p
AreInRange (verdicts.Code p code) = IsPlaceInRange p
AreInRange (verdicts.BatchCode k at code) = (k.0 < 2 ^ 64) × (at < 2 ^ 64)
AreInRange (verdicts.Cascade k by) = (k.0 < 2 ^ 64) × (by.0 < 2 ^ 32)
AreInRange (verdicts.Died a older own) = (a.0 < 2 ^ 16) × (older.0 < 2 ^ 64) × (own.0 < 2 ^ 64)
AreInRange (verdicts.Order m n a) = (m.0 < 2 ^ 64) × (n.0 < 2 ^ 64) × (a.0 < 2 ^ 16)
AreInRange (verdicts.Unsure l) = ⊤

-- so it is of each verdict of a run
abbrev pub VerdictsAreInRange : {C : Type 0} → Fixed C → List Event → Type 0
VerdictsAreInRange w es = (n : ℕ) (v : Verdict) → verdict n (reached w es).book (reached w es).desk ≡ Some v → AreInRange v

-- What a run of the program's text prints, from an opening of states, is the text of its report's lines, where no event is allowed any
-- more.
abbrev pub QuietRunsPrintReports : List CheckedMethod → Type 0
QuietRunsPrintReports p =
    (w : Text) (es : List Event) → IsTextOf p w → AllByRecursion IsState w.opening.states → IsRun (with_code p w) es → IsQuiet (with_code p w) (reached (with_code p w) es)
    → IsReport (report_text (with_code p w) es) (report_lines (with_code p w) es)
