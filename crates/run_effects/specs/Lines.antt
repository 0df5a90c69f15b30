-- The lines that a run prints: the replies in the order of their events, then the actors and the end.
use Rattle.std.specs.Prelude.{ℕ, Option, None, Some, List, [], ◌++◌}
use Rattle.std.specs.List.{flat_map}
use Rattle.snap_base.specs.declared.verdicts.Verdict.{Verdict}
use Rattle.protocol.specs.Events.{Event}
use Rattle.protocol.specs.Fixed.{Fixed}
use Rattle.protocol.specs.Parts.{Machine}
use Rattle.protocol.specs.Report.{Answer, Report, answers, report}
use Rattle.protocol.specs.Runs.{reached}
use Rattle.protocol.specs.Verdicts.{verdict}
use Rattle.snap_report.specs.Lines.{reply_text, actors_text, end_text}

-- the line of a transaction, where its verdict is known
abbrev pub verdict_line : ℕ → Option Verdict → List ℕ
verdict_line n None = []
verdict_line n (Some v) = reply_text n v

-- the line of transaction n in a state
abbrev pub line_in : {C : Type 0} → Machine C → ℕ → List ℕ
line_in s n = verdict_line n (verdict n s.book s.desk)

-- the lines of these replies
abbrev pub answer_lines : List Answer → List ℕ
answer_lines xs = flat_map (λ x. verdict_line x.tx x.verdict) xs

-- what the replies of a run print
abbrev pub replies_text : {C : Type 0} → Fixed C → List Event → List ℕ
replies_text w es = answer_lines (answers es (reached w es))

-- what is printed after the replies, where the run is quiet: the actors and the end
abbrev pub ending_of : Report → List ℕ
ending_of r = actors_text 0 r.states ++ end_text r.committed r.aborted r.batches

-- the actors and the end of a run
abbrev pub ending_text : {C : Type 0} → Fixed C → List Event → List ℕ
ending_text w es = ending_of (report es (reached w es))

-- all that a run prints
abbrev pub report_text : {C : Type 0} → Fixed C → List Event → List ℕ
report_text w es = replies_text w es ++ ending_text w es
