-- What a run comes to, as its summary tells it.
use Rattle.std.specs.Prelude.{ℕ, ℤ, pos, ◌+ℤ◌, List, [], ◌∷◌, length}
use Rattle.protocol.specs.Events.{Event}
use Rattle.protocol.specs.Fixed.{Fixed}
use Rattle.protocol.specs.Report.{Report, report}
use Rattle.protocol.specs.Runs.{reached}
use Rattle.snap_base.specs.declared.transactions.State.{State}
use Rattle.snap_report.specs.Summaries.{summary_text}
use Rattle.snap_report.specs.declared.summaries.Summary.{Summary}

abbrev pub sum_of : List ℤ → ℤ
sum_of [] = pos 0
sum_of (z ∷ zs) = z +ℤ sum_of zs

-- the sum of all fields of these states
abbrev pub total_of : List State → ℤ
total_of [] = pos 0
total_of (s ∷ states) = sum_of s.0 +ℤ total_of states

-- of so many transactions and events, with this report
abbrev pub summary_of : ℕ → ℕ → Report → Summary
summary_of transactions events r = record {
  transactions = transactions;
  committed = r.committed;
  aborted = r.aborted;
  batches = r.batches;
  events = events;
  total = total_of r.states;
}

abbrev pub summary_by : {C : Type 0} → Fixed C → List Event → Summary
summary_by w es = summary_of (length w.text.txs) (length es) (report es (reached w es))

-- the line of a run's summary
abbrev pub summing_text : {C : Type 0} → Fixed C → List Event → List ℕ
summing_text w es = summary_text (summary_by w es)
