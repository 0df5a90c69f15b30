use Rattle.std.proofs.Common.{List, take}
use Rattle.std.specs.List.{AllZip}
use Rattle.gate_log.specs.Opened.{bytes_of}
use Rattle.gate_log.specs.declared.logs.LogItem.{LogItem}
use Rattle.txn_records.specs.declared.records.Record.{Record}
use Rattle.log_compact.specs.Fronts.{IsFront}
use Rattle.log_compact.proofs.finding.fronts_of.Given as goal

abbrev pub invariant-loop-log : goal.invariant-loop-log
invariant-loop-log l = AllZip (λ (is : List LogItem) (front : List Record). IsFront (bytes_of is) front) (take l.log-index l.items) l.fronts
