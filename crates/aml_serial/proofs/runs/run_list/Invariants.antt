use Rattle.std.proofs.Common.{◌≡◌, length, take}
use Rattle.aml_check.specs.Checked.{methods_of}
use Rattle.aml_check.specs.Meaning.{serial}
use Rattle.aml_serial.proofs.SerialLists.{serial_run}
use Rattle.aml_serial.proofs.runs.run_list.Given as goal

abbrev pub invariant-loop-tx : goal.invariant-loop-tx
invariant-loop-tx l = record {
  so_far : serial (methods_of l.program) l.initial.world.items (take l.tx-index l.txs) ≡ serial_run l.results l.world.items;
  actors : length l.world.items ≡ length l.initial.world.items;
}
