use Rattle.aml_check.specs.Checked.{methods_of}
use Rattle.protocol.specs.Runs.{reached}
use Rattle.protocol.specs.History.{history}
use Rattle.machine_laws.specs.Programs.{with_code}
use Rattle.machine_laws.proofs.TextTxs.{there_after}
use Rattle.machine_laws.proofs.AsMeant.{committed_meant}
use Rattle.machine_laws.proofs.laws.committed_transactions_are_as_meant.Goals as goal

pub returns : goal.returns
returns c w es is run =
    let p = methods_of c.args.program.now in
    let m = with_code p w in
    let there = there_after m es run (c.transactions_are_in_one_place.ensures m es is.accepted run) (c.verdicts_tell_of_serial_runs.ensures w es is run).committed in
    committed_meant p w (reached m es) (history m es) c.alone_as_meant.ensures c.serial_as_meant.ensures is there (c.committed_transactions_are_in_order.ensures w es is run) (c.told_transactions_are_in_order.ensures w es is run)
