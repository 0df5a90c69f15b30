use Rattle.snap_outside.specs.Disk.{AddsUpToFault}
use Rattle.gate_log.specs.Appends.{close_ops}
use Rattle.gate_log.proofs.AppendExits.{where_err}
use Rattle.gate_log.proofs.ClearExits.{gate_failed, gate_synced, gate_not_synced}
use Rattle.gate_log.proofs.clears.close_first_gate.Goals as goal

pub returns-in_err-write_at-clause-fault : goal.returns-in_err-write_at-clause-fault
returns-in_err-write_at-clause-fault g c =
    let t0 = g.D.LogDev.told c.args.dev.now in
    let t1 = g.D.LogDev.told c.write_at.new.self in
    where_err c.from_residual.result (AddsUpToFault t0 t1 close_ops) (gate_failed t0 t1 c.in_err-write_at.ensures.history)

pub returns-clause-done : goal.returns-clause-done
returns-clause-done g c =
    let told = g.D.LogDev.told in
    gate_synced (told c.args.dev.now) (told c.write_at.new.self) (told c.sync.new.self) c.sync.result c.in_ok-write_at.ensures.history c.sync.ensures.history

pub returns-clause-fault : goal.returns-clause-fault
returns-clause-fault g c =
    let told = g.D.LogDev.told in
    gate_not_synced (told c.args.dev.now) (told c.write_at.new.self) (told c.sync.new.self) c.sync.result c.in_ok-write_at.ensures.history c.sync.ensures.history
