use Rattle.snap_outside.specs.Disk.{AddsUpToFault}
use Rattle.gate_log.specs.Appends.{block_ops}
use Rattle.gate_log.proofs.AppendExits.{write_failed, sync_failed, gate_failed, last_sync_done, last_sync_fails, where_err}
use Rattle.gate_log.proofs.appends.append_group.Goals as goal

pub returns-in_err-write_at-clause-fault : goal.returns-in_err-write_at-clause-fault
returns-in_err-write_at-clause-fault g c =
    let t0 = g.D.LogDev.told c.args.dev.now in
    let t1 = g.D.LogDev.told c.write_at.new.self in
    where_err c.from_residual.result (AddsUpToFault t0 t1 (block_ops c.args.gate c.args.block.now))
    (write_failed c.args.gate c.args.block.now t0 t1 t1 t1 t1 c.in_err-write_at.ensures.history)

pub returns-in_err-sync-clause-fault : goal.returns-in_err-sync-clause-fault
returns-in_err-sync-clause-fault g c =
    let t0 = g.D.LogDev.told c.args.dev.now in
    let t2 = g.D.LogDev.told c.sync.new.self in
    where_err c.from_residual-in_err-sync.result (AddsUpToFault t0 t2 (block_ops c.args.gate c.args.block.now))
    (sync_failed c.args.gate c.args.block.now t0 (g.D.LogDev.told c.write_at.new.self) t2 t2 t2 c.in_ok-write_at.ensures.history c.in_err-sync.ensures.history)

pub returns-in_err-write_at-2-clause-fault : goal.returns-in_err-write_at-2-clause-fault
returns-in_err-write_at-2-clause-fault g c =
    let told = g.D.LogDev.told in
    let t0 = told c.args.dev.now in
    let t3 = told c.write_at-2.new.self in
    where_err c.from_residual-in_err-write_at-2.result (AddsUpToFault t0 t3 (block_ops c.args.gate c.args.block.now))
    (gate_failed c.args.gate c.args.block.now t0 (told c.write_at.new.self) (told c.sync.new.self) t3 t3
    c.in_ok-write_at.ensures.history c.in_ok-sync.ensures.history c.in_err-write_at-2.ensures.history)

pub returns-clause-done : goal.returns-clause-done
returns-clause-done g c =
    let told = g.D.LogDev.told in
    last_sync_done c.args.gate c.args.block.now (told c.args.dev.now) (told c.write_at.new.self) (told c.sync.new.self) (told c.write_at-2.new.self) (told c.sync-2.new.self) c.sync-2.result
    c.in_ok-write_at.ensures.history c.in_ok-sync.ensures.history c.in_ok-write_at-2.ensures.history c.sync-2.ensures.history

pub returns-clause-fault : goal.returns-clause-fault
returns-clause-fault g c =
    let told = g.D.LogDev.told in
    last_sync_fails c.args.gate c.args.block.now (told c.args.dev.now) (told c.write_at.new.self) (told c.sync.new.self) (told c.write_at-2.new.self) (told c.sync-2.new.self) c.sync-2.result
    c.in_ok-write_at.ensures.history c.in_ok-sync.ensures.history c.in_ok-write_at-2.ensures.history c.sync-2.ensures.history
