use Rattle.log_compaction.proofs.Stages.{ready_behind}
use Rattle.log_compaction.proofs.ready.make_ready.Goals as goal

pub returns-in-Ok : goal.returns-in-Ok
returns-in-Ok g c =
    ready_behind c.make_second.result c.args.log.now c.clear.new.self c.make_second.new.log c.in-Ok.ensures.ops c.in-Ok.ensures.end c.in-Ok.ensures.format c.in-Ok.ensures.faults
    c.make_second.ensures
