use Rattle.snap_outside.proofs.Contents.{sync_keeps}
use Rattle.snap_outside.proofs.memory.MemLogLogDev.sync.Goals as goal

pub invariant_of-self-2 : goal.invariant_of-self-2
invariant_of-self-2 c = record {
  same = sync_keeps c.push.result c.args.self.now.first c.args.self.now.bytes.items c.args.self.now.ops.items c.push.new.self.items
      c.args.self.now.same c.push.ensures.items;
}
