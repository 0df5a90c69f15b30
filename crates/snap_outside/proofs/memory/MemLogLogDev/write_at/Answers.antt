use Rattle.snap_outside.proofs.Contents.{write_keeps}
use Rattle.snap_outside.proofs.memory.MemLogLogDev.write_at.Goals as goal

pub invariant_of-self-2 : goal.invariant_of-self-2
invariant_of-self-2 c = record {
  same = write_keeps c.write_kept.result c.args.self.now.first c.args.self.now.bytes.items c.write_kept.new.bytes.items
      c.args.self.now.ops.items c.write_kept.new.ops.items c.args.at c.args.bytes.now
      c.args.self.now.same c.write_kept.ensures.written c.write_kept.ensures.kept c.write_kept.ensures.same_bytes c.write_kept.ensures.same_ops;
}
