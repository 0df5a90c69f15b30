use Rattle.std.proofs.Common.{◌≡◌, ◌≤◌, map}
use Rattle.snap_base.specs.declared.ids.TxNo.{TxNo}
use Rattle.batch_table.specs.Listed.{unreplied_below}
use Rattle.batch_table.proofs.replies.awaited_from.Given as goal

abbrev pub invariant-loop-n : goal.invariant-loop-n
invariant-loop-n l = record {
  within : l.n ≤ l.fn.upto.0;
  listed : map (λ (n : TxNo). n.0) l.awaited.items ≡ unreplied_below l.n l.marks;
}
