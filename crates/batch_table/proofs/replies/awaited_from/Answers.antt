use Rattle.std.proofs.Common.{map, ap, sym, ◌∙◌, arith}
use Rattle.snap_base.specs.declared.ids.TxNo.{TxNo}
use Rattle.batch_table.proofs.Unfinished.{none_unreplied}
use Rattle.batch_table.proofs.replies.awaited_from.Goals as goal

pub loop-n-init : goal.loop-n-init
loop-n-init c = record {
  within = omega (arith, c.min-first.ensures);
  listed = ap (map (λ (n : TxNo). n.0)) c.new-awaited.ensures.items ∙ sym (none_unreplied c.min-first.result c.args.replied c.args.marks.now (omega (arith, c.min-first.ensures)) c.requires);
}
