use Rattle.std.proofs.Common.{arith, ◌∙◌}
use Rattle.trace_audit.specs.ByTransaction.{is_act_for}
use Rattle.trace_audit.proofs.Finding.{act_indexed, all_indexed, still_many}
use Rattle.trace_audit.proofs.by_tx.acts_by_tx.Goals as goal

pub loop-at-preserved : goal.loop-at-preserved
loop-at-preserved c = record {
  many = still_many _ c.loop-at.at c.loop-at.places.items c.note.new.places.items c.note.ensures ∙ c.loop-at.invariant.many;
  index = act_indexed c.args.acts.now c.loop-at.at _ c.loop-at.places.items c.note.new.places.items c.loop-at-test.true c.loop-at.invariant.index c.note.ensures;
}

pub returns : goal.returns
returns c = (c.loop-at.invariant.many, all_indexed is_act_for c.args.acts.now c.loop-at.at c.loop-at.places.items (omega arith) c.loop-at.invariant.index)
