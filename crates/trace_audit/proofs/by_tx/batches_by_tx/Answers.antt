use Rattle.std.proofs.Common.{arith, map, ap, sym, ◌∙◌}
use Rattle.protocol.specs.Meant.{batch_pact}
use Rattle.protocol.specs.OnRing.{Formed}
use Rattle.trace_audit.specs.ByTransaction.{has_pact}
use Rattle.trace_audit.proofs.Finding.{all_indexed, batch_indexed, still_many_noted}
use Rattle.trace_audit.proofs.by_tx.batches_by_tx.Goals as goal

pub loop-at-preserved : goal.loop-at-preserved
loop-at-preserved c = record {
  many = still_many_noted c.loop-at.at (map batch_pact c.as_slice.result.now) c.loop-at.places.items c.note_pacts.new.places.items c.note_pacts.ensures ∙ c.loop-at.invariant.many;
  index = batch_indexed c.args.batches.now c.loop-at.at c.index-batches-at.result (map batch_pact c.as_slice.result.now) c.loop-at.places.items c.note_pacts.new.places.items c.loop-at-test.true c.index-batches-at.is
      (sym (ap (λ (f : Formed). f.pacts) c.formed.view_is) ∙ ap (map batch_pact) (sym c.as_slice.ensures.value)) c.loop-at.invariant.index c.note_pacts.ensures;
}

pub returns : goal.returns
returns c = (c.loop-at.invariant.many, all_indexed has_pact c.args.batches.now c.loop-at.at c.loop-at.places.items (omega arith) c.loop-at.invariant.index)
