use Rattle.std.proofs.Common.{◌<◌, Some, length, rules, ap, sym, ◌∙◌}
use Rattle.std.specs.Prelude.{option_map}
use Rattle.protocol.specs.OnRing.{Formed}
use Rattle.audit_tale.specs.declared.tales.BatchTale.{BatchTale}
use Rattle.trace_audit.specs.ByTransaction.{has_pact}
use Rattle.trace_audit.proofs.Finding.{found_there, pointed}
use Rattle.trace_audit.proofs.by_tx.batch_of.Goals as goal

pub offset_bounds-batches-at : goal.offset_bounds-batches-at
offset_bounds-batches-at c =
    let within : c.in-Some.at < length c.args.batches.now = (pointed has_pact c.args.batches.now c.args.places.now c.args.n.0 _ _ c.requires.index c.requires.kept c.in-Some.is).0 in
    search rules

pub bounds-batches-at : goal.bounds-batches-at
bounds-batches-at c = (pointed has_pact c.args.batches.now c.args.places.now c.args.n.0 _ _ c.requires.index c.requires.kept c.in-Some.is).0

pub returns-in-Some : goal.returns-in-Some
returns-in-Some c =
    ap (λ (f : Formed). Some f.bid) c.formed.view_is
    ∙ ap (option_map (λ (b : BatchTale). b.formed.bid)) (found_there (has_pact c.args.n.0) c.args.batches.now c.in-Some.at _ (pointed has_pact c.args.batches.now c.args.places.now c.args.n.0 _ _ c.requires.index c.requires.kept c.in-Some.is))

pub returns-in-None : goal.returns-in-None
returns-in-None c = sym (ap (option_map (λ (b : BatchTale). b.formed.bid)) (pointed has_pact c.args.batches.now c.args.places.now c.args.n.0 _ _ c.requires.index c.requires.kept c.in-None.is))
