use Rattle.std.proofs.Common.{List, ap, ◌∙◌}
use Rattle.std.specs.Prelude.{find, option_map}
use Rattle.audit_tale.specs.declared.tales.BatchTale.{BatchTale}
use Rattle.trace_audit.specs.ByTransaction.{has_pact}
use Rattle.trace_audit.proofs.Evidences.{not_taken, taken_is}
use Rattle.trace_audit.proofs.evidence.is_taken_pact.Goals as goal

pub returns-in-Some : goal.returns-in-Some
returns-in-Some c w s sound h =
    taken_is w c.args.told.now s c.args.n.0 c.args.k.0 c.in-Some.batch c.fall_of.result c.reaches.result h
    (c.in-Some.ensures ∙ ap (λ (bs : List BatchTale). option_map (λ (b : BatchTale). b.formed.bid) (find (has_pact c.args.n.0) bs)) c.as_slice-2.ensures.value) (c.fall_of.ensures w s sound h) c.reaches.ensures

pub returns-in-None : goal.returns-in-None
returns-in-None c w s sound h =
    not_taken w c.args.told.now s c.args.n.0 c.args.k.0 h (c.in-None.ensures ∙ ap (λ (bs : List BatchTale). option_map (λ (b : BatchTale). b.formed.bid) (find (has_pact c.args.n.0) bs)) c.as_slice-2.ensures.value)
