use Rattle.std.proofs.Common.{ap, ◌∙◌}
use Rattle.std.specs.Prelude.{find}
use Rattle.audit_tale.specs.Knows.{why_of}
use Rattle.trace_audit.specs.ByTransaction.{is_act_for}
use Rattle.trace_audit.proofs.Evidences.{given_up_is}
use Rattle.trace_audit.proofs.evidence.is_given_up.Goals as goal

pub returns : goal.returns
returns c w s h =
    given_up_is w c.args.told.now s c.args.n.0 c.act_of-act.result (why_of c.args.why) c.gives_up.result h (c.act_of-act.ensures ∙ ap (find (is_act_for c.args.n.0)) c.as_slice-2.ensures.value) c.gives_up.ensures
