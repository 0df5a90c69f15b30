use Rattle.std.proofs.Common.{ap, ◌∙◌}
use Rattle.std.specs.Prelude.{find}
use Rattle.trace_audit.specs.ByTransaction.{is_act_for}
use Rattle.trace_audit.proofs.Evidences.{dies_is}
use Rattle.trace_audit.proofs.evidence.dies.Goals as goal

pub returns : goal.returns
returns c w s h =
    dies_is w c.args.told.now s c.args.n.0 c.args.a.0 c.args.older.0 c.args.own.0 c.act_of-act.result c.has_died.result h (c.act_of-act.ensures ∙ ap (find (is_act_for c.args.n.0)) c.as_slice-2.ensures.value) c.has_died.ensures
