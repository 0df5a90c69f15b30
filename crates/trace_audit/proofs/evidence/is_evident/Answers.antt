use Rattle.std.proofs.Common.{sym, subst}
use Rattle.snap_base.specs.declared.verdicts.Verdict.{Verdict}
use Rattle.snap_work.specs.Works.{work_of}
use Rattle.audit_words.specs.Clauses.{TellsEvidence}
use Rattle.audit_words.specs.Inputs.{first_text, language}
use Rattle.audit_words.specs.Papers.{Reply}
use Rattle.trace_audit.specs.Evidence.{Decides}
use Rattle.trace_audit.proofs.evidence.is_evident.Goals as goal

pub returns-in-Cascade : goal.returns-in-Cascade
returns-in-Cascade c s ls front g =
    subst (λ (v : Verdict). Decides c.is_taken_along.result (TellsEvidence (language (work_of c.args.work.now)).meaning (first_text (work_of c.args.work.now)) s ls front (Reply c.args.n.0 v))) (sym c.in-Cascade.is)
    (c.is_taken_along.ensures (first_text (work_of c.args.work.now)) s ls g.sound g.knows g.codes)

pub returns-in-Died : goal.returns-in-Died
returns-in-Died c s ls front g =
    subst (λ (v : Verdict). Decides c.dies.result (TellsEvidence (language (work_of c.args.work.now)).meaning (first_text (work_of c.args.work.now)) s ls front (Reply c.args.n.0 v))) (sym c.in-Died.is)
    (c.dies.ensures (first_text (work_of c.args.work.now)) s g.knows)

pub returns-in-Order : goal.returns-in-Order
returns-in-Order c s ls front g =
    subst (λ (v : Verdict). Decides c.is_given_up.result (TellsEvidence (language (work_of c.args.work.now)).meaning (first_text (work_of c.args.work.now)) s ls front (Reply c.args.n.0 v))) (sym c.in-Order.is)
    (c.is_given_up.ensures (first_text (work_of c.args.work.now)) s g.knows)
