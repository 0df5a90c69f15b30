use Rattle.std.specs.Prelude.{ℕ, length}
use Rattle.std.proofs.Common.{sym, subst}
use Rattle.audit_words.specs.Audited.{HasShape}
use Rattle.audit_words.specs.Reports.{report_lines}
use Rattle.audit_laws.proofs.Premises.{all_replied, answers_stand, committed_stand}
use Rattle.audit_laws.proofs.ReportsMeaning.{reports_tell_meaning}
use Rattle.audit_laws.proofs.ReportsShape.{reports_have_shape}
use Rattle.audit_laws.proofs.RunsMeet.{runs_meet}
use Rattle.audit_laws.proofs.every_run.quiet_runs_are_half_audited.Goals as goal

pub returns : goal.returns
returns g c w finish es f text run q =
    let v = answers_stand w finish es (c.verdicts_have_evidence.ensures w finish es f text run) in
    let z = c.sizes_hold.ensures w es text run in
    let r = all_replied w finish es q (c.runs_that_cannot_go_on_have_answered.ensures w finish es f text run) z in
    let k = committed_stand w finish es run q (c.committed_transactions_are_in_order.ensures w finish es f text run) r (c.transactions_are_in_one_place.ensures w es text run) z (c.verdicts_tell_of_serial_runs.ensures w finish es f text run) in
    record {
      numbered = runs_meet w es run;
      shape = subst (λ (n : ℕ). HasShape (length w.text.txs) (length w.text.opening.states) n (report_lines w es)) (sym (c.names_are_seen.ensures w es text run).count) (reports_have_shape w es run v r);
      meaning = reports_tell_meaning w finish es run v r k;
    }
