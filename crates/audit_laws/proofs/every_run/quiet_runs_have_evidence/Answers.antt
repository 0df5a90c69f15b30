use Rattle.audit_laws.proofs.EvidenceSeen.{lines_have_evidence}
use Rattle.audit_laws.proofs.Premises.{all_replied, answers_stand, committed_stand}
use Rattle.audit_laws.proofs.every_run.quiet_runs_have_evidence.Goals as goal

pub returns : goal.returns
returns g c w finish es f text run q =
    let v = answers_stand w finish es (c.verdicts_have_evidence.ensures w finish es f text run) in
    let z = c.sizes_hold.ensures w es text run in
    let r = all_replied w finish es q (c.runs_that_cannot_go_on_have_answered.ensures w finish es f text run) z in
    let t = c.verdicts_tell_of_serial_runs.ensures w finish es f text run in
    let k = committed_stand w finish es run q (c.committed_transactions_are_in_order.ensures w finish es f text run) r (c.transactions_are_in_one_place.ensures w es text run) z t in
    lines_have_evidence w finish es run v r k t
    (record {
      frames = c.frame.ensures;
      room = λ fs x. c.what_is_new_is_not_there.ensures w fs text x;
      names = λ fs x. c.names_are_seen.ensures w fs text x;
      acts = λ fs x. c.acts_are_seen.ensures w finish fs f text x;
      once = λ fs x. c.transactions_are_in_one_place.ensures w fs text x;
      sizes = λ fs x. c.sizes_hold.ensures w fs text x;
    })
