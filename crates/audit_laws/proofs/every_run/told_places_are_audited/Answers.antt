use Rattle.protocol.specs.History.{history}
use Rattle.audit_words.specs.Happenings.{seen}
use Rattle.audit_words.specs.Reports.{report_lines}
use Rattle.audit_laws.proofs.PlacesTold.{order_told}
use Rattle.audit_laws.proofs.Premises.{all_replied, answers_stand, committed_stand}
use Rattle.audit_laws.proofs.ReportsPlaces.{places_told}
use Rattle.audit_laws.proofs.every_run.told_places_are_audited.Goals as goal

pub returns : goal.returns
returns g c w finish es f text run q told =
    let v = answers_stand w finish es (c.verdicts_have_evidence.ensures w finish es f text run) in
    let z = c.sizes_hold.ensures w es text run in
    let r = all_replied w finish es q (c.runs_that_cannot_go_on_have_answered.ensures w finish es f text run) z in
    let o = c.committed_transactions_are_in_order.ensures w finish es f text run in
    let k = committed_stand w finish es run q o r (c.transactions_are_in_one_place.ensures w es text run) z (c.verdicts_tell_of_serial_runs.ensures w finish es f text run) in
    let t = seen w.code.only_reads w.text es in
    record {
      places = places_told w finish es t run v k (c.commits_stand.ensures w finish es f text run) told;
      order = order_told w.text (history w es) t (report_lines w es) told o.stands.chains_rise;
    }
