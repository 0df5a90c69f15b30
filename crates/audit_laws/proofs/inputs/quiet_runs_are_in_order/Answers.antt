use Rattle.std.specs.Prelude.{refl, [], map}
use Rattle.std.proofs.Common.{arith}
use Rattle.run_effects.specs.core_events.Meant.{event_meant}
use Rattle.run_effects.specs.Lines.{report_text}
use Rattle.snap_hand.specs.snap_work.Works.{work_of}
use Rattle.audit_words.specs.Inputs.{first_text}
use Rattle.audit_words.specs.Reports.{report_lines}
use Rattle.audit_laws.specs.InOrder.{first_machine}
use Rattle.audit_laws.proofs.PartsOfPapers.{parts_of_papers}
use Rattle.audit_laws.proofs.inputs.quiet_runs_are_in_order.Goals as goal

pub returns : goal.returns
returns c text trace events is whole traced lines run q =
    let w = work_of c.args.work.now in
    let m = first_machine w in
    let es = map event_meant events in
    let kept = c.transactions_may_run.ensures text w is in
    let accepted = c.works_are_texts.ensures w (record { states = w.states; committed = []; next_tid = record { 0 = 1 }; next_bid = record { 0 = 1 }; next_c = 1 }) kept (record { actors = refl; some_tid = omega arith; some_bid = omega arith; some_c = omega arith; tids = omega arith; bids = omega arith; cs = omega arith }) in
    let is_report = c.quiet_runs_print_reports.ensures (first_text w) es accepted kept.states run q in
    record {
      work = w;
      events = es;
      lines = report_lines m es;
      papers = record {
        text = text;
        trace = trace;
        report = report_text m es;
        events = events;
        parts = parts_of_papers text trace (report_text m es) events (report_lines m es) whole lines traced is_report;
        is_work = is;
        is_trace = traced;
        meant = refl;
        is_report = is_report;
      };
      audited = c.quiet_runs_are_audited_as_meant.ensures (first_text w) es accepted run q;
    }
