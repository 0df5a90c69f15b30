use Rattle.std.specs.Prelude.{ℕ, List}
use Rattle.std.proofs.Common.{sym, subst, ◌∙◌}
use Rattle.aml_slice.specs.aml_check.Checked.{methods_of}
use Rattle.machine_laws.specs.Programs.{finish_of, with_code}
use Rattle.audit_words.specs.Papers.{IsReport}
use Rattle.audit_words.specs.Reports.{report_lines}
use Rattle.audit_laws.proofs.PrintedFit.{report_fits}
use Rattle.audit_laws.proofs.programs.quiet_runs_print_reports.Goals as goal

pub returns : goal.returns
returns c w es is opens run q =
    let p = methods_of c.args.program.now in
    let m = with_code p w in
    let facts = c.texts_have_the_facts.ensures w is in
    let forms = report_fits p w es c.methods.ensures.closed is opens ((c.names_are_seen.ensures m es is.accepted run).count ∙ c.batches_are_counted.ensures m es run) (c.every_run_ends.ensures m (finish_of p w) es facts is.accepted run).short
    (c.verdicts_are_in_range.ensures m (finish_of p w) es facts is.accepted run) (c.quiet_runs_are_audited_as_meant.ensures w es is run q) in
    subst (λ (text : List ℕ). IsReport text (report_lines m es)) (sym (c.reports_are_lines.ensures m es)) (c.printed_forms_are_reports.ensures (report_lines m es) forms)
