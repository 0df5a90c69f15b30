use Rattle.std.specs.Prelude.{length}
use Rattle.std.proofs.Common.{◌∙◌}
use Rattle.snap_base.proofs.Lists.{each_at}
use Rattle.aml_slice.specs.aml_check.Checked.{methods_of}
use Rattle.aml_slice.specs.aml_check.Meaning as meaning
use Rattle.aml_slice.specs.aml_check.Transactions.{IsTransaction}
use Rattle.machine_laws.specs.Programs.{finish_of, with_code}
use Rattle.protocol.specs.Fixed.{no_tx, tx_at}
use Rattle.audit_words.specs.Reports.{meaning_of, report_lines}
use Rattle.audit_words.specs.Inputs.{language_of_methods}
use Rattle.audit_laws.proofs.MeaningsAgree.{audited_so}
use Rattle.audit_laws.proofs.ProgramsMean.{alone_as_many, pacts_in_text}
use Rattle.audit_laws.proofs.programs.quiet_runs_are_audited_as_meant.Goals as goal

pub returns : goal.returns
returns c w es is run q =
    let p = methods_of c.args.program.now in
    let m = with_code p w in
    let count = length w.opening.states in
    audited_so w (meaning_of m (finish_of p w)) (λ world tx. meaning.alone p world tx) (language_of_methods p).reads es (report_lines m es)
    (record {
      same = λ world i e h. c.alone_as_meant.ensures count world (tx_at w i) e (each_at (IsTransaction p count) w.txs i no_tx h is.asks);
      as_many = λ world i e h. alone_as_many p count world (tx_at w i) ∙ e;
    })
    (pacts_in_text m es (c.names_are_seen.ensures m es is.accepted run) (c.transactions_are_in_one_place.ensures m es is.accepted run) (c.sizes_hold.ensures m es is.accepted run))
    (c.quiet_runs_are_audited.ensures m (finish_of p w) es (c.texts_have_the_facts.ensures w is) is.accepted run q)
