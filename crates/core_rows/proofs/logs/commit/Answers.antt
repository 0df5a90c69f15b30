use Rattle.std.proofs.Common.{FitsSigned, ◌%◌, [], ◌∷◌, IsTrue, refl, ap, sym, subst, ◌∙◌}
use Rattle.protocol.specs.Events.{Commit}
use Rattle.protocol.specs.Conditions.{conditions}
use Rattle.protocol.specs.Effects.{after, added}
use Rattle.protocol.specs.OnDesk.{batch_committing}
use Rattle.protocol.specs.Records.{BatchDone}
use Rattle.std.specs.Int.{w64}
use Rattle.std.specs.List.{AllByRecursion}
use Rattle.std.proofs.lemmas.Bool.{and_from}
use Rattle.txn_records.specs.declared.records.Record.TheVariants as records
use Rattle.protocol.specs.Parts.{Desk}
use Rattle.protocol.specs.Words.{batch_of, values_of}
use Rattle.batch_table.specs.Askings.{may_commit}
use Rattle.core_rows.proofs.Rules.{allowed_where}
use Rattle.core_rows.proofs.Placing.{log_there}
use Rattle.core_rows.proofs.logs.commit.Goals as goal

pub add-requires : goal.add-requires
add-requires g c =
    let ok = allowed_where c.requires.text (Commit c.args.k.0) c.requires.state (c.commit_refusal-rule.ensures c.requires.text c.requires.state c.requires.run c.requires.shows ∙ c.if-rule-ne0.false) in
    let s = c.requires.state in
    let told = c.in_ok-values.ensures ∙ ap (λ (d : Desk). values_of (batch_of c.args.k.0 d.batches)) (sym c.requires.shows.0) in
    (c.rows_may.ensures c.requires.text s c.requires.run).tells_commit c.args.k.0 ok c.args.k c.in_ok-values.values refl told (subst (AllByRecursion (FitsSigned w64)) c.as_slice.ensures c.values_fit.ensures)

pub commit-requires : goal.commit-requires
unfolding conditions
commit-requires g c =
    let ok = allowed_where c.requires.text (Commit c.args.k.0) c.requires.state (c.commit_refusal-rule.ensures c.requires.text c.requires.state c.requires.run c.requires.shows ∙ c.if-rule-ne0.false) in
    subst (λ d. IsTrue (may_commit c.args.k.0 d.batches)) c.requires.shows.0 (and_from _ _ ok.0 (and_from _ _ ok.1.0 ok.1.1.0))

pub returns-clause-ok : goal.returns-clause-ok
unfolding after
returns-clause-ok g c w s r shows =
    let values = values_of (batch_of c.args.k.0 s.desk.batches) in
    let told = c.in_ok-values.ensures ∙ ap (λ (d : Desk). values_of (batch_of c.args.k.0 d.batches)) (sym shows.0) in
    let rs = BatchDone c.args.k.0 values ∷ [] in (
      allowed_where w _ s (c.commit_refusal-rule.ensures w s r shows ∙ c.if-rule-ne0.false),
      (
        ap (batch_committing c.args.k.0) shows.0 ∙ sym c.commit.ensures,
        (added rs shows.1.0, (log_there s (c.args.k.0 % w.text.logs) shows.1.0 (added rs) shows.1.1.0, c.in_ok-add.ensures.shows shows.1.0 (BatchDone c.args.k.0 values) (ap (λ vs. records.BatchDone c.args.k vs) told) shows.1.1.1)),
      ),
    )
