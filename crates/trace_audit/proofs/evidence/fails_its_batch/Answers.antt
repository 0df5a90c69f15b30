use Rattle.std.proofs.Common.{Bool, List, Some, ◌<◌, length, map, ap, sym, subst, ◌∙◌}
use Rattle.std.specs.List.{AllByRecursion}
use Rattle.std.proofs.lemmas.Result.{IfOk-weaker}
use Rattle.snap_base.proofs.Lists.{each_here}
use Rattle.snap_work.specs.Works.{work_of}
use Rattle.protocol.specs.Chains.{by_place}
use Rattle.protocol.specs.Fixed.{Text}
use Rattle.protocol.specs.History.{Done}
use Rattle.protocol.specs.Meant.{batch_pact}
use Rattle.protocol.specs.OnRing.{Formed}
use Rattle.protocol.specs.Parts.{Pact}
use Rattle.audit_tale.specs.declared.tales.BatchTale.{BatchTale}
use Rattle.audit_tale.proofs.WhoIsTold.{batch_nowhere, batch_there}
use Rattle.audit_words.specs.Clauses.{Meaning, located}
use Rattle.audit_words.specs.Inputs.{first_text, language}
use Rattle.trace_audit.specs.Evidence.{HasTxsBelow}
use Rattle.trace_audit.specs.Failures.{counted_world, first_fails}
use Rattle.trace_audit.proofs.BatchEvidence.{aborted_so, fails_is, not_aborted, not_formed}
use Rattle.trace_audit.proofs.evidence.fails_its_batch.Goals as goal

pub returns-then-not-began_at : goal.returns-then-not-began_at
returns-then-not-began_at c s ls sound h e =
    let w : Text = first_text (work_of c.args.work.now) in
    not_aborted (language (work_of c.args.work.now)).meaning w s ls c.args.n.0 c.args.k.0 c.args.at c.args.code
    (sym (aborted_so s c.args.k.0 c.args.at c.fall_of.result c.began_at.result (c.fall_of.ensures w s sound h) (c.began_at.ensures c.args.k.0)) ∙ c.if-not-began_at.true)

pub returns-in_default : goal.returns-in_default
returns-in_default c s ls sound h e =
    let w : Text = first_text (work_of c.args.work.now) in
    not_formed (language (work_of c.args.work.now)).meaning w s ls c.args.n.0 c.args.k.0 c.args.at c.args.code (batch_nowhere w c.args.k.0 c.args.told.now.tale s sound.drawn h.names c.in_default.ensures)

pub fails_behind-requires-clause-pacts : goal.fails_behind-requires-clause-pacts
fails_behind-requires-clause-pacts c =
    let here = each_here (HasTxsBelow (length c.args.work.now.txs)) c.args.told.now.tale.batches.items c.in-Some.place c.index.result.now c.in-Some.ensures.1 c.index.ensures c.requires.pacts in
    rw c.as_slice.ensures.value (subst (λ (f : Formed). AllByRecursion (λ q. q.tx < length c.args.work.now.txs) f.pacts) (sym c.formed.view_is) here)

pub returns : goal.returns
returns c =
    let m : Meaning = (language (work_of c.args.work.now)).meaning in
    let w : Text = first_text (work_of c.args.work.now) in
    let pacts : List Pact = map batch_pact c.as_slice.result.now in
    IfOk-weaker c.fails_behind.result _ _
    (λ (yes : Bool) q s ls sound h e.
    fails_is m w s ls c.args.n.0 c.args.k.0 c.args.at c.args.code c.index.result.now.formed yes
    (sym (aborted_so s c.args.k.0 c.args.at c.fall_of.result c.began_at.result (c.fall_of.ensures w s sound h) (c.began_at.ensures c.args.k.0)) ∙ c.if-not-began_at.false)
    (batch_there w c.args.k.0 c.in-Some.place c.index.result.now c.args.told.now.tale s sound.drawn h.names c.in-Some.ensures.0 c.in-Some.ensures.1 ∙ ap (λ (b : BatchTale). Some b.formed) (sym c.index.ensures))
    (q ∙ (ap (λ (ds : List Done). first_fails m w.txs c.args.n.0 c.args.code (counted_world m w c.args.k.0 c.args.at w.opening.states ds) pacts) e
    ∙ ap (first_fails m w.txs c.args.n.0 c.args.code (counted_world m w c.args.k.0 c.args.at w.opening.states (by_place (located ls)))) (ap (map batch_pact) c.as_slice.ensures.value ∙ ap (λ (f : Formed). f.pacts) c.formed.view_is))))
    c.fails_behind.ensures
