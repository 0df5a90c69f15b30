use Rattle.std.proofs.Common.{[], List, length, map, take, ap, subst, ◌∙◌}
use Rattle.std.proofs.lemmas.Bool.{MatchBool-at_false, MatchBool-at_true}
use Rattle.snap_work.specs.Works.{work_of}
use Rattle.protocol.specs.Fixed.{Text}
use Rattle.audit_papers.specs.ReportLines.{line_of, lines_of}
use Rattle.audit_words.specs.Clauses.{Meaning, TellsEvidence}
use Rattle.audit_words.specs.Inputs.{first_text, language}
use Rattle.audit_words.specs.Papers.{Line}
use Rattle.trace_audit.specs.Evidence.{Grounds}
use Rattle.trace_audit.specs.Located.{done_of}
use Rattle.trace_audit.proofs.EachLines.{off_at_line, one_more_line}
use Rattle.trace_audit.proofs.Finding.{named_answers, named_there}
use Rattle.trace_audit.proofs.Locating.{named_in_place}
use Rattle.trace_audit.proofs.evidence.first_off_evidence.Goals as goal

pub has_evidence-requires-clause-named : goal.has_evidence-requires-clause-named
has_evidence-requires-clause-named c =
    rw c.as_slice.ensures.value
    (named_in_place (length c.args.work.now.txs) (lines_of c.args.lines.now) c.in_ok-replies.replies.items (named_answers (length c.args.work.now.txs) [] (lines_of c.args.lines.now) c.requires.answers) c.in_ok-replies.ensures)

pub has_evidence-requires-clause-tx : goal.has_evidence-requires-clause-tx
has_evidence-requires-clause-tx c = named_there (length c.args.work.now.txs) c.args.lines.now c.loop-at.at c.index-lines-at.result c.loop-at-test.true c.index-lines-at.is c.requires.answers

pub returns-then-not-branch : goal.returns-then-not-branch
returns-then-not-branch c s sound h =
    let w : Text = first_text (work_of c.args.work.now) in
    let m : Meaning = (language (work_of c.args.work.now)).meaning in
    let ls : List Line = lines_of c.args.lines.now in
    let front : List Line = lines_of (take c.loop-at.at c.args.lines.now) in
    let grounds : Grounds w c.args.told.now c.in_ok-by.by c.as_slice.result.now s ls = record { sound = sound; knows = h; codes = c.in_ok-by.ensures.codes; replies_are = ap (map done_of) c.as_slice.ensures.value ∙ c.in_ok-replies.ensures } in
    off_at_line (TellsEvidence m w s ls) c.args.lines.now c.loop-at.at c.index-lines-at.result c.loop-at-test.true (c.loop-at.invariant s sound h)
    (subst (λ z. ¬ TellsEvidence m w s ls front (line_of z)) c.index-lines-at.is (MatchBool-at_false _ _ c.if-not-branch.true (c.in_ok-has_evidence.ensures s ls front grounds)))

pub loop-at-preserved : goal.loop-at-preserved
loop-at-preserved c s sound h =
    let w : Text = first_text (work_of c.args.work.now) in
    let m : Meaning = (language (work_of c.args.work.now)).meaning in
    let ls : List Line = lines_of c.args.lines.now in
    let front : List Line = lines_of (take c.loop-at.at c.args.lines.now) in
    let grounds : Grounds w c.args.told.now c.in_ok-by.by c.as_slice.result.now s ls = record { sound = sound; knows = h; codes = c.in_ok-by.ensures.codes; replies_are = ap (map done_of) c.as_slice.ensures.value ∙ c.in_ok-replies.ensures } in
    one_more_line (TellsEvidence m w s ls) c.args.lines.now c.loop-at.at c.index-lines-at.result c.loop-at-test.true (c.loop-at.invariant s sound h)
    (subst (λ z. TellsEvidence m w s ls front (line_of z)) c.index-lines-at.is (MatchBool-at_true _ _ c.if-not-branch.false (c.in_ok-has_evidence.ensures s ls front grounds)))
