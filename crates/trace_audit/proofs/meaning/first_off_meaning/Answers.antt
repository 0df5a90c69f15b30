use Rattle.std.proofs.Common.{◌≡◌, ◌<◌, List, length, map, ap, sym, ◌∙◌, subst}
use Rattle.std.specs.List.{AllByRecursion}
use Rattle.protocol.specs.Chains.{by_place}
use Rattle.protocol.specs.History.{Done}
use Rattle.audit_papers.specs.ReportLines.{lines_of}
use Rattle.audit_words.specs.Clauses.{located}
use Rattle.audit_words.specs.Inputs.{first_text, language}
use Rattle.snap_work.specs.Works.{work_of}
use Rattle.trace_audit.specs.declared.located.LocatedReply.{LocatedReply}
use Rattle.trace_audit.specs.Located.{done_of}
use Rattle.trace_audit.specs.Meanings.{NameTransactions, Walked}
use Rattle.trace_audit.proofs.Locating.{named_in_place}
use Rattle.trace_audit.proofs.Meant.{meant_by_walk}
use Rattle.trace_audit.proofs.meaning.first_off_meaning.Goals as goal

pub run_by_place-requires-clause-named : goal.run_by_place-requires-clause-named
run_by_place-requires-clause-named c =
    subst (λ (rs : List LocatedReply). AllByRecursion (λ r. r.tx.0 < length c.args.work.now.txs) rs) (sym c.deref.ensures.value)
    (named_in_place (length c.args.work.now.txs) (lines_of c.args.lines.now) c.in_ok-replies.replies.items c.requires.named c.in_ok-replies.ensures)

pub first_off_walk-requires-clause-named : goal.first_off_walk-requires-clause-named
first_off_walk-requires-clause-named c = subst (λ n. NameTransactions n (lines_of c.args.lines.now)) (sym c.in_ok-walk.ensures.many) c.requires.named

pub returns : goal.returns
returns c =
    let m = (language (work_of c.args.work.now)).meaning in
    let w = first_text (work_of c.args.work.now) in
    let ls = lines_of c.args.lines.now in
    let placed : map done_of c.deref.result.now ≡ by_place (located (lines_of c.args.lines.now)) = ap (map done_of) c.deref.ensures.value ∙ c.in_ok-replies.ensures in
    meant_by_walk m w ls c.in_ok-walk.walk.results.items c.in_ok-walk.walk.world.items c.first_off_walk.result
    (subst (λ (ds : List Done). Walked m w ds c.in_ok-walk.walk.results.items c.in_ok-walk.walk.world.items) placed c.in_ok-walk.ensures)
    (subst (λ n. NameTransactions n ls) (sym c.in_ok-walk.ensures.many) c.requires.named)
    c.first_off_walk.ensures
