use Rattle.std.proofs.Common.{◌≡◌, [], ◌∷◌, ◌++◌, Some, None, Option, get_or, arith, ap, sym, ◌∙◌, subst}
use Rattle.std.specs.Prelude.{slice_set, unwrap_or}
use Rattle.std.proofs.lemmas.List.{get_or_read}
use Rattle.snap_base.specs.declared.transactions.TxResult.{TxResult}
use Rattle.audit_words.specs.Inputs.{first_text, language}
use Rattle.snap_work.specs.Works.{work_of}
use Rattle.trace_audit.specs.Located.{done_of}
use Rattle.trace_audit.specs.Meanings.{Walked}
use Rattle.trace_audit.proofs.RunAlong.{walked_next}
use Rattle.trace_audit.proofs.walks.go_on.Goals as goal

pub returns : goal.returns
returns c ds k =
    let m = (language (work_of c.args.work.now)).meaning in
    let w = first_text (work_of c.args.work.now) in
    let results = c.args.walk.now.results.items in
    let n = c.args.reply.tx.0 in
    let there : c.index.result.now ≡ get_or c.args.walk.now.results.items c.args.reply.tx.0 None = get_or_read results n c.index.result.now (omega (arith, c.requires.results, c.requires.named)) c.index.ensures None in
    let first : c.unwrap_or-first.result ≡ unwrap_or (get_or c.args.walk.now.results.items c.args.reply.tx.0 None) c.in_ok-result.result =
    c.unwrap_or-first.ensures ∙ ap (λ (o : Option TxResult). unwrap_or o c.in_ok-result.result) there in
    subst (λ (x : TxResult). Walked m w (ds ++ done_of c.args.reply ∷ []) (slice_set results n (Some x)) c.run.new.world.items) (sym first)
    (walked_next m w ds results c.args.walk.now.world.items c.run.new.world.items (done_of c.args.reply) c.in_ok-result.result k c.in_ok-result.ensures.gives c.in_ok-result.ensures.leaves c.run.ensures.actors)
