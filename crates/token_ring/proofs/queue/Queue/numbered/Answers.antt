use Rattle.std.proofs.Common.{◌+◌, ◌<◌, ◌∷◌, [], ◌++◌, length, map, take, ap, sym, ◌∙◌, None, arith}
use Rattle.std.proofs.lemmas.List.{map_push}
use Rattle.protocol.specs.OnRing.{numbered}
use Rattle.protocol.specs.Meant.{batch_pact}
use Rattle.token_ring.proofs.Plans.{numbered_more}
use Rattle.token_ring.proofs.queue.Queue.numbered.Goals as goal

pub loop-i-preserved : goal.loop-i-preserved
loop-i-preserved c =
    let xs = c.self.inside.waiting.items in
    let i = c.loop-i.i in
    let n = c.index.result.now in
    let l : i < length xs = omega (arith, c.self.inside.waiting.ok.0) in
    ap (λ ps. map batch_pact ps) c.in_ok-push.ensures.items
    ∙ map_push batch_pact c.loop-i.pacts.items (record { 0 = record { 0 = c.args.tid + i }; 1 = record { 0 = n } })
    ∙ ap (λ ps. ps ++ record { tid = c.args.tid + i; tx = n; result = None } ∷ []) c.loop-i.invariant
    ∙ ap (λ m. numbered c.args.tid (take i xs) ++ record { tid = c.args.tid + i; tx = m; result = None } ∷ []) c.index.ensures
    ∙ sym (numbered_more c.args.tid xs i n l)
