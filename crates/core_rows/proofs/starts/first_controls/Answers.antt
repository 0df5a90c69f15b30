use Rattle.std.proofs.Common.{length, map, ap, ◌∙◌}
use Rattle.std.proofs.lemmas.List.{take_all}
use Rattle.protocol.specs.OnPost.{first_control}
use Rattle.protocol.specs.Meant.{batch_pact}
use Rattle.core_rows.specs.Begun.{first_message}
use Rattle.core_rows.proofs.Begun.{grown, tx_below}
use Rattle.core_rows.proofs.starts.first_controls.Goals as goal

pub first_control-requires-clause-in_text : goal.first_control-requires-clause-in_text
first_control-requires-clause-in_text g c = tx_below (length c.args.txs.now) c.args.pacts.now c.loop-pact.pact-index _ c.loop-pact-test.true c.requires.in_text

pub loop-pact-preserved : goal.loop-pact-preserved
loop-pact-preserved g c w who text starts =
    ap (map (first_message who)) c.in_ok-push.ensures.items
    ∙ grown (first_message who) batch_pact (λ p. first_control w who p.tid p.tx) c.loop-pact.firsts.items c.in_ok-first_control.field-0 c.args.pacts.now c.loop-pact.pact-index _
    c.loop-pact-test.true (c.loop-pact.invariant w who text starts) (c.in_ok-first_control.ensures w who text starts)

pub returns : goal.returns
returns g c w who text starts =
    c.loop-pact.invariant w who text starts
    ∙ ap (λ z. map (λ p. first_control w who p.tid p.tx) (map batch_pact z)) (take_all c.loop-pact.pact-index c.args.pacts.now c.loop-pact-test.false)
