use Rattle.std.proofs.Common.{◌+◌, ◌<◌, ◌^◌, length, slice_index_or, ap, sym, subst, ◌∙◌}
use Rattle.std.proofs.lemmas.Bool.{ltb-true}
use Rattle.std.proofs.lemmas.List.{get_or_default}
use Rattle.snap_base.proofs.Booleans.{second_true}
use Rattle.protocol.specs.Fixed.{no_tx}
use Rattle.protocol.specs.Events.{Submit}
use Rattle.protocol.specs.Conditions.{conditions}
use Rattle.protocol.specs.Effects.{after}
use Rattle.protocol.specs.OnRing.{submitted}
use Rattle.core_rows.proofs.Rules.{allowed_where}
use Rattle.core_rows.proofs.submitting.submit.Goals as goal

pub bounds-txs-n : goal.bounds-txs-n
unfolding conditions
bounds-txs-n g c =
    let ok = allowed_where c.requires.text (Submit c.args.n.0) c.requires.state (c.submit_refusal-rule.ensures c.requires.text c.requires.state c.requires.run c.requires.shows ∙ c.if-rule-ne0.false) in
    subst (λ xs. c.args.n.0 < length xs) c.requires.shows.0 (ltb-true c.args.n.0 (length c.requires.text.text.txs) (second_true _ _ ok.0))

pub submit-requires : goal.submit-requires
submit-requires g c = subst (λ x. x.next_tx + 1 < 2 ^ 32) c.requires.shows.1 (c.rows_may.ensures c.requires.text c.requires.state c.requires.run).txs_fit

pub returns-clause-ok : goal.returns-clause-ok
unfolding conditions after
returns-clause-ok g c w s r shows =
    let ok = allowed_where w (Submit c.args.n.0) s (c.submit_refusal-rule.ensures w s r shows ∙ c.if-rule-ne0.false) in
    let inside = subst (λ xs. c.args.n.0 < length xs) shows.0 (ltb-true c.args.n.0 (length w.text.txs) (second_true _ _ ok.0)) in
    let is = ap (λ xs. slice_index_or xs c.args.n.0 no_tx) shows.0 ∙ (get_or_default c.args.txs.now c.args.n.0 no_tx c.index-txs-n.result inside ∙ sym c.index-txs-n.is) in (
      ok,
      ap (submitted w.text c.args.n.0) shows.1
          ∙ sym (c.in_ok-submit.ensures.ok w.text (sym (c.rows_may.ensures w s r).pact_queues ∙ ap (λ x. length x.pacts) shows.1) (ap (λ x. x.kind) is)),
    )
