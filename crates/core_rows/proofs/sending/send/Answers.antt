use Rattle.std.proofs.Common.{◌≡◌, Some, None, ap, sym, subst, ◌∙◌}
use Rattle.std.specs.Option.{option_map}
use Rattle.protocol.specs.Events.{Send}
use Rattle.protocol.specs.Conditions.{conditions}
use Rattle.protocol.specs.Effects.{after}
use Rattle.protocol.specs.Words.{holds, is_going, outcome_of, control_of, who_on}
use Rattle.protocol.specs.OnPost.{sent}
use Rattle.protocol.specs.OnCell.{outcome_taken}
use Rattle.protocol.specs.Meant.{who_meant, next_meant}
use Rattle.cell_part.specs.Contents.{outcome_next}
use Rattle.core_rows.proofs.Rules.{allowed_where}
use Rattle.core_rows.proofs.Placing.{is_at, put_there}
use Rattle.core_rows.proofs.Found.{held, told_some}
use Rattle.core_rows.proofs.sending.send.Goals as goal

pub unwrap-next-requires : goal.unwrap-next-requires
unfolding conditions
unwrap-next-requires g c =
    let ok = allowed_where c.requires.text (Send c.args.t.0 c.args.a.0) c.requires.state (c.send_refusal-rule.ensures c.requires.text c.requires.state c.requires.run c.requires.shows.1 ∙ c.if-rule-ne0.false) in
    let there = ap (holds (λ y. holds (λ x. is_going x.next) (outcome_of c.args.t.0 y.outbox))) (sym c.requires.shows.1) ∙ ok.0 in
    let x = held (λ x. is_going x.next) (outcome_of c.args.t.0 c.args.cell.now.cell.outbox) there in
    told_some next_meant outcome_next c.take_outcome.result _ x.0 c.take_outcome.ensures.value x.1

pub put_next-requires-clause-fresh : goal.put_next-requires-clause-fresh
put_next-requires-clause-fresh g c =
    let ok = allowed_where c.requires.text (Send c.args.t.0 c.args.a.0) c.requires.state (c.send_refusal-rule.ensures c.requires.text c.requires.state c.requires.run c.requires.shows.1 ∙ c.if-rule-ne0.false) in
    subst (λ p. control_of c.args.t.0 p.controls ≡ None) (c.requires.shows.0 ∙ sym c.room.ensures.messages) ((c.rows_may.ensures c.requires.text c.requires.state c.requires.run).sends_control c.args.t.0 c.args.a.0 ok)

pub returns-clause-ok : goal.returns-clause-ok
unfolding conditions after
returns-clause-ok g c w s r shows =
    let ok = allowed_where w (Send c.args.t.0 c.args.a.0) s (c.send_refusal-rule.ensures w s r shows.1 ∙ c.if-rule-ne0.false) in
    let there = ap (holds (λ y. holds (λ x. is_going x.next) (outcome_of c.args.t.0 y.outbox))) (sym shows.1) ∙ ok.0 in
    let x = held (λ x. is_going x.next) (outcome_of c.args.t.0 c.args.cell.now.cell.outbox) there in
    let next : Some (next_meant c.unwrap-next.result) ≡ Some x.0.next = ap (option_map next_meant) (sym c.unwrap-next.ensures) ∙ (c.take_outcome.ensures.value ∙ ap (option_map outcome_next) x.1) in
    let put = c.put_next.ensures x.0 (c.what_is_found_has_its_number.ensures.outcome c.args.t.0 c.args.cell.now.cell.outbox x.0 x.1) (cc next) in (
      ok,
      (
        ap (λ y. sent (who_on c.args.t.0 y.entries) (outcome_of c.args.t.0 y.outbox) s.post) (is_at s c.args.a.0 c.args.cell.now.cell shows.1)
            ∙ (ap (λ who. sent who (outcome_of c.args.t.0 c.args.cell.now.cell.outbox) s.post) (sym c.who_on-who.ensures)
            ∙ (ap (λ o. sent (who_meant c.who_on-who.result) o s.post) x.1
            ∙ (ap (sent (who_meant c.who_on-who.result) (Some x.0)) (shows.0 ∙ sym c.room.ensures.messages)
            ∙ sym put))),
        put_there s c.args.a.0 c.args.cell.now.cell _ (outcome_taken c.args.t.0) shows.1 c.take_outcome.ensures.taken,
      ),
    )
