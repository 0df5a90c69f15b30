use Rattle.std.proofs.Common.{is_some, ap, sym, ◌∙◌}
use Rattle.protocol.specs.Words.{holds, waiting_of, is_clear}
use Rattle.cell_part.specs.hybrid_schedule.Schedules.{has_turn}
use Rattle.protocol.specs.Conditions.{conditions}
use Rattle.core_rows.proofs.Rules.{refused, three}
use Rattle.core_rows.proofs.running.run_refusal.Goals as goal

pub returns : goal.returns
unfolding conditions
returns g c w s r shows = refused w _ s _ _ (three
    (ap (holds (λ x. is_some (waiting_of c.args.t.0 x.inbox))) shows ∙ sym c.has_waiting-waits.ensures)
    (ap (holds (λ x. is_clear c.args.t.0 x.entries)) shows ∙ sym c.is_clear-clear.ensures)
    (ap (holds (λ x. has_turn c.args.t.0 x.entries)) shows ∙ sym c.has_turn-turn.ensures)) c.first_no.ensures
