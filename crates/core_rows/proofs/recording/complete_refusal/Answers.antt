use Rattle.std.proofs.Common.{ap, sym, ◌∙◌}
use Rattle.protocol.specs.Conditions.{conditions}
use Rattle.protocol.specs.Words.{holds}
use Rattle.cell_part.specs.hybrid_schedule.Schedules.{is_incomplete, is_next_here, is_done_here}
use Rattle.core_rows.proofs.Rules.{refused, three}
use Rattle.core_rows.proofs.recording.complete_refusal.Goals as goal

pub returns : goal.returns
unfolding conditions
returns g c w s r shows = refused w _ s _ _ (three
    (ap (holds (λ x. is_incomplete c.args.k.0 x.entries)) shows ∙ sym c.is_incomplete-incomplete.ensures)
    (ap (holds (λ x. is_next_here c.args.k.0 x.entries)) shows ∙ sym c.is_next-next.ensures)
    (ap (holds (λ x. is_done_here c.args.k.0 x.entries)) shows ∙ sym c.is_done-done.ensures)) c.first_no.ensures
