use Rattle.audit_laws.proofs.EventsFit.{events_fit}
use Rattle.audit_laws.proofs.every_run.taken_events_are_in_range.Goals as goal

pub returns : goal.returns
returns g c w es text run = events_fit w text (λ fs r. c.sizes_hold.ensures w fs text r) (λ fs e r may. c.allowed_events_are_candidates.ensures w fs e text r may) es run
