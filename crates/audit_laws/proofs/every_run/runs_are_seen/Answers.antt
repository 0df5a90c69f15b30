use Rattle.audit_laws.proofs.RunsSeen.{runs_seen}
use Rattle.audit_laws.proofs.every_run.runs_are_seen.Goals as goal

pub returns : goal.returns
returns g c w finish es f text run = runs_seen w finish es f text (λ fs r. (c.committed_are_those_with_places.ensures w finish fs f text r).pacts_from) run
