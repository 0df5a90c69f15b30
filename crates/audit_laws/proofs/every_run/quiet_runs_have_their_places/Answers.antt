use Rattle.audit_laws.proofs.every_run.quiet_runs_have_their_places.Goals as goal

pub returns : goal.returns
returns g c w finish es f text run q = c.told_places_are_audited.ensures w finish es f text run q (c.places_are_seen.ensures w finish es f text run)
