use Rattle.audit_laws.proofs.every_run.quiet_runs_are_audited.Goals as goal

pub returns : goal.returns
returns g c w finish es f text run q =
    let half = c.quiet_runs_are_half_audited.ensures w finish es f text run q in
    let places = c.quiet_runs_have_their_places.ensures w finish es f text run q in
    record { numbered = half.numbered; shape = half.shape; places = places.places; meaning = half.meaning; order = places.order; evidence = c.quiet_runs_have_evidence.ensures w finish es f text run q }
