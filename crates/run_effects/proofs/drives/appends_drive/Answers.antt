use Rattle.run_effects.proofs.Driving.{driven_same, driven_more, driven_cut_off, pieces_spelled}
use Rattle.run_effects.proofs.drives.appends_drive.Goals as goal

pub returns-clause-nothing : goal.returns-clause-nothing
returns-clause-nothing c = driven_same

pub returns-clause-group : goal.returns-clause-group
returns-clause-group c = driven_more c.history_grows.ensures.group

pub returns-clause-fault : goal.returns-clause-fault
returns-clause-fault c = driven_cut_off c.history_grows.ensures.fault

pub returns-clause-pieces : goal.returns-clause-pieces
returns-clause-pieces c = pieces_spelled
