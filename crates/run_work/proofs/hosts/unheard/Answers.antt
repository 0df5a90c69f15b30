use Rattle.std.proofs.Common.{refl}
use Rattle.run_opening.specs.log_opening.Devices.{devices_of}
use Rattle.run_work.proofs.hosts.unheard.Goals as goal
use Rattle.run_work.specs.Writings.{Writing, writing_of}

pub returns-clause-left : goal.returns-clause-left
returns-clause-left g c = λ w schedule before replies quiet is.
    let after = devices_of g.D.LogDev.told g.D.LogDev.faults c.args.ran.devices.items in
    let out : Writing = writing_of g.O.Sink c.args.out c.args.out in
    c.summed.ensures.left w schedule before after replies out quiet (refl, refl) is
