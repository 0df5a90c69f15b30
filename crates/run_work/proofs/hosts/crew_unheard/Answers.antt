use Rattle.std.proofs.Common.{None, arith}
use Rattle.run_opening.specs.log_opening.Devices.{devices_of}
use Rattle.run_recovery.specs.Schedules.{free}
use Rattle.run_work.proofs.hosts.crew_unheard.Goals as goal
use Rattle.run_work.specs.Writings.{Writing}
use Rattle.snap_work.specs.Works.{work_of}

pub returns-clause-left : goal.returns-clause-left
returns-clause-left g c =
    let before = devices_of g.D.LogDev.told g.D.LogDev.faults c.args.devices.items in
    let nowhere : Writing = record { taken_before = None; taken_after = None; faults_before = 0; faults_after = 0 } in
    c.unheard.ensures.left (work_of c.args.work) free before nowhere (λ rose. omega (arith, rose)) c.host_crew.ensures.left
