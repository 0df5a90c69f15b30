use Rattle.std.proofs.Common.{None, arith, sym, subst}
use Rattle.run_opening.specs.log_opening.Devices.{devices_of}
use Rattle.run_recovery.specs.Schedules.{seeded}
use Rattle.run_work.proofs.hosts.host_work.Goals as goal
use Rattle.run_work.specs.Hosts.{HasHosted}
use Rattle.run_work.specs.Printings.{printing_of}
use Rattle.run_work.specs.Writings.{Writing, writing_of}
use Rattle.run_work.specs.declared.printings.Told.{Told}
use Rattle.snap_work.specs.Works.{work_of}

pub returns-in-Report-clause-left : goal.returns-in-Report-clause-left
returns-in-Report-clause-left g c =
    let ran = c.host_solo.result in
    let before = devices_of g.D.LogDev.told g.D.LogDev.faults c.args.devices.items in
    let after = devices_of g.D.LogDev.told g.D.LogDev.faults ran.devices.items in
    let out : Writing = writing_of g.O.Sink c.args.out ran.out in
    subst (λ (t : Told). HasHosted (printing_of t) (work_of c.args.work) (seeded c.args.seed) before after out ran.hosted) (sym c.in-Report.is) c.host_solo.ensures.left

pub returns-in-Summary-clause-left : goal.returns-in-Summary-clause-left
returns-in-Summary-clause-left g c =
    let ran = c.unheard.result in
    let before = devices_of g.D.LogDev.told g.D.LogDev.faults c.args.devices.items in
    let after = devices_of g.D.LogDev.told g.D.LogDev.faults ran.devices.items in
    let nowhere : Writing = record { taken_before = None; taken_after = None; faults_before = 0; faults_after = 0 } in
    let out : Writing = writing_of g.O.Sink c.args.out ran.out in
    subst (λ (t : Told). HasHosted (printing_of t) (work_of c.args.work) (seeded c.args.seed) before after out ran.hosted) (sym c.in-Summary.is)
    (c.unheard.ensures.left (work_of c.args.work) (seeded c.args.seed) before nowhere (λ rose. omega (arith, rose)) c.host_solo-in-Summary.ensures.left)
