use Rattle.std.proofs.Common.{◌≡◌, ◌+◌, ◌≤◌, length, arith, false, refl}
use Rattle.std.proofs.lemmas.List.{length-map}
use Rattle.run_opening.specs.gate_log.State.{LogState}
use Rattle.run_opening.specs.log_opening.Devices.{devices_of}
use Rattle.run_recovery.specs.Schedules.{free}
use Rattle.run_work.proofs.OnDevices.{hosted_on, unbegun}
use Rattle.run_work.proofs.RunDevices.{all_with, each_log}
use Rattle.run_work.proofs.hosts.host_crew.Goals as goal
use Rattle.run_work.specs.Runs.{reporting}
use Rattle.run_work.specs.Writings.{Writing, writing_of}
use Rattle.snap_work.specs.Works.{work_of}

pub crew_on_logs-hosted-requires-clause-open : goal.crew_on_logs-hosted-requires-clause-open
crew_on_logs-hosted-requires-clause-open g c κs within =
    let opens = c.in-Ok.ensures.opens in
    each_log (λ (l : LogState). l.shut ≡ false) c.in-Ok.opened.logs.items (λ n lt. (opens.3.log n (omega (arith, lt, opens.3.as_many))).1.ready)

pub crew_on_logs-hosted-requires-clause-format : goal.crew_on_logs-hosted-requires-clause-format
crew_on_logs-hosted-requires-clause-format g c κs within =
    let opens = c.in-Ok.ensures.opens in
    each_log (λ (l : LogState). l.format ≡ 2) c.in-Ok.opened.logs.items (λ n lt. (opens.3.log n (omega (arith, lt, opens.3.as_many))).1.second)

pub crew_on_logs-hosted-requires-clause-ends : goal.crew_on_logs-hosted-requires-clause-ends
crew_on_logs-hosted-requires-clause-ends g c κs within =
    each_log (λ (l : LogState). l.end ≤ 9223372041149743104) c.in-Ok.opened.logs.items (λ n lt. omega (arith, c.in-Ok.ensures.ends n (omega (arith, lt, c.in-Ok.ensures.logs.0))))

pub returns-in-Ok-clause-left : goal.returns-in-Ok-clause-left
returns-in-Ok-clause-left g c =
    let told = g.D.LogDev.told in
    let faults = g.D.LogDev.faults in
    let w = work_of c.args.work in
    let x = c.in-Ok.opened in
    let before = devices_of told faults c.args.devices.items in
    let after = devices_of told faults c.close.new.devices.items in
    let left = c.open_run.new.devices in
    let others = devices_of told faults left.items in
    let made = c.crew_on_logs-hosted.result in
    let out : Writing = writing_of g.O.Sink c.args.out made.out in
    let is = c.in-Ok.ensures in
    let size : length others ≡ length left.items = length-map left.items (λ d. record { told = told d; faults = faults d }) in
    let behind : x.head ≤ length others = omega (arith, size, is.logs.2, left.ok.0) in
    let within : x.head + w.logs ≤ 4 = omega (arith, is.logs.0, is.logs.1, is.logs.2) in
    hosted_on reporting w free x.opening x.head before (all_with x.head x.logs.items others) after others x.logs.items made.logs.items out made.hosted c.as_slice.result.now is.opens.0 is.opens.1
    c.as_slice.ensures is.opens.3 is.opens.2 is.room behind within refl c.close.ensures.devices c.crew_on_logs-hosted.ensures.head c.crew_on_logs-hosted.ensures.hosted

pub returns-in-Err-clause-left : goal.returns-in-Err-clause-left
returns-in-Err-clause-left g c =
    let before = devices_of g.D.LogDev.told g.D.LogDev.faults c.args.devices.items in
    let after = devices_of g.D.LogDev.told g.D.LogDev.faults c.open_run.new.devices.items in
    (unbegun (work_of c.args.work) before after c.in-Err.no c.as_slice.result.now c.as_slice.ensures c.in-Err.ensures.refused c.in-Err.ensures.safe c.in-Err.ensures.complete, (refl, refl))
