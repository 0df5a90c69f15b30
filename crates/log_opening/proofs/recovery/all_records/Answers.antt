use Rattle.std.proofs.Common.{List, ap}
use Rattle.log_opening.specs.Devices.{devices_of, devices_now}
use Rattle.log_opening.proofs.Flow.{ended_for_memory, read_back}
use Rattle.log_opening.proofs.recovery.all_records.Goals as goal

pub returns-in_default-clause-read : goal.returns-in_default-clause-read
returns-in_default-clause-read g c = ended_for_memory (devices_of g.D.LogDev.told g.D.LogDev.faults c.args.devices.now.items)

pub returns-clause-read : goal.returns-clause-read
returns-clause-read g c =
    let told = g.D.LogDev.told in
    let faults = g.D.LogDev.faults in
    read_back c.open_and_read-answer.result (λ x. x.1.head) (λ x. x.0) (devices_of told faults c.args.devices.now.items) (devices_of told faults c.close.new.devices.items)
    (devices_now told faults c.open_and_read-answer.new.opened.logs.items c.open_and_read-answer.new.devices.items)
    (devices_now told faults c.in-Ok.opened.logs.items c.args.devices.now.items)
    (ap (λ (l : List _). devices_now told faults l c.args.devices.now.items) c.in-Ok.ensures.logs)
    c.close.ensures.devices c.open_and_read-answer.ensures.read
