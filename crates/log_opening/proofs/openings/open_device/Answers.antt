use Rattle.log_opening.specs.Devices.{Device}
use Rattle.log_opening.proofs.Opening.{found_on}
use Rattle.log_opening.proofs.openings.open_device.Goals as goal

pub returns-in-Ok : goal.returns-in-Ok
returns-in-Ok g c =
    let d : Device = record { told = g.D.LogDev.told c.args.dev; faults = g.D.LogDev.faults c.args.dev } in
    let is = c.in-Ok.ensures in
    found_on d c.in-Ok.log c.take_found-found.new.self c.take_found-found.result is.opened
    (c.opening_keeps.ensures d.told c.in-Ok.log.told c.in-Ok.log.end c.in-Ok.log.found is.opened is.crashes)
    is.log is.placed is.format is.formats.0 is.open is.end is.later c.take_found-found.ensures.items c.take_found-found.ensures.others
