use Rattle.std.proofs.Common.{◌≡◌, ◌≤◌, ◌+◌, ◌-◌, List, length, take, drop, vec_len, vec_capacity}
use Rattle.std.specs.List.{AllZip}
use Rattle.log_opening.specs.Devices.{Device, devices_now}
use Rattle.log_opening.specs.Found.{AreFound, IsReadyLog}
use Rattle.log_opening.proofs.openings.open_logs.Given as goal

abbrev pub invariant-loop-alloc : goal.invariant-loop-alloc
invariant-loop-alloc g l = record {
  len : vec_len l.opened.logs + vec_len l.devices ≡ vec_len l.fn.opened.logs + vec_len l.fn.devices;
  room : vec_capacity l.opened.logs ≡ vec_capacity l.fn.opened.logs;
  room_back : vec_capacity l.devices ≡ vec_capacity l.fn.devices;
  same : length l.opened.found ≡ vec_len l.opened.logs;
  from : length l.fn.opened.found ≤ length l.opened.found;
  more : vec_len l.opened.logs ≤ l.count;
  rest : drop (l.count - vec_len l.opened.logs) l.devices.items ≡ drop (l.count - vec_len l.fn.opened.logs) l.fn.devices.items;
  kept : take (length l.fn.opened.found) l.opened.found ≡ l.fn.opened.found;
  found : (before : List Device) → AreFound before (devices_now g.D.LogDev.told g.D.LogDev.faults l.fn.opened.logs.items l.fn.devices.items) l.fn.opened.found
      → AreFound before (devices_now g.D.LogDev.told g.D.LogDev.faults l.opened.logs.items l.devices.items) l.opened.found;
  ready : AllZip IsReadyLog l.fn.opened.logs.items l.fn.opened.found → AllZip IsReadyLog l.opened.logs.items l.opened.found;
}

abbrev pub decreases-loop-alloc : goal.decreases-loop-alloc
decreases-loop-alloc g l = l.count - vec_len l.opened.logs
