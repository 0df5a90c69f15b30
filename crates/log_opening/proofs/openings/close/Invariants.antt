use Rattle.std.proofs.Common.{◌≡◌, ◌+◌, ◌-◌, ◌≤◌, take, drop, vec_len, vec_capacity}
use Rattle.log_opening.specs.Devices.{devices_with}
use Rattle.log_opening.proofs.openings.close.Given as goal

abbrev pub invariant-loop-log : goal.invariant-loop-log
invariant-loop-log g l = record {
  len : vec_len l.logs + vec_len l.devices ≡ vec_len l.fn.logs + vec_len l.fn.devices;
  room : vec_len l.logs + vec_len l.devices ≤ vec_capacity l.devices;
  behind : l.head ≤ vec_len l.devices;
  same : devices_with g.D.LogDev.told g.D.LogDev.faults l.head l.logs.items l.devices.items ≡ devices_with g.D.LogDev.told g.D.LogDev.faults l.head l.fn.logs.items l.fn.devices.items;
  front : take l.head l.devices.items ≡ take l.head l.fn.devices.items;
  rest : drop (l.head + (vec_len l.fn.logs - vec_len l.logs)) l.devices.items ≡ drop l.head l.fn.devices.items;
  fewer : vec_len l.logs ≤ vec_len l.fn.logs;
  capacity : vec_capacity l.devices ≡ vec_capacity l.fn.devices;
}

abbrev pub decreases-loop-log : goal.decreases-loop-log
decreases-loop-log g l = vec_len l.logs
