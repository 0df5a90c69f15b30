use Rattle.std.proofs.Common.{◌≡◌, vec_len}
use Rattle.log_opening.specs.Devices.{devices_of}
use Rattle.log_following.proofs.OneDevice.{AreReadBelow}
use Rattle.log_following.proofs.reading.read_all.Given as goal

abbrev pub invariant-loop-log : goal.invariant-loop-log
invariant-loop-log g l = record {
  read : AreReadBelow (devices_of g.D.LogDev.told g.D.LogDev.faults l.fn.devices.items) (devices_of g.D.LogDev.told g.D.LogDev.faults l.devices.items) l.log l.found;
  four : vec_len l.devices ≡ 4;
}
