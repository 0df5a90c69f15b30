use Rattle.std.proofs.Common.{◌≡◌, vec_len}
use Rattle.log_opening.specs.Devices.{devices_of}
use Rattle.log_following.specs.Readings.{AreUntouched}
use Rattle.log_following.proofs.Going.{IsGoing}
use Rattle.log_following.proofs.following.follow.Given as goal

abbrev pub invariant-loop-round : goal.invariant-loop-round
invariant-loop-round g l = record {
  going : IsGoing (devices_of g.D.LogDev.told g.D.LogDev.faults l.fn.devices.items) l.set.head l.set.logs l._round l.follower l.counts;
  untouched : AreUntouched (devices_of g.D.LogDev.told g.D.LogDev.faults l.fn.devices.items) (devices_of g.D.LogDev.told g.D.LogDev.faults l.devices.items);
  four : vec_len l.devices ≡ 4;
}
