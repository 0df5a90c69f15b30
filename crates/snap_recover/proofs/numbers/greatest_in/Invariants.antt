use Rattle.std.proofs.Common.{◌≡◌, max, take}
use Rattle.std.specs.List.{flat_map}
use Rattle.snap_recover.specs.Logs.{bids_in, tids_in, commits_in}
use Rattle.snap_recover.specs.Opening.{greatest}
use Rattle.snap_recover.proofs.numbers.greatest_in.Given as goal

abbrev pub invariant-loop-r : goal.invariant-loop-r
invariant-loop-r l = record {
  tid : l.most.tid ≡ max l.fn.so_far.tid (greatest (flat_map tids_in (take l.r-index l.rs)));
  bid : l.most.bid ≡ max l.fn.so_far.bid (greatest (flat_map bids_in (take l.r-index l.rs)));
  commit : l.most.commit ≡ max l.fn.so_far.commit (greatest (flat_map commits_in (take l.r-index l.rs)));
}
