use Rattle.std.proofs.Common.{◌≡◌, take}
use Rattle.std.specs.List.{flat_map}
use Rattle.snap_recover.specs.Logs.{all_of, bids_in, tids_in, commits_in}
use Rattle.snap_recover.specs.Opening.{greatest}
use Rattle.snap_recover.proofs.numbers.greatest_over.Given as goal

abbrev pub invariant-loop-rs : goal.invariant-loop-rs
invariant-loop-rs l = record {
  tid : l.most.tid ≡ greatest (flat_map tids_in (all_of (take l.rs-index l.logs)));
  bid : l.most.bid ≡ greatest (flat_map bids_in (all_of (take l.rs-index l.logs)));
  commit : l.most.commit ≡ greatest (flat_map commits_in (all_of (take l.rs-index l.logs)));
}
