use Rattle.std.proofs.Common.{length}
use Rattle.snap_recover.proofs.Whole.{bids_small, commits_small, tids_small}
use Rattle.snap_recover.proofs.recovery.opening.Goals as goal

pub next_numbers-next-requires : goal.next_numbers-next-requires
next_numbers-next-requires c = record {
  tids = tids_small (length c.args.first.now) c.args.logs.now c.requires.begun.range;
  bids = bids_small (length c.args.first.now) c.args.logs.now c.requires.begun.range;
  commits = commits_small (length c.args.first.now) c.args.logs.now c.requires.begun.range;
}
