use Rattle.snap_follow.proofs.Named.{none_named}
use Rattle.snap_follow.proofs.commits.no_commits.Goals as goal

pub returns : goal.returns
returns c = none_named _ c.new.ensures.empty c.new-2.ensures.empty
