use Rattle.std.proofs.Common.{take}
use Rattle.snap_follow.specs.Passes.{HasMembers}
use Rattle.snap_follow.proofs.commits.commits_of_members.Given as goal

abbrev pub invariant-loop-member : goal.invariant-loop-member
invariant-loop-member l = HasMembers (take l.member-index l.members) l.set
