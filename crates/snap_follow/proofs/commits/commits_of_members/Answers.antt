use Rattle.snap_follow.proofs.Named.{members_none, members_step, members_end}
use Rattle.snap_follow.proofs.commits.commits_of_members.Goals as goal

pub loop-member-init : goal.loop-member-init
loop-member-init c = members_none c.no_commits-set.result c.no_commits-set.ensures

pub loop-member-preserved : goal.loop-member-preserved
loop-member-preserved c =
    members_step c.args.members.now c.loop-member.member-index c.member-item.result c.key_of_commit.result c.loop-member.set c.add.new.set c.loop-member-test.true c.member-item.is c.key_of_commit.ensures.key c.in_ok-add.ensures c.loop-member.invariant

pub returns : goal.returns
returns c = members_end c.args.members.now c.loop-member.member-index c.loop-member.set c.loop-member-test.false c.loop-member.invariant
