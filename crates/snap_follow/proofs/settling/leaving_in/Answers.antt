use Rattle.snap_recover.proofs.Steps.{same_at}
use Rattle.snap_follow.proofs.Leaving.{leaving_through, leaving_end}
use Rattle.snap_follow.proofs.settling.leaving_in.Goals as goal

pub loop-i-preserved : goal.loop-i-preserved
loop-i-preserved c =
    let now = c.args.now.now in
    let rs = c.as_slice-rs.result.now in
    let here = same_at now c.loop-i.i c.index-now-i.result rs c.as_slice-rs.ensures c.index-now-i.is in
    leaving_through c.args.first.now c.args.there.now c.args.taken.now c.args.set.now now c.loop-i.i rs c.loop-i.leaving c.add_leaving.new.leaving c.loop-i-test.true here c.in_ok-add_leaving.ensures c.loop-i.invariant

pub returns : goal.returns
returns c = leaving_end c.args.first.now c.args.there.now c.args.taken.now c.args.set.now c.args.now.now c.loop-i.i c.loop-i.leaving c.requires.some c.loop-i-test.false c.loop-i.invariant
