use Rattle.snap_recover.specs.declared.kinds.Kind.TheVariants as kinds
use Rattle.snap_recover.specs.Passes.{commit_key}
use Rattle.snap_recover.proofs.Steps.{same_at}
use Rattle.snap_recover.proofs.Placing.{infos_begin, infos_through, infos_end}
use Rattle.snap_recover.proofs.commits.gathered.Goals as goal

pub loop-i-init : goal.loop-i-init
loop-i-init c = infos_begin (commit_key kinds.Batch) c.args.logs.now c.new-places.result.items c.new-places.ensures.items

pub loop-i-preserved : goal.loop-i-preserved
loop-i-preserved c =
    let here = same_at c.args.logs.now c.loop-i.i c.index-logs-i.result c.as_slice.result.now c.as_slice.ensures c.index-logs-i.is in
    infos_through (commit_key kinds.Batch) c.args.logs.now c.loop-i.i c.as_slice.result.now c.loop-i.places.items c.add_commits.new.places.items
    c.loop-i-test.true here c.in_ok-add_commits.ensures c.loop-i.invariant

pub returns : goal.returns
returns c = infos_end (commit_key kinds.Batch) c.args.logs.now c.loop-i.i c.loop-i.places.items c.requires.some c.loop-i-test.false c.loop-i.invariant
