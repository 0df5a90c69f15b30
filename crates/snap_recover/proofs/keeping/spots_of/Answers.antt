use Rattle.snap_recover.specs.declared.kinds.Kind.TheVariants as kinds
use Rattle.snap_recover.proofs.Checking.{are_numbers, numbers_in}
use Rattle.snap_recover.proofs.Homes.{told_alike}
use Rattle.snap_recover.proofs.Searching.{spot_exact}
use Rattle.snap_recover.proofs.Spots.{spots_end}
use Rattle.snap_recover.proofs.keeping.spots_of.Goals as goal

pub add_acts-requires-clause-are_in : goal.add_acts-requires-clause-are_in
add_acts-requires-clause-are_in c = numbers_in kinds.Act c.args.logs.now c.args.acts.now (are_numbers kinds.Act c.args.logs.now c.args.acts.now c.requires.acts)

pub settle-requires : goal.settle-requires
settle-requires c = record { exact = spot_exact }

pub returns : goal.returns
returns c =
    let logs = c.args.logs.now in
    let told = spots_end logs c.args.batches.now c.args.acts.now c.new-spots.result.items c.add_batches.new.spots.items c.add_acts.new.spots.items (are_numbers kinds.Batch logs c.args.batches.now c.requires.batches)
    (are_numbers kinds.Act logs c.args.acts.now c.requires.acts) c.new-spots.ensures.items c.in_ok-add_batches.ensures c.in_ok-add_acts.ensures in
    record { ascend = c.settle.ensures.ascend; all = told_alike _ _ c.settle.ensures.same told }
