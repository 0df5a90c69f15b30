use Rattle.snap_follow.proofs.Named.{home_is_of_commit, batches_add, acts_add, batches_quiet, acts_quiet}
use Rattle.snap_follow.proofs.reading.add_record.Goals as goal

pub returns-in_default : goal.returns-in_default
returns-in_default c = record {
  batches = batches_quiet c.args.log c.args.logs c.args.r.now c.args.set.now c.in_default.ensures;
  acts = acts_quiet c.args.log c.args.logs c.args.r.now c.args.set.now c.in_default.ensures;
}

pub add-requires : goal.add-requires
add-requires c = home_is_of_commit c.args.log c.args.logs c.in-Some.key c.in-Some.ensures.0

pub returns : goal.returns
returns c = record {
  batches = batches_add c.args.log c.args.logs c.args.r.now c.in-Some.key c.args.set.now c.add.new.set c.in-Some.ensures.0 c.in-Some.ensures.1 c.in_ok-add.ensures;
  acts = acts_add c.args.log c.args.logs c.args.r.now c.in-Some.key c.args.set.now c.add.new.set c.in-Some.ensures.0 c.in-Some.ensures.1 c.in_ok-add.ensures;
}
