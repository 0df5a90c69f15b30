use Rattle.std.proofs.Common.{◌∙◌, arith, refl}
use Rattle.crew_ends.specs.Lists.{besides_of}
use Rattle.crew_ends.proofs.OneOver.{one_less, whole_front}
use Rattle.crew_ends.proofs.taking.take_bare.Goals as goal

pub loop-taken-init : goal.loop-taken-init
loop-taken-init g c = record {
  parts = refl;
  front = whole_front (besides_of c.args.shares.now.items);
  fewer = omega arith;
  more = omega arith;
  room = refl;
}

pub loop-taken-preserved : goal.loop-taken-preserved
loop-taken-preserved g c = record {
  parts = c.take_last-beside.ensures.parts ∙ c.loop-taken.invariant.parts;
  front = one_less (besides_of c.take_last-beside.new.shares.items) (besides_of c.loop-taken.shares.items) (besides_of c.args.shares.now.items) c.take_last-beside.result c.loop-taken.invariant.front c.take_last-beside.ensures.beside;
  fewer = omega arith;
  more = omega arith;
  room = c.take_last-beside.ensures.room ∙ c.loop-taken.invariant.room;
}
