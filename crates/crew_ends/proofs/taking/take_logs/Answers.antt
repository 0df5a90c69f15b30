use Rattle.std.proofs.Common.{◌∙◌, ◌+◌, ◌-◌, arith, refl, ap, sym, length}
use Rattle.crew_ends.specs.Lists.{besides_of, gathered}
use Rattle.crew_ends.proofs.OneOver.{front_of_front, whole_front}
use Rattle.crew_ends.proofs.TakenApart.{as_many, ends_with_journal}
use Rattle.crew_ends.proofs.taking.take_logs.Goals as goal

pub loop-taken-init : goal.loop-taken-init
loop-taken-init g c = record {
  parts = refl;
  front = whole_front (besides_of c.args.shares.now.items);
  journals = ap (gathered (besides_of c.args.shares.now.items)) c.requires.empty;
  fewer = omega arith;
  more = omega arith;
  room = refl;
  logs = c.args.logs.now.ok.0 ∙ ap length c.requires.empty;
  capacity = refl;
}

pub take_log-requires-clause-last : goal.take_log-requires-clause-last
take_log-requires-clause-last g c = ends_with_journal c.args.count (c.args.count - (c.loop-taken._taken + 1)) (besides_of c.args.shares.now.items) (besides_of c.loop-taken.shares.items) c.requires.journals c.loop-taken.invariant.front
    (as_many c.loop-taken.shares.items _ (sym c.loop-taken.shares.ok.0 ∙ omega arith)) (omega arith)

pub loop-taken-preserved : goal.loop-taken-preserved
loop-taken-preserved g c = record {
  parts = c.take_log.ensures.parts ∙ c.loop-taken.invariant.parts;
  front = front_of_front (besides_of c.take_log.new.shares.items) (besides_of c.loop-taken.shares.items) (besides_of c.args.shares.now.items) c.take_log.ensures.front c.loop-taken.invariant.front;
  journals = c.take_log.ensures.journals ∙ c.loop-taken.invariant.journals;
  fewer = omega arith;
  more = omega arith;
  room = c.take_log.ensures.room ∙ c.loop-taken.invariant.room;
  logs = omega arith;
  capacity = c.take_log.ensures.logs ∙ c.loop-taken.invariant.capacity;
}
