use Rattle.std.proofs.Common.{arith}
use Rattle.std.proofs.lemmas.List.{get_or_default}
use Rattle.ready_renewal.proofs.KeptEvents.{all_out, none_out, one_out}
use Rattle.ready_renewal.proofs.revising.take_out.Goals as goal

pub loop-e-init : goal.loop-e-init
loop-e-init c = record { room = λ k. omega arith; out = none_out c.args.list.now.events }

pub loop-e-preserved : goal.loop-e-preserved
loop-e-preserved c = record {
  room = λ k. omega (arith, c.take.ensures.no_less k, c.loop-e.invariant.room k);
  out =
      one_out c.args.gone.now c.loop-e.e-index _ c.args.list.now.events c.loop-e.list.events c.take.new.self.events
      c.loop-e-test.true (get_or_default c.args.gone.now c.loop-e.e-index _ _ c.loop-e-test.true) c.one_is_taken.ensures.others c.one_is_taken.ensures.kept c.events_stay_in_order.ensures.without
      c.loop-e.invariant.out c.take.ensures.events;
}

pub returns-clause-without : goal.returns-clause-without
returns-clause-without c = all_out c.args.gone.now c.loop-e.e-index c.args.list.now.events c.loop-e.list.events c.loop-e-test.false c.loop-e.invariant.out
