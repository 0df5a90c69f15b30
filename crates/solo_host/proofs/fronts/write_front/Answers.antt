use Rattle.std.proofs.Common.{◌-◌, drop, length, arith, subst, ◌∙◌}
use Rattle.std.proofs.lemmas.List.{length-take, length-drop}
use Rattle.std.proofs.KnownBytes.{Appends-kept, Appends-trans}
use Rattle.std.specs.Io.KnownBytes.{Appends}
use Rattle.run_effects.proofs.Pieces.{take_on}
use Rattle.solo_host.proofs.fronts.write_front.Goals as goal

pub returns-in-Err-clause-taken : goal.returns-in-Err-clause-taken
returns-in-Err-clause-taken g c = Appends-kept _ _ _ _ c.loop-at.invariant.taken c.in-Err.ensures.moved

pub returns-in-Err-clause-once : goal.returns-in-Err-clause-once
returns-in-Err-clause-once g c = record {
  quiet = λ all. absurd (omega (arith, all, c.loop-at-test.true));
  none_late = λ none. c.in-Err.ensures.late.early (c.loop-at.invariant.quiet ∙ none) ∙ c.loop-at.invariant.none_late none;
}

pub loop-at-preserved : goal.loop-at-preserved
loop-at-preserved g c = record {
  within = omega (arith, c.in-Ok.ensures.count, length-take (length c.args.bytes.now - c.loop-at.at) (drop c.loop-at.at c.args.bytes.now), length-drop c.loop-at.at c.args.bytes.now);
  taken = subst (Appends (g.O.Sink.taken c.args.out.now) (g.O.Sink.taken c.write.new.self)) (take_on c.args.bytes.now c.loop-at.at c.in-Ok.count)
      (Appends-trans _ _ _ _ _ c.loop-at.invariant.taken c.in-Ok.ensures.moved);
  quiet = c.in-Ok.ensures.quiet ∙ c.loop-at.invariant.quiet;
  none_late = λ none. c.in-Ok.ensures.late.early (c.loop-at.invariant.quiet ∙ none) ∙ c.loop-at.invariant.none_late none;
}
