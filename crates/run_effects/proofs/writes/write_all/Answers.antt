use Rattle.std.proofs.Common.{◌-◌, take, drop, length, arith, sym, subst, ◌∙◌}
use Rattle.std.proofs.lemmas.List.{take-append-drop, length-take, length-drop}
use Rattle.std.proofs.KnownBytes.{Appends-kept, Appends-trans}
use Rattle.std.specs.Io.KnownBytes.{Appends}
use Rattle.snap_base.proofs.Options.{on_any_err}
use Rattle.run_effects.proofs.Pieces.{take_on}
use Rattle.snap_outside.proofs.AtFault.{failed_call}
use Rattle.run_effects.proofs.writes.write_all.Goals as goal

pub returns-in_err-at-clause-front : goal.returns-in_err-at-clause-front
returns-in_err-at-clause-front g c =
    on_any_err _ c.from_residual.result (
      take c.loop-at.at c.args.bytes.now,
      drop c.loop-at.at c.args.bytes.now,
      sym (take-append-drop c.loop-at.at c.args.bytes.now),
      Appends-kept _ _ _ _ c.loop-at.invariant.taken c.in_err-at.ensures.moved,
    )

pub returns-in_err-at-clause-once : goal.returns-in_err-at-clause-once
returns-in_err-at-clause-once g c =
    failed_call c.from_residual.result _ _ _ _ c.from_residual.ensures.0
    (λ none. c.in_err-at.ensures.late.early (c.loop-at.invariant.quiet ∙ none) ∙ c.loop-at.invariant.none_late none)

pub loop-at-preserved : goal.loop-at-preserved
loop-at-preserved g c = record {
  within = omega (arith, c.in_ok-at.ensures.count, length-take (length c.args.bytes.now - c.loop-at.at) (drop c.loop-at.at c.args.bytes.now), length-drop c.loop-at.at c.args.bytes.now);
  taken = subst (Appends (g.O.Sink.taken c.args.out.now) (g.O.Sink.taken c.write.new.self)) (take_on c.args.bytes.now c.loop-at.at c.in_ok-at.field-0)
      (Appends-trans _ _ _ _ _ c.loop-at.invariant.taken c.in_ok-at.ensures.moved);
  quiet = c.in_ok-at.ensures.quiet ∙ c.loop-at.invariant.quiet;
  none_late = λ none. c.in_ok-at.ensures.late.early (c.loop-at.invariant.quiet ∙ none) ∙ c.loop-at.invariant.none_late none;
}
