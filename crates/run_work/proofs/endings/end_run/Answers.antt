use Rattle.std.proofs.Common.{List, subst}
use Rattle.snap_core.specs.core_events.declared.events.Event.{Event}
use Rattle.run_work.proofs.AtFault.{traced_stood}
use Rattle.run_work.proofs.endings.end_run.Goals as goal
use Rattle.run_work.specs.Printings.{printing_of}
use Rattle.run_work.specs.Untraced.{IsTraced}
use Rattle.run_work.specs.Writings.{Writing, writing_of}
use Rattle.snap_outside.proofs.AtFault.{surely}

pub returns-clause-ended : goal.returns-clause-ended
returns-clause-ended g c =
    let trace : Writing = writing_of g.T.Sink c.args.trace.now c.traced-status.new.trace in
    let before = c.end_untraced-kept.result.1 in
    record {
      before = before;
      untraced = c.end_untraced-kept.ensures.ended;
      traced = subst (λ (kept : List Event). IsTraced trace kept before c.traced-status.result) c.as_slice.ensures.value c.traced-status.ensures.traced;
    }

pub returns-clause-out_once : goal.returns-clause-out_once
returns-clause-out_once g c =
    let trace : Writing = writing_of g.T.Sink c.args.trace.now c.traced-status.new.trace in
    surely _ _ _ _ (traced_stood (printing_of c.args.told) trace c.as_slice.result.now c.end_untraced-kept.result.1 c.traced-status.result c.traced-status.ensures.traced) c.end_untraced-kept.ensures.once
