use Rattle.std.proofs.Common.{sym, ◌∙◌, arith}
use Rattle.protocol.proofs.Totals.{counted_all, counted_more}
use Rattle.protocol.specs.Left.{control_left}
use Rattle.post_box.specs.Kept.{entry_message}
use Rattle.post_box.specs.Shown.{control_shown}
use Rattle.post_box.proofs.Sorted.{none_there}
use Rattle.post_box.proofs.left.controls_left.Goals.{in-Some, in_default}
use Rattle.post_box.proofs.left.controls_left.Goals as goal

pub loop-i-preserved : goal.loop-i-preserved
loop-i-preserved g c =
    elim c.match-get_index.branch [
      | in-Some w ↦
          counted_more (λ e. control_left (g.W.Visits.code c.args.visits.now) (g.W.Visits.acts c.args.visits.now) (control_shown (entry_message e))) c.args.messages.now.entries c.loop-i.i (w.in-Some.tid.now, w.in-Some.numbered.now) c.loop-i.left c.match-get_index.left w.control_left.result
          (sym w.in-Some.ensures.entry) w.control_left.ensures (w.left-is ∙ w.saturating_add-left.ensures) c.loop-i.invariant.1
      | in_default w ↦ absurd (none_there c.args.messages.now.entries c.loop-i.i (sym w.in_default.ensures.entry) (omega (arith, c.loop-i-test.true, c.len-i-end.ensures.len)))
    ]

pub returns : goal.returns
returns g c = counted_all (λ e. control_left (g.W.Visits.code c.args.visits.now) (g.W.Visits.acts c.args.visits.now) (control_shown (entry_message e))) c.args.messages.now.entries c.loop-i.i c.loop-i.left (omega (arith, c.loop-i-test.false, c.len-i-end.ensures.len)) c.loop-i.invariant.1
