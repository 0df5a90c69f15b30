use Rattle.std.proofs.Common.{◌≤◌, length}
use Rattle.protocol.proofs.Totals.{IsCounted}
use Rattle.protocol.specs.Left.{control_left}
use Rattle.post_box.specs.Kept.{entry_message}
use Rattle.post_box.specs.Shown.{control_shown}
use Rattle.post_box.proofs.left.controls_left.Given as goal

abbrev pub invariant-loop-i : goal.invariant-loop-i
invariant-loop-i g l = (l.i ≤ length l.messages.entries) × IsCounted (λ e. control_left (g.W.Visits.code l.visits) (g.W.Visits.acts l.visits) (control_shown (entry_message e))) l.messages.entries l.i l.left
