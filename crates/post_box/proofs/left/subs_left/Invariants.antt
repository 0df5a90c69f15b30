use Rattle.std.proofs.Common.{◌≤◌, length}
use Rattle.protocol.proofs.Totals.{IsCounted}
use Rattle.protocol.specs.Left.{sub_left}
use Rattle.post_box.specs.Kept.{entry_message}
use Rattle.post_box.specs.Shown.{sub_shown}
use Rattle.post_box.proofs.left.subs_left.Given as goal

abbrev pub invariant-loop-i : goal.invariant-loop-i
invariant-loop-i l = (l.i ≤ length l.messages.entries) × IsCounted (λ e. sub_left (sub_shown (entry_message e))) l.messages.entries l.i l.left
