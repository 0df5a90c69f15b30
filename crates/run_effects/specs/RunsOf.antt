-- What holds of the runs of a text, for who appends and prints what they give.
use Rattle.std.specs.Prelude.{◌≡◌, ℕ, ◌+◌, ◌*◌, ◌≤◌, List, length}
use Rattle.run_effects.specs.Sizes.{most_bytes}
use Rattle.protocol.specs.Events.{Event}
use Rattle.protocol.specs.Fixed.{Fixed}
use Rattle.protocol.specs.Runs.{IsRun, reached}
use Rattle.protocol_theorems.specs.Left.{most_events}
use Rattle.record_log.specs.Growth.{end_behind_groups, MayAppendGroup}
use Rattle.record_log.specs.declared.limits.TheConstants.{FARTHEST_APPEND}
use Rattle.run_effects.specs.Groups.{group_behind, groups_of}
use Rattle.run_effects.specs.Laws.{GroupsGrow, RepliesGrow}

-- They end; they keep the text's logs; what waits on a log may be appended there, and the gate does not go far; and with one more event
-- what is appended and printed grows by that of the event.
pub record RunsOf {C : Type 0} (w : Fixed C) : Type 0 where
  pub end : (es : List Event) → IsRun w es → length es ≤ most_events * length w.text.txs
  pub logs : (es : List Event) → IsRun w es → length (reached w es).logs ≡ w.text.logs
  pub fits : (es : List Event) (l end : ℕ) → IsRun w es → end ≤ FARTHEST_APPEND + most_bytes → MayAppendGroup end (group_behind w l es)
  pub near : (es : List Event) (l end : ℕ) → IsRun w es → end ≤ FARTHEST_APPEND → end_behind_groups end (groups_of w l es) ≤ end + most_bytes
  pub grow : GroupsGrow w
  pub replies : (es : List Event) → IsRun w es → RepliesGrow w es
