use Rattle.std.proofs.Common.{◌≡◌, List, length}
use Rattle.std.specs.Prelude.{string_bytes}
use Rattle.protocol.specs.Events.{Event}
use Rattle.snap_core.specs.Cores.{IsAt, state_at}
use Rattle.snap_core.specs.snap_hand.Tables.{fixed_of}
use Rattle.solo_host.specs.Together.{AreLeading}
use Rattle.solo_host.proofs.together.gather.Given as goal

-- those at the places so far
abbrev pub invariant-loop-place : goal.invariant-loop-place
invariant-loop-place l = record {
  many : length l.replies.items ≡ l.place;
  leading : (es : List Event) → IsAt l.core es → AreLeading (fixed_of l.core.tables) (state_at l.core es) l.list.events l.replies.items (string_bytes l.text);
}
