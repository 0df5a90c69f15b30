use Rattle.std.proofs.Common.{◌≡◌, ◌≤◌, ◌+◌, length, map, drop}
use Rattle.std.specs.Prelude.{vec_len, vec_capacity}
use Rattle.protocol.specs.Runs.{reached}
use Rattle.snap_core.specs.Cores.{IsAt}
use Rattle.snap_core.specs.core_events.Meant.{event_meant}
use Rattle.snap_core.specs.ready_renewal.Covering.{Covers}
use Rattle.snap_core.specs.snap_hand.Tables.{fixed_of}
use Rattle.solo_host.specs.Turns.{IsBehindWords}
use Rattle.solo_host.proofs.Replying.{IsBetween}
use Rattle.solo_host.proofs.together.take_each.Given as goal

-- the replies so far were taken, and of the lines of the others so many bytes are printed
abbrev pub invariant-loop-line : goal.invariant-loop-line
invariant-loop-line l = record {
  at : IsAt l.core (map event_meant l.kept.items);
  tables : l.core.tables ≡ l.fn.core.tables;
  between : IsBetween (fixed_of l.fn.core.tables) (map event_meant l.fn.kept.items) l.replies l.taken (map event_meant l.kept.items) (drop l.line-index l.replies) l.left;
  covers : Covers (fixed_of l.fn.core.tables) (reached (fixed_of l.fn.core.tables) (map event_meant l.kept.items)) l.list.events;
  drawn : IsBehindWords 0 (length (map event_meant l.kept.items)) l.generator;
  room : vec_len l.kept + length (drop l.line-index l.replies) ≤ vec_capacity l.kept;
  more : length l.fn.kept.items ≤ length l.kept.items;
}
