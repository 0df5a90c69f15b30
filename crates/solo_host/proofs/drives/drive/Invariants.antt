use Rattle.std.proofs.Common.{◌≡◌, ◌-◌, ◌*◌, length, map}
use Rattle.snap_core.specs.core_events.Meant.{event_meant}
use Rattle.snap_core.specs.protocol_theorems.Left.{most_events}
use Rattle.snap_core.specs.Cores.{IsAt}
use Rattle.snap_core.specs.snap_hand.Tables.{fixed_of}
use Rattle.snap_outside.specs.Causes.{EndsAtFault}
use Rattle.solo_host.specs.Outside.{outside}
use Rattle.solo_host.specs.Turns.{IsBehindWords, IsOneBehind}
use Rattle.solo_host.specs.Together.{IsDriving}
use Rattle.solo_host.proofs.drives.drive.Given as goal

-- what was kept is a front of the schedule to which the core has come, and the outside got its groups and lines
abbrev pub invariant-turns : goal.invariant-turns
invariant-turns g l = record {
  at : IsAt l.core (map event_meant l.kept.items);
  tables : l.core.tables ≡ l.fn.core.tables;
  drawn : IsBehindWords l.seed (length (map event_meant l.kept.items)) l.generator;
  behind : IsOneBehind l.seed (fixed_of l.fn.core.tables) (map event_meant l.kept.items) l.list.events (map event_meant l.news.items);
  driving : IsDriving (fixed_of l.fn.core.tables) l.seed (map event_meant l.kept.items)
      (outside l.fn.logs.items (g.O.Sink.taken l.fn.out) (g.O.Sink.faults l.fn.out)) (outside l.logs.items (g.O.Sink.taken l.out) (g.O.Sink.faults l.out));
  once : EndsAtFault (Unit {0}) (g.O.Sink.faults l.fn.out) (g.O.Sink.late l.fn.out) (g.O.Sink.faults l.out) (g.O.Sink.late l.out);
}

-- a run has at most so many events a transaction
abbrev pub decreases-turns : goal.decreases-turns
decreases-turns g l = most_events * length (fixed_of l.fn.core.tables).text.txs - length l.kept.items
