use Rattle.std.proofs.Common.{◌≡◌, ◌≤◌, map, take}
use Rattle.core_events.specs.Meant.{event_meant}
use Rattle.protocol.specs.Left.{total}
use Rattle.run_effects.specs.Replies.{commits_of, aborts_of}
use Rattle.run_printing.specs.Counted.{settled_by}
use Rattle.snap_core.specs.Cores.{state_at}
use Rattle.run_printing.proofs.counts.counts_of.Given as goal

-- what the events so far add, each at most one
abbrev pub invariant-loop-event : goal.invariant-loop-event
invariant-loop-event l = record {
  committed : l.counts.committed ≡ total (commits_of (state_at l.core (map event_meant l.kept))) (map event_meant (take l.event-index l.kept));
  aborted : l.counts.aborted ≡ total (aborts_of (state_at l.core (map event_meant l.kept))) (map event_meant (take l.event-index l.kept));
  batches : l.counts.batches ≡ total settled_by (map event_meant (take l.event-index l.kept));
  few_committed : l.counts.committed ≤ l.event-index;
  few_aborted : l.counts.aborted ≤ l.event-index;
  few_batches : l.counts.batches ≤ l.event-index;
}
