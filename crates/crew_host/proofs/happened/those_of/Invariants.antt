use Rattle.std.proofs.Common.{◌≡◌, ◌≤◌, map, take}
use Rattle.std.specs.Vec.{vec_capacity, vec_len}
use Rattle.core_events.specs.Meant.{event_meant}
use Rattle.crew_parts.specs.Crews.{kept}
use Rattle.crew_host.proofs.happened.those_of.Given as goal

-- those of the acts so far, each at most one
abbrev pub invariant-loop-act : goal.invariant-loop-act
invariant-loop-act l = record {
  so_far : map event_meant l.events.items ≡ kept (take l.act-index l.acts);
  few : vec_len l.events ≤ l.act-index;
  room : vec_capacity l.events ≡ vec_capacity l.fn.room;
}
