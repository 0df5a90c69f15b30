use Rattle.std.proofs.Common.{ℕ, ◌≤◌, map, take}
use Rattle.core_events.specs.Meant.{event_meant}
use Rattle.ready_list.specs.Order.{spare_of}
use Rattle.ready_renewal.specs.Asked.{IsWithout}
use Rattle.ready_renewal.proofs.revising.take_out.Given as goal

abbrev pub invariant-loop-e : goal.invariant-loop-e
invariant-loop-e l = record {
  room : (k : ℕ) → spare_of l.fn.list k ≤ spare_of l.list k;
  out : IsWithout (map event_meant (take l.e-index l.gone)) l.fn.list.events l.list.events;
}
