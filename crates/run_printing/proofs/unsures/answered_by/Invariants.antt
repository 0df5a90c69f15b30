use Rattle.std.proofs.Common.{◌≡◌, ◌<◌, ℕ, false, get_or, length, map, take}
use Rattle.core_events.specs.Meant.{event_meant}
use Rattle.protocol.specs.Report.{replied}
use Rattle.protocol.specs.Words.{is_among}
use Rattle.run_printing.proofs.unsures.answered_by.Given as goal

-- of each transaction it is known whether the events so far answer it
abbrev pub invariant-loop-event : goal.invariant-loop-event
invariant-loop-event l = record {
  count : length l.answered.items ≡ l.count;
  answered : (n : ℕ) → n < l.count → get_or l.answered.items n false ≡ is_among n (replied (map event_meant (take l.event-index l.kept)));
}
