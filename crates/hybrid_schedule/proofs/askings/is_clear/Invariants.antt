use Rattle.std.proofs.Common.{◌≡◌, drop}
use Rattle.protocol.specs.Words.{is_clear, is_entry_of}
use Rattle.hybrid_schedule.proofs.Reaching.{clears}
use Rattle.hybrid_schedule.proofs.askings.is_clear.Given as goal

abbrev pub invariant-loop-place : goal.invariant-loop-place
invariant-loop-place l = is_clear l.t.0 l.entries ≡ clears (is_entry_of l.t.0) l.behind_reader (drop l.place-index l.entries)
