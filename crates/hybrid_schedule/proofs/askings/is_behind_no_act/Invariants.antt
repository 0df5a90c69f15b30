use Rattle.std.proofs.Common.{◌≡◌, true, drop}
use Rattle.protocol.specs.Words.{is_batch_entry}
use Rattle.hybrid_schedule.specs.Schedules.{is_behind_no_act}
use Rattle.hybrid_schedule.proofs.Reaching.{reaches, is_no_act}
use Rattle.hybrid_schedule.proofs.askings.is_behind_no_act.Given as goal

abbrev pub invariant-loop-e : goal.invariant-loop-e
invariant-loop-e l = is_behind_no_act l.k.0 l.entries ≡ reaches (is_batch_entry l.k.0) is_no_act true (drop l.e-index l.entries)
