use Rattle.std.proofs.Common.{◌≡◌}
use Rattle.crew_grip.specs.Grips.{IsAtWork}
use Rattle.crew_workers.proofs.sharing.Crew.take_free.Given as goal

abbrev pub invariant-loop-part : goal.invariant-loop-part
invariant-loop-part g l = IsAtWork l.self.turns.now l.worker.pass.seat l.worker.grip × ((l.worker.pass.entries ≡ l.initial.worker.pass.entries) × (l.worker.pass.seat.me.0.splits ≡ l.initial.worker.pass.seat.me.0.splits))
