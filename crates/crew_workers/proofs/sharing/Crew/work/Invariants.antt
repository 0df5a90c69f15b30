use Rattle.crew_workers.specs.Workers.{IsInRounds}
use Rattle.crew_workers.proofs.sharing.Crew.work.Given as goal

abbrev pub invariant-loop : goal.invariant-loop
invariant-loop g l = IsInRounds l.self.turns.now l.worker.held l.worker.pass.seat l.worker.grip
