use denote.Param.Send.{sendable}
use Rattle.crew_workers.proofs.SharedTables.{tables}
use Rattle.crew_workers.proofs.workers.work_together.Goals as goal

pub work_in_threads-requires-sync-P-Tables : goal.work_in_threads-requires-sync-P-Tables
work_in_threads-requires-sync-P-Tables g c κs within = search (tables, sendable)
