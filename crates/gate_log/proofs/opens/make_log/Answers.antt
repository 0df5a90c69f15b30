use Rattle.gate_log.proofs.OpenDisks.{write_then_sync}
use Rattle.gate_log.proofs.opens.make_log.Goals as goal

pub returns-clause-told : goal.returns-clause-told
returns-clause-told g c = write_then_sync _ _ _ _ c.sync.result c.in_ok-write_at.ensures.history c.sync.ensures.history
