use Rattle.protocol_records.proofs.recording.RecordsHold.{marks_durable}
use Rattle.protocol_records.proofs.records.marks_are_durable.Goals as goal

pub returns : goal.returns
returns g c = marks_durable
