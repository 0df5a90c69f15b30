use Rattle.protocol_records.proofs.recording.RecordsHold.{added_once}
use Rattle.protocol_records.proofs.records.records_are_added_once.Goals as goal

pub returns : goal.returns
returns g c = added_once
