use Rattle.protocol_records.proofs.recording.RecordsHold.{all_told}
use Rattle.protocol_records.proofs.records.records_tell_what_is.Goals as goal

pub returns : goal.returns
returns g c = all_told
