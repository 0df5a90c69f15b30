use Rattle.protocol_records.proofs.recording.FewRecords.{records_few}
use Rattle.protocol_records.proofs.records.records_are_few.Goals as goal

pub returns : goal.returns
returns g c = records_few
