use Rattle.protocol_records.proofs.recording.NextNumbersKept.{next_numbers_stand}
use Rattle.protocol_records.proofs.numbers.next_numbers_are_above_all.Goals as goal

pub returns : goal.returns
returns g c = next_numbers_stand
