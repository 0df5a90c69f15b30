use Rattle.protocol_laws.proofs.first.PartsRead.{reads_its_parts}
use Rattle.protocol_laws.proofs.laws.events_read_their_parts.Goals as goal

pub returns : goal.returns
returns g c = reads_its_parts
