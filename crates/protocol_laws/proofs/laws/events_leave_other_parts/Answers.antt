use Rattle.protocol_laws.proofs.first.Leaves.{leaves_others}
use Rattle.protocol_laws.proofs.laws.events_leave_other_parts.Goals as goal

pub returns : goal.returns
returns g c = leaves_others
