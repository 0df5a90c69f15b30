use Rattle.protocol_theorems.proofs.quiet.SchedulesHold.{schedules_hold}
use Rattle.protocol_theorems.proofs.cases.schedules_are_in_order.Goals as goal

pub returns : goal.returns
returns g c = schedules_hold
