use Rattle.protocol_records.proofs.crash.CrashLaw.{crash_of_every_moment}
use Rattle.protocol_records.proofs.recovered.recovered_transactions_are_in_order.Goals as goal

pub returns : goal.returns
returns g c = crash_of_every_moment
