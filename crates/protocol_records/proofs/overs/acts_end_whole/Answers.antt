use Rattle.protocol_records.proofs.crash.ActsOver.{acts_end_whole}
use Rattle.protocol_records.proofs.overs.acts_end_whole.Goals as goal

pub returns : goal.returns
returns g c = acts_end_whole
