use Rattle.log_compact.proofs.OneFront.{one_front}
use Rattle.log_compact.proofs.set_laws.one_front.Goals as goal

pub returns : goal.returns
returns c = one_front c.one_record.ensures
