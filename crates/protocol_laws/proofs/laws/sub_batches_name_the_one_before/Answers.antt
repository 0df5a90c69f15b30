use Rattle.protocol_laws.proofs.first.EpochsKept.{epochs_agree}
use Rattle.protocol_laws.proofs.laws.sub_batches_name_the_one_before.Goals as goal

pub returns : goal.returns
returns g c = epochs_agree
