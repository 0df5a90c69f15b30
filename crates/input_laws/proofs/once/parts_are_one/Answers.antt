use Rattle.input_laws.proofs.LastLines.{no_lack, same_parts}
use Rattle.input_laws.proofs.once.parts_are_one.Goals as goal

pub returns : goal.returns
returns c = record { once = same_parts; apart = no_lack }
