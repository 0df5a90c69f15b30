use Rattle.protocol_laws.proofs.first.Leaves.{four_at_most, ascends}
use Rattle.protocol_laws.proofs.laws.footprints_are_small.Goals as goal

pub returns : goal.returns
returns c = λ logs e some. record { few = four_at_most logs e; ascends = ascends logs some e }
