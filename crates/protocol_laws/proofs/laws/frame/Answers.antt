use Rattle.protocol_laws.proofs.first.Frames.{frame}
use Rattle.protocol_laws.proofs.laws.frame.Goals as goal

pub returns : goal.returns
returns g c = frame
