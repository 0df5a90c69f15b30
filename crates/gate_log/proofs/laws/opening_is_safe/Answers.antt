use Rattle.gate_log.proofs.Openings.{adds, refused, gives, keeps, keeps_format}
use Rattle.gate_log.proofs.laws.opening_is_safe.Goals as goal

pub returns : goal.returns
returns c = record { adds = adds; refused = refused; gives = gives; keeps = keeps; format = keeps_format }
