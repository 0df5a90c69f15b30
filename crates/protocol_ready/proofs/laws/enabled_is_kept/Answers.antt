use Rattle.protocol.specs.Runs.{reached}
use Rattle.protocol_ready.proofs.Revised.{revised_enabled}
use Rattle.protocol_ready.proofs.Sound.{sound}
use Rattle.protocol_ready.proofs.laws.enabled_is_kept.Goals as goal

pub returns : goal.returns
returns g c w es e again all text run al more en = revised_enabled w e (reached w es) again all (c.frame.ensures w) (c.allowed_or_refused.ensures w) (sound w es c.numbers_are_drawn_once.ensures text run) al more en
