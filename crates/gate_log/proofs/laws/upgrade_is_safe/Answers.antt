use Rattle.gate_log.proofs.Upgrades.{upgrade_gives, upgrade_keeps, second}
use Rattle.gate_log.proofs.laws.upgrade_is_safe.Goals as goal

pub returns : goal.returns
returns c = record { gives = upgrade_gives; keeps = upgrade_keeps; second = second }
