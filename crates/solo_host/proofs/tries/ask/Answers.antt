use Rattle.std.proofs.Common.{refl}
use Rattle.solo_host.proofs.tries.ask.Goals as goal

pub returns-then-is_allowed : goal.returns-then-is_allowed
returns-then-is_allowed c = (c.is_allowed.ensures.allowed c.if-is_allowed.true, refl)

pub returns-else-is_allowed : goal.returns-else-is_allowed
returns-else-is_allowed c = (c.is_allowed.ensures.refused c.if-is_allowed.false, refl)
