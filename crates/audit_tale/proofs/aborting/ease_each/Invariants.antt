use Rattle.std.proofs.Common.{take}
use Rattle.protocol.specs.Words.{is_among}
use Rattle.audit_tale.specs.Touching.{AreEased}
use Rattle.audit_tale.proofs.aborting.ease_each.Given as goal

abbrev pub invariant-loop-at : goal.invariant-loop-at
invariant-loop-at l = AreEased (λ i. is_among i (take l.at-index l.going)) l.acts l.fn.ties l.ties
