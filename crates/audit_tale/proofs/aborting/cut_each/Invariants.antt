use Rattle.std.proofs.Common.{take}
use Rattle.protocol.specs.Words.{is_among}
use Rattle.audit_tale.specs.Cutting.{cut_act}
use Rattle.audit_tale.specs.Touching.{AreTouched}
use Rattle.audit_tale.proofs.aborting.cut_each.Given as goal

abbrev pub invariant-loop-at : goal.invariant-loop-at
invariant-loop-at l = AreTouched (cut_act l.k) (λ i. is_among i (take l.at-index l.going)) l.fn.acts l.acts
