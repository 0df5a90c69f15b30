use Rattle.std.proofs.Common.{take}
use Rattle.audit_tale.specs.Coming.{is_kept_among, lowered_act}
use Rattle.audit_tale.specs.Touching.{AreTouched}
use Rattle.audit_tale.proofs.arriving.lower_all.Given as goal

abbrev pub invariant-loop-who : goal.invariant-loop-who
invariant-loop-who l = AreTouched (lowered_act l.k l.a) (is_kept_among l.owners (take l.who-index l.entries)) l.fn.acts l.acts
