use Rattle.std.proofs.Common.{take}
use Rattle.audit_tale.specs.Coming.{is_kept_among}
use Rattle.audit_tale.specs.Touching.{AreEased}
use Rattle.audit_tale.proofs.arriving.ease_all.Given as goal

abbrev pub invariant-loop-who : goal.invariant-loop-who
invariant-loop-who l = AreEased (is_kept_among l.owners (take l.who-index l.entries)) l.acts l.fn.ties l.ties
