use Rattle.std.proofs.Common.{◌≡◌, ◌++◌, drop}
use Rattle.std.specs.Prelude.{filter, not, ◌&&◌}
use Rattle.protocol.specs.Fixed.{Text}
use Rattle.audit_words.specs.Seen.{Seen}
use Rattle.audit_tale.specs.Knows.{Knows}
use Rattle.audit_tale.specs.Rivalry.{locks}
use Rattle.audit_tale.proofs.tail_group.rivals_in.Given as goal

abbrev pub invariant-loop-t : goal.invariant-loop-t
invariant-loop-t l = (w : Text) (s : Seen) → Knows w l.tale s → locks s l.met.items ++ filter (λ x. not (l.reader && x.reader)) (locks s (drop l.t-index l.tail)) ≡ filter (λ x. not (l.reader && x.reader)) (locks s l.tail)
