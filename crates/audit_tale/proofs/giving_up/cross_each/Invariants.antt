use Rattle.std.proofs.Common.{take}
use Rattle.protocol.specs.Fixed.{Text}
use Rattle.audit_words.specs.Happenings.{give_up}
use Rattle.audit_words.specs.Seen.{Seen}
use Rattle.audit_tale.specs.GivenUp.{MayGiveUp, crossings}
use Rattle.audit_tale.specs.Risen.{tids}
use Rattle.audit_tale.specs.Stands.{KnowsAll}
use Rattle.audit_tale.proofs.giving_up.cross_each.Given as goal

abbrev pub invariant-loop-u : goal.invariant-loop-u
invariant-loop-u l = (w : Text) (s : Seen) → MayGiveUp s → KnowsAll w l.fn.told s → KnowsAll w l.told (give_up (crossings l.fn.a.0 (take l.u-index (tids l.us)) s) s)
