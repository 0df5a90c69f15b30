use Rattle.std.proofs.Common.{◌≡◌, ◌++◌, take}
use Rattle.protocol.specs.Fixed.{Text}
use Rattle.audit_words.specs.Seen.{Seen}
use Rattle.audit_tale.specs.Knows.{RiseFrom}
use Rattle.audit_tale.specs.Rivalry.{pairs_of}
use Rattle.audit_tale.specs.Stands.{KnowsAll}
use Rattle.audit_tale.proofs.asking.wait_behind.Given as goal

abbrev pub invariant-loop-u : goal.invariant-loop-u
invariant-loop-u l = (l.told.tale ≡ l.fn.told.tale) × ((w : Text) (s : Seen) → RiseFrom 1 s.acts → KnowsAll w l.fn.told s → KnowsAll w l.told (record s { gains = s.gains ++ pairs_of l.t.0 l.a.0 (take l.u-index l.ahead) }))
