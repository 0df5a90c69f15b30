use Rattle.std.proofs.Common.{◌≡◌, drop, map}
use Rattle.protocol.specs.Meant.{who_meant}
use Rattle.protocol.specs.Parts.{OfAct}
use Rattle.audit_words.specs.Seen.{is_one_of_these}
use Rattle.audit_tale.proofs.tail_group.stands.Given as goal

abbrev pub invariant-loop-who : goal.invariant-loop-who
invariant-loop-who l = is_one_of_these (OfAct l.t.0) (map who_meant (drop l.who-index l.entries)) ≡ is_one_of_these (OfAct l.t.0) (map who_meant l.entries)
