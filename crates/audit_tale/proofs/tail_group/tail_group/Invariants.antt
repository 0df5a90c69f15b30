use Rattle.std.proofs.Common.{◌≡◌, [], drop, map}
use Rattle.protocol.specs.Meant.{who_meant}
use Rattle.audit_words.specs.Seen.{tail_behind}
use Rattle.audit_tale.specs.Risen.{tids}
use Rattle.audit_tale.proofs.tail_group.tail_group.Given as goal

abbrev pub invariant-loop-who : goal.invariant-loop-who
invariant-loop-who l = tail_behind (tids l.tail.items) (map who_meant (drop l.who-index l.entries)) ≡ tail_behind [] (map who_meant l.entries)
