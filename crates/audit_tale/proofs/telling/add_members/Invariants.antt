use Rattle.std.proofs.Common.{◌≡◌, ◌++◌, map, take}
use Rattle.protocol.specs.Meant.{batch_pact}
use Rattle.audit_words.specs.Happenings.{pact_member}
use Rattle.audit_tale.specs.Knows.{member_of}
use Rattle.audit_tale.proofs.telling.add_members.Given as goal

abbrev pub invariant-loop-pact : goal.invariant-loop-pact
invariant-loop-pact l =
    map member_of l.members.items ≡ map member_of l.initial.members.items ++ map (pact_member l.formed-inside.bid.0) (map batch_pact (take l.pact-index l.formed-inside.txs.items))
