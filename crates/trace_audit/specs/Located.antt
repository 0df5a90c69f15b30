-- A reply with a place, in the words of what committed.
use Rattle.audit_words.specs.Clauses.{done_at}
use Rattle.protocol.specs.History.{Done}
use Rattle.trace_audit.specs.declared.located.LocatedReply as code

-- its transaction at that place, with that result
abbrev pub done_of : code.LocatedReply → Done
done_of reply = done_at reply.tx.0 reply.place reply.result
