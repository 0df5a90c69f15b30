-- An event in the words of the machine, where identifiers are their numbers.
use Rattle.core_events.specs.declared.events.Event as code
use Rattle.core_events.specs.declared.events.Event.TheVariants as events
use Rattle.protocol.specs.Events.{Event, Submit, Pass, Form, Admit, Arrive, Ask, Take, Run, Send, End, Close, Complete, Sync, Note, Commit, Settle, Abort, Rollback, DropSub, DropControl, Prepare, Vouch, Decide, Seal, Finish, Reply, Trim}

abbrev pub event_meant : code.Event → Event
event_meant (events.Submit n) = Submit n.0
event_meant (events.Pass c) = Pass c
event_meant (events.Form k) = Form k.0
event_meant (events.Admit t) = Admit t.0
event_meant (events.Arrive k a) = Arrive k.0 a.0
event_meant (events.Ask t a) = Ask t.0 a.0
event_meant (events.Take t a) = Take t.0 a.0
event_meant (events.Run t a) = Run t.0 a.0
event_meant (events.Send t a) = Send t.0 a.0
event_meant (events.End t a) = End t.0 a.0
event_meant (events.Close t a) = Close t.0 a.0
event_meant (events.Complete k a) = Complete k.0 a.0
event_meant (events.Sync l) = Sync l
event_meant (events.Note k a) = Note k.0 a.0
event_meant (events.Commit k) = Commit k.0
event_meant (events.Settle k) = Settle k.0
event_meant (events.AbortBatch k) = Abort k.0
event_meant (events.Rollback a) = Rollback a.0
event_meant (events.DropSub k a) = DropSub k.0 a.0
event_meant (events.DropControl t) = DropControl t.0
event_meant (events.Prepare t a) = Prepare t.0 a.0
event_meant (events.Vouch t a) = Vouch t.0 a.0
event_meant (events.Decide t) = Decide t.0
event_meant (events.Seal t) = Seal t.0
event_meant (events.Finish t a) = Finish t.0 a.0
event_meant (events.Reply n) = Reply n.0
event_meant (events.Trim k a) = Trim k.0 a.0
