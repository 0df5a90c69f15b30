-- The line of an event: its name and its numbers, with one blank before each number.
use Rattle.std.specs.Prelude.{ℕ, ◌<◌, ◌^◌, List, ◌∷◌, ◌++◌, Option, Some, None, IfSome, codes}
use Rattle.std.specs.Fmt.{decimal}
use Rattle.core_events.specs.declared.events.Event.{Event}
use Rattle.core_events.specs.declared.events.Event.TheVariants as event
use Rattle.trace_text.specs.declared.names.Name.{Name}
use Rattle.trace_text.specs.declared.names.Name.TheVariants as name

abbrev pub name_text : Name → List ℕ
name_text name.Submit = codes "submit"
name_text name.Pass = codes "pass"
name_text name.Form = codes "form"
name_text name.Admit = codes "admit"
name_text name.Arrive = codes "arrive"
name_text name.Ask = codes "ask"
name_text name.Take = codes "take"
name_text name.Run = codes "run"
name_text name.Send = codes "send"
name_text name.End = codes "end"
name_text name.Close = codes "close"
name_text name.Complete = codes "complete"
name_text name.Sync = codes "sync"
name_text name.Note = codes "note"
name_text name.Commit = codes "commit"
name_text name.Settle = codes "settle"
name_text name.AbortBatch = codes "abort"
name_text name.Rollback = codes "rollback"
name_text name.DropSub = codes "dropsub"
name_text name.DropControl = codes "dropcontrol"
name_text name.Prepare = codes "prepare"
name_text name.Vouch = codes "vouch"
name_text name.Decide = codes "decide"
name_text name.Seal = codes "seal"
name_text name.Finish = codes "finish"
name_text name.Reply = codes "reply"
name_text name.Trim = codes "trim"

-- an event's name, its first number, and its second one if it has two
abbrev pub event_parts : Event → Name × ℕ × Option ℕ
event_parts (event.Submit n) = (name.Submit, n.0, None)
event_parts (event.Pass n) = (name.Pass, n, None)
event_parts (event.Form n) = (name.Form, n.0, None)
event_parts (event.Admit n) = (name.Admit, n.0, None)
event_parts (event.Arrive n a) = (name.Arrive, n.0, Some a.0)
event_parts (event.Ask n a) = (name.Ask, n.0, Some a.0)
event_parts (event.Take n a) = (name.Take, n.0, Some a.0)
event_parts (event.Run n a) = (name.Run, n.0, Some a.0)
event_parts (event.Send n a) = (name.Send, n.0, Some a.0)
event_parts (event.End n a) = (name.End, n.0, Some a.0)
event_parts (event.Close n a) = (name.Close, n.0, Some a.0)
event_parts (event.Complete n a) = (name.Complete, n.0, Some a.0)
event_parts (event.Sync n) = (name.Sync, n, None)
event_parts (event.Note n a) = (name.Note, n.0, Some a.0)
event_parts (event.Commit n) = (name.Commit, n.0, None)
event_parts (event.Settle n) = (name.Settle, n.0, None)
event_parts (event.AbortBatch n) = (name.AbortBatch, n.0, None)
event_parts (event.Rollback n) = (name.Rollback, n.0, None)
event_parts (event.DropSub n a) = (name.DropSub, n.0, Some a.0)
event_parts (event.DropControl n) = (name.DropControl, n.0, None)
event_parts (event.Prepare n a) = (name.Prepare, n.0, Some a.0)
event_parts (event.Vouch n a) = (name.Vouch, n.0, Some a.0)
event_parts (event.Decide n) = (name.Decide, n.0, None)
event_parts (event.Seal n) = (name.Seal, n.0, None)
event_parts (event.Finish n a) = (name.Finish, n.0, Some a.0)
event_parts (event.Reply n) = (name.Reply, n.0, None)
event_parts (event.Trim n a) = (name.Trim, n.0, Some a.0)

abbrev pub numbers_text : ℕ → Option ℕ → List ℕ
numbers_text n None = decimal n
numbers_text n (Some a) = decimal n ++ 32 ∷ decimal a

abbrev pub line_of_parts : Name × ℕ × Option ℕ → List ℕ
line_of_parts p = name_text p.0 ++ 32 ∷ numbers_text p.1 p.2

abbrev pub event_line : Event → List ℕ
event_line e = line_of_parts (event_parts e)

-- the first number is below this, by the type of the event
abbrev pub first_limit : Name → ℕ
first_limit name.Submit = 2 ^ 32
first_limit name.Pass = 2 ^ 8
first_limit name.Sync = 2 ^ 8
first_limit name.Rollback = 2 ^ 16
first_limit name.Reply = 2 ^ 32
first_limit _ = 2 ^ 64

-- the numbers are of the types that the event gives them; the second one is an actor's
pub record AreNumbersOf (p : Name × ℕ × Option ℕ) : Type 0 where
  pub first : p.1 < first_limit p.0
  pub second : IfSome p.2 (λ a. a < 2 ^ 16)

abbrev pub IsEvent : Event → Type 0
IsEvent e = AreNumbersOf (event_parts e)
