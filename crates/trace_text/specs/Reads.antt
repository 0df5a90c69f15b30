-- Only private contracts cite this; the rule is Lines.antt.
-- The event of a name and numbers, and what a cut says.
use Rattle.std.specs.Prelude.{◌≡◌, ℕ, ◌==◌, false, List, Option, Some, None}
use Rattle.std.specs.List.{AllByRecursion}
use Rattle.core_events.specs.declared.events.Event.{Event}
use Rattle.core_events.specs.declared.events.Event.TheVariants as event
use Rattle.trace_text.specs.declared.names.Name.{Name}
use Rattle.trace_text.specs.declared.names.Name.TheVariants as name

-- no such byte is in a text
abbrev pub LacksByte : ℕ → List ℕ → Type 0
LacksByte byte text = AllByRecursion (λ b. (b == byte) ≡ false) text

-- the events that have one number
abbrev pub with_one : Name → ℕ → Option Event
with_one name.Submit n = Some (event.Submit (record { 0 = n }))
with_one name.Pass n = Some (event.Pass n)
with_one name.Form n = Some (event.Form (record { 0 = n }))
with_one name.Admit n = Some (event.Admit (record { 0 = n }))
with_one name.Arrive n = None
with_one name.Ask n = None
with_one name.Take n = None
with_one name.Run n = None
with_one name.Send n = None
with_one name.End n = None
with_one name.Close n = None
with_one name.Complete n = None
with_one name.Sync n = Some (event.Sync n)
with_one name.Note n = None
with_one name.Commit n = Some (event.Commit (record { 0 = n }))
with_one name.Settle n = Some (event.Settle (record { 0 = n }))
with_one name.AbortBatch n = Some (event.AbortBatch (record { 0 = n }))
with_one name.Rollback n = Some (event.Rollback (record { 0 = n }))
with_one name.DropSub n = None
with_one name.DropControl n = Some (event.DropControl (record { 0 = n }))
with_one name.Prepare n = None
with_one name.Vouch n = None
with_one name.Decide n = Some (event.Decide (record { 0 = n }))
with_one name.Seal n = Some (event.Seal (record { 0 = n }))
with_one name.Finish n = None
with_one name.Reply n = Some (event.Reply (record { 0 = n }))
with_one name.Trim n = None

-- the events that have two
abbrev pub with_two : Name → ℕ → ℕ → Option Event
with_two name.Submit n a = None
with_two name.Pass n a = None
with_two name.Form n a = None
with_two name.Admit n a = None
with_two name.Arrive n a = Some (event.Arrive (record { 0 = n }) (record { 0 = a }))
with_two name.Ask n a = Some (event.Ask (record { 0 = n }) (record { 0 = a }))
with_two name.Take n a = Some (event.Take (record { 0 = n }) (record { 0 = a }))
with_two name.Run n a = Some (event.Run (record { 0 = n }) (record { 0 = a }))
with_two name.Send n a = Some (event.Send (record { 0 = n }) (record { 0 = a }))
with_two name.End n a = Some (event.End (record { 0 = n }) (record { 0 = a }))
with_two name.Close n a = Some (event.Close (record { 0 = n }) (record { 0 = a }))
with_two name.Complete n a = Some (event.Complete (record { 0 = n }) (record { 0 = a }))
with_two name.Sync n a = None
with_two name.Note n a = Some (event.Note (record { 0 = n }) (record { 0 = a }))
with_two name.Commit n a = None
with_two name.Settle n a = None
with_two name.AbortBatch n a = None
with_two name.Rollback n a = None
with_two name.DropSub n a = Some (event.DropSub (record { 0 = n }) (record { 0 = a }))
with_two name.DropControl n a = None
with_two name.Prepare n a = Some (event.Prepare (record { 0 = n }) (record { 0 = a }))
with_two name.Vouch n a = Some (event.Vouch (record { 0 = n }) (record { 0 = a }))
with_two name.Decide n a = None
with_two name.Seal n a = None
with_two name.Finish n a = Some (event.Finish (record { 0 = n }) (record { 0 = a }))
with_two name.Reply n a = None
with_two name.Trim n a = Some (event.Trim (record { 0 = n }) (record { 0 = a }))

abbrev pub with_numbers : Name → ℕ → Option ℕ → Option Event
with_numbers name n None = with_one name n
with_numbers name n (Some a) = with_two name n a
