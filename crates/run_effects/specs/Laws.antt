-- How what a run gives grows with one more event. Each is a law of `src/groups.rt` or `src/replies.rt`.
use Rattle.std.specs.Prelude.{◌≡◌, ℕ, suc, List, [], ◌∷◌, ◌++◌}
use Rattle.protocol.specs.Conditions.{IsAllowed}
use Rattle.protocol.specs.Effects.{log_at}
use Rattle.protocol.specs.Events.{Event, Reply, Settle}
use Rattle.protocol.specs.Fixed.{Fixed}
use Rattle.protocol.specs.Report.{report}
use Rattle.protocol.specs.Runs.{IsRun, reached}
use Rattle.record_log.specs.Growth.{all_records}
use Rattle.run_effects.specs.Groups.{durable, group_by, groups_of}
use Rattle.run_effects.specs.Lines.{line_in, replies_text}

-- a Sync of a log gives that log one group, and any other event gives it none
abbrev pub GroupsGrow : {C : Type 0} → Fixed C → Type 0
GroupsGrow w = (l : ℕ) (es : List Event) (e : Event) → groups_of w l (es ++ e ∷ []) ≡ groups_of w l es ++ group_by l e (reached w es)

-- all that a log got is what is synced there
abbrev pub GroupsAreDurable : {C : Type 0} → Fixed C → Type 0
GroupsAreDurable w = (l : ℕ) (es : List Event) → IsRun w es → all_records (groups_of w l es) ≡ durable (log_at (reached w es) l)

-- the line that an event prints
abbrev pub line_by : {C : Type 0} → Fixed C → List Event → Event → List ℕ
line_by w es (Reply n) = line_in (reached w es) n
line_by w es _ = []

-- an event prints its line after the lines of the events before it
abbrev pub RepliesGrow : {C : Type 0} → Fixed C → List Event → Type 0
RepliesGrow w es = (e : Event) → IsAllowed w e (reached w es) → replies_text w (es ++ e ∷ []) ≡ replies_text w es ++ line_by w es e

-- how many events settle a batch
abbrev pub settles : List Event → ℕ
settles [] = 0
settles (Settle k ∷ es) = suc (settles es)
settles (_ ∷ es) = settles es

-- the report counts as many batches as events settled one
abbrev pub BatchesAreCounted : {C : Type 0} → Fixed C → Type 0
BatchesAreCounted w = (es : List Event) → IsRun w es → (report es (reached w es)).batches ≡ settles es
