-- What lies in the parts of a state, and the events that may come of it: with all that is listed here, whatever is allowed is
-- listed.
use Rattle.std.specs.Prelude.{ℕ, ◌+◌, ◌%◌, ◌==◌, ◌&&◌, is_some, Option, Some, None, List, [], ◌∷◌, ◌++◌, length, map, filter, slice_get}
use Rattle.std.specs.List.{flat_map}
use Rattle.protocol.specs.Fixed.{Fixed}
use Rattle.protocol.specs.Records.{LogRecord, BatchInfo, BatchComplete, BatchDone, ActPrepare, ActDone}
use Rattle.protocol.specs.Parts.{Act, Batch, Entry, BatchEntry, ActEntry, ControlMessage, OfAct, Machine}
use Rattle.protocol.specs.Events.{Event, Submit, Pass, Form, Admit, Arrive, Ask, Take, Run, Send, End, Close, Complete, Sync, Note, Commit, Settle, Abort, Rollback, DropSub, DropControl, Prepare, Vouch, Decide, Seal, Finish, Reply, Trim}
use Rattle.protocol.specs.Words.{below, holds, is_who, control_of, act_of, batch_of, has_undone, is_live_status}
use Rattle.protocol.specs.Numbers.{flat}
use Rattle.protocol.specs.Effects.{cell_at}

-- ---- what lies at an actor

-- of the controls in its inbox
abbrev pub runs_on : {C : Type 0} → ℕ → Machine C → List Event
runs_on a s = map (λ x. Run x.tid a) (cell_at s a).inbox

-- of what slices left in its outbox
abbrev pub sends_on : {C : Type 0} → ℕ → Machine C → List Event
sends_on a s = flat_map (λ x. Send x.tid a ∷ End x.tid a ∷ []) (cell_at s a).outbox

abbrev pub on_boxes : {C : Type 0} → ℕ → Machine C → List Event
on_boxes a s = runs_on a s ++ sends_on a s

-- of the controls on their way to it
abbrev pub comings : {C : Type 0} → ℕ → Machine C → List Event
comings a s = flat_map (λ m. Ask m.tid a ∷ Take m.tid a ∷ []) (filter (λ m. m.to == a) s.post.controls)

-- of the sub-batches on their way to it
abbrev pub arrivals : {C : Type 0} → ℕ → Machine C → List Event
arrivals a s = map (λ m. Arrive m.bid a) (filter (λ m. m.actor == a) s.post.subs)

-- of a batch on its schedule and the PACTs of that batch
abbrev pub of_entry : ℕ → Entry → List Event
of_entry a (BatchEntry b) = Complete b.bid a ∷ map (λ x. Close x.tid a) b.slots
of_entry a (ActEntry x) = []

-- what reads who stands on its schedule
abbrev pub on_entries : {C : Type 0} → ℕ → Machine C → List Event
on_entries a s = comings a s ++ (runs_on a s ++ flat_map (of_entry a) (cell_at s a).entries)

-- of a batch on its schedule alone
abbrev pub completes_of : ℕ → Entry → List Event
completes_of a (BatchEntry b) = Complete b.bid a ∷ []
completes_of a (ActEntry x) = []

-- what reads how far its schedule is
abbrev pub on_marks : {C : Type 0} → ℕ → Machine C → List Event
on_marks a s = runs_on a s ++ flat_map (completes_of a) (cell_at s a).entries

-- what reads its epoch
abbrev pub on_epoch : {C : Type 0} → ℕ → Machine C → List Event
on_epoch a s = Rollback a ∷ (arrivals a s ++ comings a s)

-- ---- what is under way

-- of the control of transaction t, where it lies in the post
abbrev pub of_control : {C : Type 0} → ℕ → Option (ControlMessage C) → List Event
of_control t None = []
of_control t (Some m) = Ask t m.to ∷ Take t m.to ∷ DropControl t ∷ []

abbrev pub on_control : {C : Type 0} → ℕ → Machine C → List Event
on_control t s = of_control t (control_of t s.post.controls)

-- of the sub-batch of batch k that goes to actor a
abbrev pub on_sub : ℕ → ℕ → List Event
on_sub k a = Arrive k a ∷ DropSub k a ∷ []

abbrev pub on_subs : {C : Type 0} → ℕ → Machine C → List Event
on_subs k s = flat_map (λ m. on_sub k m.actor) (filter (λ m. m.bid == k) s.post.subs)

-- ---- ACTs

-- of an ACT on an actor that it has joined
abbrev pub on_place : ℕ → ℕ → List Event
on_place t a = Prepare t a ∷ Vouch t a ∷ Finish t a ∷ []

-- of ACT t, where it was admitted
abbrev pub of_act : ℕ → Option Act → List Event
of_act t None = []
of_act t (Some x) = Decide t ∷ Seal t ∷ flat_map (λ p. on_place t p.actor) x.places

-- where it may be vouched
abbrev pub vouches_of : ℕ → Option Act → List Event
vouches_of t None = []
vouches_of t (Some x) = map (λ p. Vouch t p.actor) x.places

-- its control
abbrev pub drops : {C : Type 0} → ℕ → Machine C → List Event
drops t s = map (λ m. DropControl m.tid) (filter (λ m. is_who (OfAct t) m.who) s.post.controls)

abbrev pub on_act : {C : Type 0} → ℕ → Machine C → List Event
on_act t s = of_act t (act_of t s.book.acts)

-- what reads whether ACT t is given up
abbrev pub on_doom : {C : Type 0} → ℕ → Machine C → List Event
on_doom t s = on_control t s ++ drops t s

-- of the ACTs that may be decided when a batch settles
abbrev pub on_settled : {C : Type 0} → Machine C → List Event
on_settled s = map (λ x. Decide x.tid) (filter (λ x. is_some x.result && is_live_status x.status) s.book.acts)

-- ---- batches

-- of a batch on an actor that it has
abbrev pub on_declared : ℕ → ℕ → List Event
on_declared k a = Note k a ∷ Trim k a ∷ []

-- of batch k, where it was formed
abbrev pub of_batch : ℕ → Option Batch → List Event
of_batch k None = []
of_batch k (Some b) = Commit k ∷ Settle k ∷ Abort k ∷ flat_map (λ p. on_declared k p.actor) b.places

abbrev pub on_stage : {C : Type 0} → ℕ → Machine C → List Event
on_stage k s = of_batch k (batch_of k s.desk.batches)

-- how these batches may end
abbrev pub ends_of : List Batch → List Event
ends_of bs = flat_map (λ b. Commit b.bid ∷ Abort b.bid ∷ []) bs

-- where PACT t is not done
abbrev pub on_result : {C : Type 0} → ℕ → Machine C → List Event
on_result t s = map (Close t) (filter (λ a. holds (λ c. has_undone t c.entries) (slice_get s.cells a)) (below (length s.cells)))

-- ---- what a durable record lets happen

abbrev pub of_record : LogRecord → List Event
of_record (BatchInfo k actors tids) = Commit k ∷ []
of_record (BatchComplete k a state) = Note k a ∷ []
of_record (BatchDone k vs) = Settle k ∷ []
of_record (ActPrepare t a state) = Vouch t a ∷ []
of_record (ActDone t m c v actors) = Seal t ∷ []

-- ---- all that there is

-- what the ring has next
abbrev pub next_of_ring : {C : Type 0} → Fixed C → Machine C → List Event
next_of_ring w t = Submit t.ring.next_tx ∷ Pass ((t.ring.holder + 1) % w.text.coordinators) ∷ Form t.ring.next_bid ∷ Admit t.ring.next_tid ∷ []

-- the ring, the actors, the two kinds of messages, the ACTs, the batches, the logs, and the transactions of the text
abbrev pub live_groups : {C : Type 0} → Fixed C → Machine C → List (List Event)
live_groups w t =
    next_of_ring w t
    ∷ flat_map (λ a. on_boxes a t ++ (on_epoch a t ++ on_entries a t)) (below (length t.cells))
    ∷ flat_map (λ m. on_sub m.bid m.actor) t.post.subs
    ∷ flat_map (λ m. DropControl m.tid ∷ []) t.post.controls
    ∷ flat_map (λ x. of_act x.tid (act_of x.tid t.book.acts)) t.book.acts
    ∷ flat_map (λ b. of_batch b.bid (batch_of b.bid t.desk.batches)) t.desk.batches
    ∷ map Sync (below (length t.logs))
    ∷ map Reply (below (length t.desk.replied)) ∷ []

abbrev pub live : {C : Type 0} → Fixed C → Machine C → List Event
live w t = flat (live_groups w t)
