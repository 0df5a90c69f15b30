-- The groups of records that a run gives each log: at each Sync of the log, what waits there.
use Rattle.std.specs.Prelude.{ℕ, ◌==◌, if◌then◌else◌, List, [], ◌∷◌, ◌++◌, drop, take}
use Rattle.protocol.specs.Effects.{after, log_at}
use Rattle.protocol.specs.Events.{Event, Sync}
use Rattle.protocol.specs.Fixed.{Fixed}
use Rattle.protocol.specs.Parts.{Log, Machine}
use Rattle.protocol.specs.Runs.{opening, reached}
use Rattle.snap_hand.specs.log_set.Told.{all_told}
use Rattle.record_log.specs.txn_records.declared.records.Record.{Record}

-- what waits, as it is written
abbrev pub waiting : Log → List Record
waiting g = all_told (drop g.synced g.records)

-- what is synced, as it is written
abbrev pub durable : Log → List Record
durable g = all_told (take g.synced g.records)

-- the group that log l gets at the event, where it is a Sync of it
abbrev pub group_by : {C : Type 0} → ℕ → Event → Machine C → List (List Record)
group_by l (Sync k) s = if k == l then waiting (log_at s l) ∷ [] else []
group_by l _ s = []

-- the groups that log l gets of these events, which begin in this state
abbrev pub groups_from : {C : Type 0} → Fixed C → ℕ → List Event → Machine C → List (List Record)
groups_from w l [] s = []
groups_from w l (e ∷ es) s = group_by l e s ++ groups_from w l es (after w e s)

-- the groups that log l gets in a run, one for each of its Syncs, in order
abbrev pub groups_of : {C : Type 0} → Fixed C → ℕ → List Event → List (List Record)
groups_of w l es = groups_from w l es (opening w)

-- what waits on log l behind a run
abbrev pub group_behind : {C : Type 0} → Fixed C → ℕ → List Event → List Record
group_behind w l es = waiting (log_at (reached w es) l)
