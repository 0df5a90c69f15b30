-- What a crash finds at a step of the table, whatever the workers do.
use Rattle.std.specs.Prelude.{◌≡◌, ℕ, suc, ◌<◌, ◌⊎◌, Bool, Option, Some, List, length, slice_get, slice_index}
use mathlib.Core.Option as maybe
use lib.ListN.{get_elem?}
use Rattle.aml_slice.specs.Controls.{Rest}
use Rattle.atomic_table.specs.Table.{State}
use Rattle.crew_parts.specs.Acts.{MayDo, meant, touched}
use Rattle.crew_parts.specs.Crews.{HasCome, kept}
use Rattle.crew_parts.specs.Shares.{ShareState}
use Rattle.crew_parts.specs.declared.acts.Act.{Act}
use Rattle.protocol.specs.Events.{Sync, log}
use Rattle.protocol.specs.Fixed.{Fixed}
use Rattle.protocol.specs.Moments.{Moment}
use Rattle.snap_hand.specs.Tables.{fixed_of}
use Rattle.snap_hand.specs.declared.tables.Tables.{Tables}
use Rattle.turn_table.specs.Places.{at}
use Rattle.turn_table.specs.Rule.{HoldsAt, HoldsOn, IsEntry, IsLater, Kept}
use Rattle.turn_table.specs.declared.views.View.{View}

abbrev pub CrewTable : Type 0
CrewTable = State (Option ShareState) (View ShareState Act)

-- The acts so far are a run of the machine, and the shares are what it came to. A share whose turn is free lies there as the run left it.
-- Who holds a share got it as the run left it, and holds it alone: so until it is recorded what was made of it, nothing else
-- touches it.
pub record IsCrewMoment (w : Fixed Rest) (start : List ShareState) (s : CrewTable) : Type 0 where
  pub acts : List Act
  pub now : List ShareState
  pub come : HasCome w start (kept acts) now
  pub free : (i : ℕ) → i < length start → slice_index s.words (suc i) ≡ 0 → (x : ShareState) × (slice_get now i ≡ Some x) × (get_elem? s.homes i ≡ maybe.some (maybe.some (Some x)))
  pub held : (i j : ℕ) (v : View ShareState Act) (x : ShareState) → get_elem? s.views j ≡ maybe.some v → at v.held i ≡ Some x → slice_get now i ≡ Some x
  pub alone : (i j l : ℕ) → i < length start → HoldsAt s i j → HoldsAt s i l → j ≡ l

-- ---- over two steps

-- A worker holds log l at the first step for the log's next Sync: it goes on to hold it, up to the last step before that Sync is recorded,
-- with or without a fault; or before the second step, at which nothing more is recorded.
pub record HoldsForSync (t : Tables) (start : List ShareState) (s u : CrewTable) (l : ℕ) : Type 0 where
  pub place : ℕ
  pub last : CrewTable
  pub rule : Kept (touched t) (MayDo t) start last
  pub behind : IsLater s last
  pub before : IsLater last u
  pub on : HoldsOn s last (log l) place
  pub ends : (slice_index u.words 0 ≡ slice_index last.words 0) ⊎ ((a : Act) × (meant a ≡ Sync l) × IsEntry u (slice_index last.words 0, a))

-- A moment of the run that all the acts are, behind the first of them, with one more append begun on the logs of `begun`.
pub record IsMomentOf (w : Fixed Rest) (acts all : List Act) (begun : ℕ → Bool) : Type 0 where
  pub moment : Moment w (kept all)
  pub so_far : moment.events ≡ kept acts
  pub under_way : moment.has_begun ≡ begun

-- A moment of the run that the workers have recorded at the second step, behind what they have recorded at the first, with one more
-- append begun on the logs of `begun`.
abbrev pub FindsMoment : (t : Tables) (start : List ShareState) (s u : CrewTable) → Kept (touched t) (MayDo t) start s → Kept (touched t) (MayDo t) start u → (ℕ → Bool) → Type 0
FindsMoment t start s u now end begun = IsMomentOf (fixed_of t) now.history end.history begun
