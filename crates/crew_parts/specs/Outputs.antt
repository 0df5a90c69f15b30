-- What the output of a crew has taken while its workers print, and how that stands to the events that are recorded.
use Rattle.std.specs.Prelude.{◌≡◌, ℕ, suc, ◌⊎◌, Option, None, Some, List, ◌++◌, slice_get, slice_index}
use Rattle.std.specs.Io.KnownBytes.{Appends}
use Rattle.aml_slice.specs.Controls.{Rest}
use Rattle.crew_parts.specs.Acts.{MayDo, touched}
use Rattle.crew_parts.specs.Shares.{OutputState, ShareState}
use Rattle.crew_parts.specs.Steps.{CrewTable}
use Rattle.crew_parts.specs.declared.acts.Act.{Act}
use Rattle.protocol.specs.Conditions.{IsAllowed}
use Rattle.protocol.specs.Events.{Event, Reply, book, desk}
use Rattle.protocol.specs.Fixed.{Fixed}
use Rattle.protocol.specs.Runs.{reached}
use Rattle.run_effects.specs.Lines.{line_in, replies_text}
use Rattle.snap_hand.specs.declared.tables.Tables.{Tables}
use Rattle.turn_table.specs.Rule.{HoldsOn, IsEntry, IsLater, Kept}

-- ---- what shares tell of the output

abbrev pub taken_by : Option OutputState → Option (List ℕ)
taken_by None = None
taken_by (Some o) = o.taken

abbrev pub output_in : Option ShareState → Option OutputState
output_in None = None
output_in (Some x) = x.beside.output

-- what the output has taken, as the desk's share shows it
abbrev pub taken_at : List ShareState → Option (List ℕ)
taken_at xs = taken_by (output_in (slice_get xs desk))

-- ---- what it has taken between two steps

-- What it has taken grew from the first to the second, and from there to the third.
pub record TakesThrough (before now after : Option (List ℕ)) : Type 0 where
  pub made : List ℕ
  pub left : List ℕ
  pub so_far : Appends before now made
  pub behind : Appends now after left

-- A worker holds the book and the desk at the first step, which are all that a reply touches, and goes on to hold both up to the last one
-- before its next act is recorded, which it is before the second.
pub record HoldsForLine (t : Tables) (start : List ShareState) (s u : CrewTable) : Type 0 where
  pub place : ℕ
  pub last : CrewTable
  pub next : CrewTable
  pub before : Kept (touched t) (MayDo t) start last
  pub after : Kept (touched t) (MayDo t) start next
  pub on_book : HoldsOn s last book place
  pub on_desk : HoldsOn s last desk place
  pub act : Act
  pub recorded : IsEntry next (slice_index last.words 0, act)
  -- nothing else is recorded with it
  pub alone : slice_index next.words 0 ≡ suc (slice_index last.words 0)
  pub order : IsLater s last × IsLater last next × IsLater next u

-- The output has taken what the desk's share tells at the first step; or, while a worker holds the book and the desk, something between that
-- and what the share tells once the worker's next act is recorded.
abbrev pub MayTake : (t : Tables) (start : List ShareState) (s u : CrewTable) → Kept (touched t) (MayDo t) start s → Option (List ℕ) → Type 0
MayTake t start s u now taken = (taken ≡ taken_at now.parts) ⊎ ((h : HoldsForLine t start s u) × TakesThrough (taken_at now.parts) taken (taken_at h.after.parts))

-- ---- how it stands to the events

-- This is a front of the line of a reply that is allowed behind these events, as the line is there.
pub record IsFrontOfLine (w : Fixed Rest) (es : List Event) (front : List ℕ) : Type 0 where
  pub tx : ℕ
  pub allowed : IsAllowed w (Reply tx) (reached w es)
  pub rest : List ℕ
  pub line : line_in (reached w es) tx ≡ front ++ rest

-- Behind what it had taken before the events it has taken the lines of their replies; or these, and a front of the line of one more, which
-- is allowed behind them.
abbrev pub OutputStands : Fixed Rest → List Event → Option (List ℕ) → Option (List ℕ) → Type 0
OutputStands w es before taken =
    Appends before taken (replies_text w es) ⊎ ((front : List ℕ) × Appends before taken (replies_text w es ++ front) × IsFrontOfLine w es front)
