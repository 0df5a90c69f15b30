-- The moments of a crash: how far the events are gone, and how far each log is.
use Rattle.std.specs.Prelude.{◌≡◌, ℕ, ◌≤◌, Bool, true, false, ◌⊎◌, List, [], ◌∷◌, ◌++◌, length, take, ⊤}
use Rattle.protocol.specs.Fixed.{Fixed}
use Rattle.protocol.specs.Records.{LogRecord}
use Rattle.protocol.specs.Parts.{Machine}
use Rattle.protocol.specs.Events.{Event, Sync, footprint, log}
use Rattle.protocol.specs.Words.{is_among}
use Rattle.protocol.specs.Effects.{log_at}
use Rattle.protocol.specs.Runs.{reached}

-- none of these events has the log in its footprint
abbrev pub NoneTouches : ℕ → ℕ → List Event → Type 0
NoneTouches logs l [] = ⊤
NoneTouches logs l (e ∷ es) = (is_among (log l) (footprint logs e) ≡ false) × NoneTouches logs l es

-- The append that is under way is that of the log's next Sync: until that event nothing touches the log, and
-- where that event does not come any more, nothing does at all.
pub record IsUnderWay (logs l : ℕ) (es : List Event) : Type 0 where
  pub front : List Event
  pub rest : List Event
  pub splits : es ≡ front ++ rest
  pub untouched : NoneTouches logs l front
  pub ends : (rest ≡ []) ⊎ ((more : List Event) × (rest ≡ Sync l ∷ more))

-- A moment of a run: the events so far, the ones after, and which logs have begun one more append.
pub record Moment {C : Type 0} (w : Fixed C) (es : List Event) : Type 0 where
  pub events : List Event
  pub later : List Event
  pub splits : es ≡ events ++ later
  pub has_begun : ℕ → Bool
  pub begun : (l : ℕ) → has_begun l ≡ true → IsUnderWay w.text.logs l later

-- How many records of each log are left: those that are synced and some, or all, or none of the others.
pub record IsCut {C : Type 0} (s : Machine C) (kept : ℕ → ℕ) : Type 0 where
  pub all_synced : (l : ℕ) → (log_at s l).synced ≤ kept l
  pub no_more : (l : ℕ) → kept l ≤ length (log_at s l).records

-- An append is there whole or not at all. So at a moment a log holds what is synced, or, where one more append
-- has begun, perhaps what waits too.
pub record IsLeft {C : Type 0} (w : Fixed C) (es : List Event) (m : Moment w es) (kept : ℕ → ℕ) : Type 0 where
  pub same : (l : ℕ) → m.has_begun l ≡ false → kept l ≡ (log_at (reached w m.events) l).synced
  pub whole : (l : ℕ) → (kept l ≡ (log_at (reached w m.events) l).synced) ⊎ (kept l ≡ length (log_at (reached w m.events) l).records)

-- what such a log holds of this run
abbrev pub left_in : {C : Type 0} → Machine C → (ℕ → ℕ) → ℕ → List LogRecord
left_in s kept l = take (kept l) (log_at s l).records
