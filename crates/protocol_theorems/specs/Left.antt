-- Runs end: the number of events that may still come falls at every event.
use Rattle.std.specs.Prelude.{ℕ, ◌*◌, ◌<◌, ◌≤◌, List, length}
use Rattle.std.specs.List.{AllByRecursion}
use Rattle.snap_base.specs.declared.transactions.State.{State}
use Rattle.protocol.specs.Facts.{Alone}
use Rattle.protocol.specs.Events.{Event}
use Rattle.protocol.specs.Effects.{after}
use Rattle.protocol.specs.Runs.{opening, reached}
use Rattle.protocol.specs.Fixed.{Fixed, declared}
use Rattle.protocol.specs.Conditions.{IsAllowed}
use Rattle.protocol.specs.Left.{left}

-- ---- the limits of a text

pub record IsSmall {C : Type 0} (w : Fixed C) : Type 0 where
  pub actors : length w.text.opening.states ≤ 256
  pub coordinators : w.text.coordinators ≤ 8
  pub uses : AllByRecursion (λ tx. length (declared tx) ≤ 16) w.text.txs

-- ---- what every run owes

-- at most so many events a transaction
abbrev pub most_events : ℕ
most_events = 1024

pub record RunsEnd {C : Type 0} (w : Fixed C) (finish : C → List State → Alone) (es : List Event) : Type 0 where
  pub opens : left w (opening w) ≤ most_events * length w.text.txs
  pub falls : (e : Event) → IsAllowed w e (reached w es) → left w (after w e (reached w es)) < left w (reached w es)
  pub short : length es ≤ most_events * length w.text.txs
