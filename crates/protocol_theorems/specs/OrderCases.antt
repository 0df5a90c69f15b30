-- The cases of order: who stands behind whom, on an actor's chain and on its schedule, and what their numbers then are.
use Rattle.std.specs.Prelude.{◌≡◌, ℕ, ◌<◌, ◌≤◌, true, false, ◌⊎◌, Some, List, [], ◌∷◌, length, ◌&&◌, ⊤}
use Rattle.std.specs.List.{AllByRecursion}
use Rattle.snap_base.specs.declared.transactions.State.{State}
use Rattle.protocol.specs.Fixed.{Fixed}
use Rattle.protocol.specs.Facts.{Alone}
use Rattle.protocol.specs.Parts.{Act, Who, OfBatch, OfAct, Machine}
use Rattle.protocol.specs.Words.{act_of}
use Rattle.protocol.specs.Conditions.{epoch}
use Rattle.protocol.specs.Effects.{cell_at}
use Rattle.protocol.specs.Verdicts.{pact_place, act_place}
use Rattle.protocol.specs.History.{Done, History}
use Rattle.protocol.specs.Chains.{chain}
use Rattle.protocol_laws.specs.Rising.{first_number_of}
use Rattle.protocol_laws.specs.Told.{has_number}
use Rattle.protocol_theorems.specs.Quiet.{BeforeBatches, BehindBatches, ActsInOrder}

-- ---- what the numbers of a place are

-- A PACT's are its batch and its tid. An ACT's are its before number and the number of its commit, as the book has them.
abbrev pub OwnPlace : List Act → Who → Done → Type 0
OwnPlace acts (OfBatch k) d = d.place ≡ pact_place k d.tid
OwnPlace acts (OfAct t) d = (x : Act) × ((act_of t acts ≡ Some x) × ((d.tid ≡ t) × ((has_number d.place.order x.status ≡ true) × (d.place ≡ act_place x.m d.place.order))))

-- ---- the cases, of one and one that stands behind it

abbrev pub BatchBehindAct : Done → Done → Type 0
BatchBehindAct d e = (t k : ℕ) → d.who ≡ OfAct t → e.who ≡ OfBatch k → first_number_of d < k

abbrev pub ActBehindBatch : Done → Done → Type 0
ActBehindBatch d e = (k t : ℕ) → d.who ≡ OfBatch k → e.who ≡ OfAct t → k ≤ first_number_of e

-- where they do not both only read
abbrev pub ActBehindAct : Done → Done → Type 0
ActBehindAct d e = (t u : ℕ) → d.who ≡ OfAct t → e.who ≡ OfAct u → (d.reader && e.reader) ≡ false → (first_number_of d ≤ first_number_of e) × (d.place.order < e.place.order)

-- and in one batch by tid
abbrev pub BatchBehindBatch : Done → Done → Type 0
BatchBehindBatch d e = (j k : ℕ) → d.who ≡ OfBatch j → e.who ≡ OfBatch k → (j < k) ⊎ ((j ≡ k) × (d.tid < e.tid))

-- of each, and each that stands behind it
abbrev pub EachBehind : (Done → Done → Type 0) → List Done → Type 0
EachBehind R [] = ⊤
EachBehind R (d ∷ ds) = AllByRecursion (R d) ds × EachBehind R ds

-- ---- of every run

-- of what committed, along each actor's chain
pub record CasesHold {C : Type 0} (w : Fixed C) (finish : C → List State → Alone) (s : Machine C) (h : History) : Type 0 where
  pub own_places : AllByRecursion (λ d. OwnPlace s.book.acts d.who d) h.committed
  pub batch_behind_act : (a : ℕ) → a < length w.text.opening.states → EachBehind BatchBehindAct (chain a h)
  pub act_behind_batch : (a : ℕ) → a < length w.text.opening.states → EachBehind ActBehindBatch (chain a h)
  pub act_behind_act : (a : ℕ) → a < length w.text.opening.states → EachBehind ActBehindAct (chain a h)
  pub batch_behind_batch : (a : ℕ) → a < length w.text.opening.states → EachBehind BatchBehindBatch (chain a h)

-- of all that stand on an actor of the present epoch, committed or not, ACTs that are doomed aside
pub record SchedulesInOrder {C : Type 0} (w : Fixed C) (finish : C → List State → Alone) (s : Machine C) (h : History) : Type 0 where
  pub batch_behind_act : (a : ℕ) → (cell_at s a).epoch ≡ epoch s.book → BeforeBatches s.book.acts (cell_at s a).entries
  pub act_behind_batch : (a : ℕ) → (cell_at s a).epoch ≡ epoch s.book → BehindBatches s.book.acts (cell_at s a).entries
  pub act_behind_act : (a : ℕ) → (cell_at s a).epoch ≡ epoch s.book → ActsInOrder s.book.acts (cell_at s a).entries
