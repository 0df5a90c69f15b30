-- What of a run its parts have to hold: the actors of a batch and of an ACT, and what lies in an actor's boxes.
use Rattle.std.specs.Prelude.{◌≡◌, ℕ, ◌+◌, ◌<◌, ◌≤◌, true, false, Some, is_some, List, [], ◌∷◌, ◌++◌, length, map}
use Rattle.snap_base.specs.declared.transactions.State.{State}
use Rattle.protocol.specs.Fixed.{Fixed}
use Rattle.protocol.specs.Facts.{Alone}
use Rattle.protocol.specs.Parts.{Act, Entry, BatchEntry, ActEntry, Machine}
use Rattle.protocol.specs.Events.{Form}
use Rattle.protocol.specs.Words.{is_empty, act_of}
use Rattle.protocol.specs.Conditions.{IsAllowed}
use Rattle.protocol.specs.Effects.{cell_at}
use Rattle.protocol.specs.History.{History}
use Rattle.protocol.specs.Numbers.{times}
use Rattle.protocol.specs.OnRing.{next_actors}

-- a batch that is formed has an actor
abbrev pub BatchesHaveActors : {C : Type 0} → Fixed C → Machine C → Type 0
BatchesHaveActors w s = (k : ℕ) → IsAllowed w (Form k) s → is_empty (next_actors w.text s.ring) ≡ false

-- whose controls may lie on an actor: the PACTs of its batches, and its ACTs
abbrev pub tids_here : List Entry → List ℕ
tids_here [] = []
tids_here (BatchEntry b ∷ es) = map (λ s. s.tid) b.slots ++ tids_here es
tids_here (ActEntry x ∷ es) = x.tid ∷ tids_here es

-- each of them has a control or an outcome there at most
abbrev pub BoxesAreFew : {C : Type 0} → Fixed C → (C → List State → Alone) → Machine C → History → Type 0
BoxesAreFew w finish s h = (a : ℕ) → length (cell_at s a).inbox + length (cell_at s a).outbox ≤ length (tids_here (cell_at s a).entries)

-- An ACT has joined at most sixteen actors, each once, and one where it has a result; its before number is below the next
-- batch.
pub record FewPlaces (next : ℕ) (x : Act) : Type 0 where
  pub once : (n : ℕ) → times n (map (λ p. p.actor) x.places) ≤ 1
  pub few : length x.places ≤ 16
  pub some : is_some x.result ≡ true → is_empty x.places ≡ false
  pub before : x.m < next

abbrev pub PlacesAreFew : {C : Type 0} → Fixed C → (C → List State → Alone) → Machine C → History → Type 0
PlacesAreFew w finish s h = (t : ℕ) (x : Act) → act_of t s.book.acts ≡ Some x → FewPlaces s.ring.next_bid x
