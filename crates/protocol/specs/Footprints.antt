-- What a footprint promises: an event reads and changes its parts, and no others.
use Rattle.std.specs.Prelude.{◌≡◌, ℕ, suc, ◌≤◌, false, List, [], ◌∷◌, length, ⊤}
use Rattle.std.specs.List.{AllByRecursion}
use Rattle.protocol.specs.Fixed.{Fixed}
use Rattle.protocol.specs.Parts.{Machine}
use Rattle.protocol.specs.Events.{Event, part, footprint}
use Rattle.protocol.specs.Words.{is_among}
use Rattle.protocol.specs.Conditions.{conditions}
use Rattle.protocol.specs.Effects.{after}

-- the numbers ascend strictly, from this one on
abbrev pub AscendsFrom : ℕ → List ℕ → Type 0
AscendsFrom low [] = ⊤
AscendsFrom low (i ∷ is) = (low ≤ i) × AscendsFrom (suc i) is

-- two states have the same parts at these numbers
abbrev pub SameOn : {C : Type 0} → List ℕ → Machine C → Machine C → Type 0
SameOn is s t = AllByRecursion (λ i. part s i ≡ part t i) is

-- it has as many logs as the text says
abbrev pub HasLogs : {C : Type 0} → Fixed C → Machine C → Type 0
HasLogs w s = length s.logs ≡ w.text.logs

-- An event leaves every part outside its footprint.
abbrev pub LeavesOthers : {C : Type 0} → Fixed C → Event → Machine C → Type 0
LeavesOthers w e s = (i : ℕ) → is_among i (footprint w.text.logs e) ≡ false → part (after w e s) i ≡ part s i

-- Where two states have the same parts in an event's footprint, the event's conditions are the same in both, and the parts
-- in its footprint are the same after it.
pub record ReadsItsParts {C : Type 0} (w : Fixed C) (e : Event) (s t : Machine C) : Type 0 where
  pub asks : conditions w e s ≡ conditions w e t
  pub parts : SameOn (footprint w.text.logs e) (after w e s) (after w e t)

pub record IsFootprint (logs : ℕ) (e : Event) : Type 0 where
  pub few : length (footprint logs e) ≤ 4
  pub ascends : AscendsFrom 0 (footprint logs e)
