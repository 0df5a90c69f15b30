-- In which order a batch's PACTs run on an actor.
-- Only proofs cite this; the rule is `OrderHolds` (Order).
use Rattle.std.specs.Prelude.{◌≡◌, ℕ, ◌<◌, ◌≤◌, ◌==◌, true, false, List, [], ◌∷◌, ⊤}
use Rattle.std.specs.List.{AllByRecursion, list_any}
use Rattle.protocol.specs.Parts.{Slot, Entry, BatchEntry, ActEntry}
use Rattle.protocol.specs.Words.{who_of}
use Rattle.protocol.specs.History.{Slice, Ran, Stands, Gone}

-- tids never fall, from one on
abbrev pub Rising : ℕ → List Slice → Type 0
Rising low [] = ⊤
Rising low (x ∷ xs) = (low ≤ x.tid) × Rising x.tid xs

-- the PACT is of the sub-batch, and all smaller ones are done there
abbrev pub IsPast : List Slot → ℕ → Type 0
IsPast slots u = (list_any (λ s. s.tid == u) slots ≡ true) × AllByRecursion (λ s. s.tid < u → s.done ≡ true) slots

abbrev pub TurnOf : Entry → List Slice → Type 0
TurnOf (BatchEntry b) ss = Rising 0 ss × AllByRecursion (λ x. IsPast b.slots x.tid) ss × (b.complete ≡ true → AllByRecursion (λ s. s.done ≡ true) b.slots)
TurnOf (ActEntry x) ss = AllByRecursion (λ z. z.tid ≡ x.tid) ss × (x.reader ≡ true → ss ≡ [])

-- who stands in the long schedule has an entry in the schedule, in the same order
abbrev pub Turns : List Ran → List Entry → Type 0
Turns [] [] = ⊤
Turns [] (e ∷ es) = ⊥
Turns (Gone y ss ∷ rs) es = Turns rs es
Turns (Stands y c ss ∷ rs) [] = ⊥
Turns (Stands y c ss ∷ rs) (e ∷ es) = (who_of e ≡ y) × TurnOf e ss × Turns rs es

-- the transaction is not done in its entry
abbrev pub NotDone : ℕ → Entry → Type 0
NotDone t (BatchEntry b) = AllByRecursion (λ s. s.tid ≡ t → s.done ≡ false) b.slots
NotDone t (ActEntry x) = ⊤
