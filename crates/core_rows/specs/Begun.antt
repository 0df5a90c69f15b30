-- What is posted of transactions that begin.
use Rattle.std.specs.Prelude.{◌≡◌, None, List, ◌∷◌, ◌++◌}
use Rattle.protocol.specs.Parts.{Who, SubBatch, ControlMessage}
use Rattle.protocol.specs.Words.{sub_of, control_of}
use Rattle.core_rows.specs.declared.starts.FirstControl.{FirstControl}

-- a first control on its way to the root of its transaction
abbrev pub first_message : {C : Type 0} → Who → FirstControl C → ControlMessage C
first_message who x = record { tid = x.tid.0; who = who; to = x.to.0; control = x.control }

-- posted in their order, each of these sub-batches finds none of its batch for its actor
abbrev pub SubsAreNew : List SubBatch → List SubBatch → Type 0
SubsAreNew there more = (front rest : List SubBatch) (m : SubBatch) → more ≡ front ++ m ∷ rest → sub_of m.bid m.actor (there ++ front) ≡ None

-- posted in their order, each of these controls finds none of its transaction
abbrev pub ControlsAreNew : {C : Type 0} → List (ControlMessage C) → List (ControlMessage C) → Type 0
ControlsAreNew {C} there more = (front rest : List (ControlMessage C)) (m : ControlMessage C) → more ≡ front ++ m ∷ rest → control_of m.tid (there ++ front) ≡ None
