-- A cell and its boxes as contracts see them: the machine's, and for how much more they have room.
use Rattle.std.specs.Prelude.{ℕ, ◌+◌, ◌≤◌}
use Rattle.protocol.specs.CellParts.{Boxes}
use Rattle.protocol.specs.Parts.{Cell}

pub record RoomedBoxes (C : Type 0) : Type 0 where
  pub boxes : Boxes C
  -- how many more controls, with the outcomes that they leave, and how many more outcomes, take no more memory
  pub spare_controls : ℕ
  pub spare_outcomes : ℕ

-- a control, or an outcome, took its room in the boxes
pub record UsesBoxes {C : Type 0} (old new : RoomedBoxes C) : Type 0 where
  pub controls : old.spare_controls ≤ new.spare_controls + 1
  pub outcomes : old.spare_outcomes ≤ new.spare_outcomes + 1

-- there is no less room in the boxes than there was
pub record KeepsBoxes {C : Type 0} (old new : RoomedBoxes C) : Type 0 where
  pub controls : old.spare_controls ≤ new.spare_controls
  pub outcomes : old.spare_outcomes ≤ new.spare_outcomes

pub record Roomed (C : Type 0) : Type 0 where
  pub cell : Cell C
  -- how many more entries, and how many tids of the next sub-batch, take no more memory
  pub spare_entries : ℕ
  pub spare_tids : ℕ
  pub spare_controls : ℕ
  pub spare_outcomes : ℕ

-- there is no less room than there was
pub record KeepsRoom {C : Type 0} (old new : Roomed C) : Type 0 where
  pub entries : old.spare_entries ≤ new.spare_entries
  pub tids : old.spare_tids ≤ new.spare_tids
  pub controls : old.spare_controls ≤ new.spare_controls
  pub outcomes : old.spare_outcomes ≤ new.spare_outcomes

-- there is no less room than there was, but for so many entries, and so many controls or outcomes
pub record KeepsRoomBut {C : Type 0} (used_entries used_boxes : ℕ) (old new : Roomed C) : Type 0 where
  pub entries : old.spare_entries ≤ new.spare_entries + used_entries
  pub tids : old.spare_tids ≤ new.spare_tids
  pub controls : old.spare_controls ≤ new.spare_controls + used_boxes
  pub outcomes : old.spare_outcomes ≤ new.spare_outcomes + used_boxes
