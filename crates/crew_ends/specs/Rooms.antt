-- The room that the end of a crew needs.
use Rattle.std.specs.Prelude.{◌≡◌, ℕ, ◌+◌, ◌≤◌, length}
use Rattle.protocol.specs.Fixed.{Fixed}
use Rattle.snap_hand.specs.Hands.{Parts}
use Rattle.snap_hand.specs.Shown.{no_parts}

-- a hand for the parts, and room for so many parts and so many logs
pub record RoomState : Type 0 where
  pub hand : Parts
  pub parts : ℕ
  pub logs : ℕ

-- The hand is for the parts of the text and has none, and there is room for the parts and the logs.
abbrev pub IsRoomFor : {C : Type 0} → Fixed C → RoomState → Type 0
IsRoomFor w room =
    (room.hand ≡ no_parts w.text.logs (length w.text.opening.states)) × (4 + w.text.logs + length w.text.opening.states ≤ room.parts) × (w.text.logs ≤ room.logs)
