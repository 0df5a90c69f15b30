-- How a cell keeps its images: whose they are stands beside them, and the states are in the pool.
use Rattle.std.specs.Prelude.{◌≡◌, ◌≢◌, ℕ, ◌+◌, ◌≤◌, List, [], ◌∷◌, length, map, Option, Some, None, ⊤}
use Rattle.snap_base.specs.declared.transactions.State.{State}
use Rattle.image_pool.specs.Region.{Region, state_in_slot, IsLive}
use Rattle.protocol.specs.Meant.{who_meant}
use Rattle.protocol.specs.Fixed.{no_state}
use Rattle.protocol.specs.Parts.{Image}
use Rattle.actor_cell.specs.declared.images.Held.{Held}
use Rattle.actor_cell.specs.declared.images.TheConstants.{MOST_IMAGES}

abbrev pub state_or_none : Option State → State
state_or_none None = no_state
state_or_none (Some s) = s

abbrev pub image_in : Region → Held → Image
image_in r h = record { who = who_meant h.who; state = state_or_none (state_in_slot h.image r) }

abbrev pub images_of : Region → List Held → List Image
images_of r held = map (image_in r) held

-- nobody holds an image in the slot
abbrev pub IsSlotFree : ℕ → List Held → Type 0
IsSlotFree slot [] = ⊤
IsSlotFree slot (h ∷ hs) = (h.image ≢ slot) × IsSlotFree slot hs

-- each holds an image of the pool, in a slot of its own
abbrev pub AreApart : Region → List Held → Type 0
AreApart r [] = ⊤
AreApart r (h ∷ hs) = IsLive h.image r × (IsSlotFree h.image hs × AreApart r hs)

pub record AreImagesKept (r : Region) (held : List Held) (capacity : ℕ) : Type 0 where
  pub apart : AreApart r held
  -- all other slots are spare, and there is room for who holds them
  pub counted : length held + r.spare ≡ MOST_IMAGES
  pub room : MOST_IMAGES ≤ capacity
