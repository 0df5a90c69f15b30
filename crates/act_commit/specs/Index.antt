-- Where each ACT stands in a list, by its tid. No two have one tid.
use Rattle.std.specs.Prelude.{◌≡◌, ℕ, ◌<◌, Option, Some, List, length, slice_index_or}
use Rattle.protocol.specs.Parts.{Act}

pub record IsIndex (place_of : ℕ → Option ℕ) (acts : List Act) : Type 0 where
  pub finds : (i : ℕ) (d : Act) → i < length acts → place_of (slice_index_or acts i d).tid ≡ Some i
  pub within : (t i : ℕ) → place_of t ≡ Some i → i < length acts
  pub found : (t i : ℕ) (d : Act) → place_of t ≡ Some i → (slice_index_or acts i d).tid ≡ t
