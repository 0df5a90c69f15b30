-- Where each transaction's PACT is written down.
use Rattle.std.specs.Prelude.{ℕ, ◌+◌, ◌≡◌, Some, List, [], ◌∷◌, slice_get, slice_set, ⊤}
use Rattle.batch_table.specs.declared.spots.Spot.{Spot}

abbrev pub spot_at : ℕ → ℕ → Spot
spot_at i j = record { batch = i; place = j }

-- the spots after those of batch i were written, whose PACTs from place j on are these transactions
abbrev pub with_spots : ℕ → ℕ → List ℕ → List Spot → List Spot
with_spots i j [] spots = spots
with_spots i j (n ∷ ns) spots = with_spots i (j + 1) ns (slice_set spots n (spot_at i j))

-- the transactions of batch i from place j on stand where their spots say
abbrev pub AreSpottedIn : ℕ → ℕ → List Spot → List ℕ → Type 0
AreSpottedIn i j spots [] = ⊤
AreSpottedIn i j spots (n ∷ ns) = (slice_get spots n ≡ Some (spot_at i j)) × AreSpottedIn i (j + 1) spots ns

-- those of all batches from batch i on do
abbrev pub AreSpotted : ℕ → List Spot → List (List ℕ) → Type 0
AreSpotted i spots [] = ⊤
AreSpotted i spots (ns ∷ nss) = AreSpottedIn i 0 spots ns × AreSpotted (i + 1) spots nss
