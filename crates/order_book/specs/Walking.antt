-- Which ACTs an event may change though it does not name them: those that are live, and those given up that still stand
-- behind another one. The book walks these alone.
use Rattle.std.specs.Prelude.{ℕ, suc, ◌==◌, Bool, ◌&&◌, ◌||◌, if◌then◌else◌, List, [], ◌∷◌, slice_get}
use Rattle.std.specs.List.{list_any}
use Rattle.protocol.specs.Parts.{Act, Pair}
use Rattle.protocol.specs.Words.{is_live_status, is_doomed, holds}

-- it stands behind some ACT on some actor
abbrev pub is_behind : List Pair → ℕ → Bool
is_behind pairs t = list_any (λ p. p.behind == t) pairs

abbrev pub is_walked : List Pair → Act → Bool
is_walked pairs x = is_live_status x.status || (is_doomed x.status && is_behind pairs x.tid)

abbrev pub is_walked_at : List Pair → List Act → ℕ → Bool
is_walked_at pairs acts at = holds (is_walked pairs) (slice_get acts at)

-- the places of those that pass, where the first place is k
abbrev pub places_of : (Act → Bool) → ℕ → List Act → List ℕ
places_of test k [] = []
places_of test k (x ∷ xs) = if test x then k ∷ places_of test (suc k) xs else places_of test (suc k) xs
