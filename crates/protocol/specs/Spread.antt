-- How before numbers rise along pairs, and which ACTs are then given up.
use Rattle.std.specs.Prelude.{ℕ, ◌==◌, nat_le, max, Bool, false, not, ◌&&◌, if◌then◌else◌, Option, Some, None, unwrap_or, List, [], ◌∷◌, map, filter}
use Rattle.std.specs.List.{list_any}
use Rattle.protocol.specs.Parts.{Act, Doomed, Pair}
use Rattle.protocol.specs.Words.{greatest, is_doomed, is_live_status, is_ordered}
use Rattle.protocol.specs.Verdicts.{out_of_order}

-- ---- rise: who stands behind an ACT that is not doomed has a before number at least as great

abbrev pub stands_behind : List Pair → ℕ → ℕ → Bool
stands_behind pairs t u = list_any (λ p. (p.behind == t) && (p.ahead == u)) pairs

-- the ACT carries its number to the one that stands behind it
abbrev pub carries_to : List Pair → Act → Act → Bool
carries_to pairs x u = not (is_ordered x.status) && (not (is_doomed u.status) && stands_behind pairs x.tid u.tid)

abbrev pub carried : List Pair → Act → List Act → ℕ
carried pairs x others = greatest (map (λ u. u.m) (filter (carries_to pairs x) others))

abbrev pub raised_over : List Pair → Act → List Act → List Act
raised_over pairs x others = record x { m = max x.m (carried pairs x others) } ∷ others

-- Tids ascend along the list, and who stands behind another ACT is older. So each ACT is raised after those
-- that it stands behind, and once is enough.
abbrev pub raised : List Pair → List Act → List Act
raised pairs [] = []
raised pairs (x ∷ xs) = raised_over pairs x (raised pairs xs)

-- ---- doom: nobody stands behind a batch and ahead of one that is not above it

abbrev pub reaches : ℕ → Option ℕ → Bool
reaches m None = false
reaches m (Some n) = nat_le n m

-- it has not left all its actors, is not doomed, and its numbers cross
abbrev pub is_crossed : Act → Bool
is_crossed x = is_live_status x.status && reaches x.m x.n

abbrev pub crossed_out : ℕ → Act → Act
crossed_out a x = record x { status = if is_crossed x then Doomed (out_of_order x.m (unwrap_or x.n 0) a) else x.status }

-- at an event on actor a
abbrev pub doomed_by_order : ℕ → List Act → List Act
doomed_by_order a acts = map (crossed_out a) acts
