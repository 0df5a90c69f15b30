-- What is raised along pairs is raised no further than these force.
use Rattle.std.specs.Prelude.{◌≡◌, refl, ℕ, ◌≤◌, Bool, true, false, if◌then◌else◌, List, [], ◌∷◌, map, filter}
use Rattle.std.specs.List.{AllByRecursion}
use Rattle.std.proofs.Common.{arith}
use Rattle.protocol.specs.Parts.{Act, Pair}
use Rattle.protocol.specs.Words.{greatest}
use Rattle.protocol.specs.Spread.{carries_to, carried, raised}
use Rattle.protocol_theorems.specs.Rises.{RisesAreLeast}
use Rattle.protocol_laws.proofs.first.Lists.{weaker}

-- what a raised one carries it carried before
over_raised : (ps : List Pair) (x : Act) (g : ℕ → ℕ) (xs : List Act) → AllByRecursion (λ u. carries_to ps x u ≡ true → g u.tid ≤ g x.tid) xs → AllByRecursion (λ u. carries_to ps x u ≡ true → g u.tid ≤ g x.tid) (raised ps xs)
over_raised ps x g [] h = tt
over_raised ps x g (u ∷ us) h = (h.0, over_raised ps x g us h.1)

carried_below : (ps : List Pair) (x : Act) (g : ℕ → ℕ) (ys : List Act) → AllByRecursion (λ y. y.m ≤ g y.tid) ys → AllByRecursion (λ u. carries_to ps x u ≡ true → g u.tid ≤ g x.tid) ys → carried ps x ys ≤ g x.tid
carried_below ps x g [] h k = omega arith
carried_below ps x g (y ∷ ys) h k = by (carries_to ps x y) refl (carried_below ps x g ys h.1 k.1)
  where
    by : (c : Bool) → carries_to ps x y ≡ c → carried ps x ys ≤ g x.tid → greatest (map (λ u. u.m) (if c then y ∷ filter (carries_to ps x) ys else filter (carries_to ps x) ys)) ≤ g x.tid
    by true e r = omega (arith, r, h.0, k.0 e)
    by false e r = r

least : (ps : List Pair) (g : ℕ → ℕ) (xs : List Act) → AllByRecursion (λ x. x.m ≤ g x.tid) xs → AllByRecursion (λ x. AllByRecursion (λ u. carries_to ps x u ≡ true → g u.tid ≤ g x.tid) xs) xs → AllByRecursion (λ y. y.m ≤ g y.tid) (raised ps xs)
least ps g [] h k = tt
least ps g (x ∷ xs) h k =
    let rest = least ps g xs h.1 (weaker (λ y. AllByRecursion (λ u. carries_to ps y u ≡ true → g u.tid ≤ g y.tid) (x ∷ xs)) (λ y. AllByRecursion (λ u. carries_to ps y u ≡ true → g u.tid ≤ g y.tid) xs) xs (λ y q. q.1) k.1) in
    (omega (arith, h.0, carried_below ps x g (raised ps xs) rest (over_raised ps x g xs k.0.1)), rest)

pub rises_are_least : RisesAreLeast
rises_are_least ps xs g h = least ps g xs h.reaches h.carries
