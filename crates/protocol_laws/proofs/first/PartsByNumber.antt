-- The parts of a state by their numbers.
use Rattle.std.specs.Prelude.{◌≡◌, ◌≢◌, refl, ℕ, zero, suc, ◌+◌, ◌<◌, ◌==◌, false, Some, option_map, List, [], ◌∷◌, ◌++◌, length, map, slice_get}
use Rattle.std.proofs.Common.{arith, ap, ◌∙◌}
use Rattle.std.proofs.lemmas.Bool.{eqb-false, or_parts}
use Rattle.snap_base.proofs.Lists.{get_left}
use Rattle.protocol.specs.Parts.{Machine}
use Rattle.protocol.specs.Events.{Part, LogPart, CellPart, part}
use Rattle.protocol.specs.Words.{is_among}
use Rattle.protocol_laws.proofs.first.Times

-- ---- lists

pub number_is : (x y : ℕ) → Some x ≡ Some y → x ≡ y
number_is x y e = cc e

pub not_at : (i x n : ℕ) (ns : List ℕ) → is_among i ns ≡ false → slice_get ns n ≡ Some x → x ≢ i
not_at i x n [] h e = absurd (cc e)
not_at i x zero (y ∷ ys) h e = λ q. eqb-false y i (or_parts (y == i) (is_among i ys) h).0 (number_is y x e ∙ q)
not_at i x (suc n) (y ∷ ys) h e = not_at i x n ys (or_parts (y == i) (is_among i ys) h).1 e

pub get_map : {X Y : Type 0} (f : X → Y) (xs : List X) (i : ℕ) → slice_get (map f xs) i ≡ option_map f (slice_get xs i)
get_map f [] i = refl
get_map f (x ∷ xs) zero = refl
get_map f (x ∷ xs) (suc i) = get_map f xs i

pub get_right : {X : Type 0} (xs ys : List X) (i : ℕ) → slice_get (xs ++ ys) (length xs + i) ≡ slice_get ys i
get_right [] ys i = let e : 0 + i ≡ i = omega arith in rw e refl
get_right (x ∷ xs) ys i = let e : suc (length xs) + i ≡ suc (length xs + i) = omega arith in rw e (get_right xs ys i)

-- ---- the parts by number

pub at_4 : {C : Type 0} (s : Machine C) (i : ℕ) → part s (4 + i) ≡ slice_get (map LogPart s.logs ++ map CellPart s.cells) i
at_4 s i = let e : 4 + i ≡ suc (suc (suc (suc i))) = omega arith in rw e refl

pub part_log : {C : Type 0} (s : Machine C) (l : ℕ) → l < length s.logs → part s (4 + l) ≡ option_map LogPart (slice_get s.logs l)
part_log {C} s l h = at_4 s l ∙ (get_left (map LogPart s.logs) (map CellPart s.cells) l (rw (Times.length_map {Y = Part C} LogPart s.logs) h) ∙ get_map LogPart s.logs l)

pub part_cell : {C : Type 0} (s : Machine C) (logs a : ℕ) → length s.logs ≡ logs → part s (4 + logs + a) ≡ option_map CellPart (slice_get s.cells a)
part_cell {C} s logs a h =
    let e : 4 + logs + a ≡ 4 + (length (map {B = Part C} LogPart s.logs) + a) = omega (arith, h, Times.length_map {Y = Part C} LogPart s.logs) in
    ap (part s) e ∙ (at_4 s (length (map {B = Part C} LogPart s.logs) + a) ∙ (get_right (map LogPart s.logs) (map CellPart s.cells) a ∙ get_map CellPart s.cells a))
