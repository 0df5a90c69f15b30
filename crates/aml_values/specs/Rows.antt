-- Only private contracts cite this; the rule is Meaning. What the parts of a row make of values.
use Rattle.std.specs.Prelude.{◌≡◌, ℕ, zero, suc, ℤ, pos, ◌-ℤ◌, Result, Ok, Err, None, List, [], ◌∷◌, ⊤}
use Rattle.std.specs.List.{AllByRecursion}
use Rattle.snap_base.specs.declared.transactions.State.{State}
use Rattle.aml_tree.specs.declared.trees.Operator.{Operator}
use Rattle.aml_flat.specs.declared.operations.Part.{Part}
use Rattle.aml_flat.specs.declared.operations.Part.TheVariants as part
use Rattle.aml_flat.specs.Flat.{operand_tree}
use Rattle.aml_check.specs.Closed.{IsClosedExpression}
use Rattle.aml_check.specs.Meaning.{◌>>=◌, decided, unless_decided, in_range, joined, value_of}

-- what an operator makes of what its sides give
abbrev pub made : Operator → Result ℤ ℕ → Result ℤ ℕ → Result ℤ ℕ
made o left right = left >>= λ x. unless_decided (decided o x) (right >>= λ y. joined o x y)

abbrev pub negated : Result ℤ ℕ → Result ℤ ℕ
negated r = r >>= λ x. in_range (pos 0 -ℤ x)

-- what left sides give that wait for their right sides, each with its operator, the innermost first
abbrev pub Lefts : Type 0
Lefts = List (Operator × Result ℤ ℕ)

abbrev pub value_at_end : Result ℤ ℕ → Lefts → Result ℤ ℕ
value_at_end r [] = r
value_at_end r (w ∷ ws) = value_at_end (made w.0 w.1 r) ws

-- what parts make of what there is so far
abbrev pub row_value : ℕ → List ℤ → State → Result ℤ ℕ → Lefts → List Part → Result ℤ ℕ
row_value own vs s r ws [] = value_at_end r ws
row_value own vs s r ws (part.Join o a ∷ ps) = row_value own vs s (made o r (value_of own vs s (operand_tree a))) ws ps
row_value own vs s r ws (part.Open o a ∷ ps) = row_value own vs s (value_of own vs s (operand_tree a)) ((o, r) ∷ ws) ps
row_value own vs s r [] (part.Close ∷ ps) = row_value own vs s r [] ps
row_value own vs s r (w ∷ ws) (part.Close ∷ ps) = row_value own vs s (made w.0 w.1 r) ws ps
row_value own vs s r ws (part.Negate ∷ ps) = row_value own vs s (negated r) ws ps
row_value own vs s r ws (part.Group ∷ ps) = row_value own vs s r ws ps

-- the parts behind the right side in which the first of them stands, where so many further ones are open in it
abbrev pub behind : ℕ → List Part → List Part
behind n [] = []
behind n (part.Join o a ∷ ps) = behind n ps
behind n (part.Open o a ∷ ps) = behind (suc n) ps
behind zero (part.Close ∷ ps) = ps
behind (suc n) (part.Close ∷ ps) = behind n ps
behind n (part.Negate ∷ ps) = behind n ps
behind n (part.Group ∷ ps) = behind n ps

-- ---- what may be read

abbrev pub IsClosedPart : ℕ → Part → Type 0
IsClosedPart n (part.Join o a) = IsClosedExpression n (operand_tree a)
IsClosedPart n (part.Open o a) = IsClosedExpression n (operand_tree a)
IsClosedPart n part.Close = ⊤
IsClosedPart n part.Negate = ⊤
IsClosedPart n part.Group = ⊤

abbrev pub AreClosed : ℕ → List Part → Type 0
AreClosed n ps = AllByRecursion (IsClosedPart n) ps

-- ---- while a row is run

-- a value before some parts comes to the same as another one before others, whatever waits
abbrev pub Becomes : ℕ → List ℤ → State → ℤ → List Part → ℤ → List Part → Type 0
Becomes own vs s x ps y qs = (ws : Lefts) → row_value own vs s (Ok x) ws ps ≡ row_value own vs s (Ok y) ws qs

-- a value before some parts is the whole right side as the other one, behind which those parts follow; where none is open, it comes to the same
abbrev pub EndsAs : ℕ → List ℤ → State → ℤ → List Part → ℤ → List Part → Type 0
EndsAs own vs s x ps y qs =
    ((w : Operator × Result ℤ ℕ) (ws : Lefts) → row_value own vs s (Ok x) (w ∷ ws) ps ≡ row_value own vs s (made w.0 w.1 (Ok y)) ws qs)
    × (row_value own vs s (Ok x) [] ps ≡ row_value own vs s (Ok y) [] qs)

-- a left side gives a value that does not decide
abbrev pub IsOpen : Operator × Result ℤ ℕ → Type 0
IsOpen w = (x : ℤ) × (w.1 ≡ Ok x) × (decided w.0 x ≡ None)

-- the parts fail, whatever waits that did not decide
abbrev pub Fails : ℕ → List ℤ → State → ℤ → List Part → ℕ → Type 0
Fails own vs s x ps code = (ws : Lefts) → AllByRecursion IsOpen ws → row_value own vs s (Ok x) ws ps ≡ Err code
