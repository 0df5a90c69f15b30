-- Where a method stands between two statements, and what is left of it from there.
use Rattle.std.specs.Prelude.{ℕ, zero, suc, ◌+◌, ◌≤◌, Bool, true, false, ℤ, List, [], ◌∷◌, ◌++◌, ⊤}
use Rattle.aml_tree.specs.Tree.{Code, End, Let, Call, Set, SetField, If, IfElse, While, Fail, Return, CheckedMethod}
use Rattle.aml_tree.specs.declared.limits.TheConstants.{MOST_NAMES}
use Rattle.aml_tree.specs.Limits.{lets}
use Rattle.aml_check.specs.Closed.{IsClosedBlock}
use Rattle.aml_resume.specs.declared.places.Spot.{Spot}

-- Where a method stands: the statements whose inner blocks are open, from the outermost, and the statement of
-- the innermost open block that is next; with the values of the variables in view.
pub record Standing : Type 0 where
  pub path : List Spot
  pub next : ℕ
  pub variables : List ℤ

-- with the value of a call in a new variable
abbrev pub with_value : Standing → ℤ → Standing
with_value f v = record f { variables = f.variables ++ v ∷ [] }

-- what is left of a block behind so many statements
abbrev pub behind_some : ℕ → Code ℕ ℕ → Code ℕ ℕ
behind_some zero b = b
behind_some (suc n) (End line) = End line
behind_some (suc n) (Let line v value rest) = behind_some n rest
behind_some (suc n) (Call line v target m arguments rest) = behind_some n rest
behind_some (suc n) (Set v value rest) = behind_some n rest
behind_some (suc n) (SetField line k value rest) = behind_some n rest
behind_some (suc n) (If condition first rest) = behind_some n rest
behind_some (suc n) (IfElse condition first other rest) = behind_some n rest
behind_some (suc n) (While condition body rest) = behind_some n rest
behind_some (suc n) (Fail code rest) = behind_some n rest
behind_some (suc n) (Return value rest) = behind_some n rest

-- a block begins with a statement that has an inner block; the one behind `else`, or the first
abbrev pub HasInner : Bool → Code ℕ ℕ → Type 0
HasInner false (If condition first rest) = ⊤
HasInner false (While condition body rest) = ⊤
HasInner other (IfElse condition first second rest) = ⊤
HasInner other _ = ⊥

-- the inner block of its first statement
abbrev pub inner_of : Bool → Code ℕ ℕ → Code ℕ ℕ
inner_of other (If condition first rest) = first
inner_of other (While condition body rest) = body
inner_of true (IfElse condition first second rest) = second
inner_of false (IfElse condition first second rest) = first
inner_of other _ = End 0

-- what goes on behind that inner block: a loop asks its condition again
abbrev pub after_inner : Code ℕ ℕ → Code ℕ ℕ
after_inner (If condition first rest) = rest
after_inner (IfElse condition first second rest) = rest
after_inner (While condition body rest) = While condition body rest
after_inner _ = End 0

-- the place of what goes on there: a loop's own, and else the one behind
abbrev pub place_behind : ℕ → Code ℕ ℕ → ℕ
place_behind at (While condition body rest) = at
place_behind at _ = at + 1

-- a block that is run with n variables in view: it is closed, and no more than `MOST_NAMES` are ever in view
abbrev pub IsRunnable : List CheckedMethod → ℕ → Code ℕ ℕ → Type 0
IsRunnable p n b = IsClosedBlock p n b × (n + lets b ≤ MOST_NAMES)

-- how many variables are in view behind the outermost of the open blocks
abbrev pub kept : ℕ → List Spot → ℕ
kept n [] = n
kept n (q ∷ qs) = q.keep

-- The place is one of the block, with n variables in view: behind an inner block no more are in view than
-- behind a block in it.
abbrev pub IsPlace : List CheckedMethod → ℕ → Code ℕ ℕ → List Spot → ℕ → Type 0
IsPlace p n b [] next = IsRunnable p n (behind_some next b)
IsPlace p n b (q ∷ qs) next =
    HasInner q.other (behind_some q.at b)
    × IsPlace p n (inner_of q.other (behind_some q.at b)) qs next
    × (q.keep ≤ kept n qs)
    × IsRunnable p q.keep (after_inner (behind_some q.at b))
