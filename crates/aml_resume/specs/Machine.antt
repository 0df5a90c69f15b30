-- Only private contracts cite this; the rule is Pausing. How flat code that runs stands to what is left of a method.
use Rattle.std.specs.Prelude.{◌≡◌, ℕ, ◌+◌, ◌-◌, ◌*◌, ◌≤◌, ℤ, Bool, true, false, Result, Ok, Err, Option, Some, None, List, [], ◌∷◌, length, map, reverse, slice_index_or, ⊤}
use Rattle.snap_base.specs.declared.transactions.State.{State}
use Rattle.aml_tree.specs.Tree.{Code, CheckedMethod}
use Rattle.aml_tree.specs.declared.limits.TheConstants.{MOST_LEVELS, MOST_PARAMETERS}
use Rattle.aml_flat.specs.declared.operations.BlockPlace.{BlockPlace}
use Rattle.aml_flat.specs.declared.operations.Operation.{Operation}
use Rattle.aml_flat.specs.declared.operations.Operation.TheVariants as op
use Rattle.aml_flat.specs.Flat.{Lies, LiesAt}
use Rattle.aml_check.specs.Closed.{nesting}
use Rattle.aml_check.specs.declared.limits.TheConstants.{MOST_STATEMENTS}
use Rattle.aml_resume.specs.declared.activations.Activation.{Activation}
use Rattle.aml_resume.specs.declared.places.Spot.{Spot}
use Rattle.aml_resume.specs.declared.ways.Way.{Way}
use Rattle.aml_resume.specs.declared.ways.Way.TheVariants as way
use Rattle.aml_resume.specs.Places.{IsPlace, IsRunnable, kept}
use Rattle.aml_resume.specs.Pausing.{Pause, Returned, Calling, Failed, around, block_pause, given_at_end, pause_from}
use Rattle.aml_resume.specs.Rooms.{HasRoom}

-- ---- what a run needs and keeps: the room of the activation and of the arguments, and the count of statements

pub record IsReadyToRun (a : Activation) (capacity n : ℕ) : Type 0 where
  pub room : HasRoom a
  pub arguments_room : MOST_PARAMETERS ≤ capacity
  pub count : n ≤ MOST_STATEMENTS

pub record StaysReady (capacity n : ℕ) (b : Activation) (after k : ℕ) : Type 0 where
  pub room : HasRoom b
  pub arguments_room : after ≡ capacity
  pub risen : n ≤ k
  pub count : k ≤ MOST_STATEMENTS

-- what is given is this
abbrev pub IsMeant : {T A : Type 0} → (T → A) → Result A ℕ → Result T ℕ → Type 0
IsMeant view meant (Ok x) = meant ≡ Ok (view x)
IsMeant view meant (Err code) = meant ≡ Err code

-- ---- open blocks

-- A statement whose inner block is open, and what goes on behind that: what is left of its block, from a place on.
pub record Outer : Type 0 where
  pub spot : Spot
  pub at : ℕ
  pub code : Code ℕ ℕ

-- what becomes of a block, and what goes on behind it, the innermost first
abbrev pub onward : ℕ → List Outer → Pause → Pause
onward own [] x = x
onward own (o ∷ os) x = onward own os (around o.spot x (block_pause own o.at o.code))

-- What is left of a block lies at a position; it can be run with n variables in view, inside so many blocks.
pub record IsLeft (p : List CheckedMethod) (ops : List Operation) (from at outside n : ℕ) (b : Code ℕ ℕ) : Type 0 where
  pub lies : Lies ops from at b
  pub runnable : IsRunnable p n b
  pub deep : outside + nesting b ≤ MOST_LEVELS
  pub early : at ≤ from

-- what goes on behind each block that is open lies at its position
abbrev pub AreLeft : List CheckedMethod → List Operation → List ℕ → ℕ → List Outer → Type 0
AreLeft p ops positions n [] = ⊤
AreLeft p ops positions n (o ∷ os) =
    (o.spot.keep ≤ n) × IsLeft p ops (slice_index_or positions (length os) 0) o.at (length os) o.spot.keep o.code × AreLeft p ops positions o.spot.keep os

-- From the position on, with this path from the innermost block, these variables, this state and this count, a method goes on to the whole.
pub record Leads (p : List CheckedMethod) (ops : List Operation) (own : ℕ) (path : List Spot) (positions : List ℕ) (from : ℕ) (vs : List ℤ) (s : State) (n : ℕ) (whole : Pause) : Type 0 where
  pub outer : List Outer
  pub at : ℕ
  pub left : Code ℕ ℕ
  pub here : IsLeft p ops from at (length outer) (length vs) left
  pub behind : AreLeft p ops positions (length vs) outer
  pub spots : path ≡ map (λ (o : Outer). o.spot) outer
  pub meant : whole ≡ given_at_end (onward own outer (block_pause own at left vs s n))

abbrev pub Stands : List CheckedMethod → List Operation → ℕ → Activation → List ℕ → ℕ → State → ℕ → Pause → Type 0
Stands p ops own a positions from s n whole = Leads p ops own (reverse a.path.items) positions from a.variables.items s n whole

-- it stands somewhere
abbrev pub CanRun : List CheckedMethod → List Operation → ℕ → Activation → List ℕ → ℕ → State → ℕ → Type 0
CanRun p ops own a positions from s n = (whole : Pause) × Stands p ops own a positions from s n whole

-- ---- one operation

-- behind an operation the method leads to the same whole from the next position on, or the whole is how it was left
abbrev pub After : List CheckedMethod → List Operation → ℕ → Activation → List ℤ → List ℕ → State → ℕ → Pause → Result Way ℕ → Type 0
After p ops own a arguments positions s n whole (Ok (way.Goes from)) = Stands p ops own a positions from s n whole
After p ops own a arguments positions s n whole (Ok (way.Gives v)) = whole ≡ Returned v s n
After p ops own a arguments positions s n whole (Ok (way.Asks target m)) = whole ≡ Calling target m arguments (record { path = a.path.items; next = a.next; variables = a.variables.items }) s n
After p ops own a arguments positions s n whole (Err code) = whole ≡ Failed code s n

-- an operation at a position has run, whatever the whole is
abbrev pub HasRun : List CheckedMethod → List Operation → ℕ → ℕ → Activation → List ℕ → State → ℕ → Activation → List ℤ → List ℕ → State → ℕ → Result Way ℕ → Type 0
HasRun p ops own from a positions s n b arguments later t k result =
    (whole : Pause) → Stands p ops own a positions from s n whole → After p ops own b arguments later t k whole result

abbrev pub IfGoes : Result Way ℕ → Type 0 → Type 0
IfGoes (Ok (way.Goes from)) P = P
IfGoes (Ok (way.Gives v)) P = ⊤
IfGoes (Ok (way.Asks target m)) P = ⊤
IfGoes (Err code) P = ⊤

-- falls with each statement that is counted, and where an inner block is left
abbrev pub left_to_do : ℕ → ℕ → ℕ
left_to_do n levels = (MOST_STATEMENTS - n) * (MOST_LEVELS + 1) + levels

-- ---- where a method stands, in flat code

-- the inner block of an operation, the one behind `else` or the first, and the position of what goes on behind it
abbrev pub opened_of : Bool → ℕ → Operation → Option (BlockPlace × ℕ)
opened_of other from (op.If place e to) = Some (to, from + 1)
opened_of false from (op.IfElse place e to otherwise) = Some (to, from + 1)
opened_of true from (op.IfElse place e to otherwise) = Some (otherwise, from + 1)
opened_of other from (op.While place e to) = Some (to, from)
opened_of other from _ = None

-- From a block that lies at a place, and the rest of the path in it, a method goes on to the whole. These are the statements whose
-- inner blocks were entered so far, the innermost first.
pub record Enters (p : List CheckedMethod) (ops : List Operation) (own : ℕ) (path entered : List Spot) (next : ℕ) (positions : List ℕ) (block : BlockPlace) (vs : List ℤ) (s : State) (n : ℕ) (whole : Pause) : Type 0 where
  pub outer : List Outer
  pub left : Code ℕ ℕ
  pub lies : LiesAt ops block left
  pub place : IsPlace p (length vs) left path next
  pub deep : length outer + nesting left ≤ MOST_LEVELS
  pub behind : AreLeft p ops positions (kept (length vs) path) outer
  pub spots : entered ≡ map (λ (o : Outer). o.spot) outer
  pub meant : whole ≡ given_at_end (onward own outer (pause_from own left path next vs s n))
