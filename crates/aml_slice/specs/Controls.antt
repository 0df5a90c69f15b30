-- What a control is: what is left of a transaction, the calls that are open and what of its limits is left; and
-- what is asked of one.
use Rattle.std.specs.Prelude.{◌≡◌, ℕ, ◌+◌, ◌-◌, ◌*◌, ◌<◌, ◌≤◌, ◌⊎◌, ℤ, Option, Some, None, List, [], ◌∷◌, length, Contains}
use Rattle.std.specs.List.{AllByRecursion}
use Rattle.snap_base.specs.declared.ids.ActorId.{ActorId}
use Rattle.snap_base.specs.declared.ids.Tid.{Tid}
use Rattle.snap_base.specs.declared.transactions.State.{State}
use Rattle.aml_tree.specs.Tree.{CheckedMethod}
use Rattle.aml_check.specs.declared.limits.TheConstants.{MOST_CALLED_ACTORS, MOST_CALLS, MOST_OPEN_CALLS, MOST_STATEMENTS}
use Rattle.aml_check.specs.Names.{method_at}
use Rattle.aml_check.specs.Meaning.{Progress}
use Rattle.aml_resume.specs.Places.{Standing, with_value, IsPlace}

-- a call that is open: the actor on which its method runs, and where the method stands
pub record Frame : Type 0 where
  pub actor : ℕ
  pub method : ℕ
  pub standing : Standing

-- a frame at its method's beginning
abbrev pub fresh : ℕ → ℕ → List ℤ → Frame
fresh a m arguments = record { actor = a; method = m; standing = record { path = []; next = 0; variables = arguments } }

-- a frame that waits, with the value of its call
abbrev pub with_given : Frame → ℤ → Frame
with_given f v = record f { standing = with_value f.standing v }

-- What is left of a transaction: the frame that runs, those that wait, the innermost first, and the counts
-- of statements and calls, the actors that were called, and of a PACT the calls that are left of those that it declared.
pub record Rest : Type 0 where
  pub tid : Tid
  pub top : Frame
  pub waiting : List Frame
  pub statements : ℕ
  pub calls : ℕ
  pub actors : List ℕ
  pub left : Option (List (ActorId × ℕ))

-- the run so far, in a world
abbrev pub progress_in : Rest → List State → Progress
progress_in c w = record { world = w; statements = c.statements; calls = c.calls; actors = c.actors; left = c.left }

-- ---- what every control keeps

-- how many frames may wait: all of the calls that may be open but the one that runs
abbrev pub most_waiting : ℕ
most_waiting = MOST_OPEN_CALLS - 1

-- a frame whose method stands at a place of its body, with so many more variables to come
pub record IsFrame (p : List CheckedMethod) (count more : ℕ) (f : Frame) : Type 0 where
  pub known : f.actor < count
  pub has_method : f.method < length p
  pub place : IsPlace p (length f.standing.variables + more) (method_at p f.method).body f.standing.path f.standing.next

-- What is left of some transaction of the program, in a world of so many actors.
pub record IsRest (p : List CheckedMethod) (count : ℕ) (c : Rest) : Type 0 where
  pub top : IsFrame p count 0 c.top
  pub waiting : AllByRecursion (IsFrame p count 1) c.waiting
  pub open_calls : length c.waiting ≤ most_waiting
  pub statements : c.statements ≤ MOST_STATEMENTS
  pub calls : (1 ≤ c.calls) × (c.calls ≤ MOST_CALLS)
  pub actors : length c.actors ≤ MOST_CALLED_ACTORS
  pub visited : Contains c.actors c.top.actor
  pub visited_below : AllByRecursion (λ (f : Frame). Contains c.actors f.actor) c.waiting

-- ---- askings

-- a frame stands on the actor
abbrev pub StandsOn : List Frame → ℕ → Type 0
StandsOn [] a = ⊥
StandsOn (f ∷ fs) a = (f.actor ≡ a) ⊎ StandsOn fs a

-- of what was declared, some call of the actor is left
abbrev pub IsCallLeft : List (ActorId × ℕ) → ℕ → Type 0
IsCallLeft [] a = ⊥
IsCallLeft (u ∷ us) a = ((u.0.0 ≡ a) × (1 ≤ u.1)) ⊎ IsCallLeft us a

abbrev pub HasLeft : Option (List (ActorId × ℕ)) → ℕ → Type 0
HasLeft None a = ⊥
HasLeft (Some us) a = IsCallLeft us a

-- a frame stands on the actor, or calls of it that were declared are left
abbrev pub RestsOn : Rest → ℕ → Type 0
RestsOn c a = StandsOn (c.top ∷ c.waiting) a ⊎ HasLeft c.left a

-- twice the calls that are left, and the frames that wait
abbrev pub moves_left : Rest → ℕ
moves_left c = 2 * (MOST_CALLS - c.calls) + length c.waiting
