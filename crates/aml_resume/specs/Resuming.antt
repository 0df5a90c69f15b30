-- What a pause means: a method gives, from where it stands on, what its pause goes on to, whatever calls give, and
-- whatever else the world holds.
use Rattle.std.specs.Prelude.{◌≡◌, ℕ, ◌+◌, ◌<◌, ◌≤◌, ℤ, pos, Result, Ok, Err, List, [], ◌∷◌, length, take, slice_set, ⊤}
use Rattle.snap_base.specs.declared.transactions.State.{State}
use Rattle.aml_tree.specs.Tree.{Code, CheckedMethod}
use Rattle.aml_check.specs.declared.limits.TheConstants.{MOST_STATEMENTS}
use Rattle.aml_check.specs.Closed.{IsClosedCall}
use Rattle.aml_check.specs.Meaning.{◌>>=◌, Progress, Exit, Goes, Gives, Caller, state_at, block, called, given}
use Rattle.aml_resume.specs.declared.places.Spot.{Spot}
use Rattle.aml_resume.specs.Places.{Standing, with_value, behind_some, inner_of, after_inner, IsPlace}
use Rattle.aml_resume.specs.Pausing.{Pause, Through, Returned, Calling, Failed, method_pause}

-- ---- what the meaning gives from a place on

-- what goes on behind an inner block with so many variables, unless a value was returned
abbrev pub keeping : ℕ → Result (Exit × Progress) ℕ → (List ℤ → Progress → Result (Exit × Progress) ℕ) → Result (Exit × Progress) ℕ
keeping n (Ok (Goes inner, r)) next = next (take n inner) r
keeping n (Ok (Gives v, r)) next = Ok (Gives v, r)
keeping n (Err code) next = Err code

-- a block from a place in it on
abbrev pub resumed : Caller → ℕ → Code ℕ ℕ → List Spot → ℕ → List ℤ → Progress → Result (Exit × Progress) ℕ
resumed call own b [] next variables r = block call own (behind_some next b) variables r
resumed call own b (q ∷ qs) next variables r =
    keeping q.keep (resumed call own (inner_of q.other (behind_some q.at b)) qs next variables r) (block call own (after_inner (behind_some q.at b)))

-- a method from where it stands on
abbrev pub gives : Caller → ℕ → Code ℕ ℕ → Standing → Progress → Result (ℤ × Progress) ℕ
gives call own body f r = given (resumed call own body f.path f.next f.variables r)

-- ---- what its pause goes on to

-- the actor's state and the count of statements are these
pub record HasReached (own : ℕ) (s : State) (n : ℕ) (r : Progress) : Type 0 where
  pub known : own < length r.world
  pub state : state_at r.world own ≡ s
  pub statements : r.statements ≡ n

-- a run whose actor has got this state, and so many statements
abbrev pub moved : ℕ → State → ℕ → Progress → Progress
moved own state statements r = record r { world = slice_set r.world own state; statements = statements }

-- a call never takes statements back
abbrev pub Rises : Caller → Type 0
Rises call = (target : ℤ) (m : ℕ) (arguments : List ℤ) (r q : Progress) (v : ℤ) → call target m arguments r ≡ Ok (v, q) → r.statements ≤ q.statements

-- the value, or what the method gives with the value of the call for which it waits, or the failure
abbrev pub goes_on : Caller → ℕ → Code ℕ ℕ → Progress → Pause → Result (ℤ × Progress) ℕ
goes_on call own body r (Through variables s n) = Ok (pos 0, moved own s n r)
goes_on call own body r (Returned v s n) = Ok (v, moved own s n r)
goes_on call own body r (Calling target m arguments standing s n) = call target m arguments (moved own s n r) >>= λ x. gives call own body (with_value standing x.0) x.1
goes_on call own body r (Failed code s n) = Err code

-- ---- laws

abbrev pub PausesAsMeant : Type 0
PausesAsMeant =
    (p : List CheckedMethod) (call : Caller) (own more : ℕ) (body : Code ℕ ℕ) (f : Standing) (s : State) (n : ℕ) (r : Progress) → Rises call → IsPlace p more body f.path f.next → HasReached own s n r
    → gives call own body f r ≡ goes_on call own body r (method_pause own body f s n)

-- a call that the program allows, at a place of the body once the value is there
abbrev pub IsAllowedPause : List CheckedMethod → Code ℕ ℕ → Pause → Type 0
IsAllowedPause p body (Through variables s n) = ⊤
IsAllowedPause p body (Returned v s n) = ⊤
IsAllowedPause p body (Calling target m arguments standing s n) = IsPlace p (length standing.variables + 1) body standing.path standing.next × IsClosedCall p m (length arguments)
IsAllowedPause p body (Failed code s n) = ⊤

abbrev pub PausesWhereAllowed : Type 0
PausesWhereAllowed =
    (p : List CheckedMethod) (own : ℕ) (body : Code ℕ ℕ) (f : Standing) (s : State) (n : ℕ) → IsPlace p (length f.variables) body f.path f.next → IsAllowedPause p body (method_pause own body f s n)

-- no fewer statements than so many were begun, and no more than a transaction may begin
abbrev pub IsCounted : ℕ → Pause → Type 0
IsCounted n (Through variables s k) = (n ≤ k) × (k ≤ MOST_STATEMENTS)
IsCounted n (Returned v s k) = (n ≤ k) × (k ≤ MOST_STATEMENTS)
IsCounted n (Calling target m arguments standing s k) = (n ≤ k) × (k ≤ MOST_STATEMENTS)
IsCounted n (Failed code s k) = (n ≤ k) × (k ≤ MOST_STATEMENTS)

abbrev pub CountsRise : Type 0
CountsRise = (own : ℕ) (body : Code ℕ ℕ) (f : Standing) (s : State) (n : ℕ) → n ≤ MOST_STATEMENTS → IsCounted n (method_pause own body f s n)

-- a result with a run of so many statements at least
abbrev pub AtLeast : {A : Type 0} → ℕ → Result (A × Progress) ℕ → Type 0
AtLeast n (Ok x) = n ≤ x.1.statements
AtLeast n (Err code) = ⊤

-- a block takes no statements back, if its calls take none back
abbrev pub BlocksRise : Type 0
BlocksRise = (call : Caller) → Rises call → (own : ℕ) (b : Code ℕ ℕ) (variables : List ℤ) (r : Progress) → AtLeast r.statements (block call own b variables r)

abbrev pub CallsRise : Type 0
CallsRise = (p : List CheckedMethod) (more : ℕ) → Rises (called p more)
