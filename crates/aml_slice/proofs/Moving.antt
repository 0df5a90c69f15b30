-- What one move of a control makes of it, and moves on one actor one after the other.
use Rattle.std.proofs.Common.{◌≡◌, ◌≢◌, ℕ, ◌+◌, ◌≤◌, ℤ, Result, Ok, Err, Some, List, set}
use Rattle.std.specs.List.{Contains}
use Rattle.snap_base.specs.declared.ids.ActorId.{ActorId}
use Rattle.snap_base.specs.declared.transactions.State.{State}
use Rattle.snap_base.specs.declared.transactions.TxResult.{TxResult}
use Rattle.aml_tree.specs.Tree.{Code, CheckedMethod}
use Rattle.aml_check.specs.Names.{method_at}
use Rattle.aml_check.specs.Meaning.{Progress, Caller}
use Rattle.aml_resume.specs.declared.exits.Exit.{Exit}
use Rattle.aml_resume.specs.Places.{Standing}
use Rattle.aml_resume.specs.Pausing.{Pause, pause_of}
use Rattle.aml_resume.specs.Resuming.{HasReached, Rises, gives, goes_on, IsAllowedPause, PausesAsMeant, PausesWhereAllowed, CountsRise, BlocksRise, CallsRise}
use Rattle.aml_slice.specs.Controls.{Rest, IsRest, RestsOn, moves_left}
use Rattle.aml_slice.specs.Wholes.{Holds}
use Rattle.aml_slice.specs.Moments.{Others, Rise, gives_near, elsewhere, EndsWith, GoesAway}

-- the laws of methods that are run on from pause to pause
pub record PauseLaws : Type 0 where
  pub meant : PausesAsMeant
  pub allowed : PausesWhereAllowed
  pub counts : CountsRise
  pub blocks : BlocksRise
  pub calls : CallsRise

-- a method gives from where it stands on what this pause goes on to
abbrev pub RunsTo : ℕ → Code ℕ ℕ → Standing → State → ℕ → Pause → Type 0
RunsTo own body f s n x = (call : Caller) → Rises call → (r : Progress) → HasReached own s n r → gives call own body f r ≡ goes_on call own body r x

-- the frame that runs has run up to its next call, or to its end
pub record Ran (p : List CheckedMethod) (c d : Rest) (s t : State) (arguments : List ℤ) (exit : Result Exit ℕ) : Type 0 where
  pub runs : RunsTo c.top.actor (method_at p c.top.method).body c.top.standing s c.statements (pause_of exit d.top.standing arguments t d.statements)
  pub asks : IsAllowedPause p (method_at p c.top.method).body (pause_of exit d.top.standing arguments t d.statements)
  pub count : d.statements ≤ 10000
  pub blocks : BlocksRise
  pub others : d ≡ record c { top = record c.top { standing = d.top.standing }; statements = d.statements }

-- what a control keeps from move to move
pub record Follows (p : List CheckedMethod) (count : ℕ) (c d : Rest) : Type 0 where
  pub rest : IsRest p count d
  pub tid : d.tid ≡ c.tid
  pub fewer : moves_left d + 1 ≤ moves_left c
  pub visited : (a : ℕ) → Contains c.actors a → Contains d.actors a
  pub declares : (us : List (ActorId × ℕ)) → c.left ≡ Some us → (vs : List (ActorId × ℕ)) × (d.left ≡ Some vs)
  pub rests : (us : List (ActorId × ℕ)) → c.left ≡ Some us → (a : ℕ) → RestsOn d a → RestsOn c a

-- it stands on the same actor, and gives there what it gave
pub record GoesOn (p : List CheckedMethod) (count : ℕ) (c : Rest) (s t : State) (d : Rest) : Type 0 where
  pub gives : (o : Others) → Rise o → (w : List State) → Holds count c.top.actor s w → gives_near p o c w ≡ gives_near p o d (set w c.top.actor t)
  pub below : elsewhere c.top.actor d.waiting ≡ elsewhere c.top.actor c.waiting

-- one move: the actor on which the control stands then, or what became of the transaction
abbrev pub Advances : List CheckedMethod → ℕ → Rest → State → State → Rest → Result ℕ TxResult → Type 0
Advances p count c s t d (Ok a) =
    Follows p count c d × (d.top.actor ≡ a) × (a ≡ c.top.actor → GoesOn p count c s t d) × (a ≢ c.top.actor → GoesAway p count c s t d)
Advances p count c s t d (Err r) = EndsWith p count c s t r

-- Moves so far, all on one actor: the control gives from here what it gave at first.
pub record Reaches (p : List CheckedMethod) (count : ℕ) (first : Rest) (s : State) (t : State) (c : Rest) : Type 0 where
  pub rest : IsRest p count c
  pub actor : c.top.actor ≡ first.top.actor
  pub tid : c.tid ≡ first.tid
  pub fewer : moves_left c ≤ moves_left first
  pub visited : (a : ℕ) → Contains first.actors a → Contains c.actors a
  pub declares : (us : List (ActorId × ℕ)) → first.left ≡ Some us → (vs : List (ActorId × ℕ)) × (c.left ≡ Some vs)
  pub rests : (us : List (ActorId × ℕ)) → first.left ≡ Some us → (a : ℕ) → RestsOn c a → RestsOn first a
  pub goes : GoesOn p count first s t c
