-- Which transactions may be asked of a program and a world of so many actors.
use Rattle.std.specs.Prelude.{◌≡◌, ℕ, ◌<◌, ◌≤◌, List, [], ◌∷◌, length, map, Contains, FitsSigned, ⊤}
use Rattle.std.specs.List.{AllByRecursion}
use Rattle.std.specs.Int.{w64}
use Rattle.snap_base.specs.declared.ids.ActorId.{ActorId}
use Rattle.snap_base.specs.declared.transactions.Tx.{Tx}
use Rattle.snap_base.specs.declared.transactions.Kind.{Kind}
use Rattle.snap_base.specs.declared.transactions.Kind.TheVariants.{Pact, Act}
use Rattle.aml_tree.specs.Tree.{CheckedMethod}
use Rattle.aml_check.specs.declared.limits.TheConstants.{MOST_CALLED_ACTORS, MOST_CALLS}
use Rattle.aml_check.specs.Names.{method_at}

-- each actor is above the one before it
abbrev pub AreAscending : List (ActorId × ℕ) → Type 0
AreAscending [] = ⊤
AreAscending (u ∷ []) = ⊤
AreAscending (u ∷ v ∷ us) = (u.0.0 < v.0.0) × AreAscending (v ∷ us)

-- one call or more of an actor that there is
pub record IsUse (actors : ℕ) (u : ActorId × ℕ) : Type 0 where
  pub actor : u.0.0 < actors
  pub calls : (1 ≤ u.1) × (u.1 ≤ MOST_CALLS)

-- the actors that a PACT declares, itself among them
pub record IsDeclaration (actors root : ℕ) (uses : List (ActorId × ℕ)) : Type 0 where
  pub some : 1 ≤ length uses
  pub few : length uses ≤ MOST_CALLED_ACTORS
  pub each : AllByRecursion (IsUse actors) uses
  pub ascending : AreAscending uses
  pub root_declared : Contains (map (λ (u : ActorId × ℕ). u.0.0) uses) root

-- an ACT declares nothing
abbrev pub Declares : ℕ → ℕ → Kind → List (ActorId × ℕ) → Type 0
Declares actors root Pact uses = IsDeclaration actors root uses
Declares actors root Act uses = uses ≡ []

-- A call of a method that the program has, on an actor that there is, with an argument for each
-- parameter.
pub record IsTransaction (p : List CheckedMethod) (actors : ℕ) (tx : Tx) : Type 0 where
  pub actor : tx.actor.0 < actors
  pub method : tx.method < length p
  pub arguments : length tx.args ≡ length (method_at p tx.method).parameters
  pub values : AllByRecursion (FitsSigned w64) tx.args
  pub declares : Declares actors tx.actor.0 tx.kind tx.uses
