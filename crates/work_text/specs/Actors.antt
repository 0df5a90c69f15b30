-- Lines that give actors their states.
use Rattle.std.specs.Prelude.{◌≡◌, ℕ, zero, suc, ◌+◌, ◌-◌, ◌<◌, ◌≤◌, ◌==◌, if◌then◌else◌, ℤ, pos, List, [], ◌∷◌, ◌++◌, length, map, codes, Option, IfSome, replicate, FitsSigned, Ok, Err}
use Rattle.std.specs.List.{AllByRecursion}
use Rattle.std.specs.Int.{w64}
use Rattle.std.specs.Fmt.{decimal, signed_decimal}
use Rattle.snap_base.specs.declared.transactions.TheConstants.{FIELDS}
use Rattle.snap_base.specs.declared.transactions.State.{State}
use Rattle.snap_work.specs.declared.faults.Limit.TheVariants as limit
use Rattle.snap_work.specs.declared.faults.WorkCause.{WorkCause}
use Rattle.snap_work.specs.declared.faults.WorkCause.TheVariants as cause
use Rattle.work_text.specs.Lines.{Line, words}
use Rattle.work_text.specs.Readings.{ReadingOf}

-- an actor and the values of its first fields
pub record Named : Type 0 where
  pub actor : ℕ
  pub values : List ℤ

-- The line gives one of so many actors one or more values; it is above the one that was named before, if any.
pub record Names (actors : ℕ) (last : Option ℕ) (line : List ℕ) (n : Named) : Type 0 where
  pub spelled : words line ≡ codes "actor" ∷ decimal n.actor ∷ map signed_decimal n.values
  pub known : n.actor < actors
  pub ascends : IfSome last (λ before. before < n.actor)
  pub some : 1 ≤ length n.values
  pub fit : AllByRecursion (FitsSigned w64) n.values

abbrev pub ActorFault : ℕ → Option ℕ → List ℕ → WorkCause → Type 0
ActorFault actors last line cause.BadActor = (n : Named) → ¬ Names actors last line n
ActorFault actors last line (cause.Limit which found) = (which ≡ limit.Fields) × (n : Named) × Names actors last line n × (found ≡ length n.values) × (FIELDS < found)
ActorFault actors last line cause.NotUtf8 = ⊥
ActorFault actors last line cause.BadHeader = ⊥
ActorFault actors last line (cause.Program p) = ⊥
ActorFault actors last line cause.BadTx = ⊥
ActorFault actors last line cause.RootNotDeclared = ⊥

abbrev pub actor : ℕ → Option ℕ → Line → ReadingOf Named
actor actors last line (Ok n) = Names actors last line.bytes n × (length n.values ≤ FIELDS)
actor actors last line (Err f) = (f.line ≡ line.number) × ActorFault actors last line.bytes f.cause

-- ---- states

-- the fields that are given, and 0 in the others
abbrev pub state_with : List ℤ → State
state_with values = record { 0 = values ++ replicate (FIELDS - length values) (pos 0) }

-- the state of an actor by the lines that name actors
abbrev pub state_in : List Named → ℕ → State
state_in [] a = state_with []
state_in (n ∷ ns) a = if n.actor == a then state_with n.values else state_in ns a

-- those of so many actors, from one on
abbrev pub states_in : List Named → ℕ → ℕ → List State
states_in ns a zero = []
states_in ns a (suc more) = state_in ns a ∷ states_in ns (a + 1) more
