-- Lines that ask for transactions.
use Rattle.std.specs.Prelude.{◌≡◌, ℕ, ◌+◌, ◌<◌, ◌≤◌, List, [], ◌∷◌, ◌++◌, length, map, codes, Contains, FitsSigned, Ok, Err, ⊤}
use Rattle.std.specs.List.{AllByRecursion}
use Rattle.std.specs.Int.{w64}
use Rattle.std.specs.Fmt.{decimal, signed_decimal}
use Rattle.snap_base.specs.declared.ids.ActorId.{ActorId}
use Rattle.snap_base.specs.declared.transactions.Kind.{Kind}
use Rattle.snap_base.specs.declared.transactions.Kind.TheVariants.{Pact, Act}
use Rattle.snap_base.specs.declared.transactions.Tx.{Tx}
use Rattle.aml_tree.specs.Tree.{CheckedMethod}
use Rattle.aml_check.specs.declared.limits.TheConstants.{MOST_CALLED_ACTORS}
use Rattle.aml_check.specs.Names.{method_at}
use Rattle.aml_check.specs.Transactions.{AreAscending, IsUse}
use Rattle.snap_work.specs.declared.faults.Limit.{Limit}
use Rattle.snap_work.specs.declared.faults.Limit.TheVariants as limit
use Rattle.snap_work.specs.declared.faults.WorkCause.{WorkCause}
use Rattle.snap_work.specs.declared.faults.WorkCause.TheVariants as cause
use Rattle.snap_work.specs.declared.limits.TheConstants.{MOST_TRANSACTIONS}
use Rattle.work_text.specs.Lines.{Line, words}
use Rattle.work_text.specs.Readings.{ReadingOf}

-- ---- words

abbrev pub use_word : ActorId × ℕ → List ℕ
use_word u = decimal u.0.0 ++ codes ":" ++ decimal u.1

abbrev pub kind_word : Kind → List ℕ
kind_word Pact = codes "pact"
kind_word Act = codes "act"

abbrev pub uses_words : Kind → List (ActorId × ℕ) → List (List ℕ)
uses_words Pact uses = codes "uses" ∷ map use_word uses
uses_words Act uses = []

abbrev pub transaction_words : List CheckedMethod → Tx → List (List ℕ)
transaction_words p tx =
    kind_word tx.kind ∷ decimal tx.actor.0 ∷ (method_at p tx.method).name.name ∷ (map signed_decimal tx.args ++ uses_words tx.kind tx.uses)

-- ---- what a line asks for

-- a PACT declares one actor at least, an ACT none
abbrev pub AreUses : Kind → ℕ → List (ActorId × ℕ) → Type 0
AreUses Pact actors uses = (1 ≤ length uses) × AllByRecursion (IsUse actors) uses × AreAscending uses
AreUses Act actors uses = uses ≡ []

-- The line asks for a call of a method that the program has, on one of so many actors, with an argument
-- for each parameter. How many actors it declares, and whether the own one is among them, is left open.
pub record Asks (p : List CheckedMethod) (actors : ℕ) (line : List ℕ) (tx : Tx) : Type 0 where
  pub spelled : words line ≡ transaction_words p tx
  pub actor : tx.actor.0 < actors
  pub method : tx.method < length p
  pub arguments : length tx.args ≡ length (method_at p tx.method).parameters
  pub values : AllByRecursion (FitsSigned w64) tx.args
  pub uses : AreUses tx.kind actors tx.uses

-- an ACT, or a PACT that declares its own actor
abbrev pub DeclaresRoot : Kind → ℕ → List (ActorId × ℕ) → Type 0
DeclaresRoot Pact root uses = Contains (map (λ (u : ActorId × ℕ). u.0.0) uses) root
DeclaresRoot Act root uses = ⊤

-- The causes in their order: what is no transaction, too many actors, one transaction too many, and an
-- own actor that is not declared. So many transactions come before.
abbrev pub LimitFault : List CheckedMethod → ℕ → ℕ → List ℕ → Limit → ℕ → Type 0
LimitFault p actors before line limit.Uses found = (tx : Tx) × Asks p actors line tx × (found ≡ length tx.uses) × (MOST_CALLED_ACTORS < found)
LimitFault p actors before line limit.Transactions found = (tx : Tx) × Asks p actors line tx × (length tx.uses ≤ MOST_CALLED_ACTORS) × (found ≡ before + 1) × (MOST_TRANSACTIONS < found)
LimitFault p actors before line limit.Input found = ⊥
LimitFault p actors before line limit.Coordinators found = ⊥
LimitFault p actors before line limit.Logs found = ⊥
LimitFault p actors before line limit.Batch found = ⊥
LimitFault p actors before line limit.Batches found = ⊥
LimitFault p actors before line limit.Acts found = ⊥
LimitFault p actors before line limit.Actors found = ⊥
LimitFault p actors before line limit.Fields found = ⊥

abbrev pub TransactionFault : List CheckedMethod → ℕ → ℕ → List ℕ → WorkCause → Type 0
TransactionFault p actors before line cause.BadTx = (tx : Tx) → ¬ Asks p actors line tx
TransactionFault p actors before line (cause.Limit which found) = LimitFault p actors before line which found
TransactionFault p actors before line cause.RootNotDeclared =
    (tx : Tx) × Asks p actors line tx × (length tx.uses ≤ MOST_CALLED_ACTORS) × (before < MOST_TRANSACTIONS) × ¬ DeclaresRoot tx.kind tx.actor.0 tx.uses
TransactionFault p actors before line cause.NotUtf8 = ⊥
TransactionFault p actors before line cause.BadHeader = ⊥
TransactionFault p actors before line (cause.Program q) = ⊥
TransactionFault p actors before line cause.BadActor = ⊥

abbrev pub transaction : List CheckedMethod → ℕ → ℕ → Line → ReadingOf Tx
transaction p actors before line (Ok tx) = Asks p actors line.bytes tx × (length tx.uses ≤ MOST_CALLED_ACTORS) × (before < MOST_TRANSACTIONS) × DeclaresRoot tx.kind tx.actor.0 tx.uses
transaction p actors before line (Err f) = (f.line ≡ line.number) × TransactionFault p actors before line.bytes f.cause
