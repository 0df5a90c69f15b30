-- Only private contracts cite this; the rules are Reads.antt, Actors.antt and Transactions.antt.
-- The parts of a line, each as the reader takes it from the others.
use Rattle.std.specs.Prelude.{◌≡◌, ℕ, ℤ, ◌+◌, ◌<◌, ◌≤◌, ◌==◌, false, List, length, map, codes, slice_index_or, [], Option, IfSome, FitsSigned, ⊤}
use Rattle.std.specs.List.{AllByRecursion}
use Rattle.std.specs.Int.{w64}
use Rattle.std.specs.Fmt.{decimal, signed_decimal}
use Rattle.snap_base.specs.declared.ids.ActorId.{ActorId}
use Rattle.snap_base.specs.declared.transactions.Kind.{Kind}
use Rattle.aml_tree.specs.Tree.{CheckedMethod}
use Rattle.aml_check.specs.Names.{method_at}
use Rattle.aml_check.specs.Transactions.{AreAscending, IsUse}
use Rattle.snap_work.specs.declared.faults.WorkCause.{WorkCause}
use Rattle.snap_work.specs.declared.faults.WorkNo.{WorkNo}
use Rattle.snap_work.specs.declared.faults.WorkNo.TheVariants as no
use Rattle.snap_work.specs.declared.faults.WorkCause.TheVariants as cause
use Rattle.snap_work.specs.declared.faults.ProgramCause.TheVariants as program_cause
use Rattle.aml_parser.specs.declared.faults.TextNo.{TextNo}
use Rattle.aml_parser.specs.declared.faults.TextNo.TheVariants as text_no
use Rattle.snap_work.specs.declared.limits.TheConstants.{LONGEST_WORK}
use Rattle.work_text.specs.Transactions.{kind_word, use_word}

-- the words spell the values
abbrev pub AreNumbers : List (List ℕ) → List ℤ → Type 0
AreNumbers words values = (words ≡ map signed_decimal values) × AllByRecursion (FitsSigned w64) values

-- the words name an actor above the one before it; what values stand behind is left open
pub record NamesActor (actors : ℕ) (last : Option ℕ) (words : List (List ℕ)) (actor : ℕ) : Type 0 where
  pub count : 3 ≤ length words
  pub first : slice_index_or words 0 [] ≡ codes "actor"
  pub second : slice_index_or words 1 [] ≡ decimal actor
  pub known : actor < actors
  pub ascends : IfSome last (λ before. before < actor)

-- the words call a method; what arguments and declarations stand behind is left open
pub record IsCall (p : List CheckedMethod) (actors : ℕ) (words : List (List ℕ)) (kind : Kind) (actor method : ℕ) : Type 0 where
  pub count : 3 + length (method_at p method).parameters ≤ length words
  pub first : slice_index_or words 0 [] ≡ kind_word kind
  pub second : slice_index_or words 1 [] ≡ decimal actor
  pub third : slice_index_or words 2 [] ≡ (method_at p method).name.name
  pub known_actor : actor < actors
  pub known_method : method < length p

-- the words declare these actors
pub record AreDeclared (actors : ℕ) (words : List (List ℕ)) (uses : List (ActorId × ℕ)) : Type 0 where
  pub spelled : words ≡ map use_word uses
  pub each : AllByRecursion (IsUse actors) uses
  pub ascending : AreAscending uses

-- no byte is ':'
abbrev pub IsWithoutColon : List ℕ → Type 0
IsWithoutColon word = AllByRecursion (λ b. (b == 58) ≡ false) word

-- a fault with a line behind another one
abbrev pub IsFaultBehind : ℕ → ℕ → WorkCause → WorkNo → Type 0
IsFaultBehind before line cause (no.Fault f) = (f.line ≡ before + line) × (f.cause ≡ cause)
IsFaultBehind before line cause no.Memory = ⊥

-- a fault whose line behind another one is a line of a text that is not too long
abbrev pub IsNear : ℕ → TextNo → Type 0
IsNear before (text_no.Fault f) = before + f.line ≤ 1 + LONGEST_WORK
IsNear before text_no.Memory = ⊤

-- what is wrong with a program's text, with its line in the whole text
abbrev pub IsTextNo : ℕ → TextNo → WorkNo → Type 0
IsTextNo before (text_no.Fault f) why = IsFaultBehind before f.line (cause.Program (program_cause.Text f.cause f.column)) why
IsTextNo before text_no.Memory why = why ≡ no.Memory
