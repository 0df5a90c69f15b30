-- The first fault of a text that is no program: the earliest place at which a piece is no token, or no
-- program of the grammar goes on, or a limit is passed.
use Rattle.std.specs.Prelude.{◌≡◌, ◌≢◌, ℕ, ◌+◌, ◌<◌, List, ◌++◌, length, take, Option, Some, None, ◌⊎◌, slice_get}
use Rattle.std.specs.List.{AllByRecursion}
use Rattle.aml_tokens.specs.declared.tokens.TextCause.{TextCause}
use Rattle.aml_tokens.specs.declared.tokens.TextCause.TheVariants.{Unexpected}
use Rattle.aml_tokens.specs.Token.{Token}
use Rattle.aml_tokens.specs.Lexing.{tokens, places, stop, line_at, column_at}
use Rattle.aml_parser.specs.declared.faults.TextFault.{TextFault}
use Rattle.aml_tree.specs.Tree.{TextMethod}
use Rattle.aml_tree.specs.Grammar.{program_spelling, IsGrammatical}
use Rattle.aml_tree.specs.Limits.{program_marks}
use Rattle.aml_tree.specs.Programs.{IsUnmarked}

-- a program of the grammar that begins with these tokens
pub record BeginsProgram (front : List Token) (p : List TextMethod) : Type 0 where
  pub grammar : IsGrammatical p
  pub goes : (after : List Token) × (program_spelling p ≡ front ++ after)

-- none does
abbrev pub IsDeadEnd : List Token → Type 0
IsDeadEnd front = (p : List TextMethod) → ¬ BeginsProgram front p

-- the tokens before the k-th begin a program and pass no limit in it
abbrev pub IsClear : List Token → ℕ → Type 0
IsClear ts k = (p : List TextMethod) × BeginsProgram (take k ts) p × AllByRecursion IsUnmarked (take k (program_marks p))

-- with the k-th token no program goes on
pub record IsUnexpected (ts : List Token) (k : ℕ) : Type 0 where
  pub within : k < length ts
  pub stops : IsDeadEnd (take (k + 1) ts)

-- a program goes on with the k-th token, but passes a limit
pub record PassesLimit (ts : List Token) (k : ℕ) (cause : TextCause) : Type 0 where
  pub within : k < length ts
  pub passes : (p : List TextMethod) × BeginsProgram (take (k + 1) ts) p × (slice_get (program_marks p) k ≡ Some (Some cause))

-- What is wrong behind the last token: the piece there is none, or the text ends too early.
abbrev pub IsWrongEnd : List ℕ → List Token → Option (ℕ × TextCause) → ℕ → TextCause → Type 0
IsWrongEnd text ts (Some piece) at cause = (at ≡ piece.0) × (cause ≡ piece.1)
IsWrongEnd text ts None at cause = (at ≡ length text) × (cause ≡ Unexpected) × ((p : List TextMethod) → IsGrammatical p → program_spelling p ≢ ts)

-- What is wrong at the k-th token, or behind the last one, and the place in the text.
abbrev pub IsWrong : List ℕ → ℕ → ℕ → TextCause → Type 0
IsWrong text k at cause =
    ((slice_get (places text) k ≡ Some at) × (((cause ≡ Unexpected) × IsUnexpected (tokens text) k) ⊎ PassesLimit (tokens text) k cause))
    ⊎ ((k ≡ length (tokens text)) × IsWrongEnd text (tokens text) (stop text) at cause)

-- The fault is the first one: nothing is wrong before its place.
pub record IsFirstTextFault (text : List ℕ) (fault : TextFault) : Type 0 where
  pub wrong : (k at : ℕ) × IsClear (tokens text) k × IsWrong text k at fault.cause
      × (fault.line ≡ line_at text at) × (fault.column ≡ column_at text at)
