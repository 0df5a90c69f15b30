-- What a work text stands for, or its first fault: the parts of a text in their order.
use Rattle.std.specs.Prelude.{◌≡◌, ℕ, ◌+◌, ◌<◌, ◌≤◌, ◌⊎◌, ◌==◌, Bool, false, List, [], ◌∷◌, length, take, codes, Option, Some, None, Ok, Err}
use Rattle.std.specs.List.{count_by}
use Rattle.std.specs.Str.{IsUtf8, bytes_eq}
use Rattle.snap_base.specs.Lines.{lines}
use Rattle.snap_base.specs.declared.transactions.Tx.{Tx}
use Rattle.aml_parser.specs.declared.faults.TextFault.{TextFault}
use Rattle.aml_tree.specs.Tree.{TextMethod, CheckedMethod}
use Rattle.aml_tree.specs.Programs.{IsProgramText}
use Rattle.aml_parser.specs.Faults as text
use Rattle.aml_resolver.specs.declared.faults.CheckFault.{CheckFault}
use Rattle.aml_resolver.specs.Faults as check
use Rattle.snap_work.specs.declared.faults.Limit.TheVariants as limit
use Rattle.snap_work.specs.declared.faults.ProgramCause.{ProgramCause}
use Rattle.snap_work.specs.declared.faults.ProgramCause.TheVariants as program_cause
use Rattle.snap_work.specs.declared.faults.WorkCause.{WorkCause}
use Rattle.snap_work.specs.declared.faults.WorkCause.TheVariants as cause
use Rattle.snap_work.specs.declared.faults.WorkFault.{WorkFault}
use Rattle.snap_work.specs.declared.limits.TheConstants.{LONGEST_WORK}
use Rattle.work_text.specs.Lines.{Line, text_of, words, numbered, said, next, up_to_end}
use Rattle.snap_work.specs.Works.{Work}
use Rattle.work_text.specs.Readings.{ReadingOf, gives, fails, ◌>>=◌, only, whether}
use Rattle.work_text.specs.Settings.{setting, coordinators, logs, batch, batches, acts, actors}
use Rattle.work_text.specs.Actors.{Named, actor, states_in}
use Rattle.work_text.specs.Transactions.{transaction}

-- ---- lines one after the other; last, the number behind that of the text's last line

-- a reading of the next line that says something, and the lines behind it; a text must not end before it
abbrev pub by_next : {A : Type 0} → ℕ → Option (Line × List Line) → (Line → ReadingOf A) → ReadingOf (A × List Line)
by_next last None reading = fails last cause.BadHeader
by_next last (Some found) reading = reading found.0 >>= λ x. gives (x, found.1)

abbrev pub line : {A : Type 0} → ℕ → List Line → (Line → ReadingOf A) → ReadingOf (A × List Line)
line last ls reading = by_next last (next ls) reading

-- a line that is just this, and its number
abbrev pub exactly : List ℕ → Line → ReadingOf ℕ
exactly bytes l = only (bytes_eq l.bytes bytes) l.number cause.BadHeader (gives l.number)

-- ---- the program

-- What is wrong with the program's text, or with the names of the program that it spells; the line is
-- that of the whole text, in which the program begins behind line `before`.
abbrev pub ProgramFault : ℕ → List ℕ → ℕ → ProgramCause → Type 0
ProgramFault before bytes line (program_cause.Text cause column) =
    (f : TextFault) × text.IsFirstTextFault bytes f × (line ≡ before + f.line) × (cause ≡ f.cause) × (column ≡ f.column)
ProgramFault before bytes line (program_cause.Check cause) =
    (p : List TextMethod) × IsProgramText bytes p × (f : CheckFault) × check.IsFirstCheckFault p f × (line ≡ before + f.line) × (cause ≡ f.cause)

abbrev pub IsProgramFault : ℕ → List ℕ → ℕ → WorkCause → Type 0
IsProgramFault before bytes line (cause.Program p) = ProgramFault before bytes line p
IsProgramFault before bytes line cause.NotUtf8 = ⊥
IsProgramFault before bytes line cause.BadHeader = ⊥
IsProgramFault before bytes line cause.BadActor = ⊥
IsProgramFault before bytes line cause.BadTx = ⊥
IsProgramFault before bytes line (cause.Limit which found) = ⊥
IsProgramFault before bytes line cause.RootNotDeclared = ⊥

abbrev pub program_text : ℕ → List ℕ → ReadingOf (List CheckedMethod)
program_text before bytes (Ok c) = (p : List TextMethod) × IsProgramText bytes p × check.IsCheckedProgram p c
program_text before bytes (Err f) = IsProgramFault before bytes f.line f.cause

-- the lines up to `end`, and those behind it; the program is read when its end is reached
abbrev pub program_lines : ℕ → ℕ → Option (List (List ℕ) × List Line) → ReadingOf (List CheckedMethod × List Line)
program_lines last before None = fails last cause.BadHeader
program_lines last before (Some cut) = program_text before (text_of cut.0) >>= λ p. gives (p, cut.1)

-- ---- the lines behind the number of actors

-- the first word of a line is `actor`
abbrev pub first_is_actor : List (List ℕ) → Bool
first_is_actor [] = false
first_is_actor (word ∷ more) = bytes_eq word (codes "actor")

-- the transactions that lines ask for, behind so many
abbrev pub transactions : List CheckedMethod → ℕ → ℕ → List Line → ReadingOf (List Tx)
transactions p count before [] = gives []
transactions p count before (l ∷ ls) =
    transaction p count before l >>= λ tx. transactions p count (before + 1) ls >>= λ more. gives (tx ∷ more)

-- the actors that lines name, and the transactions behind them; the actor named last, if any
abbrev pub tail : List CheckedMethod → ℕ → Option ℕ → List Line → ReadingOf (List Named × List Tx)
tail p count before [] = gives ([], [])
tail p count before (l ∷ ls) =
    whether (first_is_actor (words l.bytes))
    (actor count before l >>= λ n. tail p count (Some n.actor) ls >>= λ more. gives (n ∷ more.0, more.1))
    (transactions p count 0 (l ∷ ls) >>= λ txs. gives ([], txs))

-- ---- the text

-- what stands before the actors' states: numbers, and the program
pub record Setup : Type 0 where
  pub coordinators : ℕ
  pub logs : ℕ
  pub batch : ℕ
  pub batches : ℕ
  pub acts : ℕ
  pub program : List CheckedMethod
  pub actors : ℕ

abbrev pub work_with : Setup → List Named → List Tx → Work
work_with setup named txs = record {
  coordinators = setup.coordinators;
  logs = setup.logs;
  batch = setup.batch;
  batches = setup.batches;
  acts = setup.acts;
  program = setup.program;
  states = states_in named 0 setup.actors;
  txs = txs;
}

-- the lines in their order
abbrev pub reads_lines : ℕ → List Line → ReadingOf Work
reads_lines last ls = do
  header ← line last ls (exactly (codes "snapper 1"))
  c ← line last header.1 (setting coordinators)
  l ← line last c.1 (setting logs)
  b ← line last l.1 (setting batch)
  s ← line last b.1 (setting batches)
  a ← line last s.1 (setting acts)
  begin ← line last a.1 (exactly (codes "program"))
  p ← program_lines last begin.0 (up_to_end begin.1)
  n ← line last p.1 (setting actors)
  t ← tail p.0 n.0 None (said n.1)
  gives (work_with (record { coordinators = c.0; logs = l.0; batch = b.0; batches = s.0; acts = a.0; program = p.0; actors = n.0 }) t.0 t.1)

-- the longest front of the text that is UTF-8 ends at a place before its end
pub record EndsUtf8 (text : List ℕ) (at : ℕ) : Type 0 where
  pub within : at < length text
  pub front : IsUtf8 (take at text)
  pub longest : (n : ℕ) → at < n → n ≤ length text → ¬ IsUtf8 (take n text)

-- a text that is not UTF-8 has its fault in the line where its longest front ends that is
abbrev pub not_utf8 : List ℕ → ReadingOf Work
not_utf8 text (Ok x) = ⊥
not_utf8 text (Err f) = (at : ℕ) × EndsUtf8 text at × (f ≡ record { line = 1 + count_by (λ b. b == 10) (take at text); cause = cause.NotUtf8 })

-- What the text is read as: its size is asked first, then UTF-8, then line by line.
abbrev pub Reads : List ℕ → ReadingOf Work
Reads text read =
    ((LONGEST_WORK < length text) × (read ≡ Err (record { line = 0; cause = cause.Limit limit.Input (1 + LONGEST_WORK) })))
    ⊎ ((length text ≤ LONGEST_WORK) × not_utf8 text read)
    ⊎ ((length text ≤ LONGEST_WORK) × IsUtf8 text × reads_lines (1 + length (lines text)) (numbered 1 (lines text)) read)

-- the text stands for the work
abbrev pub IsWork : List ℕ → Work → Type 0
IsWork text w = Reads text (Ok w)

-- the first fault of a text that stands for none
abbrev pub IsFirstWorkFault : List ℕ → WorkFault → Type 0
IsFirstWorkFault text f = Reads text (Err f)
