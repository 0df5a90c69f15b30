-- What was printed of replies, as lines; and that whom they call committed is among the transactions that are recovered.
use Rattle.std.specs.Prelude.{◌≡◌, ◌≢◌, ℕ, ℤ, ◌⊎◌, Option, List, [], ◌++◌}
use Rattle.std.specs.Io.KnownBytes.{Appends}
use Rattle.std.specs.List.{AllByRecursion, flat_map}
use Rattle.crew_parts.specs.snap_report.Lines.{reply_text}
use Rattle.protocol.specs.History.{Done}
use Rattle.protocol_laws.specs.Told.{IsAmongDone}
use Rattle.snap_base.specs.declared.transactions.TxResult.TheVariants.{Value}
use Rattle.snap_base.specs.declared.verdicts.Place.{Place}
use Rattle.snap_base.specs.declared.verdicts.Verdict.{Verdict}
use Rattle.snap_base.specs.declared.verdicts.Verdict.TheVariants as verdicts

-- the lines of replies, each to a transaction by its number in the text
abbrev pub lines_of : List (ℕ × Verdict) → List ℕ
lines_of replies = flat_map (λ r. reply_text r.0 r.1) replies

-- a part of the line of some reply, from its first byte on, and not all of it
pub record IsPartOfLine (part : List ℕ) : Type 0 where
  pub tx : ℕ
  pub verdict : Verdict
  pub rest : List ℕ
  pub some : rest ≢ []
  pub line : reply_text tx verdict ≡ part ++ rest

-- These bytes are the whole lines of these replies, and perhaps behind them a part of one more line.
pub record AreLines (bytes : List ℕ) (replies : List (ℕ × Verdict)) : Type 0 where
  pub part : List ℕ
  pub is : bytes ≡ lines_of replies ++ part
  pub last : (part ≡ []) ⊎ IsPartOfLine part

-- Where the reply says that its transaction committed, that is among these, at the place and with the value that it says.
abbrev pub IsTrueOf : List Done → ℕ × Verdict → Type 0
IsTrueOf ds r = (p : Place) (v : ℤ) → r.1 ≡ verdicts.Committed p v → IsAmongDone r.0 p (Value v) ds

-- What was taken from the first to the second is lines of replies; and each transaction of which a whole line says that it committed is
-- among these.
pub record ToldAreAmong (before taken : Option (List ℕ)) (ds : List Done) : Type 0 where
  pub printed : List ℕ
  pub grew : Appends before taken printed
  pub replies : List (ℕ × Verdict)
  pub lines : AreLines printed replies
  pub among : AllByRecursion (IsTrueOf ds) replies
