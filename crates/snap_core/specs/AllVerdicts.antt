-- What became of each transaction.
use Rattle.std.specs.Prelude.{ℕ, Option, List, map}
use Rattle.snap_base.specs.declared.verdicts.Verdict.{Verdict}
use Rattle.aml_slice.specs.Controls.{Rest}
use Rattle.protocol.specs.Numbers.{from}
use Rattle.protocol.specs.Parts.{Machine}
use Rattle.protocol.specs.Verdicts.{verdict}

-- of the first so many, in the order of the text
abbrev pub verdicts_in : Machine Rest → ℕ → List (Option Verdict)
verdicts_in s count = map (λ n. verdict n s.book s.desk) (from 0 count)
