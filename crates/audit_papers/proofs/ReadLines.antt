-- The lines of a report that were read so far.
use Rattle.std.specs.Prelude.{◌≡◌, ℕ, List, ◌++◌, map}
use Rattle.std.specs.List.{AllByRecursion}
use Rattle.snap_base.specs.Lines.{lines}
use Rattle.audit_words.specs.Papers.{IsWellFormedLine, Line, line_text}

pub record HasRead (text : List ℕ) (ls : List Line) (rest : List ℕ) : Type 0 where
  pub forms : AllByRecursion IsWellFormedLine ls
  pub said : lines text ≡ map line_text ls ++ lines rest
