-- Only private contracts cite this; the rule is Reads.antt.
-- The lines that lie ahead of a place in a text.
use Rattle.std.specs.Prelude.{ℕ, ◌+◌, ◌≤◌, List, length}
use Rattle.snap_base.specs.Lines.{lines}
use Rattle.snap_work.specs.declared.limits.TheConstants.{LONGEST_WORK}
use Rattle.work_text.specs.Lines.{Line, numbered}
use Rattle.work_text.specs.declared.texts.Line as code_line
use Rattle.work_text.specs.declared.texts.Cursor.{Cursor}

abbrev pub line_of : code_line.Line → Line
line_of l = record { number = l.number; bytes = l.bytes.now }

-- the lines from the place on
abbrev pub ahead : Cursor → List Line
ahead c = numbered c.line (lines c.rest.now)

-- the number behind that of the last line
abbrev pub end_of : Cursor → ℕ
end_of c = c.line + length (lines c.rest.now)

-- the numbers of all lines fit
abbrev pub IsShort : Cursor → Type 0
IsShort c = c.line + length c.rest.now ≤ LONGEST_WORK + 1
