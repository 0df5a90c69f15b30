-- The lines of a work text and the words of a line.
use Rattle.std.specs.Prelude.{ℕ, ◌+◌, ◌==◌, Bool, true, false, if◌then◌else◌, List, [], ◌∷◌, ◌++◌, Option, Some, None, codes}
use Rattle.std.specs.List.{slice_split, flat_map}
use Rattle.std.specs.Str.{bytes_eq}
use Rattle.snap_base.specs.Lines.{lines}

-- lines as a text, each with its line feed
abbrev pub text_of : List (List ℕ) → List ℕ
text_of ls = flat_map (λ line. line ++ 10 ∷ []) ls

-- one blank stands between two words
abbrev pub words : List ℕ → List (List ℕ)
words line = slice_split (λ b. b == 32) line

-- a line and its number, from 1 on
pub record Line : Type 0 where
  pub number : ℕ
  pub bytes : List ℕ

abbrev pub numbered : ℕ → List (List ℕ) → List Line
numbered n [] = []
numbered n (line ∷ lines) = record { number = n; bytes = line } ∷ numbered (n + 1) lines

-- outside the program a line that is empty or begins with '#' is skipped
abbrev pub says : List ℕ → Bool
says [] = false
says (b ∷ _) = if b == 35 then false else true

-- the lines that say something
abbrev pub said : List Line → List Line
said [] = []
said (l ∷ ls) = if says l.bytes then l ∷ said ls else said ls

-- the first line that says something, and all lines behind it
abbrev pub next : List Line → Option (Line × List Line)
next [] = None
next (l ∷ ls) = if says l.bytes then Some (l, ls) else next ls

abbrev pub with_front : List ℕ → Option (List (List ℕ) × List Line) → Option (List (List ℕ) × List Line)
with_front line None = None
with_front line (Some cut) = Some (line ∷ cut.0, cut.1)

-- the lines up to the first that is exactly `end`, and those behind it
abbrev pub up_to_end : List Line → Option (List (List ℕ) × List Line)
up_to_end [] = None
up_to_end (l ∷ ls) = if bytes_eq l.bytes (codes "end") then Some ([], ls) else with_front l.bytes (up_to_end ls)
