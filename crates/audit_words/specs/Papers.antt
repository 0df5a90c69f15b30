-- The papers of a run: a text, its trace and its report in one input, and the lines of a report.
use Rattle.std.specs.Prelude.{◌≡◌, ◌≢◌, ℕ, ◌+◌, ◌<◌, ◌≤◌, ◌^◌, ℤ, ◌⊎◌, Option, IfSome, List, [], ◌∷◌, ◌++◌, length, map, codes, Contains, FitsSigned}
use Rattle.std.specs.Int.{w64}
use Rattle.std.specs.List.{AllByRecursion, flat_map}
use Rattle.std.specs.Fmt.{decimal, signed_decimal}
use Rattle.snap_base.specs.declared.transactions.TheConstants.{FIELDS}
use Rattle.snap_base.specs.declared.verdicts.Place.{Place}
use Rattle.snap_base.specs.declared.verdicts.Verdict.{Verdict}
use Rattle.snap_base.specs.declared.verdicts.Verdict.TheVariants as verdicts
use Rattle.snap_base.specs.Lines.{lines}
use Rattle.snap_base.specs.Text.{place_text, verdict_text}
use Rattle.snap_report.specs.Lines.{value_text}

-- ---- the parts of an input

-- the line between text and trace
abbrev pub trace_divider : List ℕ
trace_divider = codes "== trace"

-- the line between trace and report
abbrev pub report_divider : List ℕ
report_divider = codes "== report"

-- a line, with the line feed that ends it
abbrev pub ended : List ℕ → List ℕ
ended line = line ++ 10 ∷ []

-- whole lines: nothing, or the last byte is a line feed
abbrev pub AreWhole : List ℕ → Type 0
AreWhole bytes = (bytes ≡ []) ⊎ ((front : List ℕ) × (bytes ≡ ended front))

-- behind the divider; where that is the last line of the input and lacks its line feed, nothing
abbrev pub IsBehindDivider : List ℕ → List ℕ → List ℕ → Type 0
IsBehindDivider divider rest part = (rest ≡ ended divider ++ part) ⊎ ((rest ≡ divider) × (part ≡ []))

-- The last line that is the divider cuts the text: what stands before it is whole lines, and behind it there is no such line.
pub record IsCutAt (divider text front part : List ℕ) : Type 0 where
  pub rest : List ℕ
  pub splits : text ≡ front ++ rest
  pub behind : IsBehindDivider divider rest part
  pub whole : AreWhole front
  pub last : ¬ Contains (lines part) divider

-- The dividers are the last line that is `== report`, and the last line before it that is `== trace`.
pub record AreParts (input text trace report : List ℕ) : Type 0 where
  pub front : List ℕ
  pub reported : IsCutAt report_divider input front report
  pub traced : IsCutAt trace_divider front text trace

-- A divider is lacking: no line is `== report`, or before the last that is, none is `== trace`.
abbrev pub LacksDivider : List ℕ → Type 0
LacksDivider input = (¬ Contains (lines input) report_divider)
    ⊎ ((front : List ℕ) × ((report : List ℕ) × (IsCutAt report_divider input front report × (¬ Contains (lines front) trace_divider))))

-- ---- the lines of a report

-- a line of a report, as what it says
pub data Line : Type 0 where
  -- the reply to transaction n
  Reply : (n : ℕ) → Verdict → Line
  -- the fields of an actor
  Actor : (a : ℕ) → List ℤ → Line
  -- how many committed, had another reply, and how many batches settled
  End : (committed : ℕ) (aborted : ℕ) (batches : ℕ) → Line
  -- what `recover` prints behind the actors: members, in order, and the last line
  Kept : Place → Option ℤ → Line
  Recovered : (batches : ℕ) (acts : ℕ) (next_tid : ℕ) (next_bid : ℕ) (next_c : ℕ) → Line

-- as it is printed, without its line feed
abbrev pub line_text : Line → List ℕ
line_text (Reply n v) = codes "tx " ++ (decimal n ++ (codes " " ++ verdict_text v))
line_text (Actor a fields) = codes "actor " ++ (decimal a ++ flat_map (λ z. codes " " ++ signed_decimal z) fields)
line_text (End x y z) = codes "end committed " ++ (decimal x ++ (codes " aborted " ++ (decimal y ++ (codes " batches " ++ decimal z))))
line_text (Kept p v) = codes "kept " ++ (place_text p ++ (codes " " ++ value_text v))
line_text (Recovered x y t k c) =
    codes "recovered batches " ++ (decimal x ++ (codes " acts " ++ (decimal y ++ (codes " next " ++ (decimal t ++ (codes " " ++ (decimal k ++ (codes " " ++ decimal c))))))))

-- its numbers have 64 bits, and its side has 8
abbrev pub IsPlaceInRange : Place → Type 0
IsPlaceInRange p = (p.batch.0 < 2 ^ 64) × (p.side < 2 ^ 8) × (p.order < 2 ^ 64)

-- each number is one of its type
abbrev pub IsVerdict : Verdict → Type 0
IsVerdict (verdicts.Committed p v) = IsPlaceInRange p × FitsSigned w64 v
IsVerdict (verdicts.Code p code) = IsPlaceInRange p × (code < 2 ^ 16)
IsVerdict (verdicts.BatchCode k at code) = (k.0 < 2 ^ 64) × (at < 2 ^ 64) × (code < 2 ^ 16)
IsVerdict (verdicts.Cascade k by) = (k.0 < 2 ^ 64) × (by.0 < 2 ^ 32)
IsVerdict (verdicts.Died a older own) = (a.0 < 2 ^ 16) × (older.0 < 2 ^ 64) × (own.0 < 2 ^ 64)
IsVerdict (verdicts.Order m n a) = (m.0 < 2 ^ 64) × (n.0 < 2 ^ 64) × (a.0 < 2 ^ 16)
IsVerdict (verdicts.Unsure l) = l < 2 ^ 8

-- A line of a form: its numbers are of their types, and an actor has one field or more, and no more than there are.
abbrev pub IsWellFormedLine : Line → Type 0
IsWellFormedLine (Reply n v) = (n < 2 ^ 32) × IsVerdict v
IsWellFormedLine (Actor a fields) = (a < 2 ^ 16) × (1 ≤ length fields) × (length fields ≤ FIELDS) × AllByRecursion (FitsSigned w64) fields
IsWellFormedLine (End x y z) = (x < 2 ^ 64) × (y < 2 ^ 64) × (z < 2 ^ 64)
IsWellFormedLine (Kept p v) = IsPlaceInRange p × IfSome v (FitsSigned w64)
IsWellFormedLine (Recovered x y t k c) = (x < 2 ^ 64) × (y < 2 ^ 64) × (t < 2 ^ 64) × (k < 2 ^ 64) × (c < 2 ^ 64)

-- the text has these lines, each of a form
pub record IsReport (text : List ℕ) (ls : List Line) : Type 0 where
  pub forms : AllByRecursion IsWellFormedLine ls
  pub said : lines text ≡ map line_text ls

-- the lines before this one, from 1 on, are of a form, and this one is of none
pub record IsFirstNoLine (text : List ℕ) (line : ℕ) : Type 0 where
  pub before : List Line
  pub none : List ℕ
  pub behind : List (List ℕ)
  pub cut : lines text ≡ map line_text before ++ none ∷ behind
  pub number : line ≡ length before + 1
  pub forms : AllByRecursion IsWellFormedLine before
  pub no_form : (l : Line) → IsWellFormedLine l → none ≢ line_text l
