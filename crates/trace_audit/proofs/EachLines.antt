-- The lines of a report one by one: what a clause says of the lines so far makes of one more line, of the first that is off, and
-- of them all. It holds of any clause on lines.
use Rattle.std.specs.Prelude.{◌≡◌, ℕ, ◌+◌, ◌<◌, ◌≤◌, List, [], ◌∷◌, ◌++◌, length, take, drop, slice_index_or}
use Rattle.std.proofs.Common.{arith, sym, subst, ◌∙◌}
use Rattle.std.proofs.lemmas.List.{append-nil, append_assoc, length-map, length-take-le, take_all}
use Rattle.audit_words.specs.Papers.{Line}
use Rattle.audit_words.specs.Audited.{EachLine, IsFirstOff}
use Rattle.audit_words.proofs.Taken.{map_cut, map_taken}
use Rattle.audit_papers.specs.declared.report_line.ReportLine as code
use Rattle.audit_papers.specs.ReportLines.{line_of, lines_of}

-- ---- a loop over the lines, at line i

pub lines_long : (ls : List code.ReportLine) (i : ℕ) → i ≤ length ls → length (lines_of (take i ls)) ≡ i
lines_long ls i h = length-map (take i ls) line_of ∙ length-take-le i ls h

each_more : (P : List Line → Line → Type 0) (front ls : List Line) (l : Line) → EachLine P front ls → P (front ++ ls) l → EachLine P front (ls ++ l ∷ [])
each_more P front [] l h k = (subst (λ (z : List Line). P z l) (append-nil front) k, tt)
each_more P front (x ∷ ls) l h k = (h.0, each_more P (front ++ x ∷ []) ls l h.1 (subst (λ (z : List Line). P z l) (sym (append_assoc front (x ∷ []) ls)) k))

-- the clause holds of line i too
pub one_more_line : (P : List Line → Line → Type 0) (ls : List code.ReportLine) (i : ℕ) (d : code.ReportLine) → i < length ls → EachLine P [] (lines_of (take i ls))
    → P (lines_of (take i ls)) (line_of (slice_index_or ls i d)) → EachLine P [] (lines_of (take (i + 1) ls))
one_more_line P ls i d l h k = subst (EachLine P []) (sym (map_taken line_of ls i d l)) (each_more P [] (lines_of (take i ls)) (line_of (slice_index_or ls i d)) h k)

-- line i is the first that is off; lines count from 1
pub off_at_line : (P : List Line → Line → Type 0) (ls : List code.ReportLine) (i : ℕ) (d : code.ReportLine) → i < length ls → EachLine P [] (lines_of (take i ls))
    → (¬ P (lines_of (take i ls)) (line_of (slice_index_or ls i d))) → IsFirstOff P (lines_of ls) (i + 1)
off_at_line P ls i d l h k = record {
  front = lines_of (take i ls);
  line = line_of (slice_index_or ls i d);
  rest = lines_of (drop (i + 1) ls);
  splits = map_cut line_of ls i d l;
  number = omega (arith, lines_long ls i (omega arith));
  before = h;
  off = k;
}

-- behind the last line
pub all_the_lines : (P : List Line → Line → Type 0) (ls : List code.ReportLine) (i : ℕ) → length ls ≤ i → EachLine P [] (lines_of (take i ls)) → EachLine P [] (lines_of ls)
all_the_lines P ls i l h = subst (λ (z : List code.ReportLine). EachLine P [] (lines_of z)) (take_all i ls l) h
