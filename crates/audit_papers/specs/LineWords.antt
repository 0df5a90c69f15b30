-- The words of a line of a report: what stands between its blanks.
use Rattle.std.specs.Prelude.{◌≡◌, ℕ, ◌==◌, false, List, [], ◌∷◌, map, codes}
use Rattle.std.specs.Fmt.{decimal, signed_decimal}
use Rattle.std.specs.List.{AllByRecursion, slice_split}
use denote.Ref.{Bor}
use Rattle.snap_base.specs.Text.{place_text}
use Rattle.snap_base.specs.declared.verdicts.Verdict.{Verdict}
use Rattle.snap_base.specs.declared.verdicts.Verdict.TheVariants as verdicts
use Rattle.snap_report.specs.Lines.{value_text}
use Rattle.audit_words.specs.Papers.{Line, Reply, Actor, End, Kept, Recovered}

-- what stands between blanks
abbrev pub words : List ℕ → List (List ℕ)
words line = slice_split (λ b. b == 32) line

-- slices as the bytes that they have
abbrev pub texts : List (Bor (List ℕ)) → List (List ℕ)
texts ws = map (λ w. w.now) ws

abbrev pub LacksByte : ℕ → List ℕ → Type 0
LacksByte byte text = AllByRecursion (λ b. (b == byte) ≡ false) text

-- the words behind the number of the transaction
abbrev pub verdict_words : Verdict → List (List ℕ)
verdict_words (verdicts.Committed p v) = codes "committed" ∷ place_text p ∷ signed_decimal v ∷ []
verdict_words (verdicts.Code p code) = codes "code" ∷ place_text p ∷ decimal code ∷ []
verdict_words (verdicts.BatchCode k at code) = codes "batchcode" ∷ decimal k.0 ∷ decimal at ∷ decimal code ∷ []
verdict_words (verdicts.Cascade k by) = codes "cascade" ∷ decimal k.0 ∷ decimal by.0 ∷ []
verdict_words (verdicts.Died a older own) = codes "died" ∷ codes "actor" ∷ decimal a.0 ∷ codes "older" ∷ decimal older.0 ∷ codes "own" ∷ decimal own.0 ∷ []
verdict_words (verdicts.Order m n a) = codes "order" ∷ codes "before" ∷ decimal m.0 ∷ codes "after" ∷ decimal n.0 ∷ codes "actor" ∷ decimal a.0 ∷ []
verdict_words (verdicts.Unsure l) = codes "unsure" ∷ decimal l ∷ []

abbrev pub line_words : Line → List (List ℕ)
line_words (Reply n v) = codes "tx" ∷ decimal n ∷ verdict_words v
line_words (Actor a fields) = codes "actor" ∷ decimal a ∷ map signed_decimal fields
line_words (End x y z) = codes "end" ∷ codes "committed" ∷ decimal x ∷ codes "aborted" ∷ decimal y ∷ codes "batches" ∷ decimal z ∷ []
line_words (Kept p v) = codes "kept" ∷ place_text p ∷ value_text v ∷ []
line_words (Recovered x y t k c) = codes "recovered" ∷ codes "batches" ∷ decimal x ∷ codes "acts" ∷ decimal y ∷ codes "next" ∷ decimal t ∷ decimal k ∷ decimal c ∷ []
