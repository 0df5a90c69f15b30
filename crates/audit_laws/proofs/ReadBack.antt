-- Lines of a form, printed, are the lines of the text.
use Rattle.std.specs.Prelude.{◌≡◌, refl, ℕ, suc, ◌<◌, ◌^◌, ℤ, pos, negsuc, Bool, true, if◌then◌else◌, Option, Some, None, IfSome, List, [], ◌∷◌, ◌++◌, map, codes, FitsSigned}
use Rattle.std.specs.Int.{w64}
use Rattle.std.specs.Fmt.{decimal, signed_decimal}
use Rattle.std.specs.List.{AllByRecursion, flat_map}
use Rattle.std.proofs.Common.{arith, sym, ap, subst, ◌∙◌}
use Rattle.snap_base.specs.Lines.{lines, onto_line}
use Rattle.snap_base.specs.Text.{place_text, verdict_text}
use Rattle.run_effects.specs.snap_report.Lines.{value_text}
use Rattle.snap_base.specs.declared.verdicts.Place.{Place}
use Rattle.snap_base.specs.declared.verdicts.Verdict.{Verdict}
use Rattle.snap_base.specs.declared.verdicts.Verdict.TheVariants as verdicts
use Rattle.trace_text.specs.Reads.{LacksByte}
use Rattle.trace_text.proofs.Cuts.{decimal_free, free_append, free_test, has_no}
use Rattle.audit_words.specs.Papers.{Line, Reply, Actor, End, Kept, Recovered, IsWellFormedLine, IsPlaceInRange, IsReport, IsVerdict, ended, line_text}
use Rattle.audit_laws.proofs.ReportTexts.{texts}

-- ---- none has a line feed

word : (xs : List ℕ) → has_no 10 xs ≡ true → LacksByte 10 xs
word xs e = free_test 10 xs e

number : (n : ℕ) → n < 2 ^ 64 → LacksByte 10 (decimal n)
number n h = decimal_free 10 n (omega arith) h

join : (xs ys : List ℕ) → LacksByte 10 xs → LacksByte 10 ys → LacksByte 10 (xs ++ ys)
join xs ys h k = free_append 10 xs ys h k

signed : (z : ℤ) → FitsSigned w64 z → LacksByte 10 (signed_decimal z)
signed (pos n) h = number n (omega (arith, h))
signed (negsuc n) h = (refl, number (suc n) (omega (arith, h)))

place_free : (p : Place) → IsPlaceInRange p → LacksByte 10 (place_text p)
place_free p h =
    join (decimal p.batch.0) _ (number p.batch.0 h.0) (join (codes ".") _ (word (codes ".") refl) (join (decimal p.side) _ (number p.side (omega (arith, h.1))) (join (codes ".") (decimal p.order) (word (codes ".") refl) (number p.order h.2))))

verdict_free : (v : Verdict) → IsVerdict v → LacksByte 10 (verdict_text v)
verdict_free (verdicts.Committed p v) h = join (codes "committed ") _ (word (codes "committed ") refl) (join (place_text p) _ (place_free p h.0) (join (codes " ") (signed_decimal v) (word (codes " ") refl) (signed v h.1)))
verdict_free (verdicts.Code p code) h = join (codes "code ") _ (word (codes "code ") refl) (join (place_text p) _ (place_free p h.0) (join (codes " ") (decimal code) (word (codes " ") refl) (number code (omega (arith, h.1)))))
verdict_free (verdicts.BatchCode k at code) h =
    join (codes "batchcode ") _ (word (codes "batchcode ") refl) (join (decimal k.0) _ (number k.0 h.0) (join (codes " ") _ (word (codes " ") refl) (join (decimal at) _ (number at h.1) (join (codes " ") (decimal code) (word (codes " ") refl) (number code (omega (arith, h.2)))))))
verdict_free (verdicts.Cascade k by) h = join (codes "cascade ") _ (word (codes "cascade ") refl) (join (decimal k.0) _ (number k.0 h.0) (join (codes " ") (decimal by.0) (word (codes " ") refl) (number by.0 (omega (arith, h.1)))))
verdict_free (verdicts.Died a older own) h =
    join (codes "died actor ") _ (word (codes "died actor ") refl) (join (decimal a.0) _ (number a.0 (omega (arith, h.0))) (join (codes " older ") _ (word (codes " older ") refl) (join (decimal older.0) _ (number older.0 h.1) (join (codes " own ") (decimal own.0) (word (codes " own ") refl) (number own.0 h.2)))))
verdict_free (verdicts.Order m n a) h =
    join (codes "order before ") _ (word (codes "order before ") refl) (join (decimal m.0) _ (number m.0 h.0) (join (codes " after ") _ (word (codes " after ") refl) (join (decimal n.0) _ (number n.0 h.1) (join (codes " actor ") (decimal a.0) (word (codes " actor ") refl) (number a.0 (omega (arith, h.2)))))))
verdict_free (verdicts.Unsure l) h = join (codes "unsure ") (decimal l) (word (codes "unsure ") refl) (number l (omega (arith, h)))

fields_free : (zs : List ℤ) → AllByRecursion (FitsSigned w64) zs → LacksByte 10 (flat_map (λ z. codes " " ++ signed_decimal z) zs)
fields_free [] h = tt
fields_free (z ∷ zs) h = join (codes " " ++ signed_decimal z) (flat_map (λ y. codes " " ++ signed_decimal y) zs) (join (codes " ") (signed_decimal z) (word (codes " ") refl) (signed z h.0)) (fields_free zs h.1)

value_free : (v : Option ℤ) → IfSome v (FitsSigned w64) → LacksByte 10 (value_text v)
value_free None h = word (codes "unknown") refl
value_free (Some v) h = signed v h

line_free : (l : Line) → IsWellFormedLine l → LacksByte 10 (line_text l)
line_free (Reply n v) h = join (codes "tx ") _ (word (codes "tx ") refl) (join (decimal n) _ (number n (omega (arith, h.0))) (join (codes " ") (verdict_text v) (word (codes " ") refl) (verdict_free v h.1)))
line_free (Actor a fields) h = join (codes "actor ") _ (word (codes "actor ") refl) (join (decimal a) _ (number a (omega (arith, h.0))) (fields_free fields h.3))
line_free (End x y z) h =
    join (codes "end committed ") _ (word (codes "end committed ") refl) (join (decimal x) _ (number x h.0) (join (codes " aborted ") _ (word (codes " aborted ") refl) (join (decimal y) _ (number y h.1) (join (codes " batches ") (decimal z) (word (codes " batches ") refl) (number z h.2)))))
line_free (Kept p v) h = join (codes "kept ") _ (word (codes "kept ") refl) (join (place_text p) _ (place_free p h.0) (join (codes " ") (value_text v) (word (codes " ") refl) (value_free v h.1)))
line_free (Recovered x y t k c) h =
    join (codes "recovered batches ") _ (word (codes "recovered batches ") refl) (join (decimal x) _ (number x h.0) (join (codes " acts ") _ (word (codes " acts ") refl) (join (decimal y) _ (number y h.1) (join (codes " next ") _ (word (codes " next ") refl)
    (join (decimal t) _ (number t h.2) (join (codes " ") _ (word (codes " ") refl) (join (decimal k) _ (number k h.3) (join (codes " ") (decimal c) (word (codes " ") refl) (number c h.4)))))))))

-- ---- the lines of the text

line_front : (line ys : List ℕ) → LacksByte 10 line → lines (ended line ++ ys) ≡ line ∷ lines ys
line_front [] ys h = refl
line_front (b ∷ line) ys h =
    subst (λ (c : Bool). (if c then [] ∷ lines (ended line ++ ys) else onto_line b (lines (ended line ++ ys))) ≡ (b ∷ line) ∷ lines ys) (sym h.0) (ap (onto_line b) (line_front line ys h.1))

lines_said : (ls : List Line) → AllByRecursion IsWellFormedLine ls → lines (texts ls) ≡ map line_text ls
lines_said [] h = refl
lines_said (l ∷ ls) h = line_front (line_text l) (texts ls) (line_free l h.0) ∙ ap (λ zs. line_text l ∷ zs) (lines_said ls h.1)

pub read_back : (ls : List Line) → AllByRecursion IsWellFormedLine ls → IsReport (texts ls) ls
read_back ls h = record { forms = h; said = lines_said ls h }
