-- A line of a form is its words with a blank between each two, and it is cut into just these.
use Rattle.std.specs.Prelude.{◌≡◌, ◌≢◌, refl, ℕ, ℤ, pos, negsuc, zero, suc, ◌+◌, ◌<◌, ◌^◌, ◌==◌, false, true, Bool, if◌then◌else◌, Option, Some, None, IfSome, List, [], ◌∷◌, ◌++◌, map, codes, FitsSigned}
use Rattle.std.specs.Int.{w64}
use Rattle.std.specs.Fmt.{decimal, signed_decimal}
use Rattle.std.specs.List.{AllByRecursion, flat_map, join_with_byte}
use Rattle.std.proofs.Common.{arith, sym, ap, ◌∙◌}
use Rattle.std.proofs.lemmas.Bool.{ne_eqb}
use Rattle.std.proofs.lemmas.Fmt.{decimal-digits_of, decimal_digit}
use Rattle.std.proofs.lemmas.Int.Digits.{all_below_base_digits_of}
use Rattle.std.proofs.lemmas.List.{append-nil}
use Rattle.std.proofs.lemmas.List.Elements.{All-from_recursion}
use Rattle.std.proofs.lemmas.List.Splits.{join_with_byte-slice_split, slice_split_at, slice_split_none}
use Rattle.snap_base.proofs.Lists.{all_join, all_map, weaker}
use Rattle.snap_base.specs.Text.{place_text, verdict_text}
use Rattle.snap_base.specs.declared.verdicts.Place.{Place}
use Rattle.snap_base.specs.declared.verdicts.Verdict.{Verdict}
use Rattle.snap_base.specs.declared.verdicts.Verdict.TheVariants as verdicts
use Rattle.snap_report.specs.Lines.{value_text}
use Rattle.audit_words.specs.Papers.{Line, Reply, Actor, End, Kept, Recovered, line_text, IsWellFormedLine, IsPlaceInRange, IsVerdict}
use Rattle.audit_papers.specs.LineWords.{LacksByte, line_words, verdict_words, words}

-- ---- what has no such byte

digits_free : (byte : ℕ) (ds : List ℕ) → byte < 48 → AllByRecursion (λ d. d < 10) ds → LacksByte byte (map (λ d. 48 + d) ds)
digits_free byte [] small all = tt
digits_free byte (d ∷ ds) small all = (ne_eqb (48 + d) byte (λ e. omega (arith, e, small)), digits_free byte ds small all.1)

pub decimal_free : (byte n : ℕ) → byte < 48 → n < 2 ^ 64 → LacksByte byte (decimal n)
decimal_free byte zero small fits = rw (decimal_digit zero (omega arith)) (ne_eqb 48 byte (λ e. omega (arith, e, small)), tt)
decimal_free byte (suc n) small fits = rw (decimal-digits_of (suc n) (omega arith) fits) (digits_free byte _ small (all_below_base_digits_of 10 (suc n) (omega arith)))

signed_free : (z : ℤ) → FitsSigned w64 z → LacksByte 32 (signed_decimal z)
signed_free (pos n) fits = let small : n < 2 ^ 63 = omega (arith, fits) in decimal_free 32 n (omega arith) (omega (arith, small))
signed_free (negsuc n) fits = let small : n < 2 ^ 63 = omega (arith, fits) in (refl, decimal_free 32 (suc n) (omega arith) (omega (arith, small)))

place_free : (p : Place) → IsPlaceInRange p → LacksByte 32 (place_text p)
place_free p h =
    all_join (λ b. (b == 32) ≡ false) (decimal p.batch.0) (46 ∷ (decimal p.side ++ 46 ∷ decimal p.order)) (decimal_free 32 p.batch.0 (omega arith) h.0)
    (refl, all_join (λ b. (b == 32) ≡ false) (decimal p.side) (46 ∷ decimal p.order) (decimal_free 32 p.side (omega arith) (omega (arith, h.1))) (refl, decimal_free 32 p.order (omega arith) h.2))

value_free : (v : Option ℤ) → IfSome v (FitsSigned w64) → LacksByte 32 (value_text v)
value_free None h = (refl, (refl, (refl, (refl, (refl, (refl, (refl, tt)))))))
value_free (Some z) h = signed_free z h

-- the bytes of a word that stands in forms: each is computed
abbrev has_none : List ℕ → Bool
has_none [] = true
has_none (b ∷ bs) = if b == 32 then false else has_none bs

word_free : (bs : List ℕ) → has_none bs ≡ true → LacksByte 32 bs
word_free [] e = tt
word_free (b ∷ bs) e = by (b == 32) refl e (word_free bs)
  where
    by : (c : Bool) → (b == 32) ≡ c → (if c then false else has_none bs) ≡ true → (has_none bs ≡ true → LacksByte 32 bs) → LacksByte 32 (b ∷ bs)
    by true q k f = cc k
    by false q k f = (q, f k)

-- ---- each word of a line of a form

verdict_free : (v : Verdict) → IsVerdict v → AllByRecursion (LacksByte 32) (verdict_words v)
verdict_free (verdicts.Committed p v) h = (word_free (codes "committed") refl, (place_free p h.0, (signed_free v h.1, tt)))
verdict_free (verdicts.Code p code) h = (word_free (codes "code") refl, (place_free p h.0, (decimal_free 32 code (omega arith) (omega (arith, h.1)), tt)))
verdict_free (verdicts.BatchCode k at code) h =
    (word_free (codes "batchcode") refl, (decimal_free 32 k.0 (omega arith) h.0, (decimal_free 32 at (omega arith) h.1, (decimal_free 32 code (omega arith) (omega (arith, h.2)), tt))))
verdict_free (verdicts.Cascade k by) h = (word_free (codes "cascade") refl, (decimal_free 32 k.0 (omega arith) h.0, (decimal_free 32 by.0 (omega arith) (omega (arith, h.1)), tt)))
verdict_free (verdicts.Died a older own) h =
    (word_free (codes "died") refl, (word_free (codes "actor") refl, (decimal_free 32 a.0 (omega arith) (omega (arith, h.0)), (word_free (codes "older") refl, (decimal_free 32 older.0 (omega arith) h.1, (word_free (codes "own") refl, (decimal_free 32 own.0 (omega arith) h.2, tt)))))))
verdict_free (verdicts.Order m n a) h =
    (word_free (codes "order") refl, (word_free (codes "before") refl, (decimal_free 32 m.0 (omega arith) h.0, (word_free (codes "after") refl, (decimal_free 32 n.0 (omega arith) h.1, (word_free (codes "actor") refl, (decimal_free 32 a.0 (omega arith) (omega (arith, h.2)), tt)))))))
verdict_free (verdicts.Unsure l) h = (word_free (codes "unsure") refl, (decimal_free 32 l (omega arith) (omega (arith, h)), tt))

line_free : (l : Line) → IsWellFormedLine l → AllByRecursion (LacksByte 32) (line_words l)
line_free (Reply n v) h = (word_free (codes "tx") refl, (decimal_free 32 n (omega arith) (omega (arith, h.0)), verdict_free v h.1))
line_free (Actor a fields) h =
    (word_free (codes "actor") refl, (decimal_free 32 a (omega arith) (omega (arith, h.0)), all_map signed_decimal (LacksByte 32) fields (weaker (FitsSigned w64) (λ z. LacksByte 32 (signed_decimal z)) fields signed_free h.3)))
line_free (End x y z) h =
    (word_free (codes "end") refl, (word_free (codes "committed") refl, (decimal_free 32 x (omega arith) h.0, (word_free (codes "aborted") refl, (decimal_free 32 y (omega arith) h.1, (word_free (codes "batches") refl, (decimal_free 32 z (omega arith) h.2, tt)))))))
line_free (Kept p v) h = (word_free (codes "kept") refl, (place_free p h.0, (value_free v h.1, tt)))
line_free (Recovered x y t k c) h = (
  word_free (codes "recovered") refl,
  (
    word_free (codes "batches") refl,
    (
      decimal_free 32 x (omega arith) h.0,
      (
        word_free (codes "acts") refl,
        (
          decimal_free 32 y (omega arith) h.1,
          (word_free (codes "next") refl, (decimal_free 32 t (omega arith) h.2, (decimal_free 32 k (omega arith) h.3, (decimal_free 32 c (omega arith) h.4, tt)))),
        ),
      ),
    ),
  ),
)

-- ---- joined, they are the line

joined_fields : (word : List ℕ) (fields : List ℤ) → join_with_byte 32 (word ∷ map signed_decimal fields) ≡ word ++ flat_map (λ z. codes " " ++ signed_decimal z) fields
joined_fields word [] = sym (append-nil word)
joined_fields word (z ∷ zs) = ap (λ bs. word ++ 32 ∷ bs) (joined_fields (signed_decimal z) zs)

joined_verdict : (v : Verdict) → join_with_byte 32 (verdict_words v) ≡ verdict_text v
joined_verdict (verdicts.Committed p v) = refl
joined_verdict (verdicts.Code p code) = refl
joined_verdict (verdicts.BatchCode k at code) = refl
joined_verdict (verdicts.Cascade k by) = refl
joined_verdict (verdicts.Died a older own) = refl
joined_verdict (verdicts.Order m n a) = refl
joined_verdict (verdicts.Unsure l) = refl

joined_reply : (n : ℕ) (v : Verdict) → join_with_byte 32 (codes "tx" ∷ decimal n ∷ verdict_words v) ≡ codes "tx " ++ (decimal n ++ (codes " " ++ join_with_byte 32 (verdict_words v)))
joined_reply n (verdicts.Committed p v) = refl
joined_reply n (verdicts.Code p code) = refl
joined_reply n (verdicts.BatchCode k at code) = refl
joined_reply n (verdicts.Cascade k by) = refl
joined_reply n (verdicts.Died a older own) = refl
joined_reply n (verdicts.Order m k a) = refl
joined_reply n (verdicts.Unsure l) = refl

joined_line : (l : Line) → join_with_byte 32 (line_words l) ≡ line_text l
joined_line (Reply n v) = joined_reply n v ∙ ap (λ bs. codes "tx " ++ (decimal n ++ (codes " " ++ bs))) (joined_verdict v)
joined_line (Actor a fields) = ap (λ bs. codes "actor " ++ bs) (joined_fields (decimal a) fields)
joined_line (End x y z) = refl
joined_line (Kept p v) = refl
joined_line (Recovered x y t k c) = refl

-- ---- and it is cut into them

cut_words : (w : List ℕ) (ws : List (List ℕ)) → AllByRecursion (LacksByte 32) (w ∷ ws) → words (join_with_byte 32 (w ∷ ws)) ≡ w ∷ ws
cut_words w [] h = slice_split_none (λ b. b == 32) w (All-from_recursion (λ b. (b == 32) ≡ false) w h.0)
cut_words w (v ∷ ws) h =
    slice_split_at (λ b. b == 32) w 32 (join_with_byte 32 (v ∷ ws)) (All-from_recursion (λ b. (b == 32) ≡ false) w h.0) refl ∙ ap (λ zs. w ∷ zs) (cut_words v ws h.1)

cut_all : (ws : List (List ℕ)) → ws ≢ [] → AllByRecursion (LacksByte 32) ws → words (join_with_byte 32 ws) ≡ ws
cut_all [] some h = absurd (some refl)
cut_all (w ∷ ws) some h = cut_words w ws h

some_words : (l : Line) → line_words l ≢ []
some_words (Reply n v) e = cc e
some_words (Actor a fields) e = cc e
some_words (End x y z) e = cc e
some_words (Kept p v) e = cc e
some_words (Recovered x y t k c) e = cc e

-- a line that is the text of one of a form has just its words
pub words_of_form : (line : List ℕ) (l : Line) → IsWellFormedLine l → line ≡ line_text l → words line ≡ line_words l
words_of_form line l h e = ap words (e ∙ sym (joined_line l)) ∙ cut_all (line_words l) (some_words l) (line_free l h)

-- a line with the words of one is its text
pub text_of_words : (line : List ℕ) (l : Line) → words line ≡ line_words l → line ≡ line_text l
text_of_words line l e = sym (join_with_byte-slice_split 32 line) ∙ (ap (join_with_byte 32) e ∙ joined_line l)
