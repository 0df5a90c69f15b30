-- A line of a form is the text of no other line of a form, so a text is a report of one list of lines alone.
use Rattle.std.specs.Prelude.{◌≡◌, refl, ℕ, zero, suc, ◌+◌, ◌*◌, ◌<◌, ◌≤◌, ◌^◌, ℤ, pos, negsuc, Option, Some, None, IfSome, List, [], ◌∷◌, ◌++◌, length, map, codes, FitsSigned}
use Rattle.std.specs.Int.{w64}
use Rattle.std.specs.Fmt.{decimal, signed_decimal}
use Rattle.std.specs.List.{AllByRecursion, flat_map}
use Rattle.std.proofs.Common.{arith, sym, ap, subst, ◌∙◌}
use Rattle.std.proofs.lemmas.Bool.{eqb-false, ne_eqb}
use Rattle.std.proofs.lemmas.Fmt.{decimal-digits_of, decimal_digit, decimal_injective}
use Rattle.std.proofs.lemmas.Int.Digits.{all_below_base_digits_of}
use Rattle.std.proofs.lemmas.List.{append-nil}
use Rattle.snap_base.specs.Text.{place_text, verdict_text}
use Rattle.snap_base.specs.declared.verdicts.Place.{Place}
use Rattle.snap_base.specs.declared.verdicts.Verdict.{Verdict}
use Rattle.snap_base.specs.declared.verdicts.Verdict.TheVariants as verdicts
use Rattle.protocol.specs.Verdicts.{died, out_of_order, place, taken_along}
use Rattle.run_effects.specs.snap_report.Lines.{value_text}
use Rattle.trace_text.specs.Reads.{LacksByte}
use Rattle.trace_text.proofs.Cuts.{cut_one, decimal_free, free_append, no_cut_of}
use Rattle.audit_words.specs.Papers.{Actor, End, IsPlaceInRange, IsReport, IsVerdict, IsWellFormedLine, Kept, Line, Recovered, Reply, line_text}

-- ---- numbers

-- a number, and what stands behind its blank
next : (m n : ℕ) (b d : List ℕ) → m < 2 ^ 64 → n < 2 ^ 64 → decimal m ++ 32 ∷ b ≡ decimal n ++ 32 ∷ d → (m ≡ n) × (b ≡ d)
next m n b d f g e = let k = cut_one 32 (decimal m) b (decimal n) d (decimal_free 32 m (omega arith) f) (decimal_free 32 n (omega arith) g) e in (decimal_injective m n f g k.0, k.1)

signed_free : (z : ℤ) → FitsSigned w64 z → LacksByte 32 (signed_decimal z)
signed_free (pos n) fits = decimal_free 32 n (omega arith) (omega (arith, fits))
signed_free (negsuc n) fits = (refl, decimal_free 32 (suc n) (omega arith) (omega (arith, fits)))

no_minus : (m n : ℕ) → m < 2 ^ 64 → decimal m ≡ 45 ∷ decimal n → ⊥
no_minus m n f e = no_cut_of 45 (decimal m) [] (decimal n) (decimal_free 45 m (omega arith) f) e

signed_one : (y z : ℤ) → FitsSigned w64 y → FitsSigned w64 z → signed_decimal y ≡ signed_decimal z → y ≡ z
signed_one (pos m) (pos n) f g e = ap pos (decimal_injective m n (omega (arith, f)) (omega (arith, g)) e)
signed_one (pos m) (negsuc n) f g e = absurd (no_minus m (suc n) (omega (arith, f)) e)
signed_one (negsuc m) (pos n) f g e = absurd (no_minus n (suc m) (omega (arith, g)) (sym e))
signed_one (negsuc m) (negsuc n) f g e =
    let h : decimal (suc m) ≡ decimal (suc n) = cc e in
    ap negsuc (omega (arith, decimal_injective (suc m) (suc n) (omega (arith, f)) (omega (arith, g)) h))

-- digits are below 58
digits_small : (byte : ℕ) (ds : List ℕ) → 57 < byte → AllByRecursion (λ d. d < 10) ds → LacksByte byte (map (λ d. 48 + d) ds)
digits_small byte [] large all = tt
digits_small byte (d ∷ ds) large all = (ne_eqb (48 + d) byte (λ e. omega (arith, e, large, all.0)), digits_small byte ds large all.1)

decimal_small : (byte n : ℕ) → 57 < byte → n < 2 ^ 64 → LacksByte byte (decimal n)
decimal_small byte zero large fits = rw (decimal_digit zero (omega arith)) (ne_eqb 48 byte (λ e. omega (arith, e, large)), tt)
decimal_small byte (suc n) large fits = rw (decimal-digits_of (suc n) (omega arith) fits) (digits_small byte _ large (all_below_base_digits_of 10 (suc n) (omega arith)))

first_byte : List ℕ → ℕ
first_byte [] = 0
first_byte (b ∷ bs) = b

lacks_first : (byte : ℕ) (bs : List ℕ) → 0 < byte → first_byte bs ≡ byte → LacksByte byte bs → ⊥
unfolding first_byte
lacks_first byte [] some e h = omega (arith, some, e)
lacks_first byte (b ∷ bs) some e h = eqb-false b byte h.0 e

no_word : (z : ℤ) → FitsSigned w64 z → codes "unknown" ≡ signed_decimal z → ⊥
unfolding first_byte
no_word (pos n) f e = lacks_first 117 (codes "unknown") (omega arith) refl (subst (LacksByte 117) (sym e) (decimal_small 117 n (omega arith) (omega (arith, f))))
no_word (negsuc n) f e = let h : 117 ≡ 45 = ap first_byte e in omega (arith, h)

value_one : (a b : Option ℤ) → IfSome a (FitsSigned w64) → IfSome b (FitsSigned w64) → value_text a ≡ value_text b → a ≡ b
value_one None None f g e = refl
value_one None (Some z) f g e = absurd (no_word z g e)
value_one (Some y) None f g e = absurd (no_word y f (sym e))
value_one (Some y) (Some z) f g e = ap Some (signed_one y z f g e)

-- ---- places

place_free : (p : Place) → IsPlaceInRange p → LacksByte 32 (place_text p)
place_free p h =
    free_append 32 (decimal p.batch.0) _ (decimal_free 32 p.batch.0 (omega arith) h.0)
    (refl, free_append 32 (decimal p.side) _ (decimal_free 32 p.side (omega arith) (omega (arith, h.1))) (refl, decimal_free 32 p.order (omega arith) h.2))

place_one : (p q : Place) → IsPlaceInRange p → IsPlaceInRange q → place_text p ≡ place_text q → p ≡ q
place_one p q f g e =
    let a = cut_one 46 (decimal p.batch.0) (decimal p.side ++ 46 ∷ decimal p.order) (decimal q.batch.0) (decimal q.side ++ 46 ∷ decimal q.order) (decimal_free 46 p.batch.0 (omega arith) f.0) (decimal_free 46 q.batch.0 (omega arith) g.0) e in
    let b = cut_one 46 (decimal p.side) (decimal p.order) (decimal q.side) (decimal q.order) (decimal_free 46 p.side (omega arith) (omega (arith, f.1))) (decimal_free 46 q.side (omega arith) (omega (arith, g.1))) a.1 in
    ap (λ (k : ℕ). place k p.side p.order) (decimal_injective p.batch.0 q.batch.0 f.0 g.0 a.0)
    ∙ (ap (λ (s : ℕ). place q.batch.0 s p.order) (decimal_injective p.side q.side (omega (arith, f.1)) (omega (arith, g.1)) b.0) ∙ ap (place q.batch.0 q.side) (decimal_injective p.order q.order f.2 g.2 b.1))

-- a place, and what stands behind its blank
placed : (p q : Place) (b d : List ℕ) → IsPlaceInRange p → IsPlaceInRange q → place_text p ++ 32 ∷ b ≡ place_text q ++ 32 ∷ d → (p ≡ q) × (b ≡ d)
placed p q b d f g e = let k = cut_one 32 (place_text p) b (place_text q) d (place_free p f) (place_free q g) e in (place_one p q f g k.0, k.1)

-- ---- verdicts

-- the first and the third letter tell the kind
abbrev pub tag : List ℕ → ℕ
tag (a ∷ b ∷ c ∷ rest) = a * 256 + c
tag _ = 0

abbrev verdict_tag : Verdict → ℕ
verdict_tag (verdicts.Committed p z) = 25453
verdict_tag (verdicts.Code p c) = 25444
verdict_tag (verdicts.BatchCode k at c) = 25204
verdict_tag (verdicts.Cascade k by) = 25459
verdict_tag (verdicts.Died a older own) = 25701
verdict_tag (verdicts.Order m n a) = 28516
verdict_tag (verdicts.Unsure l) = 30067

verdict_tagged : (v : Verdict) → tag (verdict_text v) ≡ verdict_tag v
verdict_tagged (verdicts.Committed p z) = refl
verdict_tagged (verdicts.Code p c) = refl
verdict_tagged (verdicts.BatchCode k at c) = refl
verdict_tagged (verdicts.Cascade k by) = refl
verdict_tagged (verdicts.Died a older own) = refl
verdict_tagged (verdicts.Order m n a) = refl
verdict_tagged (verdicts.Unsure l) = refl

same_verdict_tag : (v u : Verdict) → verdict_text v ≡ verdict_text u → verdict_tag v ≡ verdict_tag u
same_verdict_tag v u e = sym (verdict_tagged v) ∙ (ap tag e ∙ verdict_tagged u)

verdict_one : (v u : Verdict) → IsVerdict v → IsVerdict u → verdict_text v ≡ verdict_text u → v ≡ u
verdict_one (verdicts.Committed p z) (verdicts.Committed q y) f g e =
    let h : place_text p ++ 32 ∷ signed_decimal z ≡ place_text q ++ 32 ∷ signed_decimal y = cc e in
    let k = placed p q (signed_decimal z) (signed_decimal y) f.0 g.0 h in
    ap (λ (x : Place). verdicts.Committed x z) k.0 ∙ ap (verdicts.Committed q) (signed_one z y f.1 g.1 k.1)
verdict_one (verdicts.Code p z) (verdicts.Code q y) f g e =
    let h : place_text p ++ 32 ∷ decimal z ≡ place_text q ++ 32 ∷ decimal y = cc e in
    let k = placed p q (decimal z) (decimal y) f.0 g.0 h in
    ap (λ (x : Place). verdicts.Code x z) k.0 ∙ ap (verdicts.Code q) (decimal_injective z y (omega (arith, f.1)) (omega (arith, g.1)) k.1)
verdict_one (verdicts.BatchCode k at c) (verdicts.BatchCode j bt d) f g e =
    let h : decimal k.0 ++ 32 ∷ (decimal at ++ 32 ∷ decimal c) ≡ decimal j.0 ++ 32 ∷ (decimal bt ++ 32 ∷ decimal d) = cc e in
    let x = next k.0 j.0 _ _ f.0 g.0 h in
    let y = next at bt _ _ f.1 g.1 x.1 in
    ap (λ (n : ℕ). verdicts.BatchCode (record { 0 = n }) at c) x.0 ∙ (ap (λ (n : ℕ). verdicts.BatchCode j n c) y.0 ∙ ap (verdicts.BatchCode j bt) (decimal_injective c d (omega (arith, f.2)) (omega (arith, g.2)) y.1))
verdict_one (verdicts.Cascade k by) (verdicts.Cascade j cy) f g e =
    let h : decimal k.0 ++ 32 ∷ decimal by.0 ≡ decimal j.0 ++ 32 ∷ decimal cy.0 = cc e in
    let x = next k.0 j.0 _ _ f.0 g.0 h in
    ap (λ (n : ℕ). taken_along n by.0) x.0 ∙ ap (taken_along j.0) (decimal_injective by.0 cy.0 (omega (arith, f.1)) (omega (arith, g.1)) x.1)
verdict_one (verdicts.Died a older own) (verdicts.Died b elder mine) f g e =
    let h : decimal a.0 ++ 32 ∷ (codes "older " ++ (decimal older.0 ++ 32 ∷ (codes "own " ++ decimal own.0))) ≡ decimal b.0 ++ 32 ∷ (codes "older " ++ (decimal elder.0 ++ 32 ∷ (codes "own " ++ decimal mine.0))) = cc e in
    let x = next a.0 b.0 _ _ (omega (arith, f.0)) (omega (arith, g.0)) h in
    let i : decimal older.0 ++ 32 ∷ (codes "own " ++ decimal own.0) ≡ decimal elder.0 ++ 32 ∷ (codes "own " ++ decimal mine.0) = cc (x.1) in
    let y = next older.0 elder.0 _ _ f.1 g.1 i in
    let j : decimal own.0 ≡ decimal mine.0 = cc (y.1) in
    ap (λ (n : ℕ). died n older.0 own.0) x.0 ∙ (ap (λ (n : ℕ). died b.0 n own.0) y.0 ∙ ap (died b.0 elder.0) (decimal_injective own.0 mine.0 f.2 g.2 j))
verdict_one (verdicts.Order m n a) (verdicts.Order k l b) f g e =
    let h : decimal m.0 ++ 32 ∷ (codes "after " ++ (decimal n.0 ++ 32 ∷ (codes "actor " ++ decimal a.0))) ≡ decimal k.0 ++ 32 ∷ (codes "after " ++ (decimal l.0 ++ 32 ∷ (codes "actor " ++ decimal b.0))) = cc e in
    let x = next m.0 k.0 _ _ f.0 g.0 h in
    let i : decimal n.0 ++ 32 ∷ (codes "actor " ++ decimal a.0) ≡ decimal l.0 ++ 32 ∷ (codes "actor " ++ decimal b.0) = cc (x.1) in
    let y = next n.0 l.0 _ _ f.1 g.1 i in
    let j : decimal a.0 ≡ decimal b.0 = cc (y.1) in
    ap (λ (z : ℕ). out_of_order z n.0 a.0) x.0 ∙ (ap (λ (z : ℕ). out_of_order k.0 z a.0) y.0 ∙ ap (out_of_order k.0 l.0) (decimal_injective a.0 b.0 (omega (arith, f.2)) (omega (arith, g.2)) j))
verdict_one (verdicts.Unsure l) (verdicts.Unsure k) f g e = let h : decimal l ≡ decimal k = cc e in ap verdicts.Unsure (decimal_injective l k (omega (arith, f)) (omega (arith, g)) h)
verdict_one (verdicts.Committed p z) (verdicts.Code p2 z2) f g e = absurd (omega (arith, same_verdict_tag (verdicts.Committed p z) (verdicts.Code p2 z2) e))
verdict_one (verdicts.Committed p z) (verdicts.BatchCode k2 at2 c2) f g e = absurd (omega (arith, same_verdict_tag (verdicts.Committed p z) (verdicts.BatchCode k2 at2 c2) e))
verdict_one (verdicts.Committed p z) (verdicts.Cascade k2 by2) f g e = absurd (omega (arith, same_verdict_tag (verdicts.Committed p z) (verdicts.Cascade k2 by2) e))
verdict_one (verdicts.Committed p z) (verdicts.Died a2 older2 own2) f g e = absurd (omega (arith, same_verdict_tag (verdicts.Committed p z) (verdicts.Died a2 older2 own2) e))
verdict_one (verdicts.Committed p z) (verdicts.Order m2 n2 a2) f g e = absurd (omega (arith, same_verdict_tag (verdicts.Committed p z) (verdicts.Order m2 n2 a2) e))
verdict_one (verdicts.Committed p z) (verdicts.Unsure l2) f g e = absurd (omega (arith, same_verdict_tag (verdicts.Committed p z) (verdicts.Unsure l2) e))
verdict_one (verdicts.Code p z) (verdicts.Committed p2 z2) f g e = absurd (omega (arith, same_verdict_tag (verdicts.Code p z) (verdicts.Committed p2 z2) e))
verdict_one (verdicts.Code p z) (verdicts.BatchCode k2 at2 c2) f g e = absurd (omega (arith, same_verdict_tag (verdicts.Code p z) (verdicts.BatchCode k2 at2 c2) e))
verdict_one (verdicts.Code p z) (verdicts.Cascade k2 by2) f g e = absurd (omega (arith, same_verdict_tag (verdicts.Code p z) (verdicts.Cascade k2 by2) e))
verdict_one (verdicts.Code p z) (verdicts.Died a2 older2 own2) f g e = absurd (omega (arith, same_verdict_tag (verdicts.Code p z) (verdicts.Died a2 older2 own2) e))
verdict_one (verdicts.Code p z) (verdicts.Order m2 n2 a2) f g e = absurd (omega (arith, same_verdict_tag (verdicts.Code p z) (verdicts.Order m2 n2 a2) e))
verdict_one (verdicts.Code p z) (verdicts.Unsure l2) f g e = absurd (omega (arith, same_verdict_tag (verdicts.Code p z) (verdicts.Unsure l2) e))
verdict_one (verdicts.BatchCode k at c) (verdicts.Committed p2 z2) f g e = absurd (omega (arith, same_verdict_tag (verdicts.BatchCode k at c) (verdicts.Committed p2 z2) e))
verdict_one (verdicts.BatchCode k at c) (verdicts.Code p2 z2) f g e = absurd (omega (arith, same_verdict_tag (verdicts.BatchCode k at c) (verdicts.Code p2 z2) e))
verdict_one (verdicts.BatchCode k at c) (verdicts.Cascade k2 by2) f g e = absurd (omega (arith, same_verdict_tag (verdicts.BatchCode k at c) (verdicts.Cascade k2 by2) e))
verdict_one (verdicts.BatchCode k at c) (verdicts.Died a2 older2 own2) f g e = absurd (omega (arith, same_verdict_tag (verdicts.BatchCode k at c) (verdicts.Died a2 older2 own2) e))
verdict_one (verdicts.BatchCode k at c) (verdicts.Order m2 n2 a2) f g e = absurd (omega (arith, same_verdict_tag (verdicts.BatchCode k at c) (verdicts.Order m2 n2 a2) e))
verdict_one (verdicts.BatchCode k at c) (verdicts.Unsure l2) f g e = absurd (omega (arith, same_verdict_tag (verdicts.BatchCode k at c) (verdicts.Unsure l2) e))
verdict_one (verdicts.Cascade k by) (verdicts.Committed p2 z2) f g e = absurd (omega (arith, same_verdict_tag (verdicts.Cascade k by) (verdicts.Committed p2 z2) e))
verdict_one (verdicts.Cascade k by) (verdicts.Code p2 z2) f g e = absurd (omega (arith, same_verdict_tag (verdicts.Cascade k by) (verdicts.Code p2 z2) e))
verdict_one (verdicts.Cascade k by) (verdicts.BatchCode k2 at2 c2) f g e = absurd (omega (arith, same_verdict_tag (verdicts.Cascade k by) (verdicts.BatchCode k2 at2 c2) e))
verdict_one (verdicts.Cascade k by) (verdicts.Died a2 older2 own2) f g e = absurd (omega (arith, same_verdict_tag (verdicts.Cascade k by) (verdicts.Died a2 older2 own2) e))
verdict_one (verdicts.Cascade k by) (verdicts.Order m2 n2 a2) f g e = absurd (omega (arith, same_verdict_tag (verdicts.Cascade k by) (verdicts.Order m2 n2 a2) e))
verdict_one (verdicts.Cascade k by) (verdicts.Unsure l2) f g e = absurd (omega (arith, same_verdict_tag (verdicts.Cascade k by) (verdicts.Unsure l2) e))
verdict_one (verdicts.Died a older own) (verdicts.Committed p2 z2) f g e = absurd (omega (arith, same_verdict_tag (verdicts.Died a older own) (verdicts.Committed p2 z2) e))
verdict_one (verdicts.Died a older own) (verdicts.Code p2 z2) f g e = absurd (omega (arith, same_verdict_tag (verdicts.Died a older own) (verdicts.Code p2 z2) e))
verdict_one (verdicts.Died a older own) (verdicts.BatchCode k2 at2 c2) f g e = absurd (omega (arith, same_verdict_tag (verdicts.Died a older own) (verdicts.BatchCode k2 at2 c2) e))
verdict_one (verdicts.Died a older own) (verdicts.Cascade k2 by2) f g e = absurd (omega (arith, same_verdict_tag (verdicts.Died a older own) (verdicts.Cascade k2 by2) e))
verdict_one (verdicts.Died a older own) (verdicts.Order m2 n2 a2) f g e = absurd (omega (arith, same_verdict_tag (verdicts.Died a older own) (verdicts.Order m2 n2 a2) e))
verdict_one (verdicts.Died a older own) (verdicts.Unsure l2) f g e = absurd (omega (arith, same_verdict_tag (verdicts.Died a older own) (verdicts.Unsure l2) e))
verdict_one (verdicts.Order m n a) (verdicts.Committed p2 z2) f g e = absurd (omega (arith, same_verdict_tag (verdicts.Order m n a) (verdicts.Committed p2 z2) e))
verdict_one (verdicts.Order m n a) (verdicts.Code p2 z2) f g e = absurd (omega (arith, same_verdict_tag (verdicts.Order m n a) (verdicts.Code p2 z2) e))
verdict_one (verdicts.Order m n a) (verdicts.BatchCode k2 at2 c2) f g e = absurd (omega (arith, same_verdict_tag (verdicts.Order m n a) (verdicts.BatchCode k2 at2 c2) e))
verdict_one (verdicts.Order m n a) (verdicts.Cascade k2 by2) f g e = absurd (omega (arith, same_verdict_tag (verdicts.Order m n a) (verdicts.Cascade k2 by2) e))
verdict_one (verdicts.Order m n a) (verdicts.Died a2 older2 own2) f g e = absurd (omega (arith, same_verdict_tag (verdicts.Order m n a) (verdicts.Died a2 older2 own2) e))
verdict_one (verdicts.Order m n a) (verdicts.Unsure l2) f g e = absurd (omega (arith, same_verdict_tag (verdicts.Order m n a) (verdicts.Unsure l2) e))
verdict_one (verdicts.Unsure l) (verdicts.Committed p2 z2) f g e = absurd (omega (arith, same_verdict_tag (verdicts.Unsure l) (verdicts.Committed p2 z2) e))
verdict_one (verdicts.Unsure l) (verdicts.Code p2 z2) f g e = absurd (omega (arith, same_verdict_tag (verdicts.Unsure l) (verdicts.Code p2 z2) e))
verdict_one (verdicts.Unsure l) (verdicts.BatchCode k2 at2 c2) f g e = absurd (omega (arith, same_verdict_tag (verdicts.Unsure l) (verdicts.BatchCode k2 at2 c2) e))
verdict_one (verdicts.Unsure l) (verdicts.Cascade k2 by2) f g e = absurd (omega (arith, same_verdict_tag (verdicts.Unsure l) (verdicts.Cascade k2 by2) e))
verdict_one (verdicts.Unsure l) (verdicts.Died a2 older2 own2) f g e = absurd (omega (arith, same_verdict_tag (verdicts.Unsure l) (verdicts.Died a2 older2 own2) e))
verdict_one (verdicts.Unsure l) (verdicts.Order m2 n2 a2) f g e = absurd (omega (arith, same_verdict_tag (verdicts.Unsure l) (verdicts.Order m2 n2 a2) e))

-- ---- fields

abbrev shown : List ℤ → List ℕ
shown zs = flat_map (λ z. codes " " ++ signed_decimal z) zs

fields_one : (z : ℤ) (zs : List ℤ) (y : ℤ) (ys : List ℤ) → AllByRecursion (FitsSigned w64) (z ∷ zs) → AllByRecursion (FitsSigned w64) (y ∷ ys) → signed_decimal z ++ shown zs ≡ signed_decimal y ++ shown ys → z ∷ zs ≡ y ∷ ys
fields_one z [] y [] f g e = ap (λ (x : ℤ). x ∷ []) (signed_one z y f.0 g.0 (sym (append-nil (signed_decimal z)) ∙ (e ∙ append-nil (signed_decimal y))))
fields_one z [] y (x ∷ ys) f g e = absurd (no_cut_of 32 (signed_decimal z) (signed_decimal y) (signed_decimal x ++ shown ys) (signed_free z f.0) (sym (append-nil (signed_decimal z)) ∙ e))
fields_one z (x ∷ zs) y [] f g e = absurd (no_cut_of 32 (signed_decimal y) (signed_decimal z) (signed_decimal x ++ shown zs) (signed_free y g.0) (sym (append-nil (signed_decimal y)) ∙ sym e))
fields_one z (x ∷ zs) y (v ∷ ys) f g e =
    let k = cut_one 32 (signed_decimal z) (signed_decimal x ++ shown zs) (signed_decimal y) (signed_decimal v ++ shown ys) (signed_free z f.0) (signed_free y g.0) e in
    ap (λ (u : ℤ). u ∷ x ∷ zs) (signed_one z y f.0 g.0 k.0) ∙ ap (λ (us : List ℤ). y ∷ us) (fields_one x zs v ys f.1 g.1 k.1)

actor_one : (a b : ℕ) (fields others : List ℤ) → a < 2 ^ 64 → b < 2 ^ 64 → 1 ≤ length fields → 1 ≤ length others → AllByRecursion (FitsSigned w64) fields → AllByRecursion (FitsSigned w64) others
    → decimal a ++ shown fields ≡ decimal b ++ shown others → Actor a fields ≡ Actor b others
actor_one a b [] others f g l k h i e = absurd (omega (arith, l))
actor_one a b (z ∷ zs) [] f g l k h i e = absurd (omega (arith, k))
actor_one a b (z ∷ zs) (y ∷ ys) f g l k h i e =
    let x = next a b (signed_decimal z ++ shown zs) (signed_decimal y ++ shown ys) f g e in
    ap (λ (n : ℕ). Actor n (z ∷ zs)) x.0 ∙ ap (Actor b) (fields_one z zs y ys h i x.1)

-- ---- lines

abbrev pub line_tag : Line → ℕ
line_tag (Reply n v) = 29728
line_tag (Actor a fields) = 24948
line_tag (End x y z) = 25956
line_tag (Kept p v) = 27504
line_tag (Recovered x y t k c) = 29283

pub line_tagged : (l : Line) → tag (line_text l) ≡ line_tag l
line_tagged (Reply n v) = refl
line_tagged (Actor a fields) = refl
line_tagged (End x y z) = refl
line_tagged (Kept p v) = refl
line_tagged (Recovered x y t k c) = refl

same_line_tag : (l k : Line) → line_text l ≡ line_text k → line_tag l ≡ line_tag k
same_line_tag l k e = sym (line_tagged l) ∙ (ap tag e ∙ line_tagged k)

pub line_one : (l k : Line) → IsWellFormedLine l → IsWellFormedLine k → line_text l ≡ line_text k → l ≡ k
line_one (Reply n v) (Reply m u) f g e =
    let h : decimal n ++ 32 ∷ verdict_text v ≡ decimal m ++ 32 ∷ verdict_text u = cc e in
    let x = next n m (verdict_text v) (verdict_text u) (omega (arith, f.0)) (omega (arith, g.0)) h in
    ap (λ (z : ℕ). Reply z v) x.0 ∙ ap (Reply m) (verdict_one v u f.1 g.1 x.1)
line_one (Actor a fields) (Actor b others) f g e =
    let h : decimal a ++ shown fields ≡ decimal b ++ shown others = cc e in
    actor_one a b fields others (omega (arith, f.0)) (omega (arith, g.0)) f.1 g.1 f.3 g.3 h
line_one (End x y z) (End u v w) f g e =
    let h : decimal x ++ 32 ∷ (codes "aborted " ++ (decimal y ++ 32 ∷ (codes "batches " ++ decimal z))) ≡ decimal u ++ 32 ∷ (codes "aborted " ++ (decimal v ++ 32 ∷ (codes "batches " ++ decimal w))) = cc e in
    let a = next x u _ _ f.0 g.0 h in
    let i : decimal y ++ 32 ∷ (codes "batches " ++ decimal z) ≡ decimal v ++ 32 ∷ (codes "batches " ++ decimal w) = cc (a.1) in
    let b = next y v _ _ f.1 g.1 i in
    let j : decimal z ≡ decimal w = cc (b.1) in
    ap (λ (n : ℕ). End n y z) a.0 ∙ (ap (λ (n : ℕ). End u n z) b.0 ∙ ap (End u v) (decimal_injective z w f.2 g.2 j))
line_one (Kept p v) (Kept q u) f g e =
    let h : place_text p ++ 32 ∷ value_text v ≡ place_text q ++ 32 ∷ value_text u = cc e in
    let x = placed p q (value_text v) (value_text u) f.0 g.0 h in
    ap (λ (z : Place). Kept z v) x.0 ∙ ap (Kept q) (value_one v u f.1 g.1 x.1)
line_one (Recovered x y t k c) (Recovered u v s j d) f g e =
    let h : decimal x ++ 32 ∷ (codes "acts " ++ (decimal y ++ 32 ∷ (codes "next " ++ (decimal t ++ 32 ∷ (decimal k ++ 32 ∷ decimal c))))) ≡ decimal u ++ 32 ∷ (codes "acts " ++ (decimal v ++ 32 ∷ (codes "next " ++ (decimal s ++ 32 ∷ (decimal j ++ 32 ∷ decimal d))))) = cc e in
    let a = next x u _ _ f.0 g.0 h in
    let i : decimal y ++ 32 ∷ (codes "next " ++ (decimal t ++ 32 ∷ (decimal k ++ 32 ∷ decimal c))) ≡ decimal v ++ 32 ∷ (codes "next " ++ (decimal s ++ 32 ∷ (decimal j ++ 32 ∷ decimal d))) = cc (a.1) in
    let b = next y v _ _ f.1 g.1 i in
    let m : decimal t ++ 32 ∷ (decimal k ++ 32 ∷ decimal c) ≡ decimal s ++ 32 ∷ (decimal j ++ 32 ∷ decimal d) = cc (b.1) in
    let o = next t s _ _ f.2 g.2 m in
    let q = next k j _ _ f.3 g.3 o.1 in
    ap (λ (n : ℕ). Recovered n y t k c) a.0 ∙ (ap (λ (n : ℕ). Recovered u n t k c) b.0 ∙ (ap (λ (n : ℕ). Recovered u v n k c) o.0 ∙ (ap (λ (n : ℕ). Recovered u v s n c) q.0 ∙ ap (Recovered u v s j) (decimal_injective c d f.4 g.4 q.1))))
line_one (Reply n v) (Actor a2 fields2) f g e = absurd (omega (arith, same_line_tag (Reply n v) (Actor a2 fields2) e))
line_one (Reply n v) (End x2 y2 z2) f g e = absurd (omega (arith, same_line_tag (Reply n v) (End x2 y2 z2) e))
line_one (Reply n v) (Kept p2 v2) f g e = absurd (omega (arith, same_line_tag (Reply n v) (Kept p2 v2) e))
line_one (Reply n v) (Recovered x2 y2 t2 k2 c2) f g e = absurd (omega (arith, same_line_tag (Reply n v) (Recovered x2 y2 t2 k2 c2) e))
line_one (Actor a fields) (Reply n2 v2) f g e = absurd (omega (arith, same_line_tag (Actor a fields) (Reply n2 v2) e))
line_one (Actor a fields) (End x2 y2 z2) f g e = absurd (omega (arith, same_line_tag (Actor a fields) (End x2 y2 z2) e))
line_one (Actor a fields) (Kept p2 v2) f g e = absurd (omega (arith, same_line_tag (Actor a fields) (Kept p2 v2) e))
line_one (Actor a fields) (Recovered x2 y2 t2 k2 c2) f g e = absurd (omega (arith, same_line_tag (Actor a fields) (Recovered x2 y2 t2 k2 c2) e))
line_one (End x y z) (Reply n2 v2) f g e = absurd (omega (arith, same_line_tag (End x y z) (Reply n2 v2) e))
line_one (End x y z) (Actor a2 fields2) f g e = absurd (omega (arith, same_line_tag (End x y z) (Actor a2 fields2) e))
line_one (End x y z) (Kept p2 v2) f g e = absurd (omega (arith, same_line_tag (End x y z) (Kept p2 v2) e))
line_one (End x y z) (Recovered x2 y2 t2 k2 c2) f g e = absurd (omega (arith, same_line_tag (End x y z) (Recovered x2 y2 t2 k2 c2) e))
line_one (Kept p v) (Reply n2 v2) f g e = absurd (omega (arith, same_line_tag (Kept p v) (Reply n2 v2) e))
line_one (Kept p v) (Actor a2 fields2) f g e = absurd (omega (arith, same_line_tag (Kept p v) (Actor a2 fields2) e))
line_one (Kept p v) (End x2 y2 z2) f g e = absurd (omega (arith, same_line_tag (Kept p v) (End x2 y2 z2) e))
line_one (Kept p v) (Recovered x2 y2 t2 k2 c2) f g e = absurd (omega (arith, same_line_tag (Kept p v) (Recovered x2 y2 t2 k2 c2) e))
line_one (Recovered x y t k c) (Reply n2 v2) f g e = absurd (omega (arith, same_line_tag (Recovered x y t k c) (Reply n2 v2) e))
line_one (Recovered x y t k c) (Actor a2 fields2) f g e = absurd (omega (arith, same_line_tag (Recovered x y t k c) (Actor a2 fields2) e))
line_one (Recovered x y t k c) (End x2 y2 z2) f g e = absurd (omega (arith, same_line_tag (Recovered x y t k c) (End x2 y2 z2) e))
line_one (Recovered x y t k c) (Kept p2 v2) f g e = absurd (omega (arith, same_line_tag (Recovered x y t k c) (Kept p2 v2) e))

-- ---- reports

lines_one : (ls ms : List Line) → AllByRecursion IsWellFormedLine ls → AllByRecursion IsWellFormedLine ms → map line_text ls ≡ map line_text ms → ls ≡ ms
lines_one [] [] f g e = refl
lines_one [] (m ∷ ms) f g e = absurd (cc e)
lines_one (l ∷ ls) [] f g e = absurd (cc e)
lines_one (l ∷ ls) (m ∷ ms) f g e =
    let first : line_text l ≡ line_text m = cc e in
    let rest : map line_text ls ≡ map line_text ms = cc e in
    ap (λ (z : Line). z ∷ ls) (line_one l m f.0 g.0 first) ∙ ap (λ (zs : List Line). m ∷ zs) (lines_one ls ms f.1 g.1 rest)

pub report_one : (text : List ℕ) (ls ms : List Line) → IsReport text ls → IsReport text ms → ls ≡ ms
report_one text ls ms f g = lines_one ls ms f.forms g.forms (sym f.said ∙ g.said)
