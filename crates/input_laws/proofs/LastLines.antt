-- The last line that is a divider cuts a text in one way.
use Rattle.std.specs.Prelude.{◌≡◌, refl, ℕ, zero, suc, ◌==◌, Bool, true, false, if◌then◌else◌, List, [], ◌∷◌, ◌++◌, length, Contains}
use Rattle.std.specs.List.{flat_map}
use Rattle.std.proofs.Common.{arith, sym, ap, subst, inl, inr, ◌∙◌}
use Rattle.std.proofs.lemmas.Bool.{eqb-true}
use Rattle.std.proofs.lemmas.List.{length-append}
use Rattle.snap_base.proofs.Lists.{same_front}
use Rattle.snap_base.specs.Lines.{lines, onto_line}
use Rattle.audit_words.specs.Papers.{AreParts, AreWhole, IsBehindDivider, IsCutAt, LacksDivider, ended, report_divider, trace_divider}
use Rattle.audit_papers.specs.Bytes.{IsOneLine}
use Rattle.audit_papers.proofs.CutLines.{line_ended, line_last, lines_join}

-- ---- whole lines are just their lines

-- a byte in front of some lines, each with its line feed
onto_ended : (b : ℕ) (bs : List ℕ) (ls : List (List ℕ)) → flat_map ended ls ≡ ended bs → flat_map ended (onto_line b ls) ≡ ended (b ∷ bs)
onto_ended b bs [] e = absurd (omega (arith, ap length e, length-append bs (10 ∷ [])))
onto_ended b bs (l ∷ ls) e = ap (λ (z : List ℕ). b ∷ z) e

lines_ended : (bs : List ℕ) → flat_map ended (lines (ended bs)) ≡ ended bs
lines_ended [] = refl
lines_ended (b ∷ bs) = by (b == 10) refl (lines_ended bs)
  where
    by : (c : Bool) → (b == 10) ≡ c → flat_map ended (lines (ended bs)) ≡ ended bs → flat_map ended (if c then [] ∷ lines (ended bs) else onto_line b (lines (ended bs))) ≡ ended (b ∷ bs)
    by true q e = ap (λ (z : List ℕ). 10 ∷ z) e ∙ ap (λ (n : ℕ). n ∷ ended bs) (sym (eqb-true b 10 q))
    by false q e = onto_ended b bs (lines (ended bs)) e

lines_whole : (bs : List ℕ) → AreWhole bs → flat_map ended (lines bs) ≡ bs
lines_whole bs (inl e) = subst (λ (z : List ℕ). flat_map ended (lines z) ≡ z) (sym e) refl
lines_whole bs (inr k) = subst (λ (z : List ℕ). flat_map ended (lines z) ≡ z) (sym k.1) (lines_ended k.0)

-- ---- the last one among lines

contains_behind : (d x : List ℕ) (xs : List (List ℕ)) → Contains xs d → Contains (x ∷ xs) d
contains_behind d x xs (n, l, e) = (suc n, omega (arith, l), e)

contains_here : (d : List ℕ) (front xs : List (List ℕ)) → Contains (front ++ d ∷ xs) d
contains_here d [] xs = (zero, omega arith, refl)
contains_here d (x ∷ front) xs = contains_behind d x (front ++ d ∷ xs) (contains_here d front xs)

last_one : (d : List ℕ) (xs ys us vs : List (List ℕ)) → xs ++ d ∷ us ≡ ys ++ d ∷ vs → (¬ Contains us d) → (¬ Contains vs d) → (xs ≡ ys) × (us ≡ vs)
last_one d [] [] us vs e n m = (refl, cc e)
last_one d [] (y ∷ ys) us vs e n m =
    let rest : us ≡ ys ++ d ∷ vs = cc e in
    absurd (n (subst (λ (z : List (List ℕ)). Contains z d) (sym rest) (contains_here d ys vs)))
last_one d (x ∷ xs) [] us vs e n m =
    let rest : xs ++ d ∷ us ≡ vs = cc e in
    absurd (m (subst (λ (z : List (List ℕ)). Contains z d) rest (contains_here d xs us)))
last_one d (x ∷ xs) (y ∷ ys) us vs e n m =
    let first : x ≡ y = cc e in
    let rest : xs ++ d ∷ us ≡ ys ++ d ∷ vs = cc e in
    let more = last_one d xs ys us vs rest n m in
    (ap (λ (z : List ℕ). z ∷ xs) first ∙ ap (λ (z : List (List ℕ)). y ∷ z) more.0, more.1)

-- ---- one cut

-- a line with a byte
record IsDivider (d : List ℕ) : Type 0 where
  first : ℕ
  more : List ℕ
  is : d ≡ first ∷ more
  one_line : IsOneLine d

rest_lines : (d rest part : List ℕ) → IsDivider d → IsBehindDivider d rest part → lines rest ≡ d ∷ lines part
rest_lines d rest part o (inl e) = ap lines e ∙ (lines_join (ended d) part (inr (d, refl)) ∙ ap (λ (ls : List (List ℕ)). ls ++ lines part) (line_ended d o.one_line))
rest_lines d rest part o (inr e) =
    ap lines (e.0 ∙ o.is) ∙ (line_last o.first o.more (subst IsOneLine o.is o.one_line) ∙ (ap (λ (z : List ℕ). z ∷ []) (sym o.is) ∙ ap (λ (z : List ℕ). d ∷ lines z) (sym e.1)))

cut_lines : (d text front part : List ℕ) → IsDivider d → (c : IsCutAt d text front part) → lines text ≡ lines front ++ d ∷ lines part
cut_lines d text front part o c = ap lines c.splits ∙ (lines_join front c.rest c.whole ∙ ap (λ (ls : List (List ℕ)). lines front ++ ls) (rest_lines d c.rest part o c.behind))

same_part : (d rest part other : List ℕ) → IsBehindDivider d rest part → IsBehindDivider d rest other → part ≡ other
same_part d rest part other (inl e) (inl f) = (same_front (ended d) part (ended d) other refl (sym e ∙ f)).1
same_part d rest part other (inl e) (inr f) = absurd (omega (arith, ap length (sym e ∙ f.0), length-append (ended d) part, length-append d (10 ∷ [])))
same_part d rest part other (inr e) (inl f) = absurd (omega (arith, ap length (sym f ∙ e.0), length-append (ended d) other, length-append d (10 ∷ [])))
same_part d rest part other (inr e) (inr f) = e.1 ∙ sym f.1

one_cut : (d text front part other_front other_part : List ℕ) → IsDivider d → IsCutAt d text front part → IsCutAt d text other_front other_part → (front ≡ other_front) × (part ≡ other_part)
one_cut d text front part other_front other_part o c k =
    let fronts = (last_one d (lines front) (lines other_front) (lines part) (lines other_part) (sym (cut_lines d text front part o c) ∙ cut_lines d text other_front other_part o k) c.last k.last).0 in
    let front_is : front ≡ other_front = sym (lines_whole front c.whole) ∙ (ap (flat_map ended) fronts ∙ lines_whole other_front k.whole) in
    let rests = (same_front front c.rest other_front k.rest (ap length front_is) (sym c.splits ∙ k.splits)).1 in
    (front_is, same_part d c.rest part other_part c.behind (subst (λ (z : List ℕ). IsBehindDivider d z other_part) (sym rests) k.behind))

there : (d text front part : List ℕ) → IsDivider d → IsCutAt d text front part → Contains (lines text) d
there d text front part o c = subst (λ (z : List (List ℕ)). Contains z d) (sym (cut_lines d text front part o c)) (contains_here d (lines front) (lines part))

-- ---- the two dividers

traces : IsDivider trace_divider
traces = record { first = 61; more = _; is = refl; one_line = (refl, (refl, (refl, (refl, (refl, (refl, (refl, (refl, tt)))))))) }

reports : IsDivider report_divider
reports = record { first = 61; more = _; is = refl; one_line = (refl, (refl, (refl, (refl, (refl, (refl, (refl, (refl, (refl, tt))))))))) }

pub same_parts : (input text trace report other_text other_trace other_report : List ℕ) → AreParts input text trace report → AreParts input other_text other_trace other_report → (text ≡ other_text) × (trace ≡ other_trace) × (report ≡ other_report)
same_parts input text trace report other_text other_trace other_report p q =
    let outer = one_cut report_divider input p.front report q.front other_report reports p.reported q.reported in
    let inner = one_cut trace_divider p.front text trace other_text other_trace traces p.traced (subst (λ (z : List ℕ). IsCutAt trace_divider z other_text other_trace) (sym outer.0) q.traced) in
    (inner.0, inner.1, outer.1)

pub no_lack : (input text trace report : List ℕ) → AreParts input text trace report → ¬ LacksDivider input
no_lack input text trace report p (inl h) = h (there report_divider input p.front report reports p.reported)
no_lack input text trace report p (inr h) =
    let outer = one_cut report_divider input p.front report h.0 h.1.0 reports p.reported h.1.1.0 in
    h.1.1.1 (subst (λ (z : List ℕ). Contains (lines z) trace_divider) outer.0 (there trace_divider p.front text trace traces p.traced))
