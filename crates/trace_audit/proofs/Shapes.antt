-- What one more line makes of what was counted, and of the shape so far.
use Rattle.std.specs.Prelude.{◌≡◌, refl, ℕ, ℤ, zero, suc, ◌+◌, ◌<◌, ◌≤◌, ◌==◌, not, Bool, true, false, ◌||◌, if◌then◌else◌, Some, MatchBool, List, [], ◌∷◌, ◌++◌, length, filter, replicate, take, slice_get, slice_set, slice_index_or}
use Rattle.std.proofs.Common.{arith, sym, ap, subst, ◌∙◌}
use Rattle.std.proofs.lemmas.Bool.{true≢false, eqb-true, eq-eqb}
use Rattle.std.proofs.lemmas.List.{length-map, length-replicate, length-set}
use Rattle.snap_base.proofs.Booleans.{or_false, or_true}
use Rattle.snap_base.proofs.Lists.{get_other}
use Rattle.snap_base.proofs.Options.{same_some}
use Rattle.snap_base.specs.declared.verdicts.Verdict.{Verdict}
use Rattle.protocol.specs.Words.{count}
use Rattle.protocol.specs.Report.{is_committed}
use Rattle.audit_words.specs.Papers.{Line, Reply, Actor, End, Kept, Recovered}
use Rattle.audit_words.specs.Clauses.{MayFollow, is_answered, tells_commit, tells_other}
use Rattle.audit_words.specs.Audited.{EachLine, HasShape}
use Rattle.audit_papers.specs.declared.report_line.ReportLine as code
use Rattle.audit_papers.specs.ReportLines.{line_of, lines_of}
use Rattle.trace_audit.specs.Counted.{Counted}
use Rattle.audit_words.proofs.Taken.{map_taken}
use Rattle.trace_audit.proofs.EachLines.{all_the_lines}

answered_join : (n : ℕ) (front ls : List Line) → is_answered n (front ++ ls) ≡ (is_answered n front || is_answered n ls)
answered_join n [] ls = refl
answered_join n (Reply m v ∷ front) ls = by (m == n) (answered_join n front ls)
  where
    by : (c : Bool) → is_answered n (front ++ ls) ≡ (is_answered n front || is_answered n ls) → (c || is_answered n (front ++ ls)) ≡ ((c || is_answered n front) || is_answered n ls)
    by true e = refl
    by false e = e
answered_join n (_ ∷ front) ls = answered_join n front ls

count_one : (p : Line → Bool) (front : List Line) (l : Line) (b : Bool) → p l ≡ b → count p (front ++ l ∷ []) ≡ count p front + (if b then 1 else 0)
count_one p [] l b e = subst (λ (c : Bool). length (if p l then l ∷ [] else []) ≡ 0 + (if c then 1 else 0)) e (by (p l))
  where
    by : (c : Bool) → length (if c then l ∷ [] else []) ≡ 0 + (if c then 1 else 0)
    by true = refl
    by false = refl
count_one p (x ∷ front) l b e = by (p x) (count_one p front l b e)
  where
    by : (c : Bool) → count p (front ++ l ∷ []) ≡ count p front + (if b then 1 else 0) → length (if c then x ∷ filter p (front ++ l ∷ []) else filter p (front ++ l ∷ [])) ≡ length (if c then x ∷ filter p front else filter p front) + (if b then 1 else 0)
    by true k = omega (arith, k)
    by false k = k

get_same : (xs : List Bool) (n : ℕ) → n < length xs → slice_get (slice_set xs n true) n ≡ Some true
get_same [] n h = absurd (omega (arith, h))
get_same (x ∷ xs) zero h = refl
get_same (x ∷ xs) (suc n) h = get_same xs n (omega (arith, h))

marks_more : (txs n : ℕ) (v : Verdict) (front : List Line) (answered : List Bool) → length answered ≡ txs → ((m : ℕ) → m < txs → slice_get answered m ≡ Some (is_answered m front))
    → (m : ℕ) → m < txs → slice_get (slice_set answered n true) m ≡ Some (is_answered m (front ++ Reply n v ∷ []))
marks_more txs n v front answered l h m k = by (n == m) refl
  where
    by : (b : Bool) → (n == m) ≡ b → slice_get (slice_set answered n true) m ≡ Some (is_answered m (front ++ Reply n v ∷ []))
    by true e = subst (λ (i : ℕ). slice_get (slice_set answered i true) m ≡ Some true) (sym (eqb-true n m e)) (get_same answered m (omega (arith, l, k)))
        ∙ ap (λ (c : Bool). Some c) (sym (answered_join m front (Reply n v ∷ []) ∙ (ap (λ (c : Bool). is_answered m front || (c || false)) e ∙ or_true (is_answered m front))))
    by false e = get_other answered m n true (λ q. true≢false (sym (eq-eqb n m q) ∙ e)) ∙ (h m k
        ∙ ap (λ (c : Bool). Some c) (sym (answered_join m front (Reply n v ∷ []) ∙ (ap (λ (c : Bool). is_answered m front || (c || false)) e ∙ or_false (is_answered m front)))))

pub commit_more : (txs n : ℕ) (v : Verdict) (front : List Line) (answered : List Bool) (x y : ℕ) → is_committed v ≡ true → Counted txs front answered x y → Counted txs (front ++ Reply n v ∷ []) (slice_set answered n true) (x + 1) y
commit_more txs n v front answered x y e k = record {
  many = length-set answered n true ∙ k.many;
  marks = marks_more txs n v front answered k.many k.marks;
  commits = let h : count tells_commit (front ++ Reply n v ∷ []) ≡ count tells_commit front + 1 = count_one tells_commit front (Reply n v) true e in omega (arith, k.commits, h);
  others = let h : count tells_other (front ++ Reply n v ∷ []) ≡ count tells_other front + 0 = count_one tells_other front (Reply n v) false (ap not e) in omega (arith, k.others, h);
}

pub other_more : (txs n : ℕ) (v : Verdict) (front : List Line) (answered : List Bool) (x y : ℕ) → is_committed v ≡ false → Counted txs front answered x y → Counted txs (front ++ Reply n v ∷ []) (slice_set answered n true) x (y + 1)
other_more txs n v front answered x y e k = record {
  many = length-set answered n true ∙ k.many;
  marks = marks_more txs n v front answered k.many k.marks;
  commits = let h : count tells_commit (front ++ Reply n v ∷ []) ≡ count tells_commit front + 0 = count_one tells_commit front (Reply n v) false e in omega (arith, k.commits, h);
  others = let h : count tells_other (front ++ Reply n v ∷ []) ≡ count tells_other front + 1 = count_one tells_other front (Reply n v) true (ap not e) in omega (arith, k.others, h);
}

-- a line that is no reply
pub none_more : (txs : ℕ) (l : Line) (front : List Line) (answered : List Bool) (x y : ℕ) → tells_commit l ≡ false → tells_other l ≡ false → ((m : ℕ) → is_answered m (l ∷ []) ≡ false) → Counted txs front answered x y → Counted txs (front ++ l ∷ []) answered x y
none_more txs l front answered x y e f g k = record {
  many = k.many;
  marks = λ m h. k.marks m h ∙ ap (λ (c : Bool). Some c) (sym (answered_join m front (l ∷ []) ∙ (ap (λ (c : Bool). is_answered m front || c) (g m) ∙ or_false (is_answered m front))));
  commits = let h : count tells_commit (front ++ l ∷ []) ≡ count tells_commit front + 0 = count_one tells_commit front l false e in omega (arith, k.commits, h);
  others = let h : count tells_other (front ++ l ∷ []) ≡ count tells_other front + 0 = count_one tells_other front l false f in omega (arith, k.others, h);
}

pub not_answered : (txs n : ℕ) (front : List Line) (answered : List Bool) (x y : ℕ) (b : Bool) → Counted txs front answered x y → n < txs → slice_get answered n ≡ Some b → is_answered n front ≡ b
not_answered txs n front answered x y b k l e = same_some (is_answered n front) b (sym (k.marks n l) ∙ e)

count_few : (p : Line → Bool) (ls : List Line) → count p ls ≤ length ls
count_few p [] = omega arith
count_few p (l ∷ ls) = by (p l) (count_few p ls)
  where
    by : (b : Bool) → count p ls ≤ length ls → length (if b then l ∷ filter p ls else filter p ls) ≤ length (l ∷ ls)
    by true h = omega (arith, h)
    by false h = omega (arith, h)

pub few_counted : (txs : ℕ) (front : List Line) (answered : List Bool) (x y : ℕ) → Counted txs front answered x y → (x ≤ length front) × (y ≤ length front)
few_counted txs front answered x y k = (omega (arith, k.commits, count_few tells_commit front), omega (arith, k.others, count_few tells_other front))

get_none : (n m : ℕ) → m < n → slice_get (replicate n false) m ≡ Some false
get_none zero m h = absurd (omega (arith, h))
get_none (suc n) zero h = refl
get_none (suc n) (suc m) h = get_none n m (omega (arith, h))

pub nothing_counted : (txs : ℕ) → Counted txs [] (replicate txs false) 0 0
nothing_counted txs = record { many = length-replicate txs false; marks = λ m h. get_none txs m h; commits = refl; others = refl }

-- ---- lines

pub counted_next : (txs : ℕ) (ls : List code.ReportLine) (i : ℕ) (d : code.ReportLine) (answered : List Bool) (x y : ℕ) → i < length ls → Counted txs (lines_of (take i ls) ++ line_of (slice_index_or ls i d) ∷ []) answered x y → Counted txs (lines_of (take (i + 1) ls)) answered x y
counted_next txs ls i d answered x y l k = subst (λ (z : List Line). Counted txs z answered x y) (sym (map_taken line_of ls i d l)) k

-- a report whose lines may all stand is no longer than it may be
place_of : (txs actors settled : ℕ) (front : List Line) (l : Line) → MayFollow txs actors settled front l → length front < txs + actors + 1
place_of txs actors settled front (Reply n v) h = omega (arith, h.0)
place_of txs actors settled front (Actor a fields) h = omega (arith, h.0, h.1)
place_of txs actors settled front (End x y z) h = omega (arith, h.0)
place_of txs actors settled front (Kept p v) h = absurd h
place_of txs actors settled front (Recovered x y t k c) h = absurd h

fits : (txs actors settled : ℕ) (front ls : List Line) → length front ≤ txs + actors + 1 → EachLine (MayFollow txs actors settled) front ls → length front + length ls ≤ txs + actors + 1
fits txs actors settled front [] l h = omega (arith, l)
fits txs actors settled front (x ∷ ls) l h = omega (arith, more front, fits txs actors settled (front ++ x ∷ []) ls (omega (arith, more front, place_of txs actors settled front x h.0)) h.1)
  where
    more : (xs : List Line) → length (xs ++ x ∷ []) ≡ length xs + 1
    more [] = omega arith
    more (y ∷ xs) = omega (arith, more xs)

pub has_shape : (txs actors settled i : ℕ) (ls : List code.ReportLine) → length ls ≤ i → txs + actors + 1 ≤ length ls → EachLine (MayFollow txs actors settled) [] (lines_of (take i ls)) → HasShape txs actors settled (lines_of ls)
has_shape txs actors settled i ls l m h =
    let each = all_the_lines (MayFollow txs actors settled) ls i l h in
    record { each = each; whole = omega (arith, length-map ls line_of, m, fits txs actors settled [] (lines_of ls) (omega arith) each) }

pub match_map : (b : Bool) (P Q R S : Type 0) → (P → R) → (Q → S) → MatchBool b P Q → MatchBool b R S
match_map true P Q R S f g h = f h
match_map false P Q R S f g h = g h

-- ---- an actor's line, and the end

pub actor_stands : (txs actors settled at a : ℕ) (fields : List ℤ) (front : List Line) (answered : List Bool) (x y : ℕ) (b : Bool) → length front ≡ at → Counted txs front answered x y
    → MatchBool b ((at ≡ txs + a) × (a < actors)) (¬ ((at ≡ txs + a) × (a < actors)))
    → MatchBool b (MayFollow txs actors settled front (Actor a fields) × Counted txs (front ++ Actor a fields ∷ []) answered x y) (¬ MayFollow txs actors settled front (Actor a fields))
actor_stands txs actors settled at a fields front answered x y b e k h =
    match_map b _ _ _ _ (λ g. ((e ∙ g.0, g.1), none_more txs (Actor a fields) front answered x y refl refl (λ m. refl) k)) (λ g q. g (sym e ∙ q.0, q.1)) h

pub end_stands : (txs actors settled at c d z : ℕ) (front : List Line) (answered : List Bool) (x y : ℕ) (b : Bool) → length front ≡ at → Counted txs front answered x y
    → MatchBool b ((at ≡ txs + actors) × (c ≡ x) × (d ≡ y) × (z ≡ settled)) (¬ ((at ≡ txs + actors) × (c ≡ x) × (d ≡ y) × (z ≡ settled)))
    → MatchBool b (MayFollow txs actors settled front (End c d z) × Counted txs (front ++ End c d z ∷ []) answered x y) (¬ MayFollow txs actors settled front (End c d z))
end_stands txs actors settled at c d z front answered x y b e k h =
    match_map b _ _ _ _ (λ g. ((e ∙ g.0, g.1 ∙ k.commits, g.2 ∙ k.others, g.3), none_more txs (End c d z) front answered x y refl refl (λ m. refl) k))
    (λ g q. g (sym e ∙ q.0, q.1 ∙ sym k.commits, q.2 ∙ sym k.others, q.3)) h
