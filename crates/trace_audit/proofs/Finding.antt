-- What is noted by the number of a transaction, one element more.
use Rattle.std.specs.Prelude.{◌≡◌, refl, ℕ, zero, suc, ◌+◌, ◌<◌, ◌≤◌, ◌==◌, ◌&&◌, ◌||◌, Bool, true, false, if◌then◌else◌, Option, Some, None, List, [], ◌∷◌, ◌++◌, find, length, slice_get, slice_set, take, drop, slice_index_or}
use Rattle.std.specs.List.{list_any}
use Rattle.std.specs.Option.{option_or}
use Rattle.std.proofs.Common.{arith, sym, ap, subst, ◌∙◌}
use Rattle.std.proofs.lemmas.Bool.{true≢false, eqb-true, eq-eqb}
use Rattle.std.proofs.lemmas.List.{append-nil, append_assoc, length-append, length-set, length-take-le, take_all, take_more}
use Rattle.std.proofs.lemmas.List.Folds.{find-append, list_any-append}
use Rattle.std.proofs.lemmas.Option.{slice_get-get_or}
use Rattle.snap_base.proofs.Booleans.{or_false}
use Rattle.snap_base.proofs.Lists.{get_behind, get_left, get_other, one_at}
use Rattle.snap_base.specs.declared.ids.Bid.{Bid}
use Rattle.snap_base.specs.declared.verdicts.Verdict.{Verdict}
use Rattle.snap_base.specs.declared.verdicts.Verdict.TheVariants as verdicts
use Rattle.protocol.specs.Parts.{Pact}
use Rattle.audit_papers.specs.declared.report_line.ReportLine as code
use Rattle.audit_papers.specs.ReportLines.{line_of, lines_of}
use Rattle.audit_tale.specs.declared.tales.ActTale.{ActTale}
use Rattle.audit_tale.specs.declared.tales.BatchTale.{BatchTale}
use Rattle.audit_words.specs.Audited.{EachLine, HasShape}
use Rattle.audit_words.specs.Clauses.{MayFollow, is_answered, tells_batch_code}
use Rattle.audit_words.specs.Papers.{Line, Reply, Actor, End, Kept, Recovered}
use Rattle.audit_words.proofs.Taken.{map_cut, map_taken}
use Rattle.trace_audit.specs.ByTransaction.{AreAnswers, IsIndex, IsNewReply, PointsTo, all_noted, code_noted, first_noted, has_pact, is_act_for, is_noted, noted}
use Rattle.trace_audit.specs.Evidence.{TellsCodes}
use Rattle.trace_audit.specs.Meanings.{NameTransactions, NamesTransaction}

-- ---- one place

pub set_same : {X : Type 0} (xs : List X) (n : ℕ) (x : X) → slice_get xs n ≡ Some x → slice_set xs n x ≡ xs
set_same [] n x e = refl
set_same (y ∷ xs) zero x e = ap (λ z. z ∷ xs) (let same : x ≡ y = cc e in same)
set_same (y ∷ xs) (suc n) x e = ap (λ z. y ∷ z) (set_same xs n x e)

get_set : {X : Type 0} (xs : List X) (n : ℕ) (x y : X) → slice_get xs n ≡ Some y → slice_get (slice_set xs n x) n ≡ Some x
get_set [] n x y e = absurd (cc e)
get_set (z ∷ xs) zero x y e = refl
get_set (z ∷ xs) (suc n) x y e = get_set xs n x y e

get_set_none : {X : Type 0} (xs : List X) (n : ℕ) (x : X) → slice_get xs n ≡ None → slice_get (slice_set xs n x) n ≡ None
get_set_none [] n x e = refl
get_set_none (z ∷ xs) zero x e = absurd (cc e)
get_set_none (z ∷ xs) (suc n) x e = get_set_none xs n x e

pub noted_new : (n at : ℕ) (ps : List (Option ℕ)) → slice_get ps n ≡ Some None → slice_set ps n (Some at) ≡ noted n at ps
noted_new n at ps e = ap (λ (o : Option (Option ℕ)). slice_set ps n (first_noted at o)) (sym e)

pub noted_old : (n at i : ℕ) (ps : List (Option ℕ)) → slice_get ps n ≡ Some (Some i) → ps ≡ noted n at ps
noted_old n at i ps e = sym (ap (λ (o : Option (Option ℕ)). slice_set ps n (first_noted at o)) e ∙ set_same ps n (Some i) e)

-- what stands at a place behind an element, which names it or does not
abbrev pub with_first : Bool → ℕ → Option (Option ℕ) → Option (Option ℕ)
with_first b at None = None
with_first true at (Some o) = Some (first_noted at (Some o))
with_first false at (Some o) = Some o

get_noted : (n at m : ℕ) (ps : List (Option ℕ)) → slice_get (noted n at ps) m ≡ with_first (n == m) at (slice_get ps m)
get_noted n at m ps = by (n == m) refl
  where
    here : (o : Option (Option ℕ)) → slice_get ps n ≡ o → slice_get (slice_set ps n (first_noted at o)) n ≡ with_first true at o
    here None e = get_set_none ps n (Some at) e
    here (Some o) e = get_set ps n (first_noted at (Some o)) o e

    unread : (o : Option (Option ℕ)) → o ≡ with_first false at o
    unread None = refl
    unread (Some o) = refl

    by : (b : Bool) → (n == m) ≡ b → slice_get (noted n at ps) m ≡ with_first b at (slice_get ps m)
    by true e = subst (λ (j : ℕ). slice_get (noted n at ps) j ≡ with_first true at (slice_get ps j)) (eqb-true n m e) (here (slice_get ps n) refl)
    by false e = get_other ps m n (first_noted at (slice_get ps n)) (λ q. true≢false (sym (eq-eqb n m q) ∙ e)) ∙ unread (slice_get ps m)

twice_first : (a b : Bool) (at : ℕ) (o : Option (Option ℕ)) → with_first b at (with_first a at o) ≡ with_first (a || b) at o
twice_first a b at None = refl
twice_first true true at (Some None) = refl
twice_first true false at (Some None) = refl
twice_first false b at (Some None) = refl
twice_first true true at (Some (Some i)) = refl
twice_first true false at (Some (Some i)) = refl
twice_first false b at (Some (Some i)) = refl

get_all_noted : (at m : ℕ) (pacts : List Pact) (ps : List (Option ℕ)) → slice_get (all_noted at pacts ps) m ≡ with_first (list_any (λ q. q.tx == m) pacts) at (slice_get ps m)
get_all_noted at m [] ps = by (slice_get ps m)
  where
    by : (o : Option (Option ℕ)) → o ≡ with_first false at o
    by None = refl
    by (Some o) = refl
get_all_noted at m (p ∷ pacts) ps =
    get_all_noted at m pacts (noted p.tx at ps)
    ∙ ap (with_first (list_any (λ q. q.tx == m) pacts) at) (get_noted p.tx at m ps)
    ∙ twice_first (p.tx == m) (list_any (λ q. q.tx == m) pacts) at (slice_get ps m)

many_noted : (at : ℕ) (pacts : List Pact) (ps : List (Option ℕ)) → length (all_noted at pacts ps) ≡ length ps
many_noted at [] ps = refl
many_noted at (p ∷ pacts) ps = many_noted at pacts (noted p.tx at ps) ∙ length-set ps p.tx (first_noted at (slice_get ps p.tx))

-- ---- an index of one element more

points_on : {X : Type 0} (p : X → Bool) (xs : List X) (x : X) (o n : Option ℕ) (b : Bool) → p x ≡ b → PointsTo p xs o → with_first b (length xs) (Some o) ≡ Some n → PointsTo p (xs ++ x ∷ []) n
points_on {X} p xs x (Some i) n b q h e = subst (PointsTo p (xs ++ x ∷ [])) (same b e) (omega (arith, h.0, length-append xs (x ∷ [])), found (one_at xs i h.0))
  where
    same : (c : Bool) → with_first c (length xs) (Some (Some i)) ≡ Some n → Some i ≡ n
    same true e = cc e
    same false e = cc e

    found : (y : X) × (slice_get xs i ≡ Some y) → find p (xs ++ x ∷ []) ≡ slice_get (xs ++ x ∷ []) i
    found y = find-append p xs (x ∷ []) ∙ (ap (λ (z : Option X). option_or z (find p (x ∷ []))) (h.1 ∙ y.1) ∙ sym (get_left xs (x ∷ []) i h.0 ∙ y.1))
points_on {X} p xs x None n true q h e =
    subst (PointsTo p (xs ++ x ∷ [])) (let same : Some (length xs) ≡ n = cc e in same)
    (omega (arith, length-append xs (x ∷ [])), find-append p xs (x ∷ []) ∙ (ap (λ (z : Option X). option_or z (find p (x ∷ []))) h ∙ (ap (λ (c : Bool). if c then Some x else None) q ∙ sym (get_behind xs (x ∷ []) 0 (length xs) (omega arith)))))
points_on {X} p xs x None n false q h e =
    subst (PointsTo p (xs ++ x ∷ [])) (let same : None ≡ n = cc e in same)
    (find-append p xs (x ∷ []) ∙ (ap (λ (z : Option X). option_or z (find p (x ∷ []))) h ∙ ap (λ (c : Bool). if c then Some x else None) q))

index_on : {X : Type 0} (names : ℕ → X → Bool) (xs : List X) (x : X) (old new : List (Option ℕ)) → IsIndex names xs old
    → ((m : ℕ) → slice_get new m ≡ with_first (names m x) (length xs) (slice_get old m)) → IsIndex names (xs ++ x ∷ []) new
index_on names xs x old new h f m n e = by (slice_get old m) refl (sym (f m) ∙ e)
  where
    by : (o : Option (Option ℕ)) → slice_get old m ≡ o → with_first (names m x) (length xs) o ≡ Some n → PointsTo (names m) (xs ++ x ∷ []) n
    by None g q = absurd (cc q)
    by (Some o) g q = points_on (names m) xs x o n (names m x) refl (h m o g) q

pub act_indexed : (xs : List ActTale) (i : ℕ) (d : ActTale) (old new : List (Option ℕ)) → i < length xs → IsIndex is_act_for (take i xs) old → new ≡ noted (slice_index_or xs i d).tx.0 i old → IsIndex is_act_for (take (i + 1) xs) new
act_indexed xs i d old new l h e =
    subst (λ (z : List ActTale). IsIndex is_act_for z new) (sym (take_more xs i d l))
    (index_on is_act_for (take i xs) (slice_index_or xs i d) old new h (λ m. ap (λ (z : List (Option ℕ)). slice_get z m) e ∙ (get_noted (slice_index_or xs i d).tx.0 i m old
    ∙ ap (λ (j : ℕ). with_first ((slice_index_or xs i d).tx.0 == m) j (slice_get old m)) (sym (length-take-le i xs (omega (arith, l)))))))

pub batch_indexed : (xs : List BatchTale) (i : ℕ) (d : BatchTale) (pacts : List Pact) (old new : List (Option ℕ)) → i < length xs → d ≡ slice_index_or xs i d → d.formed.pacts ≡ pacts → IsIndex has_pact (take i xs) old → new ≡ all_noted i pacts old
    → IsIndex has_pact (take (i + 1) xs) new
batch_indexed xs i d pacts old new l is q h e =
    subst (λ (z : List BatchTale). IsIndex has_pact z new) (sym (take_more xs i d l))
    (index_on has_pact (take i xs) (slice_index_or xs i d) old new h (λ m. ap (λ (z : List (Option ℕ)). slice_get z m) e ∙ (get_all_noted i m pacts old
    ∙ (ap (λ (ps : List Pact). with_first (list_any (λ q. q.tx == m) ps) i (slice_get old m)) (sym q ∙ ap (λ (x : BatchTale). x.formed.pacts) is)
    ∙ ap (λ (j : ℕ). with_first (has_pact m (slice_index_or xs i d)) j (slice_get old m)) (sym (length-take-le i xs (omega (arith, l))))))))

pub still_many : (n at : ℕ) (old new : List (Option ℕ)) → new ≡ noted n at old → length new ≡ length old
still_many n at old new e = ap length e ∙ length-set old n (first_noted at (slice_get old n))

pub still_many_noted : (at : ℕ) (pacts : List Pact) (old new : List (Option ℕ)) → new ≡ all_noted at pacts old → length new ≡ length old
still_many_noted at pacts old new e = ap length e ∙ many_noted at pacts old

pub all_indexed : {X : Type 0} (names : ℕ → X → Bool) (xs : List X) (i : ℕ) (places : List (Option ℕ)) → length xs ≤ i → IsIndex names (take i xs) places → IsIndex names xs places
all_indexed {X} names xs i places l h = subst (λ (z : List X). IsIndex names z places) (take_all i xs l) h

-- ---- what an index finds

pub pointed : {X : Type 0} (names : ℕ → X → Bool) (xs : List X) (places : List (Option ℕ)) (n : ℕ) (o d : Option ℕ) → IsIndex names xs places → n < length places → slice_index_or places n d ≡ o → PointsTo (names n) xs o
pointed names xs places n o d h l e = h n o (slice_get-get_or places n d l ∙ ap (λ (z : Option ℕ). Some z) e)

pub found_there : {X : Type 0} (p : X → Bool) (xs : List X) (i : ℕ) (d : X) → PointsTo p xs (Some i) → Some (slice_index_or xs i d) ≡ find p xs
found_there p xs i d h = sym (slice_get-get_or xs i d h.0) ∙ sym h.1

-- ---- lines

unanswered : (n k : ℕ) (front : List Line) → is_answered n front ≡ false → list_any (tells_batch_code n k) front ≡ false
unanswered n k [] e = refl
unanswered n k (Reply m v ∷ front) e = by (m == n) v refl e (unanswered n k front)
  where
    by : (b : Bool) (v : Verdict) → (m == n) ≡ b → (b || is_answered n front) ≡ false → (is_answered n front ≡ false → list_any (tells_batch_code n k) front ≡ false) → (tells_batch_code n k (Reply m v) || list_any (tells_batch_code n k) front) ≡ false
    by true v q e f = absurd (true≢false e)
    by false (verdicts.Committed p x) q e f = f e
    by false (verdicts.Code p x) q e f = f e
    by false (verdicts.BatchCode j at x) q e f = ap (λ (b : Bool). (b && (j.0 == k)) || list_any (tells_batch_code n k) front) q ∙ f e
    by false (verdicts.Cascade j x) q e f = f e
    by false (verdicts.Died a x y) q e f = f e
    by false (verdicts.Order x y a) q e f = f e
    by false (verdicts.Unsure x) q e f = f e
unanswered n k (Actor a fields ∷ front) e = unanswered n k front e
unanswered n k (End x y z ∷ front) e = unanswered n k front e
unanswered n k (Kept p v ∷ front) e = unanswered n k front e
unanswered n k (Recovered x y t b c ∷ front) e = unanswered n k front e

told_on : (front : List Line) (n j at c : ℕ) (b : Bid) (codes : List (Option Bid)) → n < length codes → b.0 ≡ j → is_answered n front ≡ false → TellsCodes front codes → TellsCodes (front ++ Reply n (verdicts.BatchCode b at c) ∷ []) (slice_set codes n (Some b))
told_on front n j at c b codes l q e h m k = list_any-append (tells_batch_code m k) front (Reply n (verdicts.BatchCode b at c) ∷ []) ∙ by (n == m) refl
  where
    by : (t : Bool) → (n == m) ≡ t → (list_any (tells_batch_code m k) front || (((n == m) && (b.0 == k)) || false)) ≡ is_noted k (slice_get (slice_set codes n (Some b)) m)
    by true r =
        let same : n ≡ m = eqb-true n m r in
        ap (λ (t : Bool). list_any (tells_batch_code m k) front || ((t && (b.0 == k)) || false)) r
        ∙ (ap (λ (t : Bool). t || ((b.0 == k) || false)) (subst (λ (i : ℕ). list_any (tells_batch_code i k) front ≡ false) same (unanswered n k front e))
        ∙ (or_false (b.0 == k) ∙ sym (ap (is_noted k) (subst (λ (i : ℕ). slice_get (slice_set codes n (Some b)) i ≡ Some (Some b)) same (let there = one_at codes n l in get_set codes n (Some b) there.0 there.1)))))
    by false r =
        ap (λ (t : Bool). list_any (tells_batch_code m k) front || ((t && (b.0 == k)) || false)) r
        ∙ (or_false (list_any (tells_batch_code m k) front) ∙ (h m k ∙ ap (is_noted k) (sym (get_other codes m n (Some b) (λ i. true≢false (sym (eq-eqb n m i) ∙ r))))))

-- a line that tells no batch
silent_on : (front : List Line) (l : Line) (codes : List (Option Bid)) → ((m k : ℕ) → tells_batch_code m k l ≡ false) → TellsCodes front codes → TellsCodes (front ++ l ∷ []) codes
silent_on front l codes f h m k =
    list_any-append (tells_batch_code m k) front (l ∷ []) ∙ (ap (λ (t : Bool). list_any (tells_batch_code m k) front || (t || false)) (f m k) ∙ (or_false (list_any (tells_batch_code m k) front) ∙ h m k))

code_on : (txs : ℕ) (front : List Line) (l : Line) (codes : List (Option Bid)) → length codes ≡ txs → IsNewReply txs front l → TellsCodes front codes → TellsCodes (front ++ l ∷ []) (code_noted l codes)
code_on txs front (Reply n (verdicts.Committed p x)) codes many new h = silent_on front (Reply n (verdicts.Committed p x)) codes (λ m k. refl) h
code_on txs front (Reply n (verdicts.Code p x)) codes many new h = silent_on front (Reply n (verdicts.Code p x)) codes (λ m k. refl) h
code_on txs front (Reply n (verdicts.BatchCode j at x)) codes many new h = told_on front n j.0 at x j codes (omega (arith, many, new.0)) refl new.1 h
code_on txs front (Reply n (verdicts.Cascade j x)) codes many new h = silent_on front (Reply n (verdicts.Cascade j x)) codes (λ m k. refl) h
code_on txs front (Reply n (verdicts.Died a x y)) codes many new h = silent_on front (Reply n (verdicts.Died a x y)) codes (λ m k. refl) h
code_on txs front (Reply n (verdicts.Order x y a)) codes many new h = silent_on front (Reply n (verdicts.Order x y a)) codes (λ m k. refl) h
code_on txs front (Reply n (verdicts.Unsure x)) codes many new h = silent_on front (Reply n (verdicts.Unsure x)) codes (λ m k. refl) h
code_on txs front (Actor a fields) codes many new h = silent_on front (Actor a fields) codes (λ m k. refl) h
code_on txs front (End x y z) codes many new h = silent_on front (End x y z) codes (λ m k. refl) h
code_on txs front (Kept p v) codes many new h = silent_on front (Kept p v) codes (λ m k. refl) h
code_on txs front (Recovered x y t b c) codes many new h = silent_on front (Recovered x y t b c) codes (λ m k. refl) h

code_many : (l : Line) (codes : List (Option Bid)) → length (code_noted l codes) ≡ length codes
code_many (Reply n (verdicts.Committed p x)) codes = refl
code_many (Reply n (verdicts.Code p x)) codes = refl
code_many (Reply n (verdicts.BatchCode j at x)) codes = length-set codes n (Some j)
code_many (Reply n (verdicts.Cascade j x)) codes = refl
code_many (Reply n (verdicts.Died a x y)) codes = refl
code_many (Reply n (verdicts.Order x y a)) codes = refl
code_many (Reply n (verdicts.Unsure x)) codes = refl
code_many (Actor a fields) codes = refl
code_many (End x y z) codes = refl
code_many (Kept p v) codes = refl
code_many (Recovered x y t b c) codes = refl

pub each_within : (P : List Line → Line → Type 0) (before front : List Line) (l : Line) (rest : List Line) → EachLine P before (front ++ l ∷ rest) → P (before ++ front) l
each_within P before [] l rest h = subst (λ (z : List Line). P z l) (sym (append-nil before)) h.0
each_within P before (x ∷ front) l rest h = subst (λ (z : List Line). P z l) (append_assoc before (x ∷ []) front) (each_within P (before ++ x ∷ []) front l rest h.1)

-- what holds of each line holds of the one at a place
pub each_there : (P : List Line → Line → Type 0) (ls : List code.ReportLine) (i : ℕ) (d : code.ReportLine) → i < length ls → EachLine P [] (lines_of ls) → P (lines_of (take i ls)) (line_of (slice_index_or ls i d))
each_there P ls i d l h = each_within P [] (lines_of (take i ls)) (line_of (slice_index_or ls i d)) (lines_of (drop (i + 1) ls)) (subst (EachLine P []) (map_cut line_of ls i d l) h)

pub code_next : (txs : ℕ) (ls : List code.ReportLine) (i : ℕ) (d : code.ReportLine) (old new : List (Option Bid)) → i < length ls → d ≡ slice_index_or ls i d → AreAnswers txs (lines_of ls) → length old ≡ txs → TellsCodes (lines_of (take i ls)) old → new ≡ code_noted (line_of d) old
    → (length new ≡ txs) × TellsCodes (lines_of (take (i + 1) ls)) new
code_next txs ls i d old new l is answers many h e =
    let q : new ≡ code_noted (line_of (slice_index_or ls i d)) old = e ∙ ap (λ (x : code.ReportLine). code_noted (line_of x) old) is in (
      ap length q ∙ (code_many (line_of (slice_index_or ls i d)) old ∙ many),
      subst (λ (z : List Line). TellsCodes z new) (sym (map_taken line_of ls i d l))
          (subst (TellsCodes (lines_of (take i ls) ++ line_of (slice_index_or ls i d) ∷ [])) (sym q) (code_on txs (lines_of (take i ls)) (line_of (slice_index_or ls i d)) old many (each_there (IsNewReply txs) ls i d l answers) h)),
    )

-- a report of the shape that is asked for answers each transaction once
answers_on : (txs actors settled : ℕ) (front ls : List Line) → EachLine (MayFollow txs actors settled) front ls → EachLine (IsNewReply txs) front ls
answers_on txs actors settled front [] h = tt
answers_on txs actors settled front (l ∷ ls) h = (by l h.0, answers_on txs actors settled (front ++ l ∷ []) ls h.1)
  where
    by : (l : Line) → MayFollow txs actors settled front l → IsNewReply txs front l
    by (Reply n v) h = (h.1, h.3)
    by (Actor a fields) h = tt
    by (End x y z) h = tt
    by (Kept p v) h = tt
    by (Recovered x y t k c) h = tt

pub shaped_answers : (txs actors settled : ℕ) (ls : List Line) → HasShape txs actors settled ls → AreAnswers txs ls
shaped_answers txs actors settled ls h = answers_on txs actors settled [] ls h.each

-- each reply names a transaction
pub named_answers : (txs : ℕ) (front ls : List Line) → EachLine (IsNewReply txs) front ls → NameTransactions txs ls
named_answers txs front [] h = tt
named_answers txs front (l ∷ ls) h = (by l h.0, named_answers txs (front ++ l ∷ []) ls h.1)
  where
    by : (l : Line) → IsNewReply txs front l → NamesTransaction txs l
    by (Reply n v) h = h.0
    by (Actor a fields) h = tt
    by (End x y z) h = tt
    by (Kept p v) h = tt
    by (Recovered x y t k c) h = tt

pub named_there : (txs : ℕ) (ls : List code.ReportLine) (i : ℕ) (d : code.ReportLine) → i < length ls → d ≡ slice_index_or ls i d → AreAnswers txs (lines_of ls) → NamesTransaction txs (line_of d)
named_there txs ls i d l is h = by d is
  where
    named : NamesTransaction txs (line_of (slice_index_or ls i d))
    named = by_line (line_of (slice_index_or ls i d)) (each_there (IsNewReply txs) ls i d l h)
      where
        by_line : (x : Line) → IsNewReply txs (lines_of (take i ls)) x → NamesTransaction txs x
        by_line (Reply n v) h = h.0
        by_line (Actor a fields) h = tt
        by_line (End x y z) h = tt
        by_line (Kept p v) h = tt
        by_line (Recovered x y t k c) h = tt

    by : (x : code.ReportLine) → x ≡ slice_index_or ls i d → NamesTransaction txs (line_of x)
    by x e = subst (λ (z : code.ReportLine). NamesTransaction txs (line_of z)) (sym e) named
