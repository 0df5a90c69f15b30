-- The front: which batch is the next to commit, and how far batches are after that one went on.
use Rattle.std.proofs.Common.{◌≡◌, ℕ, zero, suc, ◌+◌, ◌<◌, ◌≤◌, ◌==◌, Bool, true, false, not, ◌&&◌, ◌||◌, inl, inr, Option, Some, None, List, [], ◌∷◌, ◌++◌, length, map, take, drop, refl, ap, sym, ◌∙◌, arith}
use Rattle.std.specs.Prelude.{slice_get, slice_set, slice_index_or, nat_le}
use Rattle.std.specs.List.{AllByRecursion}
use Rattle.std.proofs.lemmas.Bool.{eqb-true, eqb-false, or_cases, cond_both, and_parts, and_from, and_left, or_from, or_left, or_right, le-leb, lt-leb, leb-true, not-true, false≢true, cases_lt}
use Rattle.snap_base.proofs.Booleans.{or_only}
use Rattle.protocol.specs.Parts as stages
use Rattle.protocol.specs.Parts.{Stage, Batch}
use Rattle.protocol.specs.Words.{holds, is_formed, is_committing, is_settled, batch_of, is_open, is_next_to_commit}
use Rattle.protocol.specs.OnDesk.{with_stage, taken}
use Rattle.protocol.specs.Numbers.{from}
use Rattle.batch_table.specs.Askings.{is_next_open, awaits_settling}
use Rattle.batch_table.specs.Joining.{bids_of}
use Rattle.batch_table.specs.Places.{IsPlaceOfBatch, gone}
use Rattle.batch_table.specs.Sound.{batch_standing, standings_of, IsBatchOver, IsOpen, IsFrontCount}
use Rattle.batch_table.proofs.ByNumber.{cons_parts, cons_same, missing_below}

-- ---- stages and marks

pub formed_not_settled : (st : Stage) → is_formed st ≡ true → is_settled st ≡ false
formed_not_settled stages.Formed e = refl
formed_not_settled stages.Committing e = refl
formed_not_settled stages.Settled e = sym e

formed_not_committing : (st : Stage) → is_formed st ≡ true → is_committing st ≡ true → ⊥
formed_not_committing stages.Formed e f = false≢true f
formed_not_committing stages.Committing e f = false≢true e
formed_not_committing stages.Settled e f = false≢true e

committing_not_settled : (st : Stage) → is_committing st ≡ true → is_settled st ≡ false
committing_not_settled stages.Formed e = refl
committing_not_settled stages.Committing e = refl
committing_not_settled stages.Settled e = sym e

not_over : (b : Batch) → b.aborted ≡ false → is_settled b.stage ≡ false → IsBatchOver (batch_standing b) → ⊥
not_over b a s o = false≢true (sym (or_from b.aborted (is_settled b.stage) a s) ∙ o)

open_not_over : (b : Batch) → is_open b ≡ true → IsBatchOver (batch_standing b) → ⊥
open_not_over b h o =
    let parts = and_parts (is_formed b.stage) (not b.aborted) h in
    not_over b (not-true b.aborted parts.1) (formed_not_settled b.stage parts.0) o

pub front_of_open : (bs : List Batch) → AllByRecursion IsOpen (standings_of bs) → IsFrontCount zero (standings_of bs)
front_of_open [] h = tt
front_of_open (b ∷ bs) h = ((h.0.0, formed_not_settled b.stage h.0.1), h.1)

-- ---- the condition over all smaller batches

none_smaller : (k low : ℕ) (bs : List Batch) → bids_of bs ≡ from low (length bs) → k ≤ low → is_next_to_commit k bs ≡ true
none_smaller k low [] e l = refl
none_smaller k low (b ∷ bs) e l =
    let parts = cons_parts b.bid low (bids_of bs) (from (low + 1) (length bs)) e in
    and_from (nat_le k b.bid || (b.aborted || is_settled b.stage)) (is_next_to_commit k bs)
    (or_left (nat_le k b.bid) (b.aborted || is_settled b.stage) (le-leb k b.bid (omega (arith, parts.0))))
    (none_smaller k (low + 1) bs parts.1 (omega arith))

le_suc : (i n : ℕ) → nat_le i n ≡ nat_le (suc i) (suc n)
le_suc i n =
    elim (cases_lt n i) [
      | inl lt ↦ lt-leb i n lt ∙ sym (lt-leb (suc i) (suc n) (omega arith))
      | inr le ↦ le-leb i n le ∙ sym (le-leb (suc i) (suc n) (omega arith))
    ]

smaller_over : (k low i front : ℕ) (bs : List Batch) → bids_of bs ≡ from low (length bs) → IsFrontCount front (standings_of bs) → k ≡ low + i → i < length bs → is_next_to_commit k bs ≡ nat_le i front
smaller_over k low i front [] e f q l = absurd (omega arith)
smaller_over k low zero front (b ∷ bs) e f q l = none_smaller k low (b ∷ bs) e (omega arith) ∙ sym (le-leb zero front (omega arith))
smaller_over k low (suc i) zero (b ∷ bs) e f q l =
    let parts = cons_parts b.bid low (bids_of bs) (from (low + 1) (length bs)) e in
    and_left (nat_le k b.bid || (b.aborted || is_settled b.stage)) (is_next_to_commit k bs)
    (or_from (nat_le k b.bid) (b.aborted || is_settled b.stage) (lt-leb k b.bid (omega (arith, parts.0))) (or_from b.aborted (is_settled b.stage) f.0.0 f.0.1))
    ∙ sym (lt-leb (suc i) zero (omega arith))
smaller_over k low (suc i) (suc n) (b ∷ bs) e f q l =
    let parts = cons_parts b.bid low (bids_of bs) (from (low + 1) (length bs)) e in
    ap (λ v. v && is_next_to_commit k bs) (or_right (nat_le k b.bid) (b.aborted || is_settled b.stage) f.0)
    ∙ (smaller_over k (low + 1) i n bs parts.1 f.1 (omega arith) (omega arith) ∙ le_suc i n)

-- the batch at a place is the next to go on exactly where it is open and no further than the front
pub next_at : (k base i front : ℕ) (b : Batch) (bs : List Batch) → bids_of bs ≡ from (base + 1) (length bs) → IsFrontCount front (standings_of bs) → IsPlaceOfBatch k i bs → k ≡ base + 1 + i → slice_get bs i ≡ Some b
    → is_next_open k bs ≡ (is_open b && nat_le i front)
next_at k base i front b bs e f p q g =
    ap (λ o. holds (λ b. is_open b && is_next_to_commit k bs) o) (p.found ∙ g)
    ∙ ap (λ v. is_open b && v) (smaller_over k (base + 1) i front bs e f q p.within)

-- ---- who goes on is at the front

holds_parts : (x : Bool) (o : Option Batch) → holds (λ b. is_open b && x) o ≡ true → (holds is_open o ≡ true) × (x ≡ true)
holds_parts x None h = absurd (false≢true h)
holds_parts x (Some b) h = and_parts (is_open b) x h

below_next : (k bid low : ℕ) → bid ≡ low → (bid ≡ k → ⊥) → k ≤ bid → k < low + 1
below_next k bid low e other l = omega arith

open_at_front : (k low front : ℕ) (bs : List Batch) → bids_of bs ≡ from low (length bs) → IsFrontCount front (standings_of bs) → holds is_open (batch_of k bs) ≡ true → is_next_to_commit k bs ≡ true → (k ≡ low + front) × (front < length bs)
open_at_front k low front [] e f op nx = absurd (false≢true op)
open_at_front k low zero (b ∷ bs) e f op nx =
    let parts = cons_parts b.bid low (bids_of bs) (from (low + 1) (length bs)) e in
    cond_both (b.bid == k) (Some b) (batch_of k bs) (λ o. holds is_open o ≡ true → (k ≡ low + zero) × (zero < length (b ∷ bs)))
    (λ q h. (omega (arith, parts.0, eqb-true b.bid k q), omega arith))
    (λ q h.
    elim (or_cases (nat_le k b.bid) (b.aborted || is_settled b.stage) (and_parts (nat_le k b.bid || (b.aborted || is_settled b.stage)) (is_next_to_commit k bs) nx).0) [
      | inl le ↦ absurd (false≢true (ap (λ o. holds is_open o) (sym (missing_below k (low + 1) bs parts.1 (below_next k b.bid low parts.0 (eqb-false b.bid k q) (leb-true k b.bid le)))) ∙ h))
      | inr over ↦ absurd (not_over b f.0.0 f.0.1 over)
    ])
    op
open_at_front k low (suc n) (b ∷ bs) e f op nx =
    let parts = cons_parts b.bid low (bids_of bs) (from (low + 1) (length bs)) e in
    cond_both (b.bid == k) (Some b) (batch_of k bs) (λ o. holds is_open o ≡ true → (k ≡ low + suc n) × (suc n < length (b ∷ bs)))
    (λ q h. absurd (open_not_over b h f.0))
    (λ q h.
    let later = open_at_front k (low + 1) n bs parts.1 f.1 h (and_parts (nat_le k b.bid || (b.aborted || is_settled b.stage)) (is_next_to_commit k bs) nx).1 in
    (omega (arith, later.0), omega (arith, later.1)))
    op

pub next_is_front : (k base front : ℕ) (bs : List Batch) → bids_of bs ≡ from (base + 1) (length bs) → IsFrontCount front (standings_of bs) → is_next_open k bs ≡ true → (k ≡ base + 1 + front) × (front < length bs)
next_is_front k base front bs e f h =
    let parts = holds_parts (is_next_to_commit k bs) (batch_of k bs) h in
    open_at_front k (base + 1) front bs e f parts.0 parts.1

open_do_not_commit : (k : ℕ) (bs : List Batch) → AllByRecursion IsOpen (standings_of bs) → awaits_settling k bs ≡ true → ⊥
open_do_not_commit k [] h s = false≢true s
open_do_not_commit k (b ∷ bs) h s =
    cond_both (b.bid == k) (Some b) (batch_of k bs) (λ o. holds (λ b. is_committing b.stage && not b.aborted) o ≡ true → ⊥)
    (λ q g. formed_not_committing b.stage h.0.1 (and_parts (is_committing b.stage) (not b.aborted) g).0)
    (λ q g. open_do_not_commit k bs h.1 g)
    s

committing_at_front : (k low front : ℕ) (bs : List Batch) → bids_of bs ≡ from low (length bs) → IsFrontCount front (standings_of bs) → awaits_settling k bs ≡ true → (k ≡ low + front) × (front < length bs)
committing_at_front k low front [] e f s = absurd (false≢true s)
committing_at_front k low zero (b ∷ bs) e f s =
    let parts = cons_parts b.bid low (bids_of bs) (from (low + 1) (length bs)) e in
    cond_both (b.bid == k) (Some b) (batch_of k bs) (λ o. holds (λ b. is_committing b.stage && not b.aborted) o ≡ true → (k ≡ low + zero) × (zero < length (b ∷ bs)))
    (λ q h. (omega (arith, parts.0, eqb-true b.bid k q), omega arith))
    (λ q h. absurd (open_do_not_commit k bs f.1 h))
    s
committing_at_front k low (suc n) (b ∷ bs) e f s =
    let parts = cons_parts b.bid low (bids_of bs) (from (low + 1) (length bs)) e in
    cond_both (b.bid == k) (Some b) (batch_of k bs) (λ o. holds (λ b. is_committing b.stage && not b.aborted) o ≡ true → (k ≡ low + suc n) × (suc n < length (b ∷ bs)))
    (λ q h.
    let both = and_parts (is_committing b.stage) (not b.aborted) h in
    absurd (not_over b (not-true b.aborted both.1) (committing_not_settled b.stage both.0) f.0))
    (λ q h.
    let later = committing_at_front k (low + 1) n bs parts.1 f.1 h in
    (omega (arith, later.0), omega (arith, later.1)))
    s

pub settling_is_front : (k base front : ℕ) (bs : List Batch) → bids_of bs ≡ from (base + 1) (length bs) → IsFrontCount front (standings_of bs) → awaits_settling k bs ≡ true → (k ≡ base + 1 + front) × (front < length bs)
settling_is_front k base front bs e f s = committing_at_front k (base + 1) front bs e f s

-- ---- the front after a batch joined, began to commit, settled, or took the rest along

open_joined : (b : Batch) (xs : List Batch) → IsOpen (batch_standing b) → AllByRecursion IsOpen (standings_of xs) → AllByRecursion IsOpen (standings_of (xs ++ b ∷ []))
open_joined b [] o h = (o, tt)
open_joined b (x ∷ xs) o h = (h.0, open_joined b xs o h.1)

pub front_joined : (front : ℕ) (b : Batch) (bs : List Batch) → IsOpen (batch_standing b) → IsFrontCount front (standings_of bs) → IsFrontCount front (standings_of (bs ++ b ∷ []))
front_joined zero b [] o f = ((o.0, formed_not_settled b.stage o.1), tt)
front_joined (suc n) b [] o f = absurd f
front_joined zero b (x ∷ xs) o f = (f.0, open_joined b xs o f.1)
front_joined (suc n) b (x ∷ xs) o f = (f.0, front_joined n b xs o f.1)

pub front_committing : (front : ℕ) (d : Batch) (bs : List Batch) → front < length bs → IsFrontCount front (standings_of bs) → IsFrontCount front (standings_of (slice_set bs front (with_stage stages.Committing (slice_index_or bs front d))))
front_committing front d [] l f = absurd (omega arith)
front_committing zero d (b ∷ bs) l f = ((f.0.0, refl), f.1)
front_committing (suc n) d (b ∷ bs) l f = (f.0, front_committing n d bs (omega arith) f.1)

pub front_settled : (front : ℕ) (d : Batch) (bs : List Batch) → front < length bs → IsFrontCount front (standings_of bs) → IsFrontCount (suc front) (standings_of (slice_set bs front (with_stage stages.Settled (slice_index_or bs front d))))
front_settled front d [] l f = absurd (omega arith)
front_settled zero d (b ∷ bs) l f = (or_right b.aborted true refl, front_of_open bs f.1)
front_settled (suc n) d (b ∷ bs) l f = (f.0, front_settled n d bs (omega arith) f.1)

all_taken : (k low : ℕ) (bs : List Batch) → bids_of bs ≡ from low (length bs) → k ≤ low → IsFrontCount (length bs) (standings_of (map (taken k) bs))
all_taken k low [] e l = tt
all_taken k low (b ∷ bs) e l =
    let parts = cons_parts b.bid low (bids_of bs) (from (low + 1) (length bs)) e in
    (or_left (b.aborted || nat_le k b.bid) (is_settled b.stage) (or_right b.aborted (nat_le k b.bid) (le-leb k b.bid (omega (arith, parts.0)))), all_taken k (low + 1) bs parts.1 (omega arith))

still_over : (a c s : Bool) → (a || s) ≡ true → ((a || c) || s) ≡ true
still_over true c s h = refl
still_over false c s h = or_right c s h

front_taken_from : (k low front : ℕ) (bs : List Batch) → bids_of bs ≡ from low (length bs) → IsFrontCount front (standings_of bs) → k ≡ low + front → IsFrontCount (length bs) (standings_of (map (taken k) bs))
front_taken_from k low zero [] e f q = tt
front_taken_from k low (suc n) [] e f q = absurd f
front_taken_from k low zero (b ∷ bs) e f q = all_taken k low (b ∷ bs) e (omega arith)
front_taken_from k low (suc n) (b ∷ bs) e f q =
    let parts = cons_parts b.bid low (bids_of bs) (from (low + 1) (length bs)) e in
    (still_over b.aborted (nat_le k b.bid) (is_settled b.stage) f.0, front_taken_from k (low + 1) n bs parts.1 f.1 (omega arith))

pub front_taken : (k base front : ℕ) (bs : List Batch) → bids_of bs ≡ from (base + 1) (length bs) → IsFrontCount front (standings_of bs) → k ≡ base + 1 + front → IsFrontCount (length bs) (standings_of (map (taken k) bs))
front_taken k base front bs e f q = front_taken_from k (base + 1) front bs e f q

-- ---- what an abort changes: the batches from the front on

taken_is_gone : (k : ℕ) (b : Batch) → k ≤ b.bid → taken k b ≡ gone b
taken_is_gone k b l = ap (λ v. record b { aborted = v }) (or_right b.aborted (nat_le k b.bid) (le-leb k b.bid l))

taken_stays : (k : ℕ) (b : Batch) → b.bid < k → taken k b ≡ b
taken_stays k b l = ap (λ v. record b { aborted = v }) (or_only b.aborted (nat_le k b.bid) (lt-leb k b.bid l))

all_gone : (k low : ℕ) (bs : List Batch) → bids_of bs ≡ from low (length bs) → k ≤ low → map (taken k) bs ≡ map gone bs
all_gone k low [] e l = refl
all_gone k low (b ∷ bs) e l =
    let parts = cons_parts b.bid low (bids_of bs) (from (low + 1) (length bs)) e in
    cons_same (taken k b) (gone b) (map (taken k) bs) (map gone bs) (taken_is_gone k b (omega (arith, parts.0))) (all_gone k (low + 1) bs parts.1 (omega arith))

pub taken_split : (k low n : ℕ) (bs : List Batch) → bids_of bs ≡ from low (length bs) → k ≡ low + n → map (taken k) bs ≡ take n bs ++ map gone (drop n bs)
taken_split k low zero bs e q = all_gone k low bs e (omega arith)
taken_split k low (suc n) [] e q = refl
taken_split k low (suc n) (b ∷ bs) e q =
    let parts = cons_parts b.bid low (bids_of bs) (from (low + 1) (length bs)) e in
    cons_same (taken k b) b (map (taken k) bs) (take n bs ++ map gone (drop n bs)) (taken_stays k b (omega (arith, parts.0))) (taken_split k (low + 1) n bs parts.1 (omega arith))
