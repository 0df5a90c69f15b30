-- Batches that are numbered one after another: who has a number, and what a change of that one leaves.
use Rattle.std.proofs.Common.{◌≡◌, ℕ, zero, suc, ◌+◌, ◌<◌, ◌≤◌, ◌==◌, Bool, true, false, Some, None, List, [], ◌∷◌, length, refl, ap, ◌∙◌, arith}
use Rattle.std.specs.Prelude.{slice_get, slice_set, slice_index_or}
use Rattle.std.proofs.lemmas.Bool.{eq-eqb, ne_eqb, cond-true, cond-false}
use Rattle.std.proofs.lemmas.Option.{slice_get_past}
use Rattle.snap_base.proofs.Lists.{set_outside}
use Rattle.protocol.specs.Parts as stages
use Rattle.protocol.specs.Parts.{Batch}
use Rattle.protocol.specs.Words.{batch_of}
use Rattle.protocol.specs.OnDesk.{change_if, changed_batch}
use Rattle.protocol.specs.Numbers.{from}
use Rattle.batch_table.specs.Joining.{bids_of}
use Rattle.batch_table.specs.Places.{IsPlaceOfBatch, IsNowhere}

-- ---- shapes

pub cons_parts : {X : Type 0} (x y : X) (xs ys : List X) → x ∷ xs ≡ y ∷ ys → (x ≡ y) × (xs ≡ ys)
cons_parts x y xs ys e = (cc, cc)

pub cons_same : {X : Type 0} (x y : X) (xs ys : List X) → x ≡ y → xs ≡ ys → x ∷ xs ≡ y ∷ ys
cons_same x y xs ys e f = cc

pub change_where : (c : Bool) (f : Batch → Batch) (b : Batch) → c ≡ true → change_if c f b ≡ f b
change_where c f b e = ap (λ v. change_if v f b) e

pub change_not : (c : Bool) (f : Batch → Batch) (b : Batch) → c ≡ false → change_if c f b ≡ b
change_not c f b e = ap (λ v. change_if v f b) e

-- ---- a number below the first is nobody's

pub missing_below : (k low : ℕ) (bs : List Batch) → bids_of bs ≡ from low (length bs) → k < low → batch_of k bs ≡ None
missing_below k low [] e l = refl
missing_below k low (b ∷ bs) e l =
    let parts = cons_parts b.bid low (bids_of bs) (from (low + 1) (length bs)) e in
    let other : (b.bid == k) ≡ false = ne_eqb b.bid k (λ q. omega (arith, parts.0)) in
    cond-false (b.bid == k) (Some b) (batch_of k bs) other ∙ missing_below k (low + 1) bs parts.1 (omega arith)

pub unchanged_below : (f : Batch → Batch) (k low : ℕ) (bs : List Batch) → bids_of bs ≡ from low (length bs) → k < low → changed_batch k f bs ≡ bs
unchanged_below f k low [] e l = refl
unchanged_below f k low (b ∷ bs) e l =
    let parts = cons_parts b.bid low (bids_of bs) (from (low + 1) (length bs)) e in
    let other : (b.bid == k) ≡ false = ne_eqb b.bid k (λ q. omega (arith, parts.0)) in
    cons_same (change_if (b.bid == k) f b) b (changed_batch k f bs) bs (change_not (b.bid == k) f b other) (unchanged_below f k (low + 1) bs parts.1 (omega arith))

-- ---- the others are those of their places

pub found_at_place : (k low i : ℕ) (bs : List Batch) → bids_of bs ≡ from low (length bs) → k ≡ low + i → batch_of k bs ≡ slice_get bs i
found_at_place k low i [] e q = refl
found_at_place k low zero (b ∷ bs) e q =
    let parts = cons_parts b.bid low (bids_of bs) (from (low + 1) (length bs)) e in
    cond-true (b.bid == k) (Some b) (batch_of k bs) (eq-eqb b.bid k (omega (arith, parts.0)))
found_at_place k low (suc i) (b ∷ bs) e q =
    let parts = cons_parts b.bid low (bids_of bs) (from (low + 1) (length bs)) e in
    let other : (b.bid == k) ≡ false = ne_eqb b.bid k (λ p. omega (arith, parts.0)) in
    cond-false (b.bid == k) (Some b) (batch_of k bs) other ∙ found_at_place k (low + 1) i bs parts.1 (omega arith)

pub changed_at_place : (f : Batch → Batch) (d : Batch) (k low i : ℕ) (bs : List Batch) → bids_of bs ≡ from low (length bs) → k ≡ low + i → changed_batch k f bs ≡ slice_set bs i (f (slice_index_or bs i d))
changed_at_place f d k low i [] e q = refl
changed_at_place f d k low zero (b ∷ bs) e q =
    let parts = cons_parts b.bid low (bids_of bs) (from (low + 1) (length bs)) e in
    cons_same (change_if (b.bid == k) f b) (f b) (changed_batch k f bs) bs (change_where (b.bid == k) f b (eq-eqb b.bid k (omega (arith, parts.0)))) (unchanged_below f k (low + 1) bs parts.1 (omega arith))
changed_at_place f d k low (suc i) (b ∷ bs) e q =
    let parts = cons_parts b.bid low (bids_of bs) (from (low + 1) (length bs)) e in
    let other : (b.bid == k) ≡ false = ne_eqb b.bid k (λ p. omega (arith, parts.0)) in
    cons_same (change_if (b.bid == k) f b) b (changed_batch k f bs) (slice_set bs i (f (slice_index_or bs i d))) (change_not (b.bid == k) f b other) (changed_at_place f d k (low + 1) i bs parts.1 (omega arith))

-- ---- both together

pub is_place : (k base i : ℕ) (bs : List Batch) → bids_of bs ≡ from (base + 1) (length bs) → i < length bs → k ≡ base + 1 + i → IsPlaceOfBatch k i bs
is_place k base i bs e l q = record {
  within = l;
  found = found_at_place k (base + 1) i bs e q;
  changed = λ f d. changed_at_place f d k (base + 1) i bs e q;
}

pub nowhere_below : (k base : ℕ) (bs : List Batch) → bids_of bs ≡ from (base + 1) (length bs) → k ≤ base → IsNowhere k bs
nowhere_below k base bs e l = record {
  missing = missing_below k (base + 1) bs e (omega arith);
  unchanged = λ f. unchanged_below f k (base + 1) bs e (omega arith);
}

pub no_batch : Batch
no_batch = record { bid = 0; places = []; pacts = []; stage = stages.Formed; aborted = false }

pub nowhere_above : (k base i : ℕ) (bs : List Batch) → bids_of bs ≡ from (base + 1) (length bs) → length bs ≤ i → k ≡ base + 1 + i → IsNowhere k bs
nowhere_above k base i bs e l q = record {
  missing = found_at_place k (base + 1) i bs e q ∙ slice_get_past bs i l;
  unchanged = λ f. changed_at_place f no_batch k (base + 1) i bs e q ∙ set_outside bs i (f (slice_index_or bs i no_batch)) l;
}
