-- Batches whose tids ascend: the one that a tid can be in.
use Rattle.std.proofs.Common.{◌≡◌, ℕ, zero, suc, ◌+◌, ◌<◌, ◌≤◌, true, false, None, List, [], ◌∷◌, length, map, refl, ap, sym, ◌∙◌, arith}
use Rattle.std.specs.Prelude.{slice_set, slice_index_or, nat_le}
use Rattle.std.specs.List.{AllByRecursion}
use Rattle.std.specs.List.Sorted.{IsPartitionedBy, IsPartitionPoint}
use Rattle.std.proofs.lemmas.Bool.{cond-false, cond_both, leb-true, leb-false}
use Rattle.std.proofs.lemmas.List.Sorted.{IsPartitionedBy-leb}
use Rattle.snap_base.specs.declared.transactions.TxResult.{TxResult}
use Rattle.protocol.specs.Parts.{Batch}
use Rattle.protocol.specs.Words.{names_pact, result_among, pact_result}
use Rattle.protocol.specs.OnDesk.{with_results}
use Rattle.batch_table.specs.Joining.{pact_tids, batch_tids, first_or_zero}
use Rattle.batch_table.specs.Listed.{tx_named, pact_tx}
use Rattle.batch_table.specs.Places.{IsPlaceOfTid, IsTidNowhere}
use Rattle.batch_table.specs.Sound.{TidsAscend}
use Rattle.batch_table.proofs.ByNumber.{cons_same}
use Rattle.batch_table.proofs.EndedPacts.{AreWithout, below_without, above_without, without_names, unnamed_result, unnamed_tx, batch_unnoted}

abbrev pub first_tid : Batch → ℕ
first_tid b = first_or_zero (pact_tids b.pacts)

-- ---- batches without the tid

abbrev pub AllWithout : ℕ → List Batch → Type 0
AllWithout t bs = AllByRecursion (λ b. AreWithout t b.pacts) bs

pub rest_without : (t low : ℕ) (bs : List Batch) → TidsAscend low (batch_tids bs) → t < low → AllWithout t bs
rest_without t low [] h l = tt
rest_without t low (b ∷ bs) h l =
    (below_without t (first_tid b) b.pacts h.2 (omega (arith, h.0)), rest_without t (first_tid b + length (pact_tids b.pacts)) bs h.3 (omega (arith, h.0)))

pub all_unnoted : (t : ℕ) (r : TxResult) (bs : List Batch) → AllWithout t bs → map (with_results t r) bs ≡ bs
all_unnoted t r [] h = refl
all_unnoted t r (b ∷ bs) h = cons_same (with_results t r b) b (map (with_results t r) bs) bs (batch_unnoted t r b h.0) (all_unnoted t r bs h.1)

pub no_result : (t : ℕ) (bs : List Batch) → AllWithout t bs → pact_result t bs ≡ None
no_result t [] h = refl
no_result t (b ∷ bs) h = cond-false (names_pact t b) (result_among t b.pacts) (pact_result t bs) (without_names t b.pacts h.0) ∙ no_result t bs h.1

pub no_tx : (t : ℕ) (bs : List Batch) → AllWithout t bs → pact_tx t bs ≡ None
no_tx t [] h = refl
no_tx t (b ∷ bs) h = cond-false (names_pact t b) (tx_named t b.pacts) (pact_tx t bs) (without_names t b.pacts h.0) ∙ no_tx t bs h.1

-- ---- first tids ascend

pub first_at_least : (low n : ℕ) (d : Batch) (bs : List Batch) → TidsAscend low (batch_tids bs) → n < length bs → low ≤ first_tid (slice_index_or bs n d)
first_at_least low n d [] h l = absurd (omega arith)
first_at_least low zero d (b ∷ bs) h l = h.0
first_at_least low (suc n) d (b ∷ bs) h l =
    let later = first_at_least (first_tid b + length (pact_tids b.pacts)) n d bs h.3 (omega arith) in omega (arith, later, h.0)

pub firsts_rise : (low i j : ℕ) (d : Batch) (bs : List Batch) → TidsAscend low (batch_tids bs) → i ≤ j → j < length bs → first_tid (slice_index_or bs i d) ≤ first_tid (slice_index_or bs j d)
firsts_rise low i j d [] h le l = absurd (omega arith)
firsts_rise low zero zero d (b ∷ bs) h le l = omega arith
firsts_rise low zero (suc j) d (b ∷ bs) h le l =
    let later = first_at_least (first_tid b + length (pact_tids b.pacts)) j d bs h.3 (omega arith) in omega (arith, later)
firsts_rise low (suc i) zero d (b ∷ bs) h le l = absurd (omega arith)
firsts_rise low (suc i) (suc j) d (b ∷ bs) h le l = firsts_rise (first_tid b + length (pact_tids b.pacts)) i j d bs h.3 (omega arith) (omega arith)

pub firsts_part : (low t : ℕ) (bs : List Batch) → TidsAscend low (batch_tids bs) → IsPartitionedBy (λ b. nat_le (first_tid b) t) bs
firsts_part low t bs h = IsPartitionedBy-leb first_tid bs t (λ i j d le l. firsts_rise low i j d bs h le l)

-- ---- the place of a tid

-- behind the batch whose first tid is the last that is not above it, nobody has it
behind_without : (t low : ℕ) (d : Batch) (bs : List Batch) → TidsAscend low (batch_tids bs) → (0 < length bs → t < first_tid (slice_index_or bs 0 d)) → AllWithout t bs
behind_without t low d [] h above = tt
behind_without t low d (b ∷ bs) h above = rest_without t (first_tid b) (b ∷ bs) (omega arith, h.1, h.2, h.3) (above (omega arith))

pub tid_nowhere : (t low : ℕ) (d : Batch) (bs : List Batch) → TidsAscend low (batch_tids bs) → (0 < length bs → t < first_tid (slice_index_or bs 0 d)) → IsTidNowhere t bs
tid_nowhere t low d bs h above =
    let w = behind_without t low d bs h above in
    record { result = no_result t bs w; tx = no_tx t bs w; noted = λ r. all_unnoted t r bs w }

first_result : (t : ℕ) (b : Batch) (bs : List Batch) → AllWithout t bs → pact_result t (b ∷ bs) ≡ result_among t b.pacts
first_result t b bs w =
    cond_both (names_pact t b) (result_among t b.pacts) (pact_result t bs) (λ x. x ≡ result_among t b.pacts) (λ e. refl) (λ e. no_result t bs w ∙ sym (unnamed_result t b.pacts e))

first_tx : (t : ℕ) (b : Batch) (bs : List Batch) → AllWithout t bs → pact_tx t (b ∷ bs) ≡ tx_named t b.pacts
first_tx t b bs w =
    cond_both (names_pact t b) (tx_named t b.pacts) (pact_tx t bs) (λ x. x ≡ tx_named t b.pacts) (λ e. refl) (λ e. no_tx t bs w ∙ sym (unnamed_tx t b.pacts e))

pub tid_place : (t low n : ℕ) (d : Batch) (bs : List Batch) → TidsAscend low (batch_tids bs) → n < length bs → first_tid (slice_index_or bs n d) ≤ t → (suc n < length bs → t < first_tid (slice_index_or bs (suc n) d)) → IsPlaceOfTid t n bs
tid_place t low n d [] h l at above = absurd (omega arith)
tid_place t low zero d (b ∷ bs) h l at above =
    let w = behind_without t (first_tid b + length (pact_tids b.pacts)) d bs h.3 (λ some. above (omega arith)) in
    record {
      within = l;
      consecutive = λ d. h.2;
      result = λ d. first_result t b bs w;
      tx = λ d. first_tx t b bs w;
      noted = λ r d. ap (λ z. with_results t r b ∷ z) (all_unnoted t r bs w);
    }
tid_place t low (suc n) d (b ∷ bs) h l at above =
    let next = first_at_least (first_tid b + length (pact_tids b.pacts)) n d bs h.3 (omega arith) in
    let w = above_without t (first_tid b) b.pacts h.2 (omega (arith, next)) in
    let p = tid_place t (first_tid b + length (pact_tids b.pacts)) n d bs h.3 (omega arith) at (λ some. above (omega arith)) in
    record {
      within = l;
      consecutive = p.consecutive;
      result = λ d. cond-false (names_pact t b) (result_among t b.pacts) (pact_result t bs) (without_names t b.pacts w) ∙ p.result d;
      tx = λ d. cond-false (names_pact t b) (tx_named t b.pacts) (pact_tx t bs) (without_names t b.pacts w) ∙ p.tx d;
      noted = λ r d. cons_same (with_results t r b) b (map (with_results t r) bs) (slice_set bs n (with_results t r (slice_index_or bs n d))) (batch_unnoted t r b w) (p.noted r d);
    }

-- ---- from where the first tids pass the tid

pub place_from_point : (t low n : ℕ) (bs : List Batch) → TidsAscend low (batch_tids bs) → suc n ≤ length bs
    → IsPartitionPoint (λ b. nat_le (first_tid b) t ≡ true) (λ b. nat_le (first_tid b) t ≡ false) bs (suc n) → (d : Batch) → IsPlaceOfTid t n bs
place_from_point t low n bs h l p d =
    tid_place t low n d bs h (omega arith) (leb-true (first_tid (slice_index_or bs n d)) t (p.0 n d (omega arith) (omega arith)))
    (λ more. leb-false (first_tid (slice_index_or bs (suc n) d)) t (p.1 (suc n) d (omega arith) more))

pub nowhere_from_point : (t low : ℕ) (bs : List Batch) → TidsAscend low (batch_tids bs)
    → IsPartitionPoint (λ b. nat_le (first_tid b) t ≡ true) (λ b. nat_le (first_tid b) t ≡ false) bs 0 → (d : Batch) → IsTidNowhere t bs
nowhere_from_point t low bs h p d =
    tid_nowhere t low d bs h (λ some. leb-false (first_tid (slice_index_or bs 0 d)) t (p.1 0 d (omega arith) some))
