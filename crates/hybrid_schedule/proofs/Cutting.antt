-- A schedule that is cut at a batch.
use Rattle.std.proofs.Common.{◌≡◌, ℕ, ◌≤◌, max, true, false, List, [], ◌∷◌, length, take, drop, refl, sym, ap, ◌∙◌, arith}
use Rattle.std.specs.Prelude.{if◌then◌else◌}
use Rattle.protocol.specs.Cutting.{AreAbortedFrom}
use Rattle.protocol.specs.Parts.{Cascade, Entry, BatchEntry, ActEntry}
use Rattle.protocol.specs.Words.{is_aborted, batches_on, greatest}
use Rattle.protocol.specs.OnCell.{staying, going}
use Rattle.protocol.specs.CellParts.{HybridSchedule, cut_at}
use Rattle.hybrid_schedule.specs.Cuts.{is_batch_from, staying_below, going_from, cut_from}

-- what stays is as many entries as it has
pub staying_is_front : (k : ℕ) (es : List Entry) → take (length (staying_below k es)) es ≡ staying_below k es
staying_is_front k [] = refl
staying_is_front k (e ∷ es) =
    let step = staying_is_front k es in
    elim (is_batch_from k e) as (λ b. take (length (if b then [] else e ∷ staying_below k es)) (e ∷ es) ≡ (if b then [] else e ∷ staying_below k es))
    [ true ↦ refl | false ↦ ap (λ xs. e ∷ xs) step ]

-- and what goes is the rest
pub going_is_rest : (k : ℕ) (es : List Entry) → drop (length (staying_below k es)) es ≡ going_from k es
going_is_rest k [] = refl
going_is_rest k (e ∷ es) =
    let step = going_is_rest k es in
    elim (is_batch_from k e) as (λ b. drop (length (if b then [] else e ∷ staying_below k es)) (e ∷ es) ≡ (if b then e ∷ es else going_from k es))
    [ true ↦ refl | false ↦ step ]

pub staying_fits : (k : ℕ) (es : List Entry) → length (staying_below k es) ≤ length es
staying_fits k [] = omega arith
staying_fits k (e ∷ es) =
    let step = staying_fits k es in
    elim (is_batch_from k e) as (λ b. length (if b then [] else e ∷ staying_below k es) ≤ length (e ∷ es))
    [ true ↦ omega arith | false ↦ omega (arith, step) ]

pub staying_by_number : (cascades : List Cascade) (k : ℕ) (es : List Entry) → AreAbortedFrom k cascades es → staying_below k es ≡ staying cascades es
staying_by_number cascades k [] h = refl
staying_by_number cascades k (BatchEntry b ∷ es) h =
    ap (λ t. if t then [] else BatchEntry b ∷ staying_below k es) (sym h.0)
    ∙ ap (λ rest. if is_aborted b.bid cascades then [] else BatchEntry b ∷ rest) (staying_by_number cascades k es h.1)
staying_by_number cascades k (ActEntry x ∷ es) h = ap (λ rest. ActEntry x ∷ rest) (staying_by_number cascades k es h)

pub going_by_number : (cascades : List Cascade) (k : ℕ) (es : List Entry) → AreAbortedFrom k cascades es → going_from k es ≡ going cascades es
going_by_number cascades k [] h = refl
going_by_number cascades k (BatchEntry b ∷ es) h =
    ap (λ t. if t then BatchEntry b ∷ es else going_from k es) (sym h.0)
    ∙ ap (λ rest. if is_aborted b.bid cascades then BatchEntry b ∷ es else rest) (going_by_number cascades k es h.1)
going_by_number cascades k (ActEntry x ∷ es) h = going_by_number cascades k es h

-- a schedule whose batches these stay, of this epoch
abbrev pub left_with : ℕ → HybridSchedule → List Entry → HybridSchedule
left_with epoch h entries = record { epoch = epoch; last = max h.last_trimmed (greatest (batches_on entries)); last_trimmed = h.last_trimmed; tail = 0; entries = entries }

pub cut_by_number : (cascades : List Cascade) (k : ℕ) (h : HybridSchedule) → AreAbortedFrom k cascades h.entries → cut_from k (length cascades) h ≡ cut_at cascades h
cut_by_number cascades k h all = ap (left_with (length cascades) h) (staying_by_number cascades k h.entries all)
