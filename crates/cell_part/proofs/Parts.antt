-- A cell from its parts.
use Rattle.std.proofs.Common.{◌≡◌, ℕ, ◌==◌, nat_le, Bool, false, List, [], ◌∷◌, length, refl, ap, ◌∙◌, arith}
use Rattle.std.proofs.lemmas.Bool.{cond-false, cond_both}
use Rattle.hybrid_schedule.specs.Cuts.{staying_below, going_from, cut_from}
use Rattle.hybrid_schedule.specs.Schedules.{is_behind_no_act}
use Rattle.actor_cell.specs.Calls.{undone_from}
use Rattle.cell_part.specs.Cutting.{cut_back}
use Rattle.protocol.specs.CellParts.{Store, HybridSchedule, Boxes, cell_of, cleared, cut_at, with_undone}
use Rattle.protocol.specs.OnCell.{going, staying, rolled_back}
use Rattle.protocol.specs.Parts.{Cascade, Entry, BatchEntry, ActEntry, Waiting, Outcome}
use Rattle.protocol.specs.Words.{ahead, acts_on, is_batch_entry, is_empty}

pub boxes_of : {C : Type 0} {ws vs : List (Waiting C)} {xs ys : List (Outcome C)} → ws ≡ vs → xs ≡ ys
    → ◌≡◌ {A = Boxes C} (record { inbox = ws; outbox = xs }) (record { inbox = vs; outbox = ys })
boxes_of e f = rw (e, f) refl

other : (k n : ℕ) → nat_le k n ≡ false → (n == k) ≡ false
other k n e = grind (arith, e)

-- of what stays below a batch, all is ahead of it
pub all_ahead : (k : ℕ) (es : List Entry) → ahead (is_batch_entry k) (staying_below k es) ≡ staying_below k es
all_ahead k [] = refl
all_ahead k (ActEntry x ∷ es) = ap (λ rest. ActEntry x ∷ rest) (all_ahead k es)
all_ahead k (BatchEntry b ∷ es) =
    let rest = all_ahead k es in
    cond_both (nat_le k b.bid) [] (BatchEntry b ∷ staying_below k es) (λ o. ahead (is_batch_entry k) o ≡ o) (λ e. refl)
    (λ e. cond-false (b.bid == k) [] (BatchEntry b ∷ ahead (is_batch_entry k) (staying_below k es)) (other k b.bid e) ∙ ap (λ es. BatchEntry b ∷ es) rest)

-- equal parts make one cell
cells_of : {C : Type 0} {s s' : Store} {h h' : HybridSchedule} {b b' : Boxes C} → s ≡ s' → h ≡ h' → b ≡ b' → cell_of s h b ≡ cell_of s' h' b'
cells_of store schedule boxes = rw (store, schedule, boxes) refl

-- whether ACTs are undone may be asked of the schedule once it is cut
pub cell_cut : {C : Type 0} (k epoch : ℕ) (acts : Bool) (s s' : Store) (h h' : HybridSchedule) (b b' : Boxes C)
    → b' ≡ cleared (going_from k h.entries) b → h' ≡ cut_from k epoch h → acts ≡ is_behind_no_act k h'.entries → s' ≡ undone_from k acts s
    → cell_of s' h' b' ≡ cut_back k epoch (cell_of s h b)
cell_cut k epoch acts s s' h h' b b' boxes schedule told store =
    let all : acts ≡ is_empty (acts_on (staying_below k h.entries)) =
    told ∙ ap (λ x. is_behind_no_act k x.entries) schedule ∙ ap (λ es. is_empty (acts_on es)) (all_ahead k h.entries) in
    cells_of (store ∙ ap (λ o. undone_from k o s) all) schedule boxes

-- a cut at the first aborted batch is the machine's rollback
pub cut_is_rollback : {C : Type 0} (cascades : List Cascade) (k epoch : ℕ) (s : Store) (h : HybridSchedule) (b : Boxes C)
    → epoch ≡ length cascades → cut_from k (length cascades) h ≡ cut_at cascades h → going_from k h.entries ≡ going cascades h.entries
    → undone_from k (is_empty (acts_on (staying cascades h.entries))) s ≡ with_undone (going cascades h.entries) s
    → cut_back k epoch (cell_of s h b) ≡ rolled_back cascades (cell_of s h b)
cut_is_rollback cascades k epoch s h b seen cut gone undone =
    let stays : staying_below k h.entries ≡ staying cascades h.entries = ap (λ x. x.entries) cut in
    cells_of (ap (λ es. undone_from k (is_empty (acts_on es)) s) stays ∙ undone) (ap (λ n. cut_from k n h) seen ∙ cut) (ap (λ es. cleared es b) gone)
