-- How many events may still come, at most: a number computed from a state.
use Rattle.std.specs.Prelude.{ℕ, zero, suc, ◌+◌, ◌-◌, ◌*◌, Bool, true, false, not, ◌||◌, List, [], ◌∷◌, length, map}
use Rattle.std.specs.List.{list_all}
pub use Rattle.snap_base.specs.Numbers.{total}
use Rattle.protocol.specs.Fixed.{Fixed, Code, Next, Go, Ended}
use Rattle.protocol.specs.Parts.{Ring, Status, Live, Doomed, Decided, Sealed, Joined, Act, SubBatch, ControlMessage, Stage, Formed, Committing, Settled, Declared, Batch, Log, Slot, Entry, BatchEntry, ActEntry, Waiting, Outcome, Cell, Machine}
use Rattle.protocol.specs.Words.{is_empty, is_among}
use Rattle.protocol.specs.Conditions.{is_idle, epoch}

-- ---- words

abbrev pub unless : Bool → ℕ → ℕ
unless true n = 0
unless false n = n

-- ---- the ring

-- something waits at a coordinator from this one on
abbrev pub busy_from : ℕ → List (List ℕ) → Bool
busy_from n [] = false
busy_from zero (q ∷ qs) = not (list_all is_empty (q ∷ qs))
busy_from (suc n) (q ∷ qs) = busy_from n qs

-- the token's way to a coordinator that has something to do, at most
abbrev pub way : ℕ → Ring → ℕ
way c r = unless (is_idle r) ((c - 1 - r.holder) + unless (busy_from r.holder r.pacts || busy_from r.holder r.acts) c)

abbrev pub ring_left : {C : Type 0} → Fixed C → Ring → ℕ
ring_left w r = 927 * (length w.text.txs - r.next_tx) + (910 * (total length r.pacts + total length r.acts) + way w.text.coordinators r)

-- ---- the book

abbrev pub status_left : Status → ℕ
status_left Live = 3
status_left (Doomed v) = 0
status_left (Decided c) = 1
status_left (Sealed c) = 0

abbrev pub joined_left : Joined → ℕ
joined_left p = unless p.prepared 2 + (unless p.vouched 1 + unless p.finished 1)

abbrev pub act_left : Act → ℕ
act_left x = status_left x.status + total joined_left x.places

-- ---- controls

-- what a visit may cost: an ACT's may bring one more actor
abbrev pub visit : Bool → ℕ
visit true = 7
visit false = 3

-- the visits that are left behind this one
abbrev pub rest : {C : Type 0} → Code C → C → ℕ
rest code c = code.visits_left c - 1

-- tids are those of the ACTs
abbrev pub control_left : {C : Type 0} → Code C → List ℕ → ControlMessage C → ℕ
control_left code tids m = visit (is_among m.tid tids) * (rest code m.control + 1)

abbrev pub waiting_left : {C : Type 0} → Code C → List ℕ → Waiting C → ℕ
waiting_left code tids x = visit (is_among x.tid tids) * rest code x.control + 2

abbrev pub next_left : {C : Type 0} → Code C → ℕ → Next C → ℕ
next_left code v (Go b d) = v * (rest code d + 1) + 1
next_left code v (Ended r) = 1

abbrev pub outcome_left : {C : Type 0} → Code C → List ℕ → Outcome C → ℕ
outcome_left code tids x = next_left code (visit (is_among x.tid tids)) x.next

-- ---- batches

abbrev pub sub_left : SubBatch → ℕ
sub_left m = length m.tids + 3

abbrev pub slot_left : Slot → ℕ
slot_left s = unless s.done 1

abbrev pub entry_left : Entry → ℕ
entry_left (BatchEntry b) = unless b.complete 2 + total slot_left b.slots
entry_left (ActEntry x) = 0

-- a batch that is formed may have to be rolled back on each actor
abbrev pub stage_left : Stage → ℕ
stage_left Formed = 260
stage_left Committing = 1
stage_left Settled = 0

abbrev pub declared_left : Declared → ℕ
declared_left p = unless p.noted 1 + unless p.trimmed 1

abbrev pub batch_left : Batch → ℕ
batch_left b = unless b.aborted (stage_left b.stage) + total declared_left b.places

-- ---- replies, logs, cells

abbrev pub reply_left : Bool → ℕ
reply_left r = unless r 1

abbrev pub log_left : Log → ℕ
log_left g = length g.records - g.synced

abbrev pub cell_left : {C : Type 0} → Code C → List ℕ → ℕ → Cell C → ℕ
cell_left code tids e c = (e - c.epoch) + (total entry_left c.entries + (total (waiting_left code tids) c.inbox + total (outcome_left code tids) c.outbox))

-- ---- all of it

abbrev pub act_tids : {C : Type 0} → Machine C → List ℕ
act_tids s = map (λ x. x.tid) s.book.acts

abbrev pub left_with_acts : {C : Type 0} → Fixed C → List ℕ → Machine C → ℕ
left_with_acts w tids s =
    ring_left w s.ring + (total act_left s.book.acts
    + (total sub_left s.post.subs + (total (control_left w.code tids) s.post.controls
    + (total batch_left s.desk.batches + (total reply_left s.desk.replied
    + (total log_left s.logs + total (cell_left w.code tids (epoch s.book)) s.cells))))))

abbrev pub left : {C : Type 0} → Fixed C → Machine C → ℕ
left w s = left_with_acts w (act_tids s) s
