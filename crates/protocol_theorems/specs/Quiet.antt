-- What is used of a state to show that, where no event is allowed in it, all is answered.
use Rattle.std.specs.Prelude.{◌≡◌, ℕ, ◌<◌, ◌≤◌, ◌%◌, ◌==◌, nat_lt, not, Bool, true, false, ◌&&◌, ◌||◌, ◌⊎◌, Some, None, is_some, List, [], ◌∷◌, length, ⊤}
use Rattle.std.specs.List.{AllByRecursion, list_any, list_all}
use Rattle.protocol.specs.Fixed.{Fixed, IsText, base}
use Rattle.protocol.specs.Numbers.{TransactionsInOnePlace}
use Rattle.protocol.specs.Records.{is_info, is_complete, is_commit, is_prepare, is_act_commit}
use Rattle.protocol.specs.Parts.{Act, SubBatch, Batch, PlacedBatch, Entry, BatchEntry, ActEntry, Machine}
use Rattle.protocol.specs.Words.{is_empty, is_among, holds, is_aborted, is_doomed, is_sealed, is_decided, is_live_act, act_of, joined_of, sub_of, control_of, waiting_of, outcome_of, batch_of, declared_of, names_pact, pact_result, is_settled, is_formed, is_committing, is_live_batch, names_slot, batches_on, has_act}
use Rattle.protocol.specs.Conditions.{epoch, is_idle, has_not_left}
use Rattle.protocol.specs.Effects.{cell_at, log_at}
use Rattle.protocol_laws.specs.FromDesk.{is_declared, is_pact_of}
use Rattle.protocol.specs.Facts.{Alone}
use Rattle.protocol.specs.Runs.{IsQuiet}
use Rattle.protocol.specs.History.{History}
use Rattle.snap_base.specs.declared.transactions.State.{State}

-- ---- words

-- an ACT that still has to do something
abbrev pub is_waiting_act : Act → Bool
is_waiting_act x = is_live_act x && not (is_doomed x.status)

abbrev pub IsLiveBatch : {C : Type 0} → Machine C → ℕ → Type 0
IsLiveBatch s k = holds is_live_batch (batch_of k s.desk.batches) ≡ true

-- a control on its way to the actor, or in its inbox
abbrev pub ControlIsAt : {C : Type 0} → ℕ → ℕ → Machine C → Type 0
ControlIsAt t a s = (holds (λ m. m.to == a) (control_of t s.post.controls) ≡ true) ⊎ (is_some (waiting_of t (cell_at s a).inbox) ≡ true)

-- it is somewhere
abbrev pub HasControl : {C : Type 0} → ℕ → Machine C → Type 0
HasControl t s = (a : ℕ) × (a < length s.cells) × (ControlIsAt t a s ⊎ (is_some (outcome_of t (cell_at s a).outbox) ≡ true))

-- along a schedule, an ACT that is not doomed and stands ahead of a batch has a before number below it
abbrev pub BeforeBatches : List Act → List Entry → Type 0
BeforeBatches acts [] = ⊤
BeforeBatches acts (BatchEntry b ∷ es) = BeforeBatches acts es
BeforeBatches acts (ActEntry x ∷ es) = ((k : ℕ) → is_among k (batches_on es) ≡ true → holds (λ y. is_doomed y.status || nat_lt y.m k) (act_of x.tid acts) ≡ true) × BeforeBatches acts es

-- an ACT that stands behind a batch has a before number at least as great
abbrev pub BehindBatches : List Act → List Entry → Type 0
BehindBatches acts [] = ⊤
BehindBatches acts (ActEntry x ∷ es) = BehindBatches acts es
BehindBatches acts (BatchEntry b ∷ es) = ((t : ℕ) (y : Act) → has_act t es ≡ true → act_of t acts ≡ Some y → is_doomed y.status ≡ false → b.bid ≤ y.m) × BehindBatches acts es

-- of two ACTs on a schedule that are not doomed, unless both only read, the one ahead has a smaller before number, or the same
-- and is younger
abbrev pub IsAheadOf : Act → Act → Type 0
IsAheadOf x y = (x.m < y.m) ⊎ ((x.m ≤ y.m) × (y.tid < x.tid))

abbrev pub ActsInOrder : List Act → List Entry → Type 0
ActsInOrder acts [] = ⊤
ActsInOrder acts (BatchEntry b ∷ es) = ActsInOrder acts es
ActsInOrder acts (ActEntry z ∷ es) = ((t : ℕ) (x y : Act) → has_act t es ≡ true → act_of z.tid acts ≡ Some x → act_of t acts ≡ Some y → is_doomed x.status ≡ false → is_doomed y.status ≡ false → (x.reader && y.reader) ≡ false → IsAheadOf x y) × ActsInOrder acts es

-- an entry tells of its ACT whether it only reads
abbrev pub EntriesTell : List Act → List Entry → Type 0
EntriesTell acts [] = ⊤
EntriesTell acts (BatchEntry b ∷ es) = EntriesTell acts es
EntriesTell acts (ActEntry z ∷ es) = ((x : Act) → act_of z.tid acts ≡ Some x → x.reader ≡ z.reader) × EntriesTell acts es

-- each is below all that follow
abbrev pub NumbersRise : List ℕ → Type 0
NumbersRise [] = ⊤
NumbersRise (k ∷ ks) = ((j : ℕ) → is_among j ks ≡ true → k < j) × NumbersRise ks

-- ---- what is used

-- who has a number is found by it
pub record AreFoundByNumber {C : Type 0} (w : Fixed C) (s : Machine C) : Type 0 where
  pub batches : AllByRecursion (λ b. batch_of b.bid s.desk.batches ≡ Some b) s.desk.batches
  pub acts : AllByRecursion (λ x. act_of x.tid s.book.acts ≡ Some x) s.book.acts
  pub declared : (k : ℕ) (b : Batch) → batch_of k s.desk.batches ≡ Some b → AllByRecursion (λ p. (declared_of p.actor b ≡ Some p) × (p.actor < length s.cells)) b.places
  pub joined : (t : ℕ) (x : Act) → act_of t s.book.acts ≡ Some x → AllByRecursion (λ p. joined_of p.actor x ≡ Some p) x.places
  pub results : (k : ℕ) (b : Batch) → batch_of k s.desk.batches ≡ Some b → AllByRecursion (λ p. (pact_result p.tid s.desk.batches ≡ p.result) × (names_pact p.tid b ≡ true)) b.pacts
  pub tids : (t : ℕ) (x : Act) → act_of t s.book.acts ≡ Some x → t < s.ring.next_tid

-- what is marked has its record
pub record MarksAreWritten {C : Type 0} (w : Fixed C) (s : Machine C) : Type 0 where
  pub logs : length s.logs ≡ w.text.logs
  pub info : (k : ℕ) (b : Batch) → batch_of k s.desk.batches ≡ Some b → list_any (is_info k) (log_at s (k % w.text.logs)).records ≡ true
  pub complete : (a : ℕ) (b : PlacedBatch) (es : List Entry) → (cell_at s a).entries ≡ BatchEntry b ∷ es → b.complete ≡ true → list_any (is_complete b.bid a) (log_at s (a % w.text.logs)).records ≡ true
  pub commit : (k : ℕ) (b : Batch) → batch_of k s.desk.batches ≡ Some b → is_committing b.stage ≡ true → list_any (is_commit k) (log_at s (k % w.text.logs)).records ≡ true
  pub prepare : (t : ℕ) (x : Act) → act_of t s.book.acts ≡ Some x → AllByRecursion (λ p. p.prepared ≡ true → list_any (is_prepare t p.actor) (log_at s (p.actor % w.text.logs)).records ≡ true) x.places
  pub act_commit : (t : ℕ) (x : Act) → act_of t s.book.acts ≡ Some x → is_decided x.status ≡ true → list_any (is_act_commit t) (log_at s (t % w.text.logs)).records ≡ true

-- the actor is one of the batch's, and the batch is not trimmed there
abbrev pub is_untrimmed : ℕ → ℕ → List Batch → Bool
is_untrimmed k a batches = holds (λ b. holds (λ p. not p.trimmed) (declared_of a b)) (batch_of k batches)

-- The sub-batch m of batch k is the next one that may come to actor a.
pub record IsNextTo {C : Type 0} (s : Machine C) (k a : ℕ) (m : SubBatch) : Type 0 where
  pub under_way : sub_of k a s.post.subs ≡ Some m
  pub not_aborted : is_aborted k s.book.cascades ≡ false
  -- it is of the present epoch, and so is the actor's cell
  pub of_epoch : m.epoch ≡ epoch s.book
  pub present : (cell_at s a).epoch ≡ epoch s.book
  -- of the smaller batches none but aborted ones are on their way there
  pub first : (j : ℕ) → j < k → is_some (sub_of j a s.post.subs) ≡ true → is_aborted j s.book.cascades ≡ true

-- where batches are
pub record BatchesPlaced {C : Type 0} (w : Fixed C) (s : Machine C) : Type 0 where
  pub marked : (k : ℕ) (b : Batch) → batch_of k s.desk.batches ≡ Some b → b.aborted ≡ is_aborted k s.book.cascades
  -- a cell is not ahead of the cascades, and one that is not behind has no aborted batch
  pub behind : (a : ℕ) → (cell_at s a).epoch ≤ epoch s.book
  pub present : (a k : ℕ) → (cell_at s a).epoch ≡ epoch s.book → is_among k (batches_on (cell_at s a).entries) ≡ true → is_aborted k s.book.cascades ≡ false
  pub rises : (a : ℕ) → NumbersRise (batches_on (cell_at s a).entries)
  -- who is trimmed somewhere is settled, and each has an actor
  pub trimmed : (k : ℕ) (b : Batch) → batch_of k s.desk.batches ≡ Some b → AllByRecursion (λ p. p.trimmed ≡ true → is_settled b.stage ≡ true) b.places
  pub somewhere : (k : ℕ) (b : Batch) → batch_of k s.desk.batches ≡ Some b → is_empty b.places ≡ false
  -- on each of its actors where it is not trimmed it is on its way or on the schedule, and only there
  pub placed : (k a : ℕ) → is_aborted k s.book.cascades ≡ false → is_untrimmed k a s.desk.batches ≡ true → (is_some (sub_of k a s.post.subs) ≡ true) ⊎ (is_among k (batches_on (cell_at s a).entries) ≡ true)
  pub on_way : (k a : ℕ) → is_aborted k s.book.cascades ≡ false → is_some (sub_of k a s.post.subs) ≡ true → is_untrimmed k a s.desk.batches ≡ true
  pub on_schedule : (k a : ℕ) → is_aborted k s.book.cascades ≡ false → is_among k (batches_on (cell_at s a).entries) ≡ true → is_untrimmed k a s.desk.batches ≡ true
  -- who is not settled is of the present epoch, and a sub-batch that is next to an actor names the last batch that came there
  pub epochs : (k a : ℕ) (m : SubBatch) → sub_of k a s.post.subs ≡ Some m → holds (λ b. is_formed b.stage && not b.aborted) (batch_of k s.desk.batches) ≡ true → m.epoch ≡ epoch s.book
  pub next : (k a : ℕ) (m : SubBatch) → IsNextTo s k a m → m.prev ≡ (cell_at s a).tail
  -- all slots are of the batch's PACTs
  pub slots : (a : ℕ) (e : PlacedBatch) (es : List Entry) → (cell_at s a).entries ≡ BatchEntry e ∷ es → AllByRecursion (λ x. is_pact_of x.tid e.bid s.desk.batches ≡ true) e.slots

-- where controls are
pub record ControlsPlaced {C : Type 0} (w : Fixed C) (s : Machine C) : Type 0 where
  pub of_pact : (t k : ℕ) → is_pact_of t k s.desk.batches ≡ true → is_aborted k s.book.cascades ≡ false → pact_result t s.desk.batches ≡ None → HasControl t s
  pub of_act : (t : ℕ) (x : Act) → act_of t s.book.acts ≡ Some x → is_doomed x.status ≡ false → x.result ≡ None → HasControl t s
  -- a PACT's is at an actor that it declares
  pub declared : (t k a : ℕ) → is_pact_of t k s.desk.batches ≡ true → is_aborted k s.book.cascades ≡ false → ControlIsAt t a s → is_declared k a s.desk.batches ≡ true
  pub named : (t a : ℕ) (e : PlacedBatch) (es : List Entry) → is_pact_of t e.bid s.desk.batches ≡ true → is_aborted e.bid s.book.cascades ≡ false → ControlIsAt t a s → (cell_at s a).entries ≡ BatchEntry e ∷ es → names_slot t e ≡ true
  -- an ACT in an inbox has its entry there
  pub entered : (t a : ℕ) (x : Act) → act_of t s.book.acts ≡ Some x → is_some (waiting_of t (cell_at s a).inbox) ≡ true → has_act t (cell_at s a).entries ≡ true

-- where ACTs stand
pub record ActsPlaced {C : Type 0} (w : Fixed C) (s : Machine C) : Type 0 where
  -- who stands on an actor has not left it
  pub stands : (t a : ℕ) → has_act t (cell_at s a).entries ≡ true → has_not_left t a s.book.acts ≡ true
  pub before : (a : ℕ) → (cell_at s a).epoch ≡ epoch s.book → BeforeBatches s.book.acts (cell_at s a).entries
  pub behind : (a : ℕ) → (cell_at s a).epoch ≡ epoch s.book → BehindBatches s.book.acts (cell_at s a).entries
  pub in_order : (a : ℕ) → (cell_at s a).epoch ≡ epoch s.book → ActsInOrder s.book.acts (cell_at s a).entries
  pub tell : (a : ℕ) → EntriesTell s.book.acts (cell_at s a).entries
  -- a before number is base, or a batch's that is not aborted
  pub number : (t : ℕ) (x : Act) → act_of t s.book.acts ≡ Some x → is_doomed x.status ≡ false → (x.m ≤ base w.text) ⊎ (holds (λ b. not b.aborted) (batch_of x.m s.desk.batches) ≡ true)
  pub settled : (k : ℕ) (b : Batch) → batch_of k s.desk.batches ≡ Some b → is_settled b.stage ≡ true → k ≤ s.desk.settled
  -- who is sealed has an actor; who has left all its actors is doomed or sealed
  pub somewhere : (t : ℕ) (x : Act) → act_of t s.book.acts ≡ Some x → is_sealed x.status ≡ true → is_empty x.places ≡ false
  pub over : (t : ℕ) (x : Act) → act_of t s.book.acts ≡ Some x → is_live_act x ≡ false → (is_doomed x.status || is_sealed x.status) ≡ true

pub record Orderly {C : Type 0} (w : Fixed C) (s : Machine C) : Type 0 where
  pub found : AreFoundByNumber w s
  pub written : MarksAreWritten w s
  pub batches : BatchesPlaced w s
  pub controls : ControlsPlaced w s
  pub acts : ActsPlaced w s
  pub some_logs : 1 ≤ w.text.logs

-- where transactions are, and what the ended ones have
pub record Whole {C : Type 0} (w : Fixed C) (s : Machine C) : Type 0 where
  pub text : IsText w.text
  pub once : TransactionsInOnePlace w s
  pub few : s.ring.next_tx ≤ length w.text.txs
  pub replies : length s.desk.replied ≡ length w.text.txs
  pub results : (k : ℕ) (b : Batch) → batch_of k s.desk.batches ≡ Some b → is_settled b.stage ≡ true → AllByRecursion (λ p. is_some p.result ≡ true) b.pacts
  pub sealed : (t : ℕ) (x : Act) → act_of t s.book.acts ≡ Some x → is_sealed x.status ≡ true → is_some x.result ≡ true

-- ---- what is shown

-- each batch is aborted, or settled and trimmed everywhere
abbrev pub is_over_batch : Batch → Bool
is_over_batch b = b.aborted || (is_settled b.stage && list_all (λ p. p.trimmed) b.places)

-- each ACT is doomed or sealed, and has left all its actors
abbrev pub is_over_act : Act → Bool
is_over_act x = (is_doomed x.status || is_sealed x.status) && list_all (λ p. p.finished) x.places

pub record AllAnswered {C : Type 0} (w : Fixed C) (s : Machine C) : Type 0 where
  pub submitted : s.ring.next_tx ≡ length w.text.txs
  pub queues : is_idle s.ring ≡ true
  pub replied : list_all (λ r. r) s.desk.replied ≡ true
  pub batches : list_all is_over_batch s.desk.batches ≡ true
  pub acts : list_all is_over_act s.book.acts ≡ true
  pub synced : (l : ℕ) → l < length s.logs → length (log_at s l).records ≤ (log_at s l).synced
  pub subs : s.post.subs ≡ []
  pub outboxes : (a : ℕ) → a < length s.cells → (cell_at s a).outbox ≡ []
  pub entries : (a : ℕ) → a < length s.cells → (cell_at s a).entries ≡ []

-- no control is on its way or waits at an actor
pub record NoControls {C : Type 0} (s : Machine C) : Type 0 where
  pub posted : s.post.controls ≡ []
  pub inboxes : (a : ℕ) → a < length s.cells → (cell_at s a).inbox ≡ []

-- where no event is allowed, all is answered
abbrev pub AnsweredWhenQuiet : {C : Type 0} → Fixed C → (C → List State → Alone) → Machine C → History → Type 0
AnsweredWhenQuiet w finish s h = IsQuiet w s → AllAnswered w s × NoControls s

-- ---- what is used of ACTs and controls

pub record StillOwed {C : Type 0} (w : Fixed C) (s : Machine C) : Type 0 where
  -- an ACT joins an actor once
  pub joined : (t : ℕ) (x : Act) → act_of t s.book.acts ≡ Some x → AllByRecursion (λ p. joined_of p.actor x ≡ Some p) x.places
  pub controls : ControlsPlaced w s
  -- ACTs
  pub stands : (t a : ℕ) → has_act t (cell_at s a).entries ≡ true → has_not_left t a s.book.acts ≡ true
  pub before : (a : ℕ) → (cell_at s a).epoch ≡ epoch s.book → BeforeBatches s.book.acts (cell_at s a).entries
  pub behind : (a : ℕ) → (cell_at s a).epoch ≡ epoch s.book → BehindBatches s.book.acts (cell_at s a).entries
  pub in_order : (a : ℕ) → (cell_at s a).epoch ≡ epoch s.book → ActsInOrder s.book.acts (cell_at s a).entries
  pub tell : (a : ℕ) → EntriesTell s.book.acts (cell_at s a).entries
  pub number : (t : ℕ) (x : Act) → act_of t s.book.acts ≡ Some x → is_doomed x.status ≡ false → (x.m ≤ base w.text) ⊎ (holds (λ b. not b.aborted) (batch_of x.m s.desk.batches) ≡ true)
  pub somewhere : (t : ℕ) (x : Act) → act_of t s.book.acts ≡ Some x → is_sealed x.status ≡ true → is_empty x.places ≡ false
