-- What the parts' calls ask, where the event table lets a row be taken, in the words of their own contracts.
use Rattle.std.specs.Prelude.{◌≡◌, ℕ, ℤ, ◌+◌, ◌-◌, ◌%◌, ◌^◌, ◌<◌, ◌≤◌, false, Some, None, is_some, List, ◌∷◌, ◌++◌, length, map, slice_get, FitsSigned}
use Rattle.std.specs.List.{All, AllByRecursion}
use Rattle.std.specs.Int.{w64}
use Rattle.protocol.specs.Cutting.{AreAbortedFrom}
use Rattle.snap_base.specs.declared.ids.ActorId.{ActorId}
use Rattle.snap_base.specs.declared.ids.Bid.{Bid}
use Rattle.snap_base.specs.declared.ids.Tid.{Tid}
use Rattle.snap_base.specs.declared.transactions.State.{State}
use Rattle.protocol.specs.Fixed.{Fixed}
use Rattle.protocol.specs.Facts.{Alone}
use Rattle.protocol.specs.Parts.{Act, Book, Cascade, Pact, SubBatch, OfBatch, Machine}
use Rattle.protocol.specs.Events.{Event, Pass, Form, Admit, Run, Send, Complete, Commit, Abort, Prepare, Decide}
use Rattle.protocol.specs.Words.{is_empty, act_of, batch_of, values_of, sub_of, control_of, image_of, who_on, acts_on}
use Rattle.protocol.specs.Conditions.{IsAllowed}
use Rattle.protocol.specs.Effects.{cell_at, ascending}
use Rattle.protocol.specs.History.{History}
use Rattle.protocol.specs.OnRing.{planned, next_actors, next_pacts}
use Rattle.protocol.specs.OnPost.{first_control}
use Rattle.protocol.specs.OnCell.{staying}
use Rattle.protocol_theorems.specs.BookFits.{IsOfHalves, HalvesMeet}
use Rattle.protocol_theorems.specs.Bounds.{tids_here}
use Rattle.token_ring.specs.Asked.{MayPass}
use Rattle.batch_table.specs.Joining.{MayJoin}
use Rattle.actor_cell.specs.Cut.{IsCutFrom}
use Rattle.txn_records.specs.Records.{Ascend, actor_numbers, tid_numbers, IsState, IsInfo, IsComplete, IsDone}

-- the numbers of an ACT's commit record fit, and its actors ascend and are at most sixteen
pub record IsActRecord (t m c : ℕ) (actors : List ℕ) : Type 0 where
  pub tid_fits : t < 2 ^ 63
  pub m_fits : m < 2 ^ 63
  pub c_fits : c < 2 ^ 63
  pub some : 1 ≤ length actors
  pub few : length actors ≤ 16
  pub ascend : Ascend 0 (2 ^ 16) actors

-- What the rows ask of a state of the machine, event by event.
pub record RowsMay {C : Type 0} (w : Fixed C) (s : Machine C) : Type 0 where
  -- ---- Each event: how many parts there are, and that numbers fit
  -- The ring has a queue of PACTs for each coordinator.
  pub pact_queues : length s.ring.pacts ≡ w.text.coordinators
  -- The ring has a queue of ACTs for each coordinator.
  pub act_queues : length s.ring.acts ≡ w.text.coordinators
  -- The ring has a last batch, or none, for each actor.
  pub lasts : length s.ring.lasts ≡ length w.text.opening.states
  -- There is a cell for each actor.
  pub cells : length s.cells ≡ length w.text.opening.states
  -- There are as many logs as the text says.
  pub logs : length s.logs ≡ w.text.logs
  -- The desk has a mark for each transaction of the text.
  pub replied : length s.desk.replied ≡ length w.text.txs
  -- The next transaction has a number after it.
  pub txs_fit : s.ring.next_tx + 1 < 2 ^ 32
  -- A whole batch of tids can be drawn.
  pub tids_fit : s.ring.next_tid + w.text.batch < 2 ^ 63
  -- The next batch has a number after it.
  pub bids_fit : s.ring.next_bid + 1 < 2 ^ 63
  -- The epoch can rise.
  pub epochs_fit : s.ring.epoch + 1 < 2 ^ 63
  -- The next commit has a number after it.
  pub cs_fit : s.book.next_c + 1 < 2 ^ 63
  -- An actor has at most 64 entries.
  pub few_entries : (a : ℕ) → length (cell_at s a).entries ≤ 64
  -- An actor's boxes hold at most one thing for each transaction that has an entry there.
  pub few_boxed : (a : ℕ) → length (cell_at s a).inbox + length (cell_at s a).outbox ≤ length (tids_here (cell_at s a).entries)
  -- ---- Each event of the book, which is kept as two halves
  -- The halves meet what the event asks, whichever halves of the book they are.
  pub halves : (e : Event) (o v : Book) → IsAllowed w e s → IsOfHalves s.book o v → HalvesMeet e s o v
  -- ---- Pass
  -- The token may go on, and `c` is the coordinator to which it goes.
  pub passes : (c : ℕ) → IsAllowed w (Pass c) s → MayPass s.ring × (c ≡ (s.ring.holder + 1) % length s.ring.pacts)
  -- ---- Form
  -- The tids that the batch draws fit.
  pub forms_tids : (k : ℕ) → s.ring.next_tid + length (planned w.text k s.ring).pacts < 2 ^ 63
  -- Each sub-batch is posted where none of its batch for its actor is under way.
  pub forms_subs :
      (k : ℕ) → IsAllowed w (Form k) s → (front rest : List SubBatch) (m : SubBatch) → (planned w.text k s.ring).subs ≡ front ++ m ∷ rest
      → sub_of m.bid m.actor (s.post.subs ++ front) ≡ None
  -- Each first control is posted where none of its transaction is under way.
  pub forms_controls :
      (k : ℕ) → IsAllowed w (Form k) s → (front rest : List Pact) (p : Pact) → (planned w.text k s.ring).pacts ≡ front ++ p ∷ rest
      → control_of p.tid (s.post.controls ++ map (λ q. first_control w (OfBatch k) q.tid q.tx) front) ≡ None
  -- The batch may join the desk.
  pub forms_batch : (k : ℕ) → IsAllowed w (Form k) s → MayJoin k (planned w.text k s.ring).pacts s.desk
  -- The record that the batch was formed has a spelling.
  pub tells_info :
      (k : ℕ) → IsAllowed w (Form k) s → (bid : Bid) (actors : List ActorId) (tids : List Tid)
      → bid.0 ≡ k → actor_numbers actors ≡ next_actors w.text s.ring → tid_numbers tids ≡ map (λ p. p.tid) (next_pacts w.text s.ring)
      → IsInfo bid actors tids
  -- ---- Admit
  -- The first control is posted where none of its transaction is under way.
  pub admits_control : (t : ℕ) → IsAllowed w (Admit t) s → control_of t s.post.controls ≡ None
  -- The tid of the ACT is above those of all ACTs in the half that has the orders.
  pub admits_act : (t : ℕ) (o v : Book) → IsAllowed w (Admit t) s → IsOfHalves s.book o v → All (λ x. x.tid < t) o.acts
  -- ---- Run
  -- Where the entry has no image yet, the actor has room for one.
  pub runs_image :
      (t a : ℕ) → IsAllowed w (Run t a) s → is_some (image_of (who_on t (cell_at s a).entries) (cell_at s a).images) ≡ false
      → length (cell_at s a).images < 64
  -- ---- Send
  -- The control is posted where none of its transaction is under way.
  pub sends_control : (t a : ℕ) → IsAllowed w (Send t a) s → control_of t s.post.controls ≡ None
  -- ---- Complete
  -- The record that the batch is complete on the actor has a spelling.
  pub tells_complete :
      (k a : ℕ) → IsAllowed w (Complete k a) s → (bid : Bid) (actor : ActorId) (state : State) → bid.0 ≡ k → actor.0 ≡ a → IsState state
      → IsComplete bid actor state
  -- ---- Commit
  -- The commit record of the batch has a spelling.
  pub tells_commit :
      (k : ℕ) → IsAllowed w (Commit k) s → (bid : Bid) (values : List ℤ)
      → bid.0 ≡ k → values ≡ values_of (batch_of k s.desk.batches) → AllByRecursion (FitsSigned w64) values
      → IsDone bid values
  -- ---- Abort
  -- There is room for one cascade more: each transaction of the text has room for one.
  pub aborts_room : (k : ℕ) → IsAllowed w (Abort k) s → length s.book.cascades < length w.text.txs
  -- The cascade covers a batch at least.
  pub aborts_some : (k : ℕ) → IsAllowed w (Abort k) s → k ≤ s.ring.next_bid - 1
  -- All earlier cascades end below it.
  pub aborts_above : (k : ℕ) → IsAllowed w (Abort k) s → AllByRecursion (λ c. c.upto < k) s.book.cascades
  -- ---- Rollback: a cell is cut at the first batch of the cascade that it has not seen
  -- The entries and the images of the cell are cut at that batch.
  pub rolls_back :
      (a : ℕ) (x : Cascade) → slice_get s.book.cascades (cell_at s a).epoch ≡ Some x
      → IsCutFrom x.first (is_empty (acts_on (staying s.book.cascades (cell_at s a).entries))) s.book.cascades (cell_at s a).entries (cell_at s a).images
  -- Of the batches on the schedule, those from that batch on are the aborted ones.
  pub cuts : (a : ℕ) (x : Cascade) → slice_get s.book.cascades (cell_at s a).epoch ≡ Some x → AreAbortedFrom x.first s.book.cascades (cell_at s a).entries
  -- ---- Prepare
  -- The numbers of the record of the ACT's state on the actor fit.
  pub tells_prepare : (t a : ℕ) → IsAllowed w (Prepare t a) s → (t < 2 ^ 63) × (a < 2 ^ 16)
  -- ---- Decide
  -- The numbers of the commit record of the ACT fit.
  pub tells_act :
      (t : ℕ) (x : Act) → IsAllowed w (Decide t) s → act_of t s.book.acts ≡ Some x
      → IsActRecord t x.m s.book.next_c (ascending (map (λ p. p.actor) x.places))

-- After a run the rows may be taken.
abbrev pub RowsMayBeTaken : {C : Type 0} → Fixed C → (C → List State → Alone) → Machine C → History → Type 0
RowsMayBeTaken w finish s h = RowsMay w s
