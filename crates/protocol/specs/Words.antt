-- Words computed from a state. Each looks at some contents of some parts, and at nothing else.
use Rattle.std.specs.Prelude.{ℕ, zero, suc, ℤ, pos, ◌==◌, nat_lt, nat_le, min, max, Bool, true, false, not, ◌&&◌, ◌||◌, if◌then◌else◌, Option, Some, None, List, [], ◌∷◌, ◌++◌, length, map, filter, find, take}
use Rattle.std.specs.List.{list_any, list_all}
pub use Rattle.snap_base.specs.Numbers.{greatest}
use Rattle.snap_base.specs.declared.transactions.TxResult.{TxResult}
use Rattle.snap_base.specs.declared.transactions.TxResult.TheVariants.{Value, Fail}
use Rattle.protocol.specs.Fixed.{Next, Go, Ended}
use Rattle.protocol.specs.Records.{LogRecord}
use Rattle.protocol.specs.Rivals.{Lock, rivals}
use Rattle.protocol.specs.Parts.{Joined, Status, Live, Doomed, Decided, Sealed, Act, Cascade, Who, OfBatch, OfAct, SubBatch, ControlMessage, Declared, Pact, Stage, Formed, Committing, Settled, Batch, Log, PlacedBatch, Entry, BatchEntry, ActEntry, Image, Waiting, Outcome, FloorPair, Cell}

-- ---- lists

abbrev pub is_empty : {X : Type 0} → List X → Bool
is_empty [] = true
is_empty (x ∷ xs) = false

abbrev pub is_among : ℕ → List ℕ → Bool
is_among n ns = list_any (λ x. x == n) ns

-- there is one, and the test holds of it
abbrev pub holds : {X : Type 0} → (X → Bool) → Option X → Bool
holds test None = false
holds test (Some x) = test x

-- the numbers below n, ascending
abbrev pub below : ℕ → List ℕ
below zero = []
below (suc n) = below n ++ n ∷ []

abbrev pub count : {X : Type 0} → (X → Bool) → List X → ℕ
count test xs = length (filter test xs)

-- ---- results

abbrev pub is_value : Option TxResult → Bool
is_value (Some (Value v)) = true
is_value (Some (Fail code)) = false
is_value None = false

abbrev pub is_failure : Option TxResult → Bool
is_failure (Some (Value v)) = false
is_failure (Some (Fail code)) = true
is_failure None = false

-- its value, where it is one
abbrev pub value_of : Option TxResult → ℤ
value_of (Some (Value v)) = v
value_of (Some (Fail code)) = pos 0
value_of None = pos 0

-- the values of the PACTs of a batch, by their tids
abbrev pub values_of : Option Batch → List ℤ
values_of None = []
values_of (Some b) = map (λ p. value_of p.result) b.pacts

-- ---- cascades

abbrev pub covers : ℕ → Cascade → Bool
covers k c = nat_le c.first k && nat_le k c.upto

abbrev pub is_aborted : ℕ → List Cascade → Bool
is_aborted k cascades = list_any (covers k) cascades

-- of a batch that was formed: how many cascades came before it
abbrev pub epoch_of : ℕ → List Cascade → ℕ
epoch_of k cascades = count (λ c. nat_lt c.upto k) cascades

-- ---- ACTs

abbrev pub is_live_status : Status → Bool
is_live_status Live = true
is_live_status (Doomed v) = false
is_live_status (Decided c) = false
is_live_status (Sealed c) = false

abbrev pub is_doomed : Status → Bool
is_doomed Live = false
is_doomed (Doomed v) = true
is_doomed (Decided c) = false
is_doomed (Sealed c) = false

abbrev pub is_decided : Status → Bool
is_decided Live = false
is_decided (Doomed v) = false
is_decided (Decided c) = true
is_decided (Sealed c) = false

abbrev pub is_sealed : Status → Bool
is_sealed Live = false
is_sealed (Doomed v) = false
is_sealed (Decided c) = false
is_sealed (Sealed c) = true

-- it has its place in the serial order
abbrev pub is_ordered : Status → Bool
is_ordered st = is_decided st || is_sealed st

abbrev pub act_of : ℕ → List Act → Option Act
act_of t acts = find (λ x. x.tid == t) acts

abbrev pub joined_of : ℕ → Act → Option Joined
joined_of a x = find (λ p. p.actor == a) x.places

-- it has left all its actors; one without actors has done so where it is doomed
abbrev pub is_finished_everywhere : Act → Bool
is_finished_everywhere x = if is_empty x.places then is_doomed x.status else list_all (λ p. p.finished) x.places

abbrev pub is_live_act : Act → Bool
is_live_act x = not (is_finished_everywhere x)

abbrev pub is_vouched_everywhere : Act → Bool
is_vouched_everywhere x = list_all (λ p. p.vouched) x.places

-- ---- messages

abbrev pub sub_of : ℕ → ℕ → List SubBatch → Option SubBatch
sub_of k a subs = find (λ m. (m.bid == k) && (m.actor == a)) subs

abbrev pub control_of : {C : Type 0} → ℕ → List (ControlMessage C) → Option (ControlMessage C)
control_of t controls = find (λ m. m.tid == t) controls

abbrev pub has_control_to : {C : Type 0} → ℕ → ℕ → List (ControlMessage C) → Bool
has_control_to t a controls = holds (λ m. m.to == a) (control_of t controls)

abbrev pub without_sub : ℕ → ℕ → List SubBatch → List SubBatch
without_sub k a subs = filter (λ m. not ((m.bid == k) && (m.actor == a))) subs

abbrev pub without_control : {C : Type 0} → ℕ → List (ControlMessage C) → List (ControlMessage C)
without_control t controls = filter (λ m. not (m.tid == t)) controls

-- ---- batches

abbrev pub is_formed : Stage → Bool
is_formed Formed = true
is_formed Committing = false
is_formed Settled = false

abbrev pub is_committing : Stage → Bool
is_committing Formed = false
is_committing Committing = true
is_committing Settled = false

abbrev pub is_settled : Stage → Bool
is_settled Formed = false
is_settled Committing = false
is_settled Settled = true

abbrev pub batch_of : ℕ → List Batch → Option Batch
batch_of k batches = find (λ b. b.bid == k) batches

abbrev pub declared_of : ℕ → Batch → Option Declared
declared_of a b = find (λ p. p.actor == a) b.places

abbrev pub names_pact : ℕ → Batch → Bool
names_pact t b = list_any (λ p. p.tid == t) b.pacts

abbrev pub pact_of : ℕ → List Pact → Option Pact
pact_of t pacts = find (λ p. p.tid == t) pacts

abbrev pub result_among : ℕ → List Pact → Option TxResult
result_among t [] = None
result_among t (p ∷ ps) = if p.tid == t then p.result else result_among t ps

-- the result that the desk has of a PACT
abbrev pub pact_result : ℕ → List Batch → Option TxResult
pact_result t [] = None
pact_result t (b ∷ bs) = if names_pact t b then result_among t b.pacts else pact_result t bs

-- formed, and not taken along by a cascade
abbrev pub is_open : Batch → Bool
is_open b = is_formed b.stage && not b.aborted

-- neither aborted nor trimmed on all its actors
abbrev pub is_live_batch : Batch → Bool
is_live_batch b = not b.aborted && not (list_all (λ p. p.trimmed) b.places)

-- every smaller batch that is not aborted is settled
abbrev pub is_next_to_commit : ℕ → List Batch → Bool
is_next_to_commit k batches = list_all (λ b. nat_le k b.bid || (b.aborted || is_settled b.stage)) batches

-- a PACT that failed: the transaction and its code
pub record Failure : Type 0 where
  pub tx : ℕ
  pub code : ℕ

-- the first that failed, where all before it ended with a value
abbrev pub first_failed : List Pact → Option Failure
first_failed [] = None
first_failed (p ∷ ps) = elim p.result [ None ↦ None | Some (Value v) ↦ first_failed ps | Some (Fail code) ↦ Some (record { tx = p.tx; code = code }) ]

-- ---- logs

abbrev pub is_durable : (LogRecord → Bool) → Log → Bool
is_durable test l = list_any test (take l.synced l.records)

-- ---- schedules

abbrev pub is_batch_entry : ℕ → Entry → Bool
is_batch_entry k (BatchEntry b) = b.bid == k
is_batch_entry k (ActEntry x) = false

abbrev pub is_act_entry : ℕ → Entry → Bool
is_act_entry t (BatchEntry b) = false
is_act_entry t (ActEntry x) = x.tid == t

abbrev pub names_slot : ℕ → PlacedBatch → Bool
names_slot t b = list_any (λ s. s.tid == t) b.slots

-- the entry that a transaction has on the actor: its own, or that of its batch
abbrev pub is_entry_of : ℕ → Entry → Bool
is_entry_of t (BatchEntry b) = names_slot t b
is_entry_of t (ActEntry x) = x.tid == t

abbrev pub who_of : Entry → Who
who_of (BatchEntry b) = OfBatch b.bid
who_of (ActEntry x) = OfAct x.tid

-- whose a transaction's control is, as its entry tells
abbrev pub who_on : ℕ → List Entry → Who
who_on t [] = OfAct t
who_on t (e ∷ es) = if is_entry_of t e then who_of e else who_on t es

abbrev pub is_who : Who → Who → Bool
is_who (OfBatch k) (OfBatch j) = k == j
is_who (OfBatch k) (OfAct t) = false
is_who (OfAct t) (OfBatch k) = false
is_who (OfAct t) (OfAct u) = t == u

abbrev pub is_act_who : Who → Bool
is_act_who (OfBatch k) = false
is_act_who (OfAct t) = true

-- it is of an ACT that only reads
abbrev pub is_reader_entry : Entry → Bool
is_reader_entry (BatchEntry b) = false
is_reader_entry (ActEntry x) = x.reader

-- what stands ahead of the first entry that is meant
abbrev pub ahead : (Entry → Bool) → List Entry → List Entry
ahead meant [] = []
ahead meant (e ∷ es) = if meant e then [] else e ∷ ahead meant es

abbrev pub is_complete_batch : Entry → Bool
is_complete_batch (BatchEntry b) = b.complete
is_complete_batch (ActEntry x) = false

-- An entry that ACT t need not wait for: a complete batch, or an ACT that is no rival of it.
abbrev pub lets_pass : Lock → Entry → Bool
lets_pass t (BatchEntry b) = b.complete
lets_pass t (ActEntry x) = not (rivals t x)

-- an entry that this one need not wait for
abbrev pub is_over_for : Entry → Entry → Bool
is_over_for (BatchEntry b) e = is_complete_batch e
is_over_for (ActEntry x) e = lets_pass x e

-- the transaction's place is there, and nothing ahead of it is in its way
abbrev pub is_clear : ℕ → List Entry → Bool
is_clear t entries = holds (λ own. list_all (is_over_for own) (ahead (is_entry_of t) entries)) (find (is_entry_of t) entries)

-- in its sub-batch all smaller tids are done
abbrev pub is_turn_of : ℕ → Entry → Bool
is_turn_of t (BatchEntry b) = list_all (λ s. nat_le t s.tid || s.done) b.slots
is_turn_of t (ActEntry x) = true

abbrev pub is_undone : ℕ → Entry → Bool
is_undone t (BatchEntry b) = list_any (λ s. (s.tid == t) && not s.done) b.slots
is_undone t (ActEntry x) = false

-- a sub-batch names the PACT, and it is not done there
abbrev pub has_undone : ℕ → List Entry → Bool
has_undone t entries = list_any (is_undone t) entries

abbrev pub is_all_done : Entry → Bool
is_all_done (BatchEntry b) = list_all (λ s. s.done) b.slots
is_all_done (ActEntry x) = false

abbrev pub group_behind : List Lock → List Entry → List Lock
group_behind seen [] = seen
group_behind seen (BatchEntry b ∷ es) = group_behind [] es
group_behind seen (ActEntry x ∷ es) = group_behind (seen ++ x ∷ []) es

-- the locks behind the last batch of the schedule
abbrev pub tail_group : List Entry → List Lock
tail_group entries = group_behind [] entries

-- the lock of an ACT, as the book knows it
abbrev pub lock_of : ℕ → List Act → Lock
lock_of t acts = record { tid = t; reader = holds (λ x. x.reader) (act_of t acts) }

-- the floor that counts for an ACT: who only reads need not stand behind readers
abbrev pub floor_for : Bool → FloorPair → ℕ
floor_for true f = f.write
floor_for false f = max f.write f.read

abbrev pub floor_at : {C : Type 0} → ℕ → List Act → Cell C → ℕ
floor_at t acts c = floor_for (lock_of t acts).reader c.floors

-- those of the tail group that the ACT can't stand beside
abbrev pub rivals_in_tail : Lock → List Entry → List Lock
rivals_in_tail t entries = filter (rivals t) (tail_group entries)

-- the smaller of a number and one that may be there
abbrev pub least_of : ℕ → Option ℕ → ℕ
least_of x None = x
least_of x (Some y) = min x y

-- of some locks the least tid that is below this one
abbrev pub least_older : ℕ → List Lock → Option ℕ
least_older t [] = None
least_older t (x ∷ xs) = if nat_lt x.tid t then Some (least_of x.tid (least_older t xs)) else least_older t xs

-- the batches on a schedule
abbrev pub batches_on : List Entry → List ℕ
batches_on [] = []
batches_on (BatchEntry b ∷ es) = b.bid ∷ batches_on es
batches_on (ActEntry x ∷ es) = batches_on es

-- the ACTs on a schedule
abbrev pub acts_on : List Entry → List Lock
acts_on [] = []
acts_on (BatchEntry b ∷ es) = acts_on es
acts_on (ActEntry x ∷ es) = x ∷ acts_on es

abbrev pub has_act : ℕ → List Entry → Bool
has_act t entries = list_any (is_act_entry t) entries

abbrev pub has_entry : ℕ → List Entry → Bool
has_entry t entries = list_any (is_entry_of t) entries

-- ---- boxes

abbrev pub waiting_of : {C : Type 0} → ℕ → List (Waiting C) → Option (Waiting C)
waiting_of t inbox = find (λ x. x.tid == t) inbox

abbrev pub outcome_of : {C : Type 0} → ℕ → List (Outcome C) → Option (Outcome C)
outcome_of t outbox = find (λ x. x.tid == t) outbox

abbrev pub is_going : {C : Type 0} → Next C → Bool
is_going (Go b control) = true
is_going (Ended r) = false

abbrev pub is_ended : {C : Type 0} → Next C → Bool
is_ended (Go b control) = false
is_ended (Ended r) = true

abbrev pub without_waiting : {C : Type 0} → ℕ → List (Waiting C) → List (Waiting C)
without_waiting t inbox = filter (λ x. not (x.tid == t)) inbox

abbrev pub without_outcome : {C : Type 0} → ℕ → List (Outcome C) → List (Outcome C)
without_outcome t outbox = filter (λ x. not (x.tid == t)) outbox

abbrev pub image_of : Who → List Image → Option Image
image_of who images = find (λ i. is_who who i.who) images
