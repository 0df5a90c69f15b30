-- What proofs carry beside a run: it grows with each event, from the state before the event and the one after
-- it, and no code sees it.
use Rattle.std.specs.Prelude.{ℕ, ◌==◌, nat_lt, Bool, true, false, not, ◌&&◌, ◌||◌, if◌then◌else◌, Option, Some, None, List, [], ◌∷◌, ◌++◌, map, filter}
use Rattle.std.specs.List.{flat_map}
use Rattle.snap_base.specs.declared.transactions.State.{State}
use Rattle.snap_base.specs.declared.transactions.TxResult.{TxResult}
use Rattle.snap_base.specs.declared.verdicts.Place.{Place}
use Rattle.protocol.specs.Fixed.{Fixed, base}
use Rattle.protocol.specs.Rivals.{Lock, rivals}
use Rattle.protocol.specs.Parts.{Act, Pair, Cascade, Who, OfBatch, OfAct, Pact, Batch, Machine}
use Rattle.protocol.specs.Events.{Event, Form, Admit, Arrive, Ask, Run, Complete, Commit, Abort, Rollback, Decide, Finish, Trim}
use Rattle.protocol.specs.Words.{is_among, is_value, is_sealed, is_who, who_on, act_of, batch_of, lock_of}
use Rattle.protocol.specs.Verdicts.{pact_place, act_place}
use Rattle.protocol.specs.OnRing.{next_pacts}
use Rattle.protocol.specs.OnPost.{next_act}
use Rattle.protocol.specs.OnBook.{met, in_the_way, is_doomed_act, new_pairs, tids_on}
use Rattle.protocol.specs.OnCell.{is_cut, slice_run, is_undone_act, reads_on}
use Rattle.protocol.specs.Effects.{after, cell_at}
use Rattle.protocol.specs.Runs.{opening}

-- ---- what is carried

-- What a transaction did on an actor: the state that its first slice there found, and the one that its last left.
pub record View : Type 0 where
  pub found : State
  pub left : State

-- a transaction that has its place in the serial order, as it was then
pub record Done : Type 0 where
  pub who : Who
  pub tid : ℕ
  pub tx : ℕ
  pub place : Place
  pub result : Option TxResult
  -- it is an ACT that only reads
  pub reader : Bool
  -- at each actor
  pub views : ℕ → Option View

-- a slice: whose it was, the state that it found, and the one that it left
pub record Slice : Type 0 where
  pub tid : ℕ
  pub found : State
  pub left : State

-- Who was placed: it stands on the actor, with whether it is a complete batch, or has left for good. With its
-- slices, in order.
pub data Ran : Type 0 where
  Stands : Who → Bool → List Slice → Ran
  Gone : Who → List Slice → Ran

-- a slice, where it ran
pub record Step : Type 0 where
  pub actor : ℕ
  pub found : State
  pub left : State

-- the transaction of a tid, and all its slices, in order
pub record Trail : Type 0 where
  pub tx : ℕ
  pub steps : List Step

pub record History : Type 0 where
  -- for each actor, who was placed there; nothing leaves it
  pub placed : ℕ → List Who
  -- for each actor its schedule as if nothing that stays had ever left it; of a reader, which leaves what it finds, it has
  -- no slices, and nothing is left of it when it leaves
  pub long : ℕ → List Ran
  -- for each actor the slices of readers, in order
  pub reads : ℕ → List Slice
  -- for each tid its trail
  pub trails : ℕ → Trail
  -- for each tid whose it is: a batch's, or an ACT's own
  pub owners : ℕ → Who
  -- in the order of their Commit and Decide events
  pub committed : List Done
  -- who committed with a value, readers aside, and the readers that did
  pub kept : List Who
  pub kept_readers : List Who
  -- for each ACT the batches that stand before it, and those that stand behind it
  pub before : ℕ → List ℕ
  pub behind : ℕ → List ℕ
  -- pairs whose ACT ahead is not doomed: what its set gains, the other's gains too
  pub gains : List Pair
  -- for each actor the ACTs that left it sealed
  pub left_sealed : ℕ → List Lock

abbrev pub no_history : History
no_history = record {
  placed = λ a. [];
  long = λ a. [];
  reads = λ a. [];
  kept = [];
  kept_readers = [];
  trails = λ t. record { tx = 0; steps = [] };
  owners = λ t. OfAct t;
  committed = [];
  before = λ t. [];
  behind = λ t. [];
  gains = [];
  left_sealed = λ a. [];
}

-- ---- small words

-- the value at one number is another one
abbrev pub with_at : {X : Type 0} → ℕ → X → (ℕ → X) → ℕ → X
with_at n x f i = if i == n then x else f i

abbrev pub is_none : {X : Type 0} → Option X → Bool
is_none None = true
is_none (Some x) = false

-- the pairs that still carry what an ACT gains
abbrev pub carrying : List Act → List Pair → List Pair
carrying acts pairs = filter (λ p. not (is_doomed_act acts (lock_of p.ahead acts))) pairs

-- ---- the order of placing

abbrev pub with_placed : ℕ → List Who → History → ℕ → List Who
with_placed a who h = with_at a (h.placed a ++ who) h.placed

abbrev pub not_run : Who → Ran
not_run who = Stands who false []

abbrev pub with_long : ℕ → List Who → History → ℕ → List Ran
with_long a who h = with_at a (h.long a ++ map not_run who) h.long

abbrev pub asks : ℕ → Option ℕ → List Who
asks t None = OfAct t ∷ []
asks t (Some older) = []

-- ---- runs

abbrev pub ran_in : Who → Slice → Ran → Ran
ran_in who x (Stands y c ss) = Stands y c (if is_who y who then ss ++ x ∷ [] else ss)
ran_in who x (Gone y ss) = Gone y ss

-- what a reader runs does not show there
abbrev pub read_on : Bool → Slice → List Slice → List Slice
read_on true x xs = xs ++ x ∷ []
read_on false x xs = xs

abbrev pub ran_on : Bool → Who → Slice → List Ran → List Ran
ran_on true who x rs = rs
ran_on false who x rs = map (ran_in who x) rs

abbrev pub completed : ℕ → Ran → Ran
completed k (Stands y c ss) = Stands y (c || is_who y (OfBatch k)) ss
completed k (Gone y ss) = Gone y ss

abbrev pub left_for_good : Who → Ran → Ran
left_for_good who (Stands y c ss) = if is_who y who then Gone y ss else Stands y c ss
left_for_good who (Gone y ss) = Gone y ss

abbrev pub without_standing : Who → List Ran → List Ran
without_standing who [] = []
without_standing who (Stands y c ss ∷ rs) = if is_who y who then without_standing who rs else Stands y c ss ∷ without_standing who rs
without_standing who (Gone y ss ∷ rs) = Gone y ss ∷ without_standing who rs

-- up to the first aborted batch that stands there
abbrev pub long_staying : List Cascade → List Ran → List Ran
long_staying cascades [] = []
long_staying cascades (Stands y c ss ∷ rs) = if is_cut cascades y then [] else Stands y c ss ∷ long_staying cascades rs
long_staying cascades (Gone y ss ∷ rs) = Gone y ss ∷ long_staying cascades rs

-- ---- trails

abbrev pub begun : List Pact → (ℕ → Trail) → ℕ → Trail
begun [] f = f
begun (p ∷ ps) f = with_at p.tid (record { tx = p.tx; steps = [] }) (begun ps f)

abbrev pub owned_by : ℕ → List Pact → (ℕ → Who) → ℕ → Who
owned_by k [] f = f
owned_by k (p ∷ ps) f = with_at p.tid (OfBatch k) (owned_by k ps f)

abbrev pub gone_on : Step → Trail → Trail
gone_on x r = record r { steps = r.steps ++ x ∷ [] }

-- ---- views

abbrev pub last_left : ℕ → State → List Slice → State
last_left t s [] = s
last_left t s (x ∷ xs) = last_left t (if x.tid == t then x.left else s) xs

abbrev pub view_in : ℕ → List Slice → Option View
view_in t [] = None
view_in t (x ∷ xs) = if x.tid == t then Some (record { found = x.found; left = last_left t x.left xs }) else view_in t xs

-- the slices of who stands there
abbrev pub slices_of : Who → List Ran → List Slice
slices_of who [] = []
slices_of who (Stands y c ss ∷ rs) = if is_who y who then ss else slices_of who rs
slices_of who (Gone y ss ∷ rs) = slices_of who rs

-- the slices among which those of an ACT are
abbrev pub slices_for : Bool → ℕ → List Slice → List Ran → List Slice
slices_for true t reads long = reads
slices_for false t reads long = slices_of (OfAct t) long

abbrev pub act_view : History → Act → ℕ → Option View
act_view h x a = view_in x.tid (slices_for x.reader x.tid (h.reads a) (h.long a))

-- ---- sets

abbrev pub batch_in : Who → List ℕ
batch_in (OfBatch k) = k ∷ []
batch_in (OfAct t) = []

-- the batches that were placed on the actor and not rolled back there
abbrev pub batches_in : List Ran → List ℕ
batches_in [] = []
batches_in (Stands y c ss ∷ rs) = batch_in y ++ batches_in rs
batches_in (Gone y ss ∷ rs) = batch_in y ++ batches_in rs

abbrev pub sets_of : (ℕ → List ℕ) → List Lock → List ℕ
sets_of before xs = flat_map (λ x. before x.tid) xs

-- what an ACT gains at its Ask: the batches there, the sets of its rivals that left sealed, and those of its
-- rivals in the tail group that are not doomed
abbrev pub asked_set : {C : Type 0} → ℕ → ℕ → Machine C → History → List ℕ
asked_set t a s h =
    batches_in (h.long a) ++ (sets_of h.before (filter (rivals (lock_of t s.book.acts)) (h.left_sealed a))
    ++ sets_of h.before (filter (λ x. not (is_doomed_act s.book.acts x)) (met (lock_of t s.book.acts) (cell_at s a).entries)))

abbrev pub gained : List Pair → ℕ → (ℕ → List ℕ) → List ℕ
gained pairs t before = flat_map (λ p. before p.ahead) (filter (λ p. p.behind == t) pairs)

abbrev pub gains_over : List Pair → ℕ → (ℕ → List ℕ) → ℕ → List ℕ
gains_over pairs t before = with_at t (before t ++ gained pairs t before) before

-- each ACT gains what those have that it stands behind, the youngest first
abbrev pub spread_sets : List Pair → List Act → (ℕ → List ℕ) → ℕ → List ℕ
spread_sets pairs [] before = before
spread_sets pairs (x ∷ xs) before = gains_over pairs x.tid (spread_sets pairs xs before)

abbrev pub asked_gains : {C : Type 0} → ℕ → ℕ → Machine C → History → List Pair
asked_gains t a s h = h.gains ++ new_pairs t a (met (lock_of t s.book.acts) (cell_at s a).entries) s.book.acts

abbrev pub asked_before : {C : Type 0} → Bool → ℕ → ℕ → Machine C → History → ℕ → List ℕ
asked_before true t a s h = spread_sets (asked_gains t a s h) s.book.acts (with_at t (h.before t ++ asked_set t a s h) h.before)
asked_before false t a s h = h.before

abbrev pub gains_after_ask : {C : Type 0} → Bool → ℕ → ℕ → Machine C → History → List Pair
gains_after_ask true t a s h = asked_gains t a s h
gains_after_ask false t a s h = h.gains

-- batch k stands behind the ACTs on an actor
abbrev pub behind_too : ℕ → List ℕ → (ℕ → List ℕ) → ℕ → List ℕ
behind_too k tids f t = if is_among t tids then f t ++ k ∷ [] else f t

-- ---- places

abbrev pub done_pact : ℕ → History → Pact → Done
done_pact k h p = record { who = OfBatch k; tid = p.tid; tx = p.tx; place = pact_place k p.tid; result = p.result; reader = false; views = λ a. view_in p.tid (slices_of (OfBatch k) (h.long a)) }

abbrev pub done_batch : ℕ → History → Option Batch → List Done
done_batch k h None = []
done_batch k h (Some b) = map (done_pact k h) b.pacts

abbrev pub done_act : ℕ → History → Option Act → List Done
done_act c h None = []
done_act c h (Some x) = record { who = OfAct x.tid; tid = x.tid; tx = x.tx; place = act_place x.m c; result = x.result; reader = x.reader; views = act_view h x } ∷ []

abbrev pub kept_act : Option Act → List Who
kept_act None = []
kept_act (Some x) = if is_value x.result && not x.reader then OfAct x.tid ∷ [] else []

abbrev pub kept_reader : Option Act → List Who
kept_reader None = []
kept_reader (Some x) = if is_value x.result && x.reader then OfAct x.tid ∷ [] else []

-- ---- ACTs that leave

abbrev pub is_reader_act : Option Act → Bool
is_reader_act None = false
is_reader_act (Some x) = x.reader

-- nothing of it stays: what it did is undone, or it only read
abbrev pub is_traceless : Option Act → Bool
is_traceless x = is_undone_act x || is_reader_act x

abbrev pub seals : ℕ → Option Act → List Lock
seals t None = []
seals t (Some x) = if is_sealed x.status then record { tid = t; reader = x.reader } ∷ [] else []

-- ---- the table: s is the state before the event

unfoldable pub grown : {C : Type 0} → Fixed C → Event → Machine C → History → History
grown w (Form k) s h = record h { trails = begun (next_pacts w.text s.ring) h.trails; owners = owned_by k (next_pacts w.text s.ring) h.owners }
grown w (Admit t) s h = record h { trails = with_at t (record { tx = next_act s.ring; steps = [] }) h.trails; owners = with_at t (OfAct t) h.owners; before = with_at t (base w.text ∷ []) h.before; behind = with_at t [] h.behind }
grown w (Arrive k a) s h = record h {
  placed = with_placed a (OfBatch k ∷ []) h;
  long = with_long a (OfBatch k ∷ []) h;
  behind = behind_too k (tids_on (cell_at s a).entries) h.behind;
  gains = carrying (after w (Arrive k a) s).book.acts h.gains;
}
grown w (Ask t a) s h = record h {
  placed = with_placed a (asks t (in_the_way (lock_of t s.book.acts) (cell_at s a).entries)) h;
  long = with_long a (asks t (in_the_way (lock_of t s.book.acts) (cell_at s a).entries)) h;
  before = asked_before (is_none (in_the_way (lock_of t s.book.acts) (cell_at s a).entries)) t a s h;
  gains = carrying (after w (Ask t a) s).book.acts (gains_after_ask (is_none (in_the_way (lock_of t s.book.acts) (cell_at s a).entries)) t a s h);
}
grown w (Run t a) s h = record h {
  long = with_at a (ran_on (reads_on t (cell_at s a).entries) (who_on t (cell_at s a).entries) (record { tid = t; found = (cell_at s a).state; left = (slice_run w.code t a (cell_at s a)).state }) (h.long a)) h.long;
  reads = with_at a (read_on (reads_on t (cell_at s a).entries) (record { tid = t; found = (cell_at s a).state; left = (slice_run w.code t a (cell_at s a)).state }) (h.reads a)) h.reads;
  trails = with_at t (gone_on (record { actor = a; found = (cell_at s a).state; left = (slice_run w.code t a (cell_at s a)).state }) (h.trails t)) h.trails;
}
grown w (Complete k a) s h = record h { long = with_at a (map (completed k) (h.long a)) h.long }
grown w (Commit k) s h = record h { committed = h.committed ++ done_batch k h (batch_of k s.desk.batches); kept = h.kept ++ OfBatch k ∷ [] }
grown w (Abort k) s h = record h {
  behind = λ t. filter (λ j. nat_lt j k || not (nat_lt j s.ring.next_bid)) (h.behind t);
  gains = carrying (after w (Abort k) s).book.acts h.gains;
}
grown w (Rollback a) s h = record h { long = with_at a (long_staying s.book.cascades (h.long a)) h.long }
grown w (Decide t) s h = record h { committed = h.committed ++ done_act s.book.next_c h (act_of t s.book.acts); kept = h.kept ++ kept_act (act_of t s.book.acts); kept_readers = h.kept_readers ++ kept_reader (act_of t s.book.acts) }
grown w (Finish t a) s h = record h {
  long = with_at a (if is_traceless (act_of t s.book.acts) then without_standing (OfAct t) (h.long a) else map (left_for_good (OfAct t)) (h.long a)) h.long;
  gains = filter (λ p. not ((p.ahead == t) && (p.actor == a))) h.gains;
  left_sealed = with_at a (h.left_sealed a ++ seals t (act_of t s.book.acts)) h.left_sealed;
}
grown w (Trim k a) s h = record h { long = with_at a (map (left_for_good (OfBatch k)) (h.long a)) h.long }
grown w _ s h = h

-- the history of some events, beside the states between them
abbrev pub history_after : {C : Type 0} → Fixed C → List Event → Machine C → History → History
history_after w [] s h = h
history_after w (e ∷ es) s h = history_after w es (after w e s) (grown w e s h)

-- the history of a run
abbrev pub history : {C : Type 0} → Fixed C → List Event → History
history w es = history_after w es (opening w) no_history
