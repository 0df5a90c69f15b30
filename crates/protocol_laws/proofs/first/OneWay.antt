-- What no event takes back, part by part.
use Rattle.std.specs.Prelude.{◌≡◌, refl, ℕ, zero, suc, ◌+◌, ◌%◌, ◌<◌, ◌≤◌, ◌==◌, nat_lt, not, Bool, true, false, ◌&&◌, ◌||◌, if◌then◌else◌, Option, Some, None, List, [], ◌∷◌, ◌++◌, length, find, take, slice_get, slice_index_or, slice_set}
use Rattle.std.specs.List.{list_any}
use Rattle.std.proofs.Common.{arith, sym, subst, inl, inr, ◌∙◌}
use Rattle.std.proofs.lemmas.List.{append-nil}
use Rattle.std.proofs.lemmas.Bool.{eqb-true, ltb-true, and_parts, or_cases, or_left, or_right, not-true, true≢false, cases_lt}
use Rattle.protocol.specs.Fixed.{Fixed, IsText}
use Rattle.protocol.specs.Records.{LogRecord}
use Rattle.protocol.specs.Parts.{Cascade, Batch, Log, Cell, Machine}
use Rattle.protocol.specs.Events.{Event, Submit, Form, Admit, Arrive, Ask, Take, Run, Send, End, Close, Complete, Sync, Commit, Settle, Abort, Rollback, Prepare, Decide, Finish, Trim}
use Rattle.protocol.specs.Words.{covers, holds, batch_of, act_of, is_committing, is_settled}
use Rattle.protocol.specs.Conditions.{IsAllowed, conditions, epoch}
use Rattle.protocol.specs.Effects.{after, cell_at, log_at, no_cell, no_log, added, synced}
use Rattle.protocol.specs.Contents.{NextTx, NextTid, NextBid, NextC, Cascades, SettledBatch}
use Rattle.protocol.specs.Runs.{IsRun, EachAllowed, reached, state_after}
use Rattle.protocol.specs.History.{History, grown}
use Rattle.protocol.specs.Settling.{AllOverBelow, BatchesSettleInOrder}
use Rattle.protocol_laws.specs.OneWay.{IsFront, EachBecame, LogGrew, ActWent, CellWent, WentOn}
use Rattle.protocol_laws.proofs.first.Frames.{frame}
use Rattle.protocol_laws.proofs.first.SettlingKept.{batches_settle_in_order}
use Rattle.protocol_laws.proofs.first.OneWayActs.{whole, front_same, front_further, each_same, each_set, each_further, same_act, act_further, acts_went}
use Rattle.protocol_laws.proofs.machine.ShowsKept.{floor_rises}
use Rattle.protocol_laws.proofs.first.Lists.{all_found}
use Rattle.protocol_laws.proofs.first.Statuses.{committing_not_settled}

-- ---- logs

any_further : (test : LogRecord → Bool) (n m : ℕ) (xs ys : List LogRecord) → n ≤ m → list_any test (take n xs) ≡ true → list_any test (take m (xs ++ ys)) ≡ true
any_further test zero m xs ys l h = absurd (true≢false (sym h))
any_further test (suc n) zero xs ys l h = absurd (omega (arith, l))
any_further test (suc n) (suc m) [] ys l h = absurd (true≢false (sym h))
any_further test (suc n) (suc m) (x ∷ xs) ys l h = elim (or_cases (test x) (list_any test (take n xs)) h) [
  | inl a ↦ or_left (test x) (list_any test (take m (xs ++ ys))) a
  | inr b ↦ or_right (test x) (list_any test (take m (xs ++ ys))) (any_further test n m xs ys (omega (arith, l)) b)
]

same_log : (g : Log) → LogGrew g g
same_log g = record { records = whole g.records; synced = omega arith; durable = λ test h. h }

log_added : (g : Log) (rs : List LogRecord) → LogGrew g (added rs g)
log_added g rs = record { records = record { more = rs; is = refl }; synced = omega arith; durable = λ test h. any_further test g.synced g.synced g.records rs (omega arith) h }

log_synced : (g : Log) → g.synced ≤ length g.records → LogGrew g (synced g)
log_synced g l = record {
  records = whole g.records;
  synced = l;
  durable = λ test h. subst (λ rs. list_any test (take (length g.records) rs) ≡ true) (append-nil g.records) (any_further test g.synced (length g.records) g.records [] l h);
}

log_further : (f g h : Log) → LogGrew f g → LogGrew g h → LogGrew f h
log_further f g h a b = record { records = front_further _ _ _ a.records b.records; synced = omega (arith, a.synced, b.synced); durable = λ test d. b.durable test (a.durable test d) }

one_log : {C : Type 0} (s : Machine C) (l : ℕ) (g : Log) → LogGrew (log_at s l) g → EachBecame LogGrew s.logs (slice_set s.logs l g)
one_log s l g h = each_set LogGrew same_log s.logs l no_log g h

waits : (xs : List Log) (l : ℕ) → holds (λ g. nat_lt g.synced (length g.records)) (slice_get xs l) ≡ true → (slice_index_or xs l no_log).synced ≤ length (slice_index_or xs l no_log).records
waits [] l h = absurd (true≢false (sym h))
waits (g ∷ xs) zero h = omega (arith, ltb-true g.synced (length g.records) h)
waits (g ∷ xs) (suc l) h = waits xs l h

pub logs_went : {C : Type 0} (w : Fixed C) (e : Event) (s : Machine C) → IsAllowed w e s → EachBecame LogGrew s.logs (after w e s).logs
unfolding conditions after
logs_went w (Form k) s ok = one_log s (k % w.text.logs) _ (log_added (log_at s (k % w.text.logs)) _)
logs_went w (Complete k a) s ok = one_log s (a % w.text.logs) _ (log_added (log_at s (a % w.text.logs)) _)
logs_went w (Sync l) s ok = one_log s l _ (log_synced (log_at s l) (waits s.logs l ok.0))
logs_went w (Commit k) s ok = one_log s (k % w.text.logs) _ (log_added (log_at s (k % w.text.logs)) _)
logs_went w (Prepare t a) s ok = one_log s (a % w.text.logs) _ (log_added (log_at s (a % w.text.logs)) _)
logs_went w (Decide t) s ok = one_log s (t % w.text.logs) _ (log_added (log_at s (t % w.text.logs)) _)
logs_went w _ s ok = each_same LogGrew same_log s.logs

-- ---- cells

same_cell : {C : Type 0} (c : Cell C) → CellWent c c
same_cell c = record { write_floor = omega arith; read_floor = omega arith; last_trimmed = omega arith; epoch = omega arith }

cell_further : {C : Type 0} (b c d : Cell C) → CellWent b c → CellWent c d → CellWent b d
cell_further b c d f g = record { write_floor = omega (arith, f.write_floor, g.write_floor); read_floor = omega (arith, f.read_floor, g.read_floor); last_trimmed = omega (arith, f.last_trimmed, g.last_trimmed); epoch = omega (arith, f.epoch, g.epoch) }

one_cell : {C : Type 0} (s : Machine C) (a : ℕ) (c : Cell C) → CellWent (cell_at s a) c → EachBecame CellWent s.cells (slice_set s.cells a c)
one_cell s a c h = each_set CellWent same_cell s.cells a no_cell c h

is_behind : {C : Type 0} (n : ℕ) (xs : List (Cell C)) (a : ℕ) → holds (λ c. nat_lt c.epoch n) (slice_get xs a) ≡ true → (slice_index_or xs a no_cell).epoch ≤ n
is_behind n [] a h = absurd (true≢false (sym h))
is_behind n (c ∷ xs) zero h = omega (arith, ltb-true c.epoch n h)
is_behind n (c ∷ xs) (suc a) h = is_behind n xs a h

pub cells_went : {C : Type 0} (w : Fixed C) (e : Event) (s : Machine C) → IsAllowed w e s → EachBecame CellWent s.cells (after w e s).cells
unfolding conditions after
cells_went w (Arrive k a) s ok = one_cell s a _ (record { write_floor = omega arith; read_floor = omega arith; last_trimmed = omega arith; epoch = omega arith })
cells_went w (Ask t a) s ok = one_cell s a _ (record { write_floor = omega arith; read_floor = omega arith; last_trimmed = omega arith; epoch = omega arith })
cells_went w (Take t a) s ok = one_cell s a _ (record { write_floor = omega arith; read_floor = omega arith; last_trimmed = omega arith; epoch = omega arith })
cells_went w (Run t a) s ok = one_cell s a _ (record { write_floor = omega arith; read_floor = omega arith; last_trimmed = omega arith; epoch = omega arith })
cells_went w (Send t a) s ok = one_cell s a _ (record { write_floor = omega arith; read_floor = omega arith; last_trimmed = omega arith; epoch = omega arith })
cells_went w (End t a) s ok = one_cell s a _ (record { write_floor = omega arith; read_floor = omega arith; last_trimmed = omega arith; epoch = omega arith })
cells_went w (Close t a) s ok = one_cell s a _ (record { write_floor = omega arith; read_floor = omega arith; last_trimmed = omega arith; epoch = omega arith })
cells_went w (Complete k a) s ok = one_cell s a _ (record { write_floor = omega arith; read_floor = omega arith; last_trimmed = omega arith; epoch = omega arith })
cells_went w (Rollback a) s ok = one_cell s a _ (record { write_floor = omega arith; read_floor = omega arith; last_trimmed = omega arith; epoch = is_behind (epoch s.book) s.cells a ok.0 })
cells_went w (Finish t a) s ok = one_cell s a _ (record { write_floor = (floor_rises (cell_at s a).floors (act_of t s.book.acts)).0; read_floor = (floor_rises (cell_at s a).floors (act_of t s.book.acts)).1; last_trimmed = omega arith; epoch = omega arith })
cells_went w (Trim k a) s ok = one_cell s a _ (record { write_floor = omega arith; read_floor = omega arith; last_trimmed = omega arith; epoch = omega arith })
cells_went w _ s ok = each_same CellWent same_cell s.cells

-- ---- cascades and numbers

pub cascades_went : {C : Type 0} (w : Fixed C) (e : Event) (s : Machine C) → IsFront s.book.cascades (after w e s).book.cascades
unfolding after
cascades_went w (Abort k) s = record { more = _; is = refl }
cascades_went w e s = front_same _ _ (frame w e s Cascades refl)

-- the first that passes stays so where a list goes on
found_first : {X : Type 0} (p : X → Bool) (xs ys : List X) (x : X) → find p xs ≡ Some x → find p (xs ++ ys) ≡ Some x
found_first p [] ys x e = absurd (cc e)
found_first p (z ∷ xs) ys x e = by (p z) e (found_first p xs ys x)
  where
    by : (b : Bool) → (if b then Some z else find p xs) ≡ Some x → (find p xs ≡ Some x → find p (xs ++ ys) ≡ Some x) → (if b then Some z else find p (xs ++ ys)) ≡ Some x
    by true e k = e
    by false e k = k e

still_taken : (xs ys : List Cascade) → IsFront xs ys → (k : ℕ) (c : Cascade) → find (covers k) xs ≡ Some c → find (covers k) ys ≡ Some c
still_taken xs ys f k c e = subst (λ zs. find (covers k) zs ≡ Some c) (sym f.is) (found_first (covers k) xs f.more c e)

no_less : (n m : ℕ) → m ≡ n → n ≤ m
no_less n m e = omega (arith, e)

tx_went : {C : Type 0} (w : Fixed C) (e : Event) (s : Machine C) → s.ring.next_tx ≤ (after w e s).ring.next_tx
unfolding after
tx_went w (Submit n) s = omega arith
tx_went w e s = no_less _ _ (frame w e s NextTx refl)

pub tid_went : {C : Type 0} (w : Fixed C) (e : Event) (s : Machine C) → s.ring.next_tid ≤ (after w e s).ring.next_tid
unfolding after
tid_went w (Form k) s = omega arith
tid_went w (Admit t) s = omega arith
tid_went w e s = no_less _ _ (frame w e s NextTid refl)

pub bid_went : {C : Type 0} (w : Fixed C) (e : Event) (s : Machine C) → s.ring.next_bid ≤ (after w e s).ring.next_bid
unfolding after
bid_went w (Form k) s = omega arith
bid_went w e s = no_less _ _ (frame w e s NextBid refl)

pub c_went : {C : Type 0} (w : Fixed C) (e : Event) (s : Machine C) → s.book.next_c ≤ (after w e s).book.next_c
unfolding after
c_went w (Decide t) s = omega arith
c_went w e s = no_less _ _ (frame w e s NextC refl)

-- ---- all parts

pub went_on : {C : Type 0} (w : Fixed C) (e : Event) (s : Machine C) → IsAllowed w e s → WentOn s (after w e s)
went_on w e s ok = record {
  next_tx = tx_went w e s;
  next_tid = tid_went w e s;
  next_bid = bid_went w e s;
  next_c = c_went w e s;
  cascades = cascades_went w e s;
  taken = still_taken _ _ (cascades_went w e s);
  acts = acts_went w e s;
  logs = logs_went w e s ok;
  cells = cells_went w e s ok;
}

-- ---- along a run

unmoved : {C : Type 0} (s : Machine C) → WentOn s s
unmoved s = record {
  next_tx = omega arith;
  next_tid = omega arith;
  next_bid = omega arith;
  next_c = omega arith;
  cascades = whole s.book.cascades;
  taken = λ k c e. e;
  acts = each_same ActWent same_act s.book.acts;
  logs = each_same LogGrew same_log s.logs;
  cells = each_same CellWent same_cell s.cells;
}

further : {C : Type 0} (s t u : Machine C) → WentOn s t → WentOn t u → WentOn s u
further s t u f g = record {
  next_tx = omega (arith, f.next_tx, g.next_tx);
  next_tid = omega (arith, f.next_tid, g.next_tid);
  next_bid = omega (arith, f.next_bid, g.next_bid);
  next_c = omega (arith, f.next_c, g.next_c);
  cascades = front_further _ _ _ f.cascades g.cascades;
  taken = λ k c e. g.taken k c (f.taken k c e);
  acts = each_further ActWent act_further _ _ _ f.acts g.acts;
  logs = each_further LogGrew log_further _ _ _ f.logs g.logs;
  cells = each_further CellWent cell_further _ _ _ f.cells g.cells;
}

pub all_went_on : {C : Type 0} (w : Fixed C) (es : List Event) (s : Machine C) → EachAllowed w es s → WentOn s (state_after w es s)
all_went_on w [] s run = unmoved s
all_went_on w (e ∷ es) s run = further s (after w e s) _ (went_on w e s run.0) (all_went_on w es (after w e s) run.1)

-- ---- what committed

pub committed_went : {C : Type 0} (w : Fixed C) (e : Event) (s : Machine C) (h : History) → IsFront h.committed (grown w e s h).committed
unfolding grown
committed_went w (Commit k) s h = record { more = _; is = refl }
committed_went w (Decide t) s h = record { more = _; is = refl }
committed_went w _ s h = whole h.committed

-- ---- the settled number

-- where all is over up to a number, a batch that commits is above it
above : (n k : ℕ) (bs : List Batch) → AllOverBelow (n + 1) bs → holds (λ b. is_committing b.stage && not b.aborted) (batch_of k bs) ≡ true → n ≤ k
above n k bs h ok = by (batch_of k bs) refl ok
  where
    one : (b : Batch) → (b.bid < n + 1 → (b.aborted || is_settled b.stage) ≡ true) × ((b.bid == k) ≡ true) → (is_committing b.stage ≡ true) × (not b.aborted ≡ true) → n ≤ k
    one b o c = elim (cases_lt b.bid (n + 1)) [
      | inl l ↦ absurd (true≢false (sym (o.0 l) ∙ rw (not-true b.aborted c.1, committing_not_settled b.stage c.0) refl))
      | inr g ↦ omega (arith, g, eqb-true b.bid k o.1)
    ]

    by : (o : Option Batch) → batch_of k bs ≡ o → holds (λ b. is_committing b.stage && not b.aborted) o ≡ true → n ≤ k
    by None e q = absurd (true≢false (sym q))
    by (Some b) e q = one b (all_found (λ x. x.bid < n + 1 → (x.aborted || is_settled x.stage) ≡ true) (λ x. x.bid == k) bs b h e) (and_parts (is_committing b.stage) (not b.aborted) q)

pub settled_went : {C : Type 0} (w : Fixed C) (e : Event) (s : Machine C) → IsAllowed w e s → BatchesSettleInOrder w s → s.desk.settled ≤ (after w e s).desk.settled
unfolding conditions after
settled_went w (Settle k) s ok h = above s.desk.settled k s.desk.batches h.below_settled ok.0
settled_went w e s ok h = no_less _ _ (frame w e s SettledBatch refl)

pub settled_never_falls : {C : Type 0} (w : Fixed C) (es : List Event) (e : Event) → IsText w.text → IsRun w es → IsAllowed w e (reached w es) → (reached w es).desk.settled ≤ (after w e (reached w es)).desk.settled
settled_never_falls w es e text run ok = settled_went w e (reached w es) ok (batches_settle_in_order w es text run)
