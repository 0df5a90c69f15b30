-- How the shares of acts, batches, controls and logs change.
use Rattle.std.specs.Prelude.{◌≡◌, refl, ℕ, zero, suc, ◌+◌, ◌-◌, ◌*◌, ◌≤◌, ◌==◌, nat_le, max, not, Bool, true, false, ◌||◌, ◌&&◌, if◌then◌else◌, Option, Some, None, is_some, List, [], ◌∷◌, ◌++◌, length, map, filter, find, slice_index_or, slice_set}
use Rattle.std.specs.List.{AllByRecursion, list_any}
use Rattle.std.proofs.Common.{arith, sym, ap, subst, inl, inr, ◌∙◌}
use Rattle.std.proofs.lemmas.Bool.{and_parts, true≢false, eqb-true, cases_Bool}
use Rattle.snap_base.specs.declared.transactions.State.{State}
use Rattle.snap_base.specs.declared.transactions.Tx.{Tx}
use Rattle.snap_base.specs.declared.transactions.TxResult.{TxResult}
use Rattle.snap_base.specs.declared.verdicts.Verdict.{Verdict}
use Rattle.protocol.specs.Fixed.{Fixed, Code, Next, Go, Ended, tx_at, declared, no_tx}
use Rattle.protocol.specs.Facts.{Alone, Facts}
use Rattle.protocol.specs.Records.{LogRecord}
use Rattle.protocol.specs.Rivals.{Lock}
use Rattle.protocol.specs.Parts.{Ring, Book, Status, Live, Doomed, Decided, Sealed, Joined, Act, Pair, Who, OfBatch, SubBatch, ControlMessage, Stage, Formed, Committing, Settled, Declared, Pact, Batch, Log, Waiting, Outcome, Cell}
use Rattle.protocol.specs.Words.{holds, is_among, below, act_of, batch_of, sub_of, control_of, waiting_of, outcome_of, without_sub, without_control, without_waiting, without_outcome, is_going, is_ended, is_live_status, is_decided, is_open, is_formed, is_committing, value_of, floor_at}
use Rattle.protocol.specs.Numbers.{times, one_if}
use Rattle.protocol.specs.Spread.{raised, crossed_out, is_crossed}
use Rattle.protocol_laws.specs.Trails.{IsOf}
use Rattle.protocol.specs.OnRing as ring
use Rattle.protocol.specs.OnPost as post
use Rattle.protocol.specs.OnBook as book
use Rattle.protocol.specs.OnDesk as desk
use Rattle.protocol.specs.OnCell as cell
use Rattle.protocol.specs.Effects as effects
use Rattle.protocol.specs.Left.{total, unless, visit, rest, status_left, joined_left, act_left, control_left, waiting_left, next_left, outcome_left, sub_left, entry_left, stage_left, declared_left, batch_left, log_left}
use Rattle.protocol_theorems.proofs.quiet.LeftLists
use Rattle.protocol_theorems.proofs.quiet.LeftLists.{total_join, total_out, total_map, total_falls, total_rises, total_set_most, unless_most}
use Rattle.protocol_laws.proofs.first.Times
use Rattle.protocol.specs.Rests.{IsTxIn}
use Rattle.protocol_laws.proofs.first.Lists.{all_get}

-- ---- ACTs

change_most : (b : Bool) (f : Act → Act) (x : Act) → act_left (f x) ≤ act_left x → act_left (book.change_if b f x) ≤ act_left x
change_most true f x h = h
change_most false f x h = omega arith

change_falls : (b : Bool) (f : Act → Act) (x : Act) (n : ℕ) → b ≡ true → act_left (f x) + n ≤ act_left x → act_left (book.change_if b f x) + n ≤ act_left x
change_falls true f x n e h = h
change_falls false f x n e h = absurd (true≢false (sym e))

pub acts_most : (t : ℕ) (f : Act → Act) (xs : List Act) → ((x : Act) → act_left (f x) ≤ act_left x) → total act_left (book.changed_act t f xs) ≤ total act_left xs
acts_most t f xs h = total_map act_left _ xs (λ x. change_most (x.tid == t) f x (h x))

pub acts_fall : (t : ℕ) (f : Act → Act) (q : Act → Bool) (n : ℕ) (xs : List Act) → ((x : Act) → act_left (f x) ≤ act_left x) → ((x : Act) → q x ≡ true → act_left (f x) + n ≤ act_left x) → holds q (act_of t xs) ≡ true
    → total act_left (book.changed_act t f xs) + n ≤ total act_left xs
acts_fall t f q n xs h k e = total_falls act_left (λ x. book.change_if (x.tid == t) f x) (λ x. x.tid == t) q n xs (λ x. change_most (x.tid == t) f x (h x)) (λ x i j. change_falls (x.tid == t) f x n i (k x j)) e

mark_most : (b : Bool) (f : Joined → Joined) (p : Joined) → joined_left (f p) ≤ joined_left p → joined_left (book.mark_if b f p) ≤ joined_left p
mark_most true f x h = h
mark_most false f x h = omega arith

mark_falls : (b : Bool) (f : Joined → Joined) (p : Joined) (n : ℕ) → b ≡ true → joined_left (f p) + n ≤ joined_left p → joined_left (book.mark_if b f p) + n ≤ joined_left p
mark_falls true f x n e h = h
mark_falls false f x n e h = absurd (true≢false (sym e))

pub marked_most : (a : ℕ) (f : Joined → Joined) (x : Act) → ((p : Joined) → joined_left (f p) ≤ joined_left p) → act_left (book.marked a f x) ≤ act_left x
marked_most a f x h = omega (arith, total_map joined_left (λ p. book.mark_if (p.actor == a) f p) x.places (λ p. mark_most (p.actor == a) f p (h p)))

pub marked_falls : (a : ℕ) (f : Joined → Joined) (q : Joined → Bool) (n : ℕ) (x : Act) → ((p : Joined) → joined_left (f p) ≤ joined_left p) → ((p : Joined) → q p ≡ true → joined_left (f p) + n ≤ joined_left p) → holds q (find (λ p. p.actor == a) x.places) ≡ true
    → act_left (book.marked a f x) + n ≤ act_left x
marked_falls a f q n x h k e = omega (arith, total_falls joined_left (λ p. book.mark_if (p.actor == a) f p) (λ p. p.actor == a) q n x.places (λ p. mark_most (p.actor == a) f p (h p)) (λ p i j. mark_falls (p.actor == a) f p n i (k p j)) e)

pub unmarked : (b : Bool) (n : ℕ) → not b ≡ true → unless b n ≡ n
unmarked true n e = absurd (true≢false (sym e))
unmarked false n e = refl

doom_most : (b : Bool) (v : Verdict) (st : Status) → status_left (if b then Doomed v else st) ≤ status_left st
doom_most true v st = omega arith
doom_most false v st = omega arith

pub doomed_most : (v : Verdict) (x : Act) → act_left (book.doomed_by v x) ≤ act_left x
doomed_most v x = omega (arith, doom_most (is_live_status x.status) v x.status)

pub crossed_most : (a : ℕ) (x : Act) → act_left (crossed_out a x) ≤ act_left x
crossed_most a x = omega (arith, doom_most (is_crossed x) (Rattle.protocol.specs.Verdicts.out_of_order x.m (Rattle.std.specs.Prelude.unwrap_or x.n 0) a) x.status)

pub cascaded_most : (k by : ℕ) (x : Act) → act_left (book.cascaded k by x) ≤ act_left x
cascaded_most k by x = omega (arith, doom_most (is_live_status x.status && nat_le k x.m) (Rattle.protocol.specs.Verdicts.taken_along k by) x.status)

pub raised_most : (pairs : List Pair) (xs : List Act) → total act_left (raised pairs xs) ≤ total act_left xs
raised_most pairs [] = omega arith
raised_most pairs (x ∷ xs) = omega (arith, raised_most pairs xs)

joins_if : (a m : ℕ) (b : Bool) (x : Act) → act_left (book.change_if b (book.joins a m) x) ≤ act_left x + 4 * one_if b
joins_if a m true x = omega (arith, total_join joined_left x.places (record { actor = a; prepared = false; vouched = false; finished = false } ∷ []))
joins_if a m false x = omega arith

pub asked_most : {C : Type 0} (group : List Lock) (t a : ℕ) (c : Cell C) (b : Book) → times t (map (λ x. x.tid) b.acts) ≤ 1 → total act_left (book.asked_acts None group t a (max c.last (floor_at t b.acts c)) b) ≤ total act_left b.acts + 4
asked_most group t a c b l =
    let more = book.changed_act t (book.joins a (max c.last (floor_at t b.acts c))) b.acts in
    omega (arith, total_map act_left (crossed_out a) (raised (b.pairs ++ book.new_pairs t a group b.acts) more) (crossed_most a), raised_most (b.pairs ++ book.new_pairs t a group b.acts) more, total_rises act_left (λ x. book.change_if (x.tid == t) (book.joins a (max c.last (floor_at t b.acts c))) x) (λ x. x.tid) t 4 b.acts (λ x. joins_if a (max c.last (floor_at t b.acts c)) (x.tid == t) x), l)

pub decided_most : (c : ℕ) (b : Bool) (st : Status) → status_left (book.decided_status c b st) ≤ status_left st
decided_most c true Live = omega arith
decided_most c false Live = omega arith
decided_most c b (Doomed v) = omega arith
decided_most c b (Decided d) = omega arith
decided_most c b (Sealed d) = omega arith

pub decided_falls : (c : ℕ) (b : Bool) (st : Status) → is_live_status st ≡ true → status_left (book.decided_status c b st) + 2 ≤ status_left st
decided_falls c true Live e = omega arith
decided_falls c false Live e = omega arith
decided_falls c b (Doomed v) e = absurd (true≢false (sym e))
decided_falls c b (Decided d) e = absurd (true≢false (sym e))
decided_falls c b (Sealed d) e = absurd (true≢false (sym e))

pub sealed_most : (st : Status) → status_left (book.sealed_status st) ≤ status_left st
sealed_most Live = omega arith
sealed_most (Doomed v) = omega arith
sealed_most (Decided c) = omega arith
sealed_most (Sealed c) = omega arith

pub sealed_falls : (st : Status) → is_decided st ≡ true → status_left (book.sealed_status st) + 1 ≤ status_left st
sealed_falls Live e = absurd (true≢false (sym e))
sealed_falls (Doomed v) e = absurd (true≢false (sym e))
sealed_falls (Decided c) e = omega arith
sealed_falls (Sealed c) e = absurd (true≢false (sym e))

noted_acts : {C : Type 0} (t : ℕ) (n : Next C) (xs : List Act) → total act_left (book.noted_for t n xs) ≤ total act_left xs
noted_acts t (Go b d) xs = omega arith
noted_acts t (Ended r) xs = acts_most t (book.with_result r) xs (λ x. omega arith)

pub ended_acts : {C : Type 0} (b : Bool) (t : ℕ) (o : Option (Outcome C)) (xs : List Act) → total act_left (if b then book.noted_from t o xs else xs) ≤ total act_left xs
ended_acts true t None xs = omega arith
ended_acts true t (Some x) xs = noted_acts t x.next xs
ended_acts false t o xs = omega arith

pub commit_one : (c : ℕ) (o : Option Act) → length (effects.act_commit c o) ≤ 1
commit_one c None = omega arith
commit_one c (Some x) = by (Rattle.protocol.specs.Words.is_value x.result)
  where
    by : (b : Bool) → length (if b then Rattle.protocol.specs.Records.ActDone x.tid x.m c (value_of x.result) (effects.ascending (map (λ p. p.actor) x.places)) ∷ [] else []) ≤ 1
    by true = omega arith
    by false = omega arith

-- ---- batches

batch_change_most : (b : Bool) (f : Batch → Batch) (x : Batch) → batch_left (f x) ≤ batch_left x → batch_left (desk.change_if b f x) ≤ batch_left x
batch_change_most true f x h = h
batch_change_most false f x h = omega arith

batch_change_falls : (b : Bool) (f : Batch → Batch) (x : Batch) (n : ℕ) → b ≡ true → batch_left (f x) + n ≤ batch_left x → batch_left (desk.change_if b f x) + n ≤ batch_left x
batch_change_falls true f x n e h = h
batch_change_falls false f x n e h = absurd (true≢false (sym e))

declared_mark_most : (b : Bool) (f : Declared → Declared) (p : Declared) → declared_left (f p) ≤ declared_left p → declared_left (desk.mark_if b f p) ≤ declared_left p
declared_mark_most true f x h = h
declared_mark_most false f x h = omega arith

declared_mark_falls : (b : Bool) (f : Declared → Declared) (p : Declared) (n : ℕ) → b ≡ true → declared_left (f p) + n ≤ declared_left p → declared_left (desk.mark_if b f p) + n ≤ declared_left p
declared_mark_falls true f x n e h = h
declared_mark_falls false f x n e h = absurd (true≢false (sym e))

-- a mark on an actor of the batch
pub batch_mark : (k a : ℕ) (f : Declared → Declared) (q : Batch → Bool) (r : Declared → Bool) (xs : List Batch) → ((p : Declared) → declared_left (f p) ≤ declared_left p) → ((p : Declared) → r p ≡ true → declared_left (f p) + 1 ≤ declared_left p)
    → ((b : Batch) → q b ≡ true → holds r (find (λ p. p.actor == a) b.places) ≡ true) → holds q (batch_of k xs) ≡ true
    → total batch_left (desk.changed_batch k (desk.marked a f) xs) + 1 ≤ total batch_left xs
batch_mark k a f q r xs h j i e = total_falls batch_left (λ b. desk.change_if (b.bid == k) (desk.marked a f) b) (λ b. b.bid == k) q 1 xs (λ b. batch_change_most (b.bid == k) (desk.marked a f) b (most b)) (λ b m n. batch_change_falls (b.bid == k) (desk.marked a f) b 1 m (falls b (i b n))) e
  where
    most : (b : Batch) → batch_left (desk.marked a f b) ≤ batch_left b
    most b = omega (arith, total_map declared_left (λ p. desk.mark_if (p.actor == a) f p) b.places (λ p. declared_mark_most (p.actor == a) f p (h p)))

    falls : (b : Batch) → holds r (find (λ p. p.actor == a) b.places) ≡ true → batch_left (desk.marked a f b) + 1 ≤ batch_left b
    falls b q = omega (arith, total_falls declared_left (λ p. desk.mark_if (p.actor == a) f p) (λ p. p.actor == a) r 1 b.places (λ p. declared_mark_most (p.actor == a) f p (h p)) (λ p m n. declared_mark_falls (p.actor == a) f p 1 m (j p n)) q)

-- a batch that is open commits: two at least
open_stage : (st : Stage) (ab : Bool) → (is_formed st && not ab) ≡ true → unless ab (stage_left st) ≡ 260
open_stage Formed true e = absurd (true≢false (sym e))
open_stage Formed false e = refl
open_stage Committing ab e = absurd (true≢false (sym e))
open_stage Settled ab e = absurd (true≢false (sym e))

committing_stage : (st : Stage) (ab : Bool) → (is_committing st && not ab) ≡ true → unless ab (stage_left st) ≡ 1
committing_stage Formed ab e = absurd (true≢false (sym e))
committing_stage Committing true e = absurd (true≢false (sym e))
committing_stage Committing false e = refl
committing_stage Settled ab e = absurd (true≢false (sym e))

-- Only the batch that is found changes, and its stage is known: but others with its number might rise. There are none.
pub stage_falls : (k n : ℕ) (st : Stage) (q : Batch → Bool) (xs : List Batch) → times k (map (λ b. b.bid) xs) ≤ 1 → ((b : Batch) → q b ≡ true → stage_left st + n ≤ unless b.aborted (stage_left b.stage)) → holds q (batch_of k xs) ≡ true
    → total batch_left (desk.changed_batch k (desk.with_stage st) xs) + n ≤ total batch_left xs
stage_falls k n st q [] l h e = absurd (true≢false (sym e))
stage_falls k n st q (x ∷ xs) l h e = by (x.bid == k) refl l' e (stage_falls k n st q xs)
  where
    l' : one_if (x.bid == k) + times k (map (λ b. b.bid) xs) ≤ 1
    l' = omega (arith, l, Times.times_cons k x.bid (map (λ b. b.bid) xs))

    none : (ys : List Batch) → times k (map (λ b. b.bid) ys) ≡ 0 → total batch_left (desk.changed_batch k (desk.with_stage st) ys) ≡ total batch_left ys
    none [] z = refl
    none (y ∷ ys) z = one (y.bid == k) (sym (Times.times_cons k y.bid (map (λ b. b.bid) ys)) ∙ z) (none ys)
      where
        one : (b : Bool) → one_if b + times k (map (λ b. b.bid) ys) ≡ 0 → (times k (map (λ b. b.bid) ys) ≡ 0 → total batch_left (desk.changed_batch k (desk.with_stage st) ys) ≡ total batch_left ys) → batch_left (desk.change_if b (desk.with_stage st) y) + total batch_left (desk.changed_batch k (desk.with_stage st) ys) ≡ batch_left y + total batch_left ys
        one true z r = absurd (omega (arith, z))
        one false z r = omega (arith, r (omega (arith, z)))

    by : (b : Bool) → (x.bid == k) ≡ b → one_if b + times k (map (λ b. b.bid) xs) ≤ 1 → holds q (if b then Some x else batch_of k xs) ≡ true → (times k (map (λ b. b.bid) xs) ≤ 1 → ((b : Batch) → q b ≡ true → stage_left st + n ≤ unless b.aborted (stage_left b.stage)) → holds q (batch_of k xs) ≡ true → total batch_left (desk.changed_batch k (desk.with_stage st) xs) + n ≤ total batch_left xs)
        → batch_left (desk.change_if b (desk.with_stage st) x) + total batch_left (desk.changed_batch k (desk.with_stage st) xs) + n ≤ batch_left x + total batch_left xs
    by true i m f r = omega (arith, none xs (omega (arith, m)), h x f, unless_most x.aborted (stage_left st))
    by false i m f r = omega (arith, r (omega (arith, m)) h f)

pub commit_stage : (b : Batch) (r : Bool) → (is_open b && r) ≡ true → stage_left Committing + 2 ≤ unless b.aborted (stage_left b.stage)
commit_stage b r e = let q = open_stage b.stage b.aborted (and_parts (is_open b) r e).0 in omega (arith, q)

pub settle_stage : (b : Batch) → (is_committing b.stage && not b.aborted) ≡ true → stage_left Settled + 1 ≤ unless b.aborted (stage_left b.stage)
settle_stage b e = let q = committing_stage b.stage b.aborted e in omega (arith, q)

taken_most : (k : ℕ) (b : Batch) → batch_left (desk.taken k b) ≤ batch_left b
taken_most k b = by b.aborted (nat_le k b.bid)
  where
    by : (x y : Bool) → unless (x || y) (stage_left b.stage) + total declared_left b.places ≤ unless x (stage_left b.stage) + total declared_left b.places
    by true y = omega arith
    by false true = omega arith
    by false false = omega arith

pub abort_falls : (k : ℕ) (r : Bool) (xs : List Batch) → holds (λ b. is_open b && r) (batch_of k xs) ≡ true → total batch_left (map (desk.taken k) xs) + 260 ≤ total batch_left xs
abort_falls k r xs e = total_falls batch_left (desk.taken k) (λ b. b.bid == k) (λ b. is_open b && r) 260 xs (taken_most k) one e
  where
    gone : (b : Batch) (x : Bool) → nat_le k b.bid ≡ true → unless (x || nat_le k b.bid) (stage_left b.stage) ≡ 0
    gone b true e = refl
    gone b false e = rw e refl

    one : (b : Batch) → (b.bid == k) ≡ true → (is_open b && r) ≡ true → batch_left (desk.taken k b) + 260 ≤ batch_left b
    one b i j = omega (arith, open_stage b.stage b.aborted (and_parts (is_open b) r j).0, gone b b.aborted (Rattle.std.proofs.lemmas.Bool.le-leb k b.bid (omega (arith, eqb-true b.bid k i))))

noted_batch : (t : ℕ) (r : TxResult) (b : Batch) → batch_left (desk.with_results t r b) ≤ batch_left b
noted_batch t r b = omega arith

pub ended_batches : {C : Type 0} (b : Bool) (t : ℕ) (o : Option (Outcome C)) (xs : List Batch) → total batch_left (if b then xs else desk.noted_from t o xs) ≤ total batch_left xs
ended_batches {C} true t o xs = omega arith
ended_batches {C} false t None xs = omega arith
ended_batches {C} false t (Some x) xs = by x.next
  where
    by : (n : Next C) → total batch_left (desk.noted_for t n xs) ≤ total batch_left xs
    by (Go b d) = omega arith
    by (Ended r) = total_map batch_left (desk.with_results t r) xs (noted_batch t r)

-- ---- logs

pub adds_most : (logs : List Log) (l : ℕ) (rs : List LogRecord) → total log_left (slice_set logs l (effects.added rs (slice_index_or logs l effects.no_log))) ≤ total log_left logs + length rs
adds_most logs l rs = total_set_most log_left logs l effects.no_log _ (length rs) (omega (arith, Times.length_join (slice_index_or logs l effects.no_log).records rs))

-- ---- messages and controls

pub arrive_costs : (k a : ℕ) (xs : List SubBatch) (o : Option SubBatch) → sub_of k a xs ≡ o → is_some o ≡ true → total sub_left (without_sub k a xs) + total entry_left (cell.batch_entries k o) + 1 ≤ total sub_left xs
arrive_costs k a xs None e q = absurd (true≢false (sym q))
arrive_costs k a xs (Some m) e q = omega (arith, total_out sub_left (λ m. (m.bid == k) && (m.actor == a)) m xs e, LeftLists.new_slots m.tids)

pub sub_gone : (k a : ℕ) (xs : List SubBatch) (o : Option SubBatch) → sub_of k a xs ≡ o → is_some o ≡ true → total sub_left (without_sub k a xs) + 1 ≤ total sub_left xs
sub_gone k a xs None e q = absurd (true≢false (sym q))
sub_gone k a xs (Some m) e q = omega (arith, total_out sub_left (λ m. (m.bid == k) && (m.actor == a)) m xs e)

pub control_gone : {C : Type 0} (code : Code C) (tids : List ℕ) (t : ℕ) (xs : List (ControlMessage C)) (o : Option (ControlMessage C)) → control_of t xs ≡ o → is_some o ≡ true → total (control_left code tids) (without_control t xs) + 3 ≤ total (control_left code tids) xs
control_gone code tids t xs None e q = absurd (true≢false (sym q))
control_gone code tids t xs (Some m) e q = omega (arith, total_out (control_left code tids) (λ m. m.tid == t) m xs e, LeftLists.gone_falls (is_among m.tid tids) (rest code m.control))

pub take_costs : {C : Type 0} (code : Code C) (tids : List ℕ) (t : ℕ) (q : ControlMessage C → Bool) (xs : List (ControlMessage C)) (o : Option (ControlMessage C)) → control_of t xs ≡ o → holds q o ≡ true → total (control_left code tids) (without_control t xs) + total (waiting_left code tids) (cell.arrived o) + 1 ≤ total (control_left code tids) xs
take_costs code tids t q xs None e h = absurd (true≢false (sym h))
take_costs code tids t q xs (Some m) e h = omega (arith, total_out (control_left code tids) (λ m. m.tid == t) m xs e, LeftLists.taken_falls (is_among m.tid tids) (rest code m.control))

pub ask_costs : {C : Type 0} (code : Code C) (tids : List ℕ) (t a : ℕ) (q : ControlMessage C → Bool) (xs : List (ControlMessage C)) (o : Option (ControlMessage C)) (older : Option ℕ) (group : List Lock) (c : Cell C) (b : Book)
    → control_of t xs ≡ o → holds q o ≡ true → is_among t tids ≡ true → times t (map (λ x. x.tid) b.acts) ≤ 1
    → total (control_left code tids) (without_control t xs) + total (waiting_left code tids) (cell.where_placed older o) + total act_left (book.asked_acts older group t a (max c.last (floor_at t b.acts c)) b) + 1 ≤ total (control_left code tids) xs + total act_left b.acts
ask_costs {C} code tids t a q xs None older group c b e h i l = absurd (true≢false (sym h))
ask_costs {C} code tids t a q xs (Some m) None group c b e h i l =
    let f = total_out (control_left code tids) (λ m. m.tid == t) m xs e in
    let s : is_among m.tid tids ≡ true = subst (λ z. is_among z tids ≡ true) (sym (found m xs e)) i in
    omega (arith, f, LeftLists.asked_falls (is_among m.tid tids) (rest code m.control) s, asked_most group t a c b l)
  where
    found : (y : ControlMessage C) (ys : List (ControlMessage C)) → control_of t ys ≡ Some y → y.tid ≡ t
    found y [] e = absurd (cc e)
    found y (x ∷ ys) e = by (x.tid == t) refl e (found y ys)
      where
        by : (b : Bool) → (x.tid == t) ≡ b → (if b then Some x else control_of t ys) ≡ Some y → (control_of t ys ≡ Some y → y.tid ≡ t) → y.tid ≡ t
        by true j g k = let z : x ≡ y = cc g in subst (λ v. v.tid ≡ t) z (eqb-true x.tid t j)
        by false j g k = k g
ask_costs {C} code tids t a q xs (Some m) (Some older) group c b e h i l =
    omega (arith, total_out (control_left code tids) (λ m. m.tid == t) m xs e, LeftLists.gone_falls (is_among m.tid tids) (rest code m.control), acts_most t (book.doomed_by (Rattle.protocol.specs.Verdicts.died a older t)) b.acts (doomed_most (Rattle.protocol.specs.Verdicts.died a older t)))

pub no_entries : (t : Lock) (o : Option ℕ) → total entry_left (cell.act_entries t o) ≡ 0
no_entries t None = refl
no_entries t (Some x) = refl

pub send_costs : {C : Type 0} (code : Code C) (tids : List ℕ) (t : ℕ) (who : Who) (xs : List (Outcome C)) (o : Option (Outcome C)) → outcome_of t xs ≡ o → holds (λ x. is_going x.next) o ≡ true
    → total (control_left code tids) (post.handed_on who o) + total (outcome_left code tids) (without_outcome t xs) + 1 ≤ total (outcome_left code tids) xs
send_costs code tids t who xs None e q = absurd (true≢false (sym q))
send_costs {C} code tids t who xs (Some x) e q = let h = by x.next q in omega (arith, total_out (outcome_left code tids) (λ x. x.tid == t) x xs e, h)
  where
    by : (n : Next C) → is_going n ≡ true → total (control_left code tids) (post.going_on who x.tid n) + 1 ≤ next_left code (visit (is_among x.tid tids)) n
    by (Go b d) e = omega arith
    by (Ended r) e = absurd (true≢false (sym e))

pub end_costs : {C : Type 0} (code : Code C) (tids : List ℕ) (t : ℕ) (xs : List (Outcome C)) (o : Option (Outcome C)) → outcome_of t xs ≡ o → holds (λ x. is_ended x.next) o ≡ true → total (outcome_left code tids) (without_outcome t xs) + 1 ≤ total (outcome_left code tids) xs
end_costs code tids t xs None e q = absurd (true≢false (sym q))
end_costs {C} code tids t xs (Some x) e q = let h = by x.next q in omega (arith, total_out (outcome_left code tids) (λ x. x.tid == t) x xs e, h)
  where
    by : (n : Next C) → is_ended n ≡ true → 1 ≤ next_left code (visit (is_among x.tid tids)) n
    by (Go b d) e = absurd (true≢false (sym e))
    by (Ended r) e = omega arith

-- ---- a slice

-- a rest of some transaction
abbrev pub RestOf : {C : Type 0} → Fixed C → (Tx → C → Type 0) → Next C → Type 0
RestOf w Of n = (tx : Tx) × IsOf w Of tx n

pub slice_costs : {C : Type 0} (w : Fixed C) (Of : Tx → C → Type 0) (finish : C → List State → Alone) (tids : List ℕ) (t a : ℕ) (s : State) (xs : List (Waiting C)) (o : Option (Waiting C)) → Facts (length w.text.opening.states) w.code (IsTxIn w.text) Of finish
    → waiting_of t xs ≡ o → is_some o ≡ true → ((x : Waiting C) → waiting_of t xs ≡ Some x → RestOf w Of (Go a x.control) × ((x.tid == t) ≡ true))
    → total (waiting_left w.code tids) (without_waiting t xs) + total (outcome_left w.code tids) (cell.outcomes t (cell.sliced w.code s o)) + 1 ≤ total (waiting_left w.code tids) xs
slice_costs w Of finish tids t a s xs None f e q k = absurd (true≢false (sym q))
slice_costs {C} w Of finish tids t a s xs (Some x) f e q k =
    let r = k x e in
    let i : x.tid ≡ t = eqb-true x.tid t r.1 in
    let c = by r.0.0 r.0.1.0 (w.code.slice x.control s).next refl in
    let j : visit (is_among x.tid tids) * rest w.code x.control ≡ visit (is_among t tids) * rest w.code x.control = ap (λ z. visit (is_among z tids) * rest w.code x.control) i in
    omega (arith, total_out (waiting_left w.code tids) (λ x. x.tid == t) x xs e, c, j)
  where
    by : (tx : Tx) → Of tx x.control → (n : Next C) → (w.code.slice x.control s).next ≡ n → next_left w.code (visit (is_among t tids)) n + 1 ≤ visit (is_among t tids) * rest w.code x.control + 2
    by tx p (Go b d) g = LeftLists.run_falls (is_among t tids) (rest w.code x.control) (rest w.code d) (omega (arith, f.visits_fall tx x.control d b (record { from = s; of_it = p; goes = g }), f.one_visit tx d (f.stays tx x.control d b (record { from = s; of_it = p; goes = g }))))
    by tx p (Ended r) g = omega arith

pub outbox_join : {C : Type 0} (code : Code C) (tids : List ℕ) (xs ys : List (Outcome C)) → total (outcome_left code tids) (xs ++ ys) ≡ total (outcome_left code tids) xs + total (outcome_left code tids) ys
outbox_join code tids xs ys = total_join (outcome_left code tids) xs ys

-- ---- a new batch

pub count_some : {X : Type 0} (g : X → ℕ) (p : X → Bool) (xs : List X) → list_any p xs ≡ true → 1 ≤ length (map g (filter p xs))
count_some g p [] e = absurd (true≢false (sym e))
count_some g p (x ∷ xs) e = by (p x) e (count_some g p xs)
  where
    by : (b : Bool) → (b || list_any p xs) ≡ true → (list_any p xs ≡ true → 1 ≤ length (map g (filter p xs))) → 1 ≤ length (map g (if b then x ∷ filter p xs else filter p xs))
    by true q k = omega arith
    by false q k = k q

count_cons : {X : Type 0} (g : X → ℕ) (p : X → Bool) (x : X) (xs : List X) → length (map g (filter p (x ∷ xs))) ≡ one_if (p x) + length (map g (filter p xs))
count_cons g p x xs = by (p x)
  where
    by : (b : Bool) → length (map g (if b then x ∷ filter p xs else filter p xs)) ≡ one_if b + length (map g (filter p xs))
    by true = omega arith
    by false = omega arith

total_plus : {X : Type 0} (f g h : X → ℕ) (xs : List X) → ((x : X) → f x ≤ g x + h x) → total f xs ≤ total g xs + total h xs
total_plus f g h [] k = omega arith
total_plus f g h (x ∷ xs) k = omega (arith, k x, total_plus f g h xs k)

total_zero : {X : Type 0} (xs : List X) → total (λ x. 0) xs ≡ 0
total_zero [] = refl
total_zero (x ∷ xs) = omega (arith, total_zero xs)

none_below : (d n : ℕ) → n ≤ d → total (λ a. one_if (d == a)) (below n) ≡ 0
none_below d zero l = refl
none_below d (suc n) l = omega (arith, total_join (λ a. one_if (d == a)) (below n) (n ∷ []), none_below d n (omega (arith, l)), ap one_if (Rattle.std.proofs.lemmas.Bool.ne_eqb d n (λ q. omega (arith, q, l))))

once_below : (d n : ℕ) → total (λ a. one_if (d == a)) (below n) ≤ 1
once_below d zero = omega arith
once_below d (suc n) = elim (cases_Bool (d == n)) [
  | inl e ↦ omega (arith, total_join (λ a. one_if (d == a)) (below n) (n ∷ []), none_below d n (omega (arith, eqb-true d n e)), ap one_if e)
  | inr e ↦ omega (arith, total_join (λ a. one_if (d == a)) (below n) (n ∷ []), once_below d n, ap one_if e)
]

among_below : (n : ℕ) (ds : List ℕ) → total (λ a. one_if (is_among a ds)) (below n) ≤ length ds
among_below n [] = omega (arith, total_zero (below n))
among_below n (d ∷ ds) = omega (arith, total_plus (λ a. one_if (is_among a (d ∷ ds))) (λ a. one_if (d == a)) (λ a. one_if (is_among a ds)) (below n) (λ a. either (d == a) (is_among a ds)), once_below d n, among_below n ds)
  where
    either : (x y : Bool) → one_if (x || y) ≤ one_if x + one_if y
    either true y = omega arith
    either false y = omega arith

pub few_uses : {C : Type 0} (w : Fixed C) (n : ℕ) → AllByRecursion (λ tx. length (declared tx) ≤ 16) w.text.txs → length (declared (tx_at w.text n)) ≤ 16
few_uses w n h = all_get (λ tx. length (declared tx) ≤ 16) w.text.txs n no_tx (omega arith) h

pub declarers : {C : Type 0} (w : Fixed C) (n : ℕ) (ps : List Pact) → AllByRecursion (λ tx. length (declared tx) ≤ 16) w.text.txs → total (λ a. length (map (λ p. p.tid) (filter (ring.declares w.text a) ps))) (below n) ≤ 16 * length ps
declarers w n [] h = omega (arith, total_zero (below n))
declarers w n (p ∷ ps) h = omega (arith, total_plus (λ a. length (map (λ p. p.tid) (filter (ring.declares w.text a) (p ∷ ps)))) (λ a. one_if (ring.declares w.text a p)) (λ a. length (map (λ p. p.tid) (filter (ring.declares w.text a) ps))) (below n) (λ a. le (count_cons (λ p. p.tid) (ring.declares w.text a) p ps)), among_below n (declared (tx_at w.text p.tx)), few_uses w p.tx h, declarers w n ps h)
  where
    le : {x y : ℕ} → x ≡ y → x ≤ y
    le e = omega (arith, e)

-- what actors cost
actors_cost : {C : Type 0} (w : Fixed C) (k : ℕ) (r : Ring) (es : List ℕ) → total sub_left (map (ring.first_sub w.text k r) (filter (λ a. list_any (ring.declares w.text a) (ring.next_pacts w.text r)) es)) + total declared_left (map desk.new_declared (filter (λ a. list_any (ring.declares w.text a) (ring.next_pacts w.text r)) es)) ≤ 6 * total (λ a. length (ring.next_tids_on w.text r a)) es
actors_cost w k r [] = omega arith
actors_cost w k r (a ∷ es) = by (list_any (ring.declares w.text a) (ring.next_pacts w.text r)) (count_some (λ p. p.tid) (ring.declares w.text a) (ring.next_pacts w.text r)) (actors_cost w k r es)
  where
    rest_of : List ℕ
    rest_of = filter (λ a. list_any (ring.declares w.text a) (ring.next_pacts w.text r)) es

    by : (b : Bool) → (b ≡ true → 1 ≤ length (ring.next_tids_on w.text r a)) → total sub_left (map (ring.first_sub w.text k r) rest_of) + total declared_left (map desk.new_declared rest_of) ≤ 6 * total (λ a. length (ring.next_tids_on w.text r a)) es
        → total sub_left (map (ring.first_sub w.text k r) (if b then a ∷ rest_of else rest_of)) + total declared_left (map desk.new_declared (if b then a ∷ rest_of else rest_of)) ≤ 6 * (length (ring.next_tids_on w.text r a) + total (λ a. length (ring.next_tids_on w.text r a)) es)
    by true e h = omega (arith, e refl, h)
    by false e h = omega (arith, h)

pub form_costs : {C : Type 0} (w : Fixed C) (k : ℕ) (r : Ring) → AllByRecursion (λ tx. length (declared tx) ≤ 16) w.text.txs → total sub_left (map (ring.first_sub w.text k r) (ring.next_actors w.text r)) + total declared_left (map desk.new_declared (ring.next_actors w.text r)) ≤ 96 * length (ring.next_pacts w.text r)
form_costs w k r h = omega (arith, actors_cost w k r (below (length r.lasts)), declarers w (length r.lasts) (ring.next_pacts w.text r) h)

first_costs : (b : Bool) (v : ℕ) → b ≡ false → v ≤ 127 → visit b * (v - 1 + 1) ≤ 381
first_costs true v e l = absurd (true≢false e)
first_costs false v e l = omega (arith, l)

pub controls_cost : {C : Type 0} (w : Fixed C) (Of : Tx → C → Type 0) (finish : C → List State → Alone) (tids : List ℕ) (k low t : ℕ) (ns : List ℕ) → Facts (length w.text.opening.states) w.code (IsTxIn w.text) Of finish → low ≤ t → ((u : ℕ) → low ≤ u → is_among u tids ≡ false)
    → total (control_left w.code tids) (map (λ q. post.first_control w (OfBatch k) q.tid q.tx) (ring.numbered t ns)) ≤ 381 * length ns
controls_cost w Of finish tids k low t [] f l h = omega arith
controls_cost w Of finish tids k low t (n ∷ ns) f l h = omega (arith, first_costs (is_among t tids) (w.code.visits_left (w.code.start t (tx_at w.text n))) (h t l) (f.few_visits t (tx_at w.text n)), controls_cost w Of finish tids k low (t + 1) ns f (omega (arith, l)) h)

pub act_costs : (b : Bool) (v : ℕ) → v ≤ 127 → visit b * (v - 1 + 1) ≤ 889
act_costs true v l = omega (arith, l)
act_costs false v l = omega (arith, l)
