-- What is known of the logs that a run grew, and where records stand in them.
use Rattle.std.specs.Prelude.{◌≡◌, ◌≢◌, ℕ, zero, suc, ◌+◌, ◌<◌, ◌≤◌, ◌%◌, ◌⊎◌, true, Some, List, [], ◌∷◌, ◌++◌, length, map, slice_index_or}
use Rattle.std.specs.List.{AllByRecursion}
use Rattle.std.proofs.Common.{arith, sym, ap, subst, mod-lt, inl, inr, ◌∙◌}
use Rattle.snap_base.specs.declared.ids.Bid.{Bid}
use Rattle.snap_base.specs.declared.ids.Tid.{Tid}
use Rattle.snap_base.proofs.Lists.{all_front, all_back}
use Rattle.protocol.specs.Fixed.{Fixed, base}
use Rattle.protocol.specs.Numbers.{from}
use Rattle.protocol.specs.Records.{LogRecord}
use Rattle.protocol.specs.Parts.{Act, OfBatch, OfAct, Machine}
use Rattle.protocol.specs.Words.{count, act_of}
use Rattle.protocol_laws.specs.Told.{has_number}
use Rattle.protocol_records.specs.Crash.{is_in, BatchIsWhole, ActIsWhole}
use Rattle.protocol_records.specs.RecordLaws.{RecordKey, has_key, TellsOf}
use Rattle.txn_records.specs.declared.records.Record.{Record}
use Rattle.txn_records.specs.declared.records.Record.TheVariants.{Genesis, BatchInfo, BatchComplete, BatchCommit, ActPrepare, ActCommit, BatchDone, ActDone, Checkpoint}
use Rattle.txn_records.specs.declared.keys.Key.TheVariants as keys
use Rattle.txn_records.specs.Records.{key}
use Rattle.snap_recover.specs.declared.openings.Opening.{Opening}
use Rattle.snap_recover.specs.Logs.{HasKey, all_of, log_of, tids_in, bids_in}
use Rattle.snap_recover.specs.Opening.{IsIn, IsActIn, IsInRange, IsRecovered}
use Rattle.snap_recover.proofs.Lists.{all_contains, contains_unmap}
use Rattle.snap_recover.proofs.Growing.{has_left, has_right, has_cases}
use Rattle.snap_recover.proofs.Greatest.{each_below}
use Rattle.log_set.specs.Told.{bid_of, tid_of, all_told}
use Rattle.recovery_laws.specs.Grown.{grown, BeginsFrom}
use Rattle.recovery_laws.proofs.WrittenLists.{has_commit, commit_has, has_act, act_has, act_tids, act_from, batch_bids, commit_from, grown_length, grown_at}

-- no two of them have one tid
abbrev pub Apart : List Act → Type 0
Apart [] = Unit {0}
Apart (x ∷ xs) = AllByRecursion (λ y. y.tid ≢ x.tid) xs × Apart xs

-- what is known of what the logs hold of the run
pub record Known {C : Type 0} (w : Fixed C) (earlier : List (List Record)) (o : Opening) (s : Machine C) (logs : ℕ → List LogRecord) : Type 0 where
  pub many : length earlier ≡ w.text.logs
  pub some : 1 ≤ w.text.logs
  pub some_bid : 1 ≤ w.text.opening.next_bid
  pub before : IsRecovered earlier o
  pub begins : BeginsFrom w.text o
  pub whole : (k : ℕ) → is_in w.text.logs logs (OfBatch k) ≡ true → BatchIsWhole w.text.logs logs k
  pub whole_acts : (t : ℕ) → is_in w.text.logs logs (OfAct t) ≡ true → ActIsWhole w.text.logs logs t
  pub tells : (l : ℕ) → AllByRecursion (TellsOf s.desk.batches s.book.acts) (logs l)
  pub once : (k : RecordKey) (l : ℕ) → count (has_key k) (logs l) ≤ 1
  pub low : (l : ℕ) → AllByRecursion (λ r. AllByRecursion (λ n. w.text.opening.next_bid ≤ n) (batch_bids r)) (logs l)
  pub low_acts : (l : ℕ) → AllByRecursion (λ r. AllByRecursion (λ n. w.text.opening.next_tid ≤ n) (act_tids r)) (logs l)
  pub range : (l : ℕ) → AllByRecursion (IsInRange (length w.text.opening.states)) (all_told (logs l))
  pub bids : map (λ b. b.bid) s.desk.batches ≡ from w.text.opening.next_bid (length s.desk.batches)
  -- no two ACTs have one tid, none has its place before earlier runs, and its commit number is of this run
  pub apart : Apart s.book.acts
  pub based : AllByRecursion (λ x. base w.text ≤ x.m) s.book.acts
  pub numbered : (t : ℕ) (x : Act) → act_of t s.book.acts ≡ Some x → (c : ℕ) → has_number c x.status ≡ true → w.text.opening.next_c ≤ c

-- ---- where records stand

pub log_grown : {C : Type 0} (w : Fixed C) (earlier : List (List Record)) (o : Opening) (s : Machine C) (logs : ℕ → List LogRecord) (n : ℕ) → Known w earlier o s logs → log_of (grown earlier logs) n ≡ log_of earlier n ++ all_told (logs (n % w.text.logs))
log_grown w earlier o s logs n g =
    let e : 0 + n % length earlier ≡ n % w.text.logs = (let z : 0 + n % length earlier ≡ n % length earlier = omega arith in z) ∙ ap (λ z. n % z) g.many in
    ap (λ z. slice_index_or (grown earlier logs) (n % z) []) (grown_length 0 earlier logs)
    ∙ (grown_at 0 (n % length earlier) earlier logs (mod-lt n (subst (λ z. 1 ≤ z) (sym g.many) g.some)) ∙ ap (λ z. slice_index_or earlier (n % length earlier) [] ++ all_told (logs z)) e)

pub all_at : (P : Record → Type 0) (logs : List (List Record)) (i : ℕ) → AllByRecursion P (all_of logs) → AllByRecursion P (slice_index_or logs i [])
all_at P [] i h = tt
all_at P (rs ∷ rss) zero h = all_front P rs (all_of rss) h
all_at P (rs ∷ rss) (suc i) h = all_at P rss i (all_back P rs (all_of rss) h)

-- the batches of earlier runs are below this run's
pub old_low : {C : Type 0} (w : Fixed C) (earlier : List (List Record)) (o : Opening) (s : Machine C) (logs : ℕ → List LogRecord) (n : ℕ) → Known w earlier o s logs → AllByRecursion (λ r. AllByRecursion (λ x. x < w.text.opening.next_bid) (bids_in r)) (log_of earlier n)
old_low w earlier o s logs n g = all_at (λ r. AllByRecursion (λ x. x < w.text.opening.next_bid) (bids_in r)) earlier (n % length earlier) (each_below bids_in (all_of earlier) w.text.opening.next_bid (omega (arith, g.before.next_bid, g.begins.next_bid)))

commit_low : (r : Record) (b : Bid) (n : ℕ) → key r ≡ keys.Commit b → AllByRecursion (λ x. x < n) (bids_in r) → b.0 < n
commit_low (Genesis l ss) b n e h = absurd (cc e)
commit_low (BatchInfo k a t) b n e h = absurd (cc e)
commit_low (BatchComplete k a t) b n e h = absurd (cc e)
commit_low (BatchCommit k) b n e h = let q : k ≡ b = cc e in subst (λ z. z.0 < n) q h.0
commit_low (ActPrepare t a st) b n e h = absurd (cc e)
commit_low (ActCommit t m c actors) b n e h = absurd (cc e)
commit_low (BatchDone k v) b n e h = let q : k ≡ b = cc e in subst (λ z. z.0 < n) q h.0
commit_low (ActDone t m c v actors) b n e h = absurd (cc e)
commit_low (Checkpoint g t k c x y ss) b n e h = absurd (cc e)

pub in_old : {C : Type 0} (w : Fixed C) (earlier : List (List Record)) (o : Opening) (s : Machine C) (logs : ℕ → List LogRecord) (b : Bid) → Known w earlier o s logs → IsIn earlier b → b.0 < w.text.opening.next_bid
in_old w earlier o s logs b g h = let r = contains_unmap key (log_of earlier b.0) (keys.Commit b) h in commit_low r.0 b w.text.opening.next_bid r.2 (all_contains (λ r. AllByRecursion (λ x. x < w.text.opening.next_bid) (bids_in r)) (log_of earlier b.0) r.0 (old_low w earlier o s logs b.0 g) r.1)

pub in_cases : {C : Type 0} (w : Fixed C) (earlier : List (List Record)) (o : Opening) (s : Machine C) (logs : ℕ → List LogRecord) (b : Bid) → Known w earlier o s logs → IsIn (grown earlier logs) b → IsIn earlier b ⊎ (is_in w.text.logs logs (OfBatch b.0) ≡ true)
in_cases w earlier o s logs b g h = elim (has_cases (log_of earlier b.0) (all_told (logs (b.0 % w.text.logs))) (keys.Commit b) (subst (λ z. HasKey z (keys.Commit b)) (log_grown w earlier o s logs b.0 g) h)) [
  | inl q ↦ inl q
  | inr q ↦ inr (has_commit (logs (b.0 % w.text.logs)) b q)
]

pub in_stays : {C : Type 0} (w : Fixed C) (earlier : List (List Record)) (o : Opening) (s : Machine C) (logs : ℕ → List LogRecord) (b : Bid) → Known w earlier o s logs → IsIn earlier b → IsIn (grown earlier logs) b
in_stays w earlier o s logs b g h = subst (λ z. HasKey z (keys.Commit b)) (sym (log_grown w earlier o s logs b.0 g)) (has_left (log_of earlier b.0) (all_told (logs (b.0 % w.text.logs))) (keys.Commit b) h)

pub in_new : {C : Type 0} (w : Fixed C) (earlier : List (List Record)) (o : Opening) (s : Machine C) (logs : ℕ → List LogRecord) (k : ℕ) → Known w earlier o s logs → is_in w.text.logs logs (OfBatch k) ≡ true → IsIn (grown earlier logs) (bid_of k)
in_new w earlier o s logs k g h = subst (λ z. HasKey z (keys.Commit (bid_of k))) (sym (log_grown w earlier o s logs k g)) (has_right (log_of earlier k) (all_told (logs (k % w.text.logs))) (keys.Commit (bid_of k)) (commit_has (logs (k % w.text.logs)) k h))

pub new_low : {C : Type 0} (w : Fixed C) (earlier : List (List Record)) (o : Opening) (s : Machine C) (logs : ℕ → List LogRecord) (k : ℕ) → Known w earlier o s logs → is_in w.text.logs logs (OfBatch k) ≡ true → w.text.opening.next_bid ≤ k
new_low w earlier o s logs k g h = commit_from (logs (k % w.text.logs)) w.text.opening.next_bid k (g.low (k % w.text.logs)) h

-- ---- the same of ACTs

-- the ACTs of earlier runs are below this run's
pub old_acts_low : {C : Type 0} (w : Fixed C) (earlier : List (List Record)) (o : Opening) (s : Machine C) (logs : ℕ → List LogRecord) (n : ℕ) → Known w earlier o s logs → AllByRecursion (λ r. AllByRecursion (λ x. x < w.text.opening.next_tid) (tids_in r)) (log_of earlier n)
old_acts_low w earlier o s logs n g = all_at (λ r. AllByRecursion (λ x. x < w.text.opening.next_tid) (tids_in r)) earlier (n % length earlier) (each_below tids_in (all_of earlier) w.text.opening.next_tid (omega (arith, g.before.next_tid, g.begins.next_tid)))

act_low : (r : Record) (t : Tid) (n : ℕ) → key r ≡ keys.Act t → AllByRecursion (λ x. x < n) (tids_in r) → t.0 < n
act_low (Genesis l ss) t n e h = absurd (cc e)
act_low (BatchInfo k a u) t n e h = absurd (cc e)
act_low (BatchComplete k a u) t n e h = absurd (cc e)
act_low (BatchCommit k) t n e h = absurd (cc e)
act_low (ActPrepare u a st) t n e h = absurd (cc e)
act_low (ActCommit u m c actors) t n e h = let q : u ≡ t = cc e in subst (λ z. z.0 < n) q h.0
act_low (BatchDone k v) t n e h = absurd (cc e)
act_low (ActDone u m c v actors) t n e h = let q : u ≡ t = cc e in subst (λ z. z.0 < n) q h.0
act_low (Checkpoint g u k c x y ss) t n e h = absurd (cc e)

pub act_old : {C : Type 0} (w : Fixed C) (earlier : List (List Record)) (o : Opening) (s : Machine C) (logs : ℕ → List LogRecord) (t : Tid) → Known w earlier o s logs → IsActIn earlier t → t.0 < w.text.opening.next_tid
act_old w earlier o s logs t g h = let r = contains_unmap key (log_of earlier t.0) (keys.Act t) h in act_low r.0 t w.text.opening.next_tid r.2 (all_contains (λ r. AllByRecursion (λ x. x < w.text.opening.next_tid) (tids_in r)) (log_of earlier t.0) r.0 (old_acts_low w earlier o s logs t.0 g) r.1)

pub act_cases : {C : Type 0} (w : Fixed C) (earlier : List (List Record)) (o : Opening) (s : Machine C) (logs : ℕ → List LogRecord) (t : Tid) → Known w earlier o s logs → IsActIn (grown earlier logs) t → IsActIn earlier t ⊎ (is_in w.text.logs logs (OfAct t.0) ≡ true)
act_cases w earlier o s logs t g h = elim (has_cases (log_of earlier t.0) (all_told (logs (t.0 % w.text.logs))) (keys.Act t) (subst (λ z. HasKey z (keys.Act t)) (log_grown w earlier o s logs t.0 g) h)) [
  | inl q ↦ inl q
  | inr q ↦ inr (has_act (logs (t.0 % w.text.logs)) t q)
]

pub act_stays : {C : Type 0} (w : Fixed C) (earlier : List (List Record)) (o : Opening) (s : Machine C) (logs : ℕ → List LogRecord) (t : Tid) → Known w earlier o s logs → IsActIn earlier t → IsActIn (grown earlier logs) t
act_stays w earlier o s logs t g h = subst (λ z. HasKey z (keys.Act t)) (sym (log_grown w earlier o s logs t.0 g)) (has_left (log_of earlier t.0) (all_told (logs (t.0 % w.text.logs))) (keys.Act t) h)

pub act_new : {C : Type 0} (w : Fixed C) (earlier : List (List Record)) (o : Opening) (s : Machine C) (logs : ℕ → List LogRecord) (t : ℕ) → Known w earlier o s logs → is_in w.text.logs logs (OfAct t) ≡ true → IsActIn (grown earlier logs) (tid_of t)
act_new w earlier o s logs t g h = subst (λ z. HasKey z (keys.Act (tid_of t))) (sym (log_grown w earlier o s logs t g)) (has_right (log_of earlier t) (all_told (logs (t % w.text.logs))) (keys.Act (tid_of t)) (act_has (logs (t % w.text.logs)) t h))

pub new_act_low : {C : Type 0} (w : Fixed C) (earlier : List (List Record)) (o : Opening) (s : Machine C) (logs : ℕ → List LogRecord) (t : ℕ) → Known w earlier o s logs → is_in w.text.logs logs (OfAct t) ≡ true → w.text.opening.next_tid ≤ t
new_act_low w earlier o s logs t g h = act_from (logs (t % w.text.logs)) w.text.opening.next_tid t (g.low_acts (t % w.text.logs)) h
