-- The records of a run: what each is about, where it lies, how many there are, what they tell, and what is durable.
use Rattle.std.specs.Prelude.{◌≡◌, ℕ, ℤ, ◌+◌, ◌*◌, ◌%◌, ◌≤◌, Bool, true, false, not, ◌&&◌, Option, Some, option_map, List, [], ◌∷◌, ◌++◌, length, map}
use Rattle.std.specs.List.{AllByRecursion, list_all}
use Rattle.snap_base.specs.declared.transactions.State.{State}
use Rattle.snap_base.specs.declared.transactions.TxResult.{TxResult}
use Rattle.snap_base.specs.declared.transactions.TxResult.TheVariants.{Value}
use Rattle.protocol.specs.Fixed.{Fixed}
use Rattle.protocol.specs.Facts.{Alone}
use Rattle.protocol.specs.Records.{LogRecord, BatchInfo, BatchComplete, BatchDone, ActPrepare, ActDone, is_info, is_complete, is_commit, is_prepare, is_act_commit}
use Rattle.protocol.specs.Parts.{Act, Batch, Log, Machine}
use Rattle.protocol.specs.Words.{holds, is_among, is_value, is_formed, is_settled, is_ordered, is_sealed, is_durable, act_of, batch_of, count}
use Rattle.protocol.specs.Effects.{log_at, ascending}
use Rattle.protocol.specs.History.{History}
use Rattle.protocol_laws.specs.Told.{has_number}

-- ---- what a record is about, and where it lies

pub data RecordKey : Type 0 where
  OfInfo : (bid : ℕ) → RecordKey
  OfComplete : (bid : ℕ) (actor : ℕ) → RecordKey
  OfCommit : (bid : ℕ) → RecordKey
  OfPrepare : (tid : ℕ) (actor : ℕ) → RecordKey
  OfActCommit : (tid : ℕ) → RecordKey

abbrev pub record_key : LogRecord → RecordKey
record_key (BatchInfo k actors tids) = OfInfo k
record_key (BatchComplete k a state) = OfComplete k a
record_key (BatchDone k vs) = OfCommit k
record_key (ActPrepare t a state) = OfPrepare t a
record_key (ActDone t m c v actors) = OfActCommit t

abbrev pub has_key : RecordKey → LogRecord → Bool
has_key (OfInfo k) r = is_info k r
has_key (OfComplete k a) r = is_complete k a r
has_key (OfCommit k) r = is_commit k r
has_key (OfPrepare t a) r = is_prepare t a r
has_key (OfActCommit t) r = is_act_commit t r

-- where there are so many logs, the log in which a record of this key belongs
abbrev pub home : ℕ → RecordKey → ℕ
home many (OfInfo k) = k % many
home many (OfComplete k a) = a % many
home many (OfCommit k) = k % many
home many (OfPrepare t a) = a % many
home many (OfActCommit t) = t % many

-- the records of all logs, log by log
abbrev pub all_records : List Log → List LogRecord
all_records [] = []
all_records (l ∷ ls) = l.records ++ all_records ls

-- Each record lies in its log, and no two in all logs have the same key.
pub record RecordsAddedOnce {C : Type 0} (w : Fixed C) (finish : C → List State → Alone) (s : Machine C) (h : History) : Type 0 where
  pub at_home : (l : ℕ) → AllByRecursion (λ r. home w.text.logs (record_key r) ≡ l) (log_at s l).records
  pub once : (k : RecordKey) → count (has_key k) (all_records s.logs) ≤ 1

-- ---- what a record tells

abbrev pub batch_actors : Batch → List ℕ
batch_actors b = map (λ p. p.actor) b.places

abbrev pub batch_pact_tids : Batch → List ℕ
batch_pact_tids b = map (λ p. p.tid) b.pacts

abbrev pub batch_results : Batch → List (Option TxResult)
batch_results b = map (λ p. p.result) b.pacts

-- a result that is this value
abbrev pub valued : ℤ → Option TxResult
valued v = Some (Value v)

abbrev pub act_actors : Act → List ℕ
act_actors x = map (λ p. p.actor) x.places

-- it committed at (m, 1, c), with this value, on these actors
pub record ActCommitted (acts : List Act) (t m c : ℕ) (v : ℤ) (actors : List ℕ) : Type 0 where
  pub act : Act
  pub found : act_of t acts ≡ Some act
  pub m_is : act.m ≡ m
  pub c_is : has_number c act.status ≡ true
  pub result_is : act.result ≡ valued v
  pub actors_are : ascending (act_actors act) ≡ actors

-- A record is of a batch or an ACT that is known, and tells it as it is.
abbrev pub TellsOf : List Batch → List Act → LogRecord → Type 0
TellsOf batches acts (BatchInfo k actors tids) = (option_map batch_actors (batch_of k batches) ≡ Some actors) × (option_map batch_pact_tids (batch_of k batches) ≡ Some tids)
TellsOf batches acts (BatchComplete k a state) = holds (λ b. is_among a (batch_actors b)) (batch_of k batches) ≡ true
TellsOf batches acts (BatchDone k vs) = (holds (λ b. not (is_formed b.stage)) (batch_of k batches) ≡ true) × (option_map batch_results (batch_of k batches) ≡ Some (map valued vs))
TellsOf batches acts (ActPrepare t a state) = holds (λ x. is_value x.result && is_among a (act_actors x)) (act_of t acts) ≡ true
TellsOf batches acts (ActDone t m c v actors) = ActCommitted acts t m c v actors

abbrev pub RecordsTell : {C : Type 0} → Fixed C → (C → List State → Alone) → Machine C → History → Type 0
RecordsTell w finish s h = (l : ℕ) → AllByRecursion (TellsOf s.desk.batches s.book.acts) (log_at s l).records

-- ---- how many there are

-- a batch has its info and its commit, and one for each actor; an ACT its commit, and one for each actor
abbrev pub most_of_batches : List Batch → ℕ
most_of_batches [] = 0
most_of_batches (b ∷ bs) = 2 + length b.places + most_of_batches bs

abbrev pub most_of_acts : List Act → ℕ
most_of_acts [] = 0
most_of_acts (x ∷ xs) = 1 + length x.places + most_of_acts xs

-- at most so many records a transaction
abbrev pub most_records : ℕ
most_records = 18

pub record RecordsAreFew {C : Type 0} (w : Fixed C) (finish : C → List State → Alone) (s : Machine C) (h : History) : Type 0 where
  pub of_each : length (all_records s.logs) ≤ most_of_batches s.desk.batches + most_of_acts s.book.acts
  -- a batch has a PACT, and at most sixteen actors for each; an ACT has at most sixteen
  pub batches : AllByRecursion (λ b. (1 ≤ length b.pacts) × (length b.places ≤ 16 * length b.pacts)) s.desk.batches
  -- nor more PACTs than a batch of the text may have
  pub pacts : AllByRecursion (λ b. (1 ≤ length b.pacts) × (length b.pacts ≤ w.text.batch)) s.desk.batches
  pub acts : AllByRecursion (λ x. length x.places ≤ 16) s.book.acts
  -- so they are at most so many for each transaction that was submitted
  pub of_all : length (all_records s.logs) ≤ most_records * s.ring.next_tx
  pub submitted : s.ring.next_tx ≤ length w.text.txs

-- ---- what is durable

pub record BatchIsDurable (many : ℕ) (logs : ℕ → Log) (k : ℕ) (b : Batch) : Type 0 where
  -- it is noted where it is complete, durably
  pub noted : AllByRecursion (λ p. p.noted ≡ true → is_durable (is_complete k p.actor) (logs (p.actor % many)) ≡ true) b.places
  -- where it commits, its info is durable, and all is noted
  pub info : is_formed b.stage ≡ false → is_durable (is_info k) (logs (k % many)) ≡ true
  pub all_noted : is_formed b.stage ≡ false → list_all (λ p. p.noted) b.places ≡ true
  pub settled : is_settled b.stage ≡ true → is_durable (is_commit k) (logs (k % many)) ≡ true

pub record ActIsDurable (many : ℕ) (logs : ℕ → Log) (t : ℕ) (x : Act) : Type 0 where
  -- it is vouched for where it is prepared, durably
  pub vouched : AllByRecursion (λ p. p.vouched ≡ true → is_durable (is_prepare t p.actor) (logs (p.actor % many)) ≡ true) x.places
  -- where it has its place with a value, it is vouched for on all its actors
  pub all_vouched : is_ordered x.status ≡ true → is_value x.result ≡ true → list_all (λ p. p.vouched) x.places ≡ true
  pub sealed : is_sealed x.status ≡ true → is_value x.result ≡ true → is_durable (is_act_commit t) (logs (t % many)) ≡ true

pub record MarksAreDurable {C : Type 0} (w : Fixed C) (finish : C → List State → Alone) (s : Machine C) (h : History) : Type 0 where
  pub batches : (k : ℕ) (b : Batch) → batch_of k s.desk.batches ≡ Some b → BatchIsDurable w.text.logs (log_at s) k b
  pub acts : (t : ℕ) (x : Act) → act_of t s.book.acts ≡ Some x → ActIsDurable w.text.logs (log_at s) t x
