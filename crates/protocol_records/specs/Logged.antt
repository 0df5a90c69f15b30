-- What the records of the logs tell of batches and ACTs, and what of it is durable.
-- Only proofs cite this; the rule is `CrashHolds` (Crash).
use Rattle.std.specs.Prelude.{◌≡◌, ℕ, ◌%◌, ◌==◌, Bool, true, false, ◌&&◌, ◌||◌, Option, Some, None, is_some, not, List, [], ◌∷◌, map, slice_index_or, ⊤}
use Rattle.std.specs.List.{AllByRecursion, list_any, list_all}
use Rattle.protocol.specs.Fixed.{Fixed}
use Rattle.protocol.specs.Records.{LogRecord, BatchInfo, ActDone, is_info, is_complete, is_commit, is_prepare, is_act_commit}
use Rattle.protocol.specs.Parts.{Act, Joined, Who, OfBatch, OfAct, Batch, Log, Machine}
use Rattle.protocol.specs.Words.{holds, joined_of, is_failure, is_doomed, is_who, is_durable, is_value, is_formed, is_settled, is_decided, is_sealed, batch_of, act_of}
use Rattle.protocol.specs.Effects.{no_log, ascending}
use Rattle.protocol.specs.History.{Done, History, Slice, Ran, Stands, Gone}
use Rattle.protocol_laws.specs.Commits.{is_kept}
pub use Rattle.protocol_laws.specs.Told.{EachBatch}
use Rattle.protocol_laws.specs.Tracks.{has_read}

-- a durable record of log l
abbrev pub durable_at : (LogRecord → Bool) → List Log → ℕ → Bool
durable_at p logs l = is_durable p (slice_index_or logs l no_log)

-- a record of log l, durable or not
abbrev pub logged_at : (LogRecord → Bool) → List Log → ℕ → Bool
logged_at p logs l = list_any p (slice_index_or logs l no_log).records

-- its commit record is durable
abbrev pub is_sure : ℕ → List Log → Who → Bool
is_sure many logs (OfBatch k) = durable_at (is_commit k) logs (k % many)
is_sure many logs (OfAct t) = durable_at (is_act_commit t) logs (t % many)

-- it is there
abbrev pub is_written : ℕ → List Log → Who → Bool
is_written many logs (OfBatch k) = logged_at (is_commit k) logs (k % many)
is_written many logs (OfAct t) = logged_at (is_act_commit t) logs (t % many)

-- who has a commit record committed with a value
unfoldable pub WrittenHaveValues : {C : Type 0} → Fixed C → Machine C → History → Type 0
WrittenHaveValues w s h = (y : Who) → is_written w.text.logs s.logs y ≡ true → (is_kept y h.kept || is_kept y h.kept_readers) ≡ true

-- ---- batches

pub record BatchSure (many : ℕ) (logs : List Log) (k : ℕ) (b : Batch) : Type 0 where
  pub noted : AllByRecursion (λ p. p.noted ≡ true → durable_at (is_complete k p.actor) logs (p.actor % many) ≡ true) b.places
  pub info : is_formed b.stage ≡ false → durable_at (is_info k) logs (k % many) ≡ true
  pub settled : is_settled b.stage ≡ true → durable_at (is_commit k) logs (k % many) ≡ true

unfoldable pub BatchesSure : {C : Type 0} → Fixed C → Machine C → Type 0
BatchesSure w s = EachBatch (BatchSure w.text.logs s.logs) s.desk.batches

-- the actors of a batch
abbrev pub actors_of_batch : Option Batch → Option (List ℕ)
actors_of_batch None = None
actors_of_batch (Some b) = Some (map (λ p. p.actor) b.places)

-- a record of a batch that was formed has its actors
abbrev pub InfoIs : List Batch → LogRecord → Type 0
InfoIs bs (BatchInfo k actors tids) = actors_of_batch (batch_of k bs) ≡ Some actors
InfoIs bs _ = ⊤

unfoldable pub Infos : {C : Type 0} → Machine C → Type 0
Infos s = (l : ℕ) → AllByRecursion (InfoIs s.desk.batches) (slice_index_or s.logs l no_log).records

-- ---- ACTs

pub record ActSure (many : ℕ) (logs : List Log) (t : ℕ) (x : Act) : Type 0 where
  pub vouched : AllByRecursion (λ p. p.vouched ≡ true → durable_at (is_prepare t p.actor) logs (p.actor % many) ≡ true) x.places
  pub everywhere : (is_decided x.status || is_sealed x.status) ≡ true → is_value x.result ≡ true → list_all (λ p. p.vouched) x.places ≡ true
  pub sealed : is_sealed x.status ≡ true → is_value x.result ≡ true → durable_at (is_act_commit t) logs (t % many) ≡ true

unfoldable pub ActsSure : {C : Type 0} → Fixed C → Machine C → Type 0
ActsSure w s = (t : ℕ) (x : Act) → act_of t s.book.acts ≡ Some x → ActSure w.text.logs s.logs t x

-- the commit record of an ACT has its actors
abbrev pub CommitIs : List Act → LogRecord → Type 0
CommitIs acts (ActDone t m c v actors) = (x : Act) × (act_of t acts ≡ Some x) × ((is_decided x.status || is_sealed x.status) ≡ true) × (ascending (map (λ p. p.actor) x.places) ≡ actors)
CommitIs acts _ = ⊤

unfoldable pub ActCommits : {C : Type 0} → Machine C → Type 0
ActCommits s = (l : ℕ) → AllByRecursion (CommitIs s.book.acts) (slice_index_or s.logs l no_log).records

-- ---- along the long schedule of an actor

-- it was placed there, and not taken back
abbrev pub is_ran_of : Who → Ran → Bool
is_ran_of y (Stands z c ss) = is_who z y
is_ran_of y (Gone z ss) = is_who z y

abbrev pub is_on : Who → List Ran → Bool
is_on y rs = list_any (is_ran_of y) rs

-- what left for good is sure
abbrev pub GoneSure : (Who → Bool) → List Ran → Type 0
GoneSure sure [] = ⊤
GoneSure sure (Stands y c ss ∷ rs) = GoneSure sure rs
GoneSure sure (Gone y ss ∷ rs) = (sure y ≡ true) × GoneSure sure rs

unfoldable pub AllGoneSure : {C : Type 0} → Fixed C → Machine C → History → Type 0
AllGoneSure w s h = (a : ℕ) → GoneSure (is_sure w.text.logs s.logs) (h.long a)

-- In the order of commits, who is on the actor with one on it behind is sure.
abbrev pub KeptSure : (Who → Bool) → (Who → Bool) → List Who → Type 0
KeptSure sure on [] = ⊤
KeptSure sure on (y ∷ ys) = (on y ≡ true → list_any on ys ≡ true → sure y ≡ true) × KeptSure sure on ys

unfoldable pub AllKeptSure : {C : Type 0} → Fixed C → Machine C → History → Type 0
AllKeptSure w s h = (a : ℕ) → KeptSure (is_sure w.text.logs s.logs) (λ y. is_on y (h.long a)) h.kept

-- ---- along what committed

-- a reader is an ACT, and has read where it came
abbrev pub HasRead : List Slice → ℕ → Done → Type 0
HasRead reads a d = d.reader ≡ true → (d.who ≡ OfAct d.tid) × (is_some (d.views a) ≡ true → has_read reads d.tid ≡ true)

unfoldable pub AllHaveRead : History → Type 0
AllHaveRead h = (a : ℕ) → AllByRecursion (HasRead (h.reads a) a) h.committed

-- who committed with a value, and does not only read, is on each actor that it came to
pub record IsThere (kept : List Who) (long : ℕ → List Ran) (d : Done) : Type 0 where
  pub known : is_value d.result ≡ true → d.reader ≡ false → is_kept d.who kept ≡ true
  pub there : (a : ℕ) → is_some (d.views a) ≡ true → is_value d.result ≡ true → d.reader ≡ false → is_on d.who (long a) ≡ true

unfoldable pub AllThere : History → Type 0
AllThere h = AllByRecursion (IsThere h.kept h.long) h.committed

-- it came to the actor, and committed with a value
abbrev pub came_valued : ℕ → Done → Bool
came_valued a d = is_some (d.views a) && is_value d.result

-- another one came to the actor, too, and committed with a value, and they do not both only read
abbrev pub came_rival : ℕ → Done → Done → Bool
came_rival a d e = came_valued a e && (not (is_who d.who e.who) && not (d.reader && e.reader))

-- who committed with a value there, and a rival of it behind, is sure
abbrev pub DoneSure : (Who → Bool) → ℕ → List Done → Type 0
DoneSure sure a [] = ⊤
DoneSure sure a (d ∷ ds) = (came_valued a d ≡ true → list_any (came_rival a d) ds ≡ true → sure d.who ≡ true) × DoneSure sure a ds

unfoldable pub AllDoneSure : {C : Type 0} → Fixed C → Machine C → History → Type 0
AllDoneSure w s h = (a : ℕ) → DoneSure (is_sure w.text.logs s.logs) a h.committed

-- ---- ACTs and their places

abbrev pub has_joined : ℕ → Act → Bool
has_joined a x = list_any (λ p. p.actor == a) x.places

pub record ActStands (long : ℕ → List Ran) (t : ℕ) (x : Act) : Type 0 where
  -- who is vouched for was prepared
  pub first : (a : ℕ) (p : Joined) → joined_of a x ≡ Some p → p.vouched ≡ true → p.prepared ≡ true
  -- where it is not undone, and does not only read, it is on all its actors
  pub on : is_doomed x.status ≡ false → (is_failure x.result || x.reader) ≡ false → AllByRecursion (λ p. is_on (OfAct t) (long p.actor) ≡ true) x.places

unfoldable pub ActsStand : {C : Type 0} → Machine C → History → Type 0
ActsStand s h = (t : ℕ) (x : Act) → act_of t s.book.acts ≡ Some x → ActStands h.long t x

-- who is on an actor joined it
unfoldable pub OnJoined : {C : Type 0} → Machine C → History → Type 0
OnJoined s h = (t a : ℕ) → is_on (OfAct t) (h.long a) ≡ true → holds (has_joined a) (act_of t s.book.acts) ≡ true

-- who has a record there has a value, and joined the actor
unfoldable pub Prepared : {C : Type 0} → Fixed C → Machine C → Type 0
Prepared w s = (t a : ℕ) → logged_at (is_prepare t a) s.logs (a % w.text.logs) ≡ true → holds (λ x. is_value x.result && has_joined a x) (act_of t s.book.acts) ≡ true
