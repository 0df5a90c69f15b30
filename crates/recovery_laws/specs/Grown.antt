-- The records of a run as they are written, behind those of earlier runs, and the opening to which they recover.
use Rattle.std.specs.Prelude.{◌≡◌, ℕ, ℤ, ◌+◌, ◌≤◌, ◌==◌, nat_lt, nat_le, Bool, ◌&&◌, ◌||◌, if◌then◌else◌, Option, Some, None, List, [], ◌∷◌, ◌++◌, map}
use Rattle.snap_base.specs.declared.ids.Tid.{Tid}
use Rattle.snap_base.specs.declared.transactions.TxResult.{TxResult}
use Rattle.snap_base.specs.declared.transactions.TxResult.TheVariants.{Value, Fail}
use Rattle.snap_base.specs.declared.verdicts.Place.{Place}
use Rattle.protocol.specs.Fixed.{Text, Fixed}
use Rattle.protocol.specs.Records.{LogRecord}
use Rattle.protocol.specs.Parts.{Act, Status, Live, Doomed, Decided, Sealed, OfBatch, OfAct, Batch, Machine}
use Rattle.protocol.specs.Words.{value_of}
use Rattle.protocol.specs.Verdicts.{pact_place, act_place}
use Rattle.protocol.specs.History.{Done}
use Rattle.protocol_records.specs.Crash.{is_in}
use Rattle.protocol_records.specs.NextNumbers.{next_tid_of, next_bid_of, next_c_of}
use Rattle.protocol_records.specs.SeveralRuns.{recovered_from}
use Rattle.log_set.specs.Told.{bid_of, tid_of, tids_of, all_told}
use Rattle.txn_records.specs.declared.records.Record.{Record}
use Rattle.snap_recover.specs.declared.openings.Kept.{Kept}
use Rattle.snap_recover.specs.declared.openings.Kept.TheVariants as kept
use Rattle.snap_recover.specs.declared.openings.Opening.{Opening}
use Rattle.snap_recover.specs.Logs.{tids_in, bids_in, commits_in}
use Rattle.snap_recover.specs.Opening.{next_of}

-- each log from this number on has behind its records those of the run
abbrev pub grown_from : ℕ → List (List Record) → (ℕ → List LogRecord) → List (List Record)
grown_from n [] logs = []
grown_from n (rs ∷ rss) logs = (rs ++ all_told (logs n)) ∷ grown_from (n + 1) rss logs

abbrev pub grown : List (List Record) → (ℕ → List LogRecord) → List (List Record)
grown earlier logs = grown_from 0 earlier logs

-- ---- what is in, in the order of its places

-- A batch stands before all later ones, and an ACT behind its batch m, by its commit number and then by its tid.
abbrev pub comes_before : Kept → Kept → Bool
comes_before (kept.Batch b tids vs) (kept.Batch b' tids' vs') = nat_lt b.0 b'.0
comes_before (kept.Batch b tids vs) (kept.Act t m c v) = nat_le b.0 m.0
comes_before (kept.Act t m c v) (kept.Batch b tids vs) = nat_lt m.0 b.0
comes_before (kept.Act t m c v) (kept.Act t' m' c' v') = nat_lt m.0 m'.0 || ((m.0 == m'.0) && (nat_lt c c' || ((c == c') && nat_lt t.0 t'.0)))

-- before the first one that it comes before
abbrev pub put_recovered : Kept → List Kept → List Kept
put_recovered k [] = k ∷ []
put_recovered k (x ∷ xs) = if comes_before k x then k ∷ x ∷ xs else x ∷ put_recovered k xs

abbrev pub recovered_batch : Batch → Kept
recovered_batch b = kept.Batch (bid_of b.bid) (tids_of (map (λ p. p.tid) b.pacts)) (map (λ p. value_of p.result) b.pacts)

-- the commit number of an ACT that has one
abbrev pub commit_number_of : Status → ℕ
commit_number_of Live = 0
commit_number_of (Doomed v) = 0
commit_number_of (Decided c) = c
commit_number_of (Sealed c) = c

-- the value that a commit tells of this result
abbrev pub told_value : Option TxResult → Option ℤ
told_value (Some (Value v)) = Some v
told_value (Some (Fail code)) = None
told_value None = None

abbrev pub recovered_act : Act → Kept
recovered_act x = kept.Act (tid_of x.tid) (bid_of x.m) (commit_number_of x.status) (told_value x.result)

-- the batches that are in
abbrev pub recovered_batches : ℕ → (ℕ → List LogRecord) → List Batch → List Kept
recovered_batches many logs [] = []
recovered_batches many logs (b ∷ bs) = if is_in many logs (OfBatch b.bid) then recovered_batch b ∷ recovered_batches many logs bs else recovered_batches many logs bs

-- the ACTs that are in, each put in its place among these
abbrev pub with_acts : ℕ → (ℕ → List LogRecord) → List Act → List Kept → List Kept
with_acts many logs [] ks = ks
with_acts many logs (x ∷ xs) ks = if is_in many logs (OfAct x.tid) then put_recovered (recovered_act x) (with_acts many logs xs ks) else with_acts many logs xs ks

abbrev pub all_in : {C : Type 0} → ℕ → (ℕ → List LogRecord) → Machine C → List Kept
all_in many logs s = with_acts many logs s.book.acts (recovered_batches many logs s.desk.batches)

-- the result that a value is; where it is not known there is none
abbrev pub answer_of : Option ℤ → Option TxResult
answer_of None = None
answer_of (Some v) = Some (Value v)

-- a place, whose it is, and the result there
abbrev pub PlacedResult : Type 0
PlacedResult = Place × ℕ × Option TxResult

-- the answers of a batch's transactions; those without a value have an unknown one
abbrev pub batch_answers : ℕ → List Tid → List ℤ → List PlacedResult
batch_answers k [] vs = []
batch_answers k (t ∷ ts) [] = (pact_place k t.0, t.0, None) ∷ batch_answers k ts []
batch_answers k (t ∷ ts) (v ∷ vs) = (pact_place k t.0, t.0, answer_of (Some v)) ∷ batch_answers k ts vs

-- the places of its transactions, each with its tid and its result
abbrev pub answers_of : Kept → List PlacedResult
answers_of (kept.Batch b tids vs) = batch_answers b.0 tids vs
answers_of (kept.Act t m c v) = (act_place m.0 c, t.0, answer_of v) ∷ []

abbrev pub answer_at : Done → PlacedResult
answer_at d = (d.place, d.tid, d.result)

-- ---- what they recover to

-- the run begins with what its logs recovered to
pub record BeginsWith (w : Text) (o : Opening) : Type 0 where
  pub states : o.states ≡ w.opening.states
  pub next_tid : o.next_tid.0 ≡ w.opening.next_tid
  pub next_bid : o.next_bid.0 ≡ w.opening.next_bid
  pub next_c : o.next_c ≡ w.opening.next_c

-- the run begins with the states to which its logs recovered, and with numbers that are no smaller: a checkpoint may tell greater ones
pub record BeginsFrom (w : Text) (o : Opening) : Type 0 where
  pub states : o.states ≡ w.opening.states
  pub next_tid : o.next_tid.0 ≤ w.opening.next_tid
  pub next_bid : o.next_bid.0 ≤ w.opening.next_bid
  pub next_c : o.next_c ≤ w.opening.next_c

-- The opening to which the logs recover: the states are those of the members, what is in stands behind what earlier runs
-- committed, and the next numbers are above all.
abbrev pub opening_after : {C : Type 0} → Fixed C → Opening → Machine C → (ℕ → List LogRecord) → Opening
opening_after w o s logs = record {
  states = recovered_from w.text.logs logs 0 w.text.opening.states;
  committed = o.committed ++ all_in w.text.logs logs s;
  next_tid = tid_of (next_tid_of w logs);
  next_bid = bid_of (next_bid_of w logs);
  next_c = next_c_of w logs;
}

-- The same with just the numbers that the records tell, which may be below those with which the run began.
abbrev pub opening_found : {C : Type 0} → Fixed C → List (List Record) → Opening → Machine C → (ℕ → List LogRecord) → Opening
opening_found w earlier o s logs = record {
  states = recovered_from w.text.logs logs 0 w.text.opening.states;
  committed = o.committed ++ all_in w.text.logs logs s;
  next_tid = tid_of (next_of tids_in (grown earlier logs));
  next_bid = bid_of (next_of bids_in (grown earlier logs));
  next_c = next_of commits_in (grown earlier logs);
}
