-- What a verdict tells of serial runs: that of all that committed, and those before a batch that failed.
use Rattle.std.specs.Prelude.{◌≡◌, ◌⊎◌, ℕ, ℤ, ◌+◌, ◌≤◌, ◌==◌, true, false, ◌&&◌, Some, List, [], ◌∷◌, ◌++◌, map, filter, ⊤}
use Rattle.std.specs.List.{AllByRecursion, list_any}
use Rattle.snap_base.specs.declared.transactions.State.{State}
use Rattle.snap_base.specs.declared.transactions.TxResult.{TxResult}
use Rattle.snap_base.specs.declared.transactions.TxResult.TheVariants.{Value, Fail}
use Rattle.snap_base.specs.declared.verdicts.Place.{Place}
use Rattle.snap_base.specs.declared.verdicts.Verdict.TheVariants as verdicts
use Rattle.protocol.specs.Fixed.{Fixed, tx_at}
use Rattle.protocol.specs.Facts.{Alone, alone, serial}
use Rattle.protocol.specs.Parts.{Act, Decided, Sealed, Pact, Batch, Machine}
use Rattle.protocol.specs.Words.{holds, is_value, is_formed, is_settled, act_of, batch_of}
use Rattle.protocol.specs.Events.{Event, Abort}
use Rattle.protocol.specs.Verdicts.{verdict, pact_place, act_place}
use Rattle.protocol_laws.specs.Told.{IsAmongDone}
use Rattle.protocol.specs.Runs.{reached}
use Rattle.protocol.specs.History.{Done, history}
pub use Rattle.protocol.specs.Chains.{counts}
use Rattle.protocol.specs.Chains.{by_place, txs_of}

-- ---- in the serial run of what committed

-- Behind those before it in the order of places, transaction n alone gives this result, at this place.
pub record HasResultThere {C : Type 0} (w : Fixed C) (finish : C → List State → Alone) (n : ℕ) (p : Place) (r : TxResult) (ds : List Done) : Type 0 where
  pub done : Done
  pub front : List Done
  pub rest : List Done
  pub splits : by_place ds ≡ front ++ done ∷ rest
  pub tx : done.tx ≡ n
  pub place : done.place ≡ p
  pub gives : (alone w.code finish (serial w.code finish w.text.opening.states (txs_of w front)).world (tx_at w.text n)).result ≡ r

-- ---- before a batch that failed

-- these, in the order of places
abbrev pub counted : ℕ → ℕ → List Done → List Done
counted k c ds = by_place (filter (counts k c) ds)

-- the states that they leave, run one after the other from the opening's
abbrev pub world_before : {C : Type 0} → Fixed C → (C → List State → Alone) → ℕ → ℕ → List Done → List State
world_before w finish k c ds = (serial w.code finish w.text.opening.states (txs_of w (counted k c ds))).world

-- tids rise, from one on
abbrev pub ByTid : ℕ → List Pact → Type 0
ByTid low [] = ⊤
ByTid low (p ∷ ps) = (low ≤ p.tid) × ByTid (p.tid + 1) ps

-- Behind what counts of what committed, the batch's PACTs, run by tid, give a value each up to transaction n, and n fails
-- with this code. s is the state in which it failed.
pub record FailsInSerial {C : Type 0} (w : Fixed C) (finish : C → List State → Alone) (n k c code : ℕ) (s : Machine C) (ds : List Done) : Type 0 where
  pub batch : Batch
  pub pact : Pact
  pub front : List Pact
  pub rest : List Pact
  pub found : batch_of k s.desk.batches ≡ Some batch
  pub splits : batch.pacts ≡ front ++ pact ∷ rest
  pub by_tid : ByTid 0 batch.pacts
  pub tx : pact.tx ≡ n
  pub values : AllByRecursion (λ p. is_value p.result ≡ true) front
  pub fails : pact.result ≡ Some (Fail code)
  -- the batches that count were settled by then
  pub settled : AllByRecursion (λ d. d.place.side ≡ 0 → holds (λ b. is_settled b.stage) (batch_of d.place.batch.0 s.desk.batches) ≡ true) (filter (counts k c) ds)
  -- they give the results that they had
  pub runs : map Some (serial w.code finish (world_before w finish k c ds) (map (λ p. tx_at w.text p.tx) (front ++ pact ∷ []))).results ≡ map (λ p. p.result) (front ++ pact ∷ [])

-- One of the events is that Abort, and the PACT failed so, behind what counts of all that these events committed.
pub record FailedAt {C : Type 0} (w : Fixed C) (finish : C → List State → Alone) (n k c code : ℕ) (es : List Event) : Type 0 where
  pub front : List Event
  pub later : List Event
  pub splits : es ≡ front ++ Abort k ∷ later
  pub next_c : (reached w front).book.next_c ≡ c
  pub there : FailsInSerial w finish n k c code (reached w front) (history w es).committed

-- ---- what committed

-- a PACT of a batch that is no longer only formed and that no cascade took
pub record IsCommittedPact {C : Type 0} (s : Machine C) (d : Done) : Type 0 where
  pub batch : Batch
  pub side : d.place.side ≡ 0
  pub found : batch_of d.place.batch.0 s.desk.batches ≡ Some batch
  pub past : is_formed batch.stage ≡ false
  pub sound : batch.aborted ≡ false
  pub names : list_any (λ p. (p.tid == d.place.order) && (p.tx == d.tx)) batch.pacts ≡ true

-- an ACT that is decided or sealed at this place
pub record IsCommittedAct {C : Type 0} (s : Machine C) (d : Done) : Type 0 where
  pub tid : ℕ
  pub act : Act
  pub side : d.place.side ≡ 1
  pub found : act_of tid s.book.acts ≡ Some act
  pub decided : (act.status ≡ Decided d.place.order) ⊎ (act.status ≡ Sealed d.place.order)
  pub tx : d.tx ≡ act.tx
  pub place : d.place ≡ act_place act.m d.place.order
  pub result : d.result ≡ act.result

-- ---- what verdicts tell after some events

pub record VerdictsTell {C : Type 0} (w : Fixed C) (finish : C → List State → Alone) (es : List Event) : Type 0 where
  -- what committed is such
  pub committed : AllByRecursion (λ d. IsCommittedPact (reached w es) d ⊎ IsCommittedAct (reached w es) d) (history w es).committed
  -- among what committed is each PACT of a settled batch, and each ACT that has a place, with its result
  pub batches : (k : ℕ) (b : Batch) → batch_of k (reached w es).desk.batches ≡ Some b → is_settled b.stage ≡ true → AllByRecursion (λ p. (r : TxResult) × ((p.result ≡ Some r) × IsAmongDone p.tx (pact_place b.bid p.tid) r (history w es).committed)) b.pacts
  pub acts : (t c : ℕ) (x : Act) (r : TxResult) → act_of t (reached w es).book.acts ≡ Some x → (x.status ≡ Decided c) ⊎ (x.status ≡ Sealed c) → x.result ≡ Some r → IsAmongDone x.tx (act_place x.m c) r (history w es).committed
  -- who is told a place gives what it is told there, in the serial run of what committed
  pub value : (n : ℕ) (p : Place) (v : ℤ) → verdict n (reached w es).book (reached w es).desk ≡ Some (verdicts.Committed p v) → HasResultThere w finish n p (Value v) (history w es).committed
  pub code : (n : ℕ) (p : Place) (c : ℕ) → verdict n (reached w es).book (reached w es).desk ≡ Some (verdicts.Code p c) → HasResultThere w finish n p (Fail c) (history w es).committed
  -- who failed with its batch did so behind the settled batches below it and the ACTs with a value below the number told
  pub batch_code : (n k c code : ℕ) → verdict n (reached w es).book (reached w es).desk ≡ Some (verdicts.BatchCode (record { 0 = k }) c code) → FailedAt w finish n k c code es
  -- who was taken along tells who failed, and that one has the code
  pub cascade : (n k by : ℕ) → verdict n (reached w es).book (reached w es).desk ≡ Some (verdicts.Cascade (record { 0 = k }) (record { 0 = by }))
      → (c : ℕ) × ((code : ℕ) × (verdict by (reached w es).book (reached w es).desk ≡ Some (verdicts.BatchCode (record { 0 = k }) c code)))
