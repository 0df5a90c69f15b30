-- What committed, in the language's own words: one transaction after the other, as the language means each (`Meaning`). No
-- batch, token, lock or log occurs in such a run.
use Rattle.std.specs.Prelude.{◌≡◌, ℕ, ℤ, ◌<◌, true, Some, List, [], ◌∷◌, ◌++◌, length, map, filter}
use Rattle.std.specs.List.{AllByRecursion}
use Rattle.snap_base.specs.declared.transactions.State.{State}
use Rattle.snap_base.specs.declared.transactions.TxResult.{TxResult}
use Rattle.snap_base.specs.declared.transactions.TxResult.TheVariants.{Value, Fail}
use Rattle.snap_base.specs.declared.verdicts.Place.{Place}
use Rattle.snap_base.specs.declared.verdicts.Verdict.TheVariants as verdicts
use Rattle.aml_tree.specs.Tree.{CheckedMethod}
use Rattle.aml_check.specs.Meaning as meaning
use Rattle.aml_slice.specs.Controls.{Rest}
use Rattle.protocol.specs.Fixed.{Fixed, tx_at}
use Rattle.protocol.specs.Facts.{Alone, state_in}
use Rattle.protocol.specs.Parts.{Pact, Batch, Machine}
use Rattle.protocol.specs.Records.{LogRecord}
use Rattle.protocol.specs.Events.{Event, Abort}
use Rattle.protocol.specs.Words.{holds, is_value, is_settled, batch_of}
use Rattle.protocol.specs.Runs.{IsQuiet, reached}
use Rattle.protocol.specs.History.{Done, History, history}
use Rattle.protocol.specs.Verdicts.{verdict}
use Rattle.protocol.specs.Chains.{by_place, txs_of}
use Rattle.protocol_laws.specs.Commits.{left_of}
use Rattle.protocol_laws.specs.Linked.{Agrees}
use Rattle.protocol_records.specs.AsTold.{told_committed}
use Rattle.protocol_records.specs.Crash.{members, recovered_state}
use Rattle.protocol_verdicts.specs.EvidenceSerial.{counts, counted, ByTid}
use Rattle.snap_base.specs.Outcomes.{Serial}

-- These, one after the other in the order of their places, from the opening's states.
abbrev pub meant_run : List CheckedMethod → Fixed Rest → List Done → Serial
meant_run p w ds = meaning.serial p w.text.opening.states (txs_of w (by_place ds))

-- it gives each the result that it had
abbrev pub IsAsMeant : List CheckedMethod → Fixed Rest → List Done → Type 0
IsAsMeant p w ds = map Some (meant_run p w ds).results ≡ map (λ d. d.result) (by_place ds)

-- Alone on this world it means the result that it had, and leaves on each actor what it left there.
pub record MeansThere (p : List CheckedMethod) (w : Fixed Rest) (d : Done) (world : List State) : Type 0 where
  pub result : Some (meaning.alone p world (tx_at w.text d.tx)).result ≡ d.result
  pub as_many : length (meaning.alone p world (tx_at w.text d.tx)).world ≡ length world
  pub leaves : (a : ℕ) → a < length world → state_in (meaning.alone p world (tx_at w.text d.tx)).world a ≡ left_of a d (state_in world a)

-- so it does on any world with the states that it found
abbrev pub MeansWhatItDid : List CheckedMethod → Fixed Rest → Done → Type 0
MeansWhatItDid p w d = (world : List State) → length world ≡ length w.text.opening.states → Agrees d.views world → MeansThere p w d world

pub record CommittedAsMeant (p : List CheckedMethod) (w : Fixed Rest) (finish : Rest → List State → Alone) (s : Machine Rest) (h : History) : Type 0 where
  -- what committed gave what the language means
  pub results : IsAsMeant p w h.committed
  -- each of them did what the language means of it alone, where it found what it found
  pub explained : AllByRecursion (MeansWhatItDid p w) h.committed
  -- those that are told that they committed, also where a run has stopped early, gave what the language means of them with
  -- nobody else
  pub told : IsAsMeant p w (told_committed s h)
  -- in a quiet state the actors have the states that this leaves
  pub states : IsQuiet w s → map (λ c. c.state) s.cells ≡ (meant_run p w h.committed).world

pub record RecoveredAsMeant (p : List CheckedMethod) (w : Fixed Rest) (finish : Rest → List State → Alone) (es : List Event) (s : Machine Rest) (h : History) (logs : ℕ → List LogRecord) : Type 0 where
  -- what is recovered gave what the language means, with nobody else
  pub results : IsAsMeant p w (members w.text.logs logs h)
  -- the recovered states are those that this leaves
  pub states : (a : ℕ) → a < length w.text.opening.states → recovered_state w.text.logs logs a (state_in w.text.opening.states a) ≡ state_in (meant_run p w (members w.text.logs logs h)).world a
  -- and it leaves as many as there were
  pub as_many : length (meant_run p w (members w.text.logs logs h)).world ≡ length w.text.opening.states

-- Behind those before it in the order of places, transaction n alone means this result, and it is at this place.
pub record HasMeantResult (p : List CheckedMethod) (w : Fixed Rest) (n : ℕ) (at : Place) (r : TxResult) (ds : List Done) : Type 0 where
  pub done : Done
  pub front : List Done
  pub rest : List Done
  pub splits : by_place ds ≡ front ++ done ∷ rest
  pub tx : done.tx ≡ n
  pub place : done.place ≡ at
  pub means : (meaning.alone p (meaning.serial p w.text.opening.states (txs_of w front)).world (tx_at w.text n)).result ≡ r

-- ---- a batch that failed

-- what those that count leave, each as the language means it: PACTs of a batch below k, ACTs with a value and a number below c
abbrev pub meant_before : List CheckedMethod → Fixed Rest → ℕ → ℕ → List Done → List State
meant_before p w k c ds = (meaning.serial p w.text.opening.states (txs_of w (counted k c ds))).world

-- Behind these the batch's PACTs, run by tid as the language means each, give a value each up to transaction n, and n fails with
-- this code. s is the state in which it failed.
pub record FailsAsMeant (p : List CheckedMethod) (w : Fixed Rest) (n k c code : ℕ) (s : Machine Rest) (ds : List Done) : Type 0 where
  pub batch : Batch
  pub pact : Pact
  pub front : List Pact
  pub rest : List Pact
  pub found : batch_of k s.desk.batches ≡ Some batch
  pub splits : batch.pacts ≡ front ++ pact ∷ rest
  pub by_tid : ByTid 0 batch.pacts
  pub tx : pact.tx ≡ n
  pub values : AllByRecursion (λ p. is_value p.result ≡ true) front
  pub fails : pact.result ≡ Some (Fail code)
  -- the batches that count were settled by then
  pub settled : AllByRecursion (λ d. d.place.side ≡ 0 → holds (λ b. is_settled b.stage) (batch_of d.place.batch.0 s.desk.batches) ≡ true) (filter (counts k c) ds)
  -- they mean the results that they had
  pub means : map Some (meaning.serial p (meant_before p w k c ds) (map (λ q. tx_at w.text q.tx) (front ++ pact ∷ []))).results ≡ map (λ q. q.result) (front ++ pact ∷ [])

-- one of the events aborted the batch, and the PACT failed so, behind what counts of all that these events committed
pub record FailedAsMeant (p : List CheckedMethod) (w : Fixed Rest) (n k c code : ℕ) (es : List Event) : Type 0 where
  pub front : List Event
  pub later : List Event
  pub splits : es ≡ front ++ Abort k ∷ later
  pub next_c : (reached w front).book.next_c ≡ c
  pub there : FailsAsMeant p w n k c code (reached w front) (history w es).committed

-- ---- who is told a place, with a value or a code, and who is told that it failed with its batch, is told what it means there

pub record VerdictsAsMeant (p : List CheckedMethod) (w : Fixed Rest) (finish : Rest → List State → Alone) (es : List Event) : Type 0 where
  pub value : (n : ℕ) (at : Place) (v : ℤ) → verdict n (reached w es).book (reached w es).desk ≡ Some (verdicts.Committed at v) → HasMeantResult p w n at (Value v) (history w es).committed
  pub code : (n : ℕ) (at : Place) (c : ℕ) → verdict n (reached w es).book (reached w es).desk ≡ Some (verdicts.Code at c) → HasMeantResult p w n at (Fail c) (history w es).committed
  -- with nobody else than those that are told that they committed too
  pub value_told : (n : ℕ) (at : Place) (v : ℤ) → verdict n (reached w es).book (reached w es).desk ≡ Some (verdicts.Committed at v) → HasMeantResult p w n at (Value v) (told_committed (reached w es) (history w es))
  pub batch_code : (n k c code : ℕ) → verdict n (reached w es).book (reached w es).desk ≡ Some (verdicts.BatchCode (record { 0 = k }) c code) → FailedAsMeant p w n k c code es
