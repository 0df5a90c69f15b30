-- Worked runs as tables: each line tells what happens, or what the state then shows. A run is played by putting in
-- each line what really happens or shows; it is as told where this gives the same lines.
use Rattle.std.specs.Prelude.{◌≡◌, ℕ, ◌==◌, ℤ, if◌then◌else◌, Option, None, Some, List, [], ◌∷◌, map, slice_get}
use Rattle.snap_base.specs.declared.transactions.TxResult.{TxResult}
use Rattle.snap_base.specs.declared.verdicts.Verdict.{Verdict}
use Rattle.protocol.specs.Fixed.{Fixed}
use Rattle.protocol.specs.Records.{LogRecord}
use Rattle.protocol.specs.Parts.{Cascade, Machine}
use Rattle.protocol.specs.Events.{Event}
use Rattle.protocol.specs.Words.{act_of, batch_of}
use Rattle.protocol.specs.Conditions.{refusal}
use Rattle.protocol.specs.Effects.{after}
use Rattle.protocol.specs.Runs.{opening, state_after}
use Rattle.protocol.specs.Candidates.{first_allowed, goes_on}
use Rattle.protocol_runs.specs.ExampleCode.{Script, field}
use Rattle.protocol_runs.specs.Examples.{fields, verdicts_of}

pub data Line : Type 0 where
  -- ---- what happens
  -- these events are allowed, each in its turn, and happen
  Does : (events : List Event) → Line
  -- the event is refused by this rule
  Refuses : (event : Event) (rule : ℕ) → Line
  -- the first allowed event happens, at most a hundred times, until none is allowed
  Ends : Line
  -- ---- what the state shows
  -- the field of an actor, and those of all
  Field : (actor : ℕ) (value : ℤ) → Line
  Fields : (values : List ℤ) → Line
  -- the fields in an actor's images, in the order in which they were taken
  Images : (actor : ℕ) (values : List ℤ) → Line
  -- an actor's write floor and its read floor, and the last batch that was placed there
  Floor : (actor : ℕ) (bid : ℕ) → Line
  ReadFloor : (actor : ℕ) (bid : ℕ) → Line
  Last : (actor : ℕ) (bid : ℕ) → Line
  -- the before number and the after number of an ACT
  Numbers : (tid : ℕ) (m : ℕ) (n : Option ℕ) → Line
  -- the results that the desk has of a batch
  Results : (bid : ℕ) (results : List (Option TxResult)) → Line
  Cascades : (cascades : List Cascade) → Line
  -- what was added to a log
  Records : (log : ℕ) (records : List LogRecord) → Line
  -- what became of the transactions of the text
  Verdicts : (verdicts : List (Option Verdict)) → Line
  -- ---- and what no run tells: there is no such thing, or no end
  Nothing : Line

pub record Worked : Type 0 where
  pub work : Fixed Script
  pub lines : List Line

-- ---- what really happens

-- the events up to the first that is refused
abbrev pub happening : Fixed Script → List Event → Machine Script → List Event
happening w [] s = []
happening w (e ∷ es) s = if refusal w e s == 0 then e ∷ happening w es (after w e s) else []

abbrev pub answered : Event → ℕ → Line
answered e rule = if rule == 0 then Does (e ∷ []) else Refuses e rule

abbrev pub played_out : Fixed Script → Machine Script → Machine Script
played_out w s = state_after w (goes_on 100 w s (first_allowed w s)) s

abbrev pub ended : Option Event → Line
ended None = Ends
ended (Some e) = Nothing

-- ---- what really shows

abbrev pub shown : {X : Type 0} → (X → Line) → Option X → Line
shown line None = Nothing
shown line (Some x) = line x

abbrev pub showing : Fixed Script → Line → Machine Script → Line
showing w (Field a v) s = shown (λ c. Field a (field c.state)) (slice_get s.cells a)
showing w (Fields vs) s = Fields (fields s)
showing w (Images a vs) s = shown (λ c. Images a (map (λ i. field i.state) c.images)) (slice_get s.cells a)
showing w (Floor a k) s = shown (λ c. Floor a c.floors.write) (slice_get s.cells a)
showing w (ReadFloor a k) s = shown (λ c. ReadFloor a c.floors.read) (slice_get s.cells a)
showing w (Last a k) s = shown (λ c. Last a c.last) (slice_get s.cells a)
showing w (Numbers t m n) s = shown (λ x. Numbers t x.m x.n) (act_of t s.book.acts)
showing w (Results k rs) s = shown (λ b. Results k (map (λ p. p.result) b.pacts)) (batch_of k s.desk.batches)
showing w (Cascades cs) s = Cascades s.book.cascades
showing w (Records l rs) s = shown (λ g. Records l g.records) (slice_get s.logs l)
showing w (Verdicts vs) s = Verdicts (verdicts_of w s)
showing w _ s = Nothing

abbrev pub playing : Fixed Script → List Line → Machine Script → List Line
playing w [] s = []
playing w (Does es ∷ lines) s = Does (happening w es s) ∷ playing w lines (state_after w es s)
playing w (Refuses e rule ∷ lines) s = answered e (refusal w e s) ∷ playing w lines s
playing w (Ends ∷ lines) s = ended (first_allowed w (played_out w s)) ∷ playing w lines (played_out w s)
playing w (line ∷ lines) s = showing w line s ∷ playing w lines s

-- the run is as it is told
abbrev pub IsAsTold : Worked → Type 0
IsAsTold r = playing r.work r.lines (opening r.work) ≡ r.lines
