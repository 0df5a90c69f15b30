-- The papers of a run are in order: six clauses, and which of them is false first, and where.
use Rattle.std.specs.Prelude.{◌≡◌, ℕ, ◌+◌, ◌<◌, ◌==◌, Bool, not, ◌⊎◌, List, [], ◌∷◌, ◌++◌, length, ⊤}
use Rattle.protocol.specs.Fixed.{Text}
use Rattle.protocol.specs.Parts.{Ring}
use Rattle.protocol.specs.Events.{Event, Submit, Pass, Form, Admit}
use Rattle.protocol.specs.Conditions.{AllTrue, is_idle, is_idle_at, is_next_to_submit, lacks_acts, lacks_pacts, next_holder}
use Rattle.audit_words.specs.Seen.{Seen, first_ring}
use Rattle.audit_words.specs.Happenings.{ring_after, seen}
use Rattle.audit_words.specs.Papers.{Line}
use Rattle.audit_words.specs.Clauses.{Language, MayFollow, TellsPlace, TellsMeaning, TellsOrder, TellsEvidence}

-- ---- the first clause: events

-- the conditions of the coordinators' events, read on the ring alone
abbrev pub ring_conditions : Text → Event → Ring → List Bool
ring_conditions w (Submit n) r = is_next_to_submit n w r ∷ []
ring_conditions w (Pass c) r = (c == next_holder w r) ∷ is_idle_at r.holder r ∷ not (is_idle r) ∷ []
ring_conditions w (Form k) r = (k == r.next_bid) ∷ not (lacks_pacts r) ∷ []
ring_conditions w (Admit t) r = (t == r.next_tid) ∷ not (lacks_acts r) ∷ []
ring_conditions w _ r = []

-- each event meets its conditions on the ring that the ones before it leave
abbrev pub EachMeets : Text → List Event → Ring → Type 0
EachMeets w [] r = ⊤
EachMeets w (e ∷ es) r = AllTrue (ring_conditions w e r) × EachMeets w es (ring_after w e r)

-- the ring behind some events
abbrev pub ring_behind : Text → List Event → Ring → Ring
ring_behind w [] r = r
ring_behind w (e ∷ es) r = ring_behind w es (ring_after w e r)

-- the first event, from 0 on, that does not meet them
pub record IsFirstNotMet (w : Text) (es : List Event) (at : ℕ) : Type 0 where
  pub front : List Event
  pub event : Event
  pub rest : List Event
  pub splits : es ≡ front ++ event ∷ rest
  pub number : at ≡ length front
  pub before : EachMeets w front (first_ring w)
  pub off : ¬ AllTrue (ring_conditions w event (ring_behind w front (first_ring w)))

-- ---- the others: lines

-- P holds of each line, beside the lines before it
abbrev pub EachLine : (List Line → Line → Type 0) → List Line → List Line → Type 0
EachLine P front [] = ⊤
EachLine P front (l ∷ ls) = P front l × EachLine P (front ++ l ∷ []) ls

-- the first line, from 1 on, of which P does not hold
pub record IsFirstOff (P : List Line → Line → Type 0) (ls : List Line) (at : ℕ) : Type 0 where
  pub front : List Line
  pub line : Line
  pub rest : List Line
  pub splits : ls ≡ front ++ line ∷ rest
  pub number : at ≡ length front + 1
  pub before : EachLine P [] front
  pub off : ¬ P front line

-- ---- the six

-- of so many transactions and actors, with so many batches that settled
pub record HasShape (txs actors settled : ℕ) (ls : List Line) : Type 0 where
  pub each : EachLine (MayFollow txs actors settled) [] ls
  pub whole : length ls ≡ txs + actors + 1

-- the first line that may not stand there; where the report is cut off, the line that is lacking
abbrev pub IsShapeOff : ℕ → ℕ → ℕ → List Line → ℕ → Type 0
IsShapeOff txs actors settled ls at =
    IsFirstOff (MayFollow txs actors settled) ls at ⊎ (EachLine (MayFollow txs actors settled) [] ls × (length ls < txs + actors + 1) × (at ≡ length ls + 1))

-- that of a text, of which events tell this
abbrev pub ShapeOf : (ℕ → ℕ → ℕ → List Line → Type 0) → Text → Seen → List Line → Type 0
ShapeOf P w s ls = P (length w.txs) (length w.opening.states) (length s.settled) ls

-- The papers of a run are in order: a text with its language, its events, and the lines of its report.
pub record Audited (p : Language) (w : Text) (es : List Event) (ls : List Line) : Type 0 where
  -- transactions are submitted, formed and admitted as the coordinators do it
  pub numbered : EachMeets w es (first_ring w)
  -- the report has a line for each transaction, for each actor, and its end
  pub shape : ShapeOf HasShape w (seen p.reads w es) ls
  -- who is told a place has it
  pub places : EachLine (TellsPlace (seen p.reads w es)) [] ls
  -- run one by one in the order of places, each gives what it is told, and the actors have the states that are told
  pub meaning : EachLine (TellsMeaning p.meaning w ls) [] ls
  -- who was placed before another one has a place below it
  pub order : EachLine (TellsOrder (seen p.reads w es)) [] ls
  -- who is told anything else has its evidence
  pub evidence : EachLine (TellsEvidence p.meaning w (seen p.reads w es) ls) [] ls

-- A clause with its number, and those behind it: it is false first at this place, or it holds and one behind it is.
abbrev pub OrBehind : Type 0 → (ℕ → Type 0) → ℕ → (ℕ → ℕ → Type 0) → ℕ → ℕ → Type 0
OrBehind Holds Off number Behind clause at = ((clause ≡ number) × Off at) ⊎ (Holds × Behind clause at)

-- a clause on lines, with its number, and those behind it
abbrev pub LinesOff : (List Line → Line → Type 0) → List Line → ℕ → (ℕ → ℕ → Type 0) → ℕ → ℕ → Type 0
LinesOff P ls = OrBehind (EachLine P [] ls) (IsFirstOff P ls)

-- the first clause that is false, and where
abbrev pub IsOff : Language → Text → List Event → List Line → ℕ → ℕ → Type 0
IsOff p w es ls =
    OrBehind (EachMeets w es (first_ring w)) (IsFirstNotMet w es) 1
    (OrBehind (ShapeOf HasShape w (seen p.reads w es) ls) (IsShapeOff (length w.txs) (length w.opening.states) (length (seen p.reads w es).settled) ls) 2
    (LinesOff (TellsPlace (seen p.reads w es)) ls 3
    (LinesOff (TellsMeaning p.meaning w ls) ls 4
    (LinesOff (TellsOrder (seen p.reads w es)) ls 5
    (LinesOff (TellsEvidence p.meaning w (seen p.reads w es) ls) ls 6 (λ clause at. ⊥))))))
