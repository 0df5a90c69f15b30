-- The report of a run as lines, and what any run that can't go on has printed.
use Rattle.std.specs.Prelude.{◌≡◌, ℕ, ℤ, ◌+◌, true, Option, Some, None, is_some, List, [], ◌∷◌, ◌++◌, length, map}
use Rattle.std.specs.List.{AllByRecursion, list_all}
use Rattle.snap_base.specs.declared.transactions.State.{State}
use Rattle.snap_base.specs.declared.transactions.TxResult.{TxResult}
use Rattle.snap_base.specs.declared.transactions.TxResult.TheVariants.{Value, Fail}
use Rattle.snap_base.specs.declared.verdicts.Place.{Place}
use Rattle.snap_base.specs.declared.verdicts.Verdict.{Verdict}
use Rattle.snap_base.specs.declared.verdicts.Verdict.TheVariants as verdicts
use Rattle.protocol.specs.Events.{Event}
use Rattle.protocol.specs.Facts.{Alone, alone}
use Rattle.protocol.specs.Fixed.{Fixed}
use Rattle.protocol.specs.History.{Done, history}
use Rattle.protocol.specs.Chains.{by_place, IsSerial, PlacesRise, serial_run}
use Rattle.protocol.specs.Report.{Answer, Report, replied, report}
use Rattle.protocol.specs.Runs.{IsQuiet, reached}
use Rattle.protocol.specs.Verdicts.{ended_at, verdict}
use Rattle.protocol.specs.Words.{is_among}
use Rattle.snap_report.specs.Lines.{shown_fields}
use Rattle.audit_words.specs.Papers.{Line, Reply, Actor, End}
use Rattle.audit_words.specs.Clauses.{Language, Meaning}
use Rattle.audit_words.specs.Audited.{Audited}

-- ---- lines

-- the reply to transaction n, where it has a verdict
abbrev pub reply_line_of : ℕ → Option Verdict → List Line
reply_line_of n None = []
reply_line_of n (Some v) = Reply n v ∷ []

-- the replies, in their order
abbrev pub reply_lines : List Answer → List Line
reply_lines [] = []
reply_lines (x ∷ xs) = reply_line_of x.tx x.verdict ++ reply_lines xs

-- the actors from this number on
abbrev pub actor_lines : ℕ → List State → List Line
actor_lines a [] = []
actor_lines a (s ∷ states) = Actor a (shown_fields s.0) ∷ actor_lines (a + 1) states

-- the replies, the actors and the end
abbrev pub lines_told : Report → List Line
lines_told r = reply_lines r.answers ++ (actor_lines 0 r.states ++ End r.committed r.aborted r.batches ∷ [])

-- the report of a run, as lines
abbrev pub report_lines : {C : Type 0} → Fixed C → List Event → List Line
report_lines w es = lines_told (report es (reached w es))

-- ---- what is to hold of every run

-- each transaction alone, by the code of a text
abbrev pub meaning_of : {C : Type 0} → Fixed C → (C → List State → Alone) → Meaning
meaning_of w finish world tx = alone w.code finish world tx

-- the language, as the code of a text has it
abbrev pub language_of : {C : Type 0} → Fixed C → (C → List State → Alone) → Language
language_of w finish = record { meaning = meaning_of w finish; reads = w.code.only_reads }

-- The papers of a run that can't go on are in order.
abbrev pub RunIsAudited : {C : Type 0} → Fixed C → (C → List State → Alone) → List Event → Type 0
RunIsAudited w finish es = IsQuiet w (reached w es) → Audited (language_of w finish) w.text es (report_lines w es)

-- ---- what is used of a run for the second clause

-- A verdict that is there stays, and none is that nobody knows.
pub record AnswersStand {C : Type 0} (w : Fixed C) (es : List Event) : Type 0 where
  pub stay : (front later : List Event) → es ≡ front ++ later → (n : ℕ) (v : Verdict)
      → verdict n (reached w front).book (reached w front).desk ≡ Some v → verdict n (reached w es).book (reached w es).desk ≡ Some v
  pub sure : (n l : ℕ) → verdict n (reached w es).book (reached w es).desk ≡ Some (verdicts.Unsure l) → ⊥

-- Each transaction was replied to, and there are as many actors as states.
pub record AllReplied {C : Type 0} (w : Fixed C) (es : List Event) : Type 0 where
  pub replied : list_all (λ r. r) (reached w es).desk.replied ≡ true
  pub cells : length (reached w es).cells ≡ length w.text.opening.states

-- ---- what is used of a run for the fourth clause

-- among these is transaction n, at this place, with this result
pub record IsDoneAt (n : ℕ) (p : Place) (r : TxResult) (ds : List Done) : Type 0 where
  pub done : Done
  pub front : List Done
  pub rest : List Done
  pub splits : ds ≡ front ++ done ∷ rest
  pub tx : done.tx ≡ n
  pub place : done.place ≡ p
  pub result : done.result ≡ Some r

-- The committed, in the order of their places, are serial; each of them is told so, and nobody else is; and the actors have the
-- states that this leaves.
pub record CommittedStand {C : Type 0} (w : Fixed C) (finish : C → List State → Alone) (es : List Event) : Type 0 where
  pub serial : IsSerial w finish (history w es).committed
  pub rise : PlacesRise (by_place (history w es).committed)
  pub told_value : (n : ℕ) (p : Place) (v : ℤ) → verdict n (reached w es).book (reached w es).desk ≡ Some (verdicts.Committed p v) → IsDoneAt n p (Value v) (history w es).committed
  pub told_code : (n : ℕ) (p : Place) (c : ℕ) → verdict n (reached w es).book (reached w es).desk ≡ Some (verdicts.Code p c) → IsDoneAt n p (Fail c) (history w es).committed
  pub all_told : AllByRecursion (λ d. verdict d.tx (reached w es).book (reached w es).desk ≡ ended_at d.place d.result) (history w es).committed
  pub ended : AllByRecursion (λ d. is_some d.result ≡ true) (history w es).committed
  pub answered : AllByRecursion (λ d. is_among d.tx (replied es) ≡ true) (history w es).committed
  pub states : map (λ c. c.state) (reached w es).cells ≡ (serial_run w finish (history w es).committed).world
