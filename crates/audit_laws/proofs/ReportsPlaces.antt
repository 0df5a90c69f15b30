-- The report of a run that has answered all tells places that the events tell, where these tell who has its place as the history
-- has it.
use Rattle.std.specs.Prelude.{◌≡◌, refl, ℕ, ℤ, ◌+◌, Option, Some, None, unwrap_or, List, [], ◌∷◌, ◌++◌, map}
use Rattle.std.proofs.Common.{sym, subst}
use Rattle.snap_base.specs.declared.transactions.State.{State}
use Rattle.snap_base.specs.declared.transactions.TxResult.{TxResult}
use Rattle.snap_base.specs.declared.verdicts.Place.{Place}
use Rattle.snap_base.specs.declared.verdicts.Verdict.{Verdict}
use Rattle.snap_base.specs.declared.verdicts.Verdict.TheVariants as verdicts
use Rattle.protocol.specs.Events.{Event}
use Rattle.protocol.specs.Facts.{Alone}
use Rattle.protocol.specs.Fixed.{Fixed}
use Rattle.protocol.specs.History.{Done, history}
use Rattle.protocol.specs.Parts.{Machine}
use Rattle.protocol.specs.Report.{replied, report}
use Rattle.protocol.specs.Runs.{reached, IsRun}
use Rattle.protocol.specs.Verdicts.{verdict}
use Rattle.audit_words.specs.Audited.{EachLine}
use Rattle.audit_words.specs.Beside.{BatchesRise, CommitsStand, EachTold, TellsPlaced}
use Rattle.run_effects.specs.snap_report.Lines.{shown_fields}
use Rattle.audit_words.specs.Clauses.{IsPlacedAt, TellsPlace}
use Rattle.audit_words.specs.Papers.{Line, Reply, Actor, End, Kept, Recovered}
use Rattle.audit_words.specs.Reports.{actor_lines, report_lines, AnswersStand, CommittedStand, IsDoneAt}
use Rattle.audit_words.specs.Seen.{Member, Seen}
use Rattle.audit_laws.proofs.PlacesTold.{has_place}
use Rattle.audit_laws.proofs.RepliesOnce.{replies_known}
use Rattle.audit_laws.proofs.ReportsShape.{lines_said, said}

from_done : (ran : ℕ → List ℕ) (ms : List Member) (ds : List Done) (n : ℕ) (p : Place) (r : TxResult) → EachTold ran ms ds → BatchesRise ds → IsDoneAt n p r ds → IsPlacedAt n p ms
from_done ran ms ds n p r k h i =
    let q = has_place ran i.front i.done i.rest ms (subst (EachTold ran ms) i.splits k) (subst BatchesRise i.splits h) in
    subst (λ (m : ℕ). IsPlacedAt m p ms) i.tx (subst (λ (x : Place). IsPlacedAt (i.done).tx x ms) i.place q)

said_place : (t : Seen) (n : ℕ) (o : Option Verdict)
    → ((p : Place) (v : ℤ) → o ≡ Some (verdicts.Committed p v) → IsPlacedAt n p t.members)
    → ((p : Place) (c : ℕ) → o ≡ Some (verdicts.Code p c) → (p.side ≡ 1) × IsPlacedAt n p t.members)
    → TellsPlace t [] (Reply n (unwrap_or o (verdicts.Unsure 0)))
said_place t n None f g = tt
said_place t n (Some (verdicts.Committed p v)) f g = f p v refl
said_place t n (Some (verdicts.Code p c)) f g = g p c refl
said_place t n (Some (verdicts.BatchCode k at c)) f g = tt
said_place t n (Some (verdicts.Cascade k by)) f g = tt
said_place t n (Some (verdicts.Died a older own)) f g = tt
said_place t n (Some (verdicts.Order before behind a)) f g = tt
said_place t n (Some (verdicts.Unsure l)) f g = tt

whatever : (t : Seen) (front : List Line) (l : Line) → TellsPlace t [] l → TellsPlace t front l
whatever t front (Reply n (verdicts.Committed p v)) h = h
whatever t front (Reply n (verdicts.Code p c)) h = h
whatever t front (Reply n (verdicts.BatchCode k at c)) h = tt
whatever t front (Reply n (verdicts.Cascade k by)) h = tt
whatever t front (Reply n (verdicts.Died a older own)) h = tt
whatever t front (Reply n (verdicts.Order before behind a)) h = tt
whatever t front (Reply n (verdicts.Unsure l)) h = tt
whatever t front (Actor a fields) h = tt
whatever t front (End x y z) h = tt
whatever t front (Kept p v) h = tt
whatever t front (Recovered x y u c z) h = tt

actors_tell : (t : Seen) (a : ℕ) (states : List State) (x y z : ℕ) (front : List Line) → EachLine (TellsPlace t) front (actor_lines a states ++ End x y z ∷ [])
actors_tell t a [] x y z front = (tt, tt)
actors_tell t a (s ∷ states) x y z front = (tt, actors_tell t (a + 1) states x y z (front ++ Actor a (shown_fields s.0) ∷ []))

lines_tell : {C : Type 0} (s : Machine C) (t : Seen) (tail : List Line) → ((front : List Line) → EachLine (TellsPlace t) front tail)
    → ((n : ℕ) → TellsPlace t [] (said s n)) → (ns : List ℕ) (front : List Line) → EachLine (TellsPlace t) front (map (said s) ns ++ tail)
lines_tell s t tail f g [] front = f front
lines_tell s t tail f g (n ∷ ns) front = (whatever t front (said s n) (g n), lines_tell s t tail f g ns (front ++ said s n ∷ []))

pub places_told : {C : Type 0} (w : Fixed C) (finish : C → List State → Alone) (es : List Event) (t : Seen) → IsRun w es → AnswersStand w es → CommittedStand w finish es → CommitsStand w es → TellsPlaced w.text (history w es) t
    → EachLine (TellsPlace t) [] (report_lines w es)
places_told w finish es t run a k c h =
    let s = reached w es in
    let more = report es s in
    let tail = actor_lines 0 more.states ++ End more.committed more.aborted more.batches ∷ [] in
    subst (λ (ls : List Line). EachLine (TellsPlace t) [] (ls ++ tail)) (sym (lines_said s (replied es) (replies_known w es run a)))
    (lines_tell s t tail (actors_tell t 0 more.states more.committed more.aborted more.batches)
    (λ n. said_place t n (verdict n s.book s.desk)
    (λ p v e. from_done t.ran t.members (history w es).committed n p _ h.members c.rise (k.told_value n p v e))
    (λ p z e. (c.codes n p z e, from_done t.ran t.members (history w es).committed n p _ h.members c.rise (k.told_code n p z e))))
    (replied es) [])
