-- What logs that a crash left recover is serial, at every moment of every run.
use Rattle.std.specs.Prelude.{◌≡◌, ℕ, ◌%◌, true, List}
use Rattle.std.proofs.Common.{arith, sym, subst}
use Rattle.std.proofs.lemmas.Bool.{true≢false}
use Rattle.snap_base.specs.declared.transactions.State.{State}
use Rattle.snap_base.specs.declared.transactions.Tx.{Tx}
use Rattle.protocol.specs.Fixed.{Fixed, IsText}
use Rattle.protocol.specs.Facts.{Alone}
use Rattle.protocol.specs.Records.{is_commit, is_act_commit}
use Rattle.protocol.specs.Parts.{Who, OfBatch, OfAct, Machine}
use Rattle.protocol.specs.Events.{Event}
use Rattle.protocol.specs.Conditions.{IsAllowed}
use Rattle.protocol.specs.Effects.{after, log_at}
use Rattle.protocol.specs.Runs.{opening, IsRun, reached}
use Rattle.protocol.specs.History.{History, no_history, history, grown}
use Rattle.protocol.specs.Moments.{Moment, IsCut, IsLeft, left_in}
use Rattle.protocol_records.specs.Crash.{is_in, members}
use Rattle.protocol_laws.proofs.machine.Good.{Given}
use Rattle.protocol_laws.proofs.machine.AllGood.{AllGood, along_good}
use Rattle.protocol_records.proofs.crash.DurableKept.{Durable, has_record, any_take}
use Rattle.protocol_records.proofs.crash.DurableKept as durable
use Rattle.protocol_records.proofs.crash.CrashParts.{none_missed_at, done_hold}
use Rattle.protocol_records.proofs.crash.CrashImplied.{Members, members_serial, moment_is_cut, front_runs}
use Rattle.protocol_theorems.proofs.order.LastLaw.{all_facts}
use Rattle.protocol.specs.Rests.{IsRest, IsTxIn, HasFacts}

-- ---- along a run

pub record Recovers {C : Type 0} (w : Fixed C) (s : Machine C) (h : History) : Type 0 where
  pub durable : Durable w s h

pub kept : {C : Type 0} (w : Fixed C) (Of : Tx → C → Type 0) (finish : C → List State → Alone) (e : Event) (s : Machine C) (h : History) → Given w Of finish → IsAllowed w e s → AllGood w Of finish s h → Recovers w s h → Recovers w (after w e s) (grown w e s h)
kept w Of finish e s h v ok g i = record {
  durable = durable.kept w e s h ok g.acts g.none i.durable;
}

pub opened : {C : Type 0} (w : Fixed C) → Recovers w (opening w) no_history
opened w = record {
  durable = record { settled = λ k q. absurd (true≢false (sym q)); sealed = λ t q. absurd (true≢false (sym q)); gone = λ a. tt };
}

pub recovers : {C : Type 0} (w : Fixed C) (Of : Tx → C → Type 0) (finish : C → List State → Alone) (es : List Event) → Given w Of finish → IsRun w es → Recovers w (reached w es) (history w es)
recovers w Of finish es v run = along_good w Of finish (Recovers w) v (λ e s h ok g i. kept w Of finish e s h v ok g i) (opened w) es run

-- ---- at a cut

-- what is durable is left
pub is_left : {C : Type 0} (w : Fixed C) (s : Machine C) (left : ℕ → ℕ) (y : Who) → IsCut s left → has_record w s y ≡ true → is_in w.text.logs (left_in s left) y ≡ true
is_left w s left (OfBatch k) c e = any_take (is_commit k) (log_at s (k % w.text.logs)).synced (left (k % w.text.logs)) (log_at s (k % w.text.logs)).records (c.all_synced (k % w.text.logs)) e
is_left w s left (OfAct t) c e = any_take (is_act_commit t) (log_at s (t % w.text.logs)).synced (left (t % w.text.logs)) (log_at s (t % w.text.logs)).records (c.all_synced (t % w.text.logs)) e

-- ---- at every moment

-- At every moment of every run of an accepted text, over code with the facts: the members, one after the other in the
-- order of places, give the results that they had, and leave on each actor what the last of them left there.
pub members_recover : {C : Type 0} (w : Fixed C) (finish : C → List State → Alone) (es : List Event) (m : Moment w es) (left : ℕ → ℕ) → HasFacts w finish → IsText w.text → IsRun w es → IsLeft w es m left
    → Members w finish (members w.text.logs (left_in (reached w m.events) left) (history w m.events))
members_recover w finish es m left f t run l =
    let early : IsRun w m.events = front_runs w m.events m.later (subst (λ xs. IsRun w xs) m.splits run) in
    members_serial w finish (reached w m.events) (history w m.events) (left_in (reached w m.events) left) (all_facts w (IsRest w.code (IsTxIn w.text)) finish m.events f t early)
    (λ a k. none_missed_at w (reached w m.events) (history w m.events) left a (moment_is_cut w es m left run l) (done_hold w (IsRest w.code (IsTxIn w.text)) finish m.events (record { text = t; actors = omega (arith, k); facts = f }) early))
