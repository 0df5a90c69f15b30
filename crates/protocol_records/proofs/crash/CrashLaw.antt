-- What every moment owes.
use Rattle.std.specs.Prelude.{◌≡◌, refl, ℕ, zero, suc, ◌≤◌, true, ◌||◌, List, [], ◌∷◌, length}
use Rattle.std.proofs.Common.{arith, sym, subst}
use Rattle.std.proofs.lemmas.Bool.{true≢false}
use Rattle.snap_base.specs.declared.transactions.Tx.{Tx}
use Rattle.snap_base.specs.declared.transactions.State.{State}
use Rattle.protocol.specs.Facts.{Alone}
use Rattle.protocol.specs.Fixed.{Fixed, IsText}
use Rattle.protocol.specs.Events.{Event}
use Rattle.protocol.specs.Runs.{IsRun, reached}
use Rattle.protocol.specs.History.{history}
use Rattle.protocol.specs.Moments.{Moment, IsCut, IsLeft, left_in}
use Rattle.protocol.specs.Parts.{Who, OfBatch, OfAct}
use Rattle.protocol_laws.specs.Commits.{is_kept}
use Rattle.protocol_records.specs.Crash.{AtEveryMoment, is_in, CrashStands, CrashHolds}
use Rattle.protocol_laws.proofs.machine.Good.{Given}
use Rattle.protocol_laws.proofs.machine.AllGood.{all_good, none_allowed}
use Rattle.protocol_records.proofs.crash.CrashImplied.{moment_is_cut, front_runs}
use Rattle.protocol_records.proofs.crash.NoneBehind.{none_behind, both_hold}
use Rattle.protocol_records.proofs.crash.CrashParts.{logs_hold, crash_states}
use Rattle.protocol_records.proofs.crash.CrashWhole.{whole_batch, whole_act}
use Rattle.protocol_records.proofs.crash.IsClosedKept.{crash_stands}
use Rattle.protocol.specs.Rests.{IsRest, IsTxIn, HasFacts}

pub crash_holds : {C : Type 0} (w : Fixed C) (Of : Tx → C → Type 0) (finish : C → List State → Alone) (es : List Event) (m : Moment w es) (kept : ℕ → ℕ) → Given w Of finish → IsRun w es → IsLeft w es m kept
    → CrashStands w finish es (reached w m.events) (history w m.events) (left_in (reached w m.events) kept) → CrashHolds w finish es (reached w m.events) (history w m.events) (left_in (reached w m.events) kept)
crash_holds w Of finish es m kept v run left o =
    let c : IsCut (reached w m.events) kept = moment_is_cut w es m kept run left in
    let r : IsRun w m.events = front_runs w m.events m.later (subst (λ xs. IsRun w xs) m.splits run) in
    let g = all_good w Of finish m.events v r in
    let l = logs_hold w Of finish m.events v r in
    record {
      whole_batches = λ k e. whole_batch w Of finish (reached w m.events) (history w m.events) kept k c g l e;
      whole_acts = λ t e. whole_act w Of finish (reached w m.events) (history w m.events) kept t c g l e;
      stands = o;
      states = λ a k. crash_states w Of finish m.events kept a v r c k (none_behind w Of finish (reached w m.events) (history w m.events) kept a c g l (both_hold w Of finish m.events v r).once);
    }

-- At every moment of every run, whatever the logs are left with: over some actors nothing else is assumed.
pub crash_law : {C : Type 0} (w : Fixed C) (finish : C → List State → Alone) (es : List Event) (m : Moment w es) (kept : ℕ → ℕ) → HasFacts w finish → IsText w.text → 1 ≤ length w.text.opening.states → IsRun w es → IsLeft w es m kept
    → CrashHolds w finish es (reached w m.events) (history w m.events) (left_in (reached w m.events) kept)
crash_law w finish es m kept f text some run left =
    crash_holds w (IsRest w.code (IsTxIn w.text)) finish es m kept (record { text = text; actors = some; facts = f }) run left (crash_stands w finish es m kept f text run left)

-- The same where there is no actor: then no event is allowed, and nothing is in.
pub crash_of_every_moment : {C : Type 0} → AtEveryMoment (CrashHolds {C = C})
crash_of_every_moment {C} w finish es m kept f text run left = by (length w.text.opening.states) refl
  where
    o : CrashStands w finish es (reached w m.events) (history w m.events) (left_in (reached w m.events) kept)
    o = crash_stands w finish es m kept f text run left

    none : length w.text.opening.states ≡ 0 → m.events ≡ []
    none l = only m.events (front_runs w m.events m.later (subst (λ xs. IsRun w xs) m.splits run))
      where
        only : (ds : List Event) → IsRun w ds → ds ≡ []
        only [] r = refl
        only (d ∷ ds) r = absurd (none_allowed w d text l r.0)

    nobody : (who : Who) → length w.text.opening.states ≡ 0 → is_in w.text.logs (left_in (reached w m.events) kept) who ≡ true → ⊥
    nobody who l e = true≢false (sym (subst (λ ds. (is_kept who (history w ds).kept || is_kept who (history w ds).kept_readers) ≡ true) (none l) (o.all_done who e)))

    by : (n : ℕ) → length w.text.opening.states ≡ n → CrashHolds w finish es (reached w m.events) (history w m.events) (left_in (reached w m.events) kept)
    by (suc n) l = crash_law w finish es m kept f text (omega (arith, l)) run left
    by zero l = record {
      stands = o;
      whole_batches = λ k e. absurd (nobody (OfBatch k) l e);
      whole_acts = λ t e. absurd (nobody (OfAct t) l e);
      states = λ a k. absurd (omega (arith, k, l));
    }
