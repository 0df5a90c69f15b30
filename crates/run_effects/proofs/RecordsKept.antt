-- Along a run each record of each log has a spelling.
use Rattle.std.specs.Prelude.{◌≡◌, refl, ℕ, ℤ, zero, suc, ◌%◌, ◌==◌, Bool, true, false, if◌then◌else◌, Option, Some, None, List, [], ◌∷◌, ◌++◌, length, drop, take, map, replicate, slice_set}
use Rattle.std.specs.List.{AllByRecursion}
use Rattle.std.proofs.Common.{arith, sym, subst}
use Rattle.std.proofs.lemmas.List.Concat.{flat_map-cons}
use Rattle.snap_base.proofs.Lists.{all_get, all_front, all_back, all_take, all_drop}
use Rattle.snap_hand.specs.core_facts.RowsMay.{IsActRecord, RowsMay}
use Rattle.protocol.specs.Conditions.{IsAllowed}
use Rattle.protocol.specs.Effects.{act_commit, added, after, ascending, cell_at, log_at, no_log, synced}
use Rattle.protocol.specs.Events.{Event, Form, Complete, Sync, Commit, Prepare, Decide}
use Rattle.protocol.specs.Fixed.{Fixed}
use Rattle.protocol.specs.OnRing.{next_actors, next_pacts}
use Rattle.protocol.specs.Parts.{Act, Log, Machine}
use Rattle.protocol.specs.Records.{LogRecord, ActDone}
use Rattle.protocol.specs.Runs.{EachAllowed, IsRun, opening, reached, state_after}
use Rattle.protocol.specs.Words.{act_of, batch_of, is_value, value_of, values_of}
use Rattle.protocol_laws.proofs.first.PairsFound.{found_tid}
use Rattle.record_log.specs.Growth.{all_records}
use Rattle.snap_hand.specs.log_set.Told.{actor_of, actor_ids, all_told, bid_of, tids_of, told}
use Rattle.record_log.specs.txn_records.declared.records.Record.{Record}
use Rattle.record_log.specs.txn_records.Records.{IsRecord, actor_numbers, tid_numbers}
use Rattle.run_effects.specs.Groups.{durable, groups_of}
use Rattle.run_effects.specs.Recorded.{AreRecords, GroupsHoldRecords}
use Rattle.run_effects.proofs.Elements.{If, all_found, all_join, all_set}
use Rattle.run_effects.proofs.RunsLonger.{allowed_longer, state_longer}
use Rattle.run_effects.proofs.StatesKept.{Keeps, LeavesStates, CellKeeps, event_keeps, none_keeps, opening_keeps}
use Rattle.run_effects.proofs.ResultsFit.{ActFits, Frames, ResultsFit, results_stay, value_fits, values_fit}
use Rattle.run_effects.proofs.ValuesFit.{Fits}

IsTold : LogRecord → Type 0
IsTold r = IsRecord (told r)

LogHolds : Log → Type 0
LogHolds g = AllByRecursion IsTold g.records

LogsHold : {C : Type 0} → Machine C → Type 0
LogsHold s = AllByRecursion LogHolds s.logs

log_here : {C : Type 0} (s : Machine C) (l : ℕ) → LogsHold s → AllByRecursion IsTold (log_at s l).records
unfolding LogsHold LogHolds
log_here s l h = all_get LogHolds s.logs l no_log tt h

one_more : {C : Type 0} (s : Machine C) (l : ℕ) (rs : List LogRecord) → AllByRecursion IsTold rs → LogsHold s → AllByRecursion LogHolds (slice_set s.logs l (added rs (log_at s l)))
unfolding LogsHold LogHolds
one_more s l rs is h = all_set LogHolds s.logs l (added rs (log_at s l)) (all_join IsTold (log_at s l).records rs (log_here s l h) is) h

-- ---- what each event adds

numbers_back : (ns : List ℕ) → actor_numbers (actor_ids ns) ≡ ns
numbers_back [] = refl
numbers_back (n ∷ ns) = rw (numbers_back ns) refl

tids_back : (ts : List ℕ) → tid_numbers (tids_of ts) ≡ ts
tids_back [] = refl
tids_back (t ∷ ts) = rw (tids_back ts) refl

longer : (ns : List ℕ) → length (actor_ids ns) ≡ length ns
longer [] = refl
longer (n ∷ ns) = rw (longer ns) refl

act_is : (t m c : ℕ) (v : ℤ) (actors : List ℕ) → IsActRecord t m c actors → Fits v → IsRecord (told (ActDone t m c v actors))
act_is t m c v actors h fits = record {
  tid_fits = omega (arith, h.tid_fits);
  m_fits = omega (arith, h.m_fits);
  c_fits = omega (arith, h.c_fits);
  value_fits = fits;
  some = omega (arith, h.some, longer actors);
  few = omega (arith, h.few, longer actors);
  ascend = rw (numbers_back actors) h.ascend;
}

decided_is : (t c : ℕ) (acts : List Act) → AllByRecursion ActFits acts → ((x : Act) → act_of t acts ≡ Some x → IsActRecord t x.m c (ascending (map (λ p. p.actor) x.places))) → AllByRecursion IsTold (act_commit c (act_of t acts))
unfolding IsTold
decided_is t c acts fit h = by (act_of t acts) refl (all_found ActFits (λ x. x.tid == t) acts fit)
  where
    by : (o : Option Act) → act_of t acts ≡ o → If ActFits o → AllByRecursion IsTold (act_commit c o)
    by None e f = tt
    by (Some x) e f = valued (is_value x.result)
      where
        valued : (b : Bool) → AllByRecursion IsTold (if b then ActDone x.tid x.m c (value_of x.result) (ascending (map (λ p. p.actor) x.places)) ∷ [] else [])
        valued true =
            let actors = ascending (map (λ p. p.actor) x.places) in
            (subst (λ u. IsRecord (told (ActDone u x.m c (value_of x.result) actors))) (sym (found_tid t acts x e)) (act_is t x.m c (value_of x.result) actors (h x e) (value_fits x.result f)), tt)
        valued false = tt

event_tells : {C : Type 0} (w : Fixed C) (Met : C → Type 0) (e : Event) (s : Machine C) → IsAllowed w e s → RowsMay w s → Keeps Met s → ResultsFit s → LogsHold s → LogsHold (after w e s)
unfolding LogsHold LogHolds IsTold after
event_tells w Met (Form k) s ok may kept fit h =
    one_more s (k % w.text.logs) _ (may.tells_info k ok (bid_of k) (actor_ids (next_actors w.text s.ring)) (tids_of (map (λ p. p.tid) (next_pacts w.text s.ring))) refl (numbers_back (next_actors w.text s.ring)) (tids_back (map (λ p. p.tid) (next_pacts w.text s.ring))), tt) h
event_tells w Met (Complete k a) s ok may kept fit h =
    one_more s (a % w.text.logs) _ (may.tells_complete k a ok (bid_of k) (actor_of a) (cell_at s a).state refl refl (all_get (CellKeeps Met) s.cells a _ (none_keeps Met) kept.cells).state, tt) h
event_tells w Met (Sync l) s ok may kept fit h = all_set LogHolds s.logs l (synced (log_at s l)) (log_here s l h) h
event_tells w Met (Commit k) s ok may kept fit h = one_more s (k % w.text.logs) _ (may.tells_commit k ok (bid_of k) (values_of (batch_of k s.desk.batches)) refl refl (values_fit s k fit), tt) h
event_tells w Met (Prepare t a) s ok may kept fit h =
    let fits = may.tells_prepare t a ok in
    one_more s (a % w.text.logs) _ (record { tid_fits = omega (arith, fits.0); actor_fits = fits.1; is_state = (all_get (CellKeeps Met) s.cells a _ (none_keeps Met) kept.cells).state }, tt) h
event_tells w Met (Decide t) s ok may kept fit h = one_more s (t % w.text.logs) _ (decided_is t s.book.next_c s.book.acts fit.acts (λ x e. may.tells_act t x ok e)) h
event_tells w Met _ s ok may kept fit h = h

-- ---- a run

-- What holds at the opening, and is kept by each event of a run, holds behind it.
along_run : {C : Type 0} (w : Fixed C) (R P : Machine C → Type 0) → ((es : List Event) → IsRun w es → R (reached w es)) → ((e : Event) (s : Machine C) → IsAllowed w e s → R s → P s → P (after w e s))
    → (front es : List Event) → IsRun w front → P (reached w front) → EachAllowed w es (reached w front) → P (state_after w es (reached w front))
along_run w R P is kept front [] run p all = p
along_run w R P is kept front (e ∷ es) run p all =
    let same : reached w (front ++ e ∷ []) ≡ after w e (reached w front) = state_longer w front (e ∷ []) (opening w) in
    subst (λ s. P (state_after w es s)) same
    (along_run w R P is kept (front ++ e ∷ []) es (allowed_longer w front e (opening w) run all.0) (subst P (sym same) (kept e (reached w front) all.0 (is front run) p)) (subst (EachAllowed w es) (sym same) all.1))

no_records : (n : ℕ) → AllByRecursion LogHolds (replicate n no_log)
unfolding LogHolds
no_records zero = tt
no_records (suc n) = (tt, no_records n)

run_holds : {C : Type 0} (w : Fixed C) (Met : C → Type 0) (es : List Event) → Frames w → LeavesStates w Met → ((es : List Event) → IsRun w es → RowsMay w (reached w es)) → IsRun w es → LogsHold (reached w es)
unfolding LogsHold
run_holds w Met es frames leaves may run =
    (along_run w (RowsMay w) (λ s. Keeps Met s × ResultsFit s × LogsHold s) may (λ e s ok m p. (event_keeps w Met e s leaves p.0, results_stay w Met frames e s p.0 p.1, event_tells w Met e s ok m p.0 p.1 p.2)) [] es tt
    (opening_keeps w Met leaves, record { batches = tt; acts = tt }, no_records w.text.logs) run).2

-- ---- groups

all_told_are : (rs : List LogRecord) → AllByRecursion IsTold rs → AreRecords (all_told rs)
unfolding IsTold
all_told_are [] h = tt
all_told_are (r ∷ rs) h = (h.0, all_told_are rs h.1)

each_group : (groups : List (List Record)) → AreRecords (all_records groups) → AllByRecursion AreRecords groups
each_group [] h = tt
each_group (group ∷ groups) h =
    let are : AreRecords (group ++ all_records groups) = subst AreRecords (flat_map-cons (λ (g : List Record). g) group groups) h in
    (all_front IsRecord group (all_records groups) are, each_group groups (all_back IsRecord group (all_records groups) are))

pub groups_hold : {C : Type 0} (w : Fixed C) (Met : C → Type 0) (es : List Event) (l : ℕ) → Frames w → LeavesStates w Met → ((es : List Event) → IsRun w es → RowsMay w (reached w es)) → IsRun w es
    → all_records (groups_of w l es) ≡ durable (log_at (reached w es) l) → GroupsHoldRecords w es l
groups_hold w Met es l frames leaves may run e =
    let g = log_at (reached w es) l in
    let h = log_here (reached w es) l (run_holds w Met es frames leaves may run) in
    record {
      groups = each_group (groups_of w l es) (subst AreRecords (sym e) (all_told_are (take g.synced g.records) (all_take IsTold g.synced g.records h)));
      waiting = all_told_are (drop g.synced g.records) (all_drop IsTold g.synced g.records h);
    }
