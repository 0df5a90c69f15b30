-- All of it over every run.
use Rattle.std.specs.Prelude.{◌≡◌, refl, ℕ, zero, suc, ◌≤◌, List, [], ◌∷◌, length, replicate}
use Rattle.std.proofs.Common.{arith}
use Rattle.snap_base.specs.declared.transactions.Tx.{Tx}
use Rattle.snap_base.specs.declared.transactions.State.{State}
use Rattle.protocol.specs.Facts.{Alone}
use Rattle.protocol.specs.Fixed.{Fixed, IsText}
use Rattle.protocol.specs.Laws.{AfterEveryRunWithHistory}
use Rattle.protocol.specs.Records.{LogRecord}
use Rattle.protocol.specs.Rests.{IsRest, IsTxIn}
use Rattle.protocol.specs.Parts.{Machine}
use Rattle.protocol.specs.Events.{Event}
use Rattle.protocol.specs.Words.{count}
use Rattle.protocol.specs.Conditions.{IsAllowed}
use Rattle.protocol.specs.Effects.{after, no_log}
use Rattle.protocol.specs.Runs.{opening, IsRun, reached}
use Rattle.protocol.specs.History.{History, no_history, history, grown}
use Rattle.protocol_laws.specs.Marks.{Marked}
use Rattle.protocol_records.specs.Logged.{BatchesSure, ActsSure}
use Rattle.protocol_records.specs.RecordLaws.{has_key, all_records, TellsOf, RecordsAddedOnce, RecordsTell, MarksAreDurable}
use Rattle.protocol_laws.proofs.machine.Good.{Given}
use Rattle.protocol_laws.proofs.machine.AllGood.{AllGood, all_good, along_good, none_allowed}
use Rattle.protocol_records.proofs.crash.RecordsKept as kept
use Rattle.protocol_records.proofs.crash.RecordsKept.{RecordsAreKept}
use Rattle.protocol_records.proofs.crash.NoneBehind.{Both, both_kept, both_opened}
use Rattle.protocol_records.proofs.recording.TellsTids.{AtHome, InfoTids, CommitNumbers, home_kept, home_opened, tids_kept, numbers_kept}
use Rattle.protocol_records.proofs.recording.TellsValues.{CommitValues, values_kept}
use Rattle.protocol_records.proofs.recording.RecordsTold.{told}
use Rattle.protocol_records.proofs.recording.AddedOnce.{OnceKeys, once_kept}

pub record Records {C : Type 0} (w : Fixed C) (s : Machine C) (h : History) : Type 0 where
  pub both : Both w s h
  pub home : AtHome w s
  pub kept : RecordsAreKept s h
  pub tids : InfoTids s
  pub numbers : CommitNumbers s
  pub values : CommitValues s
  pub once : OnceKeys s

pub records_kept : {C : Type 0} (w : Fixed C) (Of : Tx → C → Type 0) (finish : C → List State → Alone) (e : Event) (s : Machine C) (h : History) → Given w Of finish → IsAllowed w e s → AllGood w Of finish s h → Records w s h → Records w (after w e s) (grown w e s h)
records_kept w Of finish e s h v ok g r = record {
  both = both_kept w Of finish e s h v ok g r.both;
  home = home_kept w e s r.home;
  kept = kept.kept w e s h r.kept;
  tids = tids_kept w e s ok g.good.agreeing r.tids;
  numbers = numbers_kept w e s h ok g.none g.acts r.numbers;
  values = values_kept w e s h ok g.good.none g.none g.acts r.values;
  once = once_kept w Of finish e s h ok g r.both r.home (told w Of finish s h g r.both r.home r.kept r.tids r.numbers r.values) r.once;
}

none_recorded : (p : LogRecord → Rattle.std.specs.Prelude.Bool) (n : ℕ) → count p (all_records (replicate n no_log)) ≤ 1
none_recorded p zero = omega arith
none_recorded p (suc n) = none_recorded p n

pub records_opened : {C : Type 0} (w : Fixed C) → Records w (opening w) no_history
unfolding AtHome InfoTids CommitNumbers CommitValues OnceKeys
records_opened w = record {
  both = both_opened w;
  home = home_opened w.text.logs _ w.text.logs;
  kept = kept.opened w;
  tids = home_opened w.text.logs _ w.text.logs;
  numbers = home_opened w.text.logs _ w.text.logs;
  values = home_opened w.text.logs _ w.text.logs;
  once = λ k. none_recorded (has_key k) w.text.logs;
}

pub records_hold : {C : Type 0} (w : Fixed C) (Of : Tx → C → Type 0) (finish : C → List State → Alone) (es : List Event) → Given w Of finish → IsRun w es → Records w (reached w es) (history w es)
records_hold w Of finish es v run = along_good w Of finish (Records w) v (λ e s h ok g r. records_kept w Of finish e s h v ok g r) (records_opened w) es run

-- ---- the shape of a law: where there are no actors there is no event

pub of_runs : {C : Type 0} (P : Fixed C → (C → List State → Alone) → Machine C → History → Type 0) → ((w : Fixed C) (finish : C → List State → Alone) → IsText w.text → P w finish (opening w) no_history)
    → ((w : Fixed C) (finish : C → List State → Alone) (es : List Event) → Given w (IsRest w.code (IsTxIn w.text)) finish → IsRun w es → P w finish (reached w es) (history w es)) → AfterEveryRunWithHistory P
of_runs {C} P start holds w finish es f t run = by es run (length w.text.opening.states) refl
  where
    by : (es : List Event) → IsRun w es → (n : ℕ) → length w.text.opening.states ≡ n → P w finish (reached w es) (history w es)
    by es run (suc n) l = holds w finish es (record { text = t; actors = omega (arith, l); facts = f }) run
    by [] run zero l = start w finish t
    by (e ∷ es) run zero l = absurd (none_allowed w e t l run.0)

-- ---- the laws

once_of : {C : Type 0} (w : Fixed C) (finish : C → List State → Alone) (s : Machine C) (h : History) → Records w s h → RecordsAddedOnce w finish s h
unfolding AtHome OnceKeys
once_of w finish s h r = record { at_home = r.home; once = r.once }

pub added_once : {C : Type 0} → AfterEveryRunWithHistory (RecordsAddedOnce {C = C})
added_once {C} = of_runs (RecordsAddedOnce {C = C}) (λ w finish t. once_of w finish (opening w) no_history (records_opened w)) (λ w finish es v run. once_of w finish (reached w es) (history w es) (records_hold w (IsRest w.code (IsTxIn w.text)) finish es v run))

pub tells_of : {C : Type 0} (w : Fixed C) (Of : Tx → C → Type 0) (finish : C → List State → Alone) (es : List Event) → Given w Of finish → IsRun w es → RecordsTell w finish (reached w es) (history w es)
tells_of w Of finish es v run = let r = records_hold w Of finish es v run in told w Of finish (reached w es) (history w es) (all_good w Of finish es v run) r.both r.home r.kept r.tids r.numbers r.values

pub tells_opened : {C : Type 0} (w : Fixed C) (finish : C → List State → Alone) → RecordsTell w finish (opening w) no_history
tells_opened w finish = home_opened w.text.logs (λ l. TellsOf [] []) w.text.logs

pub all_told : {C : Type 0} → AfterEveryRunWithHistory (RecordsTell {C = C})
all_told {C} = of_runs (RecordsTell {C = C}) (λ w finish t. tells_opened w finish) (λ w finish es v run. tells_of w (IsRest w.code (IsTxIn w.text)) finish es v run)

durable_of : {C : Type 0} (w : Fixed C) (Of : Tx → C → Type 0) (finish : C → List State → Alone) (s : Machine C) (h : History) → AllGood w Of finish s h → Both w s h → MarksAreDurable w finish s h
unfolding BatchesSure ActsSure Marked
durable_of w Of finish s h g b = record {
  batches = λ k x e. let p = b.logs.batches k x e in record { noted = p.noted; info = p.info; all_noted = (g.good.marked k x e).all_noted; settled = p.settled };
  acts = λ t x e. let p = b.logs.acts t x e in record { vouched = p.vouched; all_vouched = p.everywhere; sealed = p.sealed };
}

pub marks_durable : {C : Type 0} → AfterEveryRunWithHistory (MarksAreDurable {C = C})
marks_durable {C} = of_runs (MarksAreDurable {C = C}) (λ w finish t. record { batches = λ k b e. absurd (cc e); acts = λ t x e. absurd (cc e) })
    (λ w finish es v run. durable_of w (IsRest w.code (IsTxIn w.text)) finish (reached w es) (history w es) (all_good w (IsRest w.code (IsTxIn w.text)) finish es v run) (records_hold w (IsRest w.code (IsTxIn w.text)) finish es v run).both)
