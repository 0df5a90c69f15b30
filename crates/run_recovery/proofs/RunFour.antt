-- What a crash at a moment of a run leaves of the four devices, and which logs are in use then.
use Rattle.std.specs.Prelude.{◌≡◌, refl, ℕ, ◌+◌, ◌-◌, ◌<◌, ◌≤◌, nat_le, nat_lt, ◌&&◌, if◌then◌else◌, Bool, true, false, ◌⊎◌, List, [], ◌∷◌, ◌++◌, length}
use Rattle.std.proofs.Common.{inl, inr, arith, sym, ap, subst, ◌∙◌}
use Rattle.std.proofs.lemmas.Bool.{le-leb, lt-ltb}
use Rattle.snap_base.specs.declared.transactions.State.{State}
use Rattle.protocol.specs.Records.{LogRecord}
use Rattle.run_effects.specs.log_set.Told.{all_told}
use Rattle.machine_recovery.specs.compact_laws.log_compact.Compacting.{IsOnSide}
use Rattle.machine_recovery.specs.compact_laws.log_compact.Finding.{IsLeftByRuns, IsUsed, begun, unbegun}
use Rattle.machine_recovery.specs.compact_laws.log_compact.Sets.{IsHead, IsSet, logs_from}
use Rattle.machine_recovery.specs.compact_laws.Stays.{UsedStays}
use Rattle.machine_recovery.specs.compact_laws.Steps.{with_run}
use Rattle.machine_recovery.specs.recovery_laws.Grown.{grown}
use Rattle.machine_recovery.proofs.recovery_laws.WrittenLists.{grown_length}
use Rattle.record_log.specs.Records.{HoldsRecords}
use Rattle.record_log.specs.txn_records.declared.records.Record.{Record}
use Rattle.run_opening.specs.log_opening.Cuts.{HoldFour}
use Rattle.run_opening.specs.Opens.{records_at, with_first}
use Rattle.run_opening.specs.Starts.{IsStart, first_record}
use Rattle.snap_work.specs.Kept.{KeepsLimits}
use Rattle.run_recovery.specs.Crashes.{CrashOn, FindsRunsLogs, earlier}
use Rattle.run_recovery.specs.OneRun.{TheRun, MomentOf}
use Rattle.run_recovery.proofs.FourDevices.{TellAll, all_empty, lists_from, numbered, on_it, on_side, placed, placed_at, placed_out, tested}
use Rattle.run_recovery.proofs.FoundFour.{AsidesLeft, FourLaws, aside_left, asides_left, begun_set, with_none}
use Rattle.run_recovery.proofs.LogsLeft.{first_long, grown_at}

-- what the devices that are not in use are left with
pub moment_asides : FourLaws → (r : TheRun) (m : MomentOf r) (images : ℕ → List ℕ) → KeepsLimits r.work → (crash : CrashOn r m images) → AsidesLeft r crash.held images
moment_asides laws r m images limits crash =
    asides_left laws r crash.held images limits tells
    (λ d low off. aside_left laws.log r.devices.head r.work.logs r.devices.generation d r.before r.after (crash.held d) (crash.made d) (images d) r.devices.aside low off (crash.each d low).0 ((crash.each d low).1.aside off))
  where
    tells : TellAll r.before crash.held
    tells d low = let cut = (crash.each d low).0 in (cut.history, cut.told, cut.holds)

-- ---- what the run wrote

run_in : (devices : ℕ → List Record) (head logs d : ℕ) (run : ℕ → List LogRecord) → IsOnSide head logs d → with_run devices head logs run d ≡ devices d ++ all_told (run (d - head))
run_in devices head logs d run on = rw (le-leb head d on.behind, lt-ltb d (head + logs) on.before) refl

run_out : (devices : ℕ → List Record) (head logs d : ℕ) (run : ℕ → List LogRecord) → ¬ IsOnSide head logs d → with_run devices head logs run d ≡ devices d
run_out devices head logs d run off = by (nat_le head d && nat_lt d (head + logs)) refl
  where
    by : (b : Bool) → (nat_le head d && nat_lt d (head + logs)) ≡ b → (if b then devices d ++ all_told (run (d - head)) else devices d) ≡ devices d
    by true e = absurd (off (tested head logs d e))
    by false e = refl

run_at : (lists : List (List Record)) (aside : ℕ → List Record) (head logs l : ℕ) (run : ℕ → List LogRecord) → l < logs → with_run (placed lists aside head logs) head logs run (head + l) ≡ records_at lists l ++ all_told (run l)
run_at lists aside head logs l run lt =
    let e : (head + l) - head ≡ l = omega arith in
    run_in (placed lists aside head logs) head logs (head + l) run (on_it head logs l lt)
    ∙ (ap (λ (rs : List Record). rs ++ all_told (run ((head + l) - head))) (placed_at lists aside head logs l lt)
    ∙ ap (λ (j : ℕ). records_at lists l ++ all_told (run j)) e)

-- ---- the logs in use once what is written first is there

used_written : FourLaws → (r : TheRun) (aside : ℕ → List Record) → KeepsLimits r.work → IsUsed (placed r.devices.records aside r.devices.head r.work.logs) r.work.logs r.devices.head r.work.logs r.devices.generation
    → IsUsed (placed (earlier r) aside r.devices.head r.work.logs) r.work.logs r.devices.head r.work.logs r.devices.generation
used_written laws r aside limits used = by r.devices.start
  where
    by : IsStart r.devices.records r.work.states r.opening r.devices.added → IsUsed (placed (earlier r) aside r.devices.head r.work.logs) r.work.logs r.devices.head r.work.logs r.devices.generation
    by (inl new) =
        let is : first_record r.work.logs r.work.states ∷ [] ≡ r.devices.added = ap (λ (n : ℕ). first_record n r.work.states ∷ []) (sym r.devices.as_many) ∙ sym new.2 in
        inl (subst (λ (added : List Record). IsSet (placed (with_first r.devices.records added) aside r.devices.head r.work.logs) r.devices.head r.work.logs r.devices.generation) is
        (begun_set laws.sets r.devices.records r.work.states aside r.devices.head r.work.logs r.devices.generation r.devices.as_many limits.logs.0 new.0 used))
    by (inr on) =
        let is : r.devices.records ≡ earlier r = sym (ap (λ (added : List Record). with_first r.devices.records added) on.1 ∙ with_none r.devices.records) in
        subst (λ (lists : List (List Record)). IsUsed (placed lists aside r.devices.head r.work.logs) r.work.logs r.devices.head r.work.logs r.devices.generation) is used

-- the first of them begins with Genesis, where the run found logs as runs leave them
record IsBegunAt (d : ℕ) (rs : List Record) : Type 0 where
  logs : ℕ
  states : List State
  is_head : IsHead d rs logs states

head_more : (d : ℕ) (rs more : List Record) → IsBegunAt d rs → IsBegunAt d (rs ++ more)
head_more d rs more b = record {
  logs = b.logs;
  states = b.states;
  is_head = record { low = b.is_head.low; rest = b.is_head.rest ++ more; begins = ap (λ (l : List Record). l ++ more) b.is_head.begins; side = b.is_head.side };
}

first_there : (records : List (List Record)) (added : List Record) → 1 ≤ length records → records_at (with_first records added) 0 ≡ records_at records 0 ++ added
first_there [] added some = absurd (omega (arith, some))
first_there (rs ∷ records) added some = refl

begun_at : (r : TheRun) (aside : ℕ → List Record) → KeepsLimits r.work → IsLeftByRuns (placed r.devices.records aside r.devices.head r.work.logs) r.devices.head r.work.logs → IsBegunAt r.devices.head (records_at (earlier r) 0)
begun_at r aside limits found = by found r.devices.start
  where
    some : 1 ≤ length r.devices.records
    some = omega (arith, limits.logs.0, r.devices.as_many)

    written : records_at (earlier r) 0 ≡ records_at r.devices.records 0 ++ r.devices.added
    written = first_there r.devices.records r.devices.added some

    here : placed r.devices.records aside r.devices.head r.work.logs r.devices.head ≡ records_at r.devices.records 0
    here = let e : r.devices.head ≡ r.devices.head + 0 = omega arith in
        ap (placed r.devices.records aside r.devices.head r.work.logs) e ∙ placed_at r.devices.records aside r.devices.head r.work.logs 0 (omega (arith, limits.logs.0))

    by : IsLeftByRuns (placed r.devices.records aside r.devices.head r.work.logs) r.devices.head r.work.logs → IsStart r.devices.records r.work.states r.opening r.devices.added → IsBegunAt r.devices.head (records_at (earlier r) 0)
    by (begun generation s) start =
        subst (IsBegunAt r.devices.head) (sym written)
        (head_more r.devices.head (records_at r.devices.records 0) r.devices.added
        (record { logs = r.work.logs; states = s.first; is_head = subst (λ (l : List Record). IsHead r.devices.head l r.work.logs s.first) here s.is_head }))
    by (unbegun none zero_head empty) (inl new) =
        let nothing : records_at r.devices.records 0 ≡ [] =
        sym here ∙ (ap (placed r.devices.records aside r.devices.head r.work.logs) zero_head ∙ empty 0 (omega (arith, limits.logs.0))) in
        record {
          logs = length r.devices.records;
          states = r.work.states;
          is_head = record {
            low = omega (arith, zero_head);
            rest = [];
            begins = written ∙ (ap (λ (l : List Record). l ++ r.devices.added) nothing ∙ new.2);
            side = inl zero_head;
          };
        }
    by (unbegun none zero_head empty) (inr on) =
        absurd
        (on.0.some
        (all_empty r.devices.records (λ l lt.
        let few : l < r.work.logs = omega (arith, lt, r.devices.as_many) in
        let e : r.devices.head + l ≡ l = omega (arith, zero_head) in
        sym (placed_at r.devices.records aside r.devices.head r.work.logs l few)
        ∙ (ap (placed r.devices.records aside r.devices.head r.work.logs) e ∙ empty l few))))

-- ---- the four devices

-- so much of the run's records is left
pub record RunFour (r : TheRun) (images : ℕ → List ℕ) (run : ℕ → List LogRecord) : Type 0 where
  pub now : ℕ → List Record
  pub holds : HoldFour images now
  pub lists : logs_from now r.devices.head r.work.logs ≡ grown (earlier r) run
  pub used : IsUsed now r.work.logs r.devices.head r.work.logs r.devices.generation
  pub set : FindsRunsLogs r → IsSet now r.devices.head r.work.logs r.devices.generation

pub run_four : FourLaws → UsedStays → (r : TheRun) (held : ℕ → List Record) (images : ℕ → List ℕ) (run : ℕ → List LogRecord) → KeepsLimits r.work → AsidesLeft r held images
    → ((l : ℕ) → l < r.work.logs → HoldsRecords (images (r.devices.head + l)) (records_at (earlier r) l ++ all_told (run l))) → RunFour r images run
run_four laws stays r held images run limits asides each = record {
  now = now;
  holds = λ d low. holds d low (on_side r.devices.head r.work.logs d);
  lists = lists_from now (grown (earlier r) run) r.devices.head r.work.logs (grown_length 0 (earlier r) run ∙ many)
      (λ l lt. run_at (earlier r) asides.aside r.devices.head r.work.logs l run lt ∙ sym (grown_at (earlier r) run l (omega (arith, lt, many))));
  used = used;
  set = λ found. set found used;
}
  where
    base : ℕ → List Record
    base = placed (earlier r) asides.aside r.devices.head r.work.logs

    now : ℕ → List Record
    now = with_run base r.devices.head r.work.logs run

    many : length (earlier r) ≡ r.work.logs
    many = first_long r.devices.records r.devices.added ∙ r.devices.as_many

    used : IsUsed now r.work.logs r.devices.head r.work.logs r.devices.generation
    used = stays base r.work.logs r.devices.head r.work.logs r.devices.generation run limits.logs.0 (used_written laws r asides.aside limits asides.used)

    holds : (d : ℕ) → d < 4 → IsOnSide r.devices.head r.work.logs d ⊎ ¬ IsOnSide r.devices.head r.work.logs d → HoldsRecords (images d) (now d)
    holds d low (inr off) =
        subst (HoldsRecords (images d)) (sym (run_out base r.devices.head r.work.logs d run off ∙ placed_out (earlier r) asides.aside r.devices.head r.work.logs d off)) (asides.holds d low off)
    holds d low (inl on) =
        let n = numbered r.devices.head r.work.logs d on in
        subst (λ (j : ℕ). HoldsRecords (images j) (now j)) (sym n.is)
        (subst (HoldsRecords (images (r.devices.head + n.number))) (sym (run_at (earlier r) asides.aside r.devices.head r.work.logs n.number run n.few)) (each n.number n.few))

    set : FindsRunsLogs r → IsUsed now r.work.logs r.devices.head r.work.logs r.devices.generation → IsSet now r.devices.head r.work.logs r.devices.generation
    set found (inl s) = s
    set found (inr n) =
        let b = head_more r.devices.head (records_at (earlier r) 0) (all_told (run 0)) (begun_at r asides.aside limits (asides.left found)) in
        let e : r.devices.head ≡ r.devices.head + 0 = omega arith in
        let here : now r.devices.head ≡ records_at (earlier r) 0 ++ all_told (run 0) = ap now e ∙ run_at (earlier r) asides.aside r.devices.head r.work.logs 0 run (omega (arith, limits.logs.0)) in
        absurd (n.0 r.devices.head b.logs b.states (subst (λ (l : List Record). IsHead r.devices.head l b.logs b.states) (sym here) b.is_head))
