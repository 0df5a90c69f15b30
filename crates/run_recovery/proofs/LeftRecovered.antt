-- What a run leaves is what the call that prints what the logs recover to goes by.
use Rattle.std.specs.Prelude.{◌≡◌, refl, ℕ, ◌+◌, ◌<◌, ◌≤◌, Option, List, length, take, IfSome}
use Rattle.std.specs.List.{AllByRecursion}
use Rattle.std.proofs.Common.{inl, inr, arith, sym, ap, subst, ◌∙◌}
use Rattle.aml_slice.specs.aml_tree.Tree.{CheckedMethod}
use Rattle.machine_recovery.specs.compact_laws.log_compact.declared.folds.Folded.{Folded}
use Rattle.log_compaction.specs.Crashes.{FoldsAgain}
use Rattle.machine_recovery.specs.compact_laws.log_compact.Finding.{FrontsTell, IsLeftByRuns, IsUsed, begun, unbegun}
use Rattle.machine_recovery.specs.compact_laws.log_compact.Fronts.{FrontsOfRecords, HoldsFront}
use Rattle.machine_recovery.specs.compact_laws.log_compact.Sets.{IsFolded, IsSet, logs_from}
use Rattle.run_opening.specs.log_opening.Cuts.{AreRecent, HoldFour, TellBytes}
use Rattle.run_opening.specs.log_opening.Devices.{Device, device_at}
use Rattle.run_opening.specs.log_opening.Kept.{AreUsed}
use Rattle.record_log.specs.Records.{HoldsRecords, spelled}
use Rattle.record_log.specs.snap_outside.Causes.{Rose}
use Rattle.snap_base.specs.declared.transactions.State.{State}
use Rattle.snap_recover.specs.declared.openings.Opening.{Opening}
use Rattle.snap_work.specs.Kept.{KeepsLimits}
use Rattle.record_log.specs.snap_outside.Disk.{DeviceHistory, content}
use Rattle.run_opening.specs.Begins.{AreEmpty, Begins, IsUnspent}
use Rattle.run_opening.specs.Opens.{MayOpen, TellsRecords, records_at}
use Rattle.run_recovery.specs.Beginnings.{BeginsAgain}
use Rattle.run_recovery.specs.Between.{LeadTo}
use Rattle.run_recovery.specs.Crashes.{FindsRunsLogs, Recovers}
use Rattle.run_recovery.specs.Next.{GoesOnFrom, fold_left, opening_left, records_left}
use Rattle.run_recovery.specs.Recoverable.{AreRecoverable}
use Rattle.run_recovery.specs.OneRun.{TheRun, MomentOf}
use Rattle.run_recovery.specs.Several.{CutOff, FoundByRuns, Left, bytes_left, in_use}
use Rattle.record_log.specs.txn_records.declared.records.Record.{Record}
use Rattle.record_log.specs.txn_records.Records.{IsRecord}
use Rattle.run_recovery.proofs.CompactionKept.{told_recent}
use Rattle.run_recovery.proofs.Leading.{lead_begins}
use Rattle.run_recovery.proofs.FourDevices.{all_empty, from_at, from_long, within_four}

-- what the laws say of the records in front of a log
pub record FrontLaws : Type 0 where
  pub fronts : FrontsOfRecords
  pub tell : FrontsTell

module _ (laws : FrontLaws) (head logs generation : ℕ) (now : ℕ → List Record) (images : ℕ → List ℕ) (ds : List Device) (holds : HoldFour images now) (tell : TellBytes ds images) (u : IsUsed now 1 head logs generation) where
  tells : (d : ℕ) → d < 4 → TellsRecords (device_at ds d) (now d)
  tells d low = let t = tell d low in (t.0, t.1, subst (λ (bytes : List ℕ). HoldsRecords bytes (now d)) (sym t.2) (holds d low))

  -- the Genesis of a head is a record, so it tells few logs
  few : head + logs ≤ 4
  few = by u
    where
      by : IsUsed now 1 head logs generation → head + logs ≤ 4
      by (inl s) =
          let low : head < 4 = omega (arith, s.is_head.low) in
          let each = subst (AllByRecursion IsRecord) s.is_head.begins (holds head low).each in
          elim s.is_head.side [ inl e ↦ omega (arith, e, each.0.few_logs) | inr e ↦ omega (arith, e, s.is_head.low) ]
      by (inr n) = omega (arith, n.1, n.2)

  are_used : AreUsed 1 ds head logs generation
  are_used = record {
    fronts = λ d. take 2 (now d);
    each = λ d low.
        let t = tells d low in
        subst (λ (o : Option DeviceHistory). IfSome o (λ h. HoldsFront (content h) (take 2 (now d)))) (sym t.1) (laws.fronts.there (content t.0) (now d) t.2);
    used = ((laws.tell now (λ d. take 2 (now d)) (λ d low. refl)).used 1 head logs generation).0 u;
  }

  recoverable : (lists : List (List Record)) (f : Folded) → logs_from now head logs ≡ lists → IsFolded lists f → AreRecoverable ds head lists f
  recoverable lists f is folded =
      subst (λ (l : List (List Record)). AreRecoverable ds head l f) is
      (record {
        generation = generation;
        used = subst (λ (n : ℕ). AreUsed 1 ds head n generation) (sym (from_long now head logs)) are_used;
        each = λ d low. let t = tells d low in (t.0, spelled (now d), t.1, t.2.log);
        told = λ l lt.
            let there : l < logs = omega (arith, lt, from_long now head logs) in
            subst (λ (rs : List Record). TellsRecords (device_at ds (head + l)) rs) (sym (from_at now head logs l there)) (tells (head + l) (omega (arith, there, few)));
        folded = subst (λ (l : List (List Record)). IsFolded l f) (sym is) folded;
      })

pub within : FrontLaws → (p : List CheckedMethod) (r : TheRun) (m : MomentOf r) (images : ℕ → List ℕ) (left : Recovers p r m images) → GoesOnFrom left → FindsRunsLogs r
    → (ds : List Device) → TellBytes ds images → AreRecoverable ds r.devices.head (records_left left) (fold_left left)
within laws p r m images left g found ds tell =
    recoverable laws r.devices.head r.work.logs r.devices.generation left.now images ds left.holds tell (inl (left.set found)) (records_left left) (fold_left left) left.lists g.folded

-- ---- a run may begin

-- what is left of four devices, with these logs in use, in which a run of these states begins with this opening
record MayGoOn (head logs generation : ℕ) (now : ℕ → List Record) (images : ℕ → List ℕ) (states : List State) (lists : List (List Record)) (o : Opening) : Type 0 where
  holds : HoldFour images now
  recent : AreRecent images head logs
  used : IsUsed now logs head logs generation
  few : logs ≤ 4
  lists_are : logs_from now head logs ≡ lists
  begins : Begins lists states o

may_open : FrontLaws → (head logs generation : ℕ) (now : ℕ → List Record) (images : ℕ → List ℕ) (states : List State) (lists : List (List Record)) (o : Opening) → MayGoOn head logs generation now images states lists o
    → (again after : List Device) → TellBytes again images → ((d : ℕ) → d < 4 → ¬ Rose (device_at again d).faults (device_at after d).faults) → MayOpen logs states again after lists o
may_open laws head logs generation now images states lists o may again after tell quiet = record {
  head = head;
  generation = generation;
  used = record {
    fronts = λ d. take 2 (now d);
    each = λ d low.
        let t = tells d low in
        subst (λ (x : Option DeviceHistory). IfSome x (λ h. HoldsFront (content h) (take 2 (now d)))) (sym t.1) (laws.fronts.there (content t.0) (now d) t.2);
    used = ((laws.tell now (λ d. take 2 (now d)) (λ d low. refl)).used logs head logs generation).0 may.used;
  };
  many = ap (λ (ls : List (List Record)). length ls) (sym may.lists_are) ∙ from_long now head logs;
  told = λ l lt.
      subst (λ (ls : List (List Record)). TellsRecords (device_at again (head + l)) (records_at ls l)) may.lists_are
      (subst (λ (rs : List Record). TellsRecords (device_at again (head + l)) rs) (sym (from_at now head logs l lt)) (tells (head + l) (omega (arith, within, lt))));
  each = λ d low. let t = tells d low in (t.0, spelled (now d), t.1, t.2.log);
  recent = λ l lt. told_recent again images tell (head + l) (omega (arith, within, lt)) (may.recent l lt);
  begins = may.begins;
  quiet = quiet;
}
  where
    within : head + logs ≤ 4
    within = within_four now head logs generation may.few may.used

    tells : (d : ℕ) → d < 4 → TellsRecords (device_at again d) (now d)
    tells d low = let t = tell d low in (t.0, t.1, subst (λ (bytes : List ℕ). HoldsRecords bytes (now d)) (sym t.2) (may.holds d low))

-- behind a crash at a moment of a run
pub runs_within : FrontLaws → (p : List CheckedMethod) (r : TheRun) (m : MomentOf r) (images : ℕ → List ℕ) (left : Recovers p r m images) → GoesOnFrom left → KeepsLimits r.work → IsUnspent (opening_left left)
    → (again after : List Device) → TellBytes again images → ((d : ℕ) → d < 4 → ¬ Rose (device_at again d).faults (device_at after d).faults)
    → MayOpen r.work.logs r.work.states again after (records_left left) (opening_left left)
runs_within laws p r m images left g limits unspent =
    may_open laws r.devices.head r.work.logs r.devices.generation left.now images r.work.states (records_left left) (opening_left left)
    (record { holds = left.holds; recent = left.recent; used = left.used; few = omega (arith, limits.logs.1); lists_are = left.lists; begins = g.begins unspent })

-- behind one while it begins
pub runs_early : FrontLaws → (r : TheRun) (images : ℕ → List ℕ) (b : BeginsAgain r images) → KeepsLimits r.work
    → (again after : List Device) → TellBytes again images → ((d : ℕ) → d < 4 → ¬ Rose (device_at again d).faults (device_at after d).faults)
    → MayOpen r.work.logs r.work.states again after b.kept r.opening
runs_early laws r images b limits =
    may_open laws r.devices.head r.work.logs r.devices.generation b.now images r.work.states b.kept r.opening
    (record { holds = b.holds; recent = b.recent; used = b.used; few = omega (arith, limits.logs.1); lists_are = b.lists; begins = b.begins })

-- and behind either, and any calls behind it
pub runs_behind : FrontLaws → (x : CutOff) (left : Left x x.crash) → IsUnspent left.fold.opening
    → (again after : List Device) → TellBytes again (bytes_left x) → ((d : ℕ) → d < 4 → ¬ Rose (device_at again d).faults (device_at after d).faults)
    → MayOpen x.work.logs x.work.states again after (in_use left) left.fold.opening
runs_behind laws x left unspent =
    may_open laws left.head x.work.logs left.generation left.now (bytes_left x) x.work.states (in_use left) left.fold.opening
    (record { holds = left.holds; recent = left.recent; used = left.used; few = omega (arith, x.limits.logs.1); lists_are = refl; begins = lead_begins (in_use left) x.work.states left.fold left.leads unspent })

-- logs with a record are a set, where they are as runs leave them
record SetOf (now : ℕ → List Record) (head logs : ℕ) : Type 0 where
  generation : ℕ
  set : IsSet now head logs generation

set_of : (now : ℕ → List Record) (head logs : ℕ) → ¬ AreEmpty (logs_from now head logs) → IsLeftByRuns now head logs → SetOf now head logs
set_of now head logs some (begun generation s) = record { generation = generation; set = s }
set_of now head logs some (unbegun none zero_head empty) =
    absurd
    (some (all_empty (logs_from now head logs) (λ l lt.
    let there : l < logs = omega (arith, lt, from_long now head logs) in
    let e : head + l ≡ l = omega (arith, zero_head) in
    from_at now head logs l there ∙ (ap now e ∙ empty l there))))

pub early : FrontLaws → (r : TheRun) (images : ℕ → List ℕ) (b : BeginsAgain r images) → ¬ AreEmpty b.kept → FindsRunsLogs r → (ds : List Device) → TellBytes ds images → AreRecoverable ds r.devices.head b.kept r.devices.fold
early laws r images b some found ds tell =
    let s = set_of b.now r.devices.head r.work.logs (subst (λ (l : List (List Record)). ¬ AreEmpty l) (sym b.lists) some) (b.set found) in
    recoverable laws r.devices.head r.work.logs s.generation b.now images ds b.holds tell (inl s.set) b.kept r.devices.fold b.lists (b.folds some)

-- behind a compaction
pub compacted_left : FrontLaws → (held : ℕ → List Record) (was count : ℕ) (f : Folded) (images : ℕ → List ℕ) (left : FoldsAgain held was count f images) → (ds : List Device) → TellBytes ds images
    → AreRecoverable ds left.head (logs_from left.now left.head count) left.fold
compacted_left laws held was count f images left ds tell =
    recoverable laws left.head count left.fold.generation left.now images ds left.holds tell left.used (logs_from left.now left.head count) left.fold refl left.folded

-- behind a run that is cut off and calls
pub calls_left : FrontLaws → (x : CutOff) (left : Left x x.crash) → ¬ AreEmpty (in_use left) → FoundByRuns x → (ds : List Device) → TellBytes ds (bytes_left x) → AreRecoverable ds left.head (in_use left) left.fold
calls_left laws x left some found ds tell =
    let s = set_of left.now left.head x.work.logs some (left.set found) in
    recoverable laws left.head x.work.logs s.generation left.now (bytes_left x) ds left.holds tell (inl s.set) (in_use left) left.fold refl (folds left.leads)
  where
    folds : LeadTo (in_use left) x.work.states left.fold → IsFolded (in_use left) left.fold
    folds (inl none) = absurd (some none.0)
    folds (inr on) = on.1
