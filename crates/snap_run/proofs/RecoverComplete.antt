-- Where nothing stands in the way of the commands that recover the logs, only two answers are left.
use Rattle.std.proofs.Common.{◌≡◌, ◌⊎◌, inl, inr, ℕ, ◌+◌, ◌<◌, ◌≤◌, zero, suc, List, [], ◌∷◌, length, take, refl, sym, ◌∙◌, ap, subst, arith, Option, Some}
use Rattle.std.proofs.lemmas.List.{take_all}
use Rattle.std.specs.Prelude.{IfSome}
use Rattle.std.specs.List.{AllByRecursion}
use Rattle.command_words.specs.CommandLaws.{OneCommand}
use Rattle.command_words.specs.Words.{IsCompact, IsMigrate, IsRecover}
use Rattle.log_compaction.specs.Compacted.{IsCompactNo, IsFirstSpentOf, MayCompactLogs, numbers_of}
use Rattle.log_compaction.specs.declared.limits.TheConstants.{GREATEST_TO_COMPACT}
use Rattle.snap_outside.specs.Causes.{Rose}
use Rattle.snap_outside.specs.Disk.{DeviceHistory, content}
use Rattle.record_log.specs.gate_log.declared.limits.TheConstants.{NEW_LOG_SIZE}
use Rattle.record_log.specs.gate_log.declared.logs.LogItem.{LogItem}
use Rattle.record_log.specs.gate_log.declared.opens.OpenNo.TheVariants as refusal
use Rattle.record_log.specs.gate_log.Bytes.{IsLog, DiffersAt, IsDamagedAt}
use Rattle.record_log.specs.gate_log.LogLaws.{OneList, DamageIsNoLog, DifferenceIsNoLog}
use Rattle.record_log.specs.gate_log.Opened.{Opened, Refused}
use Rattle.record_log.specs.txn_records.declared.records.Record.{Record}
use Rattle.record_log.specs.Records.{HoldsRecords, IsFirstBadIn}
use Rattle.record_log.specs.RecordLogLaws.{OneListOfRecords, NoRecordIsBad}
use Rattle.run_work.specs.run_opening.snap_recover.declared.refusals.RecoverNo.TheVariants as recover
use Rattle.run_work.specs.run_opening.snap_recover.declared.causes.LogCause.{LogCause}
use Rattle.run_work.specs.run_opening.snap_recover.declared.causes.LogCause.TheVariants as cause
use Rattle.snap_report.specs.declared.statuses.Status.{Status}
use Rattle.snap_report.specs.declared.statuses.Status.TheVariants as status
use Rattle.log_following.specs.log_opening.Devices.{Device, device_at, HoldsNoOld, HoldsOld, IsOld}
use Rattle.log_following.specs.log_opening.Found.{IsFoldCause}
use Rattle.log_following.specs.log_opening.declared.refusals.LogsNo.TheVariants as ending
use Rattle.log_following.specs.log_opening.Kept.{AreFolded, AreGiven, AreUsed, DeviceHolds, IsLogRefused, records_at}
use Rattle.log_following.specs.log_opening.log_compact.declared.folds.Folded.{Folded}
use Rattle.log_following.specs.log_opening.log_compact.declared.refusals.FoldNo.TheVariants as fold
use Rattle.log_following.specs.log_opening.log_compact.Finding.{AreFronts, FrontsTell, OneUse}
use Rattle.log_following.specs.log_opening.log_compact.Folds.{RefusedAreNotFolded}
use Rattle.log_following.specs.log_opening.log_compact.Fronts.{HoldsFront, IsFront, OneFront}
use Rattle.log_following.specs.log_opening.log_compact.Sets.{IsFolded, OneFold}
use Rattle.run_work.specs.run_opening.Opens.{TellsLog, TellsRecords}
use Rattle.run_work.specs.run_recovery.Recoverable.{AreRecoverable}
use Rattle.snap_run.specs.Uses.{Use}
use Rattle.snap_run.specs.Answers.{IsAnswer, ran, recovered, generated, measured, migrated, compacted, followed, audited, refused}
use Rattle.snap_run.specs.Compactions.{IsCompactAnswer, compact_done, compact_refused, compact_too_many, compact_memory, compact_log_fault, compact_out_fault}
use Rattle.snap_run.specs.Migrations.{IsMigrateAnswer, migrate_done, migrate_refused, migrate_memory, migrate_log_fault, migrate_out_fault}
use Rattle.snap_run.specs.Recoveries.{IsRecoverAnswer, recover_done, recover_refused, recover_memory, recover_log_fault, recover_out_fault}
use Rattle.snap_run.proofs.Outcomes.{not_both, recover_not_gen, recover_not_bench, run_not_migrate, recover_not_migrate, gen_not_migrate, bench_not_migrate, recover_not_audit, migrate_not_audit}
use Rattle.snap_run.proofs.Outcomes.{run_not_compact, recover_not_compact, migrate_not_compact, audit_not_compact, gen_not_compact, bench_not_compact, recover_not_follow, migrate_not_follow, compact_not_follow}

-- what the laws of logs and of records say
pub record RecoverLaws : Type 0 where
  pub lists : OneList
  pub differs : DifferenceIsNoLog
  pub damaged : DamageIsNoLog
  pub one_list : OneListOfRecords
  pub bad : NoRecordIsBad
  pub one_front : OneFront
  pub tell : FrontsTell
  pub one_use : OneUse
  pub one_fold : OneFold
  pub never : RefusedAreNotFolded

pub laws_of : OneList → DifferenceIsNoLog → DamageIsNoLog → OneListOfRecords → NoRecordIsBad → OneFront → FrontsTell → OneUse → OneFold → RefusedAreNotFolded → RecoverLaws
laws_of lists differs damaged one_list bad one_front tell one_use one_fold never = record {
  lists = lists;
  differs = differs;
  damaged = damaged;
  one_list = one_list;
  bad = bad;
  one_front = one_front;
  tell = tell;
  one_use = one_use;
  one_fold = one_fold;
  never = never;
}

-- what folds is not refused
folds_not_refused : (never : RefusedAreNotFolded) (logs : List (List Record)) (f : Folded) (log : ℕ) (c : LogCause) → IsFolded logs f → IsFoldCause logs log c → ⊥
folds_not_refused never logs f log cause.NotALog on x = x
folds_not_refused never logs f log cause.Damage on x = x
folds_not_refused never logs f log cause.OldFormat on x = x
folds_not_refused never logs f log cause.BadRecord on x = x
folds_not_refused never logs f log cause.Stray on x = never logs (fold.Stray log) f (λ e. cc) x on
folds_not_refused never logs f log cause.Back on x = x
folds_not_refused never logs f log cause.NoGenesis on x = never logs (fold.Recover recover.NoGenesis) f (λ e. cc) x.1 on
folds_not_refused never logs f log cause.TwoGenesis on x = never logs (fold.Recover recover.TwoGenesis) f (λ e. cc) x.1 on
folds_not_refused never logs f log (cause.LogCount kept found) on x = never logs (fold.Recover (recover.LogCount kept found)) f (λ e. cc) x.1 on
folds_not_refused never logs f log (cause.Range k) on (inl x) = never logs (fold.Range k log) f (λ e. cc) x on
folds_not_refused never logs f log (cause.Range k) on (inr x) = never logs (fold.Recover (recover.Range k log)) f (λ e. cc) x on
folds_not_refused never logs f log (cause.Missing k) on x = never logs (fold.Recover (recover.Missing k log)) f (λ e. cc) x on
folds_not_refused never logs f log (cause.Values k kept found) on x = never logs (fold.Recover (recover.Values k log kept found)) f (λ e. cc) x on
folds_not_refused never logs f log (cause.Spent number) on x = x
folds_not_refused never logs f log (cause.Differs what kept text) on x = x

-- where no number is too large, none is the first one
none_spent : (xs : List ℕ) (n : ℕ) → AllByRecursion (λ x. x ≤ GREATEST_TO_COMPACT) xs → IsFirstSpentOf xs n → ⊥
none_spent [] n all spent = spent
none_spent (x ∷ xs) n all (inl spent) = omega (arith, all.0, spent.0)
none_spent (x ∷ xs) n all (inr later) = none_spent xs n all.1 later.1

-- ---- one device

-- one that tells its history is there
told_there : (ds : List Device) (d : ℕ) (h : DeviceHistory) → (device_at ds d).told ≡ Some h → d < length ds
told_there [] zero h tells = absurd (cc)
told_there [] (suc d) h tells = absurd (cc)
told_there (x ∷ ds) zero h tells = omega arith
told_there (x ∷ ds) (suc d) h tells = let there = told_there ds d h tells in omega (arith, there)

pub same_records : OneListOfRecords → (d : Device) (rs xs : List Record) → TellsRecords d rs → DeviceHolds d xs → xs ≡ rs
same_records one d rs xs tells holds = one (content tells.0) xs rs (subst (λ (m : Option DeviceHistory). IfSome m (λ h. HoldsRecords (content h) xs)) tells.1 holds) tells.2

log_not_foreign : RecoverLaws → (bytes : List ℕ) (items : List (List ℕ)) (offset : ℕ) → IsLog bytes items → NEW_LOG_SIZE < length bytes → DiffersAt bytes offset → ⊥
log_not_foreign laws bytes items offset (inl short) long differs = omega (arith, short.0, long)
log_not_foreign laws bytes items offset (inr log) long differs = laws.differs bytes offset log.1.0 items differs log.1.1

log_not_damaged : RecoverLaws → (bytes : List ℕ) (items : List (List ℕ)) (offset : ℕ) → IsLog bytes items → NEW_LOG_SIZE < length bytes → IsDamagedAt bytes offset → ⊥
log_not_damaged laws bytes items offset (inl short) long damaged = omega (arith, short.0, long)
log_not_damaged laws bytes items offset (inr log) long damaged = laws.damaged bytes offset log.1.0 items damaged log.1.1

pub opens_well : RecoverLaws → (d : Device) (new : Option DeviceHistory) (offset : ℕ) → TellsLog d → Refused d.told new (refusal.NotALog offset) → ⊥
opens_well laws d new offset tells why =
    let x = subst (λ (m : Option DeviceHistory). Refused m new (refusal.NotALog offset)) tells.2 why in
    log_not_foreign laws (content tells.0) tells.1 offset tells.3 x.1.0 x.1.1

pub opens_whole : RecoverLaws → (d : Device) (new : Option DeviceHistory) (offset : ℕ) → TellsLog d → Refused d.told new (refusal.Damage offset) → ⊥
opens_whole laws d new offset tells why =
    let x = subst (λ (m : Option DeviceHistory). Refused m new (refusal.Damage offset)) tells.2 why in
    log_not_damaged laws (content tells.0) tells.1 offset tells.3 x.1.0 x.1.1

decodes : RecoverLaws → (d : Device) (new : Option DeviceHistory) (rs : List Record) (end offset : ℕ) (items : List LogItem) → TellsRecords d rs → Opened d.told new end items → IsFirstBadIn items offset → ⊥
decodes laws d new rs end offset items tells opened bad =
    laws.bad tells.0 new end offset items rs (subst (λ (m : Option DeviceHistory). Opened m new end items) tells.1 opened) tells.2 bad

never_old : (d : Device) (rs : List Record) → TellsRecords d rs → HoldsNoOld d → HoldsOld d → ⊥
never_old d rs tells none old =
    let no : ¬ IsOld (content tells.0) = subst (λ (m : Option DeviceHistory). IfSome m (λ h. ¬ IsOld (content h))) tells.1 none in
    no (subst (λ (m : Option DeviceHistory). IfSome m (λ h. IsOld (content h))) tells.1 old)

same_front : RecoverLaws → (bytes : List ℕ) (a b : List Record) → HoldsFront bytes a → HoldsFront bytes b → a ≡ b
same_front laws bytes a b one other =
    let same : one.0 ≡ other.0 = laws.lists bytes one.0 other.0 one.1 other.1 in
    laws.one_front other.0 a b (subst (λ (items : List (List ℕ)). IsFront items a) same one.2) other.2

-- the first two records of its front are these
pub front_again : RecoverLaws → (d : Device) (a b : List Record) → TellsLog d → IfSome d.told (λ h. HoldsFront (content h) a) → IfSome d.told (λ h. HoldsFront (content h) b) → a ≡ take 2 b
front_again laws d a b tells one other =
    let here : HoldsFront (content tells.0) a = subst (λ (m : Option DeviceHistory). IfSome m (λ h. HoldsFront (content h) a)) tells.2 one in
    let there : HoldsFront (content tells.0) b = subst (λ (m : Option DeviceHistory). IfSome m (λ h. HoldsFront (content h) b)) tells.2 other in
    same_front laws (content tells.0) a b here there ∙ sym (take_all 2 b there.2.few)

-- lists that hold the same at each place
pub same_lists : (xs ys : List (List Record)) → length xs ≡ length ys → ((l : ℕ) → l < length xs → records_at xs l ≡ records_at ys l) → xs ≡ ys
same_lists [] [] long each = refl
same_lists [] (y ∷ ys) long each = absurd (omega (arith, long))
same_lists (x ∷ xs) [] long each = absurd (omega (arith, long))
same_lists (x ∷ xs) (y ∷ ys) long each =
    ap (λ (l : List Record). l ∷ xs) (each 0 (omega arith)) ∙ ap (λ (ls : List (List Record)). y ∷ ls) (same_lists xs ys (omega (arith, long)) (λ l lt. each (suc l) (omega (arith, lt))))

-- ---- the logs in use

module _ (one : OneCommand) (laws : RecoverLaws) (u : Use) (lists : List (List Record)) (head : ℕ) (f : Folded) (is : AreRecoverable u.devices_before head lists f)
    (quiet : (log : ℕ) → log < length u.devices_before → ¬ Rose (device_at u.devices_before log).faults (device_at u.devices_after log).faults)
    (sink : ¬ Rose u.writing.faults_before u.writing.faults_after)
  where
    abbrev before : List Device
    before = u.devices_before

    pub there : (d : ℕ) → d < 4 → d < length before
    there d lt = let tells = is.each d lt in told_there before d tells.0 tells.2

    -- the same ones are in use, whatever tells it
    pub same_used : (other many generation : ℕ) → AreUsed 1 before other many generation → (head ≡ other) × (length lists ≡ many) × (is.generation ≡ generation)
    same_used other many generation used =
        laws.one_use is.used.fronts 1 head (length lists) is.generation other many generation is.used.used (((laws.tell used.fronts is.used.fronts alike).used 1 other many generation).0 used.used)
      where
        alike : AreFronts used.fronts is.used.fronts
        alike d lt =
            let in_four : d < 4 = omega (arith, lt) in
            front_again laws (device_at before d) (is.used.fronts d) (used.fronts d) (is.each d in_four) (is.used.each d in_four) (used.each d in_four)

    -- what is told of one of them is told of the same
    pub told_at : (other many generation log n : ℕ) → AreUsed 1 before other many generation → n < many → log ≡ other + n → (n < length lists) × (head + n ≡ log)
    told_at other many generation log n used lt named = let same = same_used other many generation used in (omega (arith, same.1, lt), omega (arith, same.0, named))

    given_same : (other : ℕ) (xs : List (List Record)) → AreGiven before other xs → (head ≡ other) × (xs ≡ lists)
    given_same other xs given =
        let same = same_used other (length xs) given.generation given.used in
        let first : head ≡ other = same.0 in (
          first,
          same_lists xs lists (sym same.1) (λ l lt.
              let held : DeviceHolds (device_at before (head + l)) (records_at xs l) = subst (λ (h : ℕ). DeviceHolds (device_at before (h + l)) (records_at xs l)) (sym first) (given.held l lt) in
              same_records laws.one_list (device_at before (head + l)) (records_at lists l) (records_at xs l) (is.told l (omega (arith, lt, same.1))) held),
        )

    folded_same : (logs : AreFolded before) → (head ≡ logs.head) × (logs.lists ≡ lists) × (logs.fold ≡ f)
    folded_same logs =
        let same = given_same logs.head logs.lists logs.given in
        (same.0, same.1, laws.one_fold lists logs.fold f (subst (λ (xs : List (List Record)). IsFolded xs logs.fold) same.1 logs.folded) is.folded)

    given_not_refused : (other : ℕ) (xs : List (List Record)) (number : ℕ) (c : LogCause) → AreGiven before other xs → IsFoldCause xs number c → ⊥
    given_not_refused other xs number c given why =
        folds_not_refused laws.never lists f number c is.folded (subst (λ (l : List (List Record)). IsFoldCause l number c) (given_same other xs given).1 why)

    none_refused : (after : List Device) (log offset : ℕ) (c : LogCause) → IsLogRefused before after log offset c → ⊥
    none_refused after log offset cause.NotALog x = opens_well laws (device_at before log) (device_at after log).told offset (is.each log x.there) x.refused
    none_refused after log offset cause.Damage x = opens_whole laws (device_at before log) (device_at after log).told offset (is.each log x.there) x.refused
    none_refused after log offset cause.BadRecord x =
        let bad = x.0 in
        let at = told_at bad.head bad.count bad.generation log (length bad.below) bad.used bad.asked bad.is in
        let here : TellsRecords (device_at before log) (records_at lists (length bad.below)) =
        subst (λ (d : ℕ). TellsRecords (device_at before d) (records_at lists (length bad.below))) at.1 (is.told (length bad.below) at.0) in
        decodes laws (device_at before log) bad.bad.1 (records_at lists (length bad.below)) bad.bad.0 offset bad.bad.2 here bad.bad.3 bad.bad.4
    none_refused after log offset cause.Stray x = given_not_refused x.1.head x.1.lists x.1.number cause.Stray x.1.given x.1.cause_is
    none_refused after log offset cause.Back x = given_not_refused x.1.head x.1.lists x.1.number cause.Back x.1.given x.1.cause_is
    none_refused after log offset cause.NoGenesis x = given_not_refused x.1.head x.1.lists x.1.number cause.NoGenesis x.1.given x.1.cause_is
    none_refused after log offset cause.TwoGenesis x = given_not_refused x.1.head x.1.lists x.1.number cause.TwoGenesis x.1.given x.1.cause_is
    none_refused after log offset (cause.LogCount k n) x = given_not_refused x.1.head x.1.lists x.1.number (cause.LogCount k n) x.1.given x.1.cause_is
    none_refused after log offset (cause.Range k) x = given_not_refused x.1.head x.1.lists x.1.number (cause.Range k) x.1.given x.1.cause_is
    none_refused after log offset (cause.Missing k) x = given_not_refused x.1.head x.1.lists x.1.number (cause.Missing k) x.1.given x.1.cause_is
    none_refused after log offset cause.OldFormat x = given_not_refused x.1.head x.1.lists x.1.number cause.OldFormat x.1.given x.1.cause_is
    none_refused after log offset (cause.Values k kept found) x = given_not_refused x.1.head x.1.lists x.1.number (cause.Values k kept found) x.1.given x.1.cause_is
    none_refused after log offset (cause.Spent n) x = given_not_refused x.1.head x.1.lists x.1.number (cause.Spent n) x.1.given x.1.cause_is
    none_refused after log offset (cause.Differs w k t) x = given_not_refused x.1.head x.1.lists x.1.number (cause.Differs w k t) x.1.given x.1.cause_is

    -- ---- the answers that are left

    recover_completed : (s : Status) → IsRecoverAnswer u.devices_before u.devices_after u.writing s → (s ≡ status.Done) ⊎ (s ≡ status.Memory)
    recover_completed s (recover_done f is writes) = inl refl
    recover_completed s (recover_refused log offset c why nothing) = absurd (none_refused u.devices_after log offset c why)
    recover_completed s (recover_memory lacks nothing) = inr refl
    recover_completed s (recover_log_fault log failed nothing) = absurd (quiet log (there log failed.not_opened.there) failed.rose)
    recover_completed s (recover_out_fault f is front rose) = absurd (sink rose)

    migrate_completed : (s : Status) → IsMigrateAnswer u.devices_before u.devices_after u.writing s → (s ≡ status.Done) ⊎ (s ≡ status.Memory)
    migrate_completed s (migrate_done count is writes) = inl refl
    migrate_completed s (migrate_refused log offset c why nothing) = absurd (none_refused u.devices_after log offset c why)
    migrate_completed s (migrate_memory lacks nothing) = inr refl
    migrate_completed s (migrate_log_fault log (inl failed) nothing) = absurd (quiet log (there log failed.not_opened.there) failed.rose)
    migrate_completed s (migrate_log_fault log (inr fails) nothing) =
        let logs = fails.logs in
        let at = told_at logs.head (length logs.lists) logs.given.generation log fails.fails.number logs.given.used fails.fails.asked fails.fails.is in
        let tells = is.told fails.fails.number at.0 in
        let here : log < length before = subst (λ (d : ℕ). d < length before) at.1 (told_there before (head + fails.fails.number) tells.0 tells.1) in
        absurd (quiet log here fails.fails.rose)
    migrate_completed s (migrate_out_fault count is front rose) = absurd (sink rose)

    -- what may be compacted is not refused
    none_kept_back : MayCompactLogs before head (length lists) f → (log offset : ℕ) (c : LogCause) → IsCompactNo before u.devices_after (ending.Refused log offset c) → ⊥
    none_kept_back may log offset cause.OldFormat x =
        let old = x.1.old in
        let logs = x.1.logs in
        let at = told_at logs.head (length logs.lists) logs.given.generation log old.number logs.given.used old.asked old.is in
        let here : HoldsOld (device_at before (head + old.number)) = subst (λ (d : ℕ). HoldsOld (device_at before d)) (sym at.1) old.old in
        never_old (device_at before (head + old.number)) (records_at lists old.number) (is.told old.number at.0) (may.recent old.number at.0) here
    none_kept_back may log offset (cause.Spent number) x =
        let logs = x.1.logs in
        none_spent (numbers_of f) number may.unspent (subst (λ (g : Folded). IsFirstSpentOf (numbers_of g) number) (folded_same logs).2 x.1.spent)
    none_kept_back may log offset cause.NotALog x = none_refused u.devices_after log offset cause.NotALog x
    none_kept_back may log offset cause.Damage x = none_refused u.devices_after log offset cause.Damage x
    none_kept_back may log offset cause.BadRecord x = none_refused u.devices_after log offset cause.BadRecord x
    none_kept_back may log offset cause.Stray x = none_refused u.devices_after log offset cause.Stray x
    none_kept_back may log offset cause.Back x = none_refused u.devices_after log offset cause.Back x
    none_kept_back may log offset cause.NoGenesis x = none_refused u.devices_after log offset cause.NoGenesis x
    none_kept_back may log offset cause.TwoGenesis x = none_refused u.devices_after log offset cause.TwoGenesis x
    none_kept_back may log offset (cause.LogCount k n) x = none_refused u.devices_after log offset (cause.LogCount k n) x
    none_kept_back may log offset (cause.Range k) x = none_refused u.devices_after log offset (cause.Range k) x
    none_kept_back may log offset (cause.Missing k) x = none_refused u.devices_after log offset (cause.Missing k) x
    none_kept_back may log offset (cause.Values k kept found) x = none_refused u.devices_after log offset (cause.Values k kept found) x
    none_kept_back may log offset (cause.Differs w k t) x = none_refused u.devices_after log offset (cause.Differs w k t) x

    compact_completed : MayCompactLogs before head (length lists) f → (s : Status) → IsCompactAnswer u.devices_before u.devices_after u.writing s → (s ≡ status.Done) ⊎ (s ≡ status.Memory)
    compact_completed may s (compact_done generation is writes) = inl refl
    compact_completed may s (compact_refused log offset c why nothing) = absurd (none_kept_back may log offset c why)
    compact_completed may s (compact_too_many count many nothing) =
        let same : many.logs.lists ≡ lists = (folded_same many.logs).1 in
        let size : length many.logs.lists ≡ length lists = ap (λ (l : List (List Record)). length l) same in
        absurd (omega (arith, size, many.is, many.many, may.few))
    compact_completed may s (compact_memory why nothing) = inr refl
    compact_completed may s (compact_log_fault log lt (inl failed) nothing) = absurd (quiet log (there log lt) failed.rose)
    compact_completed may s (compact_log_fault log lt (inr begun) nothing) = absurd (quiet log (there log lt) begun.1)
    compact_completed may s (compact_out_fault generation is front rose) = absurd (sink rose)

    pub completed_recover : IsRecover u.words → (s : Status) → IsAnswer u s → (s ≡ status.Done) ⊎ (s ≡ status.Memory)
    completed_recover recover s (ran n seed run _) = absurd (not_both one u.words n seed run recover)
    completed_recover recover s (recovered _ _ _ _ a) = recover_completed s a
    completed_recover recover s (generated count seed gen _ _ _) = absurd (recover_not_gen one u.words count seed recover gen)
    completed_recover recover s (measured count seed n bench _ _) = absurd (recover_not_bench one u.words count seed n recover bench)
    completed_recover recover s (migrated migrate _ _ _ _) = absurd (recover_not_migrate one u.words recover migrate)
    completed_recover recover s (compacted compact _ _ _ _) = absurd (recover_not_compact one u.words recover compact)
    completed_recover recover s (followed j follow _ _ _ _) = absurd (recover_not_follow one u.words j recover follow)
    completed_recover recover s (audited audit _ _) = absurd (recover_not_audit one u.words recover audit)
    completed_recover recover s (refused place is fault _ _) = absurd (fault.no_form (inr (inl recover)))

    pub completed_migrate : IsMigrate u.words → (s : Status) → IsAnswer u s → (s ≡ status.Done) ⊎ (s ≡ status.Memory)
    completed_migrate migrate s (ran n seed run _) = absurd (run_not_migrate one u.words n seed run migrate)
    completed_migrate migrate s (recovered recover _ _ _ _) = absurd (recover_not_migrate one u.words recover migrate)
    completed_migrate migrate s (generated count seed gen _ _ _) = absurd (gen_not_migrate one u.words count seed gen migrate)
    completed_migrate migrate s (measured count seed n bench _ _) = absurd (bench_not_migrate one u.words count seed n bench migrate)
    completed_migrate migrate s (migrated _ _ _ _ a) = migrate_completed s a
    completed_migrate migrate s (compacted compact _ _ _ _) = absurd (migrate_not_compact one u.words migrate compact)
    completed_migrate migrate s (followed j follow _ _ _ _) = absurd (migrate_not_follow one u.words j migrate follow)
    completed_migrate migrate s (audited audit _ _) = absurd (migrate_not_audit one u.words migrate audit)
    completed_migrate migrate s (refused place is fault _ _) = absurd (fault.no_form (inr (inr (inr (inr (inl migrate))))))

    pub completed_compact : MayCompactLogs before head (length lists) f → IsCompact u.words → (s : Status) → IsAnswer u s → (s ≡ status.Done) ⊎ (s ≡ status.Memory)
    completed_compact may compact s (ran n seed run _) = absurd (run_not_compact one u.words n seed run compact)
    completed_compact may compact s (recovered recover _ _ _ _) = absurd (recover_not_compact one u.words recover compact)
    completed_compact may compact s (generated count seed gen _ _ _) = absurd (gen_not_compact one u.words count seed gen compact)
    completed_compact may compact s (measured count seed n bench _ _) = absurd (bench_not_compact one u.words count seed n bench compact)
    completed_compact may compact s (migrated migrate _ _ _ _) = absurd (migrate_not_compact one u.words migrate compact)
    completed_compact may compact s (compacted _ _ _ _ a) = compact_completed may s a
    completed_compact may compact s (followed j follow _ _ _ _) = absurd (compact_not_follow one u.words j compact follow)
    completed_compact may compact s (audited audit _ _) = absurd (audit_not_compact one u.words audit compact)
    completed_compact may compact s (refused place is fault _ _) = absurd (fault.no_form (inr (inr (inr (inr (inr (inr (inl compact))))))))
