-- Where nothing stands in the way of following, only two answers are left.
use Rattle.std.proofs.Common.{◌≡◌, ◌⊎◌, inl, inr, ℕ, zero, suc, ◌+◌, ◌<◌, ◌≤◌, List, [], ◌∷◌, length, take, replicate, refl, sym, ◌∙◌, ap, subst, arith, Option, Some}
use Rattle.std.specs.Prelude.{IfSome}
use Rattle.std.specs.List.{AllByRecursion}
use Rattle.command_words.specs.CommandLaws.{OneCommand}
use Rattle.command_words.specs.Words.{IsFollow}
use Rattle.log_following.specs.FollowLaws.{AreAlike, FoldedAreFollowed}
use Rattle.log_following.specs.Followed.{RoundsAreMade, HoldNoSet, HoldSet, IsFollowRefused, IsOneReading, IsRoundRefused}
use Rattle.log_following.specs.Rounds.{AreRounds, IsRoundCause, nothing_known}
use Rattle.log_following.specs.snap_follow.Rounds.{Following}
use Rattle.log_following.specs.log_opening.Devices.{Device, device_at}
use Rattle.log_following.specs.log_opening.Kept.{AreUsed, DeviceHolds, records_at}
use Rattle.log_following.specs.log_opening.log_compact.declared.folds.Folded.{Folded}
use Rattle.log_following.specs.log_opening.log_compact.Finding.{AreFronts, HasNoSet}
use Rattle.log_following.specs.log_reading.Read.{IsReadFrom}
use Rattle.log_following.specs.log_reading.ReadLaws.{ReadIsOpened}
use Rattle.record_log.specs.gate_log.declared.logs.LogItem.{LogItem}
use Rattle.record_log.specs.Records.{IsFirstBadIn}
use Rattle.record_log.specs.txn_records.declared.records.Record.{Record}
use Rattle.run_work.specs.run_opening.Opens.{TellsRecords}
use Rattle.run_work.specs.run_opening.snap_recover.declared.causes.LogCause.{LogCause}
use Rattle.run_work.specs.run_opening.snap_recover.declared.causes.LogCause.TheVariants as cause
use Rattle.run_work.specs.run_recovery.Recoverable.{AreRecoverable}
use Rattle.snap_outside.specs.Causes.{Rose}
use Rattle.snap_outside.specs.Disk.{DeviceHistory, content}
use Rattle.snap_report.specs.declared.statuses.Status.{Status}
use Rattle.snap_report.specs.declared.statuses.Status.TheVariants as status
use Rattle.snap_run.proofs.Outcomes.{run_not_follow, recover_not_follow, migrate_not_follow, compact_not_follow, audit_not_follow, gen_not_follow, bench_not_follow}
use Rattle.snap_run.proofs.RecoverComplete.{RecoverLaws, front_again, opens_well, opens_whole, same_lists, same_records, same_used, there, told_at}
use Rattle.snap_run.specs.Answers.{IsAnswer, ran, recovered, generated, measured, migrated, compacted, followed, audited, refused}
use Rattle.snap_run.specs.Followings.{IsFollowAnswer, follow_done, follow_refused, follow_memory, follow_log_fault, follow_out_fault}
use Rattle.snap_run.specs.Uses.{Use}

-- ---- what the round before read

none_of_many : (count : ℕ) → AllByRecursion (λ (rs : List Record). rs ≡ []) (replicate count [])
none_of_many zero = tt
none_of_many (suc count) = (refl, none_of_many count)

rounds_alike : (lists : List (List Record)) (f : Following) (readings : List (List (List Record))) (known : Following) → AllByRecursion (λ (xs : List (List Record)). xs ≡ lists) readings
    → AreAlike f.before lists → AreRounds f readings known → AreAlike known.before lists
rounds_alike lists f [] known all alike made = subst (λ (x : Following). AreAlike x.before lists) (sym made) alike
rounds_alike lists f (xs ∷ readings) known all alike made = rounds_alike lists made.0 readings known all.1 (inl (made.2.before ∙ all.0)) made.3

each_same : (P Q : List (List Record) → Type 0) (readings : List (List (List Record))) → ((xs : List (List Record)) → P xs → Q xs) → AllByRecursion P readings → AllByRecursion Q readings
each_same P Q [] so all = tt
each_same P Q (xs ∷ readings) so all = (so xs all.0, each_same P Q readings so all.1)

module _ (one : OneCommand) (laws : RecoverLaws) (opened : ReadIsOpened) (never : FoldedAreFollowed) (u : Use) (lists : List (List Record)) (head : ℕ) (f : Folded)
    (is : AreRecoverable u.devices_before head lists f)
    (quiet : (log : ℕ) → log < length u.devices_before → ¬ Rose (device_at u.devices_before log).faults (device_at u.devices_after log).faults)
    (sink : ¬ Rose u.writing.faults_before u.writing.faults_after)
    (set_head set_count set_generation : ℕ) (set : HoldSet u.devices_before set_head set_count set_generation)
  where
    abbrev before : List Device
    before = u.devices_before

    used_by : (other many generation : ℕ) → HoldSet before other many generation → AreUsed 1 before other many generation
    used_by other many generation holds = record { fronts = holds.fronts; each = holds.each; used = inl holds.set }

    -- each reading gives these lists
    reading_same : (other many generation : ℕ) (xs : List (List Record)) → HoldSet before other many generation → IsOneReading before other many xs → xs ≡ lists
    reading_same other many generation xs holds reading =
        let same = same_used one laws u lists head f is quiet sink other many generation (used_by other many generation holds) in
        same_lists xs lists (reading.many ∙ sym same.1) (λ l lt.
        let held : DeviceHolds (device_at before (head + l)) (records_at xs l) = subst (λ (h : ℕ). DeviceHolds (device_at before (h + l)) (records_at xs l)) (sym same.0) (reading.held l lt) in
        same_records laws.one_list (device_at before (head + l)) (records_at lists l) (records_at xs l) (is.told l (omega (arith, lt, reading.many, same.1))) held)

    made_alike : (other many generation n : ℕ) (known : Following) → HoldSet before other many generation → RoundsAreMade before other many n known → AreAlike known.before lists
    made_alike other many generation n known holds made =
        rounds_alike lists (nothing_known many) made.readings known
        (each_same (IsOneReading before other many) (λ (xs : List (List Record)). xs ≡ lists) made.readings (λ xs reading. reading_same other many generation xs holds reading) made.each)
        (inr (none_of_many many)) made.made

    not_bad : (d : Device) (rs : List Record) (items : List LogItem) (offset : ℕ) → TellsRecords d rs → IfSome d.told (λ h. IsReadFrom (content h) items) → IsFirstBadIn items offset → ⊥
    not_bad d rs items offset tells read bad =
        let now = opened tells.0 items (subst (λ (m : Option DeviceHistory). IfSome m (λ h. IsReadFrom (content h) items)) tells.1 read) in
        laws.bad tells.0 now.0 now.1 offset items rs now.2 tells.2 bad

    some_set : HoldNoSet before → ⊥
    some_set holds = (laws.tell set.fronts holds.fronts alike).none.1 holds.none set_head set_count set.set.first set.set.is_head
      where
        alike : AreFronts set.fronts holds.fronts
        alike d lt =
            let in_four : d < 4 = omega (arith, lt) in
            front_again laws (device_at before d) (holds.fronts d) (set.fronts d) (is.each d in_four) (holds.each d in_four) (set.each d in_four)

    not_refused : (rounds log : ℕ) (c : LogCause) → IsRoundRefused rounds before log c → ⊥
    not_refused rounds log c x =
        never x.known.before lists f x.number c is.folded (made_alike x.head x.count x.generation x.earlier x.known x.set x.made)
        (subst (λ (xs : List (List Record)). IsRoundCause x.known.before xs x.number c) (reading_same x.head x.count x.generation x.lists x.set x.reading) x.cause_is)

    none_refused : (rounds : ℕ) (after : List Device) (log offset : ℕ) (c : LogCause) → IsFollowRefused rounds before after log offset c → ⊥
    none_refused rounds after log offset cause.NotALog x = opens_well laws (device_at before log) (device_at after log).told offset (is.each log x.there) x.unread.refused
    none_refused rounds after log offset cause.Damage x = opens_whole laws (device_at before log) (device_at after log).told offset (is.each log x.there) x.unread.refused
    none_refused rounds after log offset cause.BadRecord x =
        let at = told_at one laws u lists head f is quiet sink x.head x.count x.generation log (length x.below) (used_by x.head x.count x.generation x.set) x.asked x.is in
        let here : TellsRecords (device_at before log) (records_at lists (length x.below)) =
        subst (λ (d : ℕ). TellsRecords (device_at before d) (records_at lists (length x.below))) at.1 (is.told (length x.below) at.0) in
        not_bad (device_at before log) (records_at lists (length x.below)) x.items offset here x.read x.bad
    none_refused rounds after log offset cause.NoGenesis x = some_set x.2
    none_refused rounds after log offset c x = not_refused rounds log c x.1

    follow_completed : (rounds : ℕ) (s : Status) → IsFollowAnswer rounds u.devices_before u.devices_after u.writing s → (s ≡ status.Done) ⊎ (s ≡ status.Memory)
    follow_completed rounds s (follow_done g has writes) = inl refl
    follow_completed rounds s (follow_refused log offset c why nothing) = absurd (none_refused rounds u.devices_after log offset c why)
    follow_completed rounds s (follow_memory nothing) = inr refl
    follow_completed rounds s (follow_log_fault log why nothing) =
        absurd (quiet log (there one laws u lists head f is quiet sink log why.there) (why.unread.failed refl))
    follow_completed rounds s (follow_out_fault g has front rose) = absurd (sink rose)

    pub completed_follow : (rounds : ℕ) → IsFollow u.words rounds → (s : Status) → IsAnswer u s → (s ≡ status.Done) ⊎ (s ≡ status.Memory)
    completed_follow rounds follow s (ran n seed run _) = absurd (run_not_follow one u.words n seed rounds run follow)
    completed_follow rounds follow s (recovered recover _ _ _ _) = absurd (recover_not_follow one u.words rounds recover follow)
    completed_follow rounds follow s (generated count seed gen _ _ _) = absurd (gen_not_follow one u.words count seed rounds gen follow)
    completed_follow rounds follow s (measured count seed n bench _ _) = absurd (bench_not_follow one u.words count seed n rounds bench follow)
    completed_follow rounds follow s (migrated migrate _ _ _ _) = absurd (migrate_not_follow one u.words rounds migrate follow)
    completed_follow rounds follow s (compacted compact _ _ _ _) = absurd (compact_not_follow one u.words rounds compact follow)
    completed_follow rounds follow s (followed own _ _ _ _ a) = follow_completed own s a
    completed_follow rounds follow s (audited audit _ _) = absurd (audit_not_follow one u.words rounds audit follow)
    completed_follow rounds follow s (refused place is_place fault _ _) = absurd (fault.no_form (inr (inr (inr (inr (inr (inr (inr (rounds, follow)))))))))
