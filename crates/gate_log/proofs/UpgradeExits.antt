-- What an upgrade adds to a device's history, and what follows of the log, at each of its exits.
use Rattle.std.proofs.Common.{◌≡◌, ℕ, ◌<◌, arith, List, [], ◌∷◌, ◌++◌, Option, Some, None, Result, Ok, Err, refl, sym, subst, inl, inr}
use Rattle.std.specs.Option.{IfSome, IsSome, ForSome}
use Rattle.std.specs.Result.{MatchResult, OnOk, OnErr}
use Rattle.snap_outside.specs.declared.devices.DevOp.{DevOp}
use Rattle.snap_outside.specs.declared.devices.DevOp.TheVariants.{Write, Sync}
use Rattle.snap_outside.specs.Disk.{DeviceHistory, disk, content, with_ops, EachMoment, AddsOperation, MayAdd, AddsAll, AddsUpToFault}
use Rattle.snap_outside.specs.Moments.{adds_nothing}
use Rattle.gate_log.specs.Appends.{upgrade_ops}
use Rattle.gate_log.specs.Bytes.{IsLog}
use Rattle.gate_log.specs.Device.{DeviceLog, HasFormat, IsReadyDevice, Upgraded, UpgradesSafely}
use Rattle.gate_log.proofs.AppendDisks.{moments_front}
use Rattle.gate_log.proofs.AppendExits.{adds_more, may_add_more, adds_same, up_to}
use Rattle.gate_log.proofs.Upgrades.{second, upgrade_gives, upgrade_keeps}

-- ---- the exits of the two operations

abbrev mark : DevOp
mark = Write 7 (50 ∷ [])

mark_added : (t0 t1 : Option DeviceHistory) → AddsOperation t0 t1 mark → AddsAll t0 t1 (mark ∷ [])
mark_added t0 t1 w = adds_more t0 t0 t1 [] mark (adds_nothing t0 t0 refl) w

pub mark_failed : (t0 t1 : Option DeviceHistory) → MayAdd t0 t1 mark → AddsUpToFault t0 t1 upgrade_ops
mark_failed t0 t1 w = elim (may_add_more t0 t0 t1 [] mark (adds_nothing t0 t0 refl) w) [
  | inl none ↦ up_to t0 t1 [] mark (Sync ∷ []) none
  | inr one ↦ up_to t0 t1 (mark ∷ []) Sync [] one
]

pub mark_synced : {T E : Type 0} (t0 t1 t2 : Option DeviceHistory) (r : Result T E) → AddsOperation t0 t1 mark
    → MatchResult r (λ _. AddsOperation t1 t2 Sync) (λ _. t2 ≡ t1) → OnOk r (AddsAll t0 t2 upgrade_ops)
mark_synced t0 t1 t2 (Ok x) w s = adds_more t0 t1 t2 (mark ∷ []) Sync (mark_added t0 t1 w) s
mark_synced t0 t1 t2 (Err e) w s = tt

pub mark_not_synced : {T E : Type 0} (t0 t1 t2 : Option DeviceHistory) (r : Result T E) → AddsOperation t0 t1 mark
    → MatchResult r (λ _. AddsOperation t1 t2 Sync) (λ _. t2 ≡ t1) → OnErr r (AddsUpToFault t0 t2 upgrade_ops)
mark_not_synced t0 t1 t2 (Ok x) w s = tt
mark_not_synced t0 t1 t2 (Err e) w same = up_to t0 t2 (mark ∷ []) Sync [] (adds_same t0 t1 t2 (mark ∷ []) (mark_added t0 t1 w) same)

-- ---- what follows of the log

-- a front of the operations was made
safely : (old new : Option DeviceHistory) (end : ℕ) (made left : List DevOp) → upgrade_ops ≡ made ++ left → AddsAll old new made → UpgradesSafely old new end
safely None new end made left front adds = tt
safely (Some h) new end made left front adds = (
  made,
  adds,
  (λ items log. moments_front (disk h) made left (λ image. IsLog image items) (subst (λ (ops : List DevOp). EachMoment (disk h) ops (λ image. IsLog image items)) front (upgrade_keeps h end items log))),
)

pub not_begun : (old : Option DeviceHistory) (end : ℕ) → UpgradesSafely old old end
not_begun old end = safely old old end [] upgrade_ops refl (adds_nothing old old refl)

log_stays : (old new : Option DeviceHistory) (end : ℕ) → AddsAll old new upgrade_ops → IfSome old (λ h. (items : List (List ℕ)) × DeviceLog h end items)
    → IfSome new (λ g. (items : List (List ℕ)) × DeviceLog g end items)
log_stays None new end adds log = subst (λ (t : Option DeviceHistory). IfSome t (λ g. (items : List (List ℕ)) × DeviceLog g end items)) (sym adds) tt
log_stays (Some h) new end adds log =
    subst (λ (t : Option DeviceHistory). IfSome t (λ g. (items : List (List ℕ)) × DeviceLog g end items)) (sym adds) (log.0, (upgrade_gives h end log.0 log.1).0)

second_now : (old new : Option DeviceHistory) (end : ℕ) → AddsAll old new upgrade_ops → IfSome old (λ h. (items : List (List ℕ)) × DeviceLog h end items) → HasFormat new 2
second_now None new end adds log = subst (λ (t : Option DeviceHistory). HasFormat t 2) (sym adds) tt
second_now (Some h) new end adds log =
    let up = (upgrade_gives h end log.0 log.1).1 in
    subst (λ (t : Option DeviceHistory). HasFormat t 2) (sym adds) (sym up, sym (second (content (with_ops h upgrade_ops)) up))

same_items : (old new : Option DeviceHistory) (end : ℕ) → AddsAll old new upgrade_ops
    → IfSome old (λ h. IfSome new (λ g. (items : List (List ℕ)) → DeviceLog h end items → DeviceLog g end items))
same_items None new end adds = tt
same_items (Some h) new end adds =
    subst (λ (t : Option DeviceHistory). IfSome t (λ g. (items : List (List ℕ)) → DeviceLog h end items → DeviceLog g end items)) (sym adds) (λ items log. (upgrade_gives h end items log).0)

-- ---- the same where the history and the end are told by equations

pub done_ops : (old told new : Option DeviceHistory) → told ≡ old → AddsAll told new upgrade_ops → AddsAll old new upgrade_ops
done_ops old told new same adds = subst (λ (t : Option DeviceHistory). AddsAll t new upgrade_ops) same adds

pub failed_ops : (old told new : Option DeviceHistory) → told ≡ old → AddsUpToFault told new upgrade_ops → AddsUpToFault old new upgrade_ops
failed_ops old told new same adds = subst (λ (t : Option DeviceHistory). AddsUpToFault t new upgrade_ops) same adds

pub safely_done : (old told new : Option DeviceHistory) (end : ℕ) → told ≡ old → AddsAll told new upgrade_ops → UpgradesSafely old new end
safely_done old told new end same adds = safely old new end upgrade_ops [] refl (done_ops old told new same adds)

pub safely_failed : (old told new : Option DeviceHistory) (end : ℕ) → told ≡ old → AddsUpToFault told new upgrade_ops → UpgradesSafely old new end
safely_failed old told new end same adds = let here = failed_ops old told new same adds in safely old new end here.0 here.1.left here.1.whole here.2

pub upgraded : (old told new : Option DeviceHistory) (length_before : Option ℕ) (old_end end format : ℕ) → told ≡ old → end ≡ old_end → IsReadyDevice told length_before end format
    → AddsAll told new upgrade_ops → Upgraded old new old_end
upgraded old told new length_before old_end end format same same_end ready adds =
    (same_items old new old_end (done_ops old told new same adds), second_now told new end adds ready.log)

pub upgraded_ready : (told new : Option DeviceHistory) (length_before length_after : Option ℕ) (end format : ℕ) → IsReadyDevice told length_before end format
    → AddsAll told new upgrade_ops → length_after ≡ length_before → IsReadyDevice new length_after end 2
upgraded_ready told new length_before length_after end format ready adds same = record {
  log = log_stays told new end adds ready.log;
  formatted = second_now told new end adds ready.log;
  begun = ready.begun;
  known = subst (λ (n : Option ℕ). IsSome n) (sym same) ready.known;
  within = subst (λ (n : Option ℕ). ForSome n (λ len. end < len)) (sym same) ready.within;
}

-- the mark lies in the device
pub mark_within : (told : Option DeviceHistory) (told_length : Option ℕ) (end format : ℕ) → IsReadyDevice told told_length end format → ForSome told_length (λ len. 8 < len)
mark_within told told_length end format ready = λ len is. omega (arith, ready.begun, ready.within len is)
