-- What a clearing adds to a device's history, and what follows of the log, at each of its exits.
use Rattle.std.proofs.Common.{◌≡◌, ℕ, ◌<◌, ◌≤◌, Bool, true, false, List, [], ◌∷◌, ◌++◌, Option, Some, None, Result, Ok, Err, refl, sym, subst, inl, inr, arith, append-nil}
use Rattle.std.specs.Prelude.{nat_le, if◌then◌else◌}
use Rattle.std.specs.Option.{IfSome, IsSome, ForSome}
use Rattle.std.specs.Result.{MatchResult, OnOk, OnErr}
use Rattle.std.proofs.lemmas.Bool.{leb-true, leb-false}
use Rattle.snap_outside.specs.declared.devices.DevOp.{DevOp}
use Rattle.snap_outside.specs.declared.devices.DevOp.TheVariants.{Write, Sync}
use Rattle.snap_outside.specs.Disk.{DeviceHistory, disk, EachMoment, AddsOperation, MayAdd, AddsAll, AddsUpToFault}
use Rattle.snap_outside.specs.Moments.{adds_nothing}
use Rattle.gate_log.specs.Appends.{close_ops, clear_ops}
use Rattle.gate_log.specs.Device.{DeviceLog, HasFormat, IsReadyDevice, Cleared, ClearsSafely}
use Rattle.gate_log.proofs.AppendDisks.{moments_front}
use Rattle.gate_log.proofs.AppendExits.{adds_more, may_add_more, adds_same, up_to}
use Rattle.gate_log.proofs.ClearLogs.{OldOrNone, closed_on, closed_format, clear_gives, clear_keeps}

-- ---- the exits of the two operations

abbrev gate_closes : DevOp
gate_closes = Write 8 (0 ∷ [])

gate_added : (t0 t1 : Option DeviceHistory) → AddsOperation t0 t1 gate_closes → AddsAll t0 t1 (gate_closes ∷ [])
gate_added t0 t1 w = adds_more t0 t0 t1 [] gate_closes (adds_nothing t0 t0 refl) w

pub gate_failed : (t0 t1 : Option DeviceHistory) → MayAdd t0 t1 gate_closes → AddsUpToFault t0 t1 close_ops
gate_failed t0 t1 w = elim (may_add_more t0 t0 t1 [] gate_closes (adds_nothing t0 t0 refl) w) [
  | inl none ↦ up_to t0 t1 [] gate_closes (Sync ∷ []) none
  | inr one ↦ up_to t0 t1 (gate_closes ∷ []) Sync [] one
]

pub gate_synced : {T E : Type 0} (t0 t1 t2 : Option DeviceHistory) (r : Result T E) → AddsOperation t0 t1 gate_closes
    → MatchResult r (λ _. AddsOperation t1 t2 Sync) (λ _. t2 ≡ t1) → OnOk r (AddsAll t0 t2 close_ops)
gate_synced t0 t1 t2 (Ok x) w s = adds_more t0 t1 t2 (gate_closes ∷ []) Sync (gate_added t0 t1 w) s
gate_synced t0 t1 t2 (Err e) w s = tt

pub gate_not_synced : {T E : Type 0} (t0 t1 t2 : Option DeviceHistory) (r : Result T E) → AddsOperation t0 t1 gate_closes
    → MatchResult r (λ _. AddsOperation t1 t2 Sync) (λ _. t2 ≡ t1) → OnErr r (AddsUpToFault t0 t2 close_ops)
gate_not_synced t0 t1 t2 (Ok x) w s = tt
gate_not_synced t0 t1 t2 (Err e) w same = up_to t0 t2 (gate_closes ∷ []) Sync [] (adds_same t0 t1 t2 (gate_closes ∷ []) (gate_added t0 t1 w) same)

-- ---- what follows of the log

-- a front of the operations was made
safely : (old new : Option DeviceHistory) (end : ℕ) (made left : List DevOp) → clear_ops end ≡ made ++ left → AddsAll old new made → ClearsSafely old new end
safely None new end made left front adds = tt
safely (Some h) new end made left front adds = (
  made,
  adds,
  (λ items log. moments_front (disk h) made left (OldOrNone items) (subst (λ (ops : List DevOp). EachMoment (disk h) ops (OldOrNone items)) front (clear_keeps h end items log))),
)

pub not_begun : (old : Option DeviceHistory) (end : ℕ) → ClearsSafely old old end
not_begun old end = safely old old end [] (clear_ops end) refl (adds_nothing old old refl)

-- where there is a group, the gate is closed
far_ops : (end : ℕ) → 8 < end → close_ops ≡ clear_ops end
far_ops end far = by (nat_le end 8) refl
  where
    by : (b : Bool) → nat_le end 8 ≡ b → close_ops ≡ (if b then [] else close_ops)
    by true e = absurd (omega (arith, leb-true end 8 e, far))
    by false e = refl

-- where there is none, nothing is done
low_ops : (end : ℕ) → end ≤ 8 → [] ≡ clear_ops end
low_ops end low = by (nat_le end 8) refl
  where
    by : (b : Bool) → nat_le end 8 ≡ b → [] ≡ (if b then [] else close_ops)
    by true e = refl
    by false e = absurd (omega (arith, leb-false end 8 e, low))

pub cleared : (old new : Option DeviceHistory) (end : ℕ) → AddsAll old new (clear_ops end) → Cleared old new end
cleared None new end adds = tt
cleared (Some h) new end adds =
    subst (λ (t : Option DeviceHistory). IfSome t (λ g. (items : List (List ℕ)) → DeviceLog h end items → DeviceLog g 8 [])) (sym adds) (λ items log. clear_gives h end items log)

-- ---- the same where the history and the end are told by equations

pub none_ops : (told : Option DeviceHistory) (end : ℕ) → end ≤ 8 → AddsAll told told (clear_ops end)
none_ops told end low = subst (λ (ops : List DevOp). AddsAll told told ops) (low_ops end low) (adds_nothing told told refl)

pub done_ops : (old told new : Option DeviceHistory) (old_end end : ℕ) → told ≡ old → end ≡ old_end → 8 < end → AddsAll told new close_ops → AddsAll old new (clear_ops old_end)
done_ops old told new old_end end same same_end far adds =
    subst (λ (ops : List DevOp). AddsAll old new ops) (far_ops old_end (omega (arith, same_end, far))) (subst (λ (t : Option DeviceHistory). AddsAll t new close_ops) same adds)

pub failed_ops : (old told new : Option DeviceHistory) (old_end end : ℕ) → told ≡ old → end ≡ old_end → 8 < end → AddsUpToFault told new close_ops → AddsUpToFault old new (clear_ops old_end)
failed_ops old told new old_end end same same_end far adds =
    subst (λ (ops : List DevOp). AddsUpToFault old new ops) (far_ops old_end (omega (arith, same_end, far))) (subst (λ (t : Option DeviceHistory). AddsUpToFault t new close_ops) same adds)

pub safely_done : (old told new : Option DeviceHistory) (old_end end : ℕ) → told ≡ old → end ≡ old_end → 8 < end → AddsAll told new close_ops → ClearsSafely old new old_end
safely_done old told new old_end end same same_end far adds =
    safely old new old_end (clear_ops old_end) [] (sym (append-nil (clear_ops old_end))) (done_ops old told new old_end end same same_end far adds)

pub safely_failed : (old told new : Option DeviceHistory) (old_end end : ℕ) → told ≡ old → end ≡ old_end → 8 < end → AddsUpToFault told new close_ops → ClearsSafely old new old_end
safely_failed old told new old_end end same same_end far adds =
    let here = failed_ops old told new old_end end same same_end far adds in
    safely old new old_end here.0 here.1.left here.1.whole here.2

-- and the log is ready again
pub ready_at : (told new : Option DeviceHistory) (length_before length_after : Option ℕ) (end format : ℕ) → IsReadyDevice told length_before end format → 8 < end
    → AddsAll told new close_ops → length_after ≡ length_before → IsReadyDevice new length_after 8 format
ready_at told new length_before length_after end format ready far adds same = record {
  log = again told ready.log adds;
  formatted = formatted_again told ready.log ready.formatted adds;
  begun = omega arith;
  known = subst (λ (n : Option ℕ). IsSome n) (sym same) ready.known;
  within = subst (λ (n : Option ℕ). ForSome n (λ len. 8 < len)) (sym same) (λ len is. omega (arith, far, ready.within len is));
}
  where
    again : (told : Option DeviceHistory) → IfSome told (λ h. (items : List (List ℕ)) × DeviceLog h end items) → AddsAll told new close_ops
        → IfSome new (λ g. (items : List (List ℕ)) × DeviceLog g 8 items)
    again None log adds = subst (λ (t : Option DeviceHistory). IfSome t (λ g. (items : List (List ℕ)) × DeviceLog g 8 items)) (sym adds) tt
    again (Some h) log adds = subst (λ (t : Option DeviceHistory). IfSome t (λ g. (items : List (List ℕ)) × DeviceLog g 8 items)) (sym adds) ([], closed_on h end log.0 log.1 far)

    formatted_again : (told : Option DeviceHistory) → IfSome told (λ h. (items : List (List ℕ)) × DeviceLog h end items) → HasFormat told format → AddsAll told new close_ops → HasFormat new format
    formatted_again None log has adds = subst (λ (t : Option DeviceHistory). HasFormat t format) (sym adds) tt
    formatted_again (Some h) log has adds = subst (λ (t : Option DeviceHistory). HasFormat t format) (sym adds) (closed_format h end format log.0 log.1 far has)
