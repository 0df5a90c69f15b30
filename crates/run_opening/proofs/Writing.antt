-- Writing to log 0.
use Rattle.std.proofs.Common.{◌≡◌, ◌≢◌, ℕ, ◌+◌, ◌<◌, ◌≤◌, inl, inr, true, false, List, [], ◌∷◌, length, get_or, set, zero, suc, refl, sym, ◌∙◌, ap, subst, arith, Result, Ok, Err}
use Rattle.std.specs.Prelude.{MatchResult, IsOk, is_ok}
use Rattle.std.specs.List.{AllByRecursion}
use Rattle.snap_outside.specs.Causes.{Rose}
use Rattle.snap_outside.specs.Disk.{AddsAll}
use Rattle.gate_log.specs.declared.limits.TheConstants.{FARTHEST_END}
use Rattle.gate_log.specs.declared.logs.AppendNo.{AppendNo}
use Rattle.gate_log.specs.declared.logs.AppendNo.TheVariants as append
use Rattle.gate_log.specs.Appends.{append_ops, end_behind, AddsRefused}
use Rattle.gate_log.specs.Bytes.{items_bytes}
use Rattle.gate_log.specs.State.{LogState, IsUntouched, log_at}
use Rattle.txn_records.specs.declared.records.Record.{Record}
use Rattle.txn_records.specs.Records.{IsRecord}
use Rattle.record_log.specs.Growth.{MayAppendGroup}
use Rattle.record_log.specs.Records.{spelled, AppendsRecords, CrashesRecords}
use Rattle.record_log.specs.RecordLogLaws.{FewMayBeAppended}
use Rattle.log_opening.specs.declared.refusals.LogsNo.{LogsNo}
use Rattle.run_opening.specs.Writes.{IsWritten, IsNotWritten, IsFirstWritten, IsFirstNotWritten, no_of_append}
use Rattle.run_opening.proofs.Starting.{grown_little}

-- ---- one log

pub may_write : FewMayBeAppended → (end : ℕ) (added : List Record) → AllByRecursion IsRecord added → length added ≤ 1 → end ≤ FARTHEST_END → MayAppendGroup end added
may_write law end added are one low = record { records = are; may = law end added are (omega (arith, one)) (omega (arith, low)) }

pub wrote : (l k : LogState) (added : List Record) → MayAppendGroup l.end added → length added ≤ 1 → AppendsRecords l.told k.told l.end k.end added → CrashesRecords l.told k.told l.end added
    → AddsAll l.told k.told (append_ops l.end (spelled added)) → k.end ≡ end_behind l.end (spelled added) → (added ≡ [] → IsUntouched l k)
    → (added ≢ [] → k.end ≡ l.end + 5 + length (items_bytes (spelled added))) → k.format ≡ l.format → k.shut ≡ false → l.faults ≤ k.faults → IsWritten l k added
wrote l k added may one appended crashes adds gate nothing grown format ready later = record {
  may = may;
  appended = appended;
  crashes = crashes;
  adds = adds;
  gate = gate;
  little = grown_little added l.end k.end may.may one (λ e. (nothing (sym e)).end) grown;
  nothing = nothing;
  format = format;
  ready = ready;
  later = later;
}

pub not_wrote : {T : Type 0} (l k : LogState) (added : List Record) (no : AppendNo) (r : Result T AppendNo) → r ≡ Err no → MayAppendGroup l.end added → CrashesRecords l.told k.told l.end added
    → AddsRefused l.told k.told (append_ops l.end (spelled added)) no → (r ≡ Err append.Memory → IsUntouched l k) → (r ≡ Err append.Device → (k.shut ≡ true) × Rose l.faults k.faults)
    → (r ≡ Err append.Shut → (l.shut ≡ true) × IsUntouched l k) → (added ≡ [] → IsUntouched l k × (l.shut ≡ false → IsOk r)) → l.shut ≡ false → l.faults ≤ k.faults
    → IsNotWritten l k added (no_of_append no)
not_wrote l k added append.Memory r is may crashes ops memory device shut empty ready later = record { may = may; why = inl (refl, memory is); crashes = crashes; later = later }
not_wrote l k added append.Device r is may crashes ops memory device shut empty ready later = record {
  may = may;
  why = inr (refl, (λ e. (let fine : is_ok r ≡ true = (empty e).1 ready in let bad : is_ok r ≡ false = ap is_ok is in cc)), (device is).1, ops);
  crashes = crashes;
  later = later;
}
not_wrote l k added append.Shut r is may crashes ops memory device shut empty ready later = absurd (let bad : l.shut ≡ true = (shut is).0 in cc)

-- ---- the first of the logs

pub first_at : (logs : List LogState) (l : LogState) → 0 < length logs → l ≡ get_or logs 0 l → log_at logs 0 ≡ l
first_at [] l some is = absurd (omega (arith, some))
first_at (x ∷ logs) l some is = sym is

set_first : (logs : List LogState) (k : LogState) → 0 < length logs → log_at (set logs 0 k) 0 ≡ k
set_first [] k some = absurd (omega (arith, some))
set_first (x ∷ logs) k some = refl

set_others : (logs : List LogState) (k : LogState) (d : ℕ) → d ≢ 0 → log_at (set logs 0 k) d ≡ log_at logs d
set_others [] k d not = refl
set_others (x ∷ logs) k zero not = absurd (not refl)
set_others (x ∷ logs) k (suc d) not = refl

set_long : (logs : List LogState) (k : LogState) → length (set logs 0 k) ≡ length logs
set_long [] k = refl
set_long (x ∷ logs) k = refl

pub first_written : {T : Type 0} (r : Result T LogsNo) (logs written : List LogState) (l k : LogState) (added : List Record) → 0 < length logs → l ≡ get_or logs 0 l → written ≡ set logs 0 k
    → MatchResult r (λ _. IsWritten l k added) (λ no. IsNotWritten l k added no)
    → MatchResult r (λ _. IsFirstWritten logs written added) (λ no. IsFirstNotWritten logs written added no)
first_written (Ok x) logs written l k added some is put said = record {
  many = ap (λ (ls : List LogState). length ls) put ∙ set_long logs k;
  written = subst (λ (ls : List LogState). IsWritten (log_at logs 0) (log_at ls 0) added) (sym put)
      (subst (λ (y : LogState). IsWritten (log_at logs 0) y added) (sym (set_first logs k some))
      (subst (λ (y : LogState). IsWritten y k added) (sym (first_at logs l some is)) said));
  others = λ d not. ap (λ (ls : List LogState). log_at ls d) put ∙ set_others logs k d not;
}
first_written (Err answer) logs written l k added some is put said = record {
  many = ap (λ (ls : List LogState). length ls) put ∙ set_long logs k;
  not_written = subst (λ (ls : List LogState). IsNotWritten (log_at logs 0) (log_at ls 0) added answer) (sym put)
      (subst (λ (y : LogState). IsNotWritten (log_at logs 0) y added answer) (sym (set_first logs k some))
      (subst (λ (y : LogState). IsNotWritten y k added answer) (sym (first_at logs l some is)) said));
  others = λ d not. ap (λ (ls : List LogState). log_at ls d) put ∙ set_others logs k d not;
}
