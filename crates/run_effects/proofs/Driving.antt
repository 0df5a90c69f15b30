-- Journals that got groups, one call after the other.
use Rattle.std.proofs.Common.{◌≡◌, ℕ, ◌≤◌, false, IfSome, Option, None, Some, List, [], ◌∷◌, ◌++◌, map, refl, sym, ap, subst, ◌∙◌, arith, append_assoc, append-nil}
use Rattle.record_log.specs.gate_log.Appends.{append_ops, end_behind}
use Rattle.record_log.specs.gate_log.State.{LogState, IsUntouched}
use Rattle.snap_hand.specs.log_set.Shown.{told_bytes}
use Rattle.protocol.specs.Records.{LogRecord}
use Rattle.record_log.specs.Growth.{end_behind_groups, GrewBy, MayAppendGroup}
use Rattle.record_log.specs.GrowthLaws.{GroupGrows, FaultGrows}
use Rattle.record_log.specs.Records.{spelled}
use Rattle.snap_hand.specs.log_set.Told.{all_told}
use Rattle.snap_outside.specs.Causes.{Rose}
use Rattle.snap_outside.specs.Disk.{AddsAll, AddsUpToFault}
use Rattle.run_effects.specs.Driven.{IsDriven}
use Rattle.run_effects.specs.Appending.{IsAppended, IsCutOff}
use Rattle.record_log.specs.txn_records.declared.records.Record.{Record}

-- the pieces that wait are the spelled records that wait
pub pieces_spelled : (rs : List LogRecord) → map told_bytes rs ≡ spelled (all_told rs)
pieces_spelled [] = refl
pieces_spelled (r ∷ rs) = ap (λ xs. told_bytes r ∷ xs) (pieces_spelled rs)

-- ---- one log

pub ends_join : (end : ℕ) (xs ys : List (List Record)) → end_behind_groups end (xs ++ ys) ≡ end_behind_groups (end_behind_groups end xs) ys
ends_join end [] ys = refl
ends_join end (x ∷ xs) ys = ends_join (end_behind end (spelled x)) xs ys

rose_since : {X : Type 0} (a b c : ℕ) (tried : Option X) → a ≤ b → IfSome tried (λ _. Rose b c) → IfSome tried (λ _. Rose a c)
rose_since a b c None later rose = tt
rose_since a b c (Some x) later rose = omega (arith, later, rose)

pub driven_join : (a b c : LogState) (xs ys : List (List Record)) (tried : Option (List Record)) → IsDriven a b xs None → IsDriven b c ys tried → IsDriven a c (xs ++ ys) tried
driven_join a b c xs ys tried p q = record {
  grew = λ device end first grown at.
      subst (λ gs. GrewBy device c.told end gs tried) (append_assoc first xs ys)
      (q.grew device end (first ++ xs) (p.grew device end first grown at) (p.gate ∙ ap (λ n. end_behind_groups n xs) at ∙ sym (ends_join end first xs)));
  gate = q.gate ∙ ap (λ n. end_behind_groups n ys) p.gate ∙ sym (ends_join a.end xs ys);
  format = q.format ∙ p.format;
  shut = q.shut;
  later = omega (arith, p.later, q.later);
  rose = rose_since a.faults b.faults c.faults tried p.later q.rose;
}

-- nothing was done
pub driven_none : (a b : LogState) → IsUntouched a b → a.shut ≡ false → IsDriven a b [] None
driven_none a b same ready = record {
  grew = λ device end first grown at. subst (λ gs. GrewBy device b.told end gs None) (sym (append-nil first)) (subst (λ t. GrewBy device t end first None) (sym same.told) grown);
  gate = same.end;
  format = same.format;
  shut = same.shut ∙ ready;
  later = omega (arith, same.faults);
  rose = tt;
}

pub driven_same : (a : LogState) → a.shut ≡ false → IsDriven a a [] None
driven_same a ready = driven_none a a (record { told = refl; end = refl; format = refl; shut = refl; faults = refl }) ready

-- a group was appended
pub driven_more : GroupGrows → (a b : LogState) (group : List Record) → MayAppendGroup a.end group → IsAppended a b (spelled group) → IsDriven a b (group ∷ []) None
driven_more law a b group may is = record {
  grew = λ device end first grown at.
      law device a.told b.told end first group grown
      (subst (λ n. MayAppendGroup n group) at may)
      (subst (λ n. AddsAll a.told b.told (append_ops n (spelled group))) at is.adds);
  gate = is.gate;
  format = is.format;
  shut = is.ready;
  later = is.later;
  rose = tt;
}

-- its append met a fault
pub driven_cut_off : FaultGrows → (a b : LogState) (group : List Record) → MayAppendGroup a.end group → IsCutOff a b (spelled group) → IsDriven a b [] (Some group)
driven_cut_off law a b group may is = record {
  grew = λ device end first grown at.
      subst (λ gs. GrewBy device b.told end gs (Some group)) (sym (append-nil first))
      (law device a.told b.told end first group grown
      (subst (λ n. MayAppendGroup n group) at may)
      (subst (λ n. AddsUpToFault a.told b.told (append_ops n (spelled group))) at is.adds));
  gate = is.gate;
  format = is.format;
  shut = is.shut;
  later = is.later;
  rose = is.rose;
}
