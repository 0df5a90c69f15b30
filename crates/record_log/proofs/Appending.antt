-- What appending the items of records does to a log of records.
use Rattle.std.proofs.Common.{◌≡◌, ◌≢◌, ℕ, ◌+◌, ◌⊎◌, ap, length, inl, inr, List, [], ◌∷◌, ◌++◌, refl, sym, ◌∙◌, subst, Option, Some, None, Result, Ok, Err}
use Rattle.std.specs.Prelude.{OnOk, MatchResult}
use Rattle.std.specs.List.{AllByRecursion}
use Rattle.snap_outside.specs.Disk.{DeviceHistory, Disk, disk, content, IsImage, AddsAll}
use Rattle.gate_log.specs.declared.logs.AppendNo.{AppendNo}
use Rattle.gate_log.specs.Appends.{append_ops, end_behind, AddsRefused}
use Rattle.gate_log.specs.Bytes.{IsLog, items_bytes}
use Rattle.gate_log.specs.Device.{DeviceLog, Appended, Crashes}
use Rattle.snap_outside.specs.Moments.{moments_weaker, adds_nothing}
use Rattle.gate_log.specs.LogLaws.{LogAtIsLog}
use Rattle.txn_records.specs.declared.records.Record.{Record}
use Rattle.txn_records.specs.Records.{IsRecord}
use Rattle.record_log.specs.Records.{spelled, HoldsRecords, RecordLog, AppendsRecords, CrashesRecords}
use Rattle.record_log.proofs.Holding.{ImagesOfSettled, settled_image, log_holds}
use Rattle.record_log.proofs.Spelling.{all_more, spelled_more}

-- ---- what is there in the end

grown : (g : DeviceHistory) (end : ℕ) (rs added : List Record) → AllByRecursion IsRecord rs → AllByRecursion IsRecord added
    → DeviceLog g end (spelled rs ++ spelled added) → RecordLog g end (rs ++ added)
grown g end rs added rs_are added_are log = record {
  log = subst (λ (items : List (List ℕ)). DeviceLog g end items) (spelled_more rs added) log;
  each = all_more rs added rs_are added_are;
}

appends : (old new : Option DeviceHistory) (before after : ℕ) (added : List Record) → AllByRecursion IsRecord added
    → Appended old new before after (spelled added) → AppendsRecords old new before after added
appends None new before after added are done = tt
appends (Some h) None before after added are done = tt
appends (Some h) (Some g) before after added are done = λ rs log. grown g after rs added log.each are (done (spelled rs) log.log)

-- ---- what a crash leaves

IsEither : List Record → List Record → List ℕ → Type 0
IsEither rs added image = HoldsRecords image rs ⊎ HoldsRecords image (rs ++ added)

pub either_holds : (image : List ℕ) (rs added : List Record) → AllByRecursion IsRecord rs → AllByRecursion IsRecord added
    → IsLog image (spelled rs) ⊎ IsLog image (spelled rs ++ spelled added) → HoldsRecords image rs ⊎ HoldsRecords image (rs ++ added)
either_holds image rs added rs_are added_are either = elim either [
  | inl log ↦ inl (record { log = log; each = rs_are })
  | inr log ↦ inr (record { log = subst (λ (items : List (List ℕ)). IsLog image items) (spelled_more rs added) log; each = all_more rs added rs_are added_are })
]

pub crashes : (old new : Option DeviceHistory) (end : ℕ) (added : List Record) → AllByRecursion IsRecord added
    → Crashes old new end (spelled added) → CrashesRecords old new end added
crashes None new end added are left = tt
crashes (Some h) new end added are left = (
  left.0,
  left.1,
  (λ rs log. moments_weaker (λ image. IsLog image (spelled rs) ⊎ IsLog image (spelled rs ++ spelled added)) (λ image. HoldsRecords image rs ⊎ HoldsRecords image (rs ++ added))
      (λ image either. either_holds image rs added log.each are either) (disk h) left.0 (left.2 (spelled rs) log.log)),
)

-- where no call of the device was made
pub no_crash_of_records : (log_at : LogAtIsLog) (images : ImagesOfSettled) (old : Option DeviceHistory) (end : ℕ) (added : List Record) → CrashesRecords old old end added
no_crash_of_records log_at images None end added = tt
no_crash_of_records log_at images (Some h) end added = (
  [],
  adds_nothing (Some h) (Some h) refl,
  (λ rs log image left. inl (settled_image images (content h) rs (log_holds log_at h end rs log) image (subst (λ (d : Disk). IsImage d image) log.log.quiet left))),
)

-- ---- where the items are told by an equation

pub appends_at : {T E : Type 0} (r : Result T E) (old new : Option DeviceHistory) (before after : ℕ) (added : List Record) (items : List (List ℕ))
    → AllByRecursion IsRecord added → items ≡ spelled added → OnOk r (Appended old new before after items) → OnOk r (AppendsRecords old new before after added)
appends_at (Ok x) old new before after added items are same done = appends old new before after added are (subst (λ (l : List (List ℕ)). Appended old new before after l) same done)
appends_at (Err e) old new before after added items are same done = tt

pub crashes_at : (old new : Option DeviceHistory) (end : ℕ) (added : List Record) (items : List (List ℕ))
    → AllByRecursion IsRecord added → items ≡ spelled added → Crashes old new end items → CrashesRecords old new end added
crashes_at old new end added items are same left = crashes old new end added are (subst (λ (l : List (List ℕ)). Crashes old new end l) same left)

none_spelled : (rs : List Record) → spelled rs ≡ [] → rs ≡ []
none_spelled [] none = refl
none_spelled (r ∷ rs) none = absurd (cc)

pub some_spelled : (rs : List Record) (items : List (List ℕ)) → items ≡ spelled rs → rs ≢ [] → items ≢ []
some_spelled rs items same some = λ none. some (none_spelled rs (sym same ∙ none))

-- ---- the operations, and where the gate stands behind them

pub ops_at : (r : Result (Unit {0}) AppendNo) (old new : Option DeviceHistory) (end : ℕ) (added : List Record) (items : List (List ℕ)) → items ≡ spelled added
    → MatchResult r (λ _. AddsAll old new (append_ops end items)) (AddsRefused old new (append_ops end items))
    → MatchResult r (λ _. AddsAll old new (append_ops end (spelled added))) (AddsRefused old new (append_ops end (spelled added)))
ops_at r old new end added items same ops =
    subst (λ (l : List (List ℕ)). MatchResult r (λ _. AddsAll old new (append_ops end l)) (AddsRefused old new (append_ops end l))) same ops

pub ends_at : {T E : Type 0} (r : Result T E) (before after : ℕ) (added : List Record) (items : List (List ℕ)) → items ≡ spelled added
    → OnOk r (after ≡ end_behind before items) → OnOk r (after ≡ end_behind before (spelled added))
ends_at r before after added items same ends = subst (λ (l : List (List ℕ)). OnOk r (after ≡ end_behind before l)) same ends

grown_by : (before : ℕ) (added : List Record) → added ≢ [] → end_behind before (spelled added) ≡ before + 5 + length (items_bytes (spelled added))
grown_by before [] some = absurd (some refl)
grown_by before (r ∷ rs) some = refl

pub grown_at : {T E : Type 0} (r : Result T E) (before after : ℕ) (added : List Record) (items : List (List ℕ)) → items ≡ spelled added → added ≢ []
    → OnOk r (after ≡ end_behind before items) → OnOk r (after ≡ before + 5 + length (items_bytes (spelled added)))
grown_at (Ok x) before after added items same some ends = ends ∙ ap (λ (l : List (List ℕ)). end_behind before l) same ∙ grown_by before added some
grown_at (Err e) before after added items same some ends = tt
