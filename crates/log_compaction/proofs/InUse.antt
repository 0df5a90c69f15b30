-- The logs in use of four devices that tell what they hold, and what these fold to: there is one choice.
use Rattle.std.proofs.Common.{◌≡◌, ℕ, zero, suc, ◌+◌, ◌<◌, ◌≤◌, inl, inr, List, [], ◌∷◌, length, take, refl, sym, ◌∙◌, ap, subst, arith, Option, Some, None}
use Rattle.std.specs.Prelude.{IfSome}
use Rattle.std.specs.List.{AllByRecursion}
use Rattle.snap_base.specs.declared.transactions.State.{State}
use Rattle.snap_outside.specs.Disk.{DeviceHistory, content, settled, IsImage}
use Rattle.gate_log.specs.LogLaws.{LogAtIsLog, OneList, OpeningAdds, OpeningKeeps, RefusalAdds}
use Rattle.txn_records.specs.declared.records.Record.{Record}
use Rattle.txn_records.specs.declared.records.Record.TheVariants.{Genesis}
use Rattle.txn_records.specs.Records.{IsGenesis, IsRecord}
use Rattle.record_log.specs.Records.{HoldsRecords}
use Rattle.record_log.specs.RecordLogLaws.{OneListOfRecords}
use Rattle.log_compact.specs.Finding.{FrontsTell, IsUsed, OneUse}
use Rattle.log_compact.specs.Fronts.{FrontsOfRecords, HoldsFront}
use Rattle.log_compact.specs.OnDevices.{CrashedCompactionFolds}
use Rattle.log_compact.specs.Points.{Point}
use Rattle.log_compact.specs.Sets.{IsFolded, IsSet, OneFold, generation_of, logs_from, number_of, point_in, point_of}
use Rattle.log_opening.specs.Devices.{Device, device_at}
use Rattle.log_opening.specs.Kept.{AreFolded, records_at}
use Rattle.log_compaction.specs.Fits.{CompactionFits}

-- what the levels below promise of logs in use, and of crashes
pub record CrashLaws : Type 0 where
  pub fits : CompactionFits
  pub crashed : CrashedCompactionFolds
  pub fronts : FrontsOfRecords
  pub tell : FrontsTell
  pub settles : (bytes image : List ℕ) → IsImage (settled bytes) image → image ≡ bytes
  pub lists : LogAtIsLog
  pub fold : OneFold
  pub list : OneList
  pub records : OneListOfRecords
  pub use_is : OneUse
  pub opening_adds : OpeningAdds
  pub opening_keeps : OpeningKeeps
  pub refusal_adds : RefusalAdds

-- ---- lists

-- lists of which each one is held by its device are those that the devices hold
from_lists : (kept : ℕ → List Record) (head : ℕ) (lists : List (List Record)) → ((l : ℕ) → l < length lists → records_at lists l ≡ kept (head + l)) → lists ≡ logs_from kept head (length lists)
from_lists kept head [] each = refl
from_lists kept head (rs ∷ lists) each =
    let first : head + 0 ≡ head = omega arith in
    ap (λ (r : List Record). r ∷ lists) (each 0 (omega arith) ∙ ap kept first) ∙ ap (λ (ls : List (List Record)). kept head ∷ ls) (from_lists kept (head + 1) lists more)
  where
    more : (l : ℕ) → l < length lists → records_at lists l ≡ kept (head + 1 + l)
    more l lt = let next : head + suc l ≡ head + 1 + l = omega arith in each (suc l) (omega (arith, lt)) ∙ ap kept next

begins_with : (rs rest : List Record) (count : ℕ) (first : List State) → rs ≡ Genesis count first ∷ rest → AllByRecursion IsRecord rs → IsGenesis count first
begins_with rs rest count first begins each = (subst (λ (l : List Record). AllByRecursion IsRecord l) begins each).0

-- ---- generations

abbrev generation_at : Option Point → ℕ
generation_at p = number_of (λ x. x.generation) p

-- a list that does not begin with Genesis tells of no checkpoint
not_begun : (rs : List Record) → ((n : ℕ) (s : List State) (rest : List Record) → rs ≡ Genesis n s ∷ rest → ⊥) → point_in rs ≡ None
not_begun [] none = refl
not_begun (r ∷ []) none = refl
not_begun (Genesis n s ∷ x ∷ rs) none = absurd (none n s (x ∷ rs) refl)
not_begun (r ∷ x ∷ rs) none = refl

begun_point : (rs rest : List Record) (n : ℕ) (s : List State) → rs ≡ Genesis n s ∷ rest → generation_at (point_in rs) ≡ generation_of rs
begun_point rs rest n s begins = subst (λ (z : List Record). generation_at (point_in z) ≡ generation_of z) (sym begins) (by rest)
  where
    by : (more : List Record) → generation_at (point_in (Genesis n s ∷ more)) ≡ generation_of (Genesis n s ∷ more)
    by [] = refl
    by (x ∷ xs) = refl

point_first : (kept : ℕ → List Record) (head count : ℕ) → 1 ≤ count → point_of (logs_from kept head count) ≡ point_in (kept head)
point_first kept head zero some = absurd (omega (arith, some))
point_first kept head (suc n) some = refl

-- ---- the logs in use

module _ (laws : CrashLaws) (before : List Device) (histories : ℕ → DeviceHistory) (told : (d : ℕ) → d < 4 → (device_at before d).told ≡ Some (histories d)) (kept : ℕ → List Record) (holds : (d : ℕ) → d < 4 → HoldsRecords (content (histories d)) (kept d)) (a : AreFolded before) where
  fronts_are : (d : ℕ) → d < 3 → a.given.used.fronts d ≡ take 2 (kept d)
  fronts_are d lt =
      let low : d < 4 = omega (arith, lt) in
      laws.fronts.one (content (histories d)) (kept d) (a.given.used.fronts d) (holds d low)
      (subst (λ (t : Option DeviceHistory). IfSome t (λ h. HoldsFront (content h) (a.given.used.fronts d))) (told d low) (a.given.used.each d low))

  used : IsUsed kept 1 a.head (length a.lists) a.given.generation
  used = ((laws.tell kept a.given.used.fronts fronts_are).used 1 a.head (length a.lists) a.given.generation).1 a.given.used.used

  genesis : (set : IsSet kept a.head (length a.lists) a.given.generation) → IsGenesis (length a.lists) set.first
  genesis set =
      let low : a.head < 3 = set.is_head.low in
      begins_with (kept a.head) set.is_head.rest (length a.lists) set.first set.is_head.begins (holds a.head (omega (arith, low))).each

  pub within : a.head + length a.lists ≤ 4
  within = by used
    where
      by : IsUsed kept 1 a.head (length a.lists) a.given.generation → a.head + length a.lists ≤ 4
      by (inl set) =
          let low : a.head < 3 = set.is_head.low in
          let few : length a.lists ≤ 4 = (genesis set).few_logs in
          elim (set.is_head.side) [ inl first ↦ omega (arith, first, few) | inr same ↦ omega (arith, same, low) ]
      by (inr none) = omega (arith, none.1, none.2)

  pub some : 1 ≤ length a.lists
  some = by used
    where
      by : IsUsed kept 1 a.head (length a.lists) a.given.generation → 1 ≤ length a.lists
      by (inl set) = (genesis set).some_logs
      by (inr none) = omega (arith, none.2)

  pub lists_are : a.lists ≡ logs_from kept a.head (length a.lists)
  lists_are = from_lists kept a.head a.lists one
    where
      one : (l : ℕ) → l < length a.lists → records_at a.lists l ≡ kept (a.head + l)
      one l lt =
          let low : a.head + l < 4 = omega (arith, lt, within) in
          laws.records (content (histories (a.head + l))) (records_at a.lists l) (kept (a.head + l))
          (subst (λ (t : Option DeviceHistory). IfSome t (λ h. HoldsRecords (content h) (records_at a.lists l))) (told (a.head + l) low) (a.given.held l lt)) (holds (a.head + l) low)

  pub folded_are : IsFolded (logs_from kept a.head (length a.lists)) a.fold
  folded_are = subst (λ (ls : List (List Record)). IsFolded ls a.fold) lists_are a.folded

  generation_is : a.fold.generation ≡ a.given.generation
  generation_is = folded_are.generation ∙ ap generation_at (point_first kept a.head (length a.lists) some) ∙ by used
    where
      by : IsUsed kept 1 a.head (length a.lists) a.given.generation → generation_at (point_in (kept a.head)) ≡ a.given.generation
      by (inl set) = begun_point (kept a.head) set.is_head.rest (length a.lists) set.first set.is_head.begins ∙ sym set.its
      by (inr none) =
          let no_head : (n : ℕ) (s : List State) (rest : List Record) → kept a.head ≡ Genesis n s ∷ rest → ⊥ =
          λ n s rest is. none.0 0 n s (record { low = omega arith; rest = rest; begins = sym (ap kept none.1) ∙ is; side = inl refl }) in
          ap generation_at (not_begun (kept a.head) no_head) ∙ sym none.3

  pub used_fold : IsUsed kept 1 a.head (length a.lists) a.fold.generation
  used_fold = subst (λ (n : ℕ). IsUsed kept 1 a.head (length a.lists) n) (sym generation_is) used

-- ---- one choice

module _ (laws : CrashLaws) (before : List Device) (histories : ℕ → DeviceHistory) (told : (d : ℕ) → d < 4 → (device_at before d).told ≡ Some (histories d)) (kept : ℕ → List Record) (holds : (d : ℕ) → d < 4 → HoldsRecords (content (histories d)) (kept d)) (a b : AreFolded before) where
  same_use : (a.head ≡ b.head) × (length a.lists ≡ length b.lists) × (a.given.generation ≡ b.given.generation)
  same_use =
      laws.use_is kept 1 a.head (length a.lists) a.given.generation b.head (length b.lists) b.given.generation (used laws before histories told kept holds a) (used laws before histories told kept holds b)

  pub same_head : a.head ≡ b.head
  same_head = same_use.0

  pub same_many : length a.lists ≡ length b.lists
  same_many = same_use.1

  same_lists : a.lists ≡ b.lists
  same_lists =
      lists_are laws before histories told kept holds a ∙ ap (λ (h : ℕ). logs_from kept h (length a.lists)) same_use.0 ∙ ap (λ (n : ℕ). logs_from kept b.head n) same_use.1
      ∙ sym (lists_are laws before histories told kept holds b)

  pub same_fold : a.fold ≡ b.fold
  same_fold = laws.fold a.lists a.fold b.fold a.folded (subst (λ (ls : List (List Record)). IsFolded ls b.fold) (sym same_lists) b.folded)
