-- A log to which groups were appended, and what a crash leaves of it at each moment.
use Rattle.std.proofs.Common.{◌≡◌, ◌≢◌, ℕ, ◌⊎◌, inl, inr, List, [], ◌∷◌, ◌++◌, Option, None, Some, refl, sym, ap, subst, ◌∙◌, append_assoc, append-nil}
use Rattle.snap_outside.specs.declared.devices.DevOp.{DevOp}
use Rattle.snap_outside.specs.Disk.{DeviceHistory, Disk, disk, disk_after, content, settled, with_ops, IsImage, EachMoment}
use Rattle.snap_outside.specs.Moments.{disk_join, moment_between}
use Rattle.gate_log.specs.declared.logs.LogItem.{LogItem}
use Rattle.gate_log.specs.Appends.{append_ops, end_behind}
use Rattle.gate_log.specs.Bytes.{IsLog}
use Rattle.gate_log.specs.Device.{DeviceLog}
use Rattle.gate_log.specs.LogLaws.{OneList, LogAtIsLog, PlacedIsLogAt, AppendGives, AppendKeeps, BeginningGives, BeginningKeeps}
use Rattle.gate_log.specs.Opened.{bytes_of, beginning_ops, Opened}
use Rattle.txn_records.specs.declared.records.Record.{Record}
use Rattle.record_log.specs.Growth.{all_records, groups_ops, end_behind_groups, MayAppendGroup, MayAppendGroups, IsGrowth, begun_groups, IsNextBegun, HoldsWhole, LeavesGroups, Leaves}
use Rattle.record_log.specs.Records.{spelled, HoldsRecords, RecordLog}
use Rattle.record_log.proofs.Appending.{either_holds}
use Rattle.record_log.proofs.Growing.{left_out}
use Rattle.record_log.proofs.Holding.{ImagesOfSettled, settled_image, log_holds, opened_log}
use Rattle.record_log.proofs.Spelling.{all_more, spelled_more}

-- Of two ways to split a list one cuts the first part of the other short, or has it whole.
split_front : (xs ys us vs : List DevOp) → xs ++ ys ≡ us ++ vs
    → ((x : List DevOp) × (x ≢ []) × (us ≡ xs ++ x)) ⊎ ((y : List DevOp) × (xs ≡ us ++ y) × (y ++ ys ≡ vs))
split_front [] ys [] vs same = inr ([], refl, same)
split_front [] ys (u ∷ us) vs same = inl (u ∷ us, (λ none. cc), refl)
split_front (x ∷ xs) ys [] vs same = inr (x ∷ xs, refl, same)
split_front (x ∷ xs) ys (u ∷ us) vs same =
    let first : x ≡ u = cc in
    let rest : xs ++ ys ≡ us ++ vs = cc in
    elim (split_front xs ys us vs rest) [
      | inl cut ↦ inl (cut.0, cut.1, ap (λ (l : List DevOp). u ∷ l) cut.2 ∙ ap (λ (op : DevOp). op ∷ (xs ++ cut.0)) (sym first))
      | inr behind ↦ inr (behind.0, ap (λ (op : DevOp). op ∷ xs) first ∙ ap (λ (l : List DevOp). u ∷ l) behind.1, behind.2)
    ]

disk_with : (h : DeviceHistory) (ops : List DevOp) → disk (with_ops h ops) ≡ disk_after ops (disk h)
disk_with h ops = disk_join h.ops ops (settled h.first)

pub disk_behind : (h : DeviceHistory) (made first more : List DevOp) → made ≡ first ++ more → disk_after made (disk h) ≡ disk_after more (disk (with_ops h first))
disk_behind h made first more same =
    ap (λ (l : List DevOp). disk_after l (disk h)) same ∙ disk_join first more (disk h) ∙ ap (λ (d : Disk). disk_after more d) (sym (disk_with h first))

pub may_split : (end : ℕ) (whole later : List (List Record)) → MayAppendGroups end (whole ++ later) → MayAppendGroups end whole × MayAppendGroups (end_behind_groups end whole) later
may_split end [] later may = (tt, may)
may_split end (group ∷ whole) later may =
    let rest = may_split (end_behind end (spelled group)) whole later may.1 in
    ((may.0, rest.0), rest.1)

module _ (gives : AppendGives) (keeps : AppendKeeps) (log_at : LogAtIsLog) (images : ImagesOfSettled) where
  quiet_holds : (h : DeviceHistory) (end : ℕ) (rs : List Record) → RecordLog h end rs → (image : List ℕ) → IsImage (disk h) image → HoldsRecords image rs
  quiet_holds h end rs log image left =
      settled_image images (content h) rs (log_holds log_at h end rs log) image (subst (λ (d : Disk). IsImage d image) log.log.quiet left)

  -- behind one append
  pub grown : (h : DeviceHistory) (end : ℕ) (rs group : List Record) → MayAppendGroup end group → RecordLog h end rs
      → RecordLog (with_ops h (append_ops end (spelled group))) (end_behind end (spelled group)) (rs ++ group)
  grown h end rs group may log = record {
    log = subst (λ (items : List (List ℕ)). DeviceLog (with_ops h (append_ops end (spelled group))) (end_behind end (spelled group)) items) (spelled_more rs group)
        (gives h end (spelled rs) (spelled group) may.may log.log);
    each = all_more rs group log.each may.records;
  }

  -- while one is made
  under_way : (h : DeviceHistory) (end : ℕ) (rs group : List Record) (made left : List DevOp) → MayAppendGroup end group → RecordLog h end rs
      → append_ops end (spelled group) ≡ made ++ left → (image : List ℕ) → IsImage (disk_after made (disk h)) image
      → HoldsRecords image rs ⊎ ((made ≢ []) × HoldsRecords image (rs ++ group))
  under_way h end rs group [] left may log front image is = inl (quiet_holds h end rs log image is)
  under_way h end rs group (op ∷ made) left may log front image is =
      let P : List ℕ → Type 0 = λ bytes. IsLog bytes (spelled rs) ⊎ IsLog bytes (spelled rs ++ spelled group) in
      let all = subst (λ (ops : List DevOp). EachMoment (disk h) ops P) front (keeps h end (spelled rs) (spelled group) may.may log.log) in
      elim (either_holds image rs group log.each may.records (moment_between (disk h) (op ∷ made) left P all image is)) [
        | inl held ↦ inl held
        | inr held ↦ inr ((λ none. cc), held)
      ]

  next_leaves : (h : DeviceHistory) (end : ℕ) (rs : List Record) (later : List (List Record)) (begun : List DevOp) → MayAppendGroups end later → RecordLog h end rs
      → IsNextBegun end later begun → (image : List ℕ) → IsImage (disk_after begun (disk h)) image → HoldsWhole rs later begun image
  next_leaves h end rs [] begun may log next image is =
      inl (quiet_holds h end rs log image (subst (λ (made : List DevOp). IsImage (disk_after made (disk h)) image) next is))
  next_leaves h end rs (group ∷ groups) begun may log next image is = under_way h end rs group begun next.0 may.0 log next.1 image is

  groups_leave : (h : DeviceHistory) (end : ℕ) (rs : List Record) (groups : List (List Record)) (made left : List DevOp) → MayAppendGroups end groups → RecordLog h end rs
      → made ++ left ≡ groups_ops end groups → (image : List ℕ) → IsImage (disk_after made (disk h)) image → LeavesGroups end rs groups made image
  groups_leave h end rs [] [] left may log front image is = record {
    whole = [];
    later = [];
    begun = [];
    splits = refl;
    so_far = refl;
    next = refl;
    holds = inl (subst (λ (l : List Record). HoldsRecords image l) (sym (append-nil rs)) (quiet_holds h end rs log image is));
  }
  groups_leave h end rs [] (op ∷ made) left may log front image is = absurd (cc)
  groups_leave h end rs (group ∷ groups) made left may log front image is =
      let first = append_ops end (spelled group) in
      let behind_it = end_behind end (spelled group) in
      elim (split_front made left first (groups_ops behind_it groups) front) [
        | inl cut ↦ record {
          whole = [];
          later = group ∷ groups;
          begun = made;
          splits = refl;
          so_far = refl;
          next = record { left = cut.0; some = cut.1; whole = cut.2 };
          holds = subst (λ (l : List Record). HoldsWhole l (group ∷ groups) made image) (sym (append-nil rs)) (under_way h end rs group made cut.0 may.0 log cut.2 image is);
        }
        | inr behind ↦
            let rest = groups_leave (with_ops h first) behind_it (rs ++ group) groups behind.0 left may.1 (grown h end rs group may.0 log) behind.2 image
            (subst (λ (d : Disk). IsImage d image) (disk_behind h made first behind.0 behind.1) is) in
            record {
              whole = group ∷ rest.whole;
              later = rest.later;
              begun = rest.begun;
              splits = ap (λ (l : List (List Record)). group ∷ l) rest.splits;
              so_far = behind.1 ∙ ap (λ (l : List DevOp). first ++ l) rest.so_far ∙ sym (append_assoc first (groups_ops behind_it rest.whole) rest.begun);
              next = rest.next;
              holds = subst (λ (l : List Record). HoldsWhole l rest.later rest.begun image) (append_assoc rs group (all_records rest.whole)) rest.holds;
            }
      ]

  pub groups_give : (h : DeviceHistory) (end : ℕ) (rs : List Record) (groups : List (List Record)) → MayAppendGroups end groups → RecordLog h end rs
      → RecordLog (with_ops h (groups_ops end groups)) (end_behind_groups end groups) (rs ++ all_records groups)
  groups_give h end rs [] may log =
      subst (λ (l : List Record). RecordLog (with_ops h []) end l) (sym (append-nil rs))
      (subst (λ (ops : List DevOp). RecordLog (record { first = h.first; ops = ops }) end rs) (sym (append-nil h.ops)) log)
  groups_give h end rs (group ∷ groups) may log =
      let first = append_ops end (spelled group) in
      let behind = end_behind end (spelled group) in
      let last = end_behind_groups behind groups in
      let ops = groups_ops behind groups in
      subst (λ (l : List Record). RecordLog (with_ops h (first ++ ops)) last l) (append_assoc rs group (all_records groups))
      (subst (λ (l : List DevOp). RecordLog (record { first = h.first; ops = l }) last ((rs ++ group) ++ all_records groups)) (append_assoc h.ops first ops)
      (groups_give (with_ops h first) behind (rs ++ group) groups may.1 (grown h end rs group may.0 log)))

  -- at a moment that is named by what is whole and what is begun
  whole_leave : (h : DeviceHistory) (end : ℕ) (rs : List Record) (whole later : List (List Record)) (begun : List DevOp) → MayAppendGroups end (whole ++ later) → RecordLog h end rs
      → IsNextBegun (end_behind_groups end whole) later begun → (image : List ℕ) → IsImage (disk_after (groups_ops end whole ++ begun) (disk h)) image
      → HoldsWhole (rs ++ all_records whole) later begun image
  whole_leave h end rs whole later begun may log next image is =
      let appends = groups_ops end whole in
      let split = may_split end whole later may in
      next_leaves (with_ops h appends) (end_behind_groups end whole) (rs ++ all_records whole) later begun split.1 (groups_give h end rs whole split.0 log) next image
      (subst (λ (d : Disk). IsImage d image) (disk_behind h (appends ++ begun) appends begun refl) is)

  module _ (placed : PlacedIsLogAt) (lists : OneList) (beginning_gives : BeginningGives) (beginning_keeps : BeginningKeeps) where
    pub opened_gives : (h : DeviceHistory) (opened : Option DeviceHistory) (end : ℕ) (found : List LogItem) (rs : List Record) → Opened (Some h) opened end found → HoldsRecords (content h) rs
        → RecordLog (with_ops h (beginning_ops (content h))) end rs
    opened_gives h opened end found rs is held = record {
      log = subst (λ (items : List (List ℕ)). DeviceLog (with_ops h (beginning_ops (content h))) end items)
          (lists (content h) (bytes_of found) (spelled rs) (opened_log placed h opened end found is) held.log) (beginning_gives h opened end found is);
      each = held.each;
    }

    pub growth_gives : (h : DeviceHistory) (opened : Option DeviceHistory) (end : ℕ) (found : List LogItem) (rs : List Record) (groups : List (List Record)) (ops : List DevOp)
        → Opened (Some h) opened end found → HoldsRecords (content h) rs → IsGrowth (content h) end groups None ops
        → RecordLog (with_ops h ops) (end_behind_groups end groups) (rs ++ all_records groups)
    growth_gives h opened end found rs groups ops is held growth =
        let beginning = beginning_ops (content h) in
        let appends = groups_ops end groups in
        let same : (h.ops ++ beginning) ++ appends ≡ h.ops ++ ops =
        append_assoc h.ops beginning appends
        ∙ ap (λ (l : List DevOp). h.ops ++ l) (sym (growth.parts ∙ ap (λ (b : List DevOp). beginning ++ (appends ++ b)) growth.last ∙ ap (λ (l : List DevOp). beginning ++ l) (append-nil appends))) in
        subst (λ (l : List DevOp). RecordLog (record { first = h.first; ops = l }) (end_behind_groups end groups) (rs ++ all_records groups)) same
        (groups_give (with_ops h beginning) end rs groups growth.may (opened_gives h opened end found rs is held))

    pub moment_keeps : (h : DeviceHistory) (opened : Option DeviceHistory) (end : ℕ) (found : List LogItem) (rs : List Record) (whole later : List (List Record)) (begun : List DevOp)
        → Opened (Some h) opened end found → HoldsRecords (content h) rs → MayAppendGroups end (whole ++ later) → IsNextBegun (end_behind_groups end whole) later begun
        → (image : List ℕ) → IsImage (disk_after (beginning_ops (content h) ++ (groups_ops end whole ++ begun)) (disk h)) image
        → HoldsWhole (rs ++ all_records whole) later begun image
    moment_keeps h opened end found rs whole later begun opens held may next image is =
        let beginning = beginning_ops (content h) in
        let more = groups_ops end whole ++ begun in
        whole_leave (with_ops h beginning) end rs whole later begun may (opened_gives h opened end found rs opens held) next image
        (subst (λ (d : Disk). IsImage d image) (disk_behind h (beginning ++ more) beginning more refl) is)

    -- while the log is opened and upgraded
    beginning_leaves : (h : DeviceHistory) (rs : List Record) (made left : List DevOp) → disk h ≡ settled (content h) → HoldsRecords (content h) rs
        → beginning_ops (content h) ≡ made ++ left → (image : List ℕ) → IsImage (disk_after made (disk h)) image → HoldsRecords image rs
    beginning_leaves h rs made left quiet held front image is =
        let P : List ℕ → Type 0 = λ bytes. IsLog bytes (spelled rs) in
        let all = subst (λ (ops : List DevOp). EachMoment (disk h) ops P) front (beginning_keeps h (spelled rs) quiet held.log) in
        record { log = moment_between (disk h) made left P all image is; each = held.each }

    pub growth_keeps : (h : DeviceHistory) (opened : Option DeviceHistory) (end : ℕ) (found : List LogItem) (rs : List Record) (groups : List (List Record)) (tried : Option (List Record)) (ops : List DevOp)
        → Opened (Some h) opened end found → disk h ≡ settled (content h) → HoldsRecords (content h) rs → IsGrowth (content h) end groups tried ops
        → (made left : List DevOp) → ops ≡ made ++ left → (image : List ℕ) → IsImage (disk_after made (disk h)) image
        → Leaves (content h) end rs (begun_groups groups tried) made image
    growth_keeps h opened end found rs groups tried ops opens quiet held growth made left front image is =
        let beginning = beginning_ops (content h) in
        let all = groups_ops end (begun_groups groups tried) in
        let out = left_out end groups tried growth.begun growth.may growth.last in
        let same : made ++ (left ++ out.0) ≡ beginning ++ all =
        sym (append_assoc made left out.0) ∙ ap (λ (l : List DevOp). l ++ out.0) (sym front ∙ growth.parts)
        ∙ append_assoc beginning (groups_ops end groups ++ growth.begun) out.0 ∙ ap (λ (l : List DevOp). beginning ++ l) (sym out.1) in
        elim (split_front made (left ++ out.0) beginning all same) [
          | inl cut ↦ inl (record { left = cut.0; some = cut.1; whole = cut.2 }, beginning_leaves h rs made cut.0 quiet held cut.2 image is)
          | inr behind ↦ inr (
            behind.0,
            behind.1,
            groups_leave (with_ops h beginning) end rs (begun_groups groups tried) behind.0 (left ++ out.0) out.2 (opened_gives h opened end found rs opens held) behind.2 image
                (subst (λ (d : Disk). IsImage d image) (disk_behind h made beginning behind.0 behind.1) is),
          )
        ]
