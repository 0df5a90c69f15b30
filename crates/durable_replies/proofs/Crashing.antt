-- What the devices have at the end of a play is what a crash at the end of its run finds there; and where no run began, what it finds loses no
-- record.
use Rattle.std.specs.Prelude.{◌≡◌, refl, ℕ, zero, suc, ◌+◌, ◌<◌, ◌⊎◌, Bool, true, false, if◌then◌else◌, Option, None, Some, List, [], ◌∷◌, ◌++◌}
use Rattle.std.specs.List.{AllZip}
use Rattle.std.proofs.Common.{arith, sym, ap, subst, ◌∙◌, inl, inr}
use Rattle.std.proofs.lemmas.Bool.{true≢false}
use Rattle.std.proofs.lemmas.List.{append-nil, append_cancel_left}
use Rattle.record_log.specs.Growth.{GrewBy, IsNextBegun, begun_groups, end_behind_groups, groups_ops}
use Rattle.record_log.specs.Records.{HoldsRecords, IsKeptImage, KeepsRecords}
use Rattle.record_log.specs.gate_log.Bytes.{IsOld}
use Rattle.record_log.specs.gate_log.Opened.{beginning_ops}
use Rattle.record_log.specs.txn_records.declared.records.Record.{Record}
use Rattle.run_effects.specs.Driven.{tried_on}
use Rattle.run_effects.specs.Groups.{groups_of, group_behind}
use Rattle.run_effects.specs.Made.{IsMade}
use Rattle.run_opening.specs.Opens.{AreSafe, IsKeptOrAdded, KeepsOrAdds, KeepsOrEmpties, first_groups}
use Rattle.run_opening.specs.Starts.{first_record}
use Rattle.run_opening.specs.log_opening.Devices.{Device, device_at}
use Rattle.run_recovery.specs.Crashes.{CrashOn, IsMadeAt, begun_on}
use Rattle.run_recovery.specs.OneRun.{MomentOf, TheRun, machine_in}
use Rattle.snap_base.proofs.Options.{same_some}
use Rattle.snap_outside.proofs.Images.{image_is}
use Rattle.snap_outside.specs.Disk.{DeviceHistory, Disk, EachMoment, IsImage, content, disk, disk_after, op_done, settled, with_ops}
use Rattle.snap_outside.specs.declared.devices.DevOp.{DevOp}
use Rattle.snap_work.specs.Works.{Work}
use Rattle.work_text.specs.Reads.{IsWork}
use Rattle.durable_replies.specs.Meets.{device_after, device_before, devices_after, devices_before, four}
use Rattle.durable_replies.specs.Durable.{HoldDurably, IsKept, LosesNothing, keeps, clears, begins}
use Rattle.durable_replies.specs.Plays.{Outside, Happening, ops_on}

-- ---- four devices

pub four_at : (f : ℕ → Device) (d : ℕ) → d < 4 → device_at (four f) d ≡ f d
four_at f zero lt = refl
four_at f (suc zero) lt = refl
four_at f (suc (suc zero)) lt = refl
four_at f (suc (suc (suc zero))) lt = refl
four_at f (suc (suc (suc (suc d)))) lt = absurd (omega (arith, lt))

zipped_at : (R : Device → Device → Type 0) (f g : ℕ → Device) → AllZip R (four f) (four g) → (d : ℕ) → d < 4 → R (f d) (g d)
zipped_at R f g all zero lt = all.0
zipped_at R f g all (suc zero) lt = all.1.0
zipped_at R f g all (suc (suc zero)) lt = all.1.1.0
zipped_at R f g all (suc (suc (suc zero))) lt = all.1.1.1.0
zipped_at R f g all (suc (suc (suc (suc d)))) lt = absurd (omega (arith, lt))

told_before : (o : Outside) (d : ℕ) → d < 4 → (device_at (devices_before o) d).told ≡ Some (o.devices d)
told_before o d lt = ap (λ (x : Device). x.told) (four_at (device_before o) d lt)

told_after : (o : Outside) (hs : List Happening) (d : ℕ) → d < 4 → (device_at (devices_after o hs) d).told ≡ Some (with_ops (o.devices d) (ops_on d hs))
told_after o hs d lt = ap (λ (x : Device). x.told) (four_at (device_after o hs) d lt)

-- ---- operations that are added

same_ops : (h : DeviceHistory) (made ops : List DevOp) → Some (with_ops h made) ≡ Some (with_ops h ops) → made ≡ ops
same_ops h made ops e = append_cancel_left h.ops made ops (ap (λ (x : DeviceHistory). x.ops) (same_some (with_ops h made) (with_ops h ops) e))

last_moment : (P : List ℕ → Type 0) (d : Disk) (ops : List DevOp) → EachMoment d ops P → (image : List ℕ) → IsImage (disk_after ops d) image → P image
last_moment P d [] all image left = all image left
last_moment P d (op ∷ ops) all image left = last_moment P (op_done op d) ops all.1 image left

-- ---- a run

-- the moment at its end, where the appends of those that failed have begun
abbrev pub end_moment : (r : TheRun) → MomentOf r
end_moment r = record {
  events = r.events;
  later = [];
  splits = sym (append-nil r.events);
  has_begun = r.failed;
  begun = λ l is. record { front = []; rest = []; splits = refl; untouched = tt; ends = inl refl };
}

-- what a log's device got, as a moment has it
record Growing (bytes : List ℕ) (end : ℕ) (groups : List (List Record)) (group : List Record) (failed : Bool) (made : List DevOp) : Type 0 where
  later : List (List Record)
  begun : List DevOp
  splits : begun_groups groups (if failed then Some group else None) ≡ groups ++ later
  so_far : made ≡ beginning_ops bytes ++ (groups_ops end groups ++ begun)
  next : IsNextBegun (end_behind_groups end groups) later begun
  waits : failed ≡ false → begun ≡ []

growing : (h : DeviceHistory) (made : List DevOp) (end : ℕ) (groups : List (List Record)) (group : List Record) (failed : Bool)
    → GrewBy (Some h) (Some (with_ops h made)) end groups (if failed then Some group else None) → Growing (content h) end groups group failed made
growing h made end groups group true g = record {
  later = group ∷ [];
  begun = g.1.begun;
  splits = refl;
  so_far = same_ops h made g.0 g.2 ∙ g.1.parts;
  next = (g.1.last.1.left, g.1.last.1.whole);
  waits = λ e. absurd (true≢false e);
}
growing h made end groups group false g = record {
  later = [];
  begun = g.1.begun;
  splits = sym (append-nil groups);
  so_far = same_ops h made g.0 g.2 ∙ g.1.parts;
  next = g.1.last;
  waits = λ e. g.1.last;
}

module _ (o : Outside) (hs : List Happening) (held : ℕ → List Record) (images : ℕ → List ℕ) (durable : HoldDurably o held)
    (left : (d : ℕ) → d < 4 → IsImage (disk_after (ops_on d hs) (disk (o.devices d))) (images d)) where
  module _ (r : TheRun) (before : r.before ≡ devices_before o) (after : r.after ≡ devices_after o hs) where
    before_at : (d : ℕ) → d < 4 → (device_at r.before d).told ≡ Some (o.devices d)
    before_at d lt = ap (λ (ds : List Device). (device_at ds d).told) before ∙ told_before o d lt

    after_at : (d : ℕ) → d < 4 → (device_at r.after d).told ≡ Some (with_ops (o.devices d) (ops_on d hs))
    after_at d lt = ap (λ (ds : List Device). (device_at ds d).told) after ∙ told_after o hs d lt

    in_use : (d : ℕ) → d < 4 → (l : ℕ) (lt : l < r.work.logs) → d ≡ r.devices.head + l
        → IsMade (end_moment r) l (content (o.devices d)) (r.devices.each l lt).end (first_groups l r.devices.added) (begun_on r l) (ops_on d hs)
    in_use d below l lt e =
        let groups : List (List Record) = first_groups l r.devices.added ++ groups_of (machine_in r) l r.events in
        let tried : Option (List Record) = tried_on r.failed l (group_behind (machine_in r) l r.events) in
        let end : ℕ = (r.devices.each l lt).end in
        let grew : GrewBy (device_at r.before d).told (device_at r.after d).told end groups tried =
        subst (λ (k : ℕ). GrewBy (device_at r.before k).told (device_at r.after k).told end groups tried) (sym e) (r.devices.each l lt).grew in
        let known : GrewBy (Some (o.devices d)) (Some (with_ops (o.devices d) (ops_on d hs))) end groups tried =
        subst (λ (x : Option DeviceHistory). GrewBy (Some (o.devices d)) x end groups tried) (after_at d below)
        (subst (λ (x : Option DeviceHistory). GrewBy x (device_at r.after d).told end groups tried) (before_at d below) grew) in
        let g = growing (o.devices d) (ops_on d hs) end groups (group_behind (machine_in r) l r.events) (r.failed l) known in
        record { later = g.later; begun = g.begun; splits = g.splits; so_far = g.so_far; next = g.next; waits = g.waits }

    made_at : (d : ℕ) → d < 4 → IsMadeAt r (end_moment r) d (o.devices d) (ops_on d hs)
    made_at d lt = record {
      in_use = λ l below e. in_use d lt l below e;
      aside = λ off. ([], after_at d lt ∙ ap (λ (ops : List DevOp). Some (with_ops (o.devices d) ops)) (sym (append-nil (ops_on d hs))));
    }

    pub crash_at_end : CrashOn r (end_moment r) images
    crash_at_end = record {
      held = held;
      made = λ d. ops_on d hs;
      each = λ d lt. (record { history = o.devices d; told = before_at d lt; durable = durable.durable d lt; holds = durable.holds d lt; left = left d lt }, made_at d lt);
    }

  -- ---- no run

  -- where the devices are as they were, each holds what it held
  pub nothing_made : devices_after o hs ≡ devices_before o → LosesNothing o held images
  nothing_made same = keeps (λ d lt.
      let h : DeviceHistory = o.devices d in
      let told : Some (with_ops h (ops_on d hs)) ≡ Some h = sym (told_after o hs d lt) ∙ (ap (λ (ds : List Device). (device_at ds d).told) same ∙ told_before o d lt) in
      let none : ops_on d hs ≡ [] = append_cancel_left h.ops (ops_on d hs) [] (ap (λ (x : DeviceHistory). x.ops) (same_some (with_ops h (ops_on d hs)) h told) ∙ sym (append-nil h.ops)) in
      let here : IsImage (settled (content h)) (images d) = subst (λ (k : Disk). IsImage k (images d)) (durable.durable d lt) (subst (λ (ops : List DevOp). IsImage (disk_after ops (disk h)) (images d)) none (left d lt)) in
      let is : images d ≡ content h = image_is (content h) (images d) here in
      (subst (λ (bytes : List ℕ). HoldsRecords bytes (held d)) (sym is) (durable.holds d lt), λ recent. subst (λ (bytes : List ℕ). ¬ IsOld bytes) (sym is) recent))

  kept_image : (d : ℕ) → d < 4 → KeepsRecords (Some (o.devices d)) (Some (with_ops (o.devices d) (ops_on d hs))) → IsKept o held images d
  kept_image d lt k =
      let P : List ℕ → Type 0 = IsKeptImage (content (o.devices d)) (held d) in
      let all : EachMoment (disk (o.devices d)) (ops_on d hs) P =
      subst (λ (ops : List DevOp). EachMoment (disk (o.devices d)) ops P) (sym (same_ops (o.devices d) (ops_on d hs) k.0 k.1)) (k.2 (durable.durable d lt) (held d) (durable.holds d lt)) in
      last_moment P (disk (o.devices d)) (ops_on d hs) all (images d) (left d lt)

  emptied_image : (d : ℕ) → d < 4 → KeepsOrEmpties (Some (o.devices d)) (Some (with_ops (o.devices d) (ops_on d hs))) → HoldsRecords (images d) (held d) ⊎ HoldsRecords (images d) []
  emptied_image d lt k =
      let P : List ℕ → Type 0 = λ image. HoldsRecords image (held d) ⊎ HoldsRecords image [] in
      let all : EachMoment (disk (o.devices d)) (ops_on d hs) P =
      subst (λ (ops : List DevOp). EachMoment (disk (o.devices d)) ops P) (sym (same_ops (o.devices d) (ops_on d hs) k.0 k.1)) (k.2 (durable.durable d lt) (held d) (durable.holds d lt)) in
      last_moment P (disk (o.devices d)) (ops_on d hs) all (images d) (left d lt)

  added_image : (d : ℕ) (added : List Record) → d < 4 → KeepsOrAdds (Some (o.devices d)) (Some (with_ops (o.devices d) (ops_on d hs))) added
      → IsKeptOrAdded (content (o.devices d)) (held d) added (images d)
  added_image d added lt k =
      let P : List ℕ → Type 0 = IsKeptOrAdded (content (o.devices d)) (held d) added in
      let all : EachMoment (disk (o.devices d)) (ops_on d hs) P =
      subst (λ (ops : List DevOp). EachMoment (disk (o.devices d)) ops P) (sym (same_ops (o.devices d) (ops_on d hs) k.0 k.1)) (k.2 (durable.durable d lt) (held d) (durable.holds d lt)) in
      last_moment P (disk (o.devices d)) (ops_on d hs) all (images d) (left d lt)

  -- a fact of a device before and after, of the histories that they tell
  as_told : (R : Option DeviceHistory → Option DeviceHistory → Type 0) (d : ℕ) → d < 4 → R (device_at (devices_before o) d).told (device_at (devices_after o hs) d).told
      → R (Some (o.devices d)) (Some (with_ops (o.devices d) (ops_on d hs)))
  as_told R d lt h =
      subst (λ (x : Option DeviceHistory). R (Some (o.devices d)) x) (told_after o hs d lt)
      (subst (λ (x : Option DeviceHistory). R x (device_at (devices_after o hs) d).told) (told_before o d lt) h)

  pub loses_nothing : (w : Work) → IsWork o.input w → AreSafe w.logs w.states (devices_before o) (devices_after o hs) → LosesNothing o held images
  loses_nothing w is (inl all) = keeps (λ d lt. kept_image d lt (zipped_at (λ (b a : Device). KeepsRecords b.told a.told) (device_before o) (device_after o hs) all d lt))
  loses_nothing w is (inr (inl c)) =
      clears w c.head c.generation is c.used c.checkpoint (λ d lt asked. emptied_image d lt (as_told KeepsOrEmpties d lt (c.cleared d lt asked)))
      (λ d lt not. kept_image d lt (as_told KeepsRecords d lt (c.kept d lt not)))
  loses_nothing w is (inr (inr b)) =
      begins w is b.empty (added_image 0 (first_record w.logs w.states ∷ []) (omega arith) (as_told (λ x y. KeepsOrAdds x y (first_record w.logs w.states ∷ [])) 0 (omega arith) b.first))
      (λ d some lt. kept_image d lt (as_told KeepsRecords d lt (b.others d some lt)))
