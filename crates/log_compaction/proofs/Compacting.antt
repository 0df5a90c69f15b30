-- What compacting leaves of the devices, from what its writes leave of four open logs.
use Rattle.std.proofs.Common.{◌≡◌, ◌≢◌, ℕ, ◌+◌, ◌<◌, ◌≤◌, inl, inr, List, [], ◌∷◌, ◌++◌, length, map, refl, sym, ◌∙◌, ap, subst, arith, Option, Some, None}
use Rattle.std.specs.Prelude.{◌⊎◌, IfSome}
use Rattle.std.specs.List.{AllByRecursion, AllZip}
use Rattle.snap_outside.specs.Causes.{Rose}
use Rattle.snap_outside.specs.declared.devices.DevOp.{DevOp}
use Rattle.snap_outside.specs.Disk.{DeviceHistory, content, settled, with_ops, AddsAll, IsImage}
use Rattle.gate_log.specs.declared.logs.LogItem.{LogItem}
use Rattle.gate_log.specs.Appends.{clear_ops}
use Rattle.gate_log.specs.Bytes.{FIRST_GATE}
use Rattle.gate_log.specs.Device.{DeviceLog}
use Rattle.gate_log.specs.LogLaws.{AppendGives, AppendKeeps, ClearGives, ClearKeeps, LogAtIsLog, OneList, OpeningAdds, OpeningKeepsFormat, PlacedIsLogAt, UpgradeGives, UpgradeKeeps}
use Rattle.gate_log.specs.Opened.{Opened, bytes_of, opening_ops}
use Rattle.gate_log.specs.State.{LogState, log_at}
use Rattle.txn_records.specs.declared.records.Record.{Record}
use Rattle.txn_records.specs.Records.{IsRecord}
use Rattle.record_log.specs.Growth.{MayAppendGroup}
use Rattle.record_log.specs.Records.{HoldsRecords, spelled}
use Rattle.record_log.specs.RecordLogLaws.{FewMayBeAppended, UpgradeKeepsRecords}
use Rattle.snap_recover.specs.declared.causes.LogCause.TheVariants as cause
use Rattle.log_compact.specs.declared.folds.Folded.{Folded}
use Rattle.log_compact.specs.Compacting.{IsOnSide, group_for, other_side}
use Rattle.log_compact.specs.OnDevices.{OpenDevice, group_ops, ready_ops}
use Rattle.log_compact.proofs.OnDevices.{LogsStand, group_log, ready_log, with_both}
use Rattle.log_opening.specs.Devices.{Device, as_device, device_at, AreOpened, HoldNoOld, HoldsNoOld}
use Rattle.log_opening.specs.Found.{AreAllFound, IsFoundOn, IsReadyLog}
use Rattle.log_opening.specs.Kept.{AreFolded, DeviceHolds, IsLogsNo}
use Rattle.log_opening.specs.Upgrades.{items_at}
use Rattle.log_opening.specs.declared.refusals.LogsNo.{LogsNo}
use Rattle.log_opening.specs.declared.refusals.LogsNo.TheVariants as ending
use Rattle.log_opening.proofs.AllFound.{all_opened, all_touched, all_whole, found_at, ready_at}
use Rattle.log_opening.proofs.Numbers.{on_device, zip_four}
use Rattle.log_opening.proofs.ReadyOne.{ReadyLaws, empty_no_old, is_old, no_old, ready_laws}
use Rattle.log_compaction.specs.declared.refusals.CompactNo.{CompactNo}
use Rattle.log_compaction.specs.declared.refusals.CompactNo.TheVariants.{Logs, TooMany}
use Rattle.log_compaction.specs.Compacted.{AreCompacted, HasOldLog, IsCompactNo, IsNoCompaction, MayCompactLogs, WasBegun}
use Rattle.log_compaction.specs.Crashes.{IsAtMoment}
use Rattle.log_compaction.specs.Ready.{log_ready_ops}
use Rattle.log_compaction.specs.Steps.{AreRecent, IsFirstOld, IsGuarded, IsNotCompacted, IsOldAt, IsOpenSet, IsRefusedFor, MayBeWritten}
use Rattle.log_compaction.specs.Written.{AreAllDone, AreLater, AreOn, WritesSoFar}
use Rattle.log_compaction.proofs.Stages.{AreSides, head_low, other_here, other_low}
use Rattle.log_compaction.proofs.Writing.{upgrades_same}

-- what the levels below promise of open logs
pub record OpenLaws : Type 0 where
  pub ready : ReadyLaws
  pub stand : LogsStand
  pub few : FewMayBeAppended

-- as the laws of these names promise it, which each call that compacts open logs calls
pub open_laws : PlacedIsLogAt → OneList → OpeningAdds → OpeningKeepsFormat → UpgradeKeepsRecords → ((bytes image : List ℕ) → IsImage (settled bytes) image → image ≡ bytes) → LogAtIsLog → ClearGives → ClearKeeps → UpgradeGives → UpgradeKeeps
    → AppendGives → AppendKeeps → FewMayBeAppended → OpenLaws
open_laws placed list adds format keeps settles lists clears clear_keeps upgrades upgrade_keeps appends append_keeps few = record {
  ready = ready_laws placed list adds format keeps;
  stand = record { settles = settles; lists = lists; clears = clears; clear_keeps = clear_keeps; upgrades = upgrades; upgrade_keeps = upgrade_keeps; appends = appends; append_keeps = append_keeps };
  few = few;
}

some_or_none : (items : List LogItem) → (items ≡ []) ⊎ (items ≢ [])
some_or_none [] = inl refl
some_or_none (i ∷ items) = inr (λ none. cc)

-- ---- one device that got some operations

holds_behind : (old new : Option DeviceHistory) (ops : List DevOp) (rs : List Record) → AddsAll old new ops → ((h : DeviceHistory) → old ≡ Some h → HoldsRecords (content (with_ops h ops)) rs) → IfSome new (λ g. HoldsRecords (content g) rs)
holds_behind None new ops rs adds each = subst (λ (t : Option DeviceHistory). IfSome t (λ g. HoldsRecords (content g) rs)) (sym adds) tt
holds_behind (Some h) new ops rs adds each = subst (λ (t : Option DeviceHistory). IfSome t (λ g. HoldsRecords (content g) rs)) (sym adds) (each h refl)

-- ---- four open logs, of which those in use fold

module _ (laws : OpenLaws) (before : List Device) (logs : List LogState) (found : List (List LogItem)) (head : ℕ) (lists : List (List Record)) (f : Folded) (is : IsOpenSet before logs found head lists f) where
  abbrev folded : AreFolded before
  folded = record { head = head; lists = lists; fold = f; given = is.given; folded = is.folded }

  on : (d : ℕ) → d < 4 → IsFoundOn (device_at before d) (as_device (log_at logs d)) (items_at found d)
  on d lt = found_at before logs found is.all d lt

  ready : (d : ℕ) → d < 4 → IsReadyLog (log_at logs d) (items_at found d)
  ready d lt = ready_at before logs found is.all d lt

  -- ---- refusals

  not_old : (d : ℕ) → d < 4 → ¬ IsOldAt logs found d → HoldsNoOld (device_at before d)
  not_old d lt none = by (ready d lt).known (some_or_none (items_at found d))
    where
      by : ((log_at logs d).format ≡ 1) ⊎ ((log_at logs d).format ≡ 2) → (items_at found d ≡ []) ⊎ (items_at found d ≢ []) → HoldsNoOld (device_at before d)
      by (inl one) (inl empty) = empty_no_old laws.ready (device_at before d).told (log_at logs d).told (on d lt).opened.0 (items_at found d) (device_at before d).faults (on d lt).opened.1 empty
      by (inl one) (inr full) = absurd (none (one, full))
      by (inr two) items =
          no_old laws.ready (device_at before d) (log_at logs d) (log_at logs d) (items_at found d) (on d lt) (ready d lt) (inl (refl, inl (λ one. omega (arith, one, two)))) two

  recent : (n : ℕ) → n ≤ length lists → AreRecent logs found head n → HoldNoOld head n before
  recent n few none = λ l lt. not_old (head + l) (omega (arith, lt, few, is.within)) (none l lt)

  first_old : (log : ℕ) → IsFirstOld logs found head (length lists) log → HasOldLog before head (length lists) log
  first_old log first =
      let low : log < 4 = omega (arith, first.is, first.asked, is.within) in
      record {
        number = first.number;
        asked = first.asked;
        is = first.is;
        old = is_old laws.ready (device_at before log) (log_at logs log) (log_at logs log) (items_at found log) (on log low) (ready log low) (inl (refl, inr first.old.1)) first.old.0;
        least = recent first.number (omega (arith, first.asked)) first.least;
      }

  opened : AreOpened 4 before (map as_device logs)
  opened = all_opened before logs found is.all

  refused_for : (no : CompactNo) → IsRefusedFor logs found head (length lists) f no → IsNoCompaction before (map as_device logs) no
  refused_for (Logs (ending.Refused log offset cause.OldFormat)) why = (why.0, record { logs = folded; old = first_old log why.1; opened = opened })
  refused_for (Logs (ending.Refused log offset (cause.Spent number))) why =
      (why.0, record { logs = folded; recent = recent (length lists) (omega arith) why.2; is = why.1; spent = why.3; opened = opened })
  refused_for (Logs (ending.Refused log offset c)) why = absurd why
  refused_for (Logs (ending.Device log)) why = absurd why
  refused_for (Logs ending.Memory) why = absurd why
  refused_for (TooMany many) why = record { logs = folded; recent = recent (length lists) (omega arith) why.0; unspent = why.1; is = why.2; many = omega (arith, why.2, why.3); opened = opened }

  may_be : MayBeWritten logs found head (length lists) f → MayCompactLogs before head (length lists) f
  may_be may = record { recent = recent (length lists) (omega arith) may.recent; unspent = may.unspent; few = may.few }

  -- ---- moments

  module _ (histories : ℕ → DeviceHistory) (told : (d : ℕ) → d < 4 → (device_at before d).told ≡ Some (histories d)) where
    abbrev devices : ℕ → OpenDevice
    devices d = record { history = with_ops (histories d) (opening_ops (content (histories d))); end = (log_at logs d).end }

    open_told : (d : ℕ) → d < 4 → (log_at logs d).told ≡ Some (devices d).history
    open_told d lt =
        laws.ready.adds (histories d) (log_at logs d).told (on d lt).opened.0 (items_at found d)
        (subst (λ (t : Option DeviceHistory). Opened t (log_at logs d).told (on d lt).opened.0 (items_at found d)) (told d lt) (on d lt).opened.1)

    open_log : (d : ℕ) → d < 4 → DeviceLog (devices d).history (devices d).end (bytes_of (items_at found d))
    open_log d lt = subst (λ (t : Option DeviceHistory). IfSome t (λ h. DeviceLog h (log_at logs d).end (bytes_of (items_at found d)))) (open_told d lt) (ready d lt).holds

  at_moment : (new : List LogState) → ((opened_devices : ℕ → OpenDevice) → AreOn logs opened_devices → WritesSoFar opened_devices new head (length lists) (group_for (length lists) f))
      → IsAtMoment before (map as_device new) head (length lists) f
  at_moment new written histories told =
      let end = written (devices histories told) (record { told = open_told histories told; ends = λ d lt. refl }) in (
        (λ (d : ℕ). opening_ops (content (histories d)) ++ end.made d),
        (λ d lt. on_device (λ (a : Device). a.told ≡ Some (with_ops (histories d) (opening_ops (content (histories d)) ++ end.made d))) new d
            (end.told d lt ∙ ap (λ (h : DeviceHistory). Some h) (with_both (histories d) (opening_ops (content (histories d))) (end.made d)))),
        inr (devices histories told, end.made, (λ d lt. (record { history = refl; log = (bytes_of (items_at found d), open_log histories told d lt) }, refl)), end.moment),
      )

  -- ---- the writes

  module _ (new : List LogState) (may : MayBeWritten logs found head (length lists) f) (written : (opened_devices : ℕ → OpenDevice) → AreOn logs opened_devices → WritesSoFar opened_devices new head (length lists) (group_for (length lists) f)) (sides : AreSides head (other_side head (length lists)) (length lists)) where
    begun : WasBegun before (map as_device new)
    begun = record { logs = folded; may = may_be may; so_far = at_moment new written }

    on_some : (log : ℕ) → IsOnSide head (length lists) log ⊎ IsOnSide (other_side head (length lists)) (length lists) log → log < 4
    on_some log (inl side) = omega (arith, side.before, head_low head (other_side head (length lists)) (length lists) sides)
    on_some log (inr side) = omega (arith, side.before, other_low head (other_side head (length lists)) (length lists) sides)

    not_told : (no : LogsNo) → IsNotCompacted logs new head (length lists) no → IsCompactNo before (map as_device new) no
    not_told (ending.Device log) why =
        let later : (device_at before log).faults ≤ (log_at logs log).faults = (on log (on_some log why.0)).safe.later in
        inr (begun, on_device (λ (a : Device). Rose (device_at before log).faults a.faults) new log (omega (arith, later, why.1)))
    not_told (ending.Refused log offset c) why = absurd why
    not_told ending.Memory why = inr begun

    -- what each device holds once all is done
    module _ (done : AreAllDone logs new head (other_side head (length lists)) (length lists) (group_for (length lists) f)) (records : AllByRecursion IsRecord (group_for (length lists) f)) where
      log_here : (d : ℕ) → d < 4 → (h : DeviceHistory) → (log_at logs d).told ≡ Some h → DeviceLog h (log_at logs d).end (bytes_of (items_at found d))
      log_here d lt h told = subst (λ (t : Option DeviceHistory). IfSome t (λ g. DeviceLog g (log_at logs d).end (bytes_of (items_at found d)))) told (ready d lt).holds

      ready_same : (d : ℕ) → d < 4 → (h : DeviceHistory) → (log_at logs d).told ≡ Some h → log_ready_ops (log_at logs d) ≡ ready_ops (record { history = h; end = (log_at logs d).end })
      ready_same d lt h told = ap (λ (ops : List DevOp). clear_ops (log_at logs d).end ++ ops) (upgrades_same (log_at logs d).told h (log_at logs d).format told (ready d lt).formatted)

      group_fits : MayAppendGroup FIRST_GATE (group_for (length lists) f)
      group_fits = record { records = records; may = laws.few FIRST_GATE (group_for (length lists) f) records (omega arith) (omega arith) }

      first_holds : (d : ℕ) → d < 4 → AddsAll (log_at logs d).told (log_at new d).told (log_ready_ops (log_at logs d) ++ group_ops (group_for (length lists) f)) → DeviceHolds (as_device (log_at new d)) (group_for (length lists) f)
      first_holds d lt adds = holds_behind (log_at logs d).told (log_at new d).told (log_ready_ops (log_at logs d) ++ group_ops (group_for (length lists) f)) (group_for (length lists) f) adds (λ h told.
          let group = group_for (length lists) f in
          let x : OpenDevice = record { history = h; end = (log_at logs d).end } in
          let log = group_log laws.stand x (bytes_of (items_at found d)) group group_fits (log_here d lt h told) in
          subst (λ (ops : List DevOp). HoldsRecords (content (with_ops h (ops ++ group_ops group))) group) (sym (ready_same d lt h told))
          (record { log = laws.stand.lists (content (with_ops h (ready_ops x ++ group_ops group))) _ (spelled group) log.log; each = records }))

      ready_holds : (d : ℕ) → d < 4 → AddsAll (log_at logs d).told (log_at new d).told (log_ready_ops (log_at logs d)) → DeviceHolds (as_device (log_at new d)) []
      ready_holds d lt adds = holds_behind (log_at logs d).told (log_at new d).told (log_ready_ops (log_at logs d)) [] adds (λ h told.
          let x : OpenDevice = record { history = h; end = (log_at logs d).end } in
          let log = ready_log laws.stand x (bytes_of (items_at found d)) (log_here d lt h told) in
          subst (λ (ops : List DevOp). HoldsRecords (content (with_ops h ops)) []) (sym (ready_same d lt h told))
          (record { log = laws.stand.lists (content (with_ops h (ready_ops x))) FIRST_GATE [] log.log; each = tt }))

      cleared_holds : (d : ℕ) → d < 4 → AddsAll (log_at logs d).told (log_at new d).told (clear_ops (log_at logs d).end) → DeviceHolds (as_device (log_at new d)) []
      cleared_holds d lt adds = holds_behind (log_at logs d).told (log_at new d).told (clear_ops (log_at logs d).end) [] adds (λ h told.
          let log = laws.stand.clears h (log_at logs d).end (bytes_of (items_at found d)) (log_here d lt h told) in
          record { log = laws.stand.lists (content (with_ops h (clear_ops (log_at logs d).end))) FIRST_GATE [] log.log; each = tt })

      compacted : AreCompacted before (map as_device new) (f.generation + 1)
      compacted =
          let other = other_side head (length lists) in
          let low : other + length lists ≤ 4 = other_low head other (length lists) sides in
          let here : IsOnSide other (length lists) other = other_here head other (length lists) sides in
          record {
            logs = folded;
            may = may_be may;
            whole = at_moment new written;
            next = refl;
            first = on_device (λ (a : Device). DeviceHolds a (group_for (length lists) f)) new other (first_holds other (omega (arith, here.before, low)) done.first);
            side = λ d side apart. on_device (λ (a : Device). DeviceHolds a []) new d (ready_holds d (omega (arith, side.before, low)) (done.side d side apart));
            old = λ d side. on_device (λ (a : Device). DeviceHolds a []) new d (cleared_holds d (on_some d (inl side)) (done.old d side));
          }

-- ---- as many logs as are found in use

module _ (laws : OpenLaws) (before : List Device) (logs : List LogState) (found : List (List LogItem)) (head count : ℕ) (lists : List (List Record)) (f : Folded) (is : IsOpenSet before logs found head lists f) (many : length lists ≡ count) where
  back : count ≡ length lists
  back = sym many

  pub is_refused : (no : CompactNo) → IsRefusedFor logs found head count f no → IsNoCompaction before (map as_device logs) no
  is_refused answer why = refused_for laws before logs found head lists f is answer (subst (λ (n : ℕ). IsRefusedFor logs found head n f answer) back why)

  -- no log was written to
  pub refused_guarded : IsGuarded before (map as_device logs)
  refused_guarded = inl (all_touched before logs found is.all)

  module _ (new : List LogState) (may : MayBeWritten logs found head count f) where
    may_now : MayBeWritten logs found head (length lists) f
    may_now = subst (λ (n : ℕ). MayBeWritten logs found head n f) back may

    pub written_guarded : IsGuarded before (map as_device new)
    written_guarded = inr (folded laws before logs found head lists f is, may_be laws before logs found head lists f is may_now)

    module _ (side : (head ≡ 0) ⊎ (head ≡ count)) (some : 1 ≤ count) (written : (devices : ℕ → OpenDevice) → AreOn logs devices → WritesSoFar devices new head count (group_for count f)) where
      sides_now : AreSides head (other_side head (length lists)) (length lists)
      sides_now =
          subst (λ (n : ℕ). AreSides head (other_side head n) n) back (record { is_other = refl; some = some; few = may.few; side = side })

      written_now : (devices : ℕ → OpenDevice) → AreOn logs devices → WritesSoFar devices new head (length lists) (group_for (length lists) f)
      written_now = subst (λ (n : ℕ). (devices : ℕ → OpenDevice) → AreOn logs devices → WritesSoFar devices new head n (group_for n f)) back written

      pub is_not_told : (no : LogsNo) → IsNotCompacted logs new head count no → IsNoCompaction before (map as_device new) (Logs no)
      is_not_told answer why =
          not_told laws before logs found head lists f is new may_now written_now sides_now answer (subst (λ (n : ℕ). IsNotCompacted logs new head n answer) back why)

      pub is_compacted : AreAllDone logs new head (other_side head count) count (group_for count f) → AllByRecursion IsRecord (group_for count f) → AreCompacted before (map as_device new) (f.generation + 1)
      is_compacted done records =
          compacted laws before logs found head lists f is new may_now written_now sides_now
          (subst (λ (n : ℕ). AreAllDone logs new head (other_side head n) n (group_for n f)) back done) (subst (λ (n : ℕ). AllByRecursion IsRecord (group_for n f)) back records)

-- ---- not opened, or folded to nothing

pub not_folded : (before after : List Device) (no : LogsNo) → IsLogsNo before after no → IsCompactNo before after no
not_folded before after (ending.Refused log offset cause.OldFormat) is = absurd (is.1.cause_is)
not_folded before after (ending.Refused log offset (cause.Spent number)) is = absurd (is.1.cause_is)
not_folded before after (ending.Refused log offset c) is = is
not_folded before after (ending.Device log) is = inl is
not_folded before after ending.Memory is = inl is

-- ---- later

pub all_later : (before : List Device) (logs new : List LogState) (found : List (List LogItem)) → AreAllFound before logs found → length new ≡ length logs → AreLater logs new
    → AllZip (λ (b a : Device). b.faults ≤ a.faults) before (map as_device new)
all_later before logs new found all many later =
    zip_four (λ (b a : Device). b.faults ≤ a.faults) before new (all_whole before logs found all) (many ∙ all.many)
    (λ d lt. let first = (found_at before logs found all d lt).safe.later in omega (arith, first, later d))

-- ---- the devices come back from the open logs

pub between : (P : List Device → List Device → Type 0) (before after mid before_mid : List Device) → before_mid ≡ before → after ≡ mid → P before_mid mid → P before after
between P before after mid before_mid first last is = subst (λ (l : List Device). P before l) (sym last) (subst (λ (l : List Device). P l mid) first is)
