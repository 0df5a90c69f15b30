-- The logs of a run that are opened and written to, log by log.
use Rattle.std.proofs.Common.{◌≡◌, ℕ, inl, inr, List, [], ◌∷◌, ◌++◌, append_assoc, append-nil, refl, sym, ◌∙◌, ap, subst, arith, Option, Some, None}
use Rattle.std.proofs.lemmas.List.{append_cancel_left}
use Rattle.std.specs.Prelude.{IfSome, ◌⊎◌}
use Rattle.snap_outside.specs.declared.devices.DevOp.{DevOp}
use Rattle.snap_outside.specs.Disk.{DeviceHistory, Disk, disk, content, settled, op_done, EachMoment, AddsAll, with_ops}
use Rattle.snap_outside.specs.Moments.{adds_join, adds_nothing, moments_join, moments_weaker, disk_join}
use Rattle.gate_log.specs.declared.logs.LogItem.{LogItem}
use Rattle.gate_log.specs.Appends.{append_ops, end_behind, upgrading_ops}
use Rattle.gate_log.specs.Bytes.{IsOld, marked_format}
use Rattle.gate_log.specs.Device.{DeviceLog, HasFormat}
use Rattle.gate_log.specs.LogLaws.{AppendKeepsMark, OneReading, OpeningAdds, BeginningGives, MarkedIsSecond}
use Rattle.gate_log.specs.Opened.{bytes_of, opening_ops, beginning_ops, Opened}
use Rattle.gate_log.specs.State.{LogState, IsUntouched}
use Rattle.gate_log.proofs.AppendDisks.{moments_front}
use Rattle.txn_records.specs.declared.records.Record.{Record}
use Rattle.record_log.specs.Growth.{all_records, MayAppendGroup, GrewBy, upgrading_of}
use Rattle.record_log.specs.GrowthLaws.{OpeningGrows, GroupGrows, FaultGrows}
use Rattle.record_log.specs.Records.{spelled, HoldsRecords, RecordLog, AreItemsOf, IsKeptImage, KeepsRecords, AppendsRecords, CrashesRecords}
use Rattle.record_log.specs.RecordLogLaws.{OneListOfRecords, OpenedHeld, OpenedHolds}
use Rattle.log_opening.specs.Counted.{IsUsedLog}
use Rattle.log_opening.specs.Devices.{Device}
use Rattle.log_opening.specs.declared.refusals.LogsNo.{LogsNo}
use Rattle.run_opening.specs.Opens.{IsRunLog, IsKeptOrAdded, as_groups, KeepsOrAdds}
use Rattle.run_opening.specs.Writes.{IsNotWritten, IsWritten}

-- what the logs promise of an append to a log of format 2
pub record AppendLaws : Type 0 where
  pub mark : AppendKeepsMark
  pub second : MarkedIsSecond

-- what the logs promise
pub record LogLaws : Type 0 where
  pub one_reading : OneReading
  pub adds : OpeningAdds
  pub gives : BeginningGives
  pub before : OpenedHeld
  pub after : OpenedHolds
  pub one_list : OneListOfRecords
  pub grows : OpeningGrows
  pub group : GroupGrows
  pub fault : FaultGrows
  pub append : AppendLaws

-- ---- opened

if_some : (m : Option DeviceHistory) (P Q : DeviceHistory → Type 0) → ((g : DeviceHistory) → P g → Q g) → IfSome m P → IfSome m Q
if_some None P Q then given = tt
if_some (Some g) P Q then given = then g given

-- the closed gate of the log that was found is where the open log has it
opened_at : LogLaws → (told mid new : Option DeviceHistory) (e end : ℕ) (items : List LogItem) → Opened told mid e items → AddsAll mid new (upgrading_of told)
    → IfSome new (λ g. DeviceLog g end (bytes_of items)) → Opened told mid end items
opened_at laws None mid new e end items opened upgraded log = opened
opened_at laws (Some h) mid new e end items opened upgraded log =
    let ops = beginning_ops (content h) in
    let adds : new ≡ Some (with_ops h ops) = adds_join (Some h) mid new (opening_ops (content h)) (upgrading_ops (content h)) (laws.adds h mid e items opened) upgraded in
    let there : DeviceLog (with_ops h ops) end (bytes_of items) = subst (λ (m : Option DeviceHistory). IfSome m (λ g. DeviceLog g end (bytes_of items))) adds log in
    let here = laws.gives h mid e items opened in
    subst (λ (n : ℕ). Opened (Some h) mid n items) (laws.one_reading (content (with_ops h ops)) e end (bytes_of items) (bytes_of items) here.log there.log).0 opened

held_of : LogLaws → (told new : Option DeviceHistory) (e : ℕ) (items : List LogItem) (rs : List Record) → Opened told new e items → AreItemsOf items rs → IfSome told (λ h. HoldsRecords (content h) rs)
held_of laws None new e items rs opened are = tt
held_of laws (Some h) new e items rs opened are = laws.before h new e items rs opened are

pub used_log : LogLaws → (b : Device) (l : LogState) (rs : List Record) → IsUsedLog b l rs → IsRunLog b l l.end rs []
used_log laws b l rs is =
    let items : List LogItem = is.items in
    let on = is.begun in
    let mid = on.begun.1.0 in
    let opened : Opened b.told mid l.end items = opened_at laws b.told mid l.told on.begun.0 l.end items on.begun.1.1 on.begun.1.2 is.ready.holds in
    record {
      opened = (mid, items, opened);
      low = is.ready.low;
      held = held_of laws b.told mid l.end items rs opened is.are;
      grew = laws.grows b.told mid l.told l.end items opened on.begun.1.2;
      gate = refl;
      holds = if_some l.told (λ g. DeviceLog g l.end (bytes_of items)) (λ g. RecordLog g l.end (rs ++ all_records []))
          (λ g log. subst (λ (x : List Record). RecordLog g l.end x) (sym (append-nil rs)) (laws.after g l.end items rs log is.are)) is.ready.holds;
      second = is.second;
      ready = is.ready.ready;
      later = on.safe.later;
    }

-- ---- written to

holds_more : (old new : Option DeviceHistory) (first last : ℕ) (rs added : List Record) (ops : List DevOp) → AddsAll old new ops → IfSome old (λ g. RecordLog g first (rs ++ all_records []))
    → AppendsRecords old new first last added → IfSome new (λ g. RecordLog g last (rs ++ all_records (added ∷ [])))
holds_more None new first last rs added ops adds holds appends = subst (λ (m : Option DeviceHistory). IfSome m (λ g. RecordLog g last (rs ++ all_records (added ∷ [])))) (sym adds) tt
holds_more (Some h) None first last rs added ops adds holds appends = tt
holds_more (Some h) (Some g) first last rs added ops adds holds appends =
    subst (λ (x : List Record). RecordLog g last (rs ++ x)) (sym (append-nil added)) (appends rs (subst (λ (x : List Record). RecordLog h first x) (append-nil rs) holds))

pub written_log : LogLaws → (b : Device) (l k : LogState) (end : ℕ) (rs added : List Record) → IsRunLog b l end rs [] → IsWritten l k added → IsRunLog b k end rs (as_groups added)
written_log laws b l k end rs [] is w =
    let same : IsUntouched l k = w.nothing refl in
    record {
      opened = is.opened;
      low = is.low;
      held = is.held;
      grew = subst (λ (m : Option DeviceHistory). GrewBy b.told m end [] None) (sym same.told) is.grew;
      gate = same.end ∙ is.gate;
      holds = subst (λ (m : Option DeviceHistory). IfSome m (λ g. RecordLog g k.end (rs ++ all_records []))) (sym same.told)
          (subst (λ (n : ℕ). IfSome l.told (λ g. RecordLog g n (rs ++ all_records []))) (sym same.end) is.holds);
      second = w.format ∙ is.second;
      ready = w.ready;
      later = omega (arith, is.later, w.later);
    }
written_log laws b l k end rs (r ∷ added) is w =
    let group : List Record = r ∷ added in
    let may : MayAppendGroup end group = subst (λ (n : ℕ). MayAppendGroup n group) is.gate w.may in
    let adds : AddsAll l.told k.told (append_ops end (spelled group)) = subst (λ (n : ℕ). AddsAll l.told k.told (append_ops n (spelled group))) is.gate w.adds in
    record {
      opened = is.opened;
      low = is.low;
      held = is.held;
      grew = laws.group b.told l.told k.told end [] group is.grew may adds;
      gate = w.gate ∙ ap (λ (n : ℕ). end_behind n (spelled group)) is.gate;
      holds = holds_more l.told k.told l.end k.end rs group (append_ops l.end (spelled group)) w.adds is.holds w.appended;
      second = w.format ∙ is.second;
      ready = w.ready;
      later = omega (arith, is.later, w.later);
    }

-- ---- what a crash leaves

-- the operations that a device got are known by what it tells
ops_of : Option DeviceHistory → List DevOp
ops_of None = []
ops_of (Some g) = g.ops

same_ops : (h : DeviceHistory) (new : Option DeviceHistory) (xs ys : List DevOp) → AddsAll (Some h) new xs → AddsAll (Some h) new ys → xs ≡ ys
unfolding ops_of
same_ops h new xs ys first second = append_cancel_left h.ops xs ys (ap ops_of (sym first ∙ second))

-- an append made, or a front of it
abbrev pub AddsFrontOf : Option DeviceHistory → Option DeviceHistory → ℕ → List Record → Type 0
AddsFrontOf old new end added = (made left : List DevOp) × (append_ops end (spelled added) ≡ made ++ left) × AddsAll old new made

-- An append to a log of format 2, or a front of it, leaves none of format 1.
append_recent : AppendLaws → (g : DeviceHistory) (new : Option DeviceHistory) (end : ℕ) (rs added : List Record) (ops : List DevOp) → MayAppendGroup end added → RecordLog g end rs → HasFormat (Some g) 2
    → AddsFrontOf (Some g) new end added → AddsAll (Some g) new ops → EachMoment (disk g) ops (λ image. ¬ IsOld image)
append_recent laws g new end rs added ops may log format front adds =
    let marked : EachMoment (disk g) (append_ops end (spelled added)) (λ image. marked_format image ≡ marked_format (content g)) = laws.mark g end (spelled rs) (spelled added) may.may log.log in
    let of_front : EachMoment (disk g) front.0 (λ image. marked_format image ≡ marked_format (content g)) =
    moments_front (disk g) front.0 front.1 (λ image. marked_format image ≡ marked_format (content g)) (subst (λ (l : List DevOp). EachMoment (disk g) l (λ image. marked_format image ≡ marked_format (content g))) front.2 marked) in
    subst (λ (l : List DevOp). EachMoment (disk g) l (λ image. ¬ IsOld image)) (same_ops g new front.0 ops front.3 adds)
    (moments_weaker (λ image. marked_format image ≡ marked_format (content g)) (λ image. ¬ IsOld image) (λ image same old. let one : 1 ≡ 2 = old.1.1 ∙ laws.second image (same ∙ sym format.0) in absurd (omega (arith, one))) (disk g) front.0 of_front)

-- what holds each by itself at each moment holds together
moments_both : (P Q : List ℕ → Type 0) (d : Disk) (ops : List DevOp) → EachMoment d ops P → EachMoment d ops Q → EachMoment d ops (λ image. P image × Q image)
moments_both P Q d [] p q = λ image left. (p image left, q image left)
moments_both P Q d (op ∷ ops) p q = ((λ image left. (p.0 image left, q.0 image left)), moments_both P Q (op_done op d) ops p.1 q.1)

module _ (laws : AppendLaws) (one_list : OneListOfRecords) (h : DeviceHistory) (mid : Option DeviceHistory) (rs added : List Record) (keeps : KeepsRecords (Some h) mid) (held : HoldsRecords (content h) rs) where
  abbrev between : DeviceHistory
  between = record { first = h.first; ops = h.ops ++ keeps.0 }

  abbrev Either : List Record → List ℕ → Type 0
  Either xs image = HoldsRecords image xs ⊎ HoldsRecords image (xs ++ added)

  abbrev Kept : List Record → List ℕ → Type 0
  Kept xs image = IsKeptOrAdded (content h) xs added image

  all_moments : (ops : List DevOp) → disk h ≡ settled (content h) → EachMoment (disk between) ops (Kept rs) → EachMoment (disk h) (keeps.0 ++ ops) (Kept rs)
  all_moments ops quiet later =
      let first = moments_weaker (IsKeptImage (content h) rs) (Kept rs) (λ image there. (inl there.0, there.1)) (disk h) keeps.0 (keeps.2 quiet rs held) in
      moments_join (disk h) keeps.0 ops (Kept rs) first (subst (λ (d : Disk). EachMoment d ops (Kept rs)) (disk_join h.ops keeps.0 (settled h.first)) later)

  pub keeps_or_adds : (new : Option DeviceHistory) (end : ℕ) → IfSome mid (λ g. RecordLog g end (rs ++ all_records [])) → HasFormat mid 2 → MayAppendGroup end added → AddsFrontOf mid new end added
      → CrashesRecords mid new end added → KeepsOrAdds (Some h) new added
  keeps_or_adds new end log format may front crashes =
      let there : RecordLog between end (rs ++ all_records []) = subst (λ (m : Option DeviceHistory). IfSome m (λ g. RecordLog g end (rs ++ all_records []))) keeps.1 log in
      let here : RecordLog between end rs = subst (λ (x : List Record). RecordLog between end x) (append-nil rs) there in
      let crash = subst (λ (m : Option DeviceHistory). CrashesRecords m new end added) keeps.1 crashes in
      let second : HasFormat (Some between) 2 = subst (λ (m : Option DeviceHistory). HasFormat m 2) keeps.1 format in
      let of_append : AddsFrontOf (Some between) new end added = subst (λ (m : Option DeviceHistory). AddsFrontOf m new end added) keeps.1 front in
      let recent = append_recent laws between new end rs added crash.0 may here second of_append crash.1 in
      let later : EachMoment (disk between) crash.0 (Kept rs) =
      moments_weaker (λ image. Either rs image × (¬ IsOld image)) (Kept rs) (λ image is. (is.0, (λ was. is.1))) (disk between) crash.0
      (moments_both (Either rs) (λ image. ¬ IsOld image) (disk between) crash.0 (crash.2 rs here) recent) in (
        keeps.0 ++ crash.0,
        crash.1 ∙ ap (λ (l : List DevOp). Some (record { first = h.first; ops = l })) (append_assoc h.ops keeps.0 crash.0),
        (λ quiet xs kept.
            subst (λ (l : List Record). EachMoment (disk h) (keeps.0 ++ crash.0) (Kept l)) (one_list (content h) rs xs held kept)
            (all_moments crash.0 quiet later)),
      )

safely : LogLaws → (told mid new : Option DeviceHistory) (end : ℕ) (rs added : List Record) → IfSome told (λ h. HoldsRecords (content h) rs) → KeepsRecords told mid
    → IfSome mid (λ g. RecordLog g end (rs ++ all_records [])) → HasFormat mid 2 → MayAppendGroup end added → AddsFrontOf mid new end added → CrashesRecords mid new end added → KeepsOrAdds told new added
safely laws None mid new end rs added held keeps log format may front crashes = tt
safely laws (Some h) mid new end rs added held keeps log format may front crashes = keeps_or_adds laws.append laws.one_list h mid rs added keeps held new end log format may front crashes

-- opened, and then written to or not
pub written_safely : LogLaws → (b : Device) (l : LogState) (end : ℕ) (rs added : List Record) (new : Option DeviceHistory) → IsRunLog b l end rs [] → KeepsRecords b.told l.told
    → HasFormat l.told 2 → MayAppendGroup l.end added → AddsFrontOf l.told new l.end added → CrashesRecords l.told new l.end added → KeepsOrAdds b.told new added
written_safely laws b l end rs added new is keeps format may front crashes = safely laws b.told l.told new l.end rs added is.held keeps is.holds format may front crashes

-- what was written, or begun, is a front of the append
pub written_front : (l k : LogState) (added : List Record) → IsWritten l k added → AddsFrontOf l.told k.told l.end added
written_front l k added w = (append_ops l.end (spelled added), [], sym (append-nil (append_ops l.end (spelled added))), w.adds)

pub not_written_front : (l k : LogState) (added : List Record) (answer : LogsNo) → IsNotWritten l k added answer → AddsFrontOf l.told k.told l.end added
not_written_front l k added answer w = elim (w.why) [
  | inl memory ↦ ([], append_ops l.end (spelled added), refl, adds_nothing l.told k.told memory.1.told)
  | inr device ↦ (device.3.0, device.3.1.left, device.3.1.whole, device.3.2)
]
