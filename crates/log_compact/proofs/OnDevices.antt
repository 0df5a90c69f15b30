-- What the devices hold at each moment of compacting, from what each clearing, each upgrade and the append leave.
use Rattle.std.proofs.Common.{◌≡◌, ◌≢◌, ℕ, ◌⊎◌, inl, inr, Bool, true, false, List, [], ◌++◌, refl, sym, ap, subst, ◌∙◌, append_assoc, append-nil}
use Rattle.std.specs.Prelude.{◌==◌, if◌then◌else◌}
use Rattle.std.proofs.lemmas.Bool.{cases_Bool, eqb-true, eqb-false}
use Rattle.snap_outside.specs.declared.devices.DevOp.{DevOp}
use Rattle.snap_outside.specs.Disk.{DeviceHistory, Disk, disk, disk_after, content, settled, with_ops, IsImage, EachMoment}
use Rattle.snap_outside.specs.Moments.{disk_join, moment_between, moments_join, moments_weaker}
use Rattle.gate_log.specs.Appends.{clear_ops, upgrade_ops, upgrading_ops, end_behind}
use Rattle.gate_log.specs.Bytes.{FIRST_GATE, IsLog, format_in}
use Rattle.gate_log.specs.Device.{DeviceLog}
use Rattle.gate_log.specs.LogLaws.{LogAtIsLog, AppendGives, AppendKeeps, UpgradeGives, UpgradeKeeps, ClearGives, ClearKeeps}
use Rattle.txn_records.specs.declared.records.Record.{Record}
use Rattle.record_log.specs.Growth.{MayAppendGroup}
use Rattle.record_log.specs.Records.{spelled, HoldsRecords}
use Rattle.log_compact.specs.Compacting.{other_side, IsOnSide, group_for, CompactingKeeps}
use Rattle.log_compact.specs.OnDevices.{Held, OpenDevice, open_on, IsFront, cleared_ops, ready_ops, group_ops, IsMadeReady, AreImages, records_on, HoldMoment, ImagesHoldMoments, CrashedCompactionFolds}
use Rattle.log_compact.proofs.Moments.{side_of, side_used, on_side, other_on}

-- what the levels below promise of one log
pub record LogsStand : Type 0 where
  pub settles : (bytes image : List ℕ) → IsImage (settled bytes) image → image ≡ bytes
  pub lists : LogAtIsLog
  pub clears : ClearGives
  pub clear_keeps : ClearKeeps
  pub upgrades : UpgradeGives
  pub upgrade_keeps : UpgradeKeeps
  pub appends : AppendGives
  pub append_keeps : AppendKeeps

-- ---- one device

abbrev open_of : Held → OpenDevice
open_of x = record { history = x.history; end = x.end }

-- what holds at each moment of some operations holds behind each front of them
pub at_front : (d : Disk) (made ops : List DevOp) (P : List ℕ → Type 0) (image : List ℕ) → EachMoment d ops P → IsFront made ops → IsImage (disk_after made d) image → P image
at_front d made ops P image each front left = moment_between d made front.0 P (subst (λ z. EachMoment d z P) front.1 each) image left

-- the disk of a history that has some operations more
pub disk_with : (h : DeviceHistory) (ops : List DevOp) → disk (with_ops h ops) ≡ disk_after ops (disk h)
disk_with h ops = disk_join h.ops ops (settled h.first)

pub with_both : (h : DeviceHistory) (xs ys : List DevOp) → with_ops (with_ops h xs) ys ≡ with_ops h (xs ++ ys)
with_both h xs ys = ap (λ z. record { first = h.first; ops = z }) (append_assoc h.ops xs ys)

-- a device on which nothing is loose is left its log
pub quiet_image : LogsStand → (h : DeviceHistory) (end : ℕ) (items : List (List ℕ)) → DeviceLog h end items → (image : List ℕ) → IsImage (disk h) image → IsLog image items
quiet_image laws h end items log image left = subst (λ z. IsLog z items) (sym (laws.settles (content h) image (subst (λ d. IsImage d image) log.quiet left))) (laws.lists (content h) end items log.log)

-- behind these operations it is a log of these items
left_image : LogsStand → (h : DeviceHistory) (ops made : List DevOp) (end : ℕ) (items : List (List ℕ)) → DeviceLog (with_ops h ops) end items → made ≡ ops → (image : List ℕ) → IsImage (disk_after made (disk h)) image → IsLog image items
left_image laws h ops made end items log e image left = quiet_image laws (with_ops h ops) end items log image (subst (λ z. IsImage z image) (ap (λ z. disk_after z (disk h)) e ∙ sym (disk_with h ops)) left)

-- nothing was made of it
still : LogsStand → (x : Held) (made : List DevOp) (image : List ℕ) → made ≡ [] → IsImage (disk_after made (disk x.history)) image → HoldsRecords image x.records
still laws x made image e left = record { log = quiet_image laws x.history x.end (spelled x.records) x.holds.log image (subst (λ z. IsImage (disk_after z (disk x.history)) image) e left); each = x.holds.each }

old_or_none : (x : Held) (image : List ℕ) → IsLog image (spelled x.records) ⊎ IsLog image [] → HoldsRecords image x.records ⊎ HoldsRecords image []
old_or_none x image (inl l) = inl (record { log = l; each = x.holds.each })
old_or_none x image (inr l) = inr (record { log = l; each = tt })

-- it is being cleared
clearing : LogsStand → (x : Held) (made : List DevOp) (image : List ℕ) → IsFront made (cleared_ops (open_of x)) → IsImage (disk_after made (disk x.history)) image → HoldsRecords image x.records ⊎ HoldsRecords image []
clearing laws x made image front left = old_or_none x image (at_front (disk x.history) made (clear_ops x.end) (λ z. IsLog z (spelled x.records) ⊎ IsLog z []) image (laws.clear_keeps x.history x.end (spelled x.records) x.holds.log) front left)

-- a log of no item is made one of format 2
upgraded : LogsStand → (b : Bool) (h : DeviceHistory) (end : ℕ) → DeviceLog h end [] → DeviceLog (with_ops h (if b then upgrade_ops else [])) end []
upgraded laws true h end log = (laws.upgrades h end [] log).0
upgraded laws false h end log = subst (λ z. DeviceLog (record { first = h.first; ops = z }) end []) (sym (append-nil h.ops)) log

upgrading : LogsStand → (b : Bool) (h : DeviceHistory) (end : ℕ) → DeviceLog h end [] → EachMoment (disk h) (if b then upgrade_ops else []) (λ z. IsLog z [])
upgrading laws true h end log = laws.upgrade_keeps h end [] log
upgrading laws false h end log = λ image left. quiet_image laws h end [] log image left

-- it is being cleared, and then made one of format 2
pub making_ready : LogsStand → (x : Held) (made : List DevOp) (image : List ℕ) → IsFront made (ready_ops (open_of x)) → IsImage (disk_after made (disk x.history)) image → HoldsRecords image x.records ⊎ HoldsRecords image []
making_ready laws x made image front left = old_or_none x image (at_front (disk x.history) made (ready_ops (open_of x)) (λ z. IsLog z (spelled x.records) ⊎ IsLog z []) image all front left)
  where
    closed : DeviceLog (with_ops x.history (clear_ops x.end)) FIRST_GATE []
    closed = laws.clears x.history x.end (spelled x.records) x.holds.log

    all : EachMoment (disk x.history) (ready_ops (open_of x)) (λ z. IsLog z (spelled x.records) ⊎ IsLog z [])
    all = moments_join (disk x.history) (clear_ops x.end) (upgrading_ops (content x.history)) (λ z. IsLog z (spelled x.records) ⊎ IsLog z [])
        (laws.clear_keeps x.history x.end (spelled x.records) x.holds.log)
        (subst (λ d. EachMoment d (upgrading_ops (content x.history)) (λ z. IsLog z (spelled x.records) ⊎ IsLog z [])) (disk_with x.history (clear_ops x.end))
        (moments_weaker (λ z. IsLog z []) (λ z. IsLog z (spelled x.records) ⊎ IsLog z []) (λ z l. inr l) (disk (with_ops x.history (clear_ops x.end))) (upgrading_ops (content x.history))
        (upgrading laws (format_in (content x.history) == 1) (with_ops x.history (clear_ops x.end)) FIRST_GATE closed)))

-- it is cleared, and of format 2
pub ready_log : LogsStand → (x : OpenDevice) (items : List (List ℕ)) → DeviceLog x.history x.end items → DeviceLog (with_ops x.history (ready_ops x)) FIRST_GATE []
ready_log laws x items log =
    subst (λ z. DeviceLog z FIRST_GATE []) (with_both x.history (clear_ops x.end) (upgrading_ops (content x.history)))
    (upgraded laws (format_in (content x.history) == 1) (with_ops x.history (clear_ops x.end)) FIRST_GATE (laws.clears x.history x.end items log))

pub ready : LogsStand → (x : Held) → DeviceLog (with_ops x.history (ready_ops (open_of x))) FIRST_GATE []
ready laws x = ready_log laws (open_of x) (spelled x.records) x.holds.log

pub made_ready : LogsStand → (x : Held) (made : List DevOp) (image : List ℕ) → made ≡ ready_ops (open_of x) → IsImage (disk_after made (disk x.history)) image → HoldsRecords image []
made_ready laws x made image e left = record { log = left_image laws x.history (ready_ops (open_of x)) made FIRST_GATE [] (ready laws x) e image left; each = tt }

-- the group is being appended to it
appending : LogsStand → (x : Held) (made front : List DevOp) (group : List Record) (image : List ℕ) → MayAppendGroup FIRST_GATE group → IsFront front (group_ops group) → made ≡ ready_ops (open_of x) ++ front → IsImage (disk_after made (disk x.history)) image
    → HoldsRecords image [] ⊎ HoldsRecords image group
appending laws x made front group image may some e left =
    let h = with_ops x.history (ready_ops (open_of x)) in
    none_or_group (at_front (disk (with_ops x.history (ready_ops (open_of x)))) front (group_ops group) (λ z. IsLog z [] ⊎ IsLog z (spelled group)) image
    (laws.append_keeps (with_ops x.history (ready_ops (open_of x))) FIRST_GATE [] (spelled group) may.may (ready laws x)) some
    (subst (λ z. IsImage z image) (ap (λ z. disk_after z (disk x.history)) e ∙ (disk_join (ready_ops (open_of x)) front (disk x.history) ∙ ap (disk_after front) (sym (disk_with x.history (ready_ops (open_of x)))))) left))
  where
    none_or_group : IsLog image [] ⊎ IsLog image (spelled group) → HoldsRecords image [] ⊎ HoldsRecords image group
    none_or_group (inl l) = inl (record { log = l; each = tt })
    none_or_group (inr l) = inr (record { log = l; each = may.records })

-- and the group is appended
pub group_log : LogsStand → (x : OpenDevice) (items : List (List ℕ)) (group : List Record) → MayAppendGroup FIRST_GATE group → DeviceLog x.history x.end items
    → DeviceLog (with_ops x.history (ready_ops x ++ group_ops group)) (end_behind FIRST_GATE (spelled group)) (spelled group)
group_log laws x items group may log =
    subst (λ z. DeviceLog z (end_behind FIRST_GATE (spelled group)) (spelled group)) (with_both x.history (ready_ops x) (group_ops group))
    (laws.appends (with_ops x.history (ready_ops x)) FIRST_GATE [] (spelled group) may.may (ready_log laws x items log))

appended : LogsStand → (x : Held) (made : List DevOp) (group : List Record) (image : List ℕ) → MayAppendGroup FIRST_GATE group → made ≡ ready_ops (open_of x) ++ group_ops group → IsImage (disk_after made (disk x.history)) image → HoldsRecords image group
appended laws x made group image may e left = record {
  log = left_image laws x.history (ready_ops (open_of x) ++ group_ops group) made (end_behind FIRST_GATE (spelled group)) (spelled group)
      (group_log laws (open_of x) (spelled x.records) group may x.holds.log) e image left;
  each = may.records;
}

-- ---- all of them

-- what one device is left with
record Out (image : List ℕ) (P : List Record → Type 0) : Type 0 where
  records : List Record
  is_log : HoldsRecords image records
  fits : P records

abbrev FitsReady : (ℕ → Held) → (other logs d : ℕ) → IsOnSide other logs d ⊎ ¬ IsOnSide other logs d → List Record → Type 0
FitsReady devices other logs d (inl on) records = (records ≡ (devices d).records) ⊎ (records ≡ [])
FitsReady devices other logs d (inr off) records = records ≡ (devices d).records

abbrev FitsBefore : (ℕ → Held) → (other logs d : ℕ) → IsOnSide other logs d ⊎ ¬ IsOnSide other logs d → List Record → Type 0
FitsBefore devices other logs d (inl on) records = records ≡ []
FitsBefore devices other logs d (inr off) records = records ≡ (devices d).records

either_log : (image : List ℕ) (old : List Record) → HoldsRecords image old ⊎ HoldsRecords image [] → Out image (λ records. (records ≡ old) ⊎ (records ≡ []))
either_log image old (inl l) = record { records = old; is_log = l; fits = inl refl }
either_log image old (inr l) = record { records = []; is_log = l; fits = inr refl }

hold_ready : LogsStand → (devices : ℕ → Held) (made : ℕ → List DevOp) (head other logs : ℕ) (group : List Record) (images : ℕ → List ℕ) → IsMadeReady (open_on devices) made other logs → AreImages devices made images → HoldMoment devices head other logs group images
hold_ready laws devices made head other logs group images c left = record {
  now = λ d. (out d (on_side other logs d)).records;
  are_logs = λ d. (out d (on_side other logs d)).is_log;
  moment = inl (record { cleared = λ d on. side d on (on_side other logs d); same = λ d off. away d off (on_side other logs d) });
}
  where
    out : (d : ℕ) (s : IsOnSide other logs d ⊎ ¬ IsOnSide other logs d) → Out (images d) (FitsReady devices other logs d s)
    out d (inl on) = either_log (images d) (devices d).records (making_ready laws (devices d) (made d) (images d) (c.side d on) (left d))
    out d (inr off) = record { records = (devices d).records; is_log = still laws (devices d) (made d) (images d) (c.rest d off) (left d); fits = refl }

    side : (d : ℕ) → IsOnSide other logs d → (s : IsOnSide other logs d ⊎ ¬ IsOnSide other logs d) → ((out d s).records ≡ (devices d).records) ⊎ ((out d s).records ≡ [])
    side d on (inl q) = (out d (inl q)).fits
    side d on (inr q) = absurd (q on)

    away : (d : ℕ) → ¬ IsOnSide other logs d → (s : IsOnSide other logs d ⊎ ¬ IsOnSide other logs d) → (out d s).records ≡ (devices d).records
    away d off (inl q) = absurd (off q)
    away d off (inr q) = (out d (inr q)).fits

-- where the devices are, for one that is on no side, on a side, or the first of the other one
data Spot (head other logs d : ℕ) : Type 0 where
  First : d ≡ other → Spot head other logs d
  Other : IsOnSide other logs d → d ≢ other → Spot head other logs d
  Old : ¬ IsOnSide other logs d → IsOnSide head logs d → Spot head other logs d
  Away : ¬ IsOnSide other logs d → ¬ IsOnSide head logs d → Spot head other logs d

abbrev FitsBehind : (ℕ → Held) → (head other logs : ℕ) → List Record → (d : ℕ) → Spot head other logs d → List Record → Type 0
FitsBehind devices head other logs group d (First e) records = records ≡ group
FitsBehind devices head other logs group d (Other a n) records = records ≡ []
FitsBehind devices head other logs group d (Old a b) records = (records ≡ (devices d).records) ⊎ (records ≡ [])
FitsBehind devices head other logs group d (Away a b) records = records ≡ (devices d).records

spot : (head other logs d : ℕ) → IsOnSide other logs other → Spot head other logs d
spot head other logs d o = by (cases_Bool (d == other)) (on_side other logs d) (on_side head logs d)
  where
    by : ((d == other) ≡ true) ⊎ ((d == other) ≡ false) → IsOnSide other logs d ⊎ ¬ IsOnSide other logs d → IsOnSide head logs d ⊎ ¬ IsOnSide head logs d → Spot head other logs d
    by (inl e) a b = First (eqb-true d other e)
    by (inr e) (inl a) b = Other a (eqb-false d other e)
    by (inr e) (inr a) (inl b) = Old a b
    by (inr e) (inr a) (inr b) = Away a b

not_first : (other logs d : ℕ) → IsOnSide other logs other → ¬ IsOnSide other logs d → d ≡ other → ⊥
not_first other logs d o off e = off (subst (IsOnSide other logs) (sym e) o)

-- the group is there, and the old side is being cleared
hold_behind : (devices : ℕ → Held) (made : ℕ → List DevOp) (head other logs : ℕ) (group : List Record) (images : ℕ → List ℕ) → IsOnSide other logs other
    → HoldsRecords (images other) group → ((d : ℕ) → IsOnSide other logs d → d ≢ other → HoldsRecords (images d) [])
    → ((d : ℕ) → ¬ IsOnSide other logs d → IsOnSide head logs d → HoldsRecords (images d) (devices d).records ⊎ HoldsRecords (images d) [])
    → ((d : ℕ) → ¬ IsOnSide other logs d → ¬ IsOnSide head logs d → HoldsRecords (images d) (devices d).records) → ((d : ℕ) → IsOnSide head logs d → ¬ IsOnSide other logs d) → HoldMoment devices head other logs group images
hold_behind devices made head other logs group images o there empty old rest apart = record {
  now = λ d. (out d (spot head other logs d o)).records;
  are_logs = λ d. (out d (spot head other logs d o)).is_log;
  moment = inr (record {
    there = at_first other refl (spot head other logs other o);
    empty = λ d on n. at_other d on n (spot head other logs d o);
    cleared = λ d on. at_old d (apart d on) on (spot head other logs d o);
    same = λ d off away. at_away d off away (spot head other logs d o);
  });
}
  where
    out : (d : ℕ) (s : Spot head other logs d) → Out (images d) (FitsBehind devices head other logs group d s)
    out d (First e) = record { records = group; is_log = subst (λ z. HoldsRecords (images z) group) (sym e) there; fits = refl }
    out d (Other a n) = record { records = []; is_log = empty d a n; fits = refl }
    out d (Old a b) = either_log (images d) (devices d).records (old d a b)
    out d (Away a b) = record { records = (devices d).records; is_log = rest d a b; fits = refl }

    at_first : (d : ℕ) → d ≡ other → (s : Spot head other logs d) → (out d s).records ≡ group
    at_first d e (First q) = (out d (First q)).fits
    at_first d e (Other a n) = absurd (n e)
    at_first d e (Old a b) = absurd (not_first other logs d o a e)
    at_first d e (Away a b) = absurd (not_first other logs d o a e)

    at_other : (d : ℕ) → IsOnSide other logs d → d ≢ other → (s : Spot head other logs d) → (out d s).records ≡ []
    at_other d on n (First q) = absurd (n q)
    at_other d on n (Other a m) = (out d (Other a m)).fits
    at_other d on n (Old a b) = absurd (a on)
    at_other d on n (Away a b) = absurd (a on)

    at_old : (d : ℕ) → ¬ IsOnSide other logs d → IsOnSide head logs d → (s : Spot head other logs d) → ((out d s).records ≡ (devices d).records) ⊎ ((out d s).records ≡ [])
    at_old d off on (First q) = absurd (not_first other logs d o off q)
    at_old d off on (Other a m) = absurd (off a)
    at_old d off on (Old a b) = (out d (Old a b)).fits
    at_old d off on (Away a b) = absurd (b on)

    at_away : (d : ℕ) → ¬ IsOnSide other logs d → ¬ IsOnSide head logs d → (s : Spot head other logs d) → (out d s).records ≡ (devices d).records
    at_away d off away (First q) = absurd (not_first other logs d o off q)
    at_away d off away (Other a m) = absurd (off a)
    at_away d off away (Old a b) = absurd (away b)
    at_away d off away (Away a b) = (out d (Away a b)).fits

-- before the group is there, the first log of the other side being empty
hold_before : (devices : ℕ → Held) (head other logs : ℕ) (group : List Record) (images : ℕ → List ℕ) → ((d : ℕ) → IsOnSide other logs d → HoldsRecords (images d) []) → ((d : ℕ) → ¬ IsOnSide other logs d → HoldsRecords (images d) (devices d).records) → HoldMoment devices head other logs group images
hold_before devices head other logs group images empty rest = record {
  now = λ d. (out d (on_side other logs d)).records;
  are_logs = λ d. (out d (on_side other logs d)).is_log;
  moment = inl (record { cleared = λ d on. inr (side d on (on_side other logs d)); same = λ d off. away d off (on_side other logs d) });
}
  where
    out : (d : ℕ) (s : IsOnSide other logs d ⊎ ¬ IsOnSide other logs d) → Out (images d) (FitsBefore devices other logs d s)
    out d (inl on) = record { records = []; is_log = empty d on; fits = refl }
    out d (inr off) = record { records = (devices d).records; is_log = rest d off; fits = refl }

    side : (d : ℕ) → IsOnSide other logs d → (s : IsOnSide other logs d ⊎ ¬ IsOnSide other logs d) → (out d s).records ≡ []
    side d on (inl q) = (out d (inl q)).fits
    side d on (inr q) = absurd (q on)

    away : (d : ℕ) → ¬ IsOnSide other logs d → (s : IsOnSide other logs d ⊎ ¬ IsOnSide other logs d) → (out d s).records ≡ (devices d).records
    away d off (inl q) = absurd (off q)
    away d off (inr q) = (out d (inr q)).fits

-- of each device that is cleared, with the first of the other side
all_empty : (other logs : ℕ) (images : ℕ → List ℕ) → HoldsRecords (images other) [] → ((d : ℕ) → IsOnSide other logs d → d ≢ other → HoldsRecords (images d) []) → (d : ℕ) → IsOnSide other logs d → HoldsRecords (images d) []
all_empty other logs images first rest d on = elim (cases_Bool (d == other)) [ inl e ↦ subst (λ z. HoldsRecords (images z) []) (sym (eqb-true d other e)) first | inr e ↦ rest d on (eqb-false d other e) ]

pub images_hold : LogsStand → ImagesHoldMoments
images_hold laws devices made head other logs group images apart o may (inl c) left = hold_ready laws devices made head other logs group images c left
images_hold laws devices made head other logs group images apart o may (inr (inl a)) left = by (appending laws (devices other) (made other) a.front group (images other) may a.some a.first (left other))
  where
    empty : (d : ℕ) → IsOnSide other logs d → d ≢ other → HoldsRecords (images d) []
    empty d on n = made_ready laws (devices d) (made d) (images d) (a.side d on n) (left d)

    rest : (d : ℕ) → ¬ IsOnSide other logs d → HoldsRecords (images d) (devices d).records
    rest d off = still laws (devices d) (made d) (images d) (a.rest d off) (left d)

    by : HoldsRecords (images other) [] ⊎ HoldsRecords (images other) group → HoldMoment devices head other logs group images
    by (inl l) = hold_before devices head other logs group images (all_empty other logs images l empty) rest
    by (inr l) = hold_behind devices made head other logs group images o l empty (λ d off on. inl (rest d off)) (λ d off away. rest d off) apart
images_hold laws devices made head other logs group images apart o may (inr (inr c)) left =
    hold_behind devices made head other logs group images o (appended laws (devices other) (made other) group (images other) may c.first (left other))
    (λ d on n. made_ready laws (devices d) (made d) (images d) (c.side d on n) (left d))
    (λ d off on. clearing laws (devices d) (made d) (images d) (c.old d off on) (left d))
    (λ d off away. still laws (devices d) (made d) (images d) (c.rest d off away) (left d)) apart

-- ---- what is folded

pub crashed_folds : CompactingKeeps → ImagesHoldMoments → CrashedCompactionFolds
crashed_folds keeps holds devices made head logs f images m may made_is left =
    let h = holds devices made head (other_side head logs) logs (group_for logs f) images (side_of head logs (side_used (records_on devices) 1 head logs f.generation m.used) m.some) (other_on head logs m.some) may made_is left in
    record { now = h.now; are_logs = h.are_logs; folds = keeps (records_on devices) h.now head logs f m h.moment }
