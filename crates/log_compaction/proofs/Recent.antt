-- What a crash in a compaction leaves of the logs in use is of no older format than they were.
use Rattle.std.proofs.Common.{◌≡◌, ◌≢◌, ℕ, ◌+◌, ◌<◌, ◌≤◌, inl, inr, Bool, true, false, List, [], ◌++◌, length, append-nil, append_assoc, refl, sym, ◌∙◌, ap, subst, arith, Option, Some}
use Rattle.std.specs.Prelude.{◌⊎◌, ◌==◌, if◌then◌else◌, IfSome}
use Rattle.std.specs.List.{AllZip}
use Rattle.std.proofs.lemmas.Bool.{cases_Bool, cases_lt, eqb-true, eqb-false, lt-leb}
use Rattle.snap_outside.specs.declared.devices.DevOp.{DevOp}
use Rattle.snap_outside.specs.Disk.{DeviceHistory, Disk, disk, disk_after, content, settled, with_ops, IsImage}
use Rattle.snap_outside.specs.Moments.{disk_join}
use Rattle.gate_log.specs.declared.limits.TheConstants.{NEW_LOG_SIZE}
use Rattle.gate_log.specs.declared.logs.LogItem.{LogItem}
use Rattle.gate_log.specs.Appends.{clear_ops, upgrade_ops, upgrading_ops}
use Rattle.gate_log.specs.Bytes.{FIRST_GATE, IsLog, IsLogAt, IsOld, format_in, marked_format, placed_groups}
use Rattle.gate_log.specs.Device.{HasFormat}
use Rattle.gate_log.specs.LogLaws.{AppendKeepsMark, BeginningKeepsRecent, BeginningMakesSecond, ClearKeepsFormat, ClearKeepsMark, MarkedIsSecond, OneList, OpeningKeepsFormat}
use Rattle.gate_log.specs.Opened.{Opened, beginning_ops, opening_ops}
use Rattle.gate_log.proofs.Openings.{long_ops, short_ops}
use Rattle.txn_records.specs.declared.records.Record.{Record}
use Rattle.record_log.specs.Growth.{MayAppendGroup}
use Rattle.record_log.specs.Records.{HoldsRecords, spelled}
use Rattle.record_log.proofs.Holding.{bare}
use Rattle.log_compact.specs.declared.folds.Folded.{Folded}
use Rattle.log_compact.specs.Compacting.{AreSameOrNext, IsOnSide, group_for, other_side}
use Rattle.log_compact.specs.Finding.{IsUsed}
use Rattle.log_compact.specs.OnDevices.{AreMade, Held, IsFront, OpenDevice, cleared_ops, group_ops, ready_ops}
use Rattle.log_compact.specs.Sets.{IsHead, generation_of}
use Rattle.log_compact.proofs.Moments.{kept_head, side_of, side_used}
use Rattle.log_compact.proofs.OnDevices.{LogsStand, at_front, disk_with, made_ready, making_ready, ready, with_both}
use Rattle.log_opening.specs.Cuts.{AreRecent}
use Rattle.log_opening.specs.Devices.{Device, HoldNoOld}
use Rattle.log_opening.specs.Found.{IsTouched}
use Rattle.log_opening.specs.Kept.{AreFolded}
use Rattle.log_opening.proofs.Opening.{touched_safe}
use Rattle.log_compaction.specs.Compacted.{IsUnspentFold}
use Rattle.log_compaction.specs.Crashes.{CrashInCompaction, FoldsAgain, IsOpenAs}
use Rattle.log_compaction.specs.Steps.{GuardedIsSafe}
use Rattle.log_compaction.proofs.InUse.{CrashLaws, some, used_fold, within}
use Rattle.log_compaction.proofs.Safe.{begun_folds, disk_open, durable, held_at, holds, left, left_open, none_spent, opening_leaves, own_image, same_numbers, told, touched_folds, touched_front}

-- what the logs promise of marks
pub record MarkLaws : Type 0 where
  pub stand : LogsStand
  pub begins_recent : BeginningKeepsRecent
  pub begins_second : BeginningMakesSecond
  pub opening_format : OpeningKeepsFormat
  pub clear_format : ClearKeepsFormat
  pub clear_mark : ClearKeepsMark
  pub append_mark : AppendKeepsMark
  pub second : MarkedIsSecond

-- ---- bytes

-- the mark of a log with items tells its format
long_format : (bytes : List ℕ) (items : List (List ℕ)) → IsLog bytes items → items ≢ [] → format_in bytes ≡ marked_format bytes
long_format bytes items (inl short) full = absurd (full short.1)
long_format bytes items (inr long) full = ap (λ (b : Bool). if b then 2 else marked_format bytes) (lt-leb (length bytes) NEW_LOG_SIZE long.0)

-- the same items, or none, behind the same mark
same_mark_recent : OneList → (bytes image : List ℕ) (items : List (List ℕ)) → IsLog bytes items → marked_format image ≡ marked_format bytes → IsLog image items ⊎ IsLog image [] → ¬ IsOld bytes → ¬ IsOld image
same_mark_recent list bytes image items log mark (inr none) recent = bare list image none
same_mark_recent list bytes image items log mark (inl same) recent = λ old.
    let is : old.0 ≡ items = list image old.0 items old.1.0 same in
    let here : IsLog bytes old.0 = subst (λ (xs : List (List ℕ)). IsLog bytes xs) (sym is) log in
    recent (old.0, (here, old.1.1 ∙ (long_format image old.0 old.1.0 old.2 ∙ (mark ∙ sym (long_format bytes old.0 here old.2)))), old.2)

marked_recent : MarkedIsSecond → (image : List ℕ) → marked_format image ≡ 2 → ¬ IsOld image
marked_recent second image mark = λ old. let one : 1 ≡ 2 = old.1.1 ∙ second image mark in absurd (omega (arith, one))

-- ---- a device that is opened

log_of_long : (bytes : List ℕ) (items : List (List ℕ)) → NEW_LOG_SIZE < length bytes → IsLog bytes items → (end : ℕ) × IsLogAt bytes end items
log_of_long bytes items long (inl short) = absurd (omega (arith, long, short.0))
log_of_long bytes items long (inr log) = log.1

-- opening finds the log that is there
opened_by : (h : DeviceHistory) (items : List (List ℕ)) → IsLog (content h) items → (end : ℕ) × (found : List LogItem) × Opened (Some h) (Some (with_ops h (opening_ops (content h)))) end found
opened_by h items log = elim (cases_lt NEW_LOG_SIZE (length (content h))) [
  | inl long ↦
      let at = log_of_long (content h) items long log in
      let p = at.1.parts in (
        at.0,
        placed_groups 8 p.0,
        record {
          made = λ short. absurd (omega (arith, long, short));
          read = λ l. (record { mark = at.1.mark; parts = (p.0, p.1, p.2, p.3, p.4, p.5, p.6, refl) }, ap (λ (ops : List DevOp). Some (with_ops h ops)) (sym (long_ops (content h) long)));
        },
      )
  | inr short ↦ (
    8,
    [],
    record {
      made = λ s. (refl, refl, ap (λ (ops : List DevOp). Some (with_ops h ops)) (sym (short_ops (content h) short)));
      read = λ long. absurd (omega (arith, long, short));
    },
  )
]

module _ (marks : MarkLaws) (h : DeviceHistory) (items : List (List ℕ)) (log : IsLog (content h) items) where
  opening_recent : disk h ≡ settled (content h) → (made : List DevOp) (image : List ℕ) → IsFront made (opening_ops (content h)) → IsImage (disk_after made (disk h)) image → ¬ IsOld (content h) → ¬ IsOld image
  opening_recent quiet made image front is recent =
      let more = upgrading_ops (content h) in
      at_front (disk h) made (beginning_ops (content h)) (λ (z : List ℕ). ¬ IsOld z) image (marks.begins_recent h items quiet log recent)
      (front.0 ++ more, ap (λ (xs : List DevOp). xs ++ more) front.1 ∙ append_assoc made front.0 more) is

  -- where it is of format 2 its mark is so, too
  opened_mark : (g : DeviceHistory) → g ≡ with_ops h (opening_ops (content h)) → (format_in (content g) == 1) ≡ false → marked_format (content g) ≡ 2
  opened_mark g is other =
      let o = opened_by h items log in
      let opening = opening_ops (content h) in
      let same : format_in (content g) ≡ format_in (content h) = ap (λ (x : DeviceHistory). format_in (content x)) is ∙ marks.opening_format h (Some (with_ops h opening)) o.0 o.1 o.2 in
      let was : (format_in (content h) == 1) ≡ false = ap (λ (n : ℕ). n == 1) (sym same) ∙ other in
      let none : opening ++ upgrading_ops (content h) ≡ opening = ap (λ (b : Bool). opening ++ (if b then upgrade_ops else [])) was ∙ append-nil opening in
      ap (λ (x : DeviceHistory). marked_format (content x)) is ∙ ap (λ (ops : List DevOp). marked_format (content (with_ops h ops))) (sym none)
      ∙ marks.begins_second h (Some (with_ops h opening)) o.0 o.1 o.2

-- ---- one that is open

abbrev open_of : Held → OpenDevice
open_of x = record { history = x.history; end = x.end }

module _ (list : OneList) (marks : MarkLaws) (x : Held) where
  clearing_recent : (made : List DevOp) (image : List ℕ) → IsFront made (cleared_ops (open_of x)) → IsImage (disk_after made (disk x.history)) image → ¬ IsOld (content x.history) → ¬ IsOld image
  clearing_recent made image front is recent =
      let here : IsLog (content x.history) (spelled x.records) = marks.stand.lists (content x.history) x.end (spelled x.records) x.holds.log.log in
      same_mark_recent list (content x.history) image (spelled x.records) here
      (at_front (disk x.history) made (clear_ops x.end) (λ (z : List ℕ). marked_format z ≡ marked_format (content x.history)) image (marks.clear_mark x.history x.end (spelled x.records) x.holds.log) front is)
      (at_front (disk x.history) made (clear_ops x.end) (λ (z : List ℕ). IsLog z (spelled x.records) ⊎ IsLog z []) image (marks.stand.clear_keeps x.history x.end (spelled x.records) x.holds.log) front is)
      recent

  ready_second : ((format_in (content x.history) == 1) ≡ false → marked_format (content x.history) ≡ 2) → marked_format (content (with_ops x.history (ready_ops (open_of x)))) ≡ 2
  ready_second mark = by (format_in (content x.history) == 1) refl
    where
      closed : DeviceHistory
      closed = with_ops x.history (clear_ops x.end)

      by : (b : Bool) → (format_in (content x.history) == 1) ≡ b → marked_format (content (with_ops x.history (clear_ops x.end ++ (if b then upgrade_ops else [])))) ≡ 2
      by true e =
          subst (λ (g : DeviceHistory). marked_format (content g) ≡ 2) (with_both x.history (clear_ops x.end) upgrade_ops)
          (marks.stand.upgrades (with_ops x.history (clear_ops x.end)) FIRST_GATE [] (marks.stand.clears x.history x.end (spelled x.records) x.holds.log)).1
      by false e =
          let m : marked_format (content x.history) ≡ 2 = mark e in
          let has : HasFormat (Some x.history) 2 = (sym m, sym (marks.second (content x.history) m)) in
          subst (λ (ops : List DevOp). marked_format (content (with_ops x.history ops)) ≡ 2) (sym (append-nil (clear_ops x.end)))
          (sym (marks.clear_format x.history x.end 2 (spelled x.records) x.holds.log has).0)

  -- while the group is appended to it
  appending_recent : (made front : List DevOp) (group : List Record) (image : List ℕ) → ((format_in (content x.history) == 1) ≡ false → marked_format (content x.history) ≡ 2) → MayAppendGroup FIRST_GATE group → IsFront front (group_ops group)
      → made ≡ ready_ops (open_of x) ++ front → IsImage (disk_after made (disk x.history)) image → ¬ IsOld image
  appending_recent made front group image mark may so_far e is =
      let g = with_ops x.history (ready_ops (open_of x)) in
      let there : IsImage (disk_after front (disk g)) image =
      subst (λ (z : Disk). IsImage z image) (ap (λ (z : List DevOp). disk_after z (disk x.history)) e ∙ (disk_join (ready_ops (open_of x)) front (disk x.history) ∙ ap (disk_after front) (sym (disk_with x.history (ready_ops (open_of x)))))) is in
      marked_recent marks.second image
      (at_front (disk g) front (group_ops group) (λ (z : List ℕ). marked_format z ≡ marked_format (content g)) image (marks.append_mark g FIRST_GATE [] (spelled group) may.may (ready marks.stand x)) so_far there
      ∙ ready_second mark)

-- ---- which logs are in use then

-- where the first log of the other side holds what it held, or none, it is not the head of a later generation
not_later : (devices now : ℕ → List Record) (head other logs generation : ℕ) → IsUsed devices 1 head logs generation → IsUsed now 1 other logs (generation + 1) → (now other ≡ devices other) ⊎ (now other ≡ []) → ⊥
not_later devices now head other logs generation was (inr none) either = omega (arith, none.3)
not_later devices now head other logs generation was (inl s) either = by was
  where
    same : now other ≡ devices other
    same = kept_head devices now other logs s.first either s.is_head

    there : IsHead other (devices other) logs s.first
    there = subst (λ (l : List Record). IsHead other l logs s.first) same s.is_head

    its : generation + 1 ≡ generation_of (devices other)
    its = s.its ∙ ap generation_of same

    by : IsUsed devices 1 head logs generation → ⊥
    by (inl set) = elim (set.greatest other logs s.first there) [ inl less ↦ omega (arith, less, its) | inr equal ↦ omega (arith, equal.0, its) ]
    by (inr none) = none.0 other logs s.first there

-- ---- a crash

module _ (laws : CrashLaws) (marks : MarkLaws) (before after : List Device) (a : AreFolded before) (held : ℕ → List Record) (images : ℕ → List ℕ) (crash : CrashInCompaction before after a.head (length a.lists) a.fold held images) (again : FoldsAgain held a.head (length a.lists) a.fold images) (was : HoldNoOld a.head (length a.lists) before) where
  abbrev other : ℕ
  other = other_side a.head (length a.lists)

  abbrev here : (d : ℕ) → d < 4 → HoldsRecords (content (crash.histories d)) (held d)
  here = holds laws before after a held images crash

  used : IsUsed held 1 a.head (length a.lists) a.fold.generation
  used = used_fold laws before crash.histories (told laws before after a held images crash) held here a

  low : (l : ℕ) → l < length a.lists → a.head + l < 4
  low l lt = omega (arith, lt, within laws before crash.histories (told laws before after a held images crash) held here a)

  was_at : (l : ℕ) → l < length a.lists → ¬ IsOld (content (crash.histories (a.head + l)))
  was_at l lt = subst (λ (t : Option DeviceHistory). IfSome t (λ h. ¬ IsOld (content h))) (told laws before after a held images crash (a.head + l) (low l lt)) (was l lt)

  -- the head is one of the four
  head_within : again.head < 4
  head_within = by again.used
    where
      by : IsUsed again.now 1 again.head (length a.lists) again.fold.generation → again.head < 4
      by (inl set) = omega (arith, set.is_head.low)
      by (inr none) = omega (arith, none.1)

  -- what the first log of the other side is left with
  not_next : again.head ≡ other → again.fold.generation ≡ a.fold.generation + 1 → HoldsRecords (images other) (held other) ⊎ HoldsRecords (images other) [] → ⊥
  not_next is later either =
      let lt : other_side a.head (length a.lists) < 4 = subst (λ (d : ℕ). d < 4) is head_within in
      not_later held again.now a.head other (length a.lists) a.fold.generation used
      (subst (λ (d : ℕ). IsUsed again.now 1 d (length a.lists) (a.fold.generation + 1)) is (subst (λ (n : ℕ). IsUsed again.now 1 again.head (length a.lists) n) later again.used))
      (elim either [
        | inl same ↦ inl (laws.records (images other) (again.now other) (held other) (again.holds other lt) same)
        | inr none ↦ inr (laws.records (images other) (again.now other) [] (again.holds other lt) none)
      ])

  -- the logs in use are the same, or those of the other side
  recent_by : ((l : ℕ) → l < length a.lists → ¬ IsOld (images (a.head + l))) → (again.head ≡ other → again.fold.generation ≡ a.fold.generation + 1 → AreRecent images other (length a.lists)) → AreRecent images again.head (length a.lists)
  recent_by own next = by again.which
    where
      by : AreSameOrNext held again.now a.head again.head (length a.lists) a.fold again.fold → AreRecent images again.head (length a.lists)
      by (inl same) = subst (λ (d : ℕ). AreRecent images d (length a.lists)) (sym same.0) own
      by (inr on) = subst (λ (d : ℕ). AreRecent images d (length a.lists)) (sym on.0) (next on.0 on.1)

  -- all are being opened
  opening_again : ((d : ℕ) → d < 4 → IsFront (crash.made d) (opening_ops (content (crash.histories d)))) → AreRecent images again.head (length a.lists)
  opening_again front = recent_by own next
    where
      own : (l : ℕ) → l < length a.lists → ¬ IsOld (images (a.head + l))
      own l lt =
          let d : ℕ = a.head + l in
          let few = low l lt in
          opening_recent marks (crash.histories (a.head + l)) (spelled (held (a.head + l))) (here (a.head + l) few).log (durable laws before after a held images crash (a.head + l) few) (crash.made (a.head + l)) (images (a.head + l))
          (front (a.head + l) few) (left laws before after a held images crash (a.head + l) few) (was_at l lt)

      next : again.head ≡ other → again.fold.generation ≡ a.fold.generation + 1 → AreRecent images other (length a.lists)
      next is later =
          let lt : other_side a.head (length a.lists) < 4 = subst (λ (d : ℕ). d < 4) is head_within in
          absurd (not_next is later (inl (record {
            log = opening_leaves laws before after a held images crash other lt (crash.made other) (images other) (front other lt) (left laws before after a held images crash other lt);
            each = (here other lt).each;
          })))

  pub touched_recent : AllZip IsTouched before after → AreRecent images again.head (length a.lists)
  touched_recent all = opening_again (touched_front laws before after a held images crash all)

  -- all are open, and the logs in use are being compacted
  module _ (few : length a.lists ≤ 2) (unspent : IsUnspentFold a.fold) (devices : ℕ → OpenDevice) (more : ℕ → List DevOp) (open_as : (d : ℕ) → d < 4 → IsOpenAs (crash.histories d) (devices d) × (crash.made d ≡ opening_ops (content (crash.histories d)) ++ more d)) (moment : AreMade devices more a.head (other_side a.head (length a.lists)) (length a.lists) (group_for (length a.lists) a.fold)) where
    abbrev device : (d : ℕ) → d < 4 → Held
    device = held_at laws before after a held images crash few unspent devices more open_as moment

    is_left : (d : ℕ) → d < 4 → IsImage (disk_after (more d) (disk (devices d).history)) (images d)
    is_left = left_open laws before after a held images crash few unspent devices more open_as moment

    -- what is open is of no older format
    open_recent : (d : ℕ) (lt : d < 4) → ¬ IsOld (content (crash.histories d)) → ¬ IsOld (content (devices d).history)
    open_recent d lt =
        let ops = opening_ops (content (crash.histories d)) in
        let bytes = content (devices d).history in
        opening_recent marks (crash.histories d) (spelled (held d)) (here d lt).log (durable laws before after a held images crash d lt) ops bytes ([], sym (append-nil ops))
        (subst (λ (z : Disk). IsImage z bytes) (sym (device d lt).holds.log.quiet ∙ disk_open laws before after a held images crash few unspent devices more open_as moment d lt) (own_image bytes))

    -- a log of the old side is being cleared, or is as it was
    cleared_or_same : (d : ℕ) (lt : d < 4) → IsOnSide a.head (length a.lists) d → ¬ IsOnSide other (length a.lists) d → AreMade devices more a.head other (length a.lists) (group_for (length a.lists) a.fold) → IsFront (more d) (cleared_ops (devices d))
    cleared_or_same d lt on off (inl made) = (cleared_ops (devices d), ap (λ (xs : List DevOp). xs ++ cleared_ops (devices d)) (sym (made.rest d off)))
    cleared_or_same d lt on off (inr (inl put)) = (cleared_ops (devices d), ap (λ (xs : List DevOp). xs ++ cleared_ops (devices d)) (sym (put.rest d off)))
    cleared_or_same d lt on off (inr (inr old)) = old.old d off on

    own : (l : ℕ) → l < length a.lists → ¬ IsOld (images (a.head + l))
    own l lt =
        let d : ℕ = a.head + l in
        let less = low l lt in
        let on : IsOnSide a.head (length a.lists) (a.head + l) = record { behind = omega arith; before = omega (arith, lt) } in
        let off = side_of a.head (length a.lists) (side_used held 1 a.head (length a.lists) a.fold.generation used) (omega (arith, lt)) (a.head + l) on in
        clearing_recent laws.list marks (device (a.head + l) less) (more (a.head + l)) (images (a.head + l)) (cleared_or_same (a.head + l) less on off moment) (is_left (a.head + l) less)
        (open_recent (a.head + l) less (was_at l lt))

    -- the first log of the other side is being appended to
    first_recent : (lt : other_side a.head (length a.lists) < 4) (front : List DevOp) → IsFront front (group_ops (group_for (length a.lists) a.fold)) → more other ≡ ready_ops (devices other) ++ front → ¬ IsOld (images other)
    first_recent lt front so_far e =
        let fits = laws.fits a.lists (length a.lists) a.fold a.given.each a.folded refl (some laws before crash.histories (told laws before after a held images crash) held here a) (omega (arith, few)) (none_spent a.fold unspent) in
        appending_recent laws.list marks (device other lt) (more other) front (group_for (length a.lists) a.fold) (images other)
        (opened_mark marks (crash.histories other) (spelled (held other)) (here other lt).log (devices other).history (open_as other lt).0.history) fits.1 so_far e (is_left other lt)

    -- and those behind it are ready
    others_recent : (d : ℕ) → d < 4 → more d ≡ ready_ops (devices d) → ¬ IsOld (images d)
    others_recent d lt e = bare laws.list (images d) (made_ready marks.stand (device d lt) (more d) (images d) e (is_left d lt)).log

    next : again.head ≡ other → again.fold.generation ≡ a.fold.generation + 1 → AreRecent images other (length a.lists)
    next is later l lt = by moment (cases_Bool ((other + l) == other))
      where
        first : other_side a.head (length a.lists) < 4
        first = subst (λ (d : ℕ). d < 4) is head_within

        on : IsOnSide other (length a.lists) (other + l)
        on = record { behind = omega arith; before = omega (arith, lt) }

        less : other + l < 4
        less = omega (arith, lt, other_within)
          where
            other_within : other_side a.head (length a.lists) + length a.lists ≤ 4
            other_within = both (a.head == 0)
              where
                both : (b : Bool) → (if b then length a.lists else 0) + length a.lists ≤ 4
                both true = omega (arith, few)
                both false = omega (arith, few)

        by : AreMade devices more a.head other (length a.lists) (group_for (length a.lists) a.fold) → (((other + l) == other) ≡ true) ⊎ (((other + l) == other) ≡ false) → ¬ IsOld (images (other + l))
        by (inl made) where_is =
            let side : IsOnSide other (length a.lists) other = record { behind = omega arith; before = omega (arith, lt) } in
            absurd (not_next is later (making_ready marks.stand (device other first) (more other) (images other) (made.side other side) (is_left other first)))
        by (inr (inl put)) (inl e) = subst (λ (d : ℕ). ¬ IsOld (images d)) (sym (eqb-true (other + l) other e)) (first_recent first put.front put.some put.first)
        by (inr (inl put)) (inr e) = others_recent (other + l) less (put.side (other + l) on (eqb-false (other + l) other e))
        by (inr (inr old)) (inl e) =
            let group = group_ops (group_for (length a.lists) a.fold) in
            subst (λ (d : ℕ). ¬ IsOld (images d)) (sym (eqb-true (other + l) other e)) (first_recent first group ([], sym (append-nil group)) old.first)
        by (inr (inr old)) (inr e) = others_recent (other + l) less (old.side (other + l) on (eqb-false (other + l) other e))

    pub compacting_recent : AreRecent images again.head (length a.lists)
    compacting_recent = recent_by own next

  pub begun_recent : length a.lists ≤ 2 → IsUnspentFold a.fold → AreRecent images again.head (length a.lists)
  begun_recent few unspent = elim (crash.moment) [ inl front ↦ opening_again front | inr at ↦ compacting_recent few unspent at.0 at.1 at.2 at.3 ]

-- ---- all of it

pub guarded : CrashLaws → MarkLaws → GuardedIsSafe
guarded laws marks before after (inl touched) = record {
  folds = λ a held images crash. touched_folds laws before after a held images crash touched;
  recent = λ a held images crash was. touched_recent laws marks before after a held images crash (touched_folds laws before after a held images crash touched) was touched;
  keeps = inr (touched_safe before after touched);
}
guarded laws marks before after (inr mine) = record {
  folds = folds;
  recent = λ a held images crash was. begun_recent laws marks before after a held images crash (folds a held images crash) was (few a held images crash) (unspent a held images crash);
  keeps = inl mine.0;
}
  where
    few : (a : AreFolded before) (held : ℕ → List Record) (images : ℕ → List ℕ) → CrashInCompaction before after a.head (length a.lists) a.fold held images → length a.lists ≤ 2
    few a held images crash = subst (λ (n : ℕ). n ≤ 2) (same_numbers laws before after a held images crash mine.0).0 mine.1.few

    unspent : (a : AreFolded before) (held : ℕ → List Record) (images : ℕ → List ℕ) → CrashInCompaction before after a.head (length a.lists) a.fold held images → IsUnspentFold a.fold
    unspent a held images crash = subst (λ (f : Folded). IsUnspentFold f) (same_numbers laws before after a held images crash mine.0).1 mine.1.unspent

    folds : (a : AreFolded before) (held : ℕ → List Record) (images : ℕ → List ℕ) → CrashInCompaction before after a.head (length a.lists) a.fold held images → FoldsAgain held a.head (length a.lists) a.fold images
    folds a held images crash = begun_folds laws before after a held images crash (few a held images crash) (unspent a held images crash)
