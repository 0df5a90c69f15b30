-- What a crash leaves of each log while a run begins.
use Rattle.std.specs.Prelude.{◌≡◌, refl, ℕ, zero, suc, ◌+◌, ◌<◌, ◌≤◌, ◌⊎◌, Option, Some, None, List, [], ◌∷◌, ◌++◌, length, IfSome}
use Rattle.std.proofs.Common.{inl, inr, arith, sym, ap, subst, ◌∙◌}
use Rattle.std.proofs.lemmas.List.{append-nil}
use Rattle.std.proofs.lemmas.List.Concat.{flat_map-cons}
use Rattle.run_effects.specs.Driven.{tried_on}
use Rattle.snap_base.specs.declared.transactions.State.{State}
use Rattle.record_log.specs.gate_log.declared.logs.LogItem.{LogItem}
use Rattle.record_log.specs.gate_log.Bytes.{IsOld}
use Rattle.record_log.specs.gate_log.LogLaws.{BeginningKeepsRecent}
use Rattle.record_log.specs.gate_log.Opened.{Opened, beginning_ops}
use Rattle.run_opening.specs.log_opening.Cuts.{HoldFour, IsCutCall}
use Rattle.run_opening.specs.log_opening.Devices.{device_at}
use Rattle.machine_recovery.specs.compact_laws.log_compact.declared.folds.Folded.{Folded}
use Rattle.machine_recovery.specs.compact_laws.log_compact.Compacting.{IsOnSide}
use Rattle.machine_recovery.specs.compact_laws.log_compact.Finding.{IsLeftByRuns, IsUsed}
use Rattle.machine_recovery.specs.compact_laws.log_compact.Sets.{IsFolded, IsSet, logs_from}
use Rattle.record_log.specs.Growth.{GrewBy, HoldsWhole, IsGrowth, IsNextBegun, IsNextCutShort, Leaves, LeavesGroups, MayAppendGroups, all_records, end_behind_groups, groups_ops}
use Rattle.record_log.specs.GrowthLaws.{GrowthKeeps, MomentIsRecent}
use Rattle.record_log.specs.Records.{HoldsRecords, spelled}
use Rattle.record_log.specs.gate_log.Appends.{end_behind}
use Rattle.run_opening.specs.Begins.{AreEmpty, Begins}
use Rattle.run_opening.specs.Opens.{first_groups, records_at, with_first}
use Rattle.run_opening.specs.Starts.{IsStart, first_record}
use Rattle.run_effects.specs.Groups.{group_behind, groups_of}
use Rattle.record_log.specs.snap_outside.declared.devices.DevOp.{DevOp}
use Rattle.record_log.specs.snap_outside.Disk.{DeviceHistory, EachMoment, IsImage, content, disk, disk_after, settled}
use Rattle.record_log.specs.snap_outside.Moments.{moment_between}
use Rattle.snap_recover.specs.declared.openings.Opening.{Opening}
use Rattle.snap_work.specs.Kept.{KeepsLimits}
use Rattle.record_log.specs.txn_records.declared.records.Record.{Record}
use Rattle.run_recovery.specs.Beginnings.{BeginsAgain, CrashBefore, AreMadeFirst, KeepsOrBegins}
use Rattle.run_recovery.specs.Crashes.{FindsRunsLogs}
use Rattle.run_recovery.specs.OneRun.{TheRun, machine_in}
use Rattle.run_recovery.specs.Runs.{IsRunDevice}
use Rattle.run_recovery.proofs.FourDevices.{TellAll, left_set, lists_from, numbered, on_side, placed, placed_at, placed_in, placed_out, within_four}
use Rattle.run_recovery.proofs.FoundFour.{AsidesLeft, FourLaws, aside_left, asides_left, begun_set}
use Rattle.run_recovery.proofs.LogsLeft.{first_long}

-- ---- the first groups alone

may_front : (end : ℕ) (xs ys : List (List Record)) → MayAppendGroups end (xs ++ ys) → MayAppendGroups end xs
may_front end [] ys may = tt
may_front end (x ∷ xs) ys may = (may.0, may_front (end_behind end (spelled x)) xs ys may.1)

grew_first : (h : DeviceHistory) (new : Option DeviceHistory) (end : ℕ) (xs ys : List (List Record)) (tried : Option (List Record)) → GrewBy (Some h) new end (xs ++ ys) tried → MayAppendGroups end xs
grew_first h new end xs ys tried grew = may_front end xs ys grew.1.may

first_growth : (bytes : List ℕ) (end : ℕ) (groups : List (List Record)) → MayAppendGroups end groups → IsGrowth bytes end groups None (beginning_ops bytes ++ groups_ops end groups)
first_growth bytes end groups may = record { may = may; begun = []; last = refl; parts = ap (λ ops. beginning_ops bytes ++ ops) (sym (append-nil (groups_ops end groups))) }

-- ---- what they leave

none_left : (rs : List Record) (whole later : List (List Record)) (begun : List DevOp) (image : List ℕ) → [] ≡ whole ++ later → HoldsWhole (rs ++ all_records whole) later begun image → HoldsRecords image rs
none_left rs [] [] begun image e (inl held) = subst (HoldsRecords image) (append-nil rs) held
none_left rs [] [] begun image e (inr more) = absurd more.1
none_left rs [] (x ∷ later) begun image e holds = absurd (cc e)
none_left rs (x ∷ whole) later begun image e holds = absurd (cc e)

one_left : (rs group : List Record) (whole later : List (List Record)) (begun : List DevOp) (image : List ℕ) → group ∷ [] ≡ whole ++ later → HoldsWhole (rs ++ all_records whole) later begun image
    → HoldsRecords image rs ⊎ HoldsRecords image (rs ++ group)
one_left rs group [] later begun image e (inl held) = inl (subst (HoldsRecords image) (append-nil rs) held)
one_left rs group [] [] begun image e (inr more) = absurd more.1
one_left rs group [] (x ∷ later) begun image e (inr more) =
    let is : group ≡ x = cc e in
    inr (subst (HoldsRecords image) (ap (λ xs. xs ++ x) (append-nil rs) ∙ ap (λ y. rs ++ y) (sym is)) more.1)
one_left rs group (x ∷ []) [] begun image e (inl held) =
    let is : group ≡ x = cc e in
    inr (subst (HoldsRecords image) (ap (λ xs. rs ++ xs) (flat_map-cons (λ (g : List Record). g) x [] ∙ (append-nil x ∙ sym is))) held)
one_left rs group (x ∷ []) [] begun image e (inr more) = absurd more.1
one_left rs group (x ∷ []) (y ∷ later) begun image e holds = absurd (cc e)
one_left rs group (x ∷ y ∷ whole) later begun image e holds = absurd (cc e)

-- the records of before, or, on log 0, these with what is written first
abbrev Left : ℕ → List Record → List Record → List ℕ → Type 0
Left l rs added image = HoldsRecords image rs ⊎ ((l ≡ 0) × HoldsRecords image (rs ++ added))

on_first : (rs added : List Record) (image : List ℕ) → HoldsRecords image rs ⊎ HoldsRecords image (rs ++ added) → Left 0 rs added image
on_first rs added image (inl held) = inl held
on_first rs added image (inr held) = inr (refl, held)

groups_left : (end l : ℕ) (rs added : List Record) (more : List DevOp) (image : List ℕ) → LeavesGroups end rs (first_groups l added) more image → Left l rs added image
groups_left end zero rs [] more image x = inl (none_left rs x.whole x.later x.begun image x.splits x.holds)
groups_left end zero rs (r ∷ added) more image x = on_first rs (r ∷ added) image (one_left rs (r ∷ added) x.whole x.later x.begun image x.splits x.holds)
groups_left end (suc l) rs added more image x = inl (none_left rs x.whole x.later x.begun image x.splits x.holds)

log_left : (bytes : List ℕ) (end l : ℕ) (rs added : List Record) (made : List DevOp) (image : List ℕ) → Leaves bytes end rs (first_groups l added) made image → Left l rs added image
log_left bytes end l rs added made image (inl cut) = inl cut.1
log_left bytes end l rs added made image (inr x) = groups_left end l rs added x.0 image x.2

-- the image of the device on which a log lies
abbrev image_of : (r : TheRun) → (ℕ → List ℕ) → ℕ → List ℕ
image_of r images l = images (r.devices.head + l)

next_begun : (end : ℕ) (later : List (List Record)) (begun : List DevOp) → IsNextCutShort end later begun → IsNextBegun end later begun
next_begun end [] begun next = next
next_begun end (group ∷ later) begun next = (next.left, next.whole)

-- at each of these moments the image is no log of format 1 with an item, where the device held none
recent_left : MomentIsRecent → BeginningKeepsRecent → (h : DeviceHistory) (opened : Option DeviceHistory) (end : ℕ) (found : List LogItem) (rs : List Record) (groups : List (List Record)) (made : List DevOp) (image : List ℕ)
    → Opened (Some h) opened end found → disk h ≡ settled (content h) → HoldsRecords (content h) rs → MayAppendGroups end groups → ¬ IsOld (content h) → IsImage (disk_after made (disk h)) image
    → Leaves (content h) end rs groups made image → ¬ IsOld image
recent_left moment begins h opened end found rs groups made image opens quiet held may recent left (inl cut) =
    moment_between (disk h) made cut.0.left (λ (bytes : List ℕ). ¬ IsOld bytes)
    (subst (λ (ops : List DevOp). EachMoment (disk h) ops (λ (bytes : List ℕ). ¬ IsOld bytes)) cut.0.whole (begins h (spelled rs) quiet held.log recent)) image left
recent_left moment begins h opened end found rs groups made image opens quiet held may recent left (inr x) =
    let y = x.2 in
    let parts : made ≡ beginning_ops (content h) ++ (groups_ops end y.whole ++ y.begun) = x.1 ∙ ap (λ (ops : List DevOp). beginning_ops (content h) ++ ops) y.so_far in
    moment h opened end found rs y.whole y.later y.begun opens held (subst (MayAppendGroups end) y.splits may) (next_begun (end_behind_groups end y.whole) y.later y.begun y.next) image
    (subst (λ (ops : List DevOp). IsImage (disk_after ops (disk h)) image) parts left)

-- what the laws say of one log while the run begins
pub record BeginLaws : Type 0 where
  pub keeps : GrowthKeeps
  pub moment : MomentIsRecent
  pub begins : BeginningKeepsRecent

-- what log l is left with
record EachLeft (l : ℕ) (rs added : List Record) (image : List ℕ) : Type 0 where
  left : Left l rs added image
  recent : ¬ IsOld image

each_left : BeginLaws → (r : TheRun) (images : ℕ → List ℕ) → CrashBefore r images → r.devices.head + r.work.logs ≤ 4 → (l : ℕ) → l < r.work.logs
    → EachLeft l (records_at r.devices.records l) r.devices.added (image_of r images l)
each_left laws r images crash within l lt = record {
  left = log_left (content h) here.end l rs r.devices.added (crash.made d) (images d) leaves;
  recent = recent_left laws.moment laws.begins h here.opened.0 here.end here.opened.1 rs first (crash.made d) (images d) opened cut.durable held may recent cut.left leaves;
}
  where
    d : ℕ
    d = r.devices.head + l

    low : r.devices.head + l < 4
    low = omega (arith, within, lt)

    first : List (List Record)
    first = first_groups l r.devices.added

    rs : List Record
    rs = records_at r.devices.records l

    groups : List (List Record)
    groups = groups_of (machine_in r) l r.events

    tried : Option (List Record)
    tried = tried_on r.failed l (group_behind (machine_in r) l r.events)

    here : IsRunDevice (device_at r.before d) (device_at r.after d) rs (first ++ groups) tried
    here = r.devices.each l lt

    cut : IsCutCall (device_at r.before d) (crash.held d) (crash.made d) (images d)
    cut = (crash.each d low).0

    h : DeviceHistory
    h = cut.history

    made : AreMadeFirst (crash.made d) (beginning_ops (content h) ++ groups_ops here.end first)
    made = (crash.each d low).1.in_use l lt refl

    opened : Opened (Some h) here.opened.0 here.end here.opened.1
    opened = subst (λ t. Opened t here.opened.0 here.end here.opened.1) cut.told here.opened.2

    held : HoldsRecords (content h) rs
    held = subst (λ t. IfSome t (λ h. HoldsRecords (content h) rs)) cut.told here.held

    may : MayAppendGroups here.end first
    may =
        grew_first h (device_at r.after d).told here.end first groups tried
        (subst (λ t. GrewBy t (device_at r.after d).told here.end (first ++ groups) tried) cut.told here.grew)

    recent : ¬ IsOld (content h)
    recent = subst (λ t. IfSome t (λ h. ¬ IsOld (content h))) cut.told (r.devices.recent l lt)

    leaves : Leaves (content h) here.end rs first (crash.made d) (images d)
    leaves =
        laws.keeps h here.opened.0 here.end here.opened.1 rs first None (beginning_ops (content h) ++ groups_ops here.end first) opened cut.durable held (first_growth (content h) here.end first may) (crash.made d) made.0 made.1 (images d)
        cut.left

-- ---- all logs

-- what begins_again of run_opening says
abbrev pub Unwritten : Type 0
Unwritten = (logs : List (List Record)) (states : List State) (o : Opening) (added : List Record) → IsStart logs states o added → Begins logs states o

abbrev pub Written : Type 0
Written = (logs : List (List Record)) (states : List State) (o : Opening) (added : List Record) → 1 ≤ length logs → IsStart logs states o added → Begins (with_first logs added) states o

-- which records all logs are left with
record AllLeft (count : ℕ) (records : List (List Record)) (states : List State) (o : Opening) (f : Folded) (images : ℕ → List ℕ) : Type 0 where
  kept : List (List Record)
  which : KeepsOrBegins (length records) states records kept
  holds : (l : ℕ) → l < count → HoldsRecords (images l) (records_at kept l)
  begins : Begins kept states o
  folds : ¬ AreEmpty kept → IsFolded kept f

-- on the logs behind log 0
others_left : (l : ℕ) (rs added : List Record) (image : List ℕ) → Left (suc l) rs added image → HoldsRecords image rs
others_left l rs added image (inl held) = held
others_left l rs added image (inr more) = absurd (omega (arith, more.0))

nothing_left : (l : ℕ) (rs added : List Record) (image : List ℕ) → added ≡ [] → Left l rs added image → HoldsRecords image rs
nothing_left l rs added image none (inl held) = held
nothing_left l rs added image none (inr more) = subst (HoldsRecords image) (ap (λ xs. rs ++ xs) none ∙ append-nil rs) more.1

all_left : Unwritten → Written → (count : ℕ) (records : List (List Record)) (states : List State) (o : Opening) (f : Folded) (added : List Record) (images : ℕ → List ℕ) → 1 ≤ count → length records ≡ count → IsStart records states o added → IsFolded (with_first records added) f
    → ((l : ℕ) → l < count → Left l (records_at records l) added (images l)) → AllLeft count records states o f images
all_left unwritten written count [] states o f added images some many start folded left = absurd (omega (arith, some, many))
all_left unwritten written count (rs ∷ rss) states o f added images some many (inr on) folded left = record {
  kept = rs ∷ rss;
  which = inl refl;
  holds = λ l lt. nothing_left l (records_at (rs ∷ rss) l) added (images l) on.1 (left l lt);
  begins = unwritten (rs ∷ rss) states o added (inr on);
  folds = λ filled. subst (λ (l : List Record). IsFolded (l ∷ rss) f) (ap (λ (l : List Record). rs ++ l) on.1 ∙ append-nil rs) folded;
}
all_left unwritten written count (rs ∷ rss) states o f added images some many (inl new) folded left = by (left 0 some)
  where
    by : Left 0 rs added (images 0) → AllLeft count (rs ∷ rss) states o f images
    by (inl held) = record { kept = rs ∷ rss; which = inl refl; holds = same; begins = unwritten (rs ∷ rss) states o added (inl new); folds = λ filled. absurd (filled new.0) }
      where
        same : (l : ℕ) → l < count → HoldsRecords (images l) (records_at (rs ∷ rss) l)
        same zero lt = held
        same (suc l) lt = others_left l (records_at rss l) added (images (suc l)) (left (suc l) lt)
    by (inr more) = record {
      kept = (rs ++ added) ∷ rss;
      which = inr (new.0, ap (λ xs. (rs ++ xs) ∷ rss) new.2);
      holds = one_more;
      begins = written (rs ∷ rss) states o added (omega arith) (inl new);
      folds = λ filled. folded;
    }
      where
        one_more : (l : ℕ) → l < count → HoldsRecords (images l) (records_at ((rs ++ added) ∷ rss) l)
        one_more zero lt = more.1
        one_more (suc l) lt = others_left l (records_at rss l) added (images (suc l)) (left (suc l) lt)

-- ---- the four devices

-- the logs in use are left with these lists
record KeptFour (r : TheRun) (images : ℕ → List ℕ) (kept : List (List Record)) : Type 0 where
  now : ℕ → List Record
  holds : HoldFour images now
  lists : logs_from now r.devices.head r.work.logs ≡ kept
  used : IsUsed now r.work.logs r.devices.head r.work.logs r.devices.generation
  set : FindsRunsLogs r → IsLeftByRuns now r.devices.head r.work.logs

which_long : (records : List (List Record)) (logs : ℕ) (states : List State) (kept : List (List Record)) → length records ≡ logs → KeepsOrBegins logs states records kept → length kept ≡ logs
which_long records logs states kept many (inl same) = ap (λ (x : List (List Record)). length x) same ∙ many
which_long records logs states kept many (inr new) = ap (λ (x : List (List Record)). length x) new.1 ∙ (first_long records (first_record logs states ∷ []) ∙ many)

kept_four : FourLaws → (r : TheRun) (held : ℕ → List Record) (images : ℕ → List ℕ) (kept : List (List Record)) → KeepsLimits r.work → AsidesLeft r held images → KeepsOrBegins r.work.logs r.work.states r.devices.records kept
    → ((l : ℕ) → l < r.work.logs → HoldsRecords (images (r.devices.head + l)) (records_at kept l)) → KeptFour r images kept
kept_four laws r held images kept limits asides which each = record {
  now = placed kept asides.aside r.devices.head r.work.logs;
  holds = λ d low. holds d low (on_side r.devices.head r.work.logs d);
  lists = lists_from (placed kept asides.aside r.devices.head r.work.logs) kept r.devices.head r.work.logs (which_long r.devices.records r.work.logs r.work.states kept r.devices.as_many which)
      (λ l lt. placed_at kept asides.aside r.devices.head r.work.logs l lt);
  used = used which;
  set = λ found. set which found;
}
  where
    holds : (d : ℕ) → d < 4 → IsOnSide r.devices.head r.work.logs d ⊎ ¬ IsOnSide r.devices.head r.work.logs d → HoldsRecords (images d) (placed kept asides.aside r.devices.head r.work.logs d)
    holds d low (inr off) = subst (HoldsRecords (images d)) (sym (placed_out kept asides.aside r.devices.head r.work.logs d off)) (asides.holds d low off)
    holds d low (inl on) =
        let n = numbered r.devices.head r.work.logs d on in
        let is : placed kept asides.aside r.devices.head r.work.logs d ≡ records_at kept n.number = placed_in kept asides.aside r.devices.head r.work.logs d on ∙ ap (λ (j : ℕ). records_at kept j) n.off in
        subst (HoldsRecords (images d)) (sym is) (subst (λ (j : ℕ). HoldsRecords (images j) (records_at kept n.number)) (sym n.is) (each n.number n.few))

    begun_now : AreEmpty r.devices.records → IsSet (placed (with_first r.devices.records (first_record r.work.logs r.work.states ∷ [])) asides.aside r.devices.head r.work.logs) r.devices.head r.work.logs r.devices.generation
    begun_now empty = begun_set laws.sets r.devices.records r.work.states asides.aside r.devices.head r.work.logs r.devices.generation r.devices.as_many limits.logs.0 empty asides.used

    used : KeepsOrBegins r.work.logs r.work.states r.devices.records kept → IsUsed (placed kept asides.aside r.devices.head r.work.logs) r.work.logs r.devices.head r.work.logs r.devices.generation
    used (inl same) = subst (λ (k : List (List Record)). IsUsed (placed k asides.aside r.devices.head r.work.logs) r.work.logs r.devices.head r.work.logs r.devices.generation) (sym same) asides.used
    used (inr new) = inl (subst (λ (k : List (List Record)). IsSet (placed k asides.aside r.devices.head r.work.logs) r.devices.head r.work.logs r.devices.generation) (sym new.1) (begun_now new.0))

    set : KeepsOrBegins r.work.logs r.work.states r.devices.records kept → FindsRunsLogs r → IsLeftByRuns (placed kept asides.aside r.devices.head r.work.logs) r.devices.head r.work.logs
    set (inl same) found = subst (λ (k : List (List Record)). IsLeftByRuns (placed k asides.aside r.devices.head r.work.logs) r.devices.head r.work.logs) (sym same) (asides.left found)
    set (inr new) found =
        left_set (placed kept asides.aside r.devices.head r.work.logs) r.devices.head r.work.logs r.devices.generation
        (subst (λ (k : List (List Record)). IsSet (placed k asides.aside r.devices.head r.work.logs) r.devices.head r.work.logs r.devices.generation) (sym new.1) (begun_now new.0))

pub begins_again : FourLaws → BeginLaws → Unwritten → Written → (r : TheRun) (images : ℕ → List ℕ) → KeepsLimits r.work → CrashBefore r images → BeginsAgain r images
begins_again laws of_log unwritten written r images limits crash = record {
  now = four.now;
  holds = four.holds;
  recent = λ l lt. (each_left of_log r images crash within l lt).recent;
  kept = all.kept;
  lists = four.lists;
  which = which;
  begins = all.begins;
  folds = all.folds;
  used = four.used;
  set = four.set;
}
  where
    within : r.devices.head + r.work.logs ≤ 4
    within = within_four r.devices.used.fronts r.devices.head r.work.logs r.devices.generation (omega (arith, limits.logs.1)) r.devices.used.used

    tells : TellAll r.before crash.held
    tells d low = let cut = (crash.each d low).0 in (cut.history, cut.told, cut.holds)

    all : AllLeft r.work.logs r.devices.records r.work.states r.opening r.devices.fold (image_of r images)
    all = all_left unwritten written r.work.logs r.devices.records r.work.states r.opening r.devices.fold r.devices.added (image_of r images) limits.logs.0 r.devices.as_many r.devices.start r.devices.folds (λ l lt. (each_left of_log r images crash within l lt).left)

    which : KeepsOrBegins r.work.logs r.work.states r.devices.records all.kept
    which = subst (λ n. KeepsOrBegins n r.work.states r.devices.records all.kept) r.devices.as_many all.which

    asides : AsidesLeft r crash.held images
    asides =
        asides_left laws r crash.held images limits tells
        (λ d low off. aside_left laws.log r.devices.head r.work.logs r.devices.generation d r.before r.after (crash.held d) (crash.made d) (images d) r.devices.aside low off (crash.each d low).0 ((crash.each d low).1.aside off))

    four : KeptFour r images all.kept
    four = kept_four laws r crash.held images all.kept limits asides which all.holds
