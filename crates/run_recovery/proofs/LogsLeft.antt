-- What a crash at a moment leaves of each log, and what that recovers to.
use Rattle.std.specs.Prelude.{◌≡◌, ◌≢◌, refl, ℕ, zero, suc, ◌+◌, ◌<◌, ◌≤◌, Bool, true, false, ◌⊎◌, Option, Some, None, List, [], ◌∷◌, ◌++◌, length, take, drop, IfSome}
use Rattle.std.proofs.Common.{inl, inr, arith, sym, ap, subst, ◌∙◌}
use Rattle.std.proofs.lemmas.Bool.{true≢false}
use Rattle.std.proofs.lemmas.List.{append-nil, map-append, take-append-drop, append_assoc}
use Rattle.std.proofs.lemmas.List.Concat.{flat_map-cons}
use Rattle.std.proofs.lemmas.Grind.{flat_map-append}
use Rattle.std.proofs.Math.Seq.{take-length}
use Rattle.aml_slice.specs.Controls.{Rest}
use Rattle.record_log.specs.gate_log.Opened.{Opened}
use Rattle.run_effects.specs.Driven.{tried_on}
use Rattle.run_opening.specs.log_opening.Cuts.{IsCutCall}
use Rattle.run_opening.specs.log_opening.Devices.{device_at}
use Rattle.protocol.specs.Effects.{log_at}
use Rattle.protocol.specs.Events as machine
use Rattle.protocol.specs.Fixed.{Fixed}
use Rattle.protocol.specs.Moments.{Moment}
use Rattle.protocol.specs.Parts.{Log}
use Rattle.protocol.specs.Records.{LogRecord}
use Rattle.protocol.specs.Runs.{IsRun, reached}
use Rattle.record_log.specs.Growth.{HoldsWhole, IsTried, MayAppendGroups, GrewBy, all_records, begun_groups, end_behind_groups}
use Rattle.record_log.specs.GrowthLaws.{MomentIsRecent, MomentKeeps}
use Rattle.run_opening.specs.log_opening.Devices.{IsOld}
use Rattle.record_log.specs.Records.{HoldsRecords}
use Rattle.record_log.proofs.Growing.{may_more}
use Rattle.run_effects.specs.log_set.Told.{all_told, told}
use Rattle.machine_recovery.specs.recovery_laws.Grown.{grown, grown_from}
use Rattle.run_opening.specs.Opens.{as_groups, first_groups, records_at, with_first}
use Rattle.run_effects.specs.Groups.{durable, group_behind, groups_of, waiting}
use Rattle.run_effects.specs.Laws.{GroupsAreDurable}
use Rattle.record_log.specs.snap_outside.declared.devices.DevOp.{DevOp}
use Rattle.record_log.specs.snap_outside.Disk.{DeviceHistory, IsImage, content, disk, disk_after}
use Rattle.record_log.specs.txn_records.declared.records.Record.{Record}
use Rattle.run_effects.specs.Made.{IsMade}
use Rattle.run_recovery.specs.Crashes.{CrashOn, begun_on, earlier}
use Rattle.run_recovery.specs.OneRun.{TheRun, MomentOf, machine_in, reached_at}
use Rattle.run_recovery.specs.Runs.{IsRunDevice}
use Rattle.run_recovery.proofs.NextGroups.{next_waits}

-- ---- lists of records

grown_up : (n l : ℕ) (rss : List (List Record)) (logs : ℕ → List LogRecord) → l < length rss → records_at (grown_from n rss logs) l ≡ records_at rss l ++ all_told (logs (n + l))
grown_up n l [] logs lt = absurd (omega (arith, lt))
grown_up n zero (rs ∷ rss) logs lt = let e : n ≡ n + 0 = omega arith in ap (λ j. rs ++ all_told (logs j)) e
grown_up n (suc l) (rs ∷ rss) logs lt = let e : (n + 1) + l ≡ n + suc l = omega arith in grown_up (n + 1) l rss logs (omega (arith, lt)) ∙ ap (λ j. records_at rss l ++ all_told (logs j)) e

pub grown_at : (rss : List (List Record)) (logs : ℕ → List LogRecord) (l : ℕ) → l < length rss → records_at (grown rss logs) l ≡ records_at rss l ++ all_told (logs l)
grown_at rss logs l lt = let e : 0 + l ≡ l = omega arith in grown_up 0 l rss logs lt ∙ ap (λ j. records_at rss l ++ all_told (logs j)) e

as_all : (added : List Record) → all_records (as_groups added) ≡ added
as_all [] = refl
as_all (r ∷ rs) = flat_map-cons (λ (g : List Record). g) (r ∷ rs) [] ∙ append-nil (r ∷ rs)

first_at : (rss : List (List Record)) (added : List Record) (l : ℕ) → l < length rss → records_at (with_first rss added) l ≡ records_at rss l ++ all_records (first_groups l added)
first_at [] added l lt = absurd (omega (arith, lt))
first_at (rs ∷ rss) added zero lt = ap (λ xs. rs ++ xs) (sym (as_all added))
first_at (rs ∷ rss) added (suc l) lt = sym (append-nil (records_at rss l))

pub first_long : (rss : List (List Record)) (added : List Record) → length (with_first rss added) ≡ length rss
first_long [] added = refl
first_long (rs ∷ rss) added = omega arith

all_of_log : (g : Log) → all_told (take (length g.records) g.records) ≡ durable g ++ waiting g
all_of_log g = ap all_told (take-length g.records ∙ sym (take-append-drop g.synced g.records)) ∙ map-append told (take g.synced g.records) (drop g.synced g.records)

-- ---- the appends that were begun

may_begin : (end : ℕ) (groups : List (List Record)) (tried : Option (List Record)) (made : List DevOp) → MayAppendGroups end groups → IsTried (end_behind_groups end groups) tried made → MayAppendGroups end (begun_groups groups tried)
may_begin end groups None made may t = may
may_begin end groups (Some group) made may t = may_more end groups group may t.0

grew_may : (h : DeviceHistory) (new : Option DeviceHistory) (end : ℕ) (groups : List (List Record)) (tried : Option (List Record)) → GrewBy (Some h) new end groups tried → MayAppendGroups end (begun_groups groups tried)
grew_may h new end groups tried grew = let g = grew.1 in may_begin end groups tried g.begun g.may g.last

-- ---- one log

-- so many of its records are left
pub record IsCutTo {C : Type 0} (w : Fixed C) (es : List machine.Event) (m : Moment w es) (l k : ℕ) : Type 0 where
  pub same : m.has_begun l ≡ false → k ≡ (log_at (reached w m.events) l).synced
  pub whole : (k ≡ (log_at (reached w m.events) l).synced) ⊎ (k ≡ length (log_at (reached w m.events) l).records)

-- the image holds these and so many of the log
abbrev pub HoldsCut : {C : Type 0} (w : Fixed C) (es : List machine.Event) → Moment w es → ℕ → List Record → List ℕ → ℕ → Type 0
HoldsCut w es m l before image k = HoldsRecords image (before ++ all_told (take k (log_at (reached w m.events) l).records))

pub cut_synced : {C : Type 0} (w : Fixed C) (es : List machine.Event) (m : Moment w es) (l : ℕ) → IsCutTo w es m l (log_at (reached w m.events) l).synced
cut_synced w es m l = record { same = λ none. refl; whole = inl refl }

has_begun : (b : Bool) (begun : List DevOp) → begun ≢ [] → (b ≡ false → begun ≡ []) → b ≡ true
has_begun true begun some waits = refl
has_begun false begun some waits = absurd (some (waits refl))

cut_by : {C : Type 0} (w : Fixed C) (es : List machine.Event) (m : Moment w es) (l : ℕ) (failed : ℕ → Bool) (before : List Record) (image : List ℕ) (begun : List DevOp) (later : List (List Record))
    → (m.has_begun l ≡ false → begun ≡ []) → ((group : List Record) (more : List (List Record)) → later ≡ group ∷ more → m.has_begun l ≡ true → group ≡ waiting (log_at (reached w m.events) l))
    → HoldsWhole (before ++ durable (log_at (reached w m.events) l)) later begun image
    → (k : ℕ) × IsCutTo w es m l k × HoldsCut w es m l before image k
cut_by w es m l failed before image begun later waits next (inl held) = ((log_at (reached w m.events) l).synced, cut_synced w es m l, held)
cut_by w es m l failed before image begun [] waits next (inr more) = absurd more.1
cut_by w es m l failed before image begun (group ∷ later) waits next (inr more) =
    let g = log_at (reached w m.events) l in
    let on : m.has_begun l ≡ true = has_begun (m.has_begun l) begun more.0 waits in
    let is : (before ++ durable g) ++ group ≡ before ++ all_told (take (length g.records) g.records) =
    ap (λ x. (before ++ durable g) ++ x) (next group later refl on) ∙ (append_assoc before (durable g) (waiting g) ∙ ap (λ x. before ++ x) (sym (all_of_log g))) in (
      length g.records,
      record { same = λ none. absurd (true≢false (sym on ∙ none)); whole = inr refl },
      subst (λ x. HoldsRecords image x) is more.1,
    )

pub cut_at : (r : TheRun) (m : MomentOf r) (images : ℕ → List ℕ) → MomentKeeps → GroupsAreDurable (machine_in r) → IsRun (machine_in r) m.events → CrashOn r m images → r.devices.head + r.work.logs ≤ 4 → (l : ℕ) → l < r.work.logs
    → (k : ℕ) × IsCutTo (machine_in r) r.events m l k × HoldsCut (machine_in r) r.events m l (records_at (earlier r) l) (images (r.devices.head + l)) k
cut_at r m images keeps synced run crash within l lt =
    cut_by v r.events m l r.failed (records_at (earlier r) l) (images d) made.begun made.later made.waits next (subst (λ xs. HoldsWhole xs made.later made.begun (images d)) is holds)
  where
    v : Fixed Rest
    v = machine_in r

    d : ℕ
    d = r.devices.head + l

    low : r.devices.head + l < 4
    low = omega (arith, within, lt)

    rs : List Record
    rs = records_at r.devices.records l

    first : List (List Record)
    first = first_groups l r.devices.added

    groups : List (List Record)
    groups = groups_of v l m.events

    all : List (List Record)
    all = first ++ groups_of v l r.events

    tried : Option (List Record)
    tried = tried_on r.failed l (group_behind v l r.events)

    here : IsRunDevice (device_at r.before d) (device_at r.after d) rs all tried
    here = r.devices.each l lt

    cut : IsCutCall (device_at r.before d) (crash.held d) (crash.made d) (images d)
    cut = (crash.each d low).0

    h : DeviceHistory
    h = cut.history

    made : IsMade m l (content h) here.end first (begun_on r l) (crash.made d)
    made = (crash.each d low).1.in_use l lt refl

    opened : Opened (Some h) here.opened.0 here.end here.opened.1
    opened = subst (λ t. Opened t here.opened.0 here.end here.opened.1) cut.told here.opened.2

    held : HoldsRecords (content h) rs
    held = subst (λ t. IfSome t (λ h. HoldsRecords (content h) rs)) cut.told here.held

    may : MayAppendGroups here.end (begun_on r l)
    may = grew_may h (device_at r.after d).told here.end all tried (subst (λ t. GrewBy t (device_at r.after d).told here.end all tried) cut.told here.grew)

    holds : HoldsWhole (rs ++ all_records (first ++ groups)) made.later made.begun (images d)
    holds =
        keeps h here.opened.0 here.end here.opened.1 rs (first ++ groups) made.later made.begun opened held (subst (MayAppendGroups here.end) made.splits may) made.next (images d)
        (subst (λ ops. IsImage (disk_after ops (disk h)) (images d)) made.so_far cut.left)

    next : (group : List Record) (more : List (List Record)) → made.later ≡ group ∷ more → m.has_begun l ≡ true → group ≡ waiting (log_at (reached_at r m) l)
    next group more e on = next_waits v r.events m l r.failed first group more on (made.splits ∙ ap (λ xs. (first ++ groups) ++ xs) e)

    is : rs ++ all_records (first ++ groups) ≡ records_at (earlier r) l ++ durable (log_at (reached_at r m) l)
    is =
        ap (λ xs. rs ++ xs) (flat_map-append (λ (g : List Record). g) first groups ∙ ap (λ xs. all_records first ++ xs) (synced l m.events run))
        ∙ (sym (append_assoc rs (all_records first) (durable (log_at (reached_at r m) l)))
        ∙ ap (λ xs. xs ++ durable (log_at (reached_at r m) l)) (sym (first_at r.devices.records r.devices.added l (rw r.devices.as_many lt))))

-- the log is not of format 1 with an item
pub recent_at : (r : TheRun) (m : MomentOf r) (images : ℕ → List ℕ) → MomentIsRecent → CrashOn r m images → r.devices.head + r.work.logs ≤ 4 → (l : ℕ) → l < r.work.logs → ¬ IsOld (images (r.devices.head + l))
recent_at r m images law crash within l lt =
    law h here.opened.0 here.end here.opened.1 (records_at r.devices.records l) (first ++ groups) made.later made.begun opened held (subst (MayAppendGroups here.end) made.splits may) made.next (images d)
    (subst (λ ops. IsImage (disk_after ops (disk h)) (images d)) made.so_far cut.left)
  where
    v : Fixed Rest
    v = machine_in r

    d : ℕ
    d = r.devices.head + l

    low : r.devices.head + l < 4
    low = omega (arith, within, lt)

    first : List (List Record)
    first = first_groups l r.devices.added

    groups : List (List Record)
    groups = groups_of v l m.events

    all : List (List Record)
    all = first ++ groups_of v l r.events

    tried : Option (List Record)
    tried = tried_on r.failed l (group_behind v l r.events)

    here : IsRunDevice (device_at r.before d) (device_at r.after d) (records_at r.devices.records l) all tried
    here = r.devices.each l lt

    cut : IsCutCall (device_at r.before d) (crash.held d) (crash.made d) (images d)
    cut = (crash.each d low).0

    h : DeviceHistory
    h = cut.history

    made : IsMade m l (content h) here.end first (begun_on r l) (crash.made d)
    made = (crash.each d low).1.in_use l lt refl

    opened : Opened (Some h) here.opened.0 here.end here.opened.1
    opened = subst (λ t. Opened t here.opened.0 here.end here.opened.1) cut.told here.opened.2

    held : HoldsRecords (content h) (records_at r.devices.records l)
    held = subst (λ t. IfSome t (λ h. HoldsRecords (content h) (records_at r.devices.records l))) cut.told here.held

    may : MayAppendGroups here.end (begun_on r l)
    may = grew_may h (device_at r.after d).told here.end all tried (subst (λ t. GrewBy t (device_at r.after d).told here.end all tried) cut.told here.grew)
