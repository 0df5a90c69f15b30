-- What the device of a log shows at a moment: its records from before the run, and behind them those that are synced, or all.
use Rattle.std.specs.Prelude.{◌≡◌, ◌≢◌, refl, ℕ, zero, suc, ◌+◌, ◌<◌, Bool, true, false, ◌⊎◌, Option, Some, None, List, [], ◌∷◌, ◌++◌, length, take, drop, IfSome}
use Rattle.std.proofs.Common.{inl, inr, arith, sym, ap, subst, ◌∙◌}
use Rattle.std.proofs.lemmas.List.{append-nil, map-append, take-append-drop, append_assoc}
use Rattle.std.proofs.lemmas.List.Concat.{flat_map-cons}
use Rattle.std.proofs.lemmas.Grind.{flat_map-append}
use Rattle.std.proofs.Math.Seq.{take-length}
use Rattle.aml_slice.specs.Controls.{Rest}
use Rattle.log_opening.specs.Devices.{device_at}
use Rattle.log_set.specs.Told.{all_told, told}
use Rattle.protocol.specs.Effects.{log_at}
use Rattle.protocol.specs.Fixed.{Fixed}
use Rattle.protocol.specs.Parts.{Log}
use Rattle.protocol.specs.Runs.{IsRun}
use Rattle.record_log.proofs.Growing.{may_more}
use Rattle.record_log.specs.Growth.{HoldsWhole, IsTried, MayAppendGroups, GrewBy, all_records, begun_groups, end_behind_groups}
use Rattle.record_log.specs.GrowthLaws.{MomentKeeps}
use Rattle.record_log.specs.Records.{HoldsRecords}
use Rattle.record_log.specs.gate_log.Opened.{Opened}
use Rattle.run_effects.specs.Driven.{tried_on}
use Rattle.run_effects.specs.Groups.{durable, group_behind, groups_of, waiting}
use Rattle.run_effects.specs.Laws.{GroupsAreDurable}
use Rattle.run_effects.specs.Made.{IsMade}
use Rattle.run_opening.specs.Opens.{as_groups, first_groups, records_at, with_first}
use Rattle.run_recovery.proofs.NextGroups.{next_waits}
use Rattle.run_recovery.specs.Crashes.{begun_on, earlier}
use Rattle.run_recovery.specs.OneRun.{TheRun, MomentOf, machine_in, reached_at}
use Rattle.run_recovery.specs.Runs.{IsRunDevice}
use Rattle.snap_outside.specs.Disk.{DeviceHistory, IsImage, content, disk, disk_after}
use Rattle.snap_outside.specs.declared.devices.DevOp.{DevOp}
use Rattle.txn_records.specs.declared.records.Record.{Record}
use Rattle.followed_bytes.specs.Readings.{IsShownAt}

-- ---- lists of records

one_group : (added : List Record) → all_records (as_groups added) ≡ added
one_group [] = refl
one_group (r ∷ rs) = flat_map-cons (λ (g : List Record). g) (r ∷ rs) [] ∙ append-nil (r ∷ rs)

first_at : (rss : List (List Record)) (added : List Record) (l : ℕ) → l < length rss → records_at (with_first rss added) l ≡ records_at rss l ++ all_records (first_groups l added)
first_at [] added l lt = absurd (omega (arith, lt))
first_at (rs ∷ rss) added zero lt = ap (λ xs. rs ++ xs) (sym (one_group added))
first_at (rs ∷ rss) added (suc l) lt = sym (append-nil (records_at rss l))

all_of_log : (g : Log) → all_told (take (length g.records) g.records) ≡ durable g ++ waiting g
all_of_log g = ap all_told (take-length g.records ∙ sym (take-append-drop g.synced g.records)) ∙ map-append told (take g.synced g.records) (drop g.synced g.records)

-- ---- the appends that were begun

may_begin : (end : ℕ) (groups : List (List Record)) (tried : Option (List Record)) (made : List DevOp) → MayAppendGroups end groups → IsTried (end_behind_groups end groups) tried made → MayAppendGroups end (begun_groups groups tried)
may_begin end groups None made may t = may
may_begin end groups (Some group) made may t = may_more end groups group may t.0

grew_may : (h : DeviceHistory) (new : Option DeviceHistory) (end : ℕ) (groups : List (List Record)) (tried : Option (List Record)) → GrewBy (Some h) new end groups tried → MayAppendGroups end (begun_groups groups tried)
grew_may h new end groups tried grew = let g = grew.1 in may_begin end groups tried g.begun g.may g.last

-- ---- one log

-- the bytes hold so many of its records: those that are synced, or all
pub record ShowsSoMany (r : TheRun) (m : MomentOf r) (l : ℕ) (bytes : List ℕ) (k : ℕ) : Type 0 where
  pub whole : (k ≡ (log_at (reached_at r m) l).synced) ⊎ (k ≡ length (log_at (reached_at r m) l).records)
  pub holds : HoldsRecords bytes (records_at (earlier r) l ++ all_told (take k (log_at (reached_at r m) l).records))

has_begun : (b : Bool) (begun : List DevOp) → begun ≢ [] → (b ≡ false → begun ≡ []) → b ≡ true
has_begun true begun some waits = refl
has_begun false begun some waits = absurd (some (waits refl))

shows_by : (r : TheRun) (m : MomentOf r) (l : ℕ) (bytes : List ℕ) (begun : List DevOp) (later : List (List Record))
    → (m.has_begun l ≡ false → begun ≡ []) → ((group : List Record) (more : List (List Record)) → later ≡ group ∷ more → m.has_begun l ≡ true → group ≡ waiting (log_at (reached_at r m) l))
    → HoldsWhole (records_at (earlier r) l ++ durable (log_at (reached_at r m) l)) later begun bytes
    → (k : ℕ) × ShowsSoMany r m l bytes k
shows_by r m l bytes begun later waits next (inl held) = ((log_at (reached_at r m) l).synced, record { whole = inl refl; holds = held })
shows_by r m l bytes begun [] waits next (inr more) = absurd more.1
shows_by r m l bytes begun (group ∷ later) waits next (inr more) =
    let g = log_at (reached_at r m) l in
    let before = records_at (earlier r) l in
    let on : m.has_begun l ≡ true = has_begun (m.has_begun l) begun more.0 waits in
    let is : (before ++ durable g) ++ group ≡ before ++ all_told (take (length g.records) g.records) =
    ap (λ x. (before ++ durable g) ++ x) (next group later refl on) ∙ (append_assoc before (durable g) (waiting g) ∙ ap (λ x. before ++ x) (sym (all_of_log g))) in
    (length g.records, record { whole = inr refl; holds = subst (λ x. HoldsRecords bytes x) is more.1 })

pub shows : (r : TheRun) (m : MomentOf r) (l : ℕ) (lt : l < r.work.logs) (bytes : List ℕ) → MomentKeeps → GroupsAreDurable (machine_in r) → IsRun (machine_in r) m.events → IsShownAt r m l lt bytes
    → (k : ℕ) × ShowsSoMany r m l bytes k
shows r m l lt bytes keeps synced run shown =
    shows_by r m l bytes made.begun made.later made.waits next (subst (λ xs. HoldsWhole xs made.later made.begun bytes) is holds)
  where
    v : Fixed Rest
    v = machine_in r

    d : ℕ
    d = r.devices.head + l

    rs : List Record
    rs = records_at r.devices.records l

    first : List (List Record)
    first = first_groups l r.devices.added

    groups : List (List Record)
    groups = groups_of v l m.events

    all : List (List Record)
    all = first ++ groups_of v l r.events

    tried : Option (List Record)
    tried = tried_on r.failed l (group_behind v l r.events)

    here : IsRunDevice (device_at r.before d) (device_at r.after d) rs all tried
    here = r.devices.each l lt

    h : DeviceHistory
    h = shown.history

    made : IsMade m l (content h) here.end first (begun_on r l) shown.made
    made = shown.so_far

    opened : Opened (Some h) here.opened.0 here.end here.opened.1
    opened = subst (λ t. Opened t here.opened.0 here.end here.opened.1) shown.told here.opened.2

    held : HoldsRecords (content h) rs
    held = subst (λ t. IfSome t (λ h. HoldsRecords (content h) rs)) shown.told here.held

    may : MayAppendGroups here.end (begun_on r l)
    may = grew_may h (device_at r.after d).told here.end all tried (subst (λ t. GrewBy t (device_at r.after d).told here.end all tried) shown.told here.grew)

    holds : HoldsWhole (rs ++ all_records (first ++ groups)) made.later made.begun bytes
    holds =
        keeps h here.opened.0 here.end here.opened.1 rs (first ++ groups) made.later made.begun opened held (subst (MayAppendGroups here.end) made.splits may) made.next bytes
        (subst (λ ops. IsImage (disk_after ops (disk h)) bytes) made.so_far shown.image)

    next : (group : List Record) (more : List (List Record)) → made.later ≡ group ∷ more → m.has_begun l ≡ true → group ≡ waiting (log_at (reached_at r m) l)
    next group more e on = next_waits v r.events m l r.failed first group more on (made.splits ∙ ap (λ xs. (first ++ groups) ++ xs) e)

    is : rs ++ all_records (first ++ groups) ≡ records_at (earlier r) l ++ durable (log_at (reached_at r m) l)
    is =
        ap (λ xs. rs ++ xs) (flat_map-append (λ (g : List Record). g) first groups ∙ ap (λ xs. all_records first ++ xs) (synced l m.events run))
        ∙ (sym (append_assoc rs (all_records first) (durable (log_at (reached_at r m) l)))
        ∙ ap (λ xs. xs ++ durable (log_at (reached_at r m) l)) (sym (first_at r.devices.records r.devices.added l (rw r.devices.as_many lt))))
