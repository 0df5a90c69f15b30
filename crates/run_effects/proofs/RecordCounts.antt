-- How many records and groups a run gives, and that each of its groups fits.
use Rattle.std.proofs.Common.{◌≡◌, ℕ, zero, suc, ◌+◌, ◌*◌, ◌^◌, ◌≤◌, ◌==◌, Bool, true, false, if◌then◌else◌, List, [], ◌∷◌, length, take, drop, slice_index_or, refl, ap, arith}
use Rattle.std.proofs.lemmas.List.{length-append, length-map, take-append-drop}
use Rattle.std.specs.List.{AllByRecursion}
use Rattle.snap_base.proofs.Lists.{all_front, all_back}
use Rattle.protocol.specs.Effects.{after, log_at, no_log}
use Rattle.protocol.specs.Events.{Event, Sync}
use Rattle.protocol.specs.Fixed.{Fixed}
use Rattle.protocol.specs.Laws.{AfterEveryRunWithHistory, OfEveryRun}
use Rattle.protocol.specs.Parts.{Log, Machine}
use Rattle.protocol.specs.Runs.{opening, reached}
use Rattle.protocol.specs.Left.{total}
use Rattle.protocol_theorems.specs.Left.{RunsEnd}
use Rattle.protocol_records.specs.RecordLaws as records
use Rattle.protocol_records.specs.RecordLaws.{RecordsAreFew}
use Rattle.record_log.specs.txn_records.declared.records.Record.{Record}
use Rattle.record_log.specs.txn_records.RecordLaws.{RecordsAreShort}
use Rattle.snap_hand.specs.log_set.Told.{told}
use Rattle.record_log.specs.Growth.{end_behind_groups}
use Rattle.run_effects.specs.Groups.{waiting, durable, group_by, groups_from, groups_of, group_behind}
use Rattle.run_effects.specs.Laws.{GroupsAreDurable}
use Rattle.run_effects.specs.Sizes.{LogsAreFew, groups_and_waiting, AlwaysWaits, AllGroupsFit, WaitingFits}
use Rattle.run_effects.proofs.GroupsWaited.{groups_waited}
use Rattle.run_effects.proofs.GroupSizes.{IsShort, told_short, bytes_each, short_may, way, way_is, way_none, way_on, way_join, groups_end, groups_may}

-- ---- records

count_of : List Log → ℕ
count_of logs = total (λ (g : Log). length g.records) logs

all_counted : (logs : List Log) → length (records.all_records logs) ≡ count_of logs
unfolding count_of
all_counted [] = refl
all_counted (g ∷ logs) = omega (arith, length-append g.records (records.all_records logs), all_counted logs)

one_of_all : (logs : List Log) (l : ℕ) → length (slice_index_or logs l no_log).records ≤ count_of logs
unfolding count_of
one_of_all [] l = omega arith
one_of_all (g ∷ logs) zero = omega arith
one_of_all (g ∷ logs) (suc l) = omega (arith, one_of_all logs l)

-- the records of all logs
few_in_all : {C : Type 0} → AfterEveryRunWithHistory (RecordsAreFew {C = C}) → AfterEveryRunWithHistory (λ (w : Fixed C) finish s h. count_of s.logs ≤ 18 * length w.text.txs)
few_in_all few w finish es facts text run =
    let here = few w finish es facts text run in
    omega (arith, all_counted (reached w es).logs, here.of_all, here.submitted)

pub logs_few : {C : Type 0} → AfterEveryRunWithHistory (RecordsAreFew {C = C}) → AfterEveryRunWithHistory (LogsAreFew {C = C})
unfolding count_of
logs_few few = few_in_all few

-- those of one log
few_in_one : {C : Type 0} → AfterEveryRunWithHistory (RecordsAreFew {C = C}) → AfterEveryRunWithHistory (λ (w : Fixed C) finish s h. (l : ℕ) → length (log_at s l).records ≤ 360000)
few_in_one few w finish es facts text run l =
    omega (arith, one_of_all (reached w es).logs l, few_in_all few w finish es facts text run, text.few_txs)

parts_of : (g : Log) → length (durable g) + length (waiting g) ≡ length g.records
parts_of g = omega (arith, length-map (take g.synced g.records) told, length-map (drop g.synced g.records) told, length-append (take g.synced g.records) (drop g.synced g.records), ap (λ (rs : List _). length rs) (take-append-drop g.synced g.records))

-- ---- groups

by_one : (b : Bool) (g : Log) → length (if b then waiting g ∷ [] else []) ≤ 1
by_one true g = omega arith
by_one false g = omega arith

event_one : {C : Type 0} (l : ℕ) (e : Event) (s : Machine C) → length (group_by l e s) ≤ 1
event_one l (Sync k) s = by_one (k == l) (log_at s l)
event_one l _ s = omega arith

groups_few : {C : Type 0} (w : Fixed C) (l : ℕ) (es : List Event) (s : Machine C) → length (groups_from w l es s) ≤ length es
groups_few w l [] s = omega arith
groups_few w l (e ∷ es) s = omega (arith, length-append (group_by l e s) (groups_from w l es (after w e s)), event_one l e s, groups_few w l es (after w e s))

-- ---- what is appended

pub waiting_fit : {C : Type 0} → RecordsAreShort → AfterEveryRunWithHistory (RecordsAreFew {C = C}) → OfEveryRun (WaitingFits {C = C})
waiting_fit law few w finish es facts text run l end are low =
    let g = log_at (reached w es) l in
    let most = few_in_one few w finish es facts text run l in
    short_may end (group_behind w l es) (told_short law (drop g.synced g.records) are) (omega (arith, most, parts_of g)) (omega (arith, low))

-- the way of all groups
short_way : {C : Type 0} → AfterEveryRunWithHistory (RecordsAreFew {C = C}) → OfEveryRun (RunsEnd {C = C}) → ((w : Fixed C) → GroupsAreDurable w) → OfEveryRun (λ (w : Fixed C) finish es. (l : ℕ) → way (groups_of w l es) + (5 + bytes_each * length (group_behind w l es)) ≤ 2 ^ 30)
short_way few ends durable_is w finish es facts text run l =
    let g = log_at (reached w es) l in
    let most = few_in_one few w finish es facts text run l in
    let short = (ends w finish es facts text run).short in
    let same = ap (λ (rs : List Record). length rs) (durable_is w l es run) in
    omega (arith, most, parts_of g, same, short, text.few_txs, groups_few w l es (opening w), way_is (groups_of w l es))

pub groups_fit : {C : Type 0} → RecordsAreShort → AfterEveryRunWithHistory (RecordsAreFew {C = C}) → OfEveryRun (RunsEnd {C = C}) → ((w : Fixed C) → GroupsAreDurable w) → OfEveryRun (AllGroupsFit {C = C})
groups_fit law few ends durable_is w finish es facts text run l end are low =
    let got = groups_of w l es in
    let behind = group_behind w l es in
    let all = short_way few ends durable_is w finish es facts text run l in
    let are_short : AlwaysWaits w l es (AllByRecursion IsShort) = λ ds rest parts front. told_short law (drop (log_at (reached w ds) l).synced (log_at (reached w ds) l).records) (are ds rest parts front) in
    let are_all = groups_waited (AllByRecursion IsShort) w l es run are_short in
    let are_got = all_front (AllByRecursion IsShort) got (behind ∷ []) are_all in
    let are_behind = (all_back (AllByRecursion IsShort) got (behind ∷ []) are_all).0 in
    let gone = groups_end end got are_got in
    let every = groups_end end (groups_and_waiting w l es) are_all in
    let joined = way_join got (behind ∷ []) in
    let last = way_on behind [] in
    record {
      got = groups_may end got are_got (omega (arith, all)) (omega (arith, all, low));
      next = short_may (end_behind_groups end got) behind are_behind (omega (arith, all)) (omega (arith, all, gone, low));
      gone = omega (arith, gone, all);
      goes = omega (arith, every, joined, last, way_none, all);
    }
