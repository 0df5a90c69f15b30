use Rattle.std.proofs.Common.{◌≡◌, ◌+◌, ◌≤◌, List, length, sym, ap, subst, arith, rules}
use Rattle.std.specs.Prelude.{slice_range}
use Rattle.std.specs.List.{AllByRecursion, AllZip}
use Rattle.gate_log.specs.declared.logs.LogItem.{LogItem}
use Rattle.log_opening.specs.Found.{ArePlaced, IsReadyLog}
use Rattle.log_opening.specs.Upgrades.{AreAllReady, AreNotReady}
use Rattle.log_opening.proofs.Counting.{not_ready, read_all}
use Rattle.log_opening.proofs.Numbers.{all_part, part_long}
use Rattle.log_opening.proofs.ReadyAll.{are_ready}
use Rattle.log_opening.proofs.ReadyOne.{ready_laws}
use Rattle.log_opening.proofs.Reading.{IsPart}
use Rattle.log_opening.proofs.counted.ready_records.Goals as goal

pub make_ready-requires-clause-ready : goal.make_ready-requires-clause-ready
make_ready-requires-clause-ready g c = subst (λ (l : List (List LogItem)). AllZip IsReadyLog c.args.opened.now.logs.items l) (sym c.as_slice.ensures) c.requires.ready

pub read_logs-requires-clause-placed : goal.read_logs-requires-clause-placed
read_logs-requires-clause-placed g c =
    all_part ArePlaced c.args.head (c.args.head + c.args.count) c.as_slice-2.result.now (subst (λ (l : List (List LogItem)). AllByRecursion ArePlaced l) (sym c.as_slice-2.ensures) c.requires.placed)

pub read_logs-requires-clause-few : goal.read_logs-requires-clause-few
read_logs-requires-clause-few g c =
    let size : length c.as_slice-2.result.now ≡ length c.args.opened.now.found = ap (λ (l : List (List LogItem)). length l) c.as_slice-2.ensures in
    let there : c.args.head + c.args.count ≤ length c.as_slice-2.result.now = omega (arith, size, c.requires.four.0, c.requires.within) in
    omega (arith, part_long c.as_slice-2.result.now c.args.head c.args.count there, c.requires.within)

pub returns-clause-read : goal.returns-clause-read
returns-clause-read g c = λ before generation used all begun.
    let laws = ready_laws c.logs_are_lists.ensures.placed c.one_list.ensures c.opening_is_safe.ensures.adds c.opening_is_safe.ensures.format c.upgrade_keeps.ensures in
    let old = c.args.opened.now.logs.items in
    let new = c.make_ready.new.logs.items in
    let found : List (List LogItem) = c.args.opened.now.found in
    let made : AreAllReady c.args.head c.args.count old new found = subst (λ (l : List (List LogItem)). AreAllReady c.args.head c.args.count old new l) c.as_slice.ensures c.in-Ok.ensures.ready in
    let is : IsPart found (slice_range c.as_slice-2.result.now c.args.head (c.args.head + c.args.count)) c.args.head c.args.count =
    record { is = ap (λ (l : List (List LogItem)). slice_range l c.args.head (c.args.head + c.args.count)) c.as_slice-2.ensures; within = c.requires.within } in
    read_all c.opened_holds.ensures.before before old new found (slice_range c.as_slice-2.result.now c.args.head (c.args.head + c.args.count)) c.args.head c.args.count generation all is used
    (are_ready laws before old new found c.args.head c.args.count all c.requires.within made.all.many made) c.records_are_held.ensures.items begun c.read_logs.result c.read_logs.ensures

pub returns-in-Err-clause-read : goal.returns-in-Err-clause-read
returns-in-Err-clause-read g c = λ before generation used all begun.
    let laws = ready_laws c.logs_are_lists.ensures.placed c.one_list.ensures c.opening_is_safe.ensures.adds c.opening_is_safe.ensures.format c.upgrade_keeps.ensures in
    let old = c.args.opened.now.logs.items in
    let new = c.make_ready.new.logs.items in
    let found : List (List LogItem) = c.args.opened.now.found in
    let why : AreNotReady c.args.head c.args.count old new found c.in-Err.no =
    subst (λ (l : List (List LogItem)). AreNotReady c.args.head c.args.count old new l c.in-Err.no) c.as_slice.ensures c.in-Err.ensures.ready in
    let many : length new ≡ length old = search rules in
    not_ready laws before old new found c.args.head c.args.count generation c.in-Err.no all c.requires.within many used why
