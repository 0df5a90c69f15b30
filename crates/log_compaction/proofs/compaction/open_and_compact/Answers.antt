use Rattle.std.proofs.Common.{◌≡◌, ◌≤◌, ℕ, List, inl, length, sym, subst, arith, rules}
use Rattle.std.specs.Prelude.{◌⊎◌, MatchResult, string_bytes}
use Rattle.std.specs.List.{AllZip}
use Rattle.snap_report.specs.Lines.{compacted_text}
use Rattle.log_opening.proofs.AllFound.{found_many}
use Rattle.log_opening.proofs.Opening.{touched_later}
use Rattle.log_opening.proofs.Places.{now_all}
use Rattle.log_opening.specs.Devices.{Device, devices_now}
use Rattle.log_compaction.specs.Compacted.{AreCompacted, IsNoCompaction}
use Rattle.log_compaction.specs.Steps.{IsGuarded, IsOpenSet}
use Rattle.log_compaction.proofs.Compacting.{all_later, not_folded}
use Rattle.log_compaction.proofs.Found.{all_formats, all_open, group_is, one_side, some_lists}
use Rattle.log_compaction.proofs.compaction.open_and_compact.Goals as goal

-- ---- what is asked of open logs

pub compact_open-requires-clause-four : goal.compact_open-requires-clause-four
compact_open-requires-clause-four g c =
    (found_many (devices_now g.D.LogDev.told g.D.LogDev.faults c.args.opened.now.logs.items c.args.devices.now.items) c.open_and_recover.new.opened.logs.items c.open_and_recover.new.opened.found c.in-Ok.ensures.found, c.in-Ok.ensures.all)

pub compact_open-requires-clause-within : goal.compact_open-requires-clause-within
compact_open-requires-clause-within g c = omega (arith, c.in-Ok.ensures.recovered.2.within, c.in-Ok.ensures.recovered.1)

pub compact_open-requires-clause-some : goal.compact_open-requires-clause-some
compact_open-requires-clause-some g c =
    let some = some_lists c.folds_are_begun.ensures c.in-Ok.ensures.recovered.0 c.in-Ok.folded c.in-Ok.ensures.recovered.2.folded in omega (arith, some, c.in-Ok.ensures.recovered.1)

pub compact_open-requires-clause-side : goal.compact_open-requires-clause-side
compact_open-requires-clause-side g c =
    let lists = c.in-Ok.ensures.recovered.0 in
    let before : List Device = devices_now g.D.LogDev.told g.D.LogDev.faults c.args.opened.now.logs.items c.args.devices.now.items in
    subst (λ (n : ℕ). (c.in-Ok.found.head ≡ 0) ⊎ (c.in-Ok.found.head ≡ n)) c.in-Ok.ensures.recovered.1 (one_side before c.in-Ok.found.head lists c.in-Ok.ensures.recovered.2.read.given)

pub compact_open-requires-clause-open : goal.compact_open-requires-clause-open
compact_open-requires-clause-open g c =
    all_open (devices_now g.D.LogDev.told g.D.LogDev.faults c.args.opened.now.logs.items c.args.devices.now.items) c.open_and_recover.new.opened.logs.items c.open_and_recover.new.opened.found
    c.in-Ok.ensures.found

pub compact_open-requires-clause-format : goal.compact_open-requires-clause-format
compact_open-requires-clause-format g c =
    all_formats (devices_now g.D.LogDev.told g.D.LogDev.faults c.args.opened.now.logs.items c.args.devices.now.items) c.open_and_recover.new.opened.logs.items c.open_and_recover.new.opened.found
    c.in-Ok.ensures.found

pub compact_open-requires-clause-records : goal.compact_open-requires-clause-records
compact_open-requires-clause-records g c =
    let is = c.in-Ok.ensures.recovered.2 in
    let before : List Device = devices_now g.D.LogDev.told g.D.LogDev.faults c.args.opened.now.logs.items c.args.devices.now.items in
    group_is c.compaction_fits.ensures c.folds_are_begun.ensures before c.in-Ok.found.head c.in-Ok.found.logs c.in-Ok.ensures.recovered.0 c.in-Ok.folded is.read.given is.within
    c.in-Ok.ensures.recovered.1 is.folded

-- ---- answers

pub returns-in-Ok-clause-answered : goal.returns-in-Ok-clause-answered
returns-in-Ok-clause-answered g c =
    let told = g.D.LogDev.told in
    let faults = g.D.LogDev.faults in
    let before : List Device = devices_now told faults c.args.opened.now.logs.items c.args.devices.now.items in
    let is = c.in-Ok.ensures.recovered.2 in
    let set : IsOpenSet before c.open_and_recover.new.opened.logs.items c.open_and_recover.new.opened.found c.in-Ok.found.head c.in-Ok.ensures.recovered.0 c.in-Ok.folded =
    record { all = c.in-Ok.ensures.found; given = is.read.given; within = is.within; folded = is.folded } in
    let rest = c.open_and_recover.new.devices.items in
    let none : length rest ≡ 0 = search rules in
    subst (λ (ds : List Device). MatchResult c.compact_open.result (λ line. (generation : ℕ) × (string_bytes line ≡ compacted_text generation) × AreCompacted before ds generation) (λ no. IsNoCompaction before ds no))
    (sym (now_all told faults c.compact_open.new.opened.logs.items rest none)) (c.compact_open.ensures.answered before c.in-Ok.ensures.recovered.0 set c.in-Ok.ensures.recovered.1)

pub returns-in-Ok-clause-guarded : goal.returns-in-Ok-clause-guarded
returns-in-Ok-clause-guarded g c =
    let told = g.D.LogDev.told in
    let faults = g.D.LogDev.faults in
    let before : List Device = devices_now told faults c.args.opened.now.logs.items c.args.devices.now.items in
    let is = c.in-Ok.ensures.recovered.2 in
    let set : IsOpenSet before c.open_and_recover.new.opened.logs.items c.open_and_recover.new.opened.found c.in-Ok.found.head c.in-Ok.ensures.recovered.0 c.in-Ok.folded =
    record { all = c.in-Ok.ensures.found; given = is.read.given; within = is.within; folded = is.folded } in
    let rest = c.open_and_recover.new.devices.items in
    let none : length rest ≡ 0 = search rules in
    subst (λ (ds : List Device). IsGuarded before ds) (sym (now_all told faults c.compact_open.new.opened.logs.items rest none))
    (c.compact_open.ensures.guarded before c.in-Ok.ensures.recovered.0 set c.in-Ok.ensures.recovered.1)

pub returns-in-Ok-clause-later : goal.returns-in-Ok-clause-later
returns-in-Ok-clause-later g c =
    let told = g.D.LogDev.told in
    let faults = g.D.LogDev.faults in
    let before : List Device = devices_now told faults c.args.opened.now.logs.items c.args.devices.now.items in
    let rest = c.open_and_recover.new.devices.items in
    let none : length rest ≡ 0 = search rules in
    subst (λ (ds : List Device). AllZip (λ (b a : Device). b.faults ≤ a.faults) before ds) (sym (now_all told faults c.compact_open.new.opened.logs.items rest none))
    (all_later before c.open_and_recover.new.opened.logs.items c.compact_open.new.opened.logs.items c.open_and_recover.new.opened.found c.in-Ok.ensures.found (search rules) c.compact_open.ensures.later)

-- ---- not opened, or folded to nothing

pub returns-in-Err-clause-answered : goal.returns-in-Err-clause-answered
returns-in-Err-clause-answered g c = not_folded _ _ c.in-Err.no c.in-Err.ensures.refused.cause

pub returns-in-Err-clause-guarded : goal.returns-in-Err-clause-guarded
returns-in-Err-clause-guarded g c = inl c.in-Err.ensures.refused.touched

pub returns-in-Err-clause-later : goal.returns-in-Err-clause-later
returns-in-Err-clause-later g c = touched_later _ _ c.in-Err.ensures.refused.touched
