use Rattle.std.proofs.Common.{◌≡◌, ◌+◌, ◌≤◌, length, refl, ap, arith, List, rules}
use Rattle.std.specs.Prelude.{slice_range}
use Rattle.gate_log.specs.State.{LogState}
use Rattle.log_opening.proofs.Making.{all_open, are_second, left_first}
use Rattle.log_opening.proofs.Numbers.{part_long}
use Rattle.log_opening.proofs.upgrades.make_ready.Goals as goal

pub upgrade_logs-requires-clause-open : goal.upgrade_logs-requires-clause-open
upgrade_logs-requires-clause-open g c = all_open c.args.logs.now.items c.args.found.now c.requires.ready

pub first_old-requires : goal.first_old-requires
first_old-requires g c =
    let size : length c.as_slice.result.now ≡ length c.upgrade_logs.new.logs.items = ap (λ (l : List LogState). length l) c.as_slice.ensures.value in
    let many : length c.upgrade_logs.new.logs.items ≡ length c.args.logs.now.items = c.in-Ok.ensures.ready.many in
    let within : c.args.head + c.args.count ≤ length c.args.logs.now.items = search rules in
    let there : c.args.head + c.args.count ≤ length c.as_slice.result.now = omega (arith, size, many, within) in
    let most : c.args.head + c.args.count ≤ 4 = omega (arith, c.requires.within, c.requires.few) in
    omega (arith, part_long c.as_slice.result.now c.args.head c.args.count there, most)

pub returns-in-Some-clause-ready : goal.returns-in-Some-clause-ready
returns-in-Some-clause-ready g c =
    let within : c.args.head + c.args.count ≤ length c.args.logs.now.items = search rules in
    let is = ap (λ (l : List LogState). slice_range l c.args.head (c.args.head + c.args.count)) c.as_slice.ensures.value in (
      refl,
      (
        c.in-Some.number,
        refl,
        left_first c.args.head c.args.count c.args.logs.now.items c.upgrade_logs.new.logs.items c.args.found.now c.requires.ready within c.in-Ok.ensures.ready _ is
            c.in-Some.number c.in-Some.ensures.0 c.in-Some.ensures.1 c.in-Some.ensures.2,
      ),
    )

pub returns-in-None-clause-ready : goal.returns-in-None-clause-ready
returns-in-None-clause-ready g c =
    let within : c.args.head + c.args.count ≤ length c.args.logs.now.items = search rules in
    let is = ap (λ (l : List LogState). slice_range l c.args.head (c.args.head + c.args.count)) c.as_slice.ensures.value in
    are_second c.args.head c.args.count c.args.logs.now.items c.upgrade_logs.new.logs.items c.args.found.now c.requires.ready within c.in-Ok.ensures.ready _ is c.in-None.ensures
