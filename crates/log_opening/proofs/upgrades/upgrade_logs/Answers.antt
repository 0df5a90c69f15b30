use Rattle.std.proofs.Common.{◌≡◌, ◌+◌, ◌<◌, ℕ, List, length, refl, ◌∙◌, ap, subst, arith, rules}
use Rattle.std.proofs.lemmas.List.{get_or_read}
use Rattle.gate_log.specs.declared.logs.LogItem.{LogItem}
use Rattle.gate_log.specs.State.{LogState, log_at}
use Rattle.log_opening.specs.Upgrades.{AreReadyBelow, IsMadeReady, IsNotMadeReady, items_at}
use Rattle.log_opening.proofs.Making.{next_kept, none_made, open_at, ready_more, stopped_here}
use Rattle.log_opening.proofs.upgrades.upgrade_logs.Goals as goal

pub loop-number-init : goal.loop-number-init
loop-number-init g c = record { within = omega arith; ready = none_made c.args.head c.args.logs.now.items c.args.listed.now; len = refl; room = refl }

pub make_one_ready-requires : goal.make_one_ready-requires
make_one_ready-requires g c =
    let old = c.args.logs.now.items in
    let mid = c.loop-number.logs.items in
    let n = c.loop-number.number in
    let at = c.args.head + n in
    let there : at < length mid = search rules in
    let is : c.index_mut.result.now ≡ log_at mid at = get_or_read mid at c.index_mut.result.now there c.index_mut.ensures.value _ in
    let first : at < length old = search rules in
    ap (λ (x : LogState). x.shut) (is ∙ next_kept c.args.head n old mid c.args.listed.now c.loop-number.invariant.ready) ∙ open_at old at first c.requires.open

pub loop-number-preserved : goal.loop-number-preserved
loop-number-preserved g c =
    let old = c.args.logs.now.items in
    let mid = c.loop-number.logs.items in
    let n = c.loop-number.number in
    let at = c.args.head + n in
    let there : at < length mid = search rules in
    let is : c.index_mut.result.now ≡ log_at mid at = get_or_read mid at c.index_mut.result.now there c.index_mut.ensures.value _ in
    let made : IsMadeReady (log_at mid at) c.make_one_ready.new.log (items_at c.args.listed.now at) =
    subst (λ (xs : List LogItem). IsMadeReady (log_at mid at) c.make_one_ready.new.log xs) c.items_at.ensures
    (subst (λ (x : LogState). IsMadeReady x c.make_one_ready.new.log c.items_at.result.now) is c.in-Ok.ensures) in
    record {
      within = omega (arith, c.loop-number-test.true);
      ready = ready_more c.args.head n old mid _ c.args.listed.now c.make_one_ready.new.log c.loop-number.invariant.ready there refl made;
      len = search rules;
      room = search rules;
    }

pub returns-in-Err-clause-ready : goal.returns-in-Err-clause-ready
returns-in-Err-clause-ready g c =
    let old = c.args.logs.now.items in
    let mid = c.loop-number.logs.items in
    let n = c.loop-number.number in
    let at = c.args.head + n in
    let there : at < length mid = search rules in
    let is : c.index_mut.result.now ≡ log_at mid at = get_or_read mid at c.index_mut.result.now there c.index_mut.ensures.value _ in
    let not : IsNotMadeReady (log_at mid at) c.make_one_ready.new.log (items_at c.args.listed.now at) =
    subst (λ (xs : List LogItem). IsNotMadeReady (log_at mid at) c.make_one_ready.new.log xs) c.items_at.ensures
    (subst (λ (x : LogState). IsNotMadeReady x c.make_one_ready.new.log c.items_at.result.now) is c.in-Err.ensures) in
    (n, refl, stopped_here c.args.head n old mid _ c.args.listed.now c.make_one_ready.new.log c.loop-number.invariant.ready there refl c.args.count c.loop-number-test.true not)

pub returns-clause-ready : goal.returns-clause-ready
returns-clause-ready g c =
    let whole : c.loop-number.number ≡ c.args.count = omega (arith, c.loop-number-test.false, c.loop-number.invariant.within) in
    subst (λ (n : ℕ). AreReadyBelow c.args.head n c.args.logs.now.items c.loop-number.logs.items c.args.listed.now) whole c.loop-number.invariant.ready
