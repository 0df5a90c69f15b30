use Rattle.std.proofs.Common.{◌==◌, ◌&&◌, ap, sym, ◌∙◌, eq-eqb, ne_eqb}
use Rattle.core_rows.proofs.Found.{test_of_told, nothing_told}
use Rattle.core_rows.proofs.arriving.is_of_epoch.Goals as goal

pub returns-then-head-epoch : goal.returns-then-head-epoch
returns-then-head-epoch g c =
    sym (ap (λ v. v && (c.args.seen == c.args.epoch)) (eq-eqb c.in-Some.head.epoch c.args.epoch c.if-head-epoch.true))
    ∙ test_of_told (λ n. (n == c.args.epoch) && (c.args.seen == c.args.epoch)) (λ m. m.epoch) _ _ c.in-Some.ensures.epoch

pub returns-else-head-epoch : goal.returns-else-head-epoch
returns-else-head-epoch g c =
    let other = ne_eqb c.in-Some.head.epoch c.args.epoch c.if-head-epoch.false in
    other ∙ sym (ap (λ v. v && (c.args.seen == c.args.epoch)) other)
    ∙ test_of_told (λ n. (n == c.args.epoch) && (c.args.seen == c.args.epoch)) (λ m. m.epoch) _ _ c.in-Some.ensures.epoch

pub returns-in-None : goal.returns-in-None
returns-in-None g c = nothing_told (λ n. (n == c.args.epoch) && (c.args.seen == c.args.epoch)) (λ m. m.epoch) _ c.in-None.ensures.epoch
