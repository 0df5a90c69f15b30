use Rattle.std.proofs.Common.{◌≡◌, ◌+◌, ◌-◌, length, rules, arith, ◌∙◌, sym}
use Rattle.aml_resolver.proofs.Endings.{ends_last}
use Rattle.aml_resolver.proofs.ends.+ends.Goals as goal

pub ends-returns-else-count-eq0 : goal.ends-returns-else-count-eq0
ends-returns-else-count-eq0 t c =
    let ss = c.args.code.now.statements.items in
    let whole : c.len-count.result ≡ length ss = search rules in
    let last : (c.len-count.result - 1) + 1 ≡ length ss = omega arith in
    c.ends_with.ensures c.args.code.now.last_line ∙ sym (ends_last ss (c.len-count.result - 1) c.index.result.now c.args.code.now.last_line last c.index.ensures)
