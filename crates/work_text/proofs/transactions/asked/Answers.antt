use Rattle.std.proofs.Common.{◌+◌, ◌-◌, refl, arith}
use Rattle.aml_check.specs.Checked.{methods_of}
use Rattle.work_text.proofs.TransactionLines.{line_asks, no_call, no_numbers, no_uses, at_middle, at_end}
use Rattle.work_text.proofs.transactions.asked.Goals as goal

pub returns-in_default : goal.returns-in_default
returns-in_default c tx =
    no_call (methods_of c.args.program.now) c.args.actors c.args.line.now c.in_ok-words.words.items tx c.in_ok-words.ensures
    (λ kind actor method call. cc ((rw c.deref.ensures.value at c.in_default.ensures.only) kind actor method call))

pub returns-in_default-2 : goal.returns-in_default-2
returns-in_default-2 c tx =
    no_numbers (methods_of c.args.program.now) c.args.actors c.args.line.now c.in_ok-words.words.items c.in-Some.kind c.in-Some.actor c.in-Some.method c.params.result _ tx c.in_ok-words.ensures c.params.ensures
    (at_middle c.in_ok-words.words.items c.deref-2.result.now (3 + c.params.result - 3) c.params.result c.deref-2.ensures.value (omega arith)) (rw c.deref.ensures.value at c.in-Some.ensures.only)
    (rw c.in_default-2.is at c.in_ok-args.ensures)

pub returns-in_default-3 : goal.returns-in_default-3
returns-in_default-3 c tx =
    no_uses (methods_of c.args.program.now) c.args.actors c.args.line.now c.in_ok-words.words.items c.in-Some.kind c.in-Some.actor c.in-Some.method c.params.result _ tx c.in_ok-words.ensures c.params.ensures
    (at_end c.in_ok-words.words.items c.deref-3.result.now (3 + c.params.result) c.params.result c.deref-3.ensures.value refl) (rw c.deref.ensures.value at c.in-Some.ensures.only)
    (rw c.in_default-3.is at c.in_ok-uses.ensures)

pub returns : goal.returns
returns c =
    let numbers = rw c.in-Some-2.is at c.in_ok-args.ensures in
    let declared = rw c.in-Some-3.is at c.in_ok-uses.ensures in
    rw (c.from_vec.ensures, c.from_vec-2.ensures)
    (line_asks (methods_of c.args.program.now) c.args.actors c.args.line.now c.in_ok-words.words.items c.in-Some.kind c.in-Some.actor c.in-Some.method c.params.result c.in-Some-2.args.items c.in-Some-3.uses.items _ _
    c.in_ok-words.ensures c.params.ensures (at_middle c.in_ok-words.words.items c.deref-2.result.now (3 + c.params.result - 3) c.params.result c.deref-2.ensures.value (omega arith))
    (at_end c.in_ok-words.words.items c.deref-3.result.now (3 + c.params.result) c.params.result c.deref-3.ensures.value refl) (rw c.deref.ensures.value at c.in-Some.ensures.found) numbers declared.0 declared.1)
