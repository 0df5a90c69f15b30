use Rattle.std.proofs.Common.{◌≡◌, ◌<◌, ◌≤◌, length, get_or, map, subst}
use Rattle.std.proofs.lemmas.List.{take_all}
use Rattle.aml_tree.specs.Tree.{method_tree}
use Rattle.aml_flat.specs.Flat.{AllLie}
use Rattle.aml_flat.proofs.Laying.{next_lies}
use Rattle.aml_flat.proofs.programs.flatten.Goals as goal

pub loop-method-preserved : goal.loop-method-preserved
loop-method-preserved c =
    let ms = c.args.program.now.methods in
    let h : c.loop-method.method-index < length ms = rw c.as_slice-method-items.ensures at c.loop-method-test.true in
    let is : c.method-item.result ≡ get_or ms c.loop-method.method-index c.method-item.result = rw c.as_slice-method-items.ensures at c.method-item.is in
    next_lies c.loop-method.operations.items c.block.new.operations.items c.loop-method.bodies.items c.put_body.new.bodies.items c.in_ok-body.body ms c.loop-method.method-index c.method-item.result h is c.in_ok-body.ensures.more c.loop-method.invariant c.in_ok-body.ensures.lies c.in_ok-put_body.ensures

pub returns : goal.returns
returns c =
    let ms = c.args.program.now.methods in
    let past : length ms ≤ c.loop-method.method-index = rw c.as_slice-method-items.ensures at c.loop-method-test.false in
    let P : _ → Type 0 = λ ts. AllLie c.loop-method.operations.items c.loop-method.bodies.items (map method_tree ts) in
    subst P (take_all c.loop-method.method-index ms past) c.loop-method.invariant
