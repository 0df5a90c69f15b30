use Rattle.std.proofs.Common.{[], ap, subst, ◌∙◌}
use Rattle.aml_tree.specs.Tree.{expression_tree}
use Rattle.aml_flat.specs.Flat.{MakesWhole, row_tree}
use Rattle.aml_flat.proofs.Rows.{row_whole}
use Rattle.aml_flat.proofs.expressions.flat.Goals as goal

pub returns : goal.returns
returns c =
    let ps = c.put_parts.new.parts.items in
    let e = expression_tree c.args.e.now in
    ap (λ x. row_tree x [] ps) c.first_operand.ensures ∙ row_whole ps e (subst (λ before. MakesWhole before ps e) c.new-parts.ensures.items c.in_ok-put_parts.ensures)
