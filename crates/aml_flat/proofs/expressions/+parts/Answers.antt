use Rattle.std.proofs.Common.{◌≡◌, sym, subst}
use Rattle.std.proofs.lemmas.Result.{IfOk-weaker}
use Rattle.aml_tree.specs.Tree.{Group, Negative, chain_tree, expression_tree, link_trees}
use Rattle.aml_tree.specs.TreeRules.{tree_of_chain}
use Rattle.aml_flat.specs.Flat.{MakesWhole, leftmost}
use Rattle.aml_flat.proofs.Rows.{makes_all, makes_chain, makes_group, makes_negative, makes_next, makes_on, tree_of_group, tree_of_negative}
use Rattle.aml_flat.proofs.expressions.+parts.Goals as goal

pub put_parts-returns-in_ok-put_parts-in-Group : goal.put_parts-returns-in_ok-put_parts-in-Group
put_parts-returns-in_ok-put_parts-in-Group t c =
    let x = expression_tree c.in-Group.inner.value in
    let e : expression_tree c.args.e.now ≡ Group x = rw c.in-Group.is (tree_of_group c.in-Group.inner) in
    let a = c.args.parts.now.items in
    let b = c.put_parts.new.parts.items in
    let d = c.put_part.new.parts.items in
    let whole : MakesWhole a b x = rw c.deref.ensures at c.in_ok-put_parts-in-Group.ensures in
    let P : _ → Type 0 = λ y. MakesWhole a d y in
    IfOk-weaker c.put_part.result _ _ (λ o h. subst P (sym e) (makes_on a b d (leftmost x) x (Group x) whole (makes_group b d x h))) c.put_part.ensures

pub put_parts-returns-in_ok-put_parts-in-Negative : goal.put_parts-returns-in_ok-put_parts-in-Negative
put_parts-returns-in_ok-put_parts-in-Negative t c =
    let x = expression_tree c.in-Negative.inner.value in
    let e : expression_tree c.args.e.now ≡ Negative x = rw c.in-Negative.is (tree_of_negative c.in-Negative.inner) in
    let a = c.args.parts.now.items in
    let b = c.put_parts-in-Negative.new.parts.items in
    let d = c.put_part-in-Negative.new.parts.items in
    let whole : MakesWhole a b x = rw c.deref-in-Negative.ensures at c.in_ok-put_parts-in-Negative.ensures in
    let P : _ → Type 0 = λ y. MakesWhole a d y in
    IfOk-weaker c.put_part-in-Negative.result _ _ (λ o h. subst P (sym e) (makes_on a b d (leftmost x) x (Negative x) whole (makes_negative b d x h))) c.put_part-in-Negative.ensures

pub put_parts-returns-in_ok-put_parts-in-Chain : goal.put_parts-returns-in_ok-put_parts-in-Chain
put_parts-returns-in_ok-put_parts-in-Chain t c =
    let x = expression_tree c.in-Chain.first.value in
    let ls = link_trees c.in-Chain.rest.items in
    let e : expression_tree c.args.e.now ≡ chain_tree x ls = rw c.in-Chain.is (tree_of_chain c.in-Chain.first c.in-Chain.rest) in
    let a = c.args.parts.now.items in
    let b = c.put_parts-in-Chain.new.parts.items in
    let d = c.put_links.new.parts.items in
    let whole : MakesWhole a b x = rw c.deref-in-Chain.ensures at c.in_ok-put_parts-in-Chain.ensures in
    let P : _ → Type 0 = λ y. MakesWhole a d y in
    let chain = rw c.deref-in-Chain-2.ensures.value at c.put_links.ensures in
    IfOk-weaker c.put_links.result _ _ (λ o h. subst P (sym e) (makes_chain a b d x ls whole h)) chain

pub put_links-loop-link-preserved : goal.put_links-loop-link-preserved
put_links-loop-link-preserved t c =
    makes_next c.args.parts.now.items c.loop-link.parts.items c.put_link.new.parts.items c.args.rest.now c.loop-link.link-index c.link-item.result c.loop-link-test.true c.link-item.is c.loop-link.invariant c.in_ok-put_link.ensures

pub put_links-returns : goal.put_links-returns
put_links-returns t c = makes_all c.args.parts.now.items c.loop-link.parts.items c.args.rest.now c.loop-link.link-index c.loop-link-test.false c.loop-link.invariant
