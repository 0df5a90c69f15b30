use Rattle.std.proofs.Common.{is_some, map, sym, ap, subst, ◌∙◌}
use Rattle.ready_listing.specs.Listed.{Adds}
use Rattle.ready_listing.proofs.Adding.{adds_none}
use Rattle.protocol.specs.Meant.{tid_number}
use Rattle.ready_news.specs.InCells.{of_shown, late_by, of_late}
use Rattle.ready_news.proofs.Common.{adds_next, adds_each, adds_if, desk_there, at_none, at_some}
use Rattle.ready_news.proofs.at_hand.AtHand.list_late.Goals as goal

pub returns-in_default : goal.returns-in_default
returns-in_default c =
    subst (λ o. Adds c.args.news.now.items c.args.news.now.items (of_shown (late_by c.args.k.0 c.args.a.0 c.args.self.now.hand.now.desk) o)) (at_none (λ x. x.now.cell) _ _ c.cell.ensures c.in_default.not-Some) (adds_none c.args.news.now.items)

pub desk-desk-requires : goal.desk-desk-requires
desk-desk-requires c = desk_there c.args.self.now.hand.now c.requires

pub loop-t-preserved : goal.loop-t-preserved
loop-t-preserved c =
    adds_next (of_late c.args.a.0 c.desk-desk.result.now) tid_number c.deref-t-items.result.now c.loop-t.t-index _ c.args.news.now.items c.loop-t.news.items c.push_if.new.news.items c.loop-t-test.true c.loop-t.invariant
    (adds_if _ c.loop-t.news.items c.push_if.new.news.items _ _ (c.is_some.ensures ∙ ap is_some c.result.ensures) c.in_ok-push_if.ensures)

pub returns : goal.returns
returns c =
    let k = c.args.k.0 in
    let a = c.args.a.0 in
    let d = c.desk-desk.result.now in
    let x = c.in-Some.cell.now.cell in
    let old = c.args.news.now.items in
    let late = c.loop-t.news.items in
    let all = adds_each (of_late a d) tid_number c.deref-t-items.result.now _ c.loop-t.t-index old late (ap (map tid_number) c.deref-t-items.ensures.value ∙ c.in_ok-undone.ensures) c.loop-t-test.false c.loop-t.invariant in
    let owed = subst (λ o. Adds old late (late_by k a o x)) (sym c.desk-desk.ensures) all in
    subst (λ o. Adds old late (of_shown (late_by k a c.args.self.now.hand.now.desk) o)) (at_some (λ y. y.now.cell) _ _ _ c.cell.ensures c.in-Some.is) owed
