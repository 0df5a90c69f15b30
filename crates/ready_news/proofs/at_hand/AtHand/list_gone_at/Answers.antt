use Rattle.std.proofs.Common.{sym, subst, ◌∙◌, OnOk}
use Rattle.ready_listing.specs.Listed.{Adds}
use Rattle.ready_listing.proofs.Adding.{adds_none}
use Rattle.ready_news.specs.ByEvent.{of_all_gone_if}
use Rattle.ready_news.proofs.at_hand.AtHand.list_gone_at.Goals as goal

pub returns-then-not-may_have_acts : goal.returns-then-not-may_have_acts
returns-then-not-may_have_acts c b s = subst (λ p. Adds c.args.news.now.items c.args.news.now.items (of_all_gone_if p b)) (sym c.if-not-may_have_acts.true ∙ c.may_have_acts.ensures) (adds_none c.args.news.now.items)

pub returns : goal.returns
returns c b s = subst (λ p. OnOk c.list_all_gone.result (Adds c.args.news.now.items c.list_all_gone.new.news.items (of_all_gone_if p b))) (sym c.if-not-may_have_acts.false ∙ c.may_have_acts.ensures) (c.list_all_gone.ensures b s)
