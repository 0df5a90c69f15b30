use Rattle.std.proofs.Common.{sym, subst, ◌∙◌, OnOk}
use Rattle.ready_listing.specs.Listed.{Adds}
use Rattle.ready_listing.proofs.Adding.{adds_none}
use Rattle.ready_news.specs.InAnswers.{of_tx_if}
use Rattle.ready_news.proofs.at_hand.AtHand.list_over.Goals as goal

pub returns-then-not-may_leave : goal.returns-then-not-may_leave
returns-then-not-may_leave c b s = subst (λ p. Adds c.args.news.now.items c.args.news.now.items (of_tx_if p b c.args.t.0)) (sym c.if-not-may_leave.true ∙ c.may_leave.ensures b s) (adds_none c.args.news.now.items)

pub returns : goal.returns
returns c b s = subst (λ p. OnOk c.list_tx.result (Adds c.args.news.now.items c.list_tx.new.news.items (of_tx_if p b c.args.t.0))) (sym c.if-not-may_leave.false ∙ c.may_leave.ensures b s) (c.list_tx.ensures b s)
