use Rattle.book_part.proofs.Branches.{then_and, else_and}
use Rattle.ready_news.proofs.at_hand.AtHand.may_decide.Goals as goal

pub returns-then-is_to_decide : goal.returns-then-is_to_decide
returns-then-is_to_decide c b s = then_and _ _ _ _ (c.is_to_decide.ensures b s) c.if-is_to_decide.true (c.is_ready.ensures b s)

pub returns-else-is_to_decide : goal.returns-else-is_to_decide
returns-else-is_to_decide c b s = else_and _ _ _ (c.is_to_decide.ensures b s) c.if-is_to_decide.false
