use Rattle.book_part.proofs.Branches.{then_and, else_and}
use Rattle.ready_news.proofs.at_hand.AtHand.may_ask.Goals as goal

pub returns-then-is_undoomed : goal.returns-then-is_undoomed
returns-then-is_undoomed c b s = then_and _ _ _ _ (c.is_undoomed.ensures b s) c.if-is_undoomed.true c.is_new_to.ensures

pub returns-else-is_undoomed : goal.returns-else-is_undoomed
returns-else-is_undoomed c b s = else_and _ _ _ (c.is_undoomed.ensures b s) c.if-is_undoomed.false
