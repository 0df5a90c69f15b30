use Rattle.std.proofs.Common.{refl, length, sym, ◌∙◌}
use Rattle.std.proofs.lemmas.Bool.{ltb-true}
use Rattle.ready_news.proofs.Common.{cell_is_there}
use Rattle.ready_news.proofs.InCells.{not_there}
use Rattle.ready_news.proofs.at_hand.AtHand.cell.Goals as goal

pub returns-then-not-has_actor : goal.returns-then-not-has_actor
returns-then-not-has_actor c = sym (not_there c.args.self.now.hand.now c.args.a.0 (sym c.has_actor.ensures ∙ c.if-not-has_actor.true))

pub cell-requires : goal.cell-requires
cell-requires c = cell_is_there c.args.self.now.hand.now c.requires (length c.args.self.now.hand.now.logs) c.args.a.0 refl (ltb-true c.args.a.0 (length c.args.self.now.hand.now.cells) (sym c.has_actor.ensures ∙ c.if-not-has_actor.false))
