use Rattle.std.proofs.Common.{ap}
use Rattle.std.specs.Prelude.{nat_lt}
use Rattle.ready_news.proofs.at_hand.AtHand.has_room_for_act.Goals as goal

pub returns : goal.returns
returns c b s = ap (λ n. nat_lt n c.args.self.now.tables.now.work.acts) (c.live.ensures b s)
