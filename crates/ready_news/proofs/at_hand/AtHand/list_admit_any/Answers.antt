use Rattle.std.proofs.Common.{subst, OnOk}
use Rattle.ready_listing.specs.Listed.{Adds}
use Rattle.snap_hand.specs.Tables.{text_of}
use Rattle.ready_news.specs.InRing.{admits}
use Rattle.ready_news.proofs.at_hand.AtHand.list_admit_any.Goals as goal

pub returns : goal.returns
returns c b s = subst (λ p. OnOk c.list_admit.result (Adds c.args.news.now.items c.list_admit.new.news.items (admits p (text_of c.args.self.now.tables.now) b c.args.self.now.ring.now))) c.has_act.ensures (c.list_admit.ensures b s)
