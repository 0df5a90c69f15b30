use Rattle.std.specs.Option.{option_map}
use Rattle.std.proofs.Common.{sym, ap, subst, ◌∙◌, OnOk}
use Rattle.ready_listing.specs.Listed.{Adds}
use Rattle.ready_listing.proofs.Adding.{adds_none}
use Rattle.protocol.specs.Conditions.{is_not_doomed}
use Rattle.protocol.specs.Meant.{actor_number}
use Rattle.ready_news.specs.InPost.{comes_to}
use Rattle.ready_news.proofs.at_hand.AtHand.list_control.Goals as goal

pub returns-in-Some : goal.returns-in-Some
returns-in-Some c b s =
    subst (λ o. OnOk c.list_coming.result (Adds c.args.news.now.items c.list_coming.new.news.items (comes_to c.args.t.0 c.args.self.now.hand.now.cells (is_not_doomed c.args.t.0 b.acts) o))) (ap (option_map actor_number) (sym c.in-Some.is) ∙ c.control_to.ensures) (c.list_coming.ensures b s)

pub returns-in-None : goal.returns-in-None
returns-in-None c b s =
    subst (λ o. Adds c.args.news.now.items c.args.news.now.items (comes_to c.args.t.0 c.args.self.now.hand.now.cells (is_not_doomed c.args.t.0 b.acts) o)) (ap (option_map actor_number) (sym c.in-None.is) ∙ c.control_to.ensures) (adds_none c.args.news.now.items)
