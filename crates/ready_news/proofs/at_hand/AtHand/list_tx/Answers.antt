use Rattle.std.specs.Option.{option_map}
use Rattle.std.proofs.Common.{sym, ap, subst, ◌∙◌, OnOk}
use Rattle.ready_listing.specs.Listed.{Adds}
use Rattle.ready_listing.proofs.Adding.{adds_none}
use Rattle.ready_news.specs.InAnswers.{replies_of}
use Rattle.book_part.specs.order_book.Fates.{tx_number}
use Rattle.ready_news.proofs.at_hand.AtHand.list_tx.Goals as goal

pub returns-in-Some : goal.returns-in-Some
returns-in-Some c b s = subst (λ o. OnOk c.push_one.result (Adds c.args.news.now.items c.push_one.new.events.items (replies_of o))) (ap (option_map tx_number) (sym c.in-Some.is) ∙ c.tx_of.ensures b s) c.push_one.ensures

pub returns-in-None : goal.returns-in-None
returns-in-None c b s = subst (λ o. Adds c.args.news.now.items c.args.news.now.items (replies_of o)) (ap (option_map tx_number) (sym c.in-None.is) ∙ c.tx_of.ensures b s) (adds_none c.args.news.now.items)
