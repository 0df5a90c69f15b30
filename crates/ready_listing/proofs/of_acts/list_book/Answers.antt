use Rattle.ready_listing.proofs.Books.{book_listed}
use Rattle.ready_listing.proofs.of_acts.list_book.Goals as goal

pub returns : goal.returns
returns c = book_listed c.args.hand.now.book c.book.result.now c.book.ensures c.list_live.result c.args.events.now.items c.list_live.new.events.items c.list_live.ensures
