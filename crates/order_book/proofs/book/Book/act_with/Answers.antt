use Rattle.order_book.proofs.book.Book.act_with.Goals as goal

pub returns-clause-found : goal.returns-clause-found
returns-clause-found c = rw (← c.self.view_is) c.act_with.ensures.found
