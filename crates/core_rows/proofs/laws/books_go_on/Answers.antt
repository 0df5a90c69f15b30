use Rattle.core_rows.proofs.laws.books_go_on.Goals as goal

pub returns : goal.returns
returns g c w e s h r shows ok = c.halves_stay_of_their_book.ensures.stays w e s h shows ((c.rows_may.ensures w s r).halves e h.orders h.votes ok shows.0)
