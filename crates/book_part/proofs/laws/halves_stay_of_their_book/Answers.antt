use Rattle.book_part.proofs.Going.{begins, stays}
use Rattle.book_part.proofs.laws.halves_stay_of_their_book.Goals as goal

pub returns-clause-begins : goal.returns-clause-begins
returns-clause-begins g f = begins

pub returns-clause-stays : goal.returns-clause-stays
returns-clause-stays g f = stays f.halves_stay_fit.ensures
