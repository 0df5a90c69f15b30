use Rattle.book_part.proofs.Numbered.{below_next}
use Rattle.book_part.proofs.laws.next_tid_is_above_orders.Goals as goal

pub returns : goal.returns
returns g c = below_next
