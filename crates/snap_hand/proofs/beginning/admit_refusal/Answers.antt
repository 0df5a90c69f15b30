use Rattle.std.proofs.Common.{refl}
use Rattle.snap_hand.specs.Tables.{fixed_of}
use Rattle.snap_hand.proofs.Held.{ring_there, book_there}
use Rattle.snap_hand.proofs.beginning.admit_refusal.Goals as goal

pub ring-requires : goal.ring-requires
ring-requires c = ring_there c.args.hand.now c.requires.asked.parts.0

pub book-requires : goal.book-requires
book-requires c = book_there c.args.hand.now c.requires.asked.parts.1.0

pub returns : goal.returns
returns c s r f = c.admit_refusal.ensures (fixed_of c.args.tables.now) s r (refl, f.ring _ c.ring.ensures, f.book _ c.book.ensures)
