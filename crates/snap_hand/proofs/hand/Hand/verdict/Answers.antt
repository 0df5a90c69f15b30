use Rattle.std.proofs.Common.{sym, ap, ◌∙◌}
use Rattle.protocol.specs.Verdicts.{verdict}
use Rattle.snap_hand.proofs.Held.{book_there, desk_there}
use Rattle.snap_hand.proofs.hand.Hand.verdict.Goals as goal

pub book-requires : goal.book-requires
book-requires c = book_there c.args.self.now c.requires.book

pub desk-requires : goal.desk-requires
desk-requires c = desk_there c.args.self.now c.requires.desk

pub returns : goal.returns
returns c s fits =
    c.verdict.ensures s.book (fits.book _ c.book.ensures)
    ∙ ap (verdict c.args.n.0 s.book) (sym (fits.desk _ c.desk.ensures))
