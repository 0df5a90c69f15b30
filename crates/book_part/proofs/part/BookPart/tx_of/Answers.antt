use Rattle.std.proofs.Common.{◌∙◌}
use Rattle.book_part.proofs.Asked.{tx_shown}
use Rattle.book_part.proofs.part.BookPart.tx_of.Goals as goal

pub returns : goal.returns
returns c = λ b s. c.tx.ensures ∙ tx_shown _ _ c.self.view_is b c.args.t.0 s
