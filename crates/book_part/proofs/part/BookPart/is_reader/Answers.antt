use Rattle.std.proofs.Common.{◌∙◌}
use Rattle.book_part.proofs.Asked.{reader_shown}
use Rattle.book_part.proofs.part.BookPart.is_reader.Goals as goal

pub returns : goal.returns
returns c = λ b s. c.is_reader.ensures ∙ reader_shown _ _ c.self.view_is b c.args.t.0 s
