use Rattle.std.proofs.Common.{◌∙◌}
use Rattle.book_part.proofs.Asked.{undoomed_shown}
use Rattle.book_part.proofs.part.BookPart.is_undoomed.Goals as goal

pub returns : goal.returns
returns c = λ b s. c.is_undoomed.ensures ∙ undoomed_shown _ _ c.self.view_is b c.args.t.0 s
