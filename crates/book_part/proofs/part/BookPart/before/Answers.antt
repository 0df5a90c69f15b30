use Rattle.std.proofs.Common.{◌∙◌}
use Rattle.book_part.proofs.Asked.{before_shown}
use Rattle.book_part.proofs.part.BookPart.before.Goals as goal

pub returns : goal.returns
returns c = λ b s. c.before-2.ensures ∙ before_shown _ _ c.self.view_is b c.args.t.0 s
