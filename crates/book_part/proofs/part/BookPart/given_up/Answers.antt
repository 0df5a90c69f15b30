use Rattle.std.proofs.Common.{◌∙◌}
use Rattle.book_part.proofs.Live.{given_up_shown}
use Rattle.book_part.proofs.part.BookPart.given_up.Goals as goal

pub returns : goal.returns
returns c = λ b s. c.in_ok-tids.ensures ∙ given_up_shown _ _ c.self.view_is b s
