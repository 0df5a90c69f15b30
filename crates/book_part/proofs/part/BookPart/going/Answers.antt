use Rattle.std.proofs.Common.{◌∙◌}
use Rattle.book_part.proofs.Live.{live_shown}
use Rattle.book_part.proofs.part.BookPart.going.Goals as goal

pub returns : goal.returns
returns c = λ b s. c.in_ok-tids.ensures ∙ live_shown _ _ c.self.view_is b s
