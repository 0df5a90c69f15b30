use Rattle.std.proofs.Common.{◌∙◌}
use Rattle.book_part.proofs.Told.{live_shown}
use Rattle.book_part.proofs.part.BookPart.live.Goals as goal

pub returns : goal.returns
returns c = λ b s. c.live.ensures ∙ live_shown _ _ c.self.view_is b s
