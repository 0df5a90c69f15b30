use Rattle.std.proofs.Common.{◌∙◌}
use Rattle.book_part.proofs.Asked.{decided_shown}
use Rattle.book_part.proofs.part.BookPart.is_decided.Goals as goal

pub returns : goal.returns
returns c = λ b s. c.is_decided.ensures.decided ∙ decided_shown _ _ c.self.view_is b c.args.t.0 s
