use Rattle.std.proofs.Common.{◌∙◌}
use Rattle.book_part.proofs.Asked.{standing_shown}
use Rattle.book_part.proofs.part.BookPart.stands_on.Goals as goal

pub returns : goal.returns
returns c = λ b s. c.stands_on.ensures ∙ standing_shown c.args.a.0 _ _ c.self.view_is b c.args.t.0 s
