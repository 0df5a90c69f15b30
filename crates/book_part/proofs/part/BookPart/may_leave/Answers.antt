use Rattle.std.proofs.Common.{◌∙◌}
use Rattle.book_part.proofs.Branches.{then_or, else_or}
use Rattle.book_part.proofs.Asked.{may_leave_shown}
use Rattle.book_part.proofs.part.BookPart.may_leave.Goals as goal

pub returns-then-is_given_up : goal.returns-then-is_given_up
returns-then-is_given_up c = λ b s. then_or _ _ _ c.is_given_up.ensures c.if-is_given_up.true ∙ may_leave_shown _ _ c.self.view_is b c.args.t.0 s

pub returns-else-is_given_up : goal.returns-else-is_given_up
returns-else-is_given_up c = λ b s. else_or _ _ _ _ c.is_given_up.ensures c.if-is_given_up.false c.is_sealed.ensures.sealed ∙ may_leave_shown _ _ c.self.view_is b c.args.t.0 s
