use Rattle.std.proofs.Common.{ap, ◌∙◌}
use Rattle.protocol.specs.Words.{is_failure}
use Rattle.book_part.proofs.Branches.{then_or, else_or}
use Rattle.book_part.proofs.Asked.{undone_shown}
use Rattle.book_part.proofs.part.BookPart.is_undone.Goals as goal

pub returns-then-is_given_up : goal.returns-then-is_given_up
returns-then-is_given_up c = λ b s. then_or _ _ _ c.is_given_up.ensures c.if-is_given_up.true ∙ undone_shown _ _ c.self.view_is b c.args.t.0 s

pub returns-else-is_given_up : goal.returns-else-is_given_up
returns-else-is_given_up c = λ b s. else_or _ _ _ _ c.is_given_up.ensures c.if-is_given_up.false (c.is_failure.ensures ∙ ap is_failure c.result.ensures) ∙ undone_shown _ _ c.self.view_is b c.args.t.0 s
