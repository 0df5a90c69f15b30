use Rattle.std.proofs.Common.{ap, ◌∙◌}
use Rattle.protocol.specs.Words.{is_value}
use Rattle.book_part.proofs.Branches.{then_and, else_and}
use Rattle.book_part.proofs.Asked.{value_shown}
use Rattle.book_part.proofs.part.BookPart.has_value.Goals as goal

pub returns-then-is_value : goal.returns-then-is_value
returns-then-is_value c = λ b s. then_and _ _ _ _ (c.is_value.ensures ∙ ap is_value c.result.ensures) c.if-is_value.true c.is_undoomed.ensures ∙ value_shown _ _ c.self.view_is b c.args.t.0 s

pub returns-else-is_value : goal.returns-else-is_value
returns-else-is_value c = λ b s. else_and _ _ _ (c.is_value.ensures ∙ ap is_value c.result.ensures) c.if-is_value.false ∙ value_shown _ _ c.self.view_is b c.args.t.0 s
