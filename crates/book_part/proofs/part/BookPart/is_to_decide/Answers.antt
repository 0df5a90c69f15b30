use Rattle.std.proofs.Common.{ap, ◌∙◌}
use Rattle.std.specs.Prelude.{is_some}
use Rattle.book_part.proofs.Branches.{then_and, else_and}
use Rattle.book_part.proofs.Asked.{to_decide_shown}
use Rattle.book_part.proofs.part.BookPart.is_to_decide.Goals as goal

pub returns-then-is_some : goal.returns-then-is_some
returns-then-is_some c = λ b s. then_and _ _ _ _ (c.is_some.ensures ∙ ap is_some c.result.ensures) c.if-is_some.true c.is_undecided.ensures ∙ to_decide_shown _ _ c.self.view_is b c.args.t.0 s

pub returns-else-is_some : goal.returns-else-is_some
returns-else-is_some c = λ b s. else_and _ _ _ (c.is_some.ensures ∙ ap is_some c.result.ensures) c.if-is_some.false ∙ to_decide_shown _ _ c.self.view_is b c.args.t.0 s
