use Rattle.std.proofs.Common.{ap, ◌∙◌}
use Rattle.std.specs.Prelude.{nat_le}
use Rattle.book_part.proofs.Branches.{then_and, else_and, le_is}
use Rattle.book_part.proofs.Asked.{behind_shown}
use Rattle.book_part.proofs.part.BookPart.is_behind.Goals as goal

pub returns-then-is_act : goal.returns-then-is_act
returns-then-is_act c = λ b s. then_and _ _ _ _ c.is_act.ensures c.if-is_act.true (c.le.ensures ∙ (le_is _ _ ∙ ap (λ m. nat_le m c.args.settled.0) c.before-then-is_act.ensures)) ∙ behind_shown c.args.settled.0 _ _ c.self.view_is b c.args.t.0 s

pub returns-else-is_act : goal.returns-else-is_act
returns-else-is_act c = λ b s. else_and _ _ _ c.is_act.ensures c.if-is_act.false ∙ behind_shown c.args.settled.0 _ _ c.self.view_is b c.args.t.0 s
