use Rattle.std.proofs.Common.{ap, ◌∙◌}
use Rattle.std.specs.Prelude.{is_some, length, ◌==◌}
use Rattle.book_part.proofs.Branches.{then_if, else_if, then_and, else_and}
use Rattle.book_part.proofs.Asked.{empty_by_length, ready_shown}
use Rattle.book_part.proofs.part.BookPart.is_ready.Goals as goal

pub returns-then-is_some : goal.returns-then-is_some
returns-then-is_some c = λ b s. then_if _ _ _ _ _ (c.is_some.ensures ∙ ap is_some c.result.ensures) c.if-is_some.true c.is_ready.ensures ∙ ready_shown _ _ c.self.view_is b c.args.t.0 s

pub returns-then-is_act : goal.returns-then-is_act
returns-then-is_act c = λ b s. else_if _ _ _ _ _ (c.is_some.ensures ∙ ap is_some c.result.ensures) c.if-is_some.false (then_and _ _ _ _ c.is_act.ensures c.if-is_act.true (c.is_empty.ensures ∙ (ap (λ ps. length ps == 0) c.joined.ensures ∙ empty_by_length _))) ∙ ready_shown _ _ c.self.view_is b c.args.t.0 s

pub returns-else-is_act : goal.returns-else-is_act
returns-else-is_act c = λ b s. else_if _ _ _ _ _ (c.is_some.ensures ∙ ap is_some c.result.ensures) c.if-is_some.false (else_and _ _ _ c.is_act.ensures c.if-is_act.false) ∙ ready_shown _ _ c.self.view_is b c.args.t.0 s
