use Rattle.std.proofs.Common.{ap, ◌∙◌}
use Rattle.std.specs.Prelude.{is_some, find, ◌==◌}
use Rattle.book_part.proofs.Branches.{then_if, else_if}
use Rattle.book_part.proofs.Asked.{unprepared_shown}
use Rattle.book_part.proofs.part.BookPart.is_unprepared.Goals as goal

pub returns-then-is_some : goal.returns-then-is_some
returns-then-is_some c = λ b s. then_if _ _ _ _ _ (c.is_some.ensures ∙ ap is_some c.result.ensures) c.if-is_some.true c.is_unprepared.ensures ∙ unprepared_shown c.args.a.0 _ _ c.self.view_is b c.args.t.0 s

pub returns-else-is_some : goal.returns-else-is_some
returns-else-is_some c = λ b s. else_if _ _ _ _ _ (c.is_some.ensures ∙ ap is_some c.result.ensures) c.if-is_some.false (c.has_joined.ensures ∙ ap (λ ps. is_some (find (λ p. p.actor == c.args.a.0) ps)) c.joined.ensures) ∙ unprepared_shown c.args.a.0 _ _ c.self.view_is b c.args.t.0 s
