use Rattle.std.proofs.Common.{◌∙◌}
use Rattle.book_part.proofs.Branches.{then_and, else_and}
use Rattle.book_part.proofs.Asked.{to_vouch_shown}
use Rattle.book_part.proofs.part.BookPart.is_to_vouch.Goals as goal

pub returns-then-is_undoomed : goal.returns-then-is_undoomed
returns-then-is_undoomed c = λ b s. then_and _ _ _ _ c.is_live.ensures c.if-is_live.true (then_and _ _ _ _ c.is_undoomed.ensures c.if-is_undoomed.true c.is_unvouched.ensures) ∙ to_vouch_shown c.args.a.0 _ _ c.self.view_is b c.args.t.0 s

pub returns-else-is_undoomed : goal.returns-else-is_undoomed
returns-else-is_undoomed c = λ b s. then_and _ _ _ _ c.is_live.ensures c.if-is_live.true (else_and _ _ _ c.is_undoomed.ensures c.if-is_undoomed.false) ∙ to_vouch_shown c.args.a.0 _ _ c.self.view_is b c.args.t.0 s

pub returns-else-is_live : goal.returns-else-is_live
returns-else-is_live c = λ b s. else_and _ _ _ c.is_live.ensures c.if-is_live.false ∙ to_vouch_shown c.args.a.0 _ _ c.self.view_is b c.args.t.0 s
