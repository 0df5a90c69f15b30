use Rattle.std.proofs.Common.{sym, ap, ◌∙◌}
use Rattle.protocol.specs.Meant.{who_meant}
use Rattle.protocol.specs.Conditions.{is_given_up}
use Rattle.book_part.proofs.Asked.{doomed_shown}
use Rattle.book_part.proofs.part.BookPart.is_given_up.Goals as goal

pub returns-in-Act : goal.returns-in-Act
returns-in-Act c = λ b s. c.is_given_up.ensures ∙ (doomed_shown _ _ c.self.view_is b c.in-Act.t.0 s ∙ ap (λ w. is_given_up (who_meant w) b) (sym c.in-Act.is))
