use Rattle.std.proofs.Common.{◌∙◌}
use Rattle.book_part.proofs.Told.{verdict_some, verdict_none}
use Rattle.book_part.proofs.part.BookPart.act_verdict.Goals as goal

pub returns-in-Some : goal.returns-in-Some
returns-in-Some c = λ b s. c.verdict_of.ensures ∙ verdict_some _ _ c.self.view_is b c.args.tx.0 c.in-Some.t.0 s c.in-Some.ensures.first c.in-Some.ensures.found

pub returns-in-None : goal.returns-in-None
returns-in-None c = λ b s. verdict_none _ _ c.self.view_is b c.args.tx.0 s c.in-None.ensures.first
