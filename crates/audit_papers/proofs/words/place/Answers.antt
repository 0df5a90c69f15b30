use Rattle.std.proofs.Common.{ap}
use Rattle.audit_papers.specs.LineWords.{texts}
use Rattle.audit_papers.proofs.WordLists.{none_first, same_first}
use Rattle.audit_papers.proofs.words.place.Goals as goal

pub returns-in_err-first : goal.returns-in_err-first
returns-in_err-first c = rw c.from_residual.ensures (λ p r h e. none_first c.args.words.now _ _ c.in_err-first.ensures.cases e)

pub returns-in_err-place : goal.returns-in_err-place
returns-in_err-place c = rw c.from_residual-in_err-place.ensures (λ p r h e. c.in_err-place.ensures p h (same_first (ap texts c.in_ok-first.ensures.cases.0) e))
