use Rattle.audit_papers.specs.LineWords.{texts}
use Rattle.audit_papers.proofs.WordLists.{behind_named}
use Rattle.audit_papers.proofs.words.named.Goals as goal

pub returns-in_err-rest : goal.returns-in_err-rest
returns-in_err-rest c = rw c.from_residual.ensures (λ n r l e. c.in_err-rest.ensures _ e)

pub returns : goal.returns
returns c = behind_named c.number.result (λ r. texts r.now) (texts c.args.words.now) (texts c.in_ok-rest.rest.now) c.args.word.now c.args.most c.in_ok-rest.ensures c.number.ensures
