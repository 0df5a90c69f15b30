use Rattle.std.proofs.Common.{ap, arith, sym, ◌∙◌}
use Rattle.std.proofs.lemmas.Fmt.{decimal_injective}
use Rattle.audit_papers.specs.LineWords.{texts}
use Rattle.audit_papers.proofs.WordLists.{none_first, same_first}
use Rattle.audit_papers.proofs.words.number.Goals as goal

pub returns-in_err-first : goal.returns-in_err-first
returns-in_err-first c = rw c.from_residual.ensures (λ n r l e. none_first c.args.words.now _ _ c.in_err-first.ensures.cases e)

pub returns-in_err-number : goal.returns-in_err-number
returns-in_err-number c = rw c.from_residual-in_err-number.ensures (λ n r l e. cc (c.in_err-number.ensures.only n (omega (arith, l)) (same_first (ap texts c.in_ok-first.ensures.cases.0) e)))

pub returns-then-number-most : goal.returns-then-number-most
returns-then-number-most c n r l e =
    absurd (omega (
      arith,
      l,
      c.if-number-most.true,
      decimal_injective c.in_ok-number.number n (omega arith) (omega (arith, l)) (sym c.in_ok-number.ensures.found ∙ same_first (ap texts c.in_ok-first.ensures.cases.0) e),
    ))
