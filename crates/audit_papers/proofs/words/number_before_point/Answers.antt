use Rattle.std.proofs.Common.{arith, sym, ◌∙◌}
use Rattle.std.proofs.lemmas.Fmt.{decimal_injective}
use Rattle.audit_papers.proofs.WordCuts.{no_cut_of, point_one}
use Rattle.audit_papers.proofs.words.number_before_point.Goals as goal

pub returns-in_err-front : goal.returns-in_err-front
returns-in_err-front c = rw c.from_residual.ensures (λ n r l e. no_cut_of 46 c.args.word.now _ r c.in_err-front.ensures e)

pub returns-in_err-number : goal.returns-in_err-number
returns-in_err-number c = rw c.from_residual-in_err-number.ensures (λ n r l e. cc (c.in_err-number.ensures.only n (omega (arith, l)) (point_one c.args.word.now _ _ n r c.in_ok-front.ensures.1 (omega (arith, l)) c.in_ok-front.ensures.0 e).0))

pub returns-then-number-most : goal.returns-then-number-most
returns-then-number-most c n r l e =
    absurd (omega (
      arith,
      l,
      c.if-number-most.true,
      decimal_injective c.in_ok-number.number n (omega arith) (omega (arith, l)) (sym c.in_ok-number.ensures.found ∙ (point_one c.args.word.now _ _ n r c.in_ok-front.ensures.1 (omega (arith, l)) c.in_ok-front.ensures.0 e).0),
    ))
