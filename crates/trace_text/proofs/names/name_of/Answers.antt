use Rattle.std.proofs.Common.{◌≡◌, ap, sym, ◌∙◌, get_or, Some, arith, rules}
use Rattle.trace_text.specs.declared.names.Name.TheVariants as name
use Rattle.trace_text.specs.Lines.{name_text}
use Rattle.trace_text.proofs.EventNames.{every_name, name_one, covers}
use Rattle.trace_text.proofs.names.name_of.Goals as goal

pub returns-then-eq-clause-only : goal.returns-then-eq-clause-only
returns-then-eq-clause-only c n is =
    let found : c.args.word.now ≡ name_text (get_or every_name c.loop-name.name-index name.Submit) = search rules in
    ap (λ m. Some m) (name_one _ n (sym found ∙ is))

pub returns-clause-only : goal.returns-clause-only
returns-clause-only c n is = absurd (covers (λ m. name_text m ≡ c.args.word.now → ⊥) (λ k lt. c.loop-name.invariant.others k (omega arith)) n (sym is))
