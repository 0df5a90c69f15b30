use Rattle.std.proofs.lemmas.Result.{err_from_is_err_and}
use Rattle.aml_tokens.specs.Token.{tokens_of}
use Rattle.aml_parser.proofs.Names.{called_takes, called_fails}
use Rattle.aml_parser.proofs.signs.called_at.Goals as goal

pub returns-in_err-name-clause-reads : goal.returns-in_err-name-clause-reads
returns-in_err-name-clause-reads c =
    let p = err_from_is_err_and c.from_residual.result c.from_residual.ensures.1 in
    rw (p.1, p.2) (called_fails (tokens_of c.args.tokens.now) c.args.at c.in_err-name.field-0.0 c.in_err-name.ensures.reads)

pub returns-clause-reads : goal.returns-clause-reads
returns-clause-reads c = λ names. called_takes (tokens_of c.args.tokens.now) names c.args.at c.in_ok-name.end c.in_ok-name.name c.in_ok-name.ensures.reads.0 c.in_ok-name.ensures.reads.1
