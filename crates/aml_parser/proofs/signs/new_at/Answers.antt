use Rattle.std.proofs.lemmas.Result.{err_from_is_err_and}
use Rattle.aml_tokens.specs.Token.{tokens_of}
use Rattle.aml_parser.proofs.Names.{new_takes, new_fails, new_many}
use Rattle.aml_parser.proofs.signs.new_at.Goals as goal

pub returns-in_err-name-clause-reads : goal.returns-in_err-name-clause-reads
returns-in_err-name-clause-reads c =
    let p = err_from_is_err_and c.from_residual.result c.from_residual.ensures.1 in
    rw (p.1, p.2) (new_fails (tokens_of c.args.tokens.now) c.args.names c.args.at c.in_err-name.field-0.0 c.in_err-name.ensures.reads)

pub returns-then-names-ge-MOST_NAMES-clause-reads : goal.returns-then-names-ge-MOST_NAMES-clause-reads
returns-then-names-ge-MOST_NAMES-clause-reads c = rw c.too_many.ensures (new_many (tokens_of c.args.tokens.now) c.args.names c.args.at c.in_ok-name.name c.in_ok-name.ensures.reads.0 c.if-names-ge-MOST_NAMES.true)

pub returns-clause-reads : goal.returns-clause-reads
returns-clause-reads c = new_takes (tokens_of c.args.tokens.now) c.args.names c.args.at c.in_ok-name.end c.in_ok-name.name c.in_ok-name.ensures.reads.0 c.in_ok-name.ensures.reads.1 c.if-names-ge-MOST_NAMES.false
