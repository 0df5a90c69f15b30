use Rattle.std.proofs.lemmas.Result.{err_from_is_err_and}
use Rattle.aml_tokens.specs.Token.{tokens_of}
use Rattle.aml_tree.specs.Tree.{statement_tree}
use Rattle.aml_parser.proofs.Steps.{falls}
use Rattle.aml_parser.proofs.Parts.{fail_reads, fail_code_stops, fail_end_stops}
use Rattle.aml_parser.proofs.statements.fail_at.Goals as goal

pub returns-in_err-code-clause-reads : goal.returns-in_err-code-clause-reads
returns-in_err-code-clause-reads c =
    let p = err_from_is_err_and c.from_residual.result c.from_residual.ensures.1 in
    rw (p.1, p.2) (falls c.in_err-code.field-0.0 c.in_err-code.ensures.reads (λ fault h. fail_code_stops (tokens_of c.args.tokens.now) c.args.depth c.args.names c.args.at fault c.requires.there h))

pub returns-in_err-end-clause-reads : goal.returns-in_err-end-clause-reads
returns-in_err-end-clause-reads c =
    let p = err_from_is_err_and c.from_residual-in_err-end.result c.from_residual-in_err-end.ensures.1 in
    rw (p.1, p.2) (falls c.in_err-end.field-0.0 c.in_err-end.ensures.reads
    (λ fault h. fail_end_stops (tokens_of c.args.tokens.now) c.args.depth c.args.names c.args.at c.in_ok-code.start c.in_ok-code.code fault c.requires.there c.in_ok-code.ensures.reads h))

pub returns-clause-reads : goal.returns-clause-reads
returns-clause-reads c =
    fail_reads (tokens_of c.args.tokens.now) c.args.depth c.args.names c.args.at c.in_ok-code.start c.in_ok-end.end c.in_ok-code.code (statement_tree c.fail_statement.result) c.requires.there c.fail_statement.ensures c.in_ok-code.ensures.reads c.in_ok-end.ensures.reads
