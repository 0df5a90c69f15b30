use Rattle.std.proofs.lemmas.Result.{err_from_is_err_and}
use Rattle.aml_tokens.specs.Token.{tokens_of}
use Rattle.aml_tree.specs.Tree.{expression_tree, statement_tree}
use Rattle.aml_parser.proofs.Steps.{falls}
use Rattle.aml_parser.proofs.Parts.{set_field_reads, set_field_sign_stops, set_field_value_stops}
use Rattle.aml_parser.proofs.statements.set_field_at.Goals as goal

pub returns-in_err-start-clause-reads : goal.returns-in_err-start-clause-reads
returns-in_err-start-clause-reads c =
    let p = err_from_is_err_and c.from_residual.result c.from_residual.ensures.1 in
    rw (p.1, p.2) (falls c.in_err-start.field-0.0 c.in_err-start.ensures.reads (λ fault h. set_field_sign_stops (tokens_of c.args.tokens.now) c.args.depth c.args.names c.args.at c.args.field c.args.line fault c.requires.there h))

pub returns-in_err-value-clause-reads : goal.returns-in_err-value-clause-reads
returns-in_err-value-clause-reads c =
    let p = err_from_is_err_and c.from_residual-in_err-value.result c.from_residual-in_err-value.ensures.1 in
    rw (p.1, p.2) (falls c.in_err-value.field-0.0 c.in_err-value.ensures.reads
    (λ fault h. set_field_value_stops (tokens_of c.args.tokens.now) c.args.depth c.args.names c.args.at c.in_ok-start.start c.args.field c.args.line fault c.requires.there c.in_ok-start.ensures.reads h))

pub returns-clause-reads : goal.returns-clause-reads
returns-clause-reads c =
    set_field_reads (tokens_of c.args.tokens.now) c.args.depth c.args.names c.args.at c.in_ok-start.start c.in_ok-value.end c.args.field c.args.line (expression_tree c.in_ok-value.value) (statement_tree c.field_statement.result) c.requires.there c.field_statement.ensures c.in_ok-start.ensures.reads c.in_ok-value.ensures.reads
