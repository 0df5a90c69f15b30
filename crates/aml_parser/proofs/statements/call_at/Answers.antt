use Rattle.std.proofs.Common.{map}
use Rattle.std.proofs.lemmas.Result.{err_from_is_err_and}
use Rattle.aml_tokens.specs.Token.{tokens_of}
use Rattle.aml_tree.specs.Tree.{expression_tree, statement_tree}
use Rattle.aml_parser.proofs.Steps.{falls}
use Rattle.aml_parser.proofs.Lets.{call_reads, call_target_stops, call_name_stops, call_open_stops, call_values_stop, call_end_stops}
use Rattle.aml_parser.proofs.statements.call_at.Goals as goal

pub returns-in_err-target-clause-reads : goal.returns-in_err-target-clause-reads
returns-in_err-target-clause-reads c =
    let p = err_from_is_err_and c.from_residual.result c.from_residual.ensures.1 in
    rw (p.1, p.2) (falls c.in_err-target.field-0.0 c.in_err-target.ensures.reads (λ fault h. call_target_stops (tokens_of c.args.tokens.now) c.args.depth c.args.at fault c.requires.there h))

pub returns-in_err-method-clause-reads : goal.returns-in_err-method-clause-reads
returns-in_err-method-clause-reads c =
    let p = err_from_is_err_and c.from_residual-in_err-method.result c.from_residual-in_err-method.ensures.1 in
    rw (p.1, p.2) (falls c.in_err-method.field-0.0 c.in_err-method.ensures.reads
    (λ fault h. call_name_stops (tokens_of c.args.tokens.now) c.args.depth c.args.at c.in_ok-target.named (expression_tree c.in_ok-target.target) fault c.requires.there c.in_ok-target.ensures.reads h))

pub returns-in_err-start-clause-reads : goal.returns-in_err-start-clause-reads
returns-in_err-start-clause-reads c =
    let p = err_from_is_err_and c.from_residual-in_err-start.result c.from_residual-in_err-start.ensures.1 in
    rw (p.1, p.2) (falls c.in_err-start.field-0.0 c.in_err-start.ensures.reads
    (λ fault h. call_open_stops (tokens_of c.args.tokens.now) c.args.depth c.args.at c.in_ok-target.named c.in_ok-method.opening c.in_ok-method.method (expression_tree c.in_ok-target.target) fault c.requires.there c.in_ok-target.ensures.reads c.in_ok-method.ensures.reads h))

pub returns-in_err-values-clause-reads : goal.returns-in_err-values-clause-reads
returns-in_err-values-clause-reads c =
    let p = err_from_is_err_and c.from_residual-in_err-values.result c.from_residual-in_err-values.ensures.1 in
    rw (p.1, p.2) (falls c.in_err-values.field-0.0 c.in_err-values.ensures.reads
    (λ fault h. call_values_stop (tokens_of c.args.tokens.now) c.args.depth c.args.at c.in_ok-target.named c.in_ok-method.opening c.in_ok-start.start c.in_ok-method.method (expression_tree c.in_ok-target.target) fault
    c.requires.there c.in_ok-target.ensures.reads c.in_ok-method.ensures.reads c.in_ok-start.ensures.reads h))

pub returns-in_err-end-clause-reads : goal.returns-in_err-end-clause-reads
returns-in_err-end-clause-reads c =
    let p = err_from_is_err_and c.from_residual-in_err-end.result c.from_residual-in_err-end.ensures.1 in
    rw (p.1, p.2) (falls c.in_err-end.field-0.0 c.in_err-end.ensures.reads
    (λ fault h. call_end_stops (tokens_of c.args.tokens.now) c.args.depth c.args.at c.in_ok-target.named c.in_ok-method.opening c.in_ok-start.start c.in_ok-values.closed c.in_ok-method.method (expression_tree c.in_ok-target.target)
    (map expression_tree c.in_ok-values.values.items) fault c.requires.there c.in_ok-target.ensures.reads c.in_ok-method.ensures.reads c.in_ok-start.ensures.reads c.in_ok-values.ensures.reads h))

pub returns-clause-reads : goal.returns-clause-reads
returns-clause-reads c =
    call_reads (tokens_of c.args.tokens.now) c.args.depth c.args.at c.args.line c.in_ok-target.named c.in_ok-method.opening c.in_ok-start.start c.in_ok-values.closed c.in_ok-end.end c.args.variable c.in_ok-method.method (expression_tree c.in_ok-target.target)
    (map expression_tree c.in_ok-values.values.items) (statement_tree c.call_statement.result) c.requires.there c.call_statement.ensures c.in_ok-target.ensures.reads c.in_ok-method.ensures.reads c.in_ok-start.ensures.reads c.in_ok-values.ensures.reads c.in_ok-end.ensures.reads
