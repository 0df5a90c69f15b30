use Rattle.std.proofs.Common.{ℕ, ◌+◌, [], ◌∷◌, sym, ◌∙◌}
use Rattle.std.proofs.lemmas.Result.{err_from_is_err_and}
use Rattle.aml_tokens.specs.Token.{tokens_of}
use Rattle.aml_tree.specs.Tree.{expression_tree, statement_tree}
use Rattle.aml_parser.specs.Items.{Letting}
use Rattle.aml_parser.specs.Reading.{StopsAt}
use Rattle.aml_parser.proofs.Steps.{falls}
use Rattle.aml_parser.proofs.Lets.{let_reads, let_value_reads, let_name_stops, let_sign_stops, let_rest_stops, let_end_stops}
use Rattle.aml_parser.proofs.statements.let_at.Goals as goal

pub returns-in_err-variable-clause-reads : goal.returns-in_err-variable-clause-reads
returns-in_err-variable-clause-reads c =
    let p = err_from_is_err_and c.from_residual.result c.from_residual.ensures.1 in
    rw (p.1, p.2) (falls c.in_err-variable.field-0.0 c.in_err-variable.ensures.reads (λ fault h. let_name_stops (tokens_of c.args.tokens.now) c.args.depth c.args.names c.args.at c.args.line fault c.requires.there h))

pub returns-in_err-start-clause-reads : goal.returns-in_err-start-clause-reads
returns-in_err-start-clause-reads c =
    let p = err_from_is_err_and c.from_residual-in_err-start.result c.from_residual-in_err-start.ensures.1 in
    rw (p.1, p.2) (falls c.in_err-start.field-0.0 c.in_err-start.ensures.reads
    (λ fault h. let_sign_stops (tokens_of c.args.tokens.now) c.args.depth c.args.names c.args.at c.args.line c.in_ok-variable.behind c.in_ok-variable.variable fault c.requires.there c.in_ok-variable.ensures.reads h))

pub returns-in_err-statement-clause-reads : goal.returns-in_err-statement-clause-reads
returns-in_err-statement-clause-reads c =
    let p = err_from_is_err_and c.from_residual-in_err-statement.result c.from_residual-in_err-statement.ensures.1 in
    rw (p.1, p.2) (falls c.in_err-statement.field-0.0 c.in_err-statement.ensures.reads
    (λ fault (h : (names : ℕ) → StopsAt (tokens_of c.args.tokens.now) (Letting c.args.depth ∷ []) names c.in_ok-start.start fault). let_rest_stops (tokens_of c.args.tokens.now) c.args.depth c.args.names c.args.at c.args.line c.in_ok-variable.behind c.in_ok-start.start c.in_ok-variable.variable fault c.requires.there c.in_ok-variable.ensures.reads c.in_ok-start.ensures.reads (h (c.args.names + 1))))

pub returns-then-is_call_at-clause-reads : goal.returns-then-is_call_at-clause-reads
returns-then-is_call_at-clause-reads c =
    let_reads (tokens_of c.args.tokens.now) c.args.depth c.args.names c.args.at c.args.line c.in_ok-variable.behind c.in_ok-start.start (c.args.names + 1) c.in_ok-statement.end c.in_ok-variable.variable (statement_tree c.in_ok-statement.statement)
    c.requires.there c.in_ok-variable.ensures.reads c.in_ok-start.ensures.reads (c.in_ok-statement.ensures.reads (c.args.names + 1))

pub returns-in_err-value-clause-reads : goal.returns-in_err-value-clause-reads
returns-in_err-value-clause-reads c =
    let p = err_from_is_err_and c.from_residual-in_err-value.result c.from_residual-in_err-value.ensures.1 in
    rw (p.1, p.2) (falls c.in_err-value.field-0.0 c.in_err-value.ensures.reads
    (λ fault h. let_end_stops (tokens_of c.args.tokens.now) c.args.depth c.args.names c.args.at c.args.line c.in_ok-variable.behind c.in_ok-start.start c.in_ok-variable.variable fault c.requires.there c.in_ok-variable.ensures.reads c.in_ok-start.ensures.reads
    (sym c.is_call_at.ensures.sign ∙ c.if-is_call_at.false) h))

pub returns-clause-reads : goal.returns-clause-reads
returns-clause-reads c =
    let_reads (tokens_of c.args.tokens.now) c.args.depth c.args.names c.args.at c.args.line c.in_ok-variable.behind c.in_ok-start.start (c.args.names + 1) c.in_ok-value.end c.in_ok-variable.variable (statement_tree c.let_statement.result)
    c.requires.there c.in_ok-variable.ensures.reads c.in_ok-start.ensures.reads
    (let_value_reads (tokens_of c.args.tokens.now) c.args.depth (c.args.names + 1) c.in_ok-start.start c.args.line c.in_ok-value.end c.in_ok-variable.variable (expression_tree c.in_ok-value.value) (statement_tree c.let_statement.result)
    (sym c.is_call_at.ensures.sign ∙ c.if-is_call_at.false) c.let_statement.ensures c.in_ok-value.ensures.reads)
