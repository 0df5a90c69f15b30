use Rattle.std.proofs.Common.{refl}
use Rattle.std.proofs.lemmas.Result.{err_from_is_err_and}
use Rattle.aml_tokens.specs.Token.{tokens_of}
use Rattle.aml_tree.specs.Tree.{block_tree}
use Rattle.aml_parser.proofs.Steps.{falls}
use Rattle.aml_parser.proofs.ProgramSteps.{method_takes, method_name_stops, method_open_stops, method_parameters_stop, method_brace_stops, method_body_stops}
use Rattle.aml_parser.proofs.methods.method.Goals as goal

pub returns-in_err-name-clause-reads : goal.returns-in_err-name-clause-reads
returns-in_err-name-clause-reads c =
    let p = err_from_is_err_and c.from_residual.result c.from_residual.ensures.1 in
    rw (p.1, p.2) (falls c.in_err-name.field-0.0 c.in_err-name.ensures.reads (λ fault h. method_name_stops (tokens_of c.args.tokens.now) c.args.at fault h))

pub returns-in_err-start-clause-reads : goal.returns-in_err-start-clause-reads
returns-in_err-start-clause-reads c =
    let p = err_from_is_err_and c.from_residual-in_err-start.result c.from_residual-in_err-start.ensures.1 in
    rw (p.1, p.2) (falls c.in_err-start.field-0.0 c.in_err-start.ensures.reads
    (λ fault h. method_open_stops (tokens_of c.args.tokens.now) c.args.at c.in_ok-name.opening c.in_ok-name.name fault c.in_ok-name.ensures.reads h))

pub returns-in_err-words-clause-reads : goal.returns-in_err-words-clause-reads
returns-in_err-words-clause-reads c =
    let p = err_from_is_err_and c.from_residual-in_err-words.result c.from_residual-in_err-words.ensures.1 in
    rw (p.1, p.2) (falls c.in_err-words.field-0.0 c.in_err-words.ensures.reads
    (λ fault h. method_parameters_stop (tokens_of c.args.tokens.now) c.args.at c.in_ok-name.opening c.in_ok-start.start c.in_ok-name.name fault c.in_ok-name.ensures.reads c.in_ok-start.ensures.reads h))

pub returns-in_err-first-clause-reads : goal.returns-in_err-first-clause-reads
returns-in_err-first-clause-reads c =
    let p = err_from_is_err_and c.from_residual-in_err-first.result c.from_residual-in_err-first.ensures.1 in
    rw (p.1, p.2) (falls c.in_err-first.field-0.0 c.in_err-first.ensures.reads
    (λ fault h. method_brace_stops (tokens_of c.args.tokens.now) c.args.at c.in_ok-name.opening c.in_ok-start.start c.in_ok-words.closed c.in_ok-words.count c.in_ok-name.name c.in_ok-words.words.items fault
    c.in_ok-name.ensures.reads c.in_ok-start.ensures.reads c.in_ok-words.ensures.reads h))

pub returns-in_err-body-clause-reads : goal.returns-in_err-body-clause-reads
returns-in_err-body-clause-reads c =
    let p = err_from_is_err_and c.from_residual-in_err-body.result c.from_residual-in_err-body.ensures.1 in
    rw (p.1, p.2) (falls c.in_err-body.field-0.0 c.in_err-body.ensures.reads
    (λ fault h. method_body_stops (tokens_of c.args.tokens.now) c.args.at c.in_ok-name.opening c.in_ok-start.start c.in_ok-words.closed c.in_ok-first.first c.in_ok-words.count c.in_ok-name.name c.in_ok-words.words.items fault
    c.in_ok-name.ensures.reads c.in_ok-start.ensures.reads c.in_ok-words.ensures.reads c.in_ok-first.ensures.reads h))

pub returns-clause-reads : goal.returns-clause-reads
returns-clause-reads c =
    rw c.from_vec.ensures
    (method_takes (tokens_of c.args.tokens.now) c.args.is_read c.args.at c.in_ok-name.opening c.in_ok-start.start c.in_ok-words.closed c.in_ok-first.first c.in_ok-words.count _ c.in_ok-body.end
    (record { is_read = c.args.is_read; name = c.in_ok-name.name; parameters = c.in_ok-words.words.items; body = block_tree c.in_ok-body.body })
    refl c.in_ok-name.ensures.reads c.in_ok-start.ensures.reads c.in_ok-words.ensures.reads c.in_ok-first.ensures.reads c.in_ok-body.ensures.reads)
