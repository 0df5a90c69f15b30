use Rattle.std.proofs.Common.{refl, sym, ◌∙◌, arith}
use Rattle.std.proofs.lemmas.Result.{err_from_is_err_and}
use Rattle.aml_tokens.specs.Token.{tokens_of}
use Rattle.aml_tokens.specs.Token as token
use Rattle.aml_tree.specs.Tree.{expression_tree, statement_tree, statements_tree, block_tree, End}
use Rattle.aml_parser.proofs.Steps.{falls, part_none, part_then, part_ends, part_stops}
use Rattle.aml_parser.proofs.Names.{brace_takes}
use Rattle.aml_parser.proofs.Parts.{while_reads, while_condition_stops, while_body_stops}
use Rattle.aml_parser.proofs.Ifs.{if_reads, if_else_reads, if_condition_stops, if_first_stops, if_open_stops, if_other_stops, no_keyword, no_statement, text_over}
use Rattle.aml_parser.proofs.statements.+statements.Goals as goal

-- ---- loops

pub while_at-returns-in_err-condition-clause-reads : goal.while_at-returns-in_err-condition-clause-reads
while_at-returns-in_err-condition-clause-reads t c =
    let p = err_from_is_err_and c.from_residual.result c.from_residual.ensures.1 in
    rw (p.1, p.2) (falls c.in_err-condition.field-0.0 c.in_err-condition.ensures.reads (λ fault h. while_condition_stops (tokens_of c.args.tokens.now) c.args.depth c.args.names c.args.at fault c.requires.there h))

pub while_at-returns-in_err-body-clause-reads : goal.while_at-returns-in_err-body-clause-reads
while_at-returns-in_err-body-clause-reads t c =
    let p = err_from_is_err_and c.from_residual-in_err-body.result c.from_residual-in_err-body.ensures.1 in
    rw (p.1, p.2) (falls c.in_err-body.field-0.0 c.in_err-body.ensures.reads
    (λ fault h. while_body_stops (tokens_of c.args.tokens.now) c.args.depth c.args.names c.args.at c.in_ok-condition.start (expression_tree c.in_ok-condition.condition) fault c.requires.there c.in_ok-condition.ensures.reads h))

pub while_at-returns-clause-reads : goal.while_at-returns-clause-reads
while_at-returns-clause-reads t c =
    while_reads (tokens_of c.args.tokens.now) c.args.depth c.args.names c.args.at c.in_ok-condition.start c.in_ok-body.after c.in_ok-body.end (expression_tree c.in_ok-condition.condition) (block_tree c.in_ok-body.body)
    (statement_tree c.while_statement.result) c.requires.there c.while_statement.ensures c.in_ok-condition.ensures.reads c.in_ok-body.ensures.reads

-- ---- conditions

pub if_at-returns-in_err-condition-clause-reads : goal.if_at-returns-in_err-condition-clause-reads
if_at-returns-in_err-condition-clause-reads t c =
    let p = err_from_is_err_and c.from_residual.result c.from_residual.ensures.1 in
    rw (p.1, p.2) (falls c.in_err-condition.field-0.0 c.in_err-condition.ensures.reads (λ fault h. if_condition_stops (tokens_of c.args.tokens.now) c.args.depth c.args.names c.args.at fault c.requires.there h))

pub if_at-returns-in_err-first-clause-reads : goal.if_at-returns-in_err-first-clause-reads
if_at-returns-in_err-first-clause-reads t c =
    let p = err_from_is_err_and c.from_residual-in_err-first.result c.from_residual-in_err-first.ensures.1 in
    rw (p.1, p.2) (falls c.in_err-first.field-0.0 c.in_err-first.ensures.reads
    (λ fault h. if_first_stops (tokens_of c.args.tokens.now) c.args.depth c.args.names c.args.at c.in_ok-condition.start (expression_tree c.in_ok-condition.condition) fault c.requires.there c.in_ok-condition.ensures.reads h))

pub if_at-returns-then-not-is_else_at-clause-reads : goal.if_at-returns-then-not-is_else_at-clause-reads
if_at-returns-then-not-is_else_at-clause-reads t c =
    if_reads (tokens_of c.args.tokens.now) c.args.depth c.args.names c.args.at c.in_ok-condition.start c.in_ok-first.middle c.in_ok-first.behind (expression_tree c.in_ok-condition.condition) (block_tree c.in_ok-first.first)
    (statement_tree c.if_statement.result) c.requires.there c.if_statement.ensures c.in_ok-condition.ensures.reads c.in_ok-first.ensures.reads (sym c.is_else_at.ensures.sign ∙ c.if-not-is_else_at.true)

pub if_at-returns-in_err-opened-clause-reads : goal.if_at-returns-in_err-opened-clause-reads
if_at-returns-in_err-opened-clause-reads t c =
    let p = err_from_is_err_and c.from_residual-in_err-opened.result c.from_residual-in_err-opened.ensures.1 in
    rw (p.1, p.2) (falls c.in_err-opened.field-0.0 c.in_err-opened.ensures.reads
    (λ fault h. if_open_stops (tokens_of c.args.tokens.now) c.args.depth c.args.names c.args.at c.in_ok-condition.start c.in_ok-first.middle c.in_ok-first.behind (expression_tree c.in_ok-condition.condition) (block_tree c.in_ok-first.first) fault
    c.requires.there c.in_ok-condition.ensures.reads c.in_ok-first.ensures.reads (sym c.is_else_at.ensures.sign ∙ c.if-not-is_else_at.false) h))

pub if_at-returns-in_err-other-clause-reads : goal.if_at-returns-in_err-other-clause-reads
if_at-returns-in_err-other-clause-reads t c =
    let p = err_from_is_err_and c.from_residual-in_err-other.result c.from_residual-in_err-other.ensures.1 in
    rw (p.1, p.2) (falls c.in_err-other.field-0.0 c.in_err-other.ensures.reads
    (λ fault h. if_other_stops (tokens_of c.args.tokens.now) c.args.depth c.args.names c.args.at c.in_ok-condition.start c.in_ok-first.middle c.in_ok-first.behind c.in_ok-opened.opened (expression_tree c.in_ok-condition.condition) (block_tree c.in_ok-first.first) fault
    c.requires.there c.in_ok-condition.ensures.reads c.in_ok-first.ensures.reads (sym c.is_else_at.ensures.sign ∙ c.if-not-is_else_at.false) c.in_ok-opened.ensures.reads h))

pub if_at-returns-clause-reads : goal.if_at-returns-clause-reads
if_at-returns-clause-reads t c =
    if_else_reads (tokens_of c.args.tokens.now) c.args.depth c.args.names c.args.at c.in_ok-condition.start c.in_ok-first.middle c.in_ok-first.behind c.in_ok-opened.opened c.in_ok-other.after c.in_ok-other.end
    (expression_tree c.in_ok-condition.condition) (block_tree c.in_ok-first.first) (block_tree c.in_ok-other.other) (statement_tree c.if_else_statement.result) c.requires.there c.if_else_statement.ensures
    c.in_ok-condition.ensures.reads c.in_ok-first.ensures.reads (sym c.is_else_at.ensures.sign ∙ c.if-not-is_else_at.false) c.in_ok-opened.ensures.reads c.in_ok-other.ensures.reads

-- ---- statements

pub by_keyword-returns-in_default-clause-reads : goal.by_keyword-returns-in_default-clause-reads
by_keyword-returns-in_default-clause-reads t c =
    rw c.unexpected.ensures
    (no_statement (tokens_of c.args.tokens.now) c.args.depth c.args.names c.args.at _ c.requires.there (no_keyword c.args.depth c.args.symbol c.in_default.not-If c.in_default.not-While c.in_default.not-Fail c.in_default.not-Return))

pub statement-returns-in-Some-Number-clause-reads : goal.statement-returns-in-Some-Number-clause-reads
statement-returns-in-Some-Number-clause-reads t c =
    let there = rw c.in-Some-Number.field-0-is at c.in-Some-Number.ensures.token in
    rw c.unexpected.ensures (no_statement (tokens_of c.args.tokens.now) c.args.depth c.args.names c.args.at (token.Number c.in-Some-Number.field-0-0) (sym there) refl)

pub statement-returns-in-Some-CloseBrace-clause-reads : goal.statement-returns-in-Some-CloseBrace-clause-reads
statement-returns-in-Some-CloseBrace-clause-reads t c =
    let there = rw c.in-Some-CloseBrace.field-0-is at c.in-Some-CloseBrace.ensures.token in
    let before = rw (sym there) at c.requires.open in
    absurd cc

pub statement-returns-in-None-clause-reads : goal.statement-returns-in-None-clause-reads
statement-returns-in-None-clause-reads t c = rw c.unexpected-in-None.ensures (text_over (tokens_of c.args.tokens.now) c.args.depth c.args.names c.args.at (sym c.in-None.ensures.token))

-- ---- blocks

pub block-loop-line-init : goal.block-loop-line-init
block-loop-line-init t c = record { so_far = rw c.new-statements.ensures.items (part_none (tokens_of c.args.tokens.now) c.args.depth c.args.names c.args.at); onward = omega arith }

pub block-loop-line-preserved : goal.block-loop-line-preserved
block-loop-line-preserved t c = record {
  so_far =
      part_then (tokens_of c.args.tokens.now) c.args.depth (statements_tree c.loop-line.statements.items) (statement_tree c.in_ok-statement.statement) (statements_tree c.put_statement.new.block.items)
      c.args.names c.args.at c.loop-line.declared c.loop-line.end c.in_ok-statement.after c.in_ok-statement.behind c.in_ok-put_statement.ensures c.loop-line.invariant.so_far c.in_ok-statement.ensures.reads;
  onward = omega (arith, c.loop-line.invariant.onward, c.in_ok-statement.ensures.onward);
}

pub block-returns-in-Some-clause-reads : goal.block-returns-in-Some-clause-reads
block-returns-in-Some-clause-reads t c =
    part_ends (tokens_of c.args.tokens.now) c.args.depth (statements_tree c.loop-line.statements.items) (End c.in-Some.line) c.args.names c.args.at c.loop-line.declared c.loop-line.end c.loop-line.declared _
    c.loop-line.invariant.so_far (brace_takes (tokens_of c.args.tokens.now) c.args.depth c.loop-line.declared c.loop-line.end c.in-Some.line (sym c.in-Some.ensures.line))

pub block-returns-in_err-statement-clause-reads : goal.block-returns-in_err-statement-clause-reads
block-returns-in_err-statement-clause-reads t c =
    let p = err_from_is_err_and c.from_residual.result c.from_residual.ensures.1 in
    rw (p.1, p.2) (falls c.in_err-statement.field-0.0 c.in_err-statement.ensures.reads
    (λ fault h. part_stops (tokens_of c.args.tokens.now) c.args.depth (statements_tree c.loop-line.statements.items) c.args.names c.args.at c.loop-line.declared c.loop-line.end fault c.loop-line.invariant.so_far h))
