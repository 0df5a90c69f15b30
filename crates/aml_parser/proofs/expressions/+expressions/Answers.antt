use Rattle.std.proofs.Common.{Some, None, refl, sym, ap, arith, ◌∙◌}
use Rattle.std.proofs.lemmas.Result.{err_from_is_err_and}
use Rattle.aml_tokens.specs.Token.{tokens_of}
use Rattle.aml_tokens.specs.Token as token
use Rattle.aml_tree.specs.Tree.{expression_tree}
use Rattle.aml_parser.specs.Items.{target_by}
use Rattle.aml_parser.proofs.Steps.{falls}
use Rattle.aml_parser.proofs.Exprs.{target_one, target_none, no_target_sign, group_takes, group_stops, group_deep, negative_takes, negative_stops, negative_deep, operand_else, chain_begins, first_stops}
use Rattle.aml_parser.proofs.ChainSteps.{chain_goes, chain_stops, sign_ends, sign_deep, sign_none}
use Rattle.aml_parser.proofs.expressions.+expressions.Goals as goal

pub chain-returns-in_err-first-clause-reads : goal.chain-returns-in_err-first-clause-reads
chain-returns-in_err-first-clause-reads t c =
    let p = err_from_is_err_and c.from_residual.result c.from_residual.ensures.1 in
    rw (p.1, p.2) (falls c.in_err-first.field-0.0 c.in_err-first.ensures.reads (λ fault h. first_stops (tokens_of c.args.tokens.now) c.args.depth c.args.at fault h))

pub chain-loop-operator-init : goal.chain-loop-operator-init
chain-loop-operator-init t c = record {
  chain = chain_begins (tokens_of c.args.tokens.now) c.args.depth c.args.at c.in_ok-first.behind (expression_tree c.in_ok-first.first) c.in_ok-first.ensures.reads;
  onward = c.in_ok-first.ensures.onward;
}

pub chain-returns-in_err-right-clause-reads : goal.chain-returns-in_err-right-clause-reads
chain-returns-in_err-right-clause-reads t c =
    let p = err_from_is_err_and c.from_residual-in_err-right.result c.from_residual-in_err-right.ensures.1 in
    rw (p.1, p.2) (falls c.in_err-right.field-0.0 c.in_err-right.ensures.reads
    (λ fault h. chain_stops (tokens_of c.args.tokens.now) c.args.depth c.args.at c.loop-operator.end c.loop-operator.compared c.in-Some.operator (expression_tree c.loop-operator.expression) fault c.loop-operator.invariant.chain (sym c.in-Some.ensures.operator) h))

pub chain-loop-operator-preserved : goal.chain-loop-operator-preserved
chain-loop-operator-preserved t c = record {
  chain =
      rw c.compares-compared.ensures
      (chain_goes (tokens_of c.args.tokens.now) c.args.depth c.args.at c.loop-operator.end c.in_ok-right.behind c.loop-operator.compared c.in-Some.operator (expression_tree c.loop-operator.expression) (expression_tree c.in_ok-right.right)
      (expression_tree c.in_ok-expression.expression) c.loop-operator.invariant.chain (sym c.in-Some.ensures.operator) c.in_ok-right.ensures.reads c.in_ok-expression.ensures);
  onward = omega (arith, c.loop-operator.invariant.onward, c.in_ok-right.ensures.onward);
}

pub expression-returns-then-not-is_sign_at-clause-reads : goal.expression-returns-then-not-is_sign_at-clause-reads
expression-returns-then-not-is_sign_at-clause-reads t c =
    rw c.unexpected.ensures
    (sign_none (tokens_of c.args.tokens.now) c.args.depth c.args.at c.in_ok-value.end c.args.sign (expression_tree c.in_ok-value.value) c.in_ok-value.ensures.reads (sym c.is_sign_at.ensures.sign ∙ c.if-not-is_sign_at.true))

pub expression-returns-then-not-may_close-clause-reads : goal.expression-returns-then-not-may_close-clause-reads
expression-returns-then-not-may_close-clause-reads t c =
    rw c.too_deep.ensures
    (sign_deep (tokens_of c.args.tokens.now) c.args.depth c.args.at c.in_ok-value.end c.args.sign (expression_tree c.in_ok-value.value) c.in_ok-value.ensures.reads (sym c.is_sign_at.ensures.sign ∙ c.if-not-is_sign_at.false)
    (sym c.may_close.ensures ∙ c.if-not-may_close.true))

pub expression-returns-clause-reads : goal.expression-returns-clause-reads
expression-returns-clause-reads t c =
    sign_ends (tokens_of c.args.tokens.now) c.args.depth c.args.at c.in_ok-value.end c.args.sign (expression_tree c.in_ok-value.value) c.in_ok-value.ensures.reads (sym c.is_sign_at.ensures.sign ∙ c.if-not-is_sign_at.false)
    (sym c.may_close.ensures ∙ c.if-not-may_close.false)

pub expression-returns-clause-deeper : goal.expression-returns-clause-deeper
expression-returns-clause-deeper t c = sym c.may_close.ensures ∙ c.if-not-may_close.false

pub group_at-returns-then-depth-ge-MOST_LEVELS-clause-reads : goal.group_at-returns-then-depth-ge-MOST_LEVELS-clause-reads
group_at-returns-then-depth-ge-MOST_LEVELS-clause-reads t c =
    rw c.too_deep.ensures (group_deep (tokens_of c.args.tokens.now) c.args.depth c.args.at c.requires.there c.if-depth-ge-MOST_LEVELS.true)

pub group_at-returns-in_err-inner-clause-reads : goal.group_at-returns-in_err-inner-clause-reads
group_at-returns-in_err-inner-clause-reads t c =
    let p = err_from_is_err_and c.from_residual.result c.from_residual.ensures.1 in
    rw (p.1, p.2) (falls c.in_err-inner.field-0.0 c.in_err-inner.ensures.reads
    (λ fault h. group_stops (tokens_of c.args.tokens.now) c.args.depth c.args.at fault c.requires.there c.if-depth-ge-MOST_LEVELS.false h))

pub group_at-returns-clause-reads : goal.group_at-returns-clause-reads
group_at-returns-clause-reads t c =
    rw c.in_ok-group.ensures
    (group_takes (tokens_of c.args.tokens.now) c.args.depth c.args.at c.in_ok-inner.end (expression_tree c.in_ok-inner.inner) c.requires.there c.if-depth-ge-MOST_LEVELS.false c.in_ok-inner.ensures.reads)

pub operand-returns-then-not-is_minus_at-clause-reads : goal.operand-returns-then-not-is_minus_at-clause-reads
operand-returns-then-not-is_minus_at-clause-reads t c =
    operand_else (tokens_of c.args.tokens.now) c.args.depth c.args.at (λ x. expression_tree x.0) (λ x. x.1) c.primary.result (sym c.is_minus_at.ensures.sign ∙ c.if-not-is_minus_at.true) c.primary.ensures.reads

pub operand-returns-then-depth-ge-MOST_LEVELS-clause-reads : goal.operand-returns-then-depth-ge-MOST_LEVELS-clause-reads
operand-returns-then-depth-ge-MOST_LEVELS-clause-reads t c =
    rw c.too_deep.ensures (negative_deep (tokens_of c.args.tokens.now) c.args.depth c.args.at (sym c.is_minus_at.ensures.sign ∙ c.if-not-is_minus_at.false) c.if-depth-ge-MOST_LEVELS.true)

pub operand-returns-in_err-inner-clause-reads : goal.operand-returns-in_err-inner-clause-reads
operand-returns-in_err-inner-clause-reads t c =
    let p = err_from_is_err_and c.from_residual.result c.from_residual.ensures.1 in
    rw (p.1, p.2) (falls c.in_err-inner.field-0.0 c.in_err-inner.ensures.reads
    (λ fault h. negative_stops (tokens_of c.args.tokens.now) c.args.depth c.args.at fault (sym c.is_minus_at.ensures.sign ∙ c.if-not-is_minus_at.false) c.if-depth-ge-MOST_LEVELS.false h))

pub operand-returns-clause-reads : goal.operand-returns-clause-reads
operand-returns-clause-reads t c =
    rw c.in_ok-negative.ensures
    (negative_takes (tokens_of c.args.tokens.now) c.args.depth c.args.at c.in_ok-inner.end (expression_tree c.in_ok-inner.inner) (sym c.is_minus_at.ensures.sign ∙ c.if-not-is_minus_at.false) c.if-depth-ge-MOST_LEVELS.false c.in_ok-inner.ensures.reads)

pub primary-returns-in-Some-Number-clause-reads : goal.primary-returns-in-Some-Number-clause-reads
primary-returns-in-Some-Number-clause-reads t c =
    let there = rw c.in-Some-Number.field-0-is at c.in-Some-Number.ensures.token in
    rw c.number.ensures (target_one (tokens_of c.args.tokens.now) c.args.depth c.args.at (token.Number c.in-Some-Number.number) _ (sym there) refl)

pub primary-returns-in-Some-Field-clause-reads : goal.primary-returns-in-Some-Field-clause-reads
primary-returns-in-Some-Field-clause-reads t c =
    let there = rw c.in-Some-Field.field-0-is at c.in-Some-Field.ensures.token in
    rw c.field.ensures (target_one (tokens_of c.args.tokens.now) c.args.depth c.args.at (token.Field c.in-Some-Field.field c.in-Some-Field.line) _ (sym there) refl)

pub primary-returns-in_ok-word-in-Some-Name-clause-reads : goal.primary-returns-in_ok-word-in-Some-Name-clause-reads
primary-returns-in_ok-word-in-Some-Name-clause-reads t c =
    let there = rw c.in-Some-Name.field-0-is at c.in-Some-Name.ensures.token in
    rw (c.variable.ensures, c.in_ok-word-in-Some-Name.ensures)
    (target_one (tokens_of c.args.tokens.now) c.args.depth c.args.at (token.Name (record { name = c.in-Some-Name.name.now; line = c.in-Some-Name.line })) _ (sym there) refl)

pub primary-returns-in-Some-Let-clause-reads : goal.primary-returns-in-Some-Let-clause-reads
primary-returns-in-Some-Let-clause-reads t c =
    let there = rw c.in-Some-Let.field-0-is at c.in-Some-Let.ensures.token in
    rw c.unexpected.ensures (target_none (tokens_of c.args.tokens.now) c.args.depth c.args.at (Some (token.Let c.in-Some-Let.field-0-0)) (sym there) refl)

pub primary-returns-in-Some-CloseBrace-clause-reads : goal.primary-returns-in-Some-CloseBrace-clause-reads
primary-returns-in-Some-CloseBrace-clause-reads t c =
    let there = rw c.in-Some-CloseBrace.field-0-is at c.in-Some-CloseBrace.ensures.token in
    rw c.unexpected-in-Some-CloseBrace.ensures (target_none (tokens_of c.args.tokens.now) c.args.depth c.args.at (Some (token.CloseBrace c.in-Some-CloseBrace.field-0-0)) (sym there) refl)

pub primary-returns-in-None-clause-reads : goal.primary-returns-in-None-clause-reads
primary-returns-in-None-clause-reads t c =
    rw c.unexpected-in-None.ensures (target_none (tokens_of c.args.tokens.now) c.args.depth c.args.at None (sym c.in-None.ensures.token) tt)

pub primary_by-returns-in-Own-clause-reads : goal.primary_by-returns-in-Own-clause-reads
primary_by-returns-in-Own-clause-reads t c =
    rw c.own.ensures (target_one (tokens_of c.args.tokens.now) c.args.depth c.args.at _ _ c.requires.there (ap (λ s. target_by c.args.depth (token.Sign s)) c.in-Own.is))

pub primary_by-returns-in_default-clause-reads : goal.primary_by-returns-in_default-clause-reads
primary_by-returns-in_default-clause-reads t c =
    rw c.unexpected.ensures (target_none (tokens_of c.args.tokens.now) c.args.depth c.args.at _ c.requires.there (no_target_sign c.args.depth c.args.symbol c.in_default.not-Own c.in_default.not-Open))
