use Rattle.std.proofs.Common.{sym, ◌∙◌, ℕ, [], ◌∷◌, map, arith}
use Rattle.std.proofs.lemmas.Result.{err_from_is_err_and}
use Rattle.aml_tokens.specs.Token.{tokens_of}
use Rattle.aml_tree.specs.Tree.{expression_tree}
use Rattle.aml_parser.specs.Items.{Arguments, Closer, Expression}
use Rattle.aml_parser.specs.Reading.{StopsAt}
use Rattle.aml_parser.proofs.Steps.{falls}
use Rattle.aml_parser.proofs.ArgumentSteps.{no_arguments, arguing_begins, arguing_goes, arguing_ends, arguing_stops, arguing_none}
use Rattle.aml_parser.proofs.expressions.arguments.Goals as goal

pub loop-arguments-init : goal.loop-arguments-init
loop-arguments-init c = record { so_far = rw c.new-arguments.ensures.items (arguing_begins (tokens_of c.args.tokens.now) c.args.depth c.args.at (sym c.is_close_at.ensures.sign ∙ c.if-is_close_at.false)); onward = omega arith }

pub returns-then-is_close_at-clause-reads : goal.returns-then-is_close_at-clause-reads
returns-then-is_close_at-clause-reads c = rw c.new-arguments.ensures.items (no_arguments (tokens_of c.args.tokens.now) c.args.depth c.args.at (sym c.is_close_at.ensures.sign ∙ c.if-is_close_at.true))

pub returns-in_err-value-clause-reads : goal.returns-in_err-value-clause-reads
returns-in_err-value-clause-reads c =
    let p = err_from_is_err_and c.from_residual.result c.from_residual.ensures.1 in
    rw (p.1, p.2) (falls c.in_err-value.field-0.0 c.in_err-value.ensures.reads
    (λ fault (h : (closer : Closer) (names : ℕ) → StopsAt (tokens_of c.args.tokens.now) (Expression c.args.depth closer ∷ []) names c.loop-arguments.end fault). arguing_stops (tokens_of c.args.tokens.now) c.args.depth c.args.at c.loop-arguments.end (map expression_tree c.loop-arguments.arguments.items) fault c.loop-arguments.invariant.so_far (h Arguments)))

pub returns-then-is_close_at-2-clause-reads : goal.returns-then-is_close_at-2-clause-reads
returns-then-is_close_at-2-clause-reads c =
    arguing_ends (tokens_of c.args.tokens.now) c.args.depth c.args.at c.loop-arguments.end c.in_ok-value.behind (map expression_tree c.loop-arguments.arguments.items) (map expression_tree c.put_argument.new.arguments.items) (expression_tree c.in_ok-value.value)
    c.loop-arguments.invariant.so_far c.in_ok-value.ensures.reads (sym c.is_close_at-in-loop-arguments.ensures.sign ∙ c.if-is_close_at-2.true) c.in_ok-put_argument.ensures

pub returns-then-not-is_comma_at-clause-reads : goal.returns-then-not-is_comma_at-clause-reads
returns-then-not-is_comma_at-clause-reads c =
    rw c.unexpected.ensures
    (arguing_none (tokens_of c.args.tokens.now) c.args.depth c.args.at c.loop-arguments.end c.in_ok-value.behind (map expression_tree c.loop-arguments.arguments.items) (expression_tree c.in_ok-value.value)
    c.loop-arguments.invariant.so_far c.in_ok-value.ensures.reads (sym c.is_close_at-in-loop-arguments.ensures.sign ∙ c.if-is_close_at-2.false) (sym c.is_comma_at.ensures.sign ∙ c.if-not-is_comma_at.true))

pub loop-arguments-preserved : goal.loop-arguments-preserved
loop-arguments-preserved c = record {
  so_far =
      arguing_goes (tokens_of c.args.tokens.now) c.args.depth c.args.at c.loop-arguments.end c.in_ok-value.behind (map expression_tree c.loop-arguments.arguments.items) (map expression_tree c.put_argument.new.arguments.items) (expression_tree c.in_ok-value.value)
      c.loop-arguments.invariant.so_far c.in_ok-value.ensures.reads (sym c.is_comma_at.ensures.sign ∙ c.if-not-is_comma_at.false) c.in_ok-put_argument.ensures;
  onward = omega (arith, c.loop-arguments.invariant.onward, c.in_ok-value.ensures.onward);
}
