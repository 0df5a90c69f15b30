use Rattle.std.proofs.Common.{sym, ◌∙◌, arith}
use Rattle.std.proofs.lemmas.Result.{err_from_is_err_and}
use Rattle.aml_tokens.specs.Token.{tokens_of}
use Rattle.aml_parser.proofs.Steps.{falls}
use Rattle.aml_parser.proofs.ParameterSteps.{no_parameters, naming_begins, naming_goes, naming_ends, naming_stops, naming_none}
use Rattle.aml_parser.proofs.methods.parameters.Goals as goal

pub loop-parameters-init : goal.loop-parameters-init
loop-parameters-init c = record { so_far = rw c.new-parameters.ensures.items (naming_begins (tokens_of c.args.tokens.now) c.args.at (sym c.is_close_at.ensures.sign ∙ c.if-is_close_at.false)); onward = omega arith }

pub returns-then-is_close_at-clause-reads : goal.returns-then-is_close_at-clause-reads
returns-then-is_close_at-clause-reads c = rw c.new-parameters.ensures.items (no_parameters (tokens_of c.args.tokens.now) c.args.at (sym c.is_close_at.ensures.sign ∙ c.if-is_close_at.true))

pub returns-in_err-name-clause-reads : goal.returns-in_err-name-clause-reads
returns-in_err-name-clause-reads c =
    let p = err_from_is_err_and c.from_residual.result c.from_residual.ensures.1 in
    rw (p.1, p.2) (falls c.in_err-name.field-0.0 c.in_err-name.ensures.reads
    (λ fault h. naming_stops (tokens_of c.args.tokens.now) c.args.at c.loop-parameters.count c.loop-parameters.end c.loop-parameters.parameters.items fault c.loop-parameters.invariant.so_far h))

pub returns-then-is_close_at-2-clause-reads : goal.returns-then-is_close_at-2-clause-reads
returns-then-is_close_at-2-clause-reads c =
    naming_ends (tokens_of c.args.tokens.now) c.args.at c.loop-parameters.count c.loop-parameters.end c.in_ok-name.behind c.loop-parameters.parameters.items c.put_parameter.new.parameters.items c.in_ok-name.name
    c.loop-parameters.invariant.so_far c.in_ok-name.ensures.reads (sym c.is_close_at-in-loop-parameters.ensures.sign ∙ c.if-is_close_at-2.true) c.in_ok-put_parameter.ensures

pub returns-then-not-is_comma_at-clause-reads : goal.returns-then-not-is_comma_at-clause-reads
returns-then-not-is_comma_at-clause-reads c =
    rw c.unexpected.ensures
    (naming_none (tokens_of c.args.tokens.now) c.args.at c.loop-parameters.count c.loop-parameters.end c.in_ok-name.behind c.loop-parameters.parameters.items c.in_ok-name.name
    c.loop-parameters.invariant.so_far c.in_ok-name.ensures.reads (sym c.is_close_at-in-loop-parameters.ensures.sign ∙ c.if-is_close_at-2.false) (sym c.is_comma_at.ensures.sign ∙ c.if-not-is_comma_at.true))

pub loop-parameters-preserved : goal.loop-parameters-preserved
loop-parameters-preserved c = record {
  so_far =
      naming_goes (tokens_of c.args.tokens.now) c.args.at c.loop-parameters.count c.loop-parameters.end c.in_ok-name.behind c.loop-parameters.parameters.items c.put_parameter.new.parameters.items c.in_ok-name.name
      c.loop-parameters.invariant.so_far c.in_ok-name.ensures.reads (sym c.is_comma_at.ensures.sign ∙ c.if-not-is_comma_at.false) c.in_ok-put_parameter.ensures;
  onward = omega (arith, c.loop-parameters.invariant.onward, c.in_ok-name.ensures.onward);
}
