use Rattle.std.proofs.Common.{sym, ◌∙◌}
use Rattle.aml_tokens.specs.Token.{tokens_of}
use Rattle.aml_parser.proofs.Parts.{fixed_takes, fixed_stops}
use Rattle.aml_parser.proofs.signs.skip.Goals as goal

pub returns-then-not-is_sign_at-clause-reads : goal.returns-then-not-is_sign_at-clause-reads
returns-then-not-is_sign_at-clause-reads c = rw c.unexpected.ensures (λ names. fixed_stops (tokens_of c.args.tokens.now) c.args.sign names c.args.at (sym c.is_sign_at.ensures.sign ∙ c.if-not-is_sign_at.true))

pub returns-clause-reads : goal.returns-clause-reads
returns-clause-reads c = λ names. fixed_takes (tokens_of c.args.tokens.now) c.args.sign names c.args.at (sym c.is_sign_at.ensures.sign ∙ c.if-not-is_sign_at.false)
