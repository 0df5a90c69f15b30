use Rattle.std.proofs.Common.{sym, ◌∙◌}
use Rattle.aml_tokens.specs.Token.{tokens_of}
use Rattle.aml_parser.proofs.Parts.{opening_takes, opening_stops, opening_deep}
use Rattle.aml_parser.proofs.signs.open.Goals as goal

pub returns-then-not-is_sign_at-clause-reads : goal.returns-then-not-is_sign_at-clause-reads
returns-then-not-is_sign_at-clause-reads c = rw c.unexpected.ensures (λ names. opening_stops (tokens_of c.args.tokens.now) c.args.depth c.args.sign names c.args.at (sym c.is_sign_at.ensures.sign ∙ c.if-not-is_sign_at.true))

pub returns-then-depth-ge-MOST_LEVELS-clause-reads : goal.returns-then-depth-ge-MOST_LEVELS-clause-reads
returns-then-depth-ge-MOST_LEVELS-clause-reads c =
    rw c.too_deep.ensures (λ names. opening_deep (tokens_of c.args.tokens.now) c.args.depth c.args.sign names c.args.at (sym c.is_sign_at.ensures.sign ∙ c.if-not-is_sign_at.false) c.if-depth-ge-MOST_LEVELS.true)

pub returns-clause-reads : goal.returns-clause-reads
returns-clause-reads c = λ names. opening_takes (tokens_of c.args.tokens.now) c.args.depth c.args.sign names c.args.at (sym c.is_sign_at.ensures.sign ∙ c.if-not-is_sign_at.false) c.if-depth-ge-MOST_LEVELS.false
