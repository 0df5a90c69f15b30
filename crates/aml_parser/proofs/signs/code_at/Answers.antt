use Rattle.std.proofs.Common.{sym}
use Rattle.aml_tokens.specs.Token.{tokens_of}
use Rattle.aml_parser.proofs.Names.{failing_takes, failing_below, failing_above, failing_none}
use Rattle.aml_parser.proofs.signs.code_at.Goals as goal

pub returns-in_default-clause-reads : goal.returns-in_default-clause-reads
returns-in_default-clause-reads c = rw c.unexpected.ensures (λ names. failing_none (tokens_of c.args.tokens.now) names c.args.at (sym c.in_default.ensures.number))

pub returns-then-number-lt1-clause-reads : goal.returns-then-number-lt1-clause-reads
returns-then-number-lt1-clause-reads c = rw c.out_of_range.ensures (λ names. failing_below (tokens_of c.args.tokens.now) names c.args.at c.in-Some.number (sym c.in-Some.ensures.number) c.if-number-lt1.true)

pub returns-then-number-gt-GREATEST_CODE-clause-reads : goal.returns-then-number-gt-GREATEST_CODE-clause-reads
returns-then-number-gt-GREATEST_CODE-clause-reads c = rw c.out_of_range-then-number-gt-GREATEST_CODE.ensures (λ names. failing_above (tokens_of c.args.tokens.now) names c.args.at c.in-Some.number (sym c.in-Some.ensures.number) c.if-number-gt-GREATEST_CODE.true)

pub returns-clause-reads : goal.returns-clause-reads
returns-clause-reads c = λ names. failing_takes (tokens_of c.args.tokens.now) names c.args.at c.in-Some.number (sym c.in-Some.ensures.number) c.if-number-lt1.false c.if-number-gt-GREATEST_CODE.false
