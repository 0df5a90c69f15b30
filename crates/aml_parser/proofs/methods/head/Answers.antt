use Rattle.std.proofs.Common.{◌≡◌, ℕ, [], ◌∷◌, drop, Err, refl, sym, ◌∙◌, arith}
use Rattle.std.proofs.lemmas.Result.{err_from_is_err_and}
use Rattle.std.proofs.lemmas.List.{length-map}
use Rattle.aml_tokens.specs.Token.{token_of, tokens_of}
use Rattle.aml_parser.specs.Items.{Methods}
use Rattle.aml_parser.specs.Reading.{read}
use Rattle.aml_parser.proofs.Steps.{falls}
use Rattle.aml_parser.proofs.ProgramSteps.{head_method, head_method_many, head_read, head_read_many, head_word_stops, head_none}
use Rattle.aml_parser.proofs.methods.head.Goals as goal

pub returns-then-before-ge-MOST_METHODS-clause-reads : goal.returns-then-before-ge-MOST_METHODS-clause-reads
returns-then-before-ge-MOST_METHODS-clause-reads c =
    rw c.too_many.ensures (λ names. head_method_many (tokens_of c.args.tokens.now) c.args.before names c.args.at (sym c.is_method_at.ensures.sign ∙ c.if-is_method_at.true) c.if-before-ge-MOST_METHODS.true)

pub returns-then-is_method_at-clause-reads : goal.returns-then-is_method_at-clause-reads
returns-then-is_method_at-clause-reads c =
    head_method (tokens_of c.args.tokens.now) c.args.before c.args.at (sym c.is_method_at.ensures.sign ∙ c.if-is_method_at.true) c.if-before-ge-MOST_METHODS.false

pub returns-then-not-is_read_at-clause-reads : goal.returns-then-not-is_read_at-clause-reads
returns-then-not-is_read_at-clause-reads c =
    rw c.unexpected.ensures
    (λ names. head_none (tokens_of c.args.tokens.now) c.args.before names c.args.at _ refl (sym c.is_method_at.ensures.sign ∙ c.if-is_method_at.false) (sym c.is_read_at.ensures.sign ∙ c.if-not-is_read_at.true)
    (λ some. let within = c.requires some in omega (arith, within, length-map c.args.tokens.now token_of)))

pub returns-then-before-ge-MOST_METHODS-2-clause-reads : goal.returns-then-before-ge-MOST_METHODS-2-clause-reads
returns-then-before-ge-MOST_METHODS-2-clause-reads c =
    rw c.too_many-then-before-ge-MOST_METHODS-2.ensures (λ names. head_read_many (tokens_of c.args.tokens.now) c.args.before names c.args.at (sym c.is_read_at.ensures.sign ∙ c.if-not-is_read_at.false) c.if-before-ge-MOST_METHODS-2.true)

pub returns-in_err-start-clause-reads : goal.returns-in_err-start-clause-reads
returns-in_err-start-clause-reads c =
    let p = err_from_is_err_and c.from_residual.result c.from_residual.ensures.1 in
    rw (p.1, p.2) (falls {Q = λ fault. (names : ℕ) → read (Methods c.args.before ∷ []) names c.args.at (drop c.args.at (tokens_of c.args.tokens.now)) ≡ Err fault} c.in_err-start.field-0.0 c.in_err-start.ensures.reads
    (λ fault h names. head_word_stops (tokens_of c.args.tokens.now) c.args.before names c.args.at fault (sym c.is_read_at.ensures.sign ∙ c.if-not-is_read_at.false) c.if-before-ge-MOST_METHODS-2.false h))

pub returns-clause-reads : goal.returns-clause-reads
returns-clause-reads c =
    head_read (tokens_of c.args.tokens.now) c.args.before c.args.at c.in_ok-start.start (sym c.is_read_at.ensures.sign ∙ c.if-not-is_read_at.false) c.if-before-ge-MOST_METHODS-2.false c.in_ok-start.ensures.reads
