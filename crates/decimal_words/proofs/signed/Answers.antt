use Rattle.decimal_words.proofs.Spellings.{spells_signed_read, IsSignedPlain-signed_decimal, IsUtf8-signed_decimal, IfSome-result_ok, signed_decimal_read}
use Rattle.decimal_words.specs.Plain.{IsSignedPlain}
use Rattle.decimal_words.proofs.signed.Goals as goal

pub returns-then-not-is_signed_plain-clause-only : goal.returns-then-not-is_signed_plain-clause-only
returns-then-not-is_signed_plain-clause-only c z fits e = cc (c.if-not-is_signed_plain.ensures.1 (IsSignedPlain-signed_decimal c.args.word.now z fits e))

pub returns-in_default-clause-only : goal.returns-in_default-clause-only
returns-in_default-clause-only c z fits e = absurd (c.in_default.ensures.cases.0 (IsUtf8-signed_decimal c.args.word.now z fits e))

pub returns-clause-found : goal.returns-clause-found
returns-clause-found c =
    let plain : IsSignedPlain c.args.word.now = c.is_signed_plain.ensures.0 c.if-not-is_signed_plain.false in
    IfSome-result_ok _ c.parse.result c.ok.result c.ok.ensures.value
    (spells_signed_read c.args.word.now c.parse.result plain (rw c.in-Ok.ensures.cases.0 at c.parse.ensures.value.0))

pub returns-clause-only : goal.returns-clause-only
returns-clause-only c z fits e =
    signed_decimal_read c.args.word.now z c.parse.result c.ok.result fits e
    (rw c.in-Ok.ensures.cases.0 at c.parse.ensures.value.0) c.ok.ensures.value
