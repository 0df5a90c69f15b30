use Rattle.decimal_words.proofs.Spellings.{spells_read, IsPlain-decimal, IsUtf8-decimal, IfSome-result_ok, decimal_read}
use Rattle.decimal_words.specs.Plain.{IsPlain}
use Rattle.decimal_words.proofs.natural.Goals as goal

pub returns-then-not-is_plain-clause-only : goal.returns-then-not-is_plain-clause-only
returns-then-not-is_plain-clause-only c n small e = cc (c.if-not-is_plain.ensures.1 (IsPlain-decimal c.args.word.now n small e))

pub returns-in_default-clause-only : goal.returns-in_default-clause-only
returns-in_default-clause-only c n small e = absurd (c.in_default.ensures.cases.0 (IsUtf8-decimal c.args.word.now n small e))

pub returns-clause-found : goal.returns-clause-found
returns-clause-found c =
    let plain : IsPlain c.args.word.now = c.is_plain.ensures.0 c.if-not-is_plain.false in
    IfSome-result_ok _ c.parse.result c.ok.result c.ok.ensures.value
    (spells_read c.args.word.now c.parse.result plain (rw c.in-Ok.ensures.cases.0 at c.parse.ensures.value.0))

pub returns-clause-only : goal.returns-clause-only
returns-clause-only c n small e =
    decimal_read c.args.word.now n c.parse.result c.ok.result small e
    (rw c.in-Ok.ensures.cases.0 at c.parse.ensures.value.0) c.ok.ensures.value
