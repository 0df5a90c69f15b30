use Rattle.std.proofs.Common.{◌≡◌, ℕ, false, List, sym, subst, ◌∙◌, arith}
use Rattle.std.specs.Str.{bytes_eq}
use Rattle.aml_tokens.specs.Lexing.{field_words}
use Rattle.aml_tokens.proofs.Numerals.{another_field}
use Rattle.aml_tokens.proofs.words.field_in.Goals as goal

pub loop-field-preserved : goal.loop-field-preserved
loop-field-preserved c =
    let other : bytes_eq c.args.bytes.now c.field_bytes.result.now ≡ false = sym c.eq.ensures ∙ c.if-eq.false in
    sym (another_field field_words c.args.bytes.now c.loop-field.field (omega arith) (subst (λ (word : List ℕ). bytes_eq c.args.bytes.now word ≡ false) c.field_bytes.ensures other)) ∙ c.loop-field.invariant
