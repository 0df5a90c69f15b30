use Rattle.std.proofs.Common.{◌≡◌, ◌++◌, ◌∷◌, [], ℕ, length, drop, get_or, ap, subst, ◌∙◌, arith}
use Rattle.std.specs.Prelude.{if◌then◌else◌}
use Rattle.aml_tokens.specs.Lexing.{joins}
use Rattle.aml_tokens.specs.Writing.{Written, with_piece}
use Rattle.aml_tokens.proofs.Appended.{piece_behind}
use Rattle.aml_tokens.proofs.writer.Writer.piece.Goals as goal

pub returns : goal.returns
returns c =
    let text = c.self.inside.text.items in
    let last = drop c.self.inside.last text in
    let first : c.part.new.text.items ≡ text ++ (if joins last (get_or c.args.piece.now 0 0) then 32 ∷ [] else []) =
    c.in_ok-part.ensures.blank ∙ ap (λ (b : ℕ). text ++ (if joins last b then 32 ∷ [] else [])) c.first_byte.ensures in
    let begun : c.len-begun.result ≡ length c.part.new.text.items = omega (arith, c.part.new.text.ok.0, c.len-begun.ensures) in
    let here = piece_behind text last c.args.piece.now c.part.new.text.items c.extend_from_slice.new.self.items c.len-begun.result first begun c.in_ok-extend_from_slice.ensures.items in
    subst (λ (w : Written). ◌≡◌ {A = Written} (record { text = c.extend_from_slice.new.self.items; last = drop c.len-begun.result c.extend_from_slice.new.self.items }) (with_piece w c.args.piece.now)) c.self.view_is here
