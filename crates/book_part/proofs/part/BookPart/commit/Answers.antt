use Rattle.std.proofs.Common.{rules, sym, ap, ◌∙◌}
use Rattle.std.proofs.Math.Facts.{to_z-of_z}
use Rattle.std.specs.Int.{w64}
use Rattle.protocol.specs.Words.{is_value, value_of}
use Rattle.book_part.proofs.Told.{no_commit, one_commit}
use Rattle.book_part.proofs.part.BookPart.commit.Goals as goal

pub returns-then-not-is_value : goal.returns-then-not-is_value
returns-then-not-is_value c = λ b s. no_commit _ _ c.self.view_is b c.args.t.0 s (sym c.if-not-is_value.true ∙ (c.is_value.ensures ∙ ap is_value c.result-ended.ensures))

pub returns : goal.returns
returns c = λ b s.
    one_commit _ _ c.self.view_is b c.args.t.0 _ _ _ _ s (sym c.if-not-is_value.false ∙ (c.is_value.ensures ∙ ap is_value c.result-ended.ensures)) c.before-2.ensures c.next_c.ensures
    (to_z-of_z {w = w64} {z = c.value_of.result} (search rules) ∙ c.value_of.ensures ∙ ap value_of c.result-ended.ensures) c.in_ok-actors.ensures
