use Rattle.std.proofs.Common.{sym, subst, ◌∙◌}
use Rattle.protocol.specs.Events.{Seal}
use Rattle.protocol.specs.Effects.{after}
use Rattle.book_part.specs.Halves.{Shows}
use Rattle.core_rows.proofs.Rules.{allowed_where}
use Rattle.core_rows.proofs.voting.seal.Goals as goal

pub returns-clause-ok : goal.returns-clause-ok
unfolding after
returns-clause-ok g c w s r shows =
    let ok = allowed_where w (Seal c.args.t.0) s (c.seal_refusal-rule.ensures w s r shows ∙ c.if-rule-ne0.false) in
    (ok, (subst (λ h. Shows h (after w (Seal c.args.t.0) s).book) (sym c.seal.ensures) (c.books_go_on.ensures w (Seal c.args.t.0) s c.args.book.now r shows.0 ok), shows.1))
