use Rattle.std.proofs.Common.{◌+◌, ◌%◌, length, ap, sym, ◌∙◌, subst}
use Rattle.protocol.specs.Events.{Pass}
use Rattle.protocol.specs.Effects.{after}
use Rattle.protocol.specs.OnRing.{passed}
use Rattle.token_ring.specs.Asked.{MayPass}
use Rattle.core_rows.proofs.Rules.{allowed_where}
use Rattle.core_rows.proofs.ring.pass.Goals as goal

pub pass-requires : goal.pass-requires
pass-requires g c =
    let ok = allowed_where c.requires.text (Pass c.args.c) c.requires.state (c.pass_refusal-rule.ensures c.requires.text c.requires.state c.requires.run c.requires.shows ∙ c.if-rule-ne0.false) in
    subst MayPass c.requires.shows ((c.rows_may.ensures c.requires.text c.requires.state c.requires.run).passes c.args.c ok).0

pub returns-clause-ok : goal.returns-clause-ok
unfolding after
returns-clause-ok g c w s r shows =
    let ok = allowed_where w (Pass c.args.c) s (c.pass_refusal-rule.ensures w s r shows ∙ c.if-rule-ne0.false) in
    (ok, ap (λ n. passed n s.ring) ((c.rows_may.ensures w s r).passes c.args.c ok).1 ∙ (ap (λ x. passed ((x.holder + 1) % length x.pacts) x) shows ∙ sym c.pass.ensures))
