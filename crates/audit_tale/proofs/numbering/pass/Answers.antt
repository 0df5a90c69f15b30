use Rattle.std.proofs.Common.{◌≡◌, ◌+◌, ◌%◌, length, ap, sym, ◌∙◌}
use Rattle.std.proofs.lemmas.Bool.{and_parts}
use Rattle.protocol.specs.OnRing.{passed}
use Rattle.audit_tale.proofs.Rings.{pass_met}
use Rattle.audit_tale.proofs.numbering.pass.Goals as goal

pub returns : goal.returns
returns c w e =
    let next : c.args.c ≡ (c.args.ring.now.holder + 1) % length c.args.ring.now.pacts =
    c.if-c-next.false ∙ (ap (λ h. (h + 1) % c.coordinators.result) c.holder.ensures.value ∙ ap (λ n. (c.args.ring.now.holder + 1) % n) c.coordinators.ensures.pacts) in
    let may = and_parts _ _ (sym c.if-not-may_pass.ensures) in
    pass_met w c.args.c c.args.ring.now c.pass.new.self (next ∙ ap (λ n. (c.args.ring.now.holder + 1) % n) (sym e)) may.0 may.1 (c.pass.ensures ∙ ap (λ k. passed k c.args.ring.now) (sym next))
