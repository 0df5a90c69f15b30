use Rattle.std.proofs.Common.{◌<◌, length, slice_index_or, arith, ap, sym, subst, ◌∙◌}
use Rattle.std.proofs.lemmas.List.{get_or_default}
use Rattle.protocol.specs.Fixed.{no_tx}
use Rattle.audit_tale.proofs.Rings.{submit_met}
use Rattle.audit_tale.proofs.numbering.submit.Goals as goal

pub returns : goal.returns
returns c w e f =
    let inside : c.args.n.0 < length c.args.txs.now = omega arith in
    let is = ap (λ xs. slice_index_or xs c.args.n.0 no_tx) f ∙ get_or_default c.args.txs.now c.args.n.0 no_tx c.index-txs-at.result inside in
    submit_met w c.args.n.0 c.args.ring.now c.submit.new.self (omega arith) (subst (λ xs. c.args.n.0 < length xs) (sym f) inside) (c.in_ok-submit.ensures.ok w e (ap (λ x. x.kind) is))
