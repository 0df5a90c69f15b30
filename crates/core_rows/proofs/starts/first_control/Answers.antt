use Rattle.std.proofs.Common.{slice_index_or, arith, ap, sym, subst, ◌∙◌}
use Rattle.std.specs.Prelude.{Contains}
use Rattle.std.proofs.lemmas.List.{get_or_default}
use Rattle.protocol.specs.Fixed.{no_tx}
use Rattle.core_rows.proofs.Begun.{message_is}
use Rattle.core_rows.proofs.starts.first_control.Goals as goal

pub returns : goal.returns
returns g c w who text starts =
    let is = ap (λ xs. slice_index_or xs c.args.n.0 no_tx) text ∙ (get_or_default c.args.txs.now c.args.n.0 no_tx c.index-txs-n.result c.requires.in_text ∙ sym c.index-txs-n.is) in
    let inside = subst (λ xs. Contains xs c.index-txs-n.result) (sym text) (c.args.n.0, c.requires.in_text, sym c.index-txs-n.is) in
    message_is w who c.args.t.0 c.args.n.0 c.index-txs-n.result c.in_ok-control.control
    (starts c.args.t _ c.in_ok-control.control (omega arith) inside c.in_ok-control.ensures) is
