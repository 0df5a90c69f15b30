use Rattle.std.proofs.Common.{◌≡◌, None, slice_get, sym, ap, ◌∙◌}
use Rattle.std.specs.Prelude.{option_copied, unwrap_or}
use Rattle.std.proofs.lemmas.Option.{unwrap_or-slice_get}
use Rattle.protocol.specs.Fixed.{declared, no_tx}
use Rattle.ready_news.proofs.in_cells.uses_of.Goals as goal

pub returns-in-None : goal.returns-in-None
returns-in-None c =
    let txs = c.args.tables.now.work.txs in
    let none : slice_get txs c.args.n.0 ≡ None = sym c.get.ensures ∙ ap option_copied c.in-None.is in
    ap declared (ap (λ o. unwrap_or o no_tx) (sym none) ∙ unwrap_or-slice_get txs c.args.n.0 no_tx)
