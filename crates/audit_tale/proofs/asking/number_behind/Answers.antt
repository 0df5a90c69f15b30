use Rattle.std.proofs.Common.{◌≡◌, Some, max, ap, sym, ◌∙◌}
use Rattle.std.specs.Prelude.{if◌then◌else◌, slice_get}
use Rattle.std.proofs.lemmas.Option.{slice_get-get_or}
use Rattle.snap_base.specs.declared.ids.Bid.{Bid}
use Rattle.audit_tale.specs.declared.tales.ActTale.{ActTale}
use Rattle.audit_tale.proofs.Asked.{number_known}
use Rattle.audit_tale.proofs.asking.number_behind.Goals as goal

pub returns : goal.returns
returns c w s t h owned acts same =
    let here : slice_get c.args.told.now.actors.items c.args.a.0 ≡ Some c.index.result.now = slice_get-get_or c.args.told.now.actors.items c.args.a.0 c.index.result.now c.requires.actor ∙ ap Some (sym c.index.ensures) in
    number_known w t c.args.a.0 c.args.at c.index-act.result.now c.index.result.now c.args.told.now s c.args.ahead.now c.index-act.result.now.before.0 c.gained_there-there.result.0 c.greatest_before-behind.result.0 c.later.result.0 h owned c.requires.act here same
    (ap (λ (x : ActTale). x.before.0) c.index-act.ensures)
    (c.gained_there-there.ensures ∙ ap (λ (x : ActTale). max c.index.result.now.last.0 (if x.reader then c.index.result.now.write_floor.0 else c.index.result.now.floor.0)) c.index-act.ensures)
    (c.greatest_before-behind.ensures w s h.names acts)
    (ap (λ (z : Bid). z.0) c.later.ensures ∙ ap (λ (z : Bid). max c.index-act.result.now.before.0 z.0) c.later-gained.ensures)
