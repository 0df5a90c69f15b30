use Rattle.std.proofs.Common.{ℕ, List, ap, sym, ◌∙◌, get_or, map, take}
use Rattle.std.proofs.lemmas.List.{map_more}
use Rattle.snap_base.specs.declared.ids.Tid.{Tid}
use Rattle.protocol.specs.Meant.{tid_number}
use Rattle.protocol.specs.Parts.{Act}
use Rattle.protocol.specs.OnBook.{changed_act, lowered}
use Rattle.order_book.specs.Changes.{lowered_to}
use Rattle.order_book.proofs.Lowering.{lowered_none, lowered_more}
use Rattle.order_book.proofs.placing.lower_each.Goals as goal

pub loop-t-init : goal.loop-t-init
loop-t-init c = lowered_none c.args.bid.0 c.args.register.now

pub loop-t-preserved : goal.loop-t-preserved
loop-t-preserved c =
    let t : Tid = get_or c.args.acts.now c.loop-t.t-index (record { 0 = 0 }) in
    let before : List ℕ = map tid_number (take c.loop-t.t-index c.args.acts.now) in
    c.change.ensures
    ∙ (sym (c.place_of-at.ensures.changes (lowered_to c.args.bid.0))
    ∙ (ap (λ (acts : List Act). changed_act t.0 (lowered_to c.args.bid.0) acts) c.loop-t.invariant
    ∙ (lowered_more c.args.bid.0 t.0 before c.args.register.now
    ∙ ap (λ (ts : List ℕ). map (lowered c.args.bid.0 ts) c.args.register.now) (sym (map_more tid_number c.args.acts.now c.loop-t.t-index (record { 0 = 0 }) c.loop-t-test.true)))))
