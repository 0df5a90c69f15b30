use Rattle.std.proofs.Common.{◌<◌, [], ◌∷◌, ◌++◌, length, get_or, ap, ◌∙◌, arith}
use Rattle.snap_base.specs.declared.ids.Tid.{Tid}
use Rattle.protocol.specs.OnCell.{not_done}
use Rattle.hybrid_schedule.proofs.Bounds.{slots_more, are_within_push}
use Rattle.hybrid_schedule.proofs.slots.Slots.of.Goals as goal

pub loop-t-preserved : goal.loop-t-preserved
loop-t-preserved c =
    let slots = c.loop-t.items.items in
    let tids = c.args.tids.now in
    let none : Tid = record { 0 = 0 } in
    let t : Tid = get_or tids c.loop-t.t-index none in
    let within : c.loop-t.t-index < length tids = omega arith in
    let pushed = c.push_in_room.ensures.items ∙ ap (λ s. slots ++ s ∷ []) c.new.ensures in
    record {
      items = pushed ∙ ap (λ xs. xs ++ not_done t.0 ∷ []) c.loop-t.invariant.items ∙ slots_more tids c.loop-t.t-index none within;
      fits = omega (arith, c.push_in_room.ensures.capacity);
      within = rw (c.min-least.ensures, c.max-greatest.ensures, pushed) (are_within_push c.loop-t.least c.loop-t.greatest t.0 slots c.loop-t.invariant.within);
    }
