use Rattle.std.proofs.Common.{◌≡◌, ◌+◌, true, List, length, arith, ap, sym, subst, ◌∙◌}
use Rattle.protocol.specs.Parts as stages
use Rattle.protocol.specs.Parts.{Batch, Desk}
use Rattle.protocol.specs.OnDesk.{changed_batch, with_stage}
use Rattle.batch_table.specs.Askings.{awaits_settling}
use Rattle.batch_table.proofs.FrontOver.{settling_is_front}
use Rattle.batch_table.proofs.Keeping.{sound_in, settled_sound}
use Rattle.batch_table.proofs.desk.Desk.settle.Goals as goal

pub overflow_add-self : goal.overflow_add-self
overflow_add-self c =
    let i = c.self.inside in
    let may : awaits_settling c.args.bid.0 i.batches.items ≡ true = subst (λ (d : Desk). awaits_settling c.args.bid.0 d.batches ≡ true) (sym c.self.view_is) c.requires in
    let at = settling_is_front c.args.bid.0 i.base i.front i.batches.items c.self.invariant.numbered c.self.invariant.parted may in
    omega (arith, at.1, i.batches.ok.0, i.batches.small)

pub invariant_of-self : goal.invariant_of-self
invariant_of-self c =
    let i = c.self.inside in
    let same = c.as_mut_slice.ensures.value in
    let may : awaits_settling c.args.bid.0 i.batches.items ≡ true = subst (λ (d : Desk). awaits_settling c.args.bid.0 d.batches ≡ true) (sym c.self.view_is) c.requires in
    sound_in i.batches c.set_stage.new.batches i.base c.args.bid.0 i.replied i.spots.items i.live (i.front + 1) (omega (arith, c.set_stage.auto.batches, ap length same))
    (settled_sound c.args.bid.0 i.base i.batches.items c.set_stage.new.batches i.settled i.replied i.spots.items i.live i.front c.self.invariant may
    (c.set_stage.ensures ∙ ap (λ (bs : List Batch). changed_batch c.args.bid.0 (with_stage stages.Settled) bs) same))
