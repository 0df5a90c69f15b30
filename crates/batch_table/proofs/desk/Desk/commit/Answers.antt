use Rattle.std.proofs.Common.{◌≡◌, true, List, length, arith, ap, sym, subst, ◌∙◌}
use Rattle.protocol.specs.Parts as stages
use Rattle.protocol.specs.Parts.{Batch, Desk}
use Rattle.protocol.specs.OnDesk.{changed_batch, with_stage}
use Rattle.batch_table.specs.Askings.{may_commit}
use Rattle.batch_table.proofs.Keeping.{sound_in, committing_sound}
use Rattle.batch_table.proofs.desk.Desk.commit.Goals as goal

pub invariant_of-self : goal.invariant_of-self
invariant_of-self c =
    let i = c.self.inside in
    let same = c.as_mut_slice.ensures.value in
    let may : may_commit c.args.bid.0 i.batches.items ≡ true = subst (λ (d : Desk). may_commit c.args.bid.0 d.batches ≡ true) (sym c.self.view_is) c.requires in
    sound_in i.batches c.set_stage.new.batches i.base i.settled i.replied i.spots.items i.live i.front (omega (arith, c.set_stage.auto.batches, ap length same))
    (committing_sound c.args.bid.0 i.base i.batches.items c.set_stage.new.batches i.settled i.replied i.spots.items i.live i.front c.self.invariant may
    (c.set_stage.ensures ∙ ap (λ (bs : List Batch). changed_batch c.args.bid.0 (with_stage stages.Committing) bs) same))
