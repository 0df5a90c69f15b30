use Rattle.std.proofs.Common.{◌≡◌, ◌-◌, true, List, length, arith, ap, sym, subst, ◌∙◌}
use Rattle.protocol.specs.Parts.{Batch, Desk}
use Rattle.protocol.specs.OnDesk.{changed_batch, marked, is_trimmed}
use Rattle.protocol.specs.Numbers.{one_if}
use Rattle.batch_table.specs.Askings.{awaits_trim}
use Rattle.batch_table.specs.Places.{is_live_with_trim}
use Rattle.batch_table.proofs.Keeping.{sound_in, trim_counted, trimmed_sound}
use Rattle.batch_table.proofs.desk.Desk.trim.Goals as goal

pub overflow_sub-self : goal.overflow_sub-self
overflow_sub-self c =
    let i = c.self.inside in
    let same = c.as_mut_slice.ensures.value in
    let may : awaits_trim c.args.bid.0 c.args.actor.0 i.batches.items ≡ true = subst (λ (d : Desk). awaits_trim c.args.bid.0 c.args.actor.0 d.batches ≡ true) (sym c.self.view_is) c.requires in
    let live_is = c.trim.ensures.live ∙ ap (λ (bs : List Batch). is_live_with_trim c.args.bid.0 c.args.actor.0 bs) same in
    omega (arith, trim_counted c.args.bid.0 c.args.actor.0 i.base i.batches.items c.self.invariant.numbered may, c.self.invariant.counted, ap one_if (sym live_is ∙ c.if-not-trim.true))

pub invariant_of-self : goal.invariant_of-self
invariant_of-self c =
    let i = c.self.inside in
    let same = c.as_mut_slice.ensures.value in
    let may : awaits_trim c.args.bid.0 c.args.actor.0 i.batches.items ≡ true = subst (λ (d : Desk). awaits_trim c.args.bid.0 c.args.actor.0 d.batches ≡ true) (sym c.self.view_is) c.requires in
    let live_is = c.trim.ensures.live ∙ ap (λ (bs : List Batch). is_live_with_trim c.args.bid.0 c.args.actor.0 bs) same in
    sound_in i.batches c.trim.new.batches i.base i.settled i.replied i.spots.items (i.live - 1) i.front (omega (arith, c.trim.auto.batches, ap length same))
    (trimmed_sound c.args.bid.0 c.args.actor.0 i.base i.batches.items c.trim.new.batches i.settled i.replied i.spots.items i.live (i.live - 1) i.front c.self.invariant may
    (c.trim.ensures.trimmed ∙ ap (λ (bs : List Batch). changed_batch c.args.bid.0 (marked c.args.actor.0 is_trimmed) bs) same)
    (omega (arith, trim_counted c.args.bid.0 c.args.actor.0 i.base i.batches.items c.self.invariant.numbered may, c.self.invariant.counted, ap one_if (sym live_is ∙ c.if-not-trim.true))))

pub invariant_of-self-else-not-trim : goal.invariant_of-self-else-not-trim
invariant_of-self-else-not-trim c =
    let i = c.self.inside in
    let same = c.as_mut_slice.ensures.value in
    let may : awaits_trim c.args.bid.0 c.args.actor.0 i.batches.items ≡ true = subst (λ (d : Desk). awaits_trim c.args.bid.0 c.args.actor.0 d.batches ≡ true) (sym c.self.view_is) c.requires in
    let live_is = c.trim.ensures.live ∙ ap (λ (bs : List Batch). is_live_with_trim c.args.bid.0 c.args.actor.0 bs) same in
    sound_in i.batches c.trim.new.batches i.base i.settled i.replied i.spots.items i.live i.front (omega (arith, c.trim.auto.batches, ap length same))
    (trimmed_sound c.args.bid.0 c.args.actor.0 i.base i.batches.items c.trim.new.batches i.settled i.replied i.spots.items i.live i.live i.front c.self.invariant may
    (c.trim.ensures.trimmed ∙ ap (λ (bs : List Batch). changed_batch c.args.bid.0 (marked c.args.actor.0 is_trimmed) bs) same)
    (omega (arith, ap one_if (sym live_is ∙ c.if-not-trim.false))))
