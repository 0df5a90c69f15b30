use Rattle.std.proofs.Common.{◌≡◌, ◌++◌, ◌-◌, true, List, length, map, take, drop, arith, ap, sym, subst, ◌∙◌}
use Rattle.protocol.specs.Parts.{Batch, Desk}
use Rattle.protocol.specs.Words.{count, is_live_batch}
use Rattle.protocol.specs.OnDesk.{batches_aborted}
use Rattle.batch_table.specs.Askings.{is_next_open}
use Rattle.batch_table.specs.Places.{gone}
use Rattle.batch_table.proofs.FrontOver.{next_is_front}
use Rattle.batch_table.proofs.LiveCount.{live_split}
use Rattle.batch_table.proofs.Keeping.{same_items, sound_in, aborted_sound, taken_from_front}
use Rattle.batch_table.proofs.desk.Desk.abort_from.Goals as goal

pub abort_from-requires-clause-within : goal.abort_from-requires-clause-within
abort_from-requires-clause-within c =
    let i = c.self.inside in
    let may : is_next_open c.args.bid.0 i.batches.items ≡ true = subst (λ (d : Desk). is_next_open c.args.bid.0 d.batches ≡ true) (sym c.self.view_is) c.requires.next in
    let at = next_is_front c.args.bid.0 i.base i.front i.batches.items c.self.invariant.numbered c.self.invariant.parted may in
    omega (arith, at.1, ap length c.as_mut_slice.ensures.value)

pub abort_from-requires-clause-few : goal.abort_from-requires-clause-few
abort_from-requires-clause-few c =
    let i = c.self.inside in
    omega (arith, live_split i.front i.batches.items, c.self.invariant.counted, ap (λ (bs : List Batch). count is_live_batch (drop i.front bs)) c.as_mut_slice.ensures.value)

pub overflow_sub-self : goal.overflow_sub-self
overflow_sub-self c =
    let i = c.self.inside in
    omega (arith, c.abort_from.ensures.live, live_split i.front i.batches.items, c.self.invariant.counted, ap (λ (bs : List Batch). count is_live_batch (drop i.front bs)) c.as_mut_slice.ensures.value)

pub invariant_of-self : goal.invariant_of-self
invariant_of-self c =
    let i = c.self.inside in
    let same = c.as_mut_slice.ensures.value in
    let ws = c.abort_from.new.batches in
    let long : length ws ≡ length i.batches.items = omega (arith, c.abort_from.auto.batches, ap length same) in
    let may : is_next_open c.args.bid.0 i.batches.items ≡ true = subst (λ (d : Desk). is_next_open c.args.bid.0 d.batches ≡ true) (sym c.self.view_is) c.requires.next in
    sound_in i.batches ws i.base i.settled i.replied i.spots.items (i.live - c.abort_from.result) c.len-self-inside.result long
    (aborted_sound c.args.bid.0 i.base i.batches.items ws i.settled i.replied i.spots.items i.live (i.live - c.abort_from.result) i.front c.len-self-inside.result c.self.invariant may
    (c.abort_from.ensures.aborted ∙ ap (λ (bs : List Batch). take i.front bs ++ map gone (drop i.front bs)) same)
    (omega (arith, c.abort_from.ensures.live, live_split i.front i.batches.items, c.self.invariant.counted, ap (λ (bs : List Batch). count is_live_batch (drop i.front bs)) same))
    (omega (arith, c.len-self-inside.ensures, i.batches.ok.0)))

pub returns : goal.returns
returns c =
    let i = c.self.inside in
    let same = c.as_mut_slice.ensures.value in
    let ws = c.abort_from.new.batches in
    let long : length ws ≡ length i.batches.items = omega (arith, c.abort_from.auto.batches, ap length same) in
    let may : is_next_open c.args.bid.0 i.batches.items ≡ true = subst (λ (d : Desk). is_next_open c.args.bid.0 d.batches ≡ true) (sym c.self.view_is) c.requires.next in
    ap (λ (bs : List Batch). record { batches = bs; settled = i.settled; replied = i.replied })
    (same_items i.batches ws long
    ∙ taken_from_front c.args.bid.0 i.base i.front i.batches.items ws c.self.invariant.numbered c.self.invariant.parted may
    (c.abort_from.ensures.aborted ∙ ap (λ (bs : List Batch). take i.front bs ++ map gone (drop i.front bs)) same))
    ∙ ap (λ (d : Desk). batches_aborted c.args.bid.0 d) c.self.view_is
