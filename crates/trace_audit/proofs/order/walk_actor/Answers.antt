use Rattle.std.proofs.Common.{ℕ, ◌||◌, [], List, map, ap, ◌∙◌}
use Rattle.std.specs.List.{flat_map}
use Rattle.snap_base.specs.declared.ids.Tid.{Tid}
use Rattle.snap_base.specs.declared.transactions.Who.{Who}
use Rattle.protocol.specs.Meant.{tid_number}
use Rattle.protocol.specs.Words.{is_among}
use Rattle.trace_audit.specs.Risen.{chain_of, has_stamp, stamped}
use Rattle.trace_audit.proofs.Walking.{chain_walked, walked}
use Rattle.trace_audit.proofs.order.walk_actor.Goals as goal

pub returns-clause-rises : goal.returns-clause-rises
returns-clause-rises c ms g l few n h =
    let batches = c.args.groups.now.batches.items in
    let acts = c.args.groups.now.acts.items in
    let stamps = c.put_stamps.new.stamps.items in
    walked n c.args.walk.now.rises.items c.walk_placed.new.walk.rises.items c.walk_placed.new.walk.writers c.walk_placed.new.walk.readers (chain_of ms c.args.actor.now)
    (flat_map (stamped batches acts c.deref-2.result.now c.args.stamp) c.deref-3.result.now)
    (
    ap (λ (z : List ℕ). flat_map (stamped batches acts z c.args.stamp) c.deref-3.result.now) c.deref-2.ensures.value
    ∙ (ap (λ (z : List Who). flat_map (stamped batches acts stamps c.args.stamp) z) c.deref-3.ensures.value
    ∙ chain_walked ms batches acts c.args.stamps.now.items stamps c.args.stamp c.args.actor.now.ran.items c.args.actor.now.placed.items c.requires g l few c.put_stamps.ensures.many
    (λ t k. c.put_stamps.ensures.stamped t k ∙ ap (λ (z : List Tid). has_stamp c.args.stamps.now.items c.args.stamp t || is_among t (map tid_number z)) c.deref.ensures.value))
    )
    (c.walk_placed.ensures.still_rises n [] h)
