use Rattle.std.proofs.Common.{◌≡◌, map, drop}
use Rattle.protocol.specs.Meant.{sub_batch}
use Rattle.token_ring.specs.Told.{told_to, ActorsAscend}
use Rattle.token_ring.proofs.subs.tell_uses.Given as goal

abbrev pub invariant-loop-used : goal.invariant-loop-used
invariant-loop-used l = record {
  told : told_to l.heading.bid.0 l.heading.epoch l.heading.lasts.now l.tid.0 (map (λ u. u.0.0) (drop l.used-index l.uses)) (map sub_batch l.subs.items)
      ≡ told_to l.heading.bid.0 l.heading.epoch l.heading.lasts.now l.tid.0 (map (λ u. u.0.0) l.uses) (map sub_batch l.initial.subs.items);
  ascend : ActorsAscend 0 (map sub_batch l.subs.items);
}
