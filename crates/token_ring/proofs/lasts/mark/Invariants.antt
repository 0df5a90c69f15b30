use Rattle.std.proofs.Common.{◌≡◌, map, drop}
use Rattle.protocol.specs.OnRing.{with_lasts}
use Rattle.protocol.specs.Meant.{subs_actor}
use Rattle.token_ring.proofs.lasts.mark.Given as goal

abbrev pub invariant-loop-sub : goal.invariant-loop-sub
invariant-loop-sub l = with_lasts l.bid (map subs_actor (drop l.sub-index l.subs)) l.lasts ≡ with_lasts l.bid (map subs_actor l.subs) l.initial.lasts
