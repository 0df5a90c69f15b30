use Rattle.std.proofs.Common.{◌≡◌, drop}
use Rattle.std.specs.List.{slice_get}
use Rattle.ready_list.specs.Rings.{all_events}
use Rattle.ready_list.proofs.rings.nth_from.Given as goal

abbrev pub invariant-loop-k : goal.invariant-loop-k
invariant-loop-k l = slice_get (all_events l.kinds) l.n ≡ slice_get (all_events (drop l.k l.kinds)) l.left
