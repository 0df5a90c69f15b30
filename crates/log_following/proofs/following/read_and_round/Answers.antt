use Rattle.std.proofs.Common.{List, inl, length, refl, sym, ap, subst, arith}
use Rattle.std.specs.List.{AllByRecursion}
use Rattle.gate_log.specs.declared.logs.LogItem.{LogItem}
use Rattle.log_opening.specs.Devices.{devices_of}
use Rattle.log_opening.specs.Found.{ArePlaced}
use Rattle.log_following.proofs.RoundsMade.{next_made, none_next}
use Rattle.log_following.proofs.following.read_and_round.Goals as goal

pub make_round-requires-clause-within : goal.make_round-requires-clause-within
make_round-requires-clause-within g c = omega (arith, ap (λ (l : List (List LogItem)). length l) c.as_slice.ensures, c.in-Ok.ensures.read.many, c.requires.within)

pub make_round-requires-clause-few : goal.make_round-requires-clause-few
make_round-requires-clause-few g c = omega (arith, ap (λ (l : List (List LogItem)). length l) c.as_slice.ensures, c.in-Ok.ensures.read.many)

pub make_round-requires-clause-placed : goal.make_round-requires-clause-placed
make_round-requires-clause-placed g c = subst (λ (l : List (List LogItem)). AllByRecursion ArePlaced l) (sym c.as_slice.ensures) c.in-Ok.ensures.placed

pub returns-in-Ok-clause-round : goal.returns-in-Ok-clause-round
returns-in-Ok-clause-round g c =
    next_made (devices_of g.D.LogDev.told g.D.LogDev.faults c.args.devices.now.items) c.args.set.head c.args.set.logs c.in-Ok.items c.as_slice.result.now c.args.follower.now c.make_round.new.follower
    c.make_round.result c.as_slice.ensures c.in-Ok.ensures.read c.make_round.ensures

pub returns-in-Ok-clause-refused : goal.returns-in-Ok-clause-refused
returns-in-Ok-clause-refused g c =
    none_next (devices_of g.D.LogDev.told g.D.LogDev.faults c.args.devices.now.items) (devices_of g.D.LogDev.told g.D.LogDev.faults c.read_all.new.devices.items) c.args.set.head c.args.set.logs c.in-Ok.items
    c.as_slice.result.now c.args.follower.now c.make_round.new.follower c.make_round.result c.as_slice.ensures c.in-Ok.ensures.read c.make_round.ensures

pub returns-in-Err-clause-refused : goal.returns-in-Err-clause-refused
returns-in-Err-clause-refused g c = (refl, inl c.in-Err.ensures.refused)
