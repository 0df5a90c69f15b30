use Rattle.std.proofs.Common.{length, map, subst, sym}
use Rattle.snap_hand.specs.Hands.{Fits, IsHandOf, Parts}
use Rattle.snap_hand.specs.Tables.{fixed_of}
use Rattle.snap_hand.specs.Shown.{shown}
use Rattle.snap_hand.proofs.PartsFit.{nothing_fits}
use Rattle.snap_core.proofs.Together.{core_of_parts, none_hand}
use Rattle.snap_core.proofs.cores.Core.from_parts.Goals as goal

pub invariant_of-result : goal.invariant_of-result
invariant_of-result c =
    core_of_parts c.args.tables c.filled-hand.result (map shown c.args.parts.items) c.requires.tables c.filled-hand.ensures.places c.places_are_set.ensures.told
    c.filled-hand.ensures.whole c.filled-hand.ensures.fits c.requires.some

pub filled-hand-requires-clause-places : goal.filled-hand-requires-clause-places
filled-hand-requires-clause-places c = subst (IsHandOf (fixed_of c.args.tables)) (sym c.requires.empty) (none_hand (fixed_of c.args.tables))

pub filled-hand-requires-clause-fits : goal.filled-hand-requires-clause-fits
filled-hand-requires-clause-fits c = λ s. subst (λ (h : Parts). Fits h s) (sym c.requires.empty) (nothing_fits c.args.tables.work.logs (length c.args.tables.opening.states) s)
