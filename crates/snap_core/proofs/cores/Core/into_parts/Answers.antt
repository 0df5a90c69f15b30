use Rattle.std.proofs.Common.{map}
use Rattle.snap_hand.specs.Shown.{shown}
use Rattle.snap_core.proofs.Together.{parts_of_core, some_of_core}
use Rattle.snap_core.proofs.cores.Core.into_parts.Goals as goal

pub returns-in-Ok-clause-parts : goal.returns-in-Ok-clause-parts
returns-in-Ok-clause-parts c =
    parts_of_core c.self.inside.tables c.self.inside.hand (map shown c.all_parts-parts.result.0.items) c.self.invariant c.taking_fits.ensures.is c.all_parts-parts.ensures.parts c.args.self c.self.view_is

pub returns-in-Ok-clause-some : goal.returns-in-Ok-clause-some
returns-in-Ok-clause-some c =
    some_of_core c.self.inside.tables c.self.inside.hand (map shown c.all_parts-parts.result.0.items) c.self.invariant c.taking_fits.ensures.is c.all_parts-parts.ensures.parts c.args.self c.self.view_is
