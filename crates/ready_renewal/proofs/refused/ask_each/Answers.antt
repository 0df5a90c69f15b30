use Rattle.std.proofs.Common.{length, map, sym, ◌∙◌}
use Rattle.std.proofs.lemmas.Bool.{eqb-true}
use Rattle.core_events.specs.Meant.{event_meant}
use Rattle.snap_hand.specs.Tables.{fixed_of}
use Rattle.ready_renewal.proofs.KeptEvents.{none_of_none}
use Rattle.ready_renewal.proofs.refused.ask_each.Goals as goal

pub returns-then-is_empty : goal.returns-then-is_empty
returns-then-is_empty c =
    none_of_none (fixed_of c.args.tables.now) c.args.hand.now (event_meant c.args.reach.now.event) c.args.events.now (map event_meant c.args.gone.now.items)
    (eqb-true (length c.args.events.now) 0 (sym c.is_empty.ensures ∙ c.if-is_empty.true))
