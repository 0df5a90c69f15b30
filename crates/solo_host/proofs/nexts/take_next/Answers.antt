use Rattle.std.proofs.Common.{ap, refl, subst, ◌∙◌}
use Rattle.snap_core.specs.core_events.Meant.{event_meant}
use Rattle.snap_core.specs.Cores.{CoreState, state_at}
use Rattle.snap_core.specs.Kept.{IsRefusedAt}
use Rattle.snap_core.specs.snap_hand.Tables.{fixed_of}
use Rattle.solo_host.proofs.KeptList.{kept_without, shorter}
use Rattle.solo_host.proofs.Trying.{next_asks, next_quiet, next_taken}
use Rattle.solo_host.proofs.nexts.take_next.Goals as goal

pub tries-init : goal.tries-init
tries-init c = record { same = refl; kept = λ es at kept. kept }

pub returns-in_default-clause-next : goal.returns-in_default-clause-next
returns-in_default-clause-next c =
    next_quiet c.args.seed c.args.word c.args.core.now c.tries.core c.tries.core c.args.list.now.events c.tries.list.events c.tries.invariant.same c.tries.invariant.kept
    (c.in_default.ensures.none refl)

pub returns-in-Taken-clause-next : goal.returns-in-Taken-clause-next
returns-in-Taken-clause-next c =
    next_taken c.args.seed c.args.word c.args.core.now c.tries.core c.try_event.new.core c.args.list.now.events c.tries.list.events c.tries.invariant.same c.tries.invariant.kept
    c.in-Some.e c.in-Some.ensures.some c.in-Taken.ensures.tried

pub returns-in-Asks-clause-next : goal.returns-in-Asks-clause-next
returns-in-Asks-clause-next c =
    next_asks c.args.seed c.args.word c.args.core.now c.tries.core c.try_event.new.core c.args.list.now.events c.tries.list.events c.tries.invariant.same c.tries.invariant.kept
    c.in-Some.e c.in-Some.ensures.some c.in-Asks.ensures.tried

pub returns-in-Memory-clause-next : goal.returns-in-Memory-clause-next
returns-in-Memory-clause-next c es at drawn had = c.in-Memory.ensures.tried ∙ c.tries.invariant.same

pub returns-in_default-clause-tables : goal.returns-in_default-clause-tables
returns-in_default-clause-tables c = ap (λ (z : CoreState). z.tables) c.tries.invariant.same

pub returns-in-Taken-clause-tables : goal.returns-in-Taken-clause-tables
returns-in-Taken-clause-tables c = c.try_event.ensures.tables ∙ ap (λ (z : CoreState). z.tables) c.tries.invariant.same

pub returns-in-Asks-clause-tables : goal.returns-in-Asks-clause-tables
returns-in-Asks-clause-tables c = c.try_event.ensures.tables ∙ ap (λ (z : CoreState). z.tables) c.tries.invariant.same

pub returns-in-Memory-clause-tables : goal.returns-in-Memory-clause-tables
returns-in-Memory-clause-tables c = c.try_event.ensures.tables ∙ ap (λ (z : CoreState). z.tables) c.tries.invariant.same

pub tries-smaller : goal.tries-smaller
tries-smaller c = shorter c.ranks_are_in_order.ensures.apart (event_meant c.in-Some.e) c.tries.list.events c.take.new.self.events c.in-Some.ensures.there c.take.ensures.events

pub tries-preserved : goal.tries-preserved
tries-preserved c =
    let old = c.args.core.now in
    let refused = subst (λ z. IsRefusedAt z (event_meant c.in-Some.e)) c.tries.invariant.same c.in-Refused.ensures.tried.0 in
    record {
      same = c.in-Refused.ensures.tried.1 ∙ c.tries.invariant.same;
      kept = λ es at kept.
          kept_without c.args.seed (fixed_of old.tables) (state_at old es) (event_meant c.in-Some.e) c.tries.list.events c.take.new.self.events
          c.one_is_taken.ensures.kept c.events_stay_in_order.ensures.without c.in-Some.ensures.there (refused es at) c.take.ensures.events (c.tries.invariant.kept es at kept);
    }
