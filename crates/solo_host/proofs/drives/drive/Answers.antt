use Rattle.std.proofs.Common.{List, length, map, refl, sym, ap, subst, ◌∙◌}
use Rattle.snap_core.specs.core_events.declared.events.Event as code
use Rattle.snap_core.specs.core_events.Meant.{event_meant}
use Rattle.protocol.specs.Runs.{IsRun}
use Rattle.snap_core.specs.Cores.{IsAt}
use Rattle.snap_core.specs.snap_hand.Tables.{fixed_of}
use Rattle.snap_core.specs.snap_hand.declared.tables.Tables.{Tables}
use Rattle.run_effects.specs.RunsOf.{RunsOf}
use Rattle.solo_host.specs.Outside.{outside}
use Rattle.solo_host.specs.Turns.{IsBehindWords, IsOneBehind}
use Rattle.solo_host.proofs.KeptList.{first_behind}
use Rattle.solo_host.specs.Together.{IsDriving}
use Rattle.solo_host.proofs.Driving.{begins, still_open, still_of_format, still_low, are_open, are_of_format, are_near}
use Rattle.solo_host.proofs.Turning.{driving_by, fewer_left, over_by}
use Rattle.snap_outside.proofs.AtFault.{calls_join, no_call, surely}
use Rattle.solo_host.proofs.drives.drive.Goals as goal

pub turns-init : goal.turns-init
turns-init g c =
    let w = fixed_of c.args.core.now.tables in
    let start = outside c.args.logs.now.items (g.O.Sink.taken c.args.out.now) (g.O.Sink.faults c.args.out.now) in
    record {
      at = subst (λ (ks : List code.Event). IsAt c.args.core.now (map event_meant ks)) (sym c.new-kept.ensures.items) c.requires.new;
      tables = refl;
      drawn = subst (λ (ks : List code.Event). IsBehindWords c.args.seed (length (map event_meant ks)) c.generator_of-generator.result) (sym c.new-kept.ensures.items) c.generator_of-generator.ensures;
      behind = first_behind c.args.seed w c.new-kept.result.items c.new-list.result.events (map event_meant c.new-news.result.items) c.new-kept.ensures.items;
      driving = subst (λ (ks : List code.Event). IsDriving w c.args.seed (map event_meant ks) start start) (sym c.new-kept.ensures.items) (begins w c.args.seed start (are_open c.args.logs.now.items c.requires.open));
      once = no_call _ _ _;
    }

pub turn-requires-clause-runs : goal.turn-requires-clause-runs
turn-requires-clause-runs g c = subst (λ (t : Tables). RunsOf (fixed_of t)) (sym c.turns.invariant.tables) (subst (λ (t : Tables). RunsOf (fixed_of t)) c.tables.ensures.same c.runs_of.ensures)

pub turn-requires-clause-logs : goal.turn-requires-clause-logs
turn-requires-clause-logs g c = c.turns.invariant.driving.logs.many ∙ c.requires.logs ∙ ap (λ (t : Tables). t.work.logs) (sym c.turns.invariant.tables)

pub turn-requires-clause-behind : goal.turn-requires-clause-behind
turn-requires-clause-behind g c = subst (λ (t : Tables). IsOneBehind c.args.seed (fixed_of t) (map event_meant c.turns.kept.items) c.turns.list.events (map event_meant c.turns.news.items)) (sym c.turns.invariant.tables) c.turns.invariant.behind

pub turn-requires-clause-open : goal.turn-requires-clause-open
turn-requires-clause-open g c =
    let w = fixed_of c.args.core.now.tables in
    let start = outside c.args.logs.now.items (g.O.Sink.taken c.args.out.now) (g.O.Sink.faults c.args.out.now) in
    let old = outside c.turns.logs.items (g.O.Sink.taken c.turns.out) (g.O.Sink.faults c.turns.out) in
    still_open w c.args.seed (map event_meant c.turns.kept.items) start old c.turns.invariant.driving

pub turn-requires-clause-format : goal.turn-requires-clause-format
turn-requires-clause-format g c =
    let w = fixed_of c.args.core.now.tables in
    let start = outside c.args.logs.now.items (g.O.Sink.taken c.args.out.now) (g.O.Sink.faults c.args.out.now) in
    let old = outside c.turns.logs.items (g.O.Sink.taken c.turns.out) (g.O.Sink.faults c.turns.out) in
    still_of_format w c.args.seed (map event_meant c.turns.kept.items) start old (are_of_format c.args.logs.now.items c.requires.format) c.turns.invariant.driving

pub turn-requires-clause-low : goal.turn-requires-clause-low
turn-requires-clause-low g c =
    let w = fixed_of c.args.core.now.tables in
    let start = outside c.args.logs.now.items (g.O.Sink.taken c.args.out.now) (g.O.Sink.faults c.args.out.now) in
    let old = outside c.turns.logs.items (g.O.Sink.taken c.turns.out) (g.O.Sink.faults c.turns.out) in
    let es = map event_meant c.turns.kept.items in
    still_low w c.args.seed es start old (subst (λ (t : Tables). RunsOf (fixed_of t)) c.tables.ensures.same c.runs_of.ensures) (subst (λ (t : Tables). IsRun (fixed_of t) es) c.turns.invariant.tables c.turns.invariant.at.run)
    (are_near c.args.logs.now.items c.requires.ends) c.turns.invariant.driving

pub returns-in-Some-clause-front : goal.returns-in-Some-clause-front
returns-in-Some-clause-front g c =
    let start = outside c.args.logs.now.items (g.O.Sink.taken c.args.out.now) (g.O.Sink.faults c.args.out.now) in
    let old = outside c.turns.logs.items (g.O.Sink.taken c.turns.out) (g.O.Sink.faults c.turns.out) in
    let new = outside c.turn.new.logs.items (g.O.Sink.taken c.turn.new.out) (g.O.Sink.faults c.turn.new.out) in
    (over_by c.turns.core.tables c.args.core.now.tables c.args.seed (map event_meant c.turns.kept.items) (map event_meant c.turn.new.kept.items) c.in-Some.stop start old new
    c.turns.invariant.tables c.turns.invariant.driving (c.in-Some.ensures.goes start)).front

pub returns-in-Some-clause-why : goal.returns-in-Some-clause-why
returns-in-Some-clause-why g c =
    let start = outside c.args.logs.now.items (g.O.Sink.taken c.args.out.now) (g.O.Sink.faults c.args.out.now) in
    let old = outside c.turns.logs.items (g.O.Sink.taken c.turns.out) (g.O.Sink.faults c.turns.out) in
    let new = outside c.turn.new.logs.items (g.O.Sink.taken c.turn.new.out) (g.O.Sink.faults c.turn.new.out) in
    (over_by c.turns.core.tables c.args.core.now.tables c.args.seed (map event_meant c.turns.kept.items) (map event_meant c.turn.new.kept.items) c.in-Some.stop start old new
    c.turns.invariant.tables c.turns.invariant.driving (c.in-Some.ensures.goes start)).why

pub returns-in-Some-clause-logs : goal.returns-in-Some-clause-logs
returns-in-Some-clause-logs g c =
    let start = outside c.args.logs.now.items (g.O.Sink.taken c.args.out.now) (g.O.Sink.faults c.args.out.now) in
    let old = outside c.turns.logs.items (g.O.Sink.taken c.turns.out) (g.O.Sink.faults c.turns.out) in
    let new = outside c.turn.new.logs.items (g.O.Sink.taken c.turn.new.out) (g.O.Sink.faults c.turn.new.out) in
    (over_by c.turns.core.tables c.args.core.now.tables c.args.seed (map event_meant c.turns.kept.items) (map event_meant c.turn.new.kept.items) c.in-Some.stop start old new
    c.turns.invariant.tables c.turns.invariant.driving (c.in-Some.ensures.goes start)).logs

pub returns-in-Some-clause-printed : goal.returns-in-Some-clause-printed
returns-in-Some-clause-printed g c =
    let start = outside c.args.logs.now.items (g.O.Sink.taken c.args.out.now) (g.O.Sink.faults c.args.out.now) in
    let old = outside c.turns.logs.items (g.O.Sink.taken c.turns.out) (g.O.Sink.faults c.turns.out) in
    let new = outside c.turn.new.logs.items (g.O.Sink.taken c.turn.new.out) (g.O.Sink.faults c.turn.new.out) in
    (over_by c.turns.core.tables c.args.core.now.tables c.args.seed (map event_meant c.turns.kept.items) (map event_meant c.turn.new.kept.items) c.in-Some.stop start old new
    c.turns.invariant.tables c.turns.invariant.driving (c.in-Some.ensures.goes start)).printed

pub returns-in-Some-clause-later : goal.returns-in-Some-clause-later
returns-in-Some-clause-later g c =
    let start = outside c.args.logs.now.items (g.O.Sink.taken c.args.out.now) (g.O.Sink.faults c.args.out.now) in
    let old = outside c.turns.logs.items (g.O.Sink.taken c.turns.out) (g.O.Sink.faults c.turns.out) in
    let new = outside c.turn.new.logs.items (g.O.Sink.taken c.turn.new.out) (g.O.Sink.faults c.turn.new.out) in
    (over_by c.turns.core.tables c.args.core.now.tables c.args.seed (map event_meant c.turns.kept.items) (map event_meant c.turn.new.kept.items) c.in-Some.stop start old new
    c.turns.invariant.tables c.turns.invariant.driving (c.in-Some.ensures.goes start)).later

pub returns-in-Some-clause-once : goal.returns-in-Some-clause-once
returns-in-Some-clause-once g c = calls_join _ _ _ _ _ _ tt c.turns.invariant.once (surely _ _ _ _ (λ no is. no (cc is)) c.in-Some.ensures.once)

pub turns-preserved : goal.turns-preserved
turns-preserved g c =
    let start = outside c.args.logs.now.items (g.O.Sink.taken c.args.out.now) (g.O.Sink.faults c.args.out.now) in
    let old = outside c.turns.logs.items (g.O.Sink.taken c.turns.out) (g.O.Sink.faults c.turns.out) in
    let new = outside c.turn.new.logs.items (g.O.Sink.taken c.turn.new.out) (g.O.Sink.faults c.turn.new.out) in
    record {
      at = c.in-None.ensures.at;
      tables = c.in-None.ensures.tables ∙ c.turns.invariant.tables;
      drawn = c.in-None.ensures.drawn refl;
      behind = subst (λ (t : Tables). IsOneBehind c.args.seed (fixed_of t) (map event_meant c.turn.new.kept.items) c.turn.new.list.events (map event_meant c.turn.new.news.items))
          c.turns.invariant.tables (c.in-None.ensures.behind refl);
      driving = driving_by c.turns.core.tables c.args.core.now.tables c.args.seed (map event_meant c.turns.kept.items) (map event_meant c.turn.new.kept.items) start old new
          c.turns.invariant.tables c.turns.invariant.driving (c.in-None.ensures.goes start);
      once = calls_join _ _ _ _ _ _ tt c.turns.invariant.once (surely _ _ _ _ (λ _ is. cc is) c.in-None.ensures.once);
    }

pub turns-smaller : goal.turns-smaller
turns-smaller g c =
    fewer_left c.args.core.now.tables c.turn.new.core c.turns.kept.items c.turn.new.kept.items (c.in-None.ensures.tables ∙ c.turns.invariant.tables)
    (subst (λ (t : Tables). RunsOf (fixed_of t)) c.tables.ensures.same c.runs_of.ensures) c.in-None.ensures.at (c.in-None.ensures.more refl)
