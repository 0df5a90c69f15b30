use Rattle.std.proofs.Common.{◌<◌, map, length, sym, subst, ap, ◌∙◌, arith}
use Rattle.std.proofs.lemmas.List.{length-map}
use Rattle.run_effects.specs.RunsOf.{RunsOf}
use Rattle.protocol.specs.Runs.{reached}
use Rattle.snap_core.specs.core_events.Meant.{event_meant}
use Rattle.snap_core.specs.snap_hand.Tables.{fixed_of}
use Rattle.snap_core.specs.snap_hand.declared.tables.Tables.{Tables}
use Rattle.snap_outside.proofs.AtFault.{calls_join}
use Rattle.solo_host.specs.Outside.{outside}
use Rattle.solo_host.specs.Turns.{IsKeptFor, IsOneBehind}
use Rattle.solo_host.proofs.Driving.{over_for_memory}
use Rattle.solo_host.proofs.Turning.{turned, turned_at, turned_more}
use Rattle.solo_host.proofs.turns.turn.Goals as goal

pub returns-in_default-clause-goes : goal.returns-in_default-clause-goes
returns-in_default-clause-goes g c start driving =
    over_for_memory (fixed_of c.args.core.now.tables) c.args.seed (map event_meant c.args.kept.now.items) start (outside c.args.logs.now.items (g.O.Sink.taken c.args.out.now) (g.O.Sink.faults c.args.out.now)) driving

pub returns-in-Some-clause-goes : goal.returns-in-Some-clause-goes
returns-in-Some-clause-goes g c start driving = c.in-Some.ensures.goes start c.args.logs.now.items driving

pub take_one-requires-clause-runs : goal.take_one-requires-clause-runs
take_one-requires-clause-runs g c = subst (λ (t : Tables). RunsOf (fixed_of t)) (sym c.in-None.ensures.tables) c.requires.runs

pub take_one-requires-clause-keeps : goal.take_one-requires-clause-keeps
take_one-requires-clause-keeps g c =
    subst (λ (t : Tables). IsKeptFor c.args.seed (fixed_of t) (reached (fixed_of t) (map event_meant c.take_replies.new.kept.items)) c.take_replies.new.list.events) (sym c.in-None.ensures.tables) c.in-None.ensures.keeps

pub take_one-requires-clause-logs : goal.take_one-requires-clause-logs
take_one-requires-clause-logs g c = c.requires.logs ∙ ap (λ (t : Tables). t.work.logs) (sym c.in-None.ensures.tables)

pub returns-clause-goes : goal.returns-clause-goes
returns-clause-goes g c start driving =
    turned c.take_one.result c.args.core.now.tables c.args.seed c.take_replies.new.core c.take_one.new.core (map event_meant c.take_replies.new.kept.items) (map event_meant c.take_one.new.kept.items) start
    (outside c.args.logs.now.items (g.O.Sink.taken c.take_replies.new.out) (g.O.Sink.faults c.take_replies.new.out))
    (outside c.take_one.new.logs.items (g.O.Sink.taken c.take_one.new.out) (g.O.Sink.faults c.take_one.new.out))
    c.in-None.ensures.tables c.requires.runs c.in-None.ensures.at (c.in-None.ensures.goes start c.args.logs.now.items driving) c.take_one.ensures.goes

pub returns-clause-at : goal.returns-clause-at
returns-clause-at g c =
    turned_at c.take_one.result c.args.seed c.take_replies.new.core c.take_one.new.core (map event_meant c.take_replies.new.kept.items) (map event_meant c.take_one.new.kept.items)
    (outside c.args.logs.now.items (g.O.Sink.taken c.take_replies.new.out) (g.O.Sink.faults c.take_replies.new.out))
    (outside c.take_one.new.logs.items (g.O.Sink.taken c.take_one.new.out) (g.O.Sink.faults c.take_one.new.out)) c.take_one.ensures.goes

pub returns-clause-more : goal.returns-clause-more
returns-clause-more g c none =
    let longer : length (map event_meant c.take_replies.new.kept.items) < length (map event_meant c.take_one.new.kept.items) =
    turned_more c.take_one.result c.args.seed c.take_replies.new.core c.take_one.new.core (map event_meant c.take_replies.new.kept.items) (map event_meant c.take_one.new.kept.items)
    (outside c.args.logs.now.items (g.O.Sink.taken c.take_replies.new.out) (g.O.Sink.faults c.take_replies.new.out))
    (outside c.take_one.new.logs.items (g.O.Sink.taken c.take_one.new.out) (g.O.Sink.faults c.take_one.new.out)) none c.take_one.ensures.goes in
    let had = length-map c.take_replies.new.kept.items event_meant in
    let has = length-map c.take_one.new.kept.items event_meant in
    omega (arith, longer, had, has, c.in-None.ensures.more)

pub returns-clause-behind : goal.returns-clause-behind
returns-clause-behind g c none =
    subst (λ (t : Tables). IsOneBehind c.args.seed (fixed_of t) (map event_meant c.take_one.new.kept.items) c.take_one.new.list.events (map event_meant c.take_one.new.news.items)) c.in-None.ensures.tables
    (c.take_one.ensures.behind none)

pub returns-clause-tables : goal.returns-clause-tables
returns-clause-tables g c = c.take_one.ensures.tables ∙ c.in-None.ensures.tables

pub returns-clause-once : goal.returns-clause-once
returns-clause-once g c = calls_join _ _ _ _ _ _ (λ q. cc q) c.in-None.ensures.once c.take_one.ensures.once
