use Rattle.std.proofs.Common.{List, length, map, refl, sym, subst, ap, ◌∙◌}
use Rattle.std.proofs.KnownBytes.{Appends-nil}
use Rattle.std.specs.Prelude.{MatchOption}
use Rattle.protocol.specs.Runs.{reached}
use Rattle.run_effects.specs.RunsOf.{RunsOf}
use Rattle.run_effects.specs.declared.stops.Stop.TheVariants as stop
use Rattle.snap_core.specs.Cores.{CoreState, IsAt, state_at}
use Rattle.snap_core.specs.core_events.declared.events.Event as code
use Rattle.snap_core.specs.core_events.Meant.{event_meant}
use Rattle.snap_core.specs.snap_hand.Tables.{fixed_of}
use Rattle.solo_host.specs.Outside.{IsPicked, outside}
use Rattle.solo_host.specs.Turns.{HasGoneOn, HasStopped, IsKeptFor, IsOneBehind}
use Rattle.solo_host.proofs.KeptList.{none_foreseen, one_behind}
use Rattle.solo_host.proofs.Trying.{none_asked}
use Rattle.solo_host.proofs.Turning.{drawn_if, ended, gone_on, kept_more}
use Rattle.solo_host.proofs.Words.{drawn_on}
use Rattle.solo_host.proofs.turns.take_one.Goals as goal

pub returns-in-Quiet-clause-goes : goal.returns-in-Quiet-clause-goes
returns-in-Quiet-clause-goes g c =
    let es = map event_meant c.args.kept.now.items in
    let now = outside c.args.logs.now.items (g.O.Sink.taken c.args.out.now) (g.O.Sink.faults c.args.out.now) in
    let next = c.in-Quiet.ensures.next es c.requires.at (c.draw-word.ensures.word c.args.seed (length es) c.requires.drawn) c.requires.keeps in
    subst (λ (ks : List code.Event). HasStopped c.args.seed c.args.core.now c.take_next.new.core es (map event_meant ks) stop.Quiet now now) (sym c.reserve.ensures.items)
    (ended c.args.seed c.args.core.now c.take_next.new.core es stop.Quiet now next.1 c.requires.at c.requires.open (λ l. refl) (next.0, Appends-nil (g.O.Sink.taken c.args.out.now)))

pub returns-in-Memory-clause-goes : goal.returns-in-Memory-clause-goes
returns-in-Memory-clause-goes g c =
    let es = map event_meant c.args.kept.now.items in
    let now = outside c.args.logs.now.items (g.O.Sink.taken c.args.out.now) (g.O.Sink.faults c.args.out.now) in
    let next = c.in-Memory.ensures.next es c.requires.at (c.draw-word.ensures.word c.args.seed (length es) c.requires.drawn) c.requires.keeps in
    subst (λ (ks : List code.Event). HasStopped c.args.seed c.args.core.now c.take_next.new.core es (map event_meant ks) stop.Memory now now) (sym c.reserve.ensures.items)
    (ended c.args.seed c.args.core.now c.take_next.new.core es stop.Memory now next c.requires.at c.requires.open (λ l. refl) (Appends-nil (g.O.Sink.taken c.args.out.now)))

pub returns-in-Taken-clause-goes : goal.returns-in-Taken-clause-goes
returns-in-Taken-clause-goes g c =
    let w = fixed_of c.args.core.now.tables in
    let es = map event_meant c.args.kept.now.items in
    let now = outside c.args.logs.now.items (g.O.Sink.taken c.args.out.now) (g.O.Sink.faults c.args.out.now) in
    let next = c.in-Taken.ensures.next es c.requires.at (c.draw-word.ensures.word c.args.seed (length es) c.requires.drawn) c.requires.keeps in
    gone_on c.args.seed c.args.core.now c.take_next.new.core es (map event_meant c.keep.new.kept.items) (event_meant c.in-Taken.e) now now
    (kept_more c.args.kept.now.items c.reserve.new.self.items c.keep.new.kept.items c.in-Taken.e c.reserve.ensures.items c.keep.ensures.kept)
    next.0 next.1 (none_asked w es (event_meant c.in-Taken.e) now next.2 c.requires.open)

pub returns-in-Taken-clause-behind : goal.returns-in-Taken-clause-behind
returns-in-Taken-clause-behind g c _ =
    let w = fixed_of c.args.core.now.tables in
    let es = map event_meant c.args.kept.now.items in
    let e = event_meant c.in-Taken.e in
    let next = c.in-Taken.ensures.next es c.requires.at (c.draw-word.ensures.word c.args.seed (length es) c.requires.drawn) c.requires.keeps in
    one_behind c.args.seed w es (map event_meant c.keep.new.kept.items) c.take_next.new.list.events (map event_meant c.args.news.now.items) e
    (kept_more c.args.kept.now.items c.reserve.new.self.items c.keep.new.kept.items c.in-Taken.e c.reserve.ensures.items c.keep.ensures.kept)
    (c.in-Taken.ensures.kept es c.requires.at c.requires.keeps) (none_foreseen w e (reached w es) (map event_meant c.args.news.now.items) next.2)

pub returns-in-Taken-clause-drawn : goal.returns-in-Taken-clause-drawn
returns-in-Taken-clause-drawn g c _ =
    let es = map event_meant c.args.kept.now.items in
    drawn_on c.args.seed es (map event_meant c.keep.new.kept.items) (event_meant c.in-Taken.e) c.draw-word.new.generator
    (kept_more c.args.kept.now.items c.reserve.new.self.items c.keep.new.kept.items c.in-Taken.e c.reserve.ensures.items c.keep.ensures.kept)
    (c.draw-word.ensures.drawn c.args.seed (length es) c.requires.drawn)

-- ---- an event that waits

pub take_waiting-requires-clause-runs : goal.take_waiting-requires-clause-runs
take_waiting-requires-clause-runs g c = subst (λ t. RunsOf (fixed_of t)) (sym c.in-Asks.ensures.tables) c.requires.runs

pub take_waiting-requires-clause-at : goal.take_waiting-requires-clause-at
take_waiting-requires-clause-at g c =
    let es = map event_meant c.args.kept.now.items in
    let next = c.in-Asks.ensures.next es c.requires.at (c.draw-word.ensures.word c.args.seed (length es) c.requires.drawn) c.requires.keeps in
    subst (λ (ks : List code.Event). IsAt c.take_next.new.core (map event_meant ks)) (sym c.reserve.ensures.items) (subst (λ z. IsAt z es) (sym next.1) c.requires.at)

pub take_waiting-requires-clause-picked : goal.take_waiting-requires-clause-picked
take_waiting-requires-clause-picked g c =
    let es = map event_meant c.args.kept.now.items in
    let next = c.in-Asks.ensures.next es c.requires.at (c.draw-word.ensures.word c.args.seed (length es) c.requires.drawn) c.requires.keeps in (
      c.args.seed,
      subst (λ (ks : List code.Event). IsPicked (fixed_of c.take_next.new.core.tables) c.args.seed (map event_meant ks) (event_meant c.in-Asks.e)) (sym c.reserve.ensures.items)
          (subst (λ t. IsPicked (fixed_of t) c.args.seed es (event_meant c.in-Asks.e)) (sym c.in-Asks.ensures.tables) next.0),
    )

pub take_waiting-requires-clause-logs : goal.take_waiting-requires-clause-logs
take_waiting-requires-clause-logs g c = c.requires.logs ∙ ap (λ t. t.work.logs) (sym c.in-Asks.ensures.tables)

pub returns-in-Asks-clause-goes : goal.returns-in-Asks-clause-goes
returns-in-Asks-clause-goes g c =
    let es = map event_meant c.args.kept.now.items in
    let seed = c.args.seed in
    let e = event_meant c.in-Asks.e in
    let r = c.take_waiting.result in
    let now = c.take_waiting.new.core in
    let kept = map event_meant c.take_waiting.new.kept.items in
    let before = outside c.args.logs.now.items (g.O.Sink.taken c.args.out.now) (g.O.Sink.faults c.args.out.now) in
    let after = outside c.take_waiting.new.logs.items (g.O.Sink.taken c.take_waiting.new.out) (g.O.Sink.faults c.take_waiting.new.out) in
    let next = c.in-Asks.ensures.next es c.requires.at (c.draw-word.ensures.word seed (length es) c.requires.drawn) c.requires.keeps in
    subst (λ (z : CoreState). IsPicked (fixed_of z.tables) seed es e → MatchOption r (HasGoneOn seed z now es kept before after) (λ why. HasStopped seed z now es kept why before after)) next.1
    (subst (λ (ks : List code.Event). IsPicked (fixed_of c.take_next.new.core.tables) seed (map event_meant ks) e
    → MatchOption r (HasGoneOn seed c.take_next.new.core now (map event_meant ks) kept before after) (λ why. HasStopped seed c.take_next.new.core now (map event_meant ks) kept why before after)) c.reserve.ensures.items
    (c.take_waiting.ensures.goes seed)) next.0

pub returns-in-Asks-clause-behind : goal.returns-in-Asks-clause-behind
returns-in-Asks-clause-behind g c none =
    let es = map event_meant c.args.kept.now.items in
    let seed = c.args.seed in
    let list = c.take_next.new.list.events in
    let kept = map event_meant c.take_waiting.new.kept.items in
    let news = map event_meant c.take_waiting.new.news.items in
    let next = c.in-Asks.ensures.next es c.requires.at (c.draw-word.ensures.word seed (length es) c.requires.drawn) c.requires.keeps in
    subst (λ (z : CoreState). IsKeptFor seed (fixed_of z.tables) (state_at z es) list → IsOneBehind seed (fixed_of z.tables) kept list news) next.1
    (subst (λ (ks : List code.Event). IsKeptFor seed (fixed_of c.take_next.new.core.tables) (state_at c.take_next.new.core (map event_meant ks)) list
    → IsOneBehind seed (fixed_of c.take_next.new.core.tables) kept list news) c.reserve.ensures.items
    (c.take_waiting.ensures.behind none seed list)) (c.in-Asks.ensures.kept es c.requires.at c.requires.keeps)

pub returns-in-Asks-clause-drawn : goal.returns-in-Asks-clause-drawn
returns-in-Asks-clause-drawn g c =
    let es = map event_meant c.args.kept.now.items in
    drawn_if c.take_waiting.result c.args.seed c.args.core.now c.take_waiting.new.core es (map event_meant c.take_waiting.new.kept.items) c.draw-word.new.generator
    (outside c.args.logs.now.items (g.O.Sink.taken c.args.out.now) (g.O.Sink.faults c.args.out.now))
    (outside c.take_waiting.new.logs.items (g.O.Sink.taken c.take_waiting.new.out) (g.O.Sink.faults c.take_waiting.new.out))
    (returns-in-Asks-clause-goes g c) (c.draw-word.ensures.drawn c.args.seed (length es) c.requires.drawn)
