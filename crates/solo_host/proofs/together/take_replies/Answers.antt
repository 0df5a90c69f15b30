use Rattle.std.proofs.Common.{map, length, inr, sym, subst}
use Rattle.std.specs.Prelude.{MatchOption}
use Rattle.protocol.specs.Runs.{reached}
use Rattle.snap_core.specs.core_events.Meant.{event_meant}
use Rattle.snap_core.specs.snap_hand.Tables.{fixed_of}
use Rattle.solo_host.specs.Outside.{outside}
use Rattle.solo_host.specs.Together.{IsDriving, IsOver}
use Rattle.solo_host.specs.Turns.{IsBehindWords}
use Rattle.solo_host.proofs.KeptList.{covered}
use Rattle.solo_host.proofs.together.take_replies.Goals as goal

pub take_together-requires-clause-covers : goal.take_together-requires-clause-covers
take_together-requires-clause-covers g c =
    let w = fixed_of c.args.core.now.tables in
    covered c.args.seed w (reached w (map event_meant c.args.kept.now.items)) c.args.list.now.events c.requires.keeps

pub take_together-requires-clause-drawn : goal.take_together-requires-clause-drawn
take_together-requires-clause-drawn g c = subst (λ n. IsBehindWords n (length (map event_meant c.args.kept.now.items)) c.args.generator.now) c.if-seed-eq0.true c.requires.drawn

pub returns-then-seed-eq0-clause-keeps : goal.returns-then-seed-eq0-clause-keeps
returns-then-seed-eq0-clause-keeps g c = inr (c.if-seed-eq0.true, c.take_together.ensures.covers)

pub returns-then-seed-eq0-clause-drawn : goal.returns-then-seed-eq0-clause-drawn
returns-then-seed-eq0-clause-drawn g c = subst (λ n. IsBehindWords n (length (map event_meant c.take_together.new.kept.items)) c.take_together.new.generator) (sym c.if-seed-eq0.true) c.take_together.ensures.drawn

pub returns-then-seed-eq0-clause-goes : goal.returns-then-seed-eq0-clause-goes
returns-then-seed-eq0-clause-goes g c start logs driving =
    let w = fixed_of c.args.core.now.tables in
    let es = map event_meant c.args.kept.now.items in
    let kept = map event_meant c.take_together.new.kept.items in
    let old = outside logs (g.O.Sink.taken c.args.out.now) (g.O.Sink.faults c.args.out.now) in
    let new = outside logs (g.O.Sink.taken c.take_together.new.out) (g.O.Sink.faults c.take_together.new.out) in
    subst (λ n. MatchOption c.take_together.result (IsDriving w n kept start new) (λ why. IsOver w n kept why start new)) (sym c.if-seed-eq0.true)
    (c.take_together.ensures.goes start logs (subst (λ n. IsDriving w n es start old) c.if-seed-eq0.true driving))

pub returns-else-seed-eq0-clause-goes : goal.returns-else-seed-eq0-clause-goes
returns-else-seed-eq0-clause-goes g c start logs driving = driving
