use Rattle.std.proofs.Common.{◌∙◌, ◌++◌, ◌∷◌, [], arith}
use Rattle.std.proofs.lemmas.List.Elements.{All-same, All-push}
use Rattle.crew_workers.specs.Workers.{IsBetweenRounds}
use Rattle.crew_workers.proofs.crews.hire.Goals as goal

pub loop-hired-preserved : goal.loop-hired-preserved
loop-hired-preserved g c =
    let before = c.loop-hired.invariant in
    let grown = c.push_reserved.ensures in (
      c.new.ensures.own,
      (
        c.new.ensures.idle before.1.0,
        (
          All-same (λ worker. IsBetweenRounds c.args.turns.now worker.pass.seat worker.grip) c.push_reserved.new.self.items (c.loop-hired.workers.items ++ c.in-Ok.worker ∷ []) grown.items
              (All-push (λ worker. IsBetweenRounds c.args.turns.now worker.pass.seat worker.grip) c.loop-hired.workers.items c.in-Ok.worker before.1.1.0 c.in-Ok.ensures.free),
          (omega (arith, grown.len, c.in-Ok.ensures.cut, before.1.1.1.0), (omega (arith, grown.len, before.1.1.1.1.0), grown.capacity ∙ before.1.1.1.1.1)),
        ),
      ),
    )
