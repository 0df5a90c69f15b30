use Rattle.std.proofs.Common.{◌≡◌, ℕ, ◌+◌, ◌∙◌, ◌++◌, ◌∷◌, [], Some, ap, arith, subst, sym}
use Rattle.std.proofs.lemmas.List.Elements.{All-pop, All-push, All-same}
use Rattle.std.proofs.lemmas.List.Sums.{sum_by_push}
use Rattle.std.specs.List.{sum_by}
use Rattle.turn_table.specs.Words.{HoldsNothing}
use Rattle.crew_workers.specs.Workers.{IsBetweenRounds}
use Rattle.crew_workers.proofs.crews.passes_of.Goals as goal

pub loop-worker-preserved : goal.loop-worker-preserved
loop-worker-preserved g c =
    let before = c.loop-worker.invariant in
    let t = c.args.turns.now in
    let grown = c.push_reserved.ensures in
    let popped = All-pop (λ worker. IsBetweenRounds t worker.pass.seat worker.grip) c.loop-worker.workers.items c.pop.new.self.items (Some c.in-Some.worker) c.in-Some.ensures.items before.0 in
    let one : IsBetweenRounds t c.in-Some.worker.pass.seat c.in-Some.worker.grip = popped.1 in
    let is = c.into_pass.ensures in
    let passes = c.loop-worker.passes.items in (
      popped.0,
      (
        All-same (λ pass. pass.seat.table_id ≡ t.table.shared.table_id) c.push_reserved.new.self.items (passes ++ c.into_pass.result ∷ []) grown.items
            (All-push (λ pass. pass.seat.table_id ≡ t.table.shared.table_id) passes c.into_pass.result before.1.0 (ap (λ pass. pass.seat.table_id) is ∙ one.work.own)),
        (
          All-same (λ pass. HoldsNothing pass.seat) c.push_reserved.new.self.items (passes ++ c.into_pass.result ∷ []) grown.items
              (All-push (λ pass. HoldsNothing pass.seat) passes c.into_pass.result before.1.1.0 (subst (λ pass. HoldsNothing pass.seat) (sym is) one.idle)),
          (
            ap (sum_by (λ pass. pass.seat.me.0.splits)) grown.items ∙ (sum_by_push (λ pass. pass.seat.me.0.splits) passes c.into_pass.result ∙ zeros _ _ before.1.1.1.0 (ap (λ pass. pass.seat.me.0.splits) is ∙ one.whole)),
            (omega (arith, grown.len, c.in-Some.ensures.len, before.1.1.1.1.0), grown.capacity ∙ before.1.1.1.1.1),
          ),
        ),
      ),
    ) where
      zeros : (a b : ℕ) → a ≡ 0 → b ≡ 0 → a + b ≡ 0
      zeros a b e f = omega arith
