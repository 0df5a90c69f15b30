use Rattle.std.proofs.Common.{ℕ}
use Rattle.snap_recover.specs.Passes.{In, InPair, commit_key, part_key, info_key}
use Rattle.snap_recover.proofs.Steps.{same_at}
use Rattle.snap_recover.proofs.Homes.{through_none, through_step, through_end, empty_list}
use Rattle.snap_recover.proofs.Placing.{infos_begin, infos_through}
use Rattle.snap_recover.proofs.index.gathered.Goals as goal

pub loop-i-init : goal.loop-i-init
loop-i-init c = record {
  committed = through_none (λ (n : ℕ). n) (commit_key c.args.kind) c.args.logs.now (In c.new.result.items) (empty_list c.new.result.items c.new.ensures.items);
  parts = through_none (λ (x : ℕ × ℕ). x.1) (part_key c.args.kind) c.args.logs.now (InPair c.new-2.result.items) (empty_list c.new-2.result.items c.new-2.ensures.items);
  infos = infos_begin (info_key c.args.kind) c.args.logs.now c.new-3.result.items c.new-3.ensures.items;
}

pub loop-i-preserved : goal.loop-i-preserved
loop-i-preserved c =
    let here = same_at c.args.logs.now c.loop-i.i c.index-logs-i.result c.as_slice.result.now c.as_slice.ensures c.index-logs-i.is in
    record {
      committed = through_step (λ (n : ℕ). n) (commit_key c.args.kind) c.args.logs.now c.loop-i.i c.as_slice.result.now (In c.loop-i.index.committed.items) (In c.add_log.new.index.committed.items)
          c.loop-i-test.true here c.in_ok-add_log.ensures.committed c.loop-i.invariant.committed;
      parts = through_step (λ (x : ℕ × ℕ). x.1) (part_key c.args.kind) c.args.logs.now c.loop-i.i c.as_slice.result.now (InPair c.loop-i.index.parts.items) (InPair c.add_log.new.index.parts.items)
          c.loop-i-test.true here c.in_ok-add_log.ensures.parts c.loop-i.invariant.parts;
      infos = infos_through (info_key c.args.kind) c.args.logs.now c.loop-i.i c.as_slice.result.now c.loop-i.index.infos.items c.add_log.new.index.infos.items
          c.loop-i-test.true here c.in_ok-add_log.ensures.infos c.loop-i.invariant.infos;
    }

pub returns-clause-committed : goal.returns-clause-committed
returns-clause-committed c = through_end (λ (n : ℕ). n) (commit_key c.args.kind) c.args.logs.now c.loop-i.i (In c.loop-i.index.committed.items) c.requires.some c.loop-i-test.false c.loop-i.invariant.committed

pub returns-clause-parts : goal.returns-clause-parts
returns-clause-parts c = through_end (λ (x : ℕ × ℕ). x.1) (part_key c.args.kind) c.args.logs.now c.loop-i.i (InPair c.loop-i.index.parts.items) c.requires.some c.loop-i-test.false c.loop-i.invariant.parts
