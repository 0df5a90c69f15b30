use Rattle.std.proofs.Common.{ℕ, ◌≡◌, ◌%◌, List, subst}
use Rattle.std.proofs.lemmas.List.{take_all}
use Rattle.txn_records.specs.declared.records.Record.{Record}
use Rattle.snap_recover.specs.Passes.{In, InPair, commit_key, part_key, info_key, AddsCommits, AddsParts, AddsInfos}
use Rattle.snap_recover.proofs.Homes.{adds_step}
use Rattle.snap_recover.proofs.Placing.{infos_step}
use Rattle.snap_recover.proofs.index.add_log.Goals as goal

pub loop-at-preserved : goal.loop-at-preserved
loop-at-preserved c = record {
  committed = adds_step (λ n. n % c.args.logs ≡ c.args.log) (commit_key c.args.kind) c.args.rs.now c.loop-at.at c.index-rs-at.result (In c.args.index.now.committed.items) (In c.loop-at.index.committed.items) (In c.add_commit.new.numbers.items)
      c.loop-at-test.true c.index-rs-at.is c.loop-at.invariant.committed c.in_ok-add_commit.ensures;
  parts = adds_step (λ (x : ℕ × ℕ). x.1 % c.args.logs ≡ c.args.log) (part_key c.args.kind) c.args.rs.now c.loop-at.at c.index-rs-at.result (InPair c.args.index.now.parts.items) (InPair c.loop-at.index.parts.items) (InPair c.add_part.new.parts.items)
      c.loop-at-test.true c.index-rs-at.is c.loop-at.invariant.parts c.in_ok-add_part.ensures;
  infos = infos_step (info_key c.args.kind) c.args.log c.args.logs c.args.rs.now c.loop-at.at c.index-rs-at.result c.args.index.now.infos.items c.loop-at.index.infos.items c.add_info.new.places.items
      c.loop-at-test.true c.index-rs-at.is c.loop-at.invariant.infos c.in_ok-add_info.ensures;
}

pub returns-clause-committed : goal.returns-clause-committed
returns-clause-committed c =
    subst (λ (z : List Record). AddsCommits c.args.kind c.args.log c.args.logs z c.args.index.now.committed.items c.loop-at.index.committed.items) (take_all c.loop-at.at c.args.rs.now c.loop-at-test.false) c.loop-at.invariant.committed

pub returns-clause-parts : goal.returns-clause-parts
returns-clause-parts c =
    subst (λ (z : List Record). AddsParts c.args.kind c.args.log c.args.logs z c.args.index.now.parts.items c.loop-at.index.parts.items) (take_all c.loop-at.at c.args.rs.now c.loop-at-test.false) c.loop-at.invariant.parts

pub returns-clause-infos : goal.returns-clause-infos
returns-clause-infos c =
    subst (λ (z : List Record). AddsInfos (info_key c.args.kind) c.args.log c.args.logs z c.args.index.now.infos.items c.loop-at.index.infos.items) (take_all c.loop-at.at c.args.rs.now c.loop-at-test.false) c.loop-at.invariant.infos
