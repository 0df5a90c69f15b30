use Rattle.std.proofs.Common.{List, subst}
use Rattle.std.proofs.lemmas.List.{take_all}
use Rattle.txn_records.specs.declared.records.Record.{Record}
use Rattle.snap_recover.specs.declared.kinds.Kind.TheVariants as kinds
use Rattle.snap_recover.specs.Passes.{commit_key, AddsInfos}
use Rattle.snap_recover.proofs.Placing.{infos_step}
use Rattle.snap_recover.proofs.commits.add_commits.Goals as goal

pub loop-at-preserved : goal.loop-at-preserved
loop-at-preserved c = infos_step (commit_key kinds.Batch) c.args.log c.args.logs c.args.rs.now c.loop-at.at c.index-rs-at.result c.args.places.now.items c.loop-at.places.items c.add_place.new.places.items c.loop-at-test.true c.index-rs-at.is c.loop-at.invariant c.in_ok-add_place.ensures

pub returns : goal.returns
returns c = subst (λ (z : List Record). AddsInfos (commit_key kinds.Batch) c.args.log c.args.logs z c.args.places.now.items c.loop-at.places.items) (take_all c.loop-at.at c.args.rs.now c.loop-at-test.false) c.loop-at.invariant
