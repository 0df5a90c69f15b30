use Rattle.std.proofs.Common.{◌≡◌, ◌%◌, List, [], length, ◌∙◌, sym, subst, arith}
use Rattle.std.proofs.Math.Nat.{mod-lt}
use Rattle.std.proofs.lemmas.List.{get_or_default}
use Rattle.txn_records.specs.declared.keys.Key.TheVariants as keys
use Rattle.txn_records.specs.declared.records.Record.{Record}
use Rattle.txn_records.specs.declared.records.Record.TheVariants.{BatchInfo, BatchDone}
use Rattle.txn_records.specs.Records.{key}
use Rattle.snap_recover.specs.Logs.{IsLastOf, log_of}
use Rattle.snap_recover.specs.Passes.{bid_at, last_at}
use Rattle.snap_recover.proofs.OneRefusal.{info_is_there}
use Rattle.snap_recover.proofs.Placing.{placed_some}
use Rattle.snap_recover.proofs.Valuing.{told_valued}
use Rattle.snap_recover.proofs.values.check_batch.Goals as goal

pub unreachable-requires : goal.unreachable-requires
unreachable-requires c =
    let w = c.requires.whole in
    placed_some (keys.Info (bid_at c.args.number)) (log_of c.args.logs.now c.args.number) (last_at c.args.infos.now c.args.number) (sym c.in_default.ensures) (c.requires.infos.all c.args.number)
    (info_is_there c.args.logs.now (bid_at c.args.number) w.0 w.1 w.2)

pub unreachable-requires-in_default-place_of : goal.unreachable-requires-in_default-place_of
unreachable-requires-in_default-place_of c =
    placed_some (keys.Commit (bid_at c.args.number)) (log_of c.args.logs.now c.args.number) (last_at c.args.commits.now c.args.number) (sym c.in_default-place_of.ensures) (c.requires.commits.all c.args.number) c.requires.is_in

pub returns : goal.returns
returns c =
    let values = c.in-Some-values_at.values.now in
    let tids = c.info_at.result.1.now in
    let even : length values ≡ length tids = omega (arith, c.len.ensures, c.len-2.ensures, c.if-len.false) in
    let at : c.index-logs-log.result ≡ log_of c.args.logs.now c.args.number = c.index-logs-log.is ∙ get_or_default c.args.logs.now (c.args.number % length c.args.logs.now) c.index-logs-log.result [] (mod-lt c.args.number c.requires.some) in
    let home : c.as_slice-rs.result.now ≡ log_of c.args.logs.now c.args.number = c.as_slice-rs.ensures ∙ at in
    told_valued c.args.logs.now c.args.number c.info_at.result.0.now tids values even
    (subst (λ (rs : List Record). IsLastOf (λ r. key r ≡ keys.Info (bid_at c.args.number)) rs (BatchInfo (bid_at c.args.number) c.info_at.result.0.now tids)) home c.info_at.ensures)
    (subst (λ (rs : List Record). IsLastOf (λ r. key r ≡ keys.Commit (bid_at c.args.number)) rs (BatchDone (bid_at c.args.number) values)) home c.in-Some-values_at.ensures)
