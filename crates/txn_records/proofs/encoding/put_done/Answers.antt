use Rattle.std.proofs.Common.{[], ◌∷◌, length}
use Rattle.std.proofs.lemmas.Result.{on_ok_weaker}
use Rattle.std.specs.Int.{to_be_bytes, w16, w64}
use Rattle.txn_records.specs.Records.{values_bytes}
use Rattle.txn_records.proofs.Joins.{four_behind}
use Rattle.txn_records.proofs.encoding.put_done.Goals as goal

pub returns : goal.returns
returns c =
    on_ok_weaker c.put_fields.result
    (λ e. four_behind c.args.out.now.items (7 ∷ []) (to_be_bytes w64 c.args.bid.0) (to_be_bytes w16 (length c.args.values.now)) (values_bytes c.args.values.now) _ _ _ _
    c.in_ok-push.ensures.items c.in_ok-put_u64.ensures c.in_ok-put_count.ensures e) c.put_fields.ensures
