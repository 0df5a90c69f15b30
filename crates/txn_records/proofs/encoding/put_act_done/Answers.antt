use Rattle.std.proofs.Common.{rules, ◌≡◌, ℤ, [], ◌∷◌, ◌++◌, length, subst}
use Rattle.std.proofs.Math.Facts.{to_z-of_z}
use Rattle.std.proofs.lemmas.Result.{on_ok_weaker}
use Rattle.std.specs.Int.{to_be_bytes, w16, w64}
use Rattle.std.specs.Result.{OnOk}
use Rattle.txn_records.specs.Records.{field_bytes, actors_bytes}
use Rattle.txn_records.proofs.Joins.{three_behind}
use Rattle.txn_records.proofs.encoding.put_act_done.Goals as goal

pub returns : goal.returns
returns c =
    on_ok_weaker c.put_outcome.result
    (λ e. three_behind c.args.out.now.items (8 ∷ []) (to_be_bytes w64 c.args.tid.0)
    (to_be_bytes w64 c.args.m.0 ++ (to_be_bytes w64 c.args.c ++ (field_bytes c.args.value ++ (to_be_bytes w16 (length c.args.actors.now) ++ actors_bytes c.args.actors.now)))) _ _ _
    c.in_ok-push.ensures.items c.in_ok-put_u64.ensures e)
    (subst (λ (v : ℤ). OnOk c.put_outcome.result (c.put_outcome.new.out.items ≡ c.put_u64.new.out.items
    ++ (to_be_bytes w64 c.args.m.0 ++ (to_be_bytes w64 c.args.c ++ (field_bytes v ++ (to_be_bytes w16 (length c.args.actors.now) ++ actors_bytes c.args.actors.now))))))
    (to_z-of_z {w = w64} {z = c.args.value} (search rules)) c.put_outcome.ensures)
