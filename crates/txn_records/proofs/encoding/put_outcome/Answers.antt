use Rattle.std.proofs.Common.{rules, ◌≡◌, ℤ, ◌++◌, length, subst}
use Rattle.std.proofs.Math.Facts.{to_z-of_z}
use Rattle.std.proofs.lemmas.Result.{on_ok_weaker}
use Rattle.std.specs.Int.{to_be_bytes, w16, w64}
use Rattle.txn_records.specs.Records.{field_bytes, actors_bytes}
use Rattle.txn_records.proofs.Joins.{four_behind}
use Rattle.txn_records.proofs.encoding.put_outcome.Goals as goal

pub returns : goal.returns
returns c =
    on_ok_weaker c.put_counted.result
    (λ e. four_behind c.args.out.now.items (to_be_bytes w64 c.args.m.0) (to_be_bytes w64 c.args.c) (field_bytes c.args.value) (to_be_bytes w16 (length c.args.actors.now) ++ actors_bytes c.args.actors.now) _ _ _ _
    c.in_ok-put_u64.ensures c.in_ok-put_u64-2.ensures
    (subst (λ (v : ℤ). c.put_field.new.out.items ≡ c.put_u64-2.new.out.items ++ field_bytes v) (to_z-of_z {w = w64} {z = c.args.value} (search rules)) c.in_ok-put_field.ensures) e) c.put_counted.ensures
