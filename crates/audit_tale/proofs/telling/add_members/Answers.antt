use Rattle.std.proofs.Common.{length, map, ap, arith, ◌∙◌}
use Rattle.std.specs.Prelude.{slice_index_or}
use Rattle.snap_base.specs.declared.ids.Tid.{Tid}
use Rattle.snap_base.specs.declared.ids.TxNo.{TxNo}
use Rattle.protocol.specs.Meant.{batch_pact}
use Rattle.audit_words.specs.Happenings.{pact_member}
use Rattle.audit_tale.specs.Knows.{member_of}
use Rattle.audit_tale.proofs.WhoIsTold.{members_more}
use Rattle.audit_tale.proofs.telling.add_members.Goals as goal

pub loop-pact-preserved : goal.loop-pact-preserved
loop-pact-preserved c =
    let none : Tid × TxNo = (record { 0 = 0 }, record { 0 = 0 }) in
    ap (map member_of) c.in_ok-push.ensures.items
    ∙ members_more c.formed.inside.bid.0 c.formed.inside.txs.items c.loop-pact.pact-index none c.loop-pact.members.items c.pact_at.result (map member_of c.args.members.now.items) (omega (arith, ap length c.deref-pact-items.ensures.value))
    (c.pact_at.ensures ∙ ap (λ xs. pact_member c.formed.inside.bid.0 (batch_pact (slice_index_or xs c.loop-pact.pact-index none))) c.deref-pact-items.ensures.value) c.loop-pact.invariant
