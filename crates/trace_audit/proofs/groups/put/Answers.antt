use Rattle.std.proofs.Common.{[], ◌∷◌, ◌++◌, List, ap, ◌∙◌}
use Rattle.audit_tale.specs.declared.tales.MemberTale.{MemberTale}
use Rattle.trace_audit.specs.Grouped.{gained, group_items}
use Rattle.trace_audit.proofs.Grouping.{group_put, group_read}
use Rattle.trace_audit.proofs.groups.put.Goals as goal

pub returns : goal.returns
returns c k =
    group_put c.reach.new.groups.items c.args.at c.push.new.self c.args.member.now c.in_ok-reach.ensures.there
    (c.in_ok-push.ensures.items ∙ ap (λ (ms : List MemberTale). ms ++ c.args.member.now ∷ []) (ap group_items c.index_mut.ensures.value ∙ group_read c.reach.new.groups.items c.args.at c.index_mut.result.now c.in_ok-reach.ensures.there)) k
    ∙ ap (λ (ms : List MemberTale). ms ++ gained c.args.at k c.args.member.now) (c.in_ok-reach.ensures.same k)
