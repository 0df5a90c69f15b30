use Rattle.std.proofs.Common.{refl, sym, ◌∙◌, ap}
use Rattle.gate_log.specs.State.{LogState}
use Rattle.gate_log.proofs.AppendExits.{no_crash, crashes_when_done, crashes_at_fault, appended_at, ready_at, no_ops, ops_done, ops_up_to_fault, ends_at, ends_there, is_none, is_some}
use Rattle.gate_log.proofs.logs.Log.append.Goals as goal

pub returns-then-self-clause-crashes : goal.returns-then-self-clause-crashes
returns-then-self-clause-crashes g c =
    no_crash c.args.self.now.told c.args.self.now.told c.args.self.now.end c.args.items.now c.requires.items refl

pub returns-then-is_empty-clause-crashes : goal.returns-then-is_empty-clause-crashes
returns-then-is_empty-clause-crashes g c =
    no_crash c.args.self.now.told c.args.self.now.told c.args.self.now.end c.args.items.now c.requires.items refl

pub returns-then-is_empty-clause-ops : goal.returns-then-is_empty-clause-ops
returns-then-is_empty-clause-ops g c =
    no_ops c.args.self.now.told c.args.self.now.end c.args.items.now (is_none c.args.items.now c.is_empty.result c.is_empty.ensures c.if-is_empty.true)

pub returns-then-is_empty-clause-grown : goal.returns-then-is_empty-clause-grown
returns-then-is_empty-clause-grown g c =
    ends_there c.args.self.now.end c.args.items.now (is_none c.args.items.now c.is_empty.result c.is_empty.ensures c.if-is_empty.true)

pub returns-in_default-clause-crashes : goal.returns-in_default-clause-crashes
returns-in_default-clause-crashes g c =
    no_crash c.args.self.now.told c.args.self.now.told c.args.self.now.end c.args.items.now c.requires.items refl

pub invariant_of-self : goal.invariant_of-self
invariant_of-self g c = λ open_log.
    ready_at _ _ _ _ _ c.self.inside.end c.len.result _ c.args.items.now _
    (c.self.invariant open_log) (ap (λ (s : LogState). s.format) c.self.view_is ∙ c.requires.format) (ap (λ (s : LogState). s.end) c.self.view_is)
    (c.as_slice.ensures.value ∙ c.in-Ok.ensures) (c.as_slice.ensures.len ∙ sym c.len.ensures) c.requires.items
    c.in-Ok-append_group.ensures.done c.in-Ok-append_group.ensures.known c.in-Ok-append_group.ensures.within

pub returns-in-Ok-append_group-clause-appended : goal.returns-in-Ok-append_group-clause-appended
returns-in-Ok-append_group-clause-appended g c =
    appended_at _ _ _ _ c.self.inside.end c.len.result c.args.items.now _
    (ap (λ (s : LogState). s.told) c.self.view_is) (ap (λ (s : LogState). s.end) c.self.view_is)
    (c.as_slice.ensures.value ∙ c.in-Ok.ensures) (c.as_slice.ensures.len ∙ sym c.len.ensures) c.requires.items
    c.in-Ok-append_group.ensures.done

pub returns-in-Ok-append_group-clause-crashes : goal.returns-in-Ok-append_group-clause-crashes
returns-in-Ok-append_group-clause-crashes g c =
    crashes_when_done _ _ _ _ _ c.args.items.now _
    (ap (λ (s : LogState). s.told) c.self.view_is) (ap (λ (s : LogState). s.end) c.self.view_is)
    (c.as_slice.ensures.value ∙ c.in-Ok.ensures) c.requires.items c.in-Ok-append_group.ensures.done

pub returns-in-Ok-append_group-clause-ops : goal.returns-in-Ok-append_group-clause-ops
returns-in-Ok-append_group-clause-ops g c =
    ops_done _ _ _ _ _ c.args.items.now _
    (ap (λ (s : LogState). s.told) c.self.view_is) (ap (λ (s : LogState). s.end) c.self.view_is)
    (c.as_slice.ensures.value ∙ c.in-Ok.ensures)
    (is_some c.args.items.now c.is_empty.result c.is_empty.ensures c.if-is_empty.false) c.in-Ok-append_group.ensures.done

pub returns-in-Ok-append_group-clause-grown : goal.returns-in-Ok-append_group-clause-grown
returns-in-Ok-append_group-clause-grown g c =
    ends_at c.self.inside.end c.args.self.now.end c.len.result c.args.items.now c.as_slice.result.now
    (ap (λ (s : LogState). s.end) c.self.view_is) (c.as_slice.ensures.value ∙ c.in-Ok.ensures) (c.as_slice.ensures.len ∙ sym c.len.ensures)
    (is_some c.args.items.now c.is_empty.result c.is_empty.ensures c.if-is_empty.false)

pub returns-clause-crashes : goal.returns-clause-crashes
returns-clause-crashes g c =
    crashes_at_fault _ _ _ _ _ c.args.items.now _
    (ap (λ (s : LogState). s.told) c.self.view_is) (ap (λ (s : LogState). s.end) c.self.view_is)
    (c.as_slice.ensures.value ∙ c.in-Ok.ensures) c.requires.items c.in-Err.ensures.fault

pub returns-clause-ops : goal.returns-clause-ops
returns-clause-ops g c =
    ops_up_to_fault _ _ _ _ _ c.args.items.now _
    (ap (λ (s : LogState). s.told) c.self.view_is) (ap (λ (s : LogState). s.end) c.self.view_is)
    (c.as_slice.ensures.value ∙ c.in-Ok.ensures)
    (is_some c.args.items.now c.is_empty.result c.is_empty.ensures c.if-is_empty.false) c.in-Err.ensures.fault
