use Rattle.std.proofs.Common.{sym, ◌∙◌, Some, ap, ◌++◌, ◌∷◌, [], map, reverse, arith}
use Rattle.turn_table.proofs.ByPlace.{none_is_some}
use Rattle.turn_table.proofs.Calls.{last_full, moved_back, restored}
use Rattle.turn_table.proofs.opens.put_back.Goals as goal

pub unreachable-requires : goal.unreachable-requires
unreachable-requires g c =
    let f = c.loop-slot.invariant.2 in
    let r = last_full c.pop.new.self.items c.in-Some.slot f.0 (sym f.1 ∙ c.in-Some.ensures.items) in
    none_is_some r.1 (sym c.in_default-slot.is ∙ r.3)

pub loop-slot-preserved : goal.loop-slot-preserved
loop-slot-preserved g c =
    let f = c.loop-slot.invariant.2 in
    let r = last_full c.pop.new.self.items c.in-Some.slot f.0 (sym f.1 ∙ c.in-Some.ensures.items) in
    let one_less = c.in-Some.ensures.items ∙ ap (λ o. c.pop.new.self.items ++ o ∷ []) c.in-Some-slot.is in (
      moved_back c.args.slots.items c.loop-slot.slots.items c.pop.new.self.items c.loop-slot.parts.items c.in-Some-slot.part c.loop-slot.invariant.0 one_less ∙ ap (λ xs. c.pop.new.self.items ++ reverse (map Some xs)) (sym c.push_reserved.ensures.items),
      omega (arith, c.loop-slot.invariant.1, c.in-Some.ensures.len, c.push_reserved.ensures.len, c.push_reserved.ensures.capacity),
      (r.0, r.2),
    )

pub returns : goal.returns
returns g c = λ ps h. restored c.args.slots.items c.loop-slot.slots.items c.loop-slot.parts.items c.reverse.new.self.items ps c.loop-slot.invariant.0 (omega (arith, c.in_default.ensures.cases.0)) c.reverse.ensures.items h
