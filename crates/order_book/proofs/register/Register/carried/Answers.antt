use Rattle.std.proofs.Common.{◌≡◌, ◌≤◌, ◌<◌, ◌+◌, ℕ, suc, ap, sym, ◌∙◌, subst, arith, length, drop}
use Rattle.std.specs.Prelude.{true, false, slice_index}
use Rattle.std.proofs.lemmas.List.{length-map}
use Rattle.order_book.specs.Registered.{tids_of_acts, brought_by}
use Rattle.order_book.proofs.Carrying.{carried_past, carried_there}
use Rattle.order_book.proofs.register.Register.carried.Goals as goal
use Rattle.protocol.specs.Cutting.{Ascends}

pub returns-then-at-len : goal.returns-then-at-len
returns-then-at-len c =
    let past : length c.self.inside.acts ≤ c.args.at = omega (arith, c.if-at-len.true, c.len.ensures, c.self.inside.tids.ok.0, ap length c.self.invariant.listed, length-map c.self.inside.acts (λ x. x.tid)) in
    rw (← c.self.view_is) (sym (carried_past c.args.pairs.now c.args.at c.self.inside.acts past))

pub returns-then-is_placed : goal.returns-then-is_placed
returns-then-is_placed c =
    let within : c.args.at < length c.self.inside.acts = omega (arith, c.if-at-len.false, c.len.ensures, c.self.inside.tids.ok.0, ap length c.self.invariant.listed, length-map c.self.inside.acts (λ x. x.tid)) in
    rw (← c.self.view_is) (sym (carried_there c.args.pairs.now c.args.at c.self.inside.acts true (subst Ascends c.self.invariant.listed c.self.invariant.rising) within (sym c.if-is_placed.true ∙ c.is_placed.ensures)))

pub returns : goal.returns
returns c =
    let within : c.args.at < length c.self.inside.acts = omega (arith, c.if-at-len.false, c.len.ensures, c.self.inside.tids.ok.0, ap length c.self.invariant.listed, length-map c.self.inside.acts (λ x. x.tid)) in
    let next : c.args.at + 1 ≡ suc c.args.at = omega arith in
    c.brought_by.ensures
    ∙ (ap (λ (n : ℕ). brought_by c.args.pairs.now (slice_index (tids_of_acts c.args.self.now) c.args.at) (drop n c.args.self.now)) next
    ∙ rw (← c.self.view_is) (sym (carried_there c.args.pairs.now c.args.at c.self.inside.acts false (subst Ascends c.self.invariant.listed c.self.invariant.rising) within (sym c.if-is_placed.false ∙ c.is_placed.ensures))))
