use Rattle.std.proofs.Common.{◌≡◌, ℕ, ◌+◌, ◌-◌, ◌<◌, Bool, true, false, Option, Some, length, get_or, drop, sym, ap, ◌∙◌, arith}
use Rattle.std.specs.Prelude.{option_map, unwrap_or}
use Rattle.std.specs.List.{find}
use Rattle.snap_base.specs.declared.transactions.State.{State}
use Rattle.protocol.specs.Meant.{who_meant}
use Rattle.protocol.specs.Parts.{Image}
use Rattle.actor_cell.specs.Calls.{is_meant}
use Rattle.actor_cell.proofs.Backwards.{left_from, same_place, taken_out, left_in, found_here, not_here}
use Rattle.actor_cell.proofs.Slots.{unwrap_or-kept}
use Rattle.actor_cell.proofs.images.Images.give_back.Goals as goal

pub loop-at-preserved-then-includes : goal.loop-at-preserved-then-includes
loop-at-preserved-then-includes c =
    let xs = c.args.self.now in
    let meant : Image → Bool = λ x. is_meant c.args.meant x.who in
    let state_of : Image → State = λ x. x.state in
    let d : Image = record { who = who_meant c.whose.result; state = c.args.state } in
    let i : ℕ = c.loop-at.at - 1 in
    let next : c.loop-at.at ≡ i + 1 = omega arith in
    let within : i < length xs = omega (arith, c.loop-at.invariant.within) in
    let stood : c.loop-at.self ≡ left_from meant xs (i + 1) = c.loop-at.invariant.left ∙ ap (left_from meant xs) next in
    let same : get_or c.loop-at.self i d ≡ get_or xs i d = same_place meant xs c.loop-at.self i d within stood in
    let yes : meant (get_or xs i d) ≡ true = sym (ap meant same) ∙ sym (ap (is_meant c.args.meant) (c.whose.ensures d)) ∙ sym c.includes.ensures ∙ c.if-includes.true in
    let some : State → Option State = λ s. Some s in
    record {
      left = c.take_out-kept.ensures.images ∙ taken_out meant xs c.loop-at.self i d within stood yes;
      told = ap some (c.take_out-kept.ensures.state d ∙ ap state_of same) ∙ sym (ap (option_map state_of) (found_here meant xs i d within yes));
      within = omega arith;
    }

pub loop-at-preserved : goal.loop-at-preserved
loop-at-preserved c =
    let xs = c.args.self.now in
    let meant : Image → Bool = λ x. is_meant c.args.meant x.who in
    let state_of : Image → State = λ x. x.state in
    let d : Image = record { who = who_meant c.whose.result; state = c.args.state } in
    let i : ℕ = c.loop-at.at - 1 in
    let next : c.loop-at.at ≡ i + 1 = omega arith in
    let within : i < length xs = omega (arith, c.loop-at.invariant.within) in
    let stood : c.loop-at.self ≡ left_from meant xs (i + 1) = c.loop-at.invariant.left ∙ ap (left_from meant xs) next in
    let same : get_or c.loop-at.self i d ≡ get_or xs i d = same_place meant xs c.loop-at.self i d within stood in
    let no : meant (get_or xs i d) ≡ false = sym (ap meant same) ∙ sym (ap (is_meant c.args.meant) (c.whose.ensures d)) ∙ sym c.includes.ensures ∙ c.if-includes.false in
    record {
      left = left_in meant xs c.loop-at.self i d within stood no;
      told = c.loop-at.invariant.told ∙ ap (λ (n : ℕ). option_map state_of (find meant (drop n xs))) next ∙ sym (ap (option_map state_of) (not_here meant xs i d within no));
      within = omega arith;
    }

pub returns-clause-state : goal.returns-clause-state
returns-clause-state c =
    let xs = c.args.self.now in
    let meant : Image → Bool = λ x. is_meant c.args.meant x.who in
    let state_of : Image → State = λ x. x.state in
    let done : c.loop-at.at ≡ 0 = omega arith in
    c.unwrap_or.ensures
    ∙ ap (λ (o : Option State). unwrap_or o c.args.state) (c.loop-at.invariant.told ∙ ap (λ (n : ℕ). option_map state_of (find meant (drop n xs))) done)
    ∙ unwrap_or-kept c.args.state (find meant xs)
