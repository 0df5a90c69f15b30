use Rattle.std.proofs.Common.{◌≡◌, [], suc, ◌∷◌, ◌++◌, length, ap, ◌∙◌, sym, arith, ◌+◌}
use Rattle.std.proofs.lemmas.List.{length_push}
use Rattle.work_text.specs.Actors.{state_with, states_in}
use Rattle.work_text.proofs.StateLines.{zero_more}
use Rattle.work_text.proofs.states.zero_states.Goals as goal

pub loop-states-preserved : goal.loop-states-preserved
loop-states-preserved c =
    let more : length c.push.new.self.items ≡ length c.loop-states.states.items + 1 = ap length c.in_ok-push.ensures.items ∙ length_push c.loop-states.states.items _ in
    let next : suc (length c.loop-states.states.items) ≡ length c.push.new.self.items = omega (arith, more) in
    record {
      zeros = c.in_ok-push.ensures.items ∙ ap (λ ss. ss ++ state_with [] ∷ []) c.loop-states.invariant.zeros ∙ sym (zero_more 0 (length c.loop-states.states.items)) ∙ ap (states_in [] 0) next;
      few = omega (arith, more);
    }

pub returns : goal.returns
returns c = c.loop-states.invariant.zeros ∙ ap (states_in [] 0) (omega arith)
