use Rattle.std.proofs.Common.{map, ap, ◌∙◌, List, ℕ, Bor}
use Rattle.std.proofs.lemmas.List.{take_rest}
use Rattle.work_text.proofs.ActorLines.{line_names, no_name, no_values}
use Rattle.work_text.proofs.actors.named.Goals as goal

pub returns-in_default : goal.returns-in_default
returns-in_default c n = no_name c.deref.result.now _ _ c.args.line.now n (ap (map (λ (word : Bor (List ℕ)). word.now)) c.deref.ensures.value ∙ c.in_ok-words.ensures) c.in_default.ensures

pub returns-in_default-2 : goal.returns-in_default-2
returns-in_default-2 c n = no_values c.deref-2.result.now _ _ c.args.line.now n _ (take_rest c.deref-2.result.now 2) (ap (map (λ (word : Bor (List ℕ)). word.now)) c.deref-2.ensures.value ∙ c.in_ok-words.ensures) (rw c.in_default-2.is at c.in_ok-values.ensures)

pub returns : goal.returns
returns c =
    line_names c.deref-2.result.now _ _ c.args.line.now c.in-Some.actor c.in-Some-2.values.items _ (take_rest c.deref-2.result.now 2) (ap (map (λ (word : Bor (List ℕ)). word.now)) c.deref-2.ensures.value ∙ c.in_ok-words.ensures)
    (rw c.deref-2.ensures.value (rw c.deref.ensures.value at c.in-Some.ensures)) (rw c.in-Some-2.is at c.in_ok-values.ensures)
