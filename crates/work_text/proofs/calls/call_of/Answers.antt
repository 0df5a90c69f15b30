use Rattle.std.proofs.Common.{◌≡◌, sym, ap, ◌∙◌, arith, length, List, ℕ, Bor}
use Rattle.std.proofs.lemmas.List.{length-map}
use Rattle.aml_check.specs.Names.{method_at}
use Rattle.aml_check.specs.Checked.{methods_of}
use Rattle.work_text.proofs.Lists.{now_at}
use Rattle.work_text.proofs.Words.{method_one, some_three}
use Rattle.work_text.proofs.calls.call_of.Goals as goal

pub returns-then-words-params-clause-only : goal.returns-then-words-params-clause-only
returns-then-words-params-clause-only c k actor method h =
    let same : c.in_ok-method.method ≡ method = method_one (methods_of c.args.program.now) c.told_apart.ensures c.in_ok-method.method method c.in_ok-method.ensures.found.0 h.known_method
    (c.in_ok-method.ensures.found.1 ∙ sym (now_at c.args.words.now 2 _ (omega arith)) ∙ h.third) in
    absurd (omega (arith, h.count, length-map c.args.words.now (λ (word : Bor (List ℕ)). word.now), c.params.ensures, ap (λ m. length (method_at (methods_of c.args.program.now) m).parameters) same, c.if-words-params.true))

pub returns-clause-only : goal.returns-clause-only
returns-clause-only c k actor method h =
    let same : c.in_ok-method.method ≡ method = method_one (methods_of c.args.program.now) c.told_apart.ensures c.in_ok-method.method method c.in_ok-method.ensures.found.0 h.known_method
    (c.in_ok-method.ensures.found.1 ∙ sym (now_at c.args.words.now 2 _ (omega arith)) ∙ h.third) in
    some_three (c.in_ok-kind.ensures.only k (sym (now_at c.args.words.now 0 _ (omega arith)) ∙ h.first)) (c.in_ok-actor.ensures.only actor (sym (now_at c.args.words.now 1 _ (omega arith)) ∙ h.second) h.known_actor) same
