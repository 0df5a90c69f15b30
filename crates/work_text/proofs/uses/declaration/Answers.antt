use Rattle.std.proofs.Common.{◌≡◌, ◌∙◌, ℕ, List, [], map, get_or, arith, Bor}
use Rattle.std.specs.Prelude.{codes}
use Rattle.std.proofs.lemmas.Result.{IfOk-weaker}
use Rattle.std.proofs.lemmas.List.{take_rest}
use Rattle.work_text.proofs.Lists.{now_at, not_differs}
use Rattle.work_text.proofs.UseWords.{pact_declares, pact_declares_not, match_weaker}
use Rattle.work_text.proofs.uses.declaration.Goals as goal

pub returns-else-ne : goal.returns-else-ne
returns-else-ne c =
    let first : get_or (map (λ (word : Bor (List ℕ)). word.now) c.args.words.now) 0 [] ≡ codes "uses" = now_at c.args.words.now 0 _ (omega arith) ∙ not_differs c.ne.ensures c.if-ne.false ∙ c.as_slice.ensures in
    IfOk-weaker c.declared_uses.result _ _
    (λ read h.
    match_weaker read _ _ _ _ (λ none us are e. pact_declares_not c.args.kind c.args.actors c.args.words.now _ us c.in-Pact.is (take_rest c.args.words.now 1) none are e)
    (λ v k. pact_declares c.args.kind c.args.actors c.args.words.now _ v.items c.in-Pact.is (take_rest c.args.words.now 1) (omega arith) first k) h)
    c.declared_uses.ensures
