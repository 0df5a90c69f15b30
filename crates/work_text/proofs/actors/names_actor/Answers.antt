use Rattle.std.proofs.Common.{List, ℕ, Bor, ◌∙◌, arith}
use Rattle.std.proofs.lemmas.List.{length-map}
use Rattle.work_text.proofs.Lists.{now_at, not_differs}
use Rattle.work_text.proofs.actors.names_actor.Goals as goal

pub returns : goal.returns
returns c = record {
  count = omega (arith, length-map c.args.words.now (λ (word : Bor (List ℕ)). word.now));
  first = now_at c.args.words.now 0 _ (omega arith) ∙ not_differs c.ne.ensures c.if-ne.false ∙ c.as_slice.ensures;
  second = now_at c.args.words.now 1 _ (omega arith) ∙ c.in_ok-actor.ensures.found.0;
  known = c.in_ok-actor.ensures.found.1;
  ascends = c.ascends.ensures.0 c.if-not-ascends.false;
}
