use Rattle.std.proofs.Common.{◌∷◌, ◌++◌, [], ap, sym, ◌∙◌, List, ℕ}
use Rattle.aml_resolver.proofs.ClosedParts.{counted_more}
use Rattle.aml_resolver.proofs.methods.numbered.Goals as goal

pub loop-place-preserved : goal.loop-place-preserved
loop-place-preserved c =
    c.in_ok-push.ensures ∙ ap (λ (ps : List ℕ). ps ++ c.loop-place.place ∷ []) c.loop-place.invariant ∙ sym (counted_more c.args.words.now c.loop-place.place c.index-words-place.result c.loop-place-test.true c.index-words-place.is)
