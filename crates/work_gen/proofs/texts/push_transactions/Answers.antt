use Rattle.std.proofs.Common.{ℕ, [], ◌∷◌, ◌++◌, string_bytes, ap, ◌∙◌}
use Rattle.work_gen.specs.Generated.{drawn, transaction_line}
use Rattle.work_gen.proofs.Growing.{one_more}
use Rattle.work_gen.proofs.texts.push_transactions.Goals as goal

pub loop-place-preserved : goal.loop-place-preserved
loop-place-preserved c =
    let i = c.loop-place.place in
    c.in_ok-push_line.ensures
    ∙ ap (λ d. string_bytes c.loop-place.text ++ (transaction_line d ++ 10 ∷ [])) c.draw.ensures
    ∙ one_more (string_bytes c.args.text.now) (string_bytes c.loop-place.text) (λ (k : ℕ). transaction_line (drawn c.args.seed k)) i c.loop-place.invariant
