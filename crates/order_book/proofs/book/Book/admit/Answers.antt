use Rattle.std.proofs.Common.{◌≡◌, ◌+◌, ◌++◌, ◌∷◌, [], ℕ, List, ap, sym, ◌∙◌, refl, arith, length}
use Rattle.std.specs.Prelude.{true, is_ok}
use Rattle.std.proofs.lemmas.Bool.{cond-true}
use Rattle.protocol.specs.Parts.{Act}
use Rattle.protocol.specs.OnBook.{new_act}
use Rattle.order_book.specs.Walking.{is_walked, places_of}
use Rattle.order_book.proofs.Walked.{places_push}
use Rattle.order_book.proofs.book.Book.admit.Goals as goal

pub invariant_of-self-2 : goal.invariant_of-self-2
invariant_of-self-2 c =
    let pushed : is_ok c.push-walked.result ≡ true = c.push-walked.ensures.succeeds (omega (arith, c.in_ok-reserve.ensures.ok)) in
    let at : length c.self.inside.register + 0 ≡ c.len-at.result = omega (arith, c.len-at.ensures) in
    c.push-walked.ensures.items
    ∙ (cond-true (is_ok c.push-walked.result) (c.reserve.new.self.items ++ c.len-at.result ∷ []) c.reserve.new.self.items pushed
    ∙ (ap (λ (ats : List ℕ). ats ++ c.len-at.result ∷ []) (c.in_ok-reserve.ensures.items ∙ c.self.invariant)
    ∙ (ap (λ (n : ℕ). places_of (is_walked c.self.inside.pairs.items) 0 c.self.inside.register ++ n ∷ []) (sym at)
    ∙ (sym (places_push (is_walked c.self.inside.pairs.items) 0 c.self.inside.register (new_act c.args.t.0 c.args.tx.0 c.args.reader c.args.base.0) refl)
    ∙ ap (λ (zs : List Act). places_of (is_walked c.self.inside.pairs.items) 0 zs) (sym c.in_ok-push.ensures.ok)))))
