-- What is counted of messages: in the order of posting as much as in any.
use Rattle.std.proofs.Common.{◌≡◌, ℕ, zero, suc, ◌+◌, eqb, List, [], ◌∷◌, refl, ap, ◌∙◌, arith}
use Rattle.protocol.proofs.Totals.{total-append, total-cond, total-map}
use Rattle.protocol.specs.Left.{total}
use Rattle.post_box.specs.declared.numbered.Numbered.{Numbered}
use Rattle.post_box.specs.Order.{numbered, in_order, IsNumbered}
use Rattle.post_box.specs.Kept.{entry_number, entry_message, in_posting_order}
use Rattle.post_box.proofs.InOrder.{in_order-none, in_order-one, number_below_first, IsNumbered-tail}

module _ {X : Type 0} (f : X → ℕ) (number : X → ℕ) where
  total-in_order_cons : (n : ℕ) (x : X) (xs : List X) → total f (in_order number n (x ∷ xs)) ≡ total f (in_order number n (x ∷ [])) + total f (in_order number n xs)
  total-in_order_cons zero x xs = refl
  total-in_order_cons (suc n) x xs =
      omega (
        arith,
        total-in_order_cons n x xs,
        total-cond f (eqb (number x) n) x (numbered number n xs),
        total-append f (in_order number n (x ∷ xs)) (numbered number n (x ∷ xs)),
        total-append f (in_order number n (x ∷ [])) (numbered number n (x ∷ [])),
        total-append f (in_order number n xs) (numbered number n xs),
      )

  total-in_order : (n : ℕ) (xs : List X) → IsNumbered number n xs → total f (in_order number n xs) ≡ total f xs
  total-in_order n [] h = ap (total f) (in_order-none number n)
  total-in_order n (x ∷ xs) h =
      omega (arith, total-in_order_cons n x xs, ap (total f) (in_order-one number n x (number_below_first number n x xs h)), total-in_order n xs (IsNumbered-tail number n x xs h))

pub total-posting_order : {K M : Type 0} (f : K × M → ℕ) (n : ℕ) (es : List (K × Numbered M)) → IsNumbered entry_number n es → total f (in_posting_order n es) ≡ total (λ e. f (entry_message e)) es
total-posting_order f n es h = total-map f entry_message (in_order entry_number n es) ∙ total-in_order (λ e. f (entry_message e)) entry_number n es h
