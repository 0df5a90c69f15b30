-- The tids of orders are those of the book.
use Rattle.std.specs.Prelude.{◌≡◌, refl, ℕ, ◌≤◌, ◌<◌, List, [], ◌∷◌, map}
use Rattle.std.specs.List.{All, AllByRecursion}
use Rattle.std.proofs.Common.{arith, inl, inr, ap, ◌∙◌}
use Rattle.std.proofs.lemmas.Bool.{cases_lt, eq-eqb}
use Rattle.std.proofs.lemmas.List.Elements.{All-from_recursion}
use Rattle.protocol.specs.Fixed.{Fixed}
use Rattle.protocol.specs.Parts.{Act, Book, Machine}
use Rattle.protocol.specs.Numbers.{times, one_if, flat, NumbersDrawnOnce}
use Rattle.protocol.specs.BookParts.{act_by}
use Rattle.protocol.specs.Words.{act_of}
use Rattle.protocol_laws.proofs.Lemmas.{once_from, times_append, times_cons}
use Rattle.book_part.proofs.Mapped.{map_each}
use Rattle.book_part.specs.Halves.{Halves, Shows}
use Rattle.book_part.proofs.Shown.{is_book}

pub tids_shown : (h : Halves) (b : Book) → Shows h b → map (λ x. x.tid) b.acts ≡ map (λ x. x.tid) h.orders.acts
tids_shown h b s = ap (λ (b : Book). map (λ x. x.tid) b.acts) (is_book h b s) ∙ map_each (λ x. x.tid) (λ x. act_by (act_of x.tid h.votes.acts) x) (λ x. x.tid) h.orders.acts (λ x. refl)

all_below : (n : ℕ) (acts : List Act) → ((k : ℕ) → n ≤ k → times k (map (λ x. x.tid) acts) ≡ 0) → AllByRecursion (λ x. x.tid < n) acts
all_below n [] h = tt
all_below n (x ∷ xs) h = (
  below,
  all_below n xs (λ k l. omega (arith, h k l, times_cons k x.tid (map (λ x. x.tid) xs))),
)
  where
    below : x.tid < n
    below = elim (cases_lt x.tid n) [ inl l ↦ l | inr l ↦ absurd (omega (arith, h x.tid l, times_cons x.tid x.tid (map (λ x. x.tid) xs), ap one_if (eq-eqb x.tid x.tid refl))) ]

pub below_next : {C : Type 0} (w : Fixed C) (s : Machine C) (h : Halves) → NumbersDrawnOnce w s → Shows h s.book → All (λ x. x.tid < s.ring.next_tid) h.orders.acts
below_next w s h d p = All-from_recursion (λ x. x.tid < s.ring.next_tid) h.orders.acts (all_below s.ring.next_tid h.orders.acts none)
  where
    none : (k : ℕ) → s.ring.next_tid ≤ k → times k (map (λ x. x.tid) h.orders.acts) ≡ 0
    none k l = omega (arith, d.tids k, once_from w.text.opening.next_tid s.ring.next_tid k l, times_append k (flat (map (λ b. map (λ p. p.tid) b.pacts) s.desk.batches)) (map (λ x. x.tid) s.book.acts), ap (times k) (tids_shown h s.book p))
