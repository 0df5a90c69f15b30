-- The halves of a book go on with it.
use Rattle.std.specs.Prelude.{◌≡◌, refl, ℕ, ◌-◌, List, [], ◌∷◌, ◌++◌}
use Rattle.std.proofs.Common.{arith, ap, ◌∙◌}
use Rattle.protocol.specs.Fixed.{Fixed}
use Rattle.protocol.specs.Parts.{Book, Cascade, Machine}
use Rattle.protocol.specs.Events.{Event, Abort}
use Rattle.protocol.specs.Effects.{after}
use Rattle.protocol.specs.OnBook.{why, failed_tx, failed_code}
use Rattle.protocol.specs.BookParts.{no_orders, no_votes}
use Rattle.protocol.specs.Runs.{opening_book}
use Rattle.protocol_theorems.specs.BookFits.{HalvesMeet, IsOfHalves, orders_after, votes_after}
use Rattle.book_part.specs.Halves.{Halves, Shows}
use Rattle.book_part.specs.After.{cascades_after, halves_after}

one_more : (cs : List Cascade) (k upto by code at : ℕ) → List Cascade
one_more cs k upto by code at = cs ++ record { first = k; upto = upto; by = by; at = at; code = code } ∷ []

cascades_go : {C : Type 0} (w : Fixed C) (e : Event) (s : Machine C) (h : Halves) → Shows h s.book → (after w e s).book.cascades ≡ cascades_after e s h
unfolding after one_more
cascades_go w (Abort k) s h p =
    ap (λ cs. one_more cs k (s.ring.next_bid - 1) (failed_tx (why k s.desk)) (failed_code (why k s.desk)) s.book.next_c) p.1
    ∙ ap (one_more h.cascades k (s.ring.next_bid - 1) (failed_tx (why k s.desk)) (failed_code (why k s.desk))) (ap (λ b. b.next_c) p.0.is)
cascades_go w _ s h p = p.1

-- what an event makes of the halves, as the law of the machine says it
abbrev pub HalvesStay : Type 0 → Type 0
HalvesStay C = (w : Fixed C) (e : Event) (s : Machine C) (o v : Book) → IsOfHalves s.book o v → HalvesMeet e s o v → IsOfHalves (after w e s).book (orders_after w e s o) (votes_after e s o v)

pub stays : {C : Type 0} → HalvesStay C → (w : Fixed C) (e : Event) (s : Machine C) (h : Halves) → Shows h s.book → HalvesMeet e s h.orders h.votes → Shows (halves_after w e s h) (after w e s).book
stays law w e s h p m = (law w e s h.orders h.votes p.0 m, cascades_go w e s h p)

pub begins : {C : Type 0} (w : Fixed C) (most : ℕ) → Shows (record { orders = no_orders; votes = no_votes w.text.opening.next_c; cascades = []; most = most }) (opening_book w)
begins w most = (record { is = refl; fits = record { apart = λ n. omega arith; bare = tt; voted = tt; known = tt } }, refl)
