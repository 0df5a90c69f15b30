-- A batch arrives at most once on an actor: each batch that was ever placed there is of an earlier epoch than the
-- cell, or not above its tail.
use Rattle.std.specs.Prelude.{◌≡◌, ℕ, ◌-◌, ◌<◌, ◌≤◌, ◌==◌, nat_lt, true, false, Option, Some, None, List, [], ◌∷◌, ◌++◌}
use Rattle.std.specs.List.{AllByRecursion}
use Rattle.std.proofs.Common.{arith, sym, subst, inl, inr}
use Rattle.std.proofs.lemmas.List.{append-nil}
use Rattle.std.proofs.lemmas.Bool.{ltb-true, or_cases, true≢false, false_from_ne_true}
use Rattle.protocol.specs.Fixed.{Fixed}
use Rattle.protocol.specs.Parts.{Cascade, Who, OfBatch, OfAct, Cell, Machine}
use Rattle.protocol.specs.Events.{Event, Form, Arrive, Ask, Take, Run, Send, End, Close, Complete, Abort, Rollback, Finish, Trim}
use Rattle.protocol.specs.Words.{is_who, epoch_of, sub_of, lock_of}
use Rattle.protocol.specs.Conditions.{IsAllowed, conditions, epoch}
use Rattle.protocol.specs.Effects.{after, cell_at, no_cell}
use Rattle.protocol.specs.OnBook as book
use Rattle.protocol.specs.History.{History, grown, asks}
use Rattle.protocol_theorems.specs.Placed.{is_placed}
use Rattle.protocol_laws.proofs.first.EpochsKept as epochs
use Rattle.protocol_laws.proofs.machine.TrackLists.{is_who_true}
use Rattle.protocol_laws.proofs.machine.TracksKept.{beside, in_range, arrives, held}
use Rattle.protocol_laws.proofs.machine.PlacesKept.{message, Placed}
use Rattle.protocol_laws.proofs.machine.FromDeskKept.{one_cell}
use Rattle.protocol_laws.proofs.first.Lists.{all_join, weaker}

pub record WasPlaced (next : ℕ) (cs : List Cascade) (ep tail k : ℕ) : Type 0 where
  pub formed : k < next
  pub earlier : epoch_of k cs ≤ ep
  pub is_last : epoch_of k cs ≡ ep → k ≤ tail

abbrev pub WhoWas : ℕ → List Cascade → ℕ → ℕ → Who → Type 0
WhoWas next cs ep tail (OfBatch k) = WasPlaced next cs ep tail k
WhoWas next cs ep tail (OfAct t) = Unit {0}

abbrev pub At : {C : Type 0} → Machine C → ℕ → Cell C → List Who → Type 0
At s a c ys = AllByRecursion (WhoWas s.ring.next_bid s.book.cascades c.epoch c.tail) ys

unfoldable pub AllPlaced : {C : Type 0} → Machine C → History → Type 0
AllPlaced s h = (a : ℕ) → At s a (cell_at s a) (h.placed a)

changes : (next next' : ℕ) (cs cs' : List Cascade) (ep ep' tail tail' : ℕ) (y : Who) → ((k : ℕ) → WasPlaced next cs ep tail k → WasPlaced next' cs' ep' tail' k) → WhoWas next cs ep tail y → WhoWas next' cs' ep' tail' y
changes next next' cs cs' ep ep' tail tail' (OfBatch k) f h = f k h
changes next next' cs cs' ep ep' tail tail' (OfAct t) f h = tt

ask : {C : Type 0} (s : Machine C) (t a : ℕ) (o : Option ℕ) (c : Cell C) (ys : List Who) → At s a c ys → At s a c (ys ++ asks t o)
ask s t a None c ys h = all_join _ ys (OfAct t ∷ []) h (tt, tt)
ask s t a (Some older) c ys h = rw (append-nil ys) h

pub kept : {C : Type 0} (w : Fixed C) (e : Event) (s : Machine C) (h : History) → IsAllowed w e s → epochs.Agreeing s → Placed w s h → AllPlaced s h → AllPlaced (after w e s) (grown w e s h)
unfolding AllPlaced Placed conditions after grown
kept w (Form k) s h ok n p g = λ a. weaker _ _ (h.placed a) (λ y i. changes _ _ s.book.cascades s.book.cascades _ _ _ _ y (λ j q. record { formed = omega (arith, q.formed); earlier = q.earlier; is_last = q.is_last }) i) (g a)
kept w (Arrive k a) s h ok n p g =
    let m = message w k a s ok n in
    beside (At s) s.cells a _ _ h.placed (arrives (epoch s.book) a (λ c. c.epoch == epoch s.book) s.cells (sub_of k a s.post.subs) ok.1.1.0)
    (λ x. all_join _ (h.placed a) _ (weaker _ _ (h.placed a) (λ y i. changes _ _ s.book.cascades s.book.cascades _ _ _ k y (λ j q. record { formed = q.formed; earlier = q.earlier; is_last = λ e. omega (arith, q.is_last e, m.behind) }) i) x)
    (record { formed = m.formed; earlier = omega (arith, m.own); is_last = λ e. omega arith }, tt)) g
kept w (Ask t a) s h ok n p g = beside (At s) s.cells a _ _ h.placed (in_range _ s.cells a ok.1.1.0) (ask s t a (book.in_the_way (lock_of t s.book.acts) (cell_at s a).entries) (cell_at s a) (h.placed a)) g
kept w (Take t a) s h ok n p g = one_cell (λ b c. At s b c (h.placed b)) s.cells a _ (λ x. x) g
kept w (Run t a) s h ok n p g = one_cell (λ b c. At s b c (h.placed b)) s.cells a _ (λ x. x) g
kept w (Send t a) s h ok n p g = one_cell (λ b c. At s b c (h.placed b)) s.cells a _ (λ x. x) g
kept w (End t a) s h ok n p g = one_cell (λ b c. At s b c (h.placed b)) s.cells a _ (λ x. x) g
kept w (Close t a) s h ok n p g = one_cell (λ b c. At s b c (h.placed b)) s.cells a _ (λ x. x) g
kept w (Complete k a) s h ok n p g = one_cell (λ b c. At s b c (h.placed b)) s.cells a _ (λ x. x) g
kept w (Abort k) s h ok n p g = λ a. weaker _ _ (h.placed a)
    (λ y i. changes _ _ s.book.cascades _ _ _ _ _ y (λ j q. let e = epochs.epoch_more j s.book.cascades (record { first = k; upto = s.ring.next_bid - 1; by = book.failed_tx (book.why k s.desk); at = s.book.next_c; code = book.failed_code (book.why k s.desk) }) (omega (arith, q.formed)) in record { formed = q.formed; earlier = omega (arith, e, q.earlier); is_last = λ v. q.is_last (omega (arith, v, e)) }) i) (g a)
kept w (Rollback a) s h ok n p g =
    let l = ltb-true (cell_at s a).epoch (epoch s.book) (held (λ c. nat_lt c.epoch (epoch s.book)) s.cells a no_cell ok.0) in
    one_cell (λ b c. At s b c (h.placed b)) s.cells a _ (λ x. weaker _ _ (h.placed a) (λ y i. changes _ _ s.book.cascades s.book.cascades _ (epoch s.book) _ 0 y (λ j q. record { formed = q.formed; earlier = omega (arith, q.earlier, l); is_last = λ e. absurd (omega (arith, e, q.earlier, l)) }) i) x) g
kept w (Finish t a) s h ok n p g = one_cell (λ b c. At s b c (h.placed b)) s.cells a _ (λ x. x) g
kept w (Trim k a) s h ok n p g = one_cell (λ b c. At s b c (h.placed b)) s.cells a _ (λ x. x) g
kept w e s h ok n p g = g

was : (next ep tail k : ℕ) (cs : List Cascade) (ys : List Who) → is_placed (OfBatch k) ys ≡ true → AllByRecursion (WhoWas next cs ep tail) ys → WasPlaced next cs ep tail k
was next ep tail k cs [] e h = absurd (true≢false (sym e))
was next ep tail k cs (y ∷ ys) e h = elim (or_cases (is_who y (OfBatch k)) (is_placed (OfBatch k) ys) e) [ inl q ↦ subst (WhoWas next cs ep tail) (is_who_true y (OfBatch k) q) h.0 | inr q ↦ was next ep tail k cs ys q h.1 ]

-- A batch that arrives was not placed there before.
pub arrives_once : {C : Type 0} (w : Fixed C) (k a : ℕ) (s : Machine C) (h : History) → IsAllowed w (Arrive k a) s → epochs.Agreeing s → AllPlaced s h → is_placed (OfBatch k) (h.placed a) ≡ false
unfolding AllPlaced
arrives_once w k a s h ok n g = false_from_ne_true (is_placed (OfBatch k) (h.placed a)) (λ q. let m = message w k a s ok n in omega (arith, (was s.ring.next_bid (cell_at s a).epoch (cell_at s a).tail k s.book.cascades (h.placed a) q (g a)).is_last m.own, m.behind))
