-- Numbers are drawn once, and who has one is in one place.
use Rattle.std.specs.Prelude.{◌≡◌, ℕ, zero, suc, ◌+◌, ◌==◌, ◌≤◌, nat_lt, nat_le, Bool, true, false, ◌&&◌, List, [], ◌∷◌, ◌++◌, length, map}
use Rattle.protocol.specs.Fixed.{Fixed}
use Rattle.protocol.specs.Parts.{ControlMessage, Waiting, Outcome, Machine}
use Rattle.protocol.specs.Events.{Event, Form, Admit}
use Rattle.protocol.specs.Words.{count}
use Rattle.protocol.specs.OnRing.{next_pacts}
use Rattle.protocol.specs.Effects.{after}

-- ---- words

-- so many numbers from this one on
abbrev pub from : ℕ → ℕ → List ℕ
from n zero = []
from n (suc k) = n ∷ from (n + 1) k

abbrev pub flat : {X : Type 0} → List (List X) → List X
flat [] = []
flat (xs ∷ xss) = xs ++ flat xss

-- how often a number is in a list
abbrev pub times : ℕ → List ℕ → ℕ
times n ns = count (λ x. x == n) ns

abbrev pub one_if : Bool → ℕ
one_if true = 1
one_if false = 0

-- 1 for the numbers from one on and below another, 0 for all others
abbrev pub once_in : ℕ → ℕ → ℕ → ℕ
once_in low high n = one_if (nat_le low n && nat_lt n high)

-- ---- the numbers that a run draws, in order

abbrev pub tids_by : {C : Type 0} → Fixed C → Event → Machine C → List ℕ
tids_by w (Form k) s = map (λ p. p.tid) (next_pacts w.text s.ring)
tids_by w (Admit t) s = t ∷ []
tids_by w _ s = []

abbrev pub bids_by : Event → List ℕ
bids_by (Form k) = k ∷ []
bids_by _ = []

abbrev pub tids_along : {C : Type 0} → Fixed C → List Event → Machine C → List ℕ
tids_along w [] s = []
tids_along w (e ∷ es) s = tids_by w e s ++ tids_along w es (after w e s)

abbrev pub bids_along : List Event → List ℕ
bids_along [] = []
bids_along (e ∷ es) = bids_by e ++ bids_along es

-- ---- who has them

-- the tids of all batches and of all ACTs
abbrev pub all_tids : {C : Type 0} → Machine C → List ℕ
all_tids s = flat (map (λ b. map (λ p. p.tid) b.pacts) s.desk.batches) ++ map (λ x. x.tid) s.book.acts

-- where a submitted transaction may be: a queue, a batch or the book
abbrev pub txs_in : {C : Type 0} → Machine C → List ℕ
txs_in s = (flat s.ring.pacts ++ flat s.ring.acts) ++ (flat (map (λ b. map (λ p. p.tx) b.pacts) s.desk.batches) ++ map (λ x. x.tx) s.book.acts)

abbrev pub waiting_tids : {C : Type 0} → List (Waiting C) → List ℕ
waiting_tids inbox = map (λ x. x.tid) inbox

abbrev pub outcome_tids : {C : Type 0} → List (Outcome C) → List ℕ
outcome_tids outbox = map (λ x. x.tid) outbox

-- whose controls lie in the post, in these inboxes and in these outboxes
abbrev pub tids_of_controls : {C : Type 0} → List (ControlMessage C) → List (List (Waiting C)) → List (List (Outcome C)) → List ℕ
tids_of_controls controls inboxes outboxes = map (λ m. m.tid) controls ++ (flat (map waiting_tids inboxes) ++ flat (map outcome_tids outboxes))

-- where a control may be: the post, an inbox, or an outbox
abbrev pub controls_in : {C : Type 0} → Machine C → List ℕ
controls_in s = tids_of_controls s.post.controls (map (λ c. c.inbox) s.cells) (map (λ c. c.outbox) s.cells)

-- The batches have the numbers from the opening's on, in order, and each tid from the opening's on that was drawn
-- is one batch's or one ACT's.
pub record NumbersDrawnOnce {C : Type 0} (w : Fixed C) (s : Machine C) : Type 0 where
  pub bids : map (λ b. b.bid) s.desk.batches ≡ from w.text.opening.next_bid (length s.desk.batches)
  pub next_bid : s.ring.next_bid ≡ w.text.opening.next_bid + length s.desk.batches
  pub tids : (t : ℕ) → times t (all_tids s) ≡ once_in w.text.opening.next_tid s.ring.next_tid t

-- Each submitted transaction is in one place, and no other is in any.
abbrev pub TransactionsInOnePlace : {C : Type 0} → Fixed C → Machine C → Type 0
TransactionsInOnePlace w s = (n : ℕ) → times n (txs_in s) ≡ once_in 0 s.ring.next_tx n

-- No transaction has two controls, and who has one has a tid.
pub record ControlsInOnePlace {C : Type 0} (w : Fixed C) (s : Machine C) : Type 0 where
  pub one : (t : ℕ) → times t (controls_in s) ≤ 1
  pub drawn : (t : ℕ) → s.ring.next_tid ≤ t → times t (controls_in s) ≡ 0
