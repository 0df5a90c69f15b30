-- What waits at the coordinators are transactions of the text.
use Rattle.std.specs.Prelude.{◌≡◌, refl, ℕ, zero, suc, ◌+◌, ◌<◌, ◌==◌, nat_lt, Bool, true, false, not, if◌then◌else◌, List, [], ◌∷◌, length, replicate, slice_index_or}
use Rattle.std.specs.List.{AllByRecursion}
use Rattle.std.proofs.Common.{sym}
use Rattle.std.proofs.lemmas.Bool.{and_parts, ltb-true, true≢false}
use Rattle.protocol.specs.Fixed.{Text, Fixed, is_pact, tx_at}
use Rattle.protocol.specs.Rests.{IsTxIn}
use Rattle.protocol.specs.Parts.{Machine, Pact}
use Rattle.protocol.specs.Events.{Event, Submit, Form, Admit}
use Rattle.protocol.specs.Words.{is_empty}
use Rattle.protocol.specs.Conditions.{IsAllowed, conditions, queue}
use Rattle.protocol.specs.Effects.{after}
use Rattle.protocol.specs.Runs.{opening}
use Rattle.protocol.specs.OnRing as ring
use Rattle.protocol.specs.OnPost as post
use Rattle.protocol_laws.proofs.first.Lists.{all_drop, all_get, all_set, all_take, all_join}

-- the text has so many
abbrev pub IsThere : Text → ℕ → Type 0
IsThere w n = n < length w.txs

abbrev pub AreThere : Text → List (List ℕ) → Type 0
AreThere w queues = AllByRecursion (λ q. AllByRecursion (IsThere w) q) queues

pub record Queued {C : Type 0} (w : Fixed C) (s : Machine C) : Type 0 where
  pub pacts : AreThere w.text s.ring.pacts
  pub acts : AreThere w.text s.ring.acts

in_queue : (w : Text) (queues : List (List ℕ)) (c : ℕ) → AreThere w queues → AllByRecursion (IsThere w) (queue queues c)
in_queue w queues c h = all_get (λ q. AllByRecursion (IsThere w) q) queues c [] tt h

joined : (w : Text) (queues : List (List ℕ)) (c n : ℕ) → IsThere w n → AreThere w queues → AreThere w (ring.joined_at c n queues)
joined w queues c n l h = all_set (λ q. AllByRecursion (IsThere w) q) queues c _ (all_join (IsThere w) (queue queues c) (n ∷ []) (in_queue w queues c h) (l, tt)) h

left : (w : Text) (queues : List (List ℕ)) (c few : ℕ) → AreThere w queues → AreThere w (ring.left_at c few queues)
left w queues c few h = all_set (λ q. AllByRecursion (IsThere w) q) queues c _ (all_drop (IsThere w) few (queue queues c) (in_queue w queues c h)) h

joined_if : (b : Bool) (w : Text) (queues : List (List ℕ)) (c n : ℕ) → IsThere w n → AreThere w queues → AreThere w (if b then ring.joined_at c n queues else queues)
joined_if true w queues c n l h = joined w queues c n l h
joined_if false w queues c n l h = h

joined_unless : (b : Bool) (w : Text) (queues : List (List ℕ)) (c n : ℕ) → IsThere w n → AreThere w queues → AreThere w (if b then queues else ring.joined_at c n queues)
joined_unless true w queues c n l h = h
joined_unless false w queues c n l h = joined w queues c n l h

pub queued_kept : {C : Type 0} (w : Fixed C) (e : Event) (s : Machine C) → IsAllowed w e s → Queued w s → Queued w (after w e s)
unfolding after conditions
queued_kept w (Submit n) s ok h =
    let l = ltb-true n (length w.text.txs) (and_parts (n == s.ring.next_tx) (nat_lt n (length w.text.txs)) ok.0).1 in
    record { pacts = joined_if (is_pact (tx_at w.text n)) w.text s.ring.pacts _ n l h.pacts; acts = joined_unless (is_pact (tx_at w.text n)) w.text s.ring.acts _ n l h.acts }
queued_kept w (Form k) s ok h = record { pacts = left w.text s.ring.pacts s.ring.holder w.text.batch h.pacts; acts = h.acts }
queued_kept w (Admit t) s ok h = record { pacts = h.pacts; acts = left w.text s.ring.acts s.ring.holder 1 h.acts }
queued_kept w e s ok h = record { pacts = h.pacts; acts = h.acts }

empty_queues : (w : Text) (n : ℕ) → AreThere w (replicate n [])
empty_queues w zero = tt
empty_queues w (suc n) = (tt, empty_queues w n)

pub queued_opened : {C : Type 0} (w : Fixed C) → Queued w (opening w)
queued_opened w = record { pacts = empty_queues w.text w.text.coordinators; acts = empty_queues w.text w.text.coordinators }

-- ---- what gets a tid

pub is_in : (w : Text) (n : ℕ) → IsThere w n → IsTxIn w (tx_at w n)
is_in w n l = record { number = n; there = l; is_it = refl }

numbered : (w : Text) (t : ℕ) (ns : List ℕ) → AllByRecursion (IsThere w) ns → AllByRecursion (λ (p : Pact). IsThere w p.tx) (ring.numbered t ns)
numbered w t [] h = tt
numbered w t (n ∷ ns) h = (h.0, numbered w (t + 1) ns h.1)

-- the PACTs that are formed next
pub next_there : {C : Type 0} (w : Fixed C) (s : Machine C) → Queued w s → AllByRecursion (λ (p : Pact). IsThere w.text p.tx) (ring.next_pacts w.text s.ring)
next_there w s h = numbered w.text s.ring.next_tid _ (all_take (IsThere w.text) w.text.batch (queue s.ring.pacts s.ring.holder) (in_queue w.text s.ring.pacts s.ring.holder h.pacts))

-- the ACT that is admitted next
pub act_there : {C : Type 0} (w : Fixed C) (t : ℕ) (s : Machine C) → IsAllowed w (Admit t) s → Queued w s → IsThere w.text (post.next_act s.ring)
unfolding conditions
act_there w t s ok h = by (queue s.ring.acts s.ring.holder) ok.1.0 (in_queue w.text s.ring.acts s.ring.holder h.acts)
  where
    by : (q : List ℕ) → not (is_empty q) ≡ true → AllByRecursion (IsThere w.text) q → IsThere w.text (slice_index_or q 0 0)
    by [] e k = absurd (true≢false (sym e))
    by (n ∷ q) e k = k.0
