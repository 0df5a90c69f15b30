-- What each event makes of the ring and leaves of it, and how far its numbers go.
use Rattle.std.specs.Prelude.{◌≡◌, refl, ℕ, zero, suc, ◌+◌, ◌*◌, ◌<◌, ◌≤◌, ◌==◌, not, Bool, true, false, if◌then◌else◌, Some, None, List, [], ◌∷◌, ◌++◌, length, take, drop, replicate, slice_index_or}
use Rattle.std.proofs.Common.{arith, ap, subst, ◌∙◌}
use Rattle.std.proofs.lemmas.Bool.{and_from, eq-eqb, lt-ltb}
use Rattle.std.proofs.lemmas.List.{length-map, length-replicate, length-set, length-take-le}
use Rattle.snap_base.specs.declared.ids.Tid.{Tid}
use Rattle.snap_base.specs.declared.ids.TxNo.{TxNo}
use Rattle.snap_base.specs.declared.transactions.Tx.{Tx}
use Rattle.core_events.specs.declared.events.Event as code
use Rattle.core_events.specs.Meant.{event_meant}
use Rattle.protocol.specs.Words.{is_empty}
use Rattle.token_ring.specs.Asked.{act_admitted_next, first_with}
use Rattle.protocol.specs.Conditions.{AllTrue, is_idle, is_idle_at, is_in_text, lacks_acts, lacks_pacts, next_holder, queue}
use Rattle.protocol.specs.Events.{Event, Submit, Pass, Form, Admit, Abort}
use Rattle.protocol.specs.Fixed.{Text, is_pact, tx_at, no_state}
use Rattle.protocol.specs.OnRing.{submitted, passed, planned, formed, admitted, numbered, next_pacts}
use Rattle.protocol.specs.Parts.{Ring}
use Rattle.audit_words.specs.Audited.{ring_conditions, EachMeets, IsFirstNotMet, ring_behind}
use Rattle.audit_words.specs.Happenings.{ring_after}
use Rattle.audit_words.specs.Seen.{first_ring}
use Rattle.audit_tale.specs.Settings.{IsSetting, meant}
use Rattle.audit_words.proofs.Taken.{map_cut}

-- ---- the first clause, event by event

pub submit_met : (w : Text) (n : ℕ) (r s : Ring) → n ≡ r.next_tx → n < length w.txs → s ≡ submitted w n r → AllTrue (ring_conditions w (Submit n) r) × (s ≡ ring_after w (Submit n) r)
unfolding ring_after
submit_met w n r s e l q = ((and_from (n == r.next_tx) (is_in_text n w) (eq-eqb n r.next_tx e) (lt-ltb n (length w.txs) l), tt), q)

pub pass_met : (w : Text) (c : ℕ) (r s : Ring) → c ≡ next_holder w r → is_idle_at r.holder r ≡ true → not (is_idle r) ≡ true → s ≡ passed c r → AllTrue (ring_conditions w (Pass c) r) × (s ≡ ring_after w (Pass c) r)
unfolding ring_after
pass_met w c r s e i k q = ((eq-eqb c (next_holder w r) e, (i, (k, tt))), q)

pub form_met : (w : Text) (k : ℕ) (r s : Ring) → k ≡ r.next_bid → not (lacks_pacts r) ≡ true → s ≡ formed (planned w k r) w.batch r → AllTrue (ring_conditions w (Form k) r) × (s ≡ ring_after w (Form k) r)
unfolding ring_after
form_met w k r s e h q = ((eq-eqb k r.next_bid e, (h, tt)), q)

pub admit_met : (w : Text) (t : ℕ) (r s : Ring) → t ≡ r.next_tid → not (lacks_acts r) ≡ true → s ≡ admitted r → AllTrue (ring_conditions w (Admit t) r) × (s ≡ ring_after w (Admit t) r)
unfolding ring_after
admit_met w t r s e h q = ((eq-eqb t r.next_tid e, (h, tt)), q)

-- ---- one more event

pub meets_more : (w : Text) (es : List Event) (e : Event) (r : Ring) → EachMeets w es r → AllTrue (ring_conditions w e (ring_behind w es r)) → EachMeets w (es ++ e ∷ []) r
meets_more w [] e r h k = (k, tt)
meets_more w (d ∷ es) e r h k = (h.0, meets_more w es e (ring_after w d r) h.1 k)

-- ---- how far numbers go

pub record Small (n : ℕ) (r s : Ring) : Type 0 where
  pub tids : s.next_tid ≤ r.next_tid + 65536 * n
  pub bids : s.next_bid ≤ r.next_bid + n
  pub epochs : s.epoch ≤ r.epoch + n
  pub queues : length s.pacts ≡ length r.pacts

few_numbered : (t : ℕ) (ns : List ℕ) → length (numbered t ns) ≡ length ns
few_numbered t [] = refl
few_numbered t (n ∷ ns) = omega (arith, few_numbered (t + 1) ns)

few_taken : (n : ℕ) (ns : List ℕ) → length (take n ns) ≤ n
few_taken zero ns = omega arith
few_taken (suc n) [] = omega arith
few_taken (suc n) (x ∷ ns) = omega (arith, few_taken n ns)

pub few_pacts : (w : Text) (r : Ring) → length (next_pacts w r) ≤ w.batch
few_pacts w r = omega (arith, few_numbered r.next_tid (take w.batch (queue r.pacts r.holder)), few_taken w.batch (queue r.pacts r.holder))

either_long : {X : Type 0} (b : Bool) (xs ys zs : List X) → length xs ≡ length zs → length ys ≡ length zs → length (if b then xs else ys) ≡ length zs
either_long true xs ys zs h k = h
either_long false xs ys zs h k = k

one_step : (w : Text) → w.batch < 65536 → (e : Event) (r : Ring) → Small 1 r (ring_after w e r)
unfolding ring_after
one_step w l (Submit n) r = record { tids = omega arith; bids = omega arith; epochs = omega arith; queues = either_long (is_pact (tx_at w n)) _ r.pacts r.pacts (length-set r.pacts _ _) refl }
one_step w l (Pass c) r = record { tids = omega arith; bids = omega arith; epochs = omega arith; queues = refl }
one_step w l (Form k) r = record { tids = omega (arith, few_pacts w r, l); bids = omega arith; epochs = omega arith; queues = length-set r.pacts _ _ }
one_step w l (Admit t) r = record { tids = omega arith; bids = omega arith; epochs = omega arith; queues = refl }
one_step w l (Abort k) r = record { tids = omega arith; bids = omega arith; epochs = omega arith; queues = refl }
one_step w l e r = record { tids = omega arith; bids = omega arith; epochs = omega arith; queues = refl }

all_steps : (w : Text) → w.batch < 65536 → (es : List Event) (r : Ring) → Small (length es) r (ring_behind w es r)
all_steps w l [] r = record { tids = omega arith; bids = omega arith; epochs = omega arith; queues = refl }
all_steps w l (e ∷ es) r =
    let h = one_step w l e r in
    let k = all_steps w l es (ring_after w e r) in
    record { tids = omega (arith, h.tids, k.tids); bids = omega (arith, h.bids, k.bids); epochs = omega (arith, h.epochs, k.epochs); queues = k.queues ∙ h.queues }

-- ---- a text with these settings

abbrev pub some_text : ℕ → ℕ → ℕ → List Tx → Text
some_text coordinators batch actors txs = record {
  coordinators = coordinators;
  logs = 1;
  batch = batch;
  batches = 1;
  acts = 1;
  txs = txs;
  opening = record { states = replicate actors no_state; next_tid = 1; next_bid = 1; next_c = 1 };
}

pub has_setting : (coordinators batch actors : ℕ) (txs : List Tx) → IsSetting coordinators batch actors txs (some_text coordinators batch actors txs)
has_setting coordinators batch actors txs = record { opening = record { coordinators_are = refl; actors_are = length-replicate actors no_state; tid = refl; bid = refl; number = refl }; batch_is = refl; txs_are = refl }

-- so a ring that this text's events lead to has small numbers
pub numbers_are_small : (coordinators batch actors n : ℕ) (txs : List Tx) (es : List Event) (r : Ring) → batch < 65536 → length es ≤ n
    → r ≡ ring_behind (some_text coordinators batch actors txs) es (first_ring (some_text coordinators batch actors txs))
    → (r.next_tid ≤ 1 + 65536 * n) × (r.next_bid ≤ 1 + n) × (r.epoch ≤ n) × (length r.pacts ≡ coordinators)
numbers_are_small coordinators batch actors n txs es r l few e =
    let k = all_steps (some_text coordinators batch actors txs) l es (first_ring (some_text coordinators batch actors txs)) in (
      omega (arith, ap (λ (x : Ring). x.next_tid) e, k.tids, few),
      omega (arith, ap (λ (x : Ring). x.next_bid) e, k.bids, few),
      omega (arith, ap (λ (x : Ring). x.epoch) e, k.epochs, few),
      ap (λ (x : Ring). length x.pacts) e ∙ (k.queues ∙ length-replicate coordinators []),
    )

-- ---- small words of answers

pub not_empty : (b : Bool) → (b ≡ true → ⊥) → not b ≡ true
not_empty true h = absurd (h refl)
not_empty false h = refl

first_there : (t : ℕ) (ns : List ℕ) (x : Tid × TxNo) → first_with t ns ≡ Some x → not (is_empty ns) ≡ true
first_there t [] x e = absurd (none x e)
  where
    none : (x : Tid × TxNo) → None ≡ Some x → ⊥
    none x e = cc
first_there t (n ∷ ns) x e = refl

pub act_waits : (r : Ring) (x : Tid × TxNo) → act_admitted_next r ≡ Some x → not (lacks_acts r) ≡ true
act_waits r x e = first_there r.next_tid (queue r.acts r.holder) x e

-- ---- the first event that does not meet it

pub refused_at : (w : Text) (es : List code.Event) (i : ℕ) (d : code.Event) (r : Ring) → i < length es → EachMeets w (meant (take i es)) (first_ring w) → r ≡ ring_behind w (meant (take i es)) (first_ring w)
    → (¬ AllTrue (ring_conditions w (event_meant (slice_index_or es i d)) r)) → IsFirstNotMet w (meant es) i
refused_at w es i d r l h e k = record {
  front = meant (take i es);
  event = event_meant (slice_index_or es i d);
  rest = meant (drop (i + 1) es);
  splits = map_cut event_meant es i d l;
  number = omega (arith, length-map (take i es) event_meant, length-take-le i es (omega arith));
  before = h;
  off = subst (λ (z : Ring). ¬ AllTrue (ring_conditions w (event_meant (slice_index_or es i d)) z)) e k;
}
