-- A PACT's control lies at an actor that it declares, and the sub-batch there names it.
use Rattle.std.specs.Prelude.{◌≡◌, refl, ℕ, zero, suc, ◌+◌, ◌<◌, ◌≤◌, ◌==◌, Bool, true, false, ◌||◌, ◌&&◌, ◌⊎◌, if◌then◌else◌, Option, Some, None, is_some, List, [], ◌∷◌, ◌++◌, length, map, filter, take}
use Rattle.std.specs.List.{AllByRecursion, list_any}
use Rattle.std.proofs.Common.{arith, sym, ap, subst, inl, inr, ◌∙◌}
use Rattle.std.proofs.lemmas.Bool.{true≢false, eqb-true, eq-eqb, ne_eqb, or_cases, or_left, or_right, and_parts, cases_lt}
use Rattle.snap_base.specs.declared.transactions.State.{State}
use Rattle.snap_base.specs.declared.transactions.Tx.{Tx}
use Rattle.protocol.specs.Rivals.{Lock}
use Rattle.protocol.specs.Facts.{Alone, Facts}
use Rattle.protocol.specs.Fixed.{Fixed, Next, Go, Ended, base, tx_at, root, is_pact, declared}
use Rattle.protocol.specs.Parts.{Batch, Pact, SubBatch, Slot, Who, OfBatch, OfAct, Waiting, Entry, BatchEntry, ActEntry, Cell, Machine}
use Rattle.protocol.specs.Events.{Event, Form, Admit, Arrive, Ask, Take, Run, Send, End, Close, Complete, Rollback, DropSub, Finish, Trim}
use Rattle.protocol.specs.Words.{holds, is_among, below, names_pact, names_slot, batch_of, declared_of, sub_of, control_of, waiting_of, lock_of}
use Rattle.protocol.specs.Conditions.{IsAllowed, conditions, queue}
use Rattle.protocol.specs.Effects.{after, cell_at, no_cell}
use Rattle.protocol.specs.Runs.{opening, IsRun, reached}
use Rattle.protocol.specs.OnRing as ring
use Rattle.protocol.specs.OnPost as post
use Rattle.protocol.specs.OnBook as book
use Rattle.protocol.specs.OnDesk as desk
use Rattle.protocol.specs.OnCell as cell
use Rattle.protocol.specs.History.{History, Trail, Step, no_history, history, grown, with_at, begun, owned_by, gone_on}
use Rattle.protocol_laws.specs.Told.{PactsAscend}
use Rattle.protocol_laws.specs.FromDesk.{is_declared, is_pact_of, MessageOf, EntryOf, FromDesk}
use Rattle.protocol_theorems.specs.Quiet.{ControlIsAt}
use Rattle.protocol_laws.proofs.first.Controls as controls
use Rattle.protocol_laws.proofs.machine.ControlWalk
use Rattle.protocol_laws.proofs.machine.ControlWalk.{AllControls, Ready, nowhere}
use Rattle.protocol_laws.proofs.first.EpochsKept as epochs
use Rattle.protocol_laws.proofs.machine.FromDeskKept as desks
use Rattle.protocol_laws.proofs.machine.FromDeskKept.{one_cell, all_staying}
use Rattle.protocol_laws.proofs.machine.TracksKept.{held}
use Rattle.protocol_laws.proofs.machine.TurnsKept.{one_is}
use Rattle.protocol_laws.proofs.machine.TrailsKept as trails
use Rattle.protocol_laws.proofs.machine.TrailsKept.{Told, begun_below, new_tids, at_most_one}
use Rattle.protocol_laws.proofs.machine.Resting.{EachPact}
use Rattle.protocol_laws.proofs.machine.QueuedKept.{OfPacts, IsOfPact}
use Rattle.protocol_theorems.proofs.order.NamesKept as names
use Rattle.protocol_laws.proofs.machine.Good.{Given, no_entries}
use Rattle.protocol_laws.proofs.machine.AllGood as all
use Rattle.protocol_laws.proofs.machine.AllGood.{AllGood}
use Rattle.protocol_theorems.proofs.quiet.InLine.{among_filter, among_front, among_last}
use Rattle.protocol_theorems.proofs.quiet.QuietOwed as owed
use Rattle.protocol_theorems.proofs.quiet.QuietOwed.{Held, PactsAtHome}
use Rattle.protocol_laws.proofs.first.Lists.{all_filter, all_found, all_join, all_map, both_all}
use Rattle.protocol.specs.Rests.{IsTxIn}
use Rattle.protocol_laws.proofs.machine.QueuedText.{IsThere, Queued, is_in, next_there, act_there}
use Rattle.protocol_laws.proofs.first.OneWay.{bid_went}

-- ---- what a PACT's control rests on, it declares

abbrev pub DeclaredBy : {C : Type 0} → Fixed C → ℕ → Next C → Type 0
DeclaredBy w x (Go b c) = is_pact (tx_at w.text x) ≡ true → (i : ℕ) → w.code.rests_on c i ≡ true → is_among i (declared (tx_at w.text x)) ≡ true
DeclaredBy w x (Ended r) = Unit {0}

abbrev pub Declares : {C : Type 0} → Fixed C → History → ℕ → Next C → Type 0
Declares w h t n = DeclaredBy w (h.trails t).tx n

other_tx : (t u : ℕ) (r : Trail) (tr : ℕ → Trail) → (u ≡ t → ⊥) → (tr u).tx ≡ (with_at t r tr u).tx
other_tx t u r tr n = rw (ne_eqb u t n) refl

tx_first : (p : Pact) (ps : List Pact) (f : ℕ → Trail) → (begun (p ∷ ps) f p.tid).tx ≡ p.tx
tx_first p ps f = rw (eq-eqb p.tid p.tid refl) refl

first_ones : {C : Type 0} (w : Fixed C) (Of : Tx → C → Type 0) (finish : C → List State → Alone) (low : ℕ) (ps : List Pact) (f g : ℕ → Trail) → Facts (length w.text.opening.states) w.code (IsTxIn w.text) Of finish → AllByRecursion (λ p. IsThere w.text p.tx) ps → PactsAscend low ps → ((u : ℕ) → low ≤ u → g u ≡ begun ps f u)
    → AllByRecursion (λ q. DeclaredBy w (g q.tid).tx (Go (root (tx_at w.text q.tx)) (w.code.start q.tid (tx_at w.text q.tx)))) ps
first_ones w Of finish low [] f g fa there a e = tt
first_ones w Of finish low (p ∷ ps) f g fa there a e = (
  let i : (g p.tid).tx ≡ p.tx = ap (λ r. r.tx) (e p.tid a.0) ∙ tx_first p ps f in subst (λ z. DeclaredBy w z (Go (root (tx_at w.text p.tx)) (w.code.start p.tid (tx_at w.text p.tx)))) (sym i) (λ q k r. fa.rests_on_declared p.tid (tx_at w.text p.tx) k (is_in w.text p.tx there.0) q r),
  first_ones w Of finish (p.tid + 1) ps f g fa there.1 a.1 (λ u l. e u (omega (arith, l, a.0)) ∙ rw (ne_eqb u p.tid (λ q. omega (arith, q, l))) refl),
)

declares_kept : {C : Type 0} (w : Fixed C) (Of : Tx → C → Type 0) (finish : C → List State → Alone) (e : Event) (s : Machine C) (h : History) → Facts (length w.text.opening.states) w.code (IsTxIn w.text) Of finish → IsAllowed w e s → Queued w s → controls.HeldIn s
    → AllControls (Told w Of finish h) s → AllControls (Declares w h) s → AllControls (Declares w (grown w e s h)) (after w e s)
unfolding conditions grown Ready
declares_kept w Of finish (Form k) s h f ok queued one told g =
    let asc = new_tids s.ring.next_tid s.ring.next_tid (take w.text.batch (queue s.ring.pacts s.ring.holder)) (omega arith) in
    ControlWalk.moves w (Form k) s (Declares w (grown w (Form k) s h)) ok
    (first_ones w Of finish s.ring.next_tid (ring.next_pacts w.text s.ring) h.trails (begun (ring.next_pacts w.text s.ring) h.trails) f (next_there w s queued) asc (λ u q. refl))
    (ControlWalk.both (Declares w h) (λ u n. u < s.ring.next_tid) (Declares w (grown w (Form k) s h)) s (λ t n p q. subst (λ (z : Trail). DeclaredBy w z.tx n) (sym (begun_below (ring.next_pacts w.text s.ring) s.ring.next_tid t h.trails asc q)) p) g (trails.drawn s one))
declares_kept w Of finish (Admit t) s h f ok queued one told g =
    let i : t ≡ s.ring.next_tid = eqb-true t s.ring.next_tid ok.0 in
    let x = post.next_act s.ring in
    let own : ((grown w (Admit t) s h).trails t).tx ≡ x = rw (eq-eqb t t refl) refl in
    ControlWalk.moves w (Admit t) s (Declares w (grown w (Admit t) s h)) ok
    (subst (λ z. DeclaredBy w z (Go (root (tx_at w.text x)) (w.code.start t (tx_at w.text x)))) (sym own) (λ q k r. f.rests_on_declared t (tx_at w.text x) k (is_in w.text x (act_there w t s ok queued)) q r))
    (ControlWalk.both (Declares w h) (λ u n. u < s.ring.next_tid) (Declares w (grown w (Admit t) s h)) s (λ u n p q. subst (λ z. DeclaredBy w z n) (other_tx t u (record { tx = x; steps = [] }) h.trails (λ v. omega (arith, v, i, q))) p) g (trails.drawn s one))
declares_kept {C} w Of finish (Run t a) s h f ok queued one told g = by (waiting_of t (cell_at s a).inbox) refl (held (λ c. is_some (waiting_of t c.inbox)) s.cells a no_cell ok.0)
  where
    by : (o : Option (Waiting C)) → waiting_of t (cell_at s a).inbox ≡ o → is_some o ≡ true → AllControls (Declares w (grown w (Run t a) s h)) (after w (Run t a) s)
    by None e q = absurd (true≢false (sym q))
    by (Some x) e q =
        let own = all_found (λ x. Declares w h x.tid (Go a x.control)) (λ x. x.tid == t) (cell_at s a).inbox x (g.inboxes a) e in
        let of_it = all_found (λ x. Told w Of finish h x.tid (Go a x.control)) (λ x. x.tid == t) (cell_at s a).inbox x (told.inboxes a) e in
        let i : x.tid ≡ t = eqb-true x.tid t own.1 in
        let same : ((grown w (Run t a) s h).trails t).tx ≡ (h.trails t).tx = rw (eq-eqb t t refl) refl in
        ControlWalk.run_moves w t a s x (Declares w h) (Declares w (grown w (Run t a) s h)) (at_most_one t s one) e
        (λ u m v p. subst (λ z. DeclaredBy w z m) (other_tx t u (gone_on (record { actor = a; found = (cell_at s a).state; left = (cell.slice_run w.code t a (cell_at s a)).state }) (h.trails t)) h.trails v) p)
        (subst (λ z. DeclaredBy w z (w.code.slice x.control (cell_at s a).state).next) (sym same) (next (w.code.slice x.control (cell_at s a).state).next refl (subst (λ z. DeclaredBy w (h.trails z).tx (Go a x.control)) i own.0) (subst (λ z. Of (tx_at w.text (h.trails z).tx) x.control) i of_it.0.of_it.0)))
        g
      where
        next : (m : Next C) → (w.code.slice x.control (cell_at s a).state).next ≡ m → DeclaredBy w (h.trails t).tx (Go a x.control) → Of (tx_at w.text (h.trails t).tx) x.control → DeclaredBy w (h.trails t).tx m
        next (Ended r) v d o = tt
        next (Go b c) v d o = λ p k r. d p k (f.rests_no_further (tx_at w.text (h.trails t).tx) x.control c k b p (record { from = (cell_at s a).state; of_it = o; goes = v }) r)
declares_kept w Of finish e s h f ok queued one told g = ControlWalk.moves w e s (Declares w h) ok tt g

-- ---- the new ones of a batch

formed_new : (k t : ℕ) (ns : List ℕ) (f : ℕ → Who) (g : ℕ → Trail) (u x : ℕ) → t ≤ u → u < t + length ns → (begun (ring.numbered t ns) g u).tx ≡ x → (owned_by k (ring.numbered t ns) f u ≡ OfBatch k) × (list_any (λ p. (p.tid == u) && (p.tx == x)) (ring.numbered t ns) ≡ true)
formed_new k t [] f g u x l m i = absurd (omega (arith, l, m))
formed_new k t (n ∷ ns) f g u x l m i = by (u == t) refl i (λ a b. formed_new k (t + 1) ns f g u x a (omega (arith, m)) b)
  where
    both : {a b : Bool} → a ≡ true → b ≡ true → (a && b) ≡ true
    both e f = rw (e, f) refl

    more : (t < u) ⊎ (u ≤ t) → (u == t) ≡ false → t + 1 ≤ u
    more (inl q) e = omega (arith, q)
    more (inr q) e = absurd (Rattle.std.proofs.lemmas.Bool.eqb-false u t e (omega (arith, q, l)))

    by : (v : Bool) → (u == t) ≡ v → (if v then record { tx = n; steps = [] } else begun (ring.numbered (t + 1) ns) g u).tx ≡ x
        → (t + 1 ≤ u → (begun (ring.numbered (t + 1) ns) g u).tx ≡ x → (owned_by k (ring.numbered (t + 1) ns) f u ≡ OfBatch k) × (list_any (λ p. (p.tid == u) && (p.tx == x)) (ring.numbered (t + 1) ns) ≡ true))
        → ((if v then OfBatch k else owned_by k (ring.numbered (t + 1) ns) f u) ≡ OfBatch k) × ((((t == u) && (n == x)) || list_any (λ p. (p.tid == u) && (p.tx == x)) (ring.numbered (t + 1) ns)) ≡ true)
    by true e i r = (refl, or_left ((t == u) && (n == x)) _ (both (eq-eqb t u (sym (eqb-true u t e))) (eq-eqb n x i)))
    by false e i r = let q = r (more (cases_lt t u) e) i in (q.0, or_right ((t == u) && (n == x)) _ q.1)

any_declares : {C : Type 0} (w : Fixed C) (a u x : ℕ) (ps : List Pact) → list_any (λ p. (p.tid == u) && (p.tx == x)) ps ≡ true → is_among a (declared (tx_at w.text x)) ≡ true → (list_any (ring.declares w.text a) ps ≡ true) × (is_among u (map (λ p. p.tid) (filter (ring.declares w.text a) ps)) ≡ true)
any_declares w a u x [] h d = absurd (true≢false (sym h))
any_declares w a u x (p ∷ ps) h d = elim (or_cases ((p.tid == u) && (p.tx == x)) (list_any (λ p. (p.tid == u) && (p.tx == x)) ps) h) [
  | inl q ↦
      let v = and_parts (p.tid == u) (p.tx == x) q in
      let own : ring.declares w.text a p ≡ true = subst (λ z. is_among a (declared (tx_at w.text z)) ≡ true) (sym (eqb-true p.tx x v.1)) d in
      (or_left (ring.declares w.text a p) _ own, first (ring.declares w.text a p) own v.0)
  | inr q ↦ let r = any_declares w a u x ps q d in (or_right (ring.declares w.text a p) _ r.0, rest (ring.declares w.text a p) r.1)
]
  where
    first : (v : Bool) → v ≡ true → (p.tid == u) ≡ true → is_among u (map (λ p. p.tid) (if v then p ∷ filter (ring.declares w.text a) ps else filter (ring.declares w.text a) ps)) ≡ true
    first true e q = or_left (p.tid == u) _ q
    first false e q = absurd (true≢false (sym e))

    rest : (v : Bool) → is_among u (map (λ p. p.tid) (filter (ring.declares w.text a) ps)) ≡ true → is_among u (map (λ p. p.tid) (if v then p ∷ filter (ring.declares w.text a) ps else filter (ring.declares w.text a) ps)) ≡ true
    rest true q = or_right (p.tid == u) _ q
    rest false q = q

among_below : (a n : ℕ) → a < n → is_among a (below n) ≡ true
among_below a zero l = absurd (omega (arith, l))
among_below a (suc n) l = elim (cases_lt a n) [ inl m ↦ among_front a (below n) (n ∷ []) (among_below a n m) | inr m ↦ let i : a ≡ n = omega (arith, l, m) in subst (λ z. is_among z (below n ++ n ∷ []) ≡ true) (sym i) (among_last n (below n)) ]

-- ---- whose tids, and of which transactions

pub Asks : {C : Type 0} → Fixed C → (ℕ → Trail) → ℕ → ℕ → Type 0
Asks w tr t a = is_among a (declared (tx_at w.text (tr t).tx)) ≡ true

-- an event leaves what was drawn, or it is of the batch that is formed
record Case {C : Type 0} (w : Fixed C) (e : Event) (s : Machine C) (h : History) (t k : ℕ) : Type 0 where
  low : t < s.ring.next_tid
  owner : h.owners t ≡ OfBatch k
  tx : ((grown w e s h).trails t).tx ≡ (h.trails t).tx

IsFirst : {C : Type 0} → Fixed C → Event → Machine C → History → ℕ → ℕ → Type 0
IsFirst w (Form j) s h t k = (j ≡ k) × (k ≡ s.ring.next_bid) × (list_any (λ p. (p.tid == t) && (p.tx == ((grown w (Form j) s h).trails t).tx)) (ring.next_pacts w.text s.ring) ≡ true)
IsFirst w _ s h t k = ⊥

run_tx : (t u : ℕ) (x : Step) (tr : ℕ → Trail) → (with_at t (gone_on x (tr t)) tr u).tx ≡ (tr u).tx
run_tx t u x tr = by (u == t) refl
  where
    by : (v : Bool) → (u == t) ≡ v → (if v then gone_on x (tr t) else tr u).tx ≡ (tr u).tx
    by true e = ap (λ z. (tr z).tx) (sym (eqb-true u t e))
    by false e = refl

was : {C : Type 0} (w : Fixed C) (e : Event) (s : Machine C) (h : History) (t k : ℕ) → IsAllowed w e s → t < (after w e s).ring.next_tid → (grown w e s h).owners t ≡ OfBatch k → Case w e s h t k ⊎ IsFirst w e s h t k
unfolding conditions after grown IsFirst
was w (Form j) s h t k ok l o =
    let ns = take w.text.batch (queue s.ring.pacts s.ring.holder) in
    let asc = new_tids s.ring.next_tid s.ring.next_tid ns (omega arith) in
    elim (cases_lt t s.ring.next_tid) [
      | inl m ↦ inl (record { low = m; owner = sym (names.owned_below j (ring.next_pacts w.text s.ring) s.ring.next_tid t h.owners asc m) ∙ o; tx = ap (λ r. r.tx) (begun_below (ring.next_pacts w.text s.ring) s.ring.next_tid t h.trails asc m) })
      | inr m ↦
          let r = formed_new j s.ring.next_tid ns h.owners h.trails t (begun (ring.next_pacts w.text s.ring) h.trails t).tx m (omega (arith, l, names.numbered_length s.ring.next_tid ns)) refl in
          let i : j ≡ k = one (sym r.0 ∙ o) in
          inr (i, sym i ∙ eqb-true j s.ring.next_bid ok.0, r.1)
    ]
  where
    one : {x y : ℕ} → OfBatch x ≡ OfBatch y → x ≡ y
    one e = cc e
was w (Admit u) s h t k ok l o = by (t == u) refl o
  where
    by : (v : Bool) → (t == u) ≡ v → (if v then OfAct u else h.owners t) ≡ OfBatch k → Case w (Admit u) s h t k ⊎ ⊥
    by true e o = absurd (cc o)
    by false e o = inl (record { low = omega (arith, l, Rattle.std.proofs.lemmas.Bool.eqb-false t u e, eqb-true u s.ring.next_tid ok.0); owner = o; tx = rw e refl })
was w (Run u a) s h t k ok l o = inl (record { low = l; owner = o; tx = run_tx u t _ h.trails })
was w e s h t k ok l o = inl (record { low = l; owner = o; tx = refl })

-- ---- what a PACT declares, its batch has

unfoldable pub Covered : {C : Type 0} → Fixed C → Machine C → History → Type 0
Covered w s h = (t k : ℕ) → t < s.ring.next_tid → h.owners t ≡ OfBatch k → (k < s.ring.next_bid) × ((a : ℕ) → a < length w.text.opening.states → Asks w h.trails t a → is_declared k a s.desk.batches ≡ true)

first_covered : {C : Type 0} (w : Fixed C) (e : Event) (s : Machine C) (h : History) (t k : ℕ) → length s.ring.lasts ≡ length w.text.opening.states → AllByRecursion (λ b. b < s.ring.next_bid) (map (λ b. b.bid) s.desk.batches) → IsFirst w e s h t k
    → (k < (after w e s).ring.next_bid) × ((a : ℕ) → a < length w.text.opening.states → Asks w (grown w e s h).trails t a → is_declared k a (after w e s).desk.batches ≡ true)
unfolding IsFirst after Asks
first_covered w (Form j) s h t k n b i = (
  omega (arith, i.1),
  λ a l d.
      let own = any_declares w a t ((grown w (Form j) s h).trails t).tx (ring.next_pacts w.text s.ring) i.2 d in
      let there : is_among a (ring.next_actors w.text s.ring) ≡ true = among_filter (λ a. list_any (ring.declares w.text a) (ring.next_pacts w.text s.ring)) a (below (length s.ring.lasts)) own.0 (among_below a (length s.ring.lasts) (omega (arith, l, n))) in
      desks.found_new (λ b. is_some (declared_of a b)) k (desk.new_batch j (ring.next_actors w.text s.ring) (ring.next_pacts w.text s.ring)) s.desk.batches (subst (λ z. AllByRecursion (λ b. b < z) (map (λ b. b.bid) s.desk.batches)) (sym i.1) b) i.0 (desks.declared_new a (ring.next_actors w.text s.ring) there),
)
first_covered w e s h t k n b i = absurd i

covered_kept : {C : Type 0} (w : Fixed C) (e : Event) (s : Machine C) (h : History) → IsAllowed w e s → length s.ring.lasts ≡ length w.text.opening.states → epochs.Agreeing s → Covered w s h → Covered w (after w e s) (grown w e s h)
unfolding Covered Asks
covered_kept w e s h ok n ag g t k l o = elim (was w e s h t k ok l o) [
  | inl c ↦ let r = g t k c.low c.owner in (omega (arith, r.0, bid_went w e s), λ a m d. desks.desk_stays w e s _ (desks.declared_fixed a) k (r.1 a m (subst (λ z. is_among a (declared (tx_at w.text z)) ≡ true) c.tx d)))
  | inr i ↦ first_covered w e s h t k n (epochs.bids_below s ag) i
]

-- ---- a sub-batch names all PACTs of its batch that declare its actor

pub FullSub : {C : Type 0} → Fixed C → ℕ → (ℕ → Who) → (ℕ → Trail) → SubBatch → Type 0
FullSub w next owners tr m = (t : ℕ) → t < next → owners t ≡ OfBatch m.bid → Asks w tr t m.actor → is_among t m.tids ≡ true

pub FullEntry : {C : Type 0} → Fixed C → ℕ → (ℕ → Who) → (ℕ → Trail) → ℕ → Entry → Type 0
FullEntry w next owners tr a (BatchEntry b) = (t : ℕ) → t < next → owners t ≡ OfBatch b.bid → Asks w tr t a → names_slot t b ≡ true
FullEntry w next owners tr a (ActEntry x) = Unit {0}

abbrev pub Here : {C : Type 0} → Fixed C → Machine C → History → ℕ → Entry → Type 0
Here w s h a e = FullEntry w s.ring.next_tid h.owners h.trails a e

pub record SubsName {C : Type 0} (w : Fixed C) (s : Machine C) (h : History) : Type 0 where
  pub subs : AllByRecursion (FullSub w s.ring.next_tid h.owners h.trails) s.post.subs
  pub entries : (a : ℕ) → AllByRecursion (Here w s h a) (cell_at s a).entries

desk_low : (n k a : ℕ) (bs : List Batch) → is_declared k a bs ≡ true → AllByRecursion (λ b. b < n) (map (λ b. b.bid) bs) → k < n
desk_low n k a [] d h = absurd (true≢false (sym d))
desk_low n k a (b ∷ bs) d h = by (b.bid == k) refl d (λ q. desk_low n k a bs q h.1)
  where
    by : (v : Bool) → (b.bid == k) ≡ v → holds (λ b. is_some (declared_of a b)) (if v then Some b else batch_of k bs) ≡ true → (is_declared k a bs ≡ true → k < n) → k < n
    by true e q r = omega (arith, h.0, eqb-true b.bid k e)
    by false e q r = r q

not_first : {C : Type 0} (w : Fixed C) (e : Event) (s : Machine C) (h : History) (t k : ℕ) → k < s.ring.next_bid → IsFirst w e s h t k → ⊥
unfolding IsFirst
not_first w (Form j) s h t k l i = omega (arith, l, i.1)
not_first w e s h t k l i = i

old_sub : {C : Type 0} (w : Fixed C) (e : Event) (s : Machine C) (h : History) (m : SubBatch) → IsAllowed w e s → m.bid < s.ring.next_bid → FullSub w s.ring.next_tid h.owners h.trails m → FullSub w (after w e s).ring.next_tid (grown w e s h).owners (grown w e s h).trails m
unfolding FullSub Asks
old_sub w e s h m ok b g t l o d = elim (was w e s h t m.bid ok l o) [ inl c ↦ g t c.low c.owner (subst (λ z. is_among m.actor (declared (tx_at w.text z)) ≡ true) c.tx d) | inr i ↦ absurd (not_first w e s h t m.bid b i) ]

old_entry : {C : Type 0} (w : Fixed C) (e : Event) (s : Machine C) (h : History) (a : ℕ) (x : Entry) → IsAllowed w e s → epochs.Agreeing s → EntryOf a s.desk.batches x → Here w s h a x → FullEntry w (after w e s).ring.next_tid (grown w e s h).owners (grown w e s h).trails a x
unfolding FullEntry Asks
old_entry w e s h a (BatchEntry b) ok ag d g = λ t l o q. elim (was w e s h t b.bid ok l o) [ inl c ↦ g t c.low c.owner (subst (λ z. is_among a (declared (tx_at w.text z)) ≡ true) c.tx q) | inr i ↦ absurd (not_first w e s h t b.bid (desk_low s.ring.next_bid b.bid a s.desk.batches d.0 (epochs.bids_below s ag)) i) ]
old_entry w e s h a (ActEntry x) ok ag d g = tt

old_subs : {C : Type 0} (w : Fixed C) (e : Event) (s : Machine C) (h : History) → IsAllowed w e s → epochs.Agreeing s → FromDesk s → SubsName w s h → AllByRecursion (FullSub w (after w e s).ring.next_tid (grown w e s h).owners (grown w e s h).trails) s.post.subs
old_subs w e s h ok ag d g = both_all (MessageOf s.desk.batches) (FullSub w s.ring.next_tid h.owners h.trails) (FullSub w (after w e s).ring.next_tid (grown w e s h).owners (grown w e s h).trails) s.post.subs
    (λ m x y. old_sub w e s h m ok (desk_low s.ring.next_bid m.bid m.actor s.desk.batches x.declared (epochs.bids_below s ag)) y) d.subs g.subs

old_entries : {C : Type 0} (w : Fixed C) (e : Event) (s : Machine C) (h : History) → IsAllowed w e s → epochs.Agreeing s → FromDesk s → SubsName w s h → (a : ℕ) → AllByRecursion (FullEntry w (after w e s).ring.next_tid (grown w e s h).owners (grown w e s h).trails a) (cell_at s a).entries
old_entries w e s h ok ag d g a = both_all (EntryOf a s.desk.batches) (Here w s h a) (FullEntry w (after w e s).ring.next_tid (grown w e s h).owners (grown w e s h).trails a) (cell_at s a).entries
    (λ x y z. old_entry w e s h a x ok ag y z) (d.entries a) (g.entries a)

new_subs : {C : Type 0} (w : Fixed C) (k : ℕ) (s : Machine C) (h : History) (xs : List ℕ) → IsAllowed w (Form k) s → Covered w s h → AllByRecursion (FullSub w (after w (Form k) s).ring.next_tid (grown w (Form k) s h).owners (grown w (Form k) s h).trails) (map (ring.first_sub w.text k s.ring) xs)
unfolding FullSub Asks IsFirst Covered conditions
new_subs w k s h [] ok c = tt
new_subs w k s h (a ∷ xs) ok c = (
  (λ t l o d. elim (was w (Form k) s h t k ok l o) [
    | inl x ↦ absurd (omega (arith, (c t k x.low x.owner).0, eqb-true k s.ring.next_bid ok.0))
    | inr i ↦ (any_declares w a t ((grown w (Form k) s h).trails t).tx (ring.next_pacts w.text s.ring) i.2 d).1
  ]),
  new_subs w k s h xs ok c,
)

names_new : (t : ℕ) (ts : List ℕ) → list_any (λ x. x.tid == t) (map cell.not_done ts) ≡ is_among t ts
names_new t [] = refl
names_new t (x ∷ ts) = ap (λ z. (x == t) || z) (names_new t ts)

arrive_full : {C : Type 0} (w : Fixed C) (next : ℕ) (owners : ℕ → Who) (tr : ℕ → Trail) (k a : ℕ) (subs : List SubBatch) (o : Option SubBatch) → sub_of k a subs ≡ o → AllByRecursion (FullSub w next owners tr) subs → AllByRecursion (FullEntry w next owners tr a) (cell.batch_entries k o)
unfolding FullSub FullEntry Asks
arrive_full w next owners tr k a subs None e h = tt
arrive_full w next owners tr k a subs (Some m) e h =
    let f = all_found (FullSub w next owners tr) (λ y. (y.bid == k) && (y.actor == a)) subs m h e in
    let p = and_parts (m.bid == k) (m.actor == a) f.1 in
    ((λ t l o d. names_new t m.tids ∙ f.0 t l (subst (λ z. owners t ≡ OfBatch z) (sym (eqb-true m.bid k p.0)) o) (subst (λ z. is_among z (declared (tx_at w.text (tr t).tx)) ≡ true) (sym (eqb-true m.actor a p.1)) d)), tt)

names_done : (t u : ℕ) (ss : List Slot) → list_any (λ x. x.tid == t) (map (cell.done_if u) ss) ≡ list_any (λ x. x.tid == t) ss
names_done t u [] = refl
names_done t u (x ∷ ss) = ap (λ z. (x.tid == t) || z) (names_done t u ss)

full_done : {C : Type 0} (w : Fixed C) (next : ℕ) (owners : ℕ → Who) (tr : ℕ → Trail) (a u : ℕ) (e : Entry) → FullEntry w next owners tr a e → FullEntry w next owners tr a (cell.done_in u e)
unfolding FullEntry
full_done w next owners tr a u (BatchEntry b) h = λ t l o d. names_done t u b.slots ∙ h t l o d
full_done w next owners tr a u (ActEntry x) h = tt

full_complete : {C : Type 0} (w : Fixed C) (next : ℕ) (owners : ℕ → Who) (tr : ℕ → Trail) (a k : ℕ) (e : Entry) → FullEntry w next owners tr a e → FullEntry w next owners tr a (cell.complete_in k e)
unfolding FullEntry
full_complete w next owners tr a k (BatchEntry b) h = h
full_complete w next owners tr a k (ActEntry x) h = tt

full_asked : {C : Type 0} (w : Fixed C) (next : ℕ) (owners : ℕ → Who) (tr : ℕ → Trail) (a : ℕ) (t : Lock) (o : Option ℕ) → AllByRecursion (FullEntry w next owners tr a) (cell.act_entries t o)
unfolding FullEntry
full_asked w next owners tr a t None = (tt, tt)
full_asked w next owners tr a t (Some x) = tt

full_run : {C : Type 0} (w : Fixed C) (next : ℕ) (owners : ℕ → Who) (tr : ℕ → Trail) (a t : ℕ) (v : Bool) (es : List Entry) → AllByRecursion (FullEntry w next owners tr a) es → AllByRecursion (FullEntry w next owners tr a) (if v then map (cell.done_in t) es else es)
full_run w next owners tr a t true es h = all_map (FullEntry w next owners tr a) (FullEntry w next owners tr a) (cell.done_in t) es (λ e p. full_done w next owners tr a t e p) h
full_run w next owners tr a t false es h = h

abbrev pub At : {C : Type 0} → Fixed C → ℕ → (ℕ → Who) → (ℕ → Trail) → ℕ → Cell C → Type 0
At w next owners tr a c = AllByRecursion (FullEntry w next owners tr a) c.entries

cells_kept : {C : Type 0} (w : Fixed C) (e : Event) (s : Machine C) (h : History) → AllByRecursion (FullSub w (after w e s).ring.next_tid (grown w e s h).owners (grown w e s h).trails) s.post.subs
    → ((a : ℕ) → AllByRecursion (FullEntry w (after w e s).ring.next_tid (grown w e s h).owners (grown w e s h).trails a) (cell_at s a).entries)
    → (a : ℕ) → AllByRecursion (FullEntry w (after w e s).ring.next_tid (grown w e s h).owners (grown w e s h).trails a) (cell_at (after w e s) a).entries
unfolding after grown
cells_kept w (Arrive k a) s h m g = one_cell (At w s.ring.next_tid h.owners h.trails) s.cells a _ (λ z. all_join (FullEntry w s.ring.next_tid h.owners h.trails a) (cell_at s a).entries _ z (arrive_full w s.ring.next_tid h.owners h.trails k a s.post.subs (sub_of k a s.post.subs) refl m)) g
cells_kept w (Ask t a) s h m g = one_cell (At w s.ring.next_tid h.owners h.trails) s.cells a _ (λ z. all_join (FullEntry w s.ring.next_tid h.owners h.trails a) (cell_at s a).entries _ z (full_asked w s.ring.next_tid h.owners h.trails a (lock_of t s.book.acts) (book.in_the_way (lock_of t s.book.acts) (cell_at s a).entries))) g
cells_kept w (Take t a) s h m g = one_cell (At w s.ring.next_tid h.owners h.trails) s.cells a _ (λ z. z) g
cells_kept w (Run t a) s h m g = one_cell (At w s.ring.next_tid h.owners (grown w (Run t a) s h).trails) s.cells a (cell.slice_run w.code t a (cell_at s a)) (λ z. full_run w s.ring.next_tid h.owners (grown w (Run t a) s h).trails a t (cell.is_done_after w.code a (cell.slice_of w.code t (cell_at s a))) (cell_at s a).entries z) g
cells_kept w (Send t a) s h m g = one_cell (At w s.ring.next_tid h.owners h.trails) s.cells a _ (λ z. z) g
cells_kept w (End t a) s h m g = one_cell (At w s.ring.next_tid h.owners h.trails) s.cells a _ (λ z. z) g
cells_kept w (Close t a) s h m g = one_cell (At w s.ring.next_tid h.owners h.trails) s.cells a _ (λ z. full_run w s.ring.next_tid h.owners h.trails a t true (cell_at s a).entries z) g
cells_kept w (Complete k a) s h m g = one_cell (At w s.ring.next_tid h.owners h.trails) s.cells a _ (λ z. all_map (FullEntry w s.ring.next_tid h.owners h.trails a) (FullEntry w s.ring.next_tid h.owners h.trails a) (cell.complete_in k) (cell_at s a).entries (λ e p. full_complete w s.ring.next_tid h.owners h.trails a k e p) z) g
cells_kept w (Rollback a) s h m g = one_cell (At w s.ring.next_tid h.owners h.trails) s.cells a _ (λ z. all_staying (FullEntry w s.ring.next_tid h.owners h.trails a) s.book.cascades (cell_at s a).entries z) g
cells_kept w (Finish t a) s h m g = one_cell (At w s.ring.next_tid h.owners h.trails) s.cells a _ (λ z. all_filter (FullEntry w s.ring.next_tid h.owners h.trails a) _ (cell_at s a).entries z) g
cells_kept w (Trim k a) s h m g = one_cell (At w s.ring.next_tid h.owners h.trails) s.cells a _ (λ z. all_filter (FullEntry w s.ring.next_tid h.owners h.trails a) _ (cell_at s a).entries z) g
cells_kept w e s h m g = g

subs_kept : {C : Type 0} (w : Fixed C) (e : Event) (s : Machine C) (h : History) → IsAllowed w e s → Covered w s h → AllByRecursion (FullSub w (after w e s).ring.next_tid (grown w e s h).owners (grown w e s h).trails) s.post.subs
    → AllByRecursion (FullSub w (after w e s).ring.next_tid (grown w e s h).owners (grown w e s h).trails) (after w e s).post.subs
unfolding after
subs_kept w (Form k) s h ok c m = all_join (FullSub w (after w (Form k) s).ring.next_tid (grown w (Form k) s h).owners (grown w (Form k) s h).trails) s.post.subs _ m (new_subs w k s h (ring.next_actors w.text s.ring) ok c)
subs_kept w (Arrive k a) s h ok c m = all_filter (FullSub w s.ring.next_tid (grown w (Arrive k a) s h).owners (grown w (Arrive k a) s h).trails) _ s.post.subs m
subs_kept w (DropSub k a) s h ok c m = all_filter (FullSub w s.ring.next_tid (grown w (DropSub k a) s h).owners (grown w (DropSub k a) s h).trails) _ s.post.subs m
subs_kept w e s h ok c m = m

named_kept : {C : Type 0} (w : Fixed C) (e : Event) (s : Machine C) (h : History) → IsAllowed w e s → epochs.Agreeing s → FromDesk s → Covered w s h → SubsName w s h → SubsName w (after w e s) (grown w e s h)
named_kept w e s h ok ag d c g =
    let m = old_subs w e s h ok ag d g in
    record { subs = subs_kept w e s h ok c m; entries = cells_kept w e s h m (old_entries w e s h ok ag d g) }

-- ---- over every run

pub record Home {C : Type 0} (w : Fixed C) (Of : Tx → C → Type 0) (finish : C → List State → Alone) (s : Machine C) (h : History) : Type 0 where
  pub held : Held w Of finish s h
  pub declares : AllControls (Declares w h) s
  pub covered : Covered w s h
  pub named : SubsName w s h

home_kept : {C : Type 0} (w : Fixed C) (Of : Tx → C → Type 0) (finish : C → List State → Alone) (e : Event) (s : Machine C) (h : History) → Given w Of finish → IsAllowed w e s → AllGood w Of finish s h → Home w Of finish s h → Home w Of finish (after w e s) (grown w e s h)
home_kept w Of finish e s h v ok g i = record {
  held = owed.held_kept w Of finish e s h v ok g i.held;
  declares = declares_kept w Of finish e s h v.facts ok g.good.queued g.good.held g.good.told i.declares;
  covered = covered_kept w e s h ok (g.sizes.lasts ∙ i.held.whole.ordered.results.cells) g.good.agreeing i.covered;
  named = named_kept w e s h ok g.good.agreeing g.good.from_desk i.covered i.named;
}

home_opened : {C : Type 0} (w : Fixed C) (Of : Tx → C → Type 0) (finish : C → List State → Alone) → Given w Of finish → Home w Of finish (opening w) no_history
unfolding Covered
home_opened {C} w Of finish v = record {
  held = owed.held_opened w Of finish v;
  declares = nowhere w (Declares w no_history);
  covered = λ t k l o. absurd (cc o);
  named = record { subs = tt; entries = λ a. subst (AllByRecursion _) (sym (no_entries C (base w.text) w.text.opening.states a)) tt };
}

pub all_home : {C : Type 0} (w : Fixed C) (Of : Tx → C → Type 0) (finish : C → List State → Alone) (es : List Event) → Given w Of finish → IsRun w es → Home w Of finish (reached w es) (history w es)
all_home w Of finish es v run = all.along_good w Of finish (Home w Of finish) v (λ e s h ok g i. home_kept w Of finish e s h v ok g i) (home_opened w Of finish v) es run

-- ---- a PACT's control

pact_tx : {C : Type 0} (w : Fixed C) (tr : ℕ → Trail) (t k : ℕ) (bs : List Batch) → is_pact_of t k bs ≡ true → EachPact (IsOfPact w tr) bs → is_pact (tx_at w.text (tr t).tx) ≡ true
pact_tx w tr t k [] e h = absurd (true≢false (sym e))
pact_tx w tr t k (b ∷ bs) e h = by (b.bid == k) e (λ q. pact_tx w tr t k bs q h.1)
  where
    among : (ps : List Pact) → list_any (λ p. p.tid == t) ps ≡ true → AllByRecursion (λ p. is_pact (tx_at w.text (tr p.tid).tx) ≡ true) ps → is_pact (tx_at w.text (tr t).tx) ≡ true
    among [] q g = absurd (true≢false (sym q))
    among (p ∷ ps) q g = elim (or_cases (p.tid == t) (list_any (λ p. p.tid == t) ps) q) [ inl i ↦ subst (λ z. is_pact (tx_at w.text (tr z).tx) ≡ true) (eqb-true p.tid t i) g.0 | inr i ↦ among ps i g.1 ]

    by : (v : Bool) → holds (names_pact t) (if v then Some b else batch_of k bs) ≡ true → (is_pact_of t k bs ≡ true → is_pact (tx_at w.text (tr t).tx) ≡ true) → is_pact (tx_at w.text (tr t).tx) ≡ true
    by true q r = among b.pacts q h.0
    by false q r = r q

-- the control that is there
record There {C : Type 0} (w : Fixed C) (Of : Tx → C → Type 0) (s : Machine C) (h : History) (t a : ℕ) : Type 0 where
  control : C
  of_it : Of (tx_at w.text (h.trails t).tx) control
  stands : w.code.at control ≡ a
  exists : a < length w.text.opening.states
  declares : DeclaredBy w (h.trails t).tx (Go a control)
  low : t < s.ring.next_tid

there : {C : Type 0} (w : Fixed C) (Of : Tx → C → Type 0) (finish : C → List State → Alone) (s : Machine C) (h : History) (t a : ℕ) → AllGood w Of finish s h → AllControls (Declares w h) s → ControlIsAt t a s → There w Of s h t a
there {C} w Of finish s h t a g d (inl q) =
    let m = one_is (λ m. m.to == a) (control_of t s.post.controls) q in
    let f = all_found (λ m. Told w Of finish h m.tid (Go m.to m.control)) (λ m. m.tid == t) s.post.controls m.0 g.good.told.posted m.1 in
    let c = all_found (λ m. Declares w h m.tid (Go m.to m.control)) (λ m. m.tid == t) s.post.controls m.0 d.posted m.1 in
    let l = all_found (λ m. m.tid < s.ring.next_tid) (λ m. m.tid == t) s.post.controls m.0 (trails.drawn s g.good.held).posted m.1 in
    let i : m.0.tid ≡ t = eqb-true m.0.tid t f.1 in
    let j : m.0.to ≡ a = eqb-true m.0.to a m.2 in
    record { control = m.0.control; of_it = subst (λ z. Of (tx_at w.text (h.trails z).tx) m.0.control) i f.0.of_it.0; stands = f.0.of_it.1 ∙ j; exists = omega (arith, f.0.of_it.2, j); declares = subst (λ z. DeclaredBy w (h.trails z).tx (Go a m.0.control)) i c.0; low = omega (arith, l.0, i) }
there {C} w Of finish s h t a g d (inr q) = by (waiting_of t (cell_at s a).inbox) refl q
  where
    by : (o : Option (Waiting C)) → waiting_of t (cell_at s a).inbox ≡ o → is_some o ≡ true → There w Of s h t a
    by None e q = absurd (true≢false (sym q))
    by (Some x) e q =
        let f = all_found (λ x. Told w Of finish h x.tid (Go a x.control)) (λ x. x.tid == t) (cell_at s a).inbox x (g.good.told.inboxes a) e in
        let c = all_found (λ x. Declares w h x.tid (Go a x.control)) (λ x. x.tid == t) (cell_at s a).inbox x (d.inboxes a) e in
        let l = all_found (λ x. x.tid < s.ring.next_tid) (λ x. x.tid == t) (cell_at s a).inbox x ((trails.drawn s g.good.held).inboxes a) e in
        let i : x.tid ≡ t = eqb-true x.tid t f.1 in
        record { control = x.control; of_it = subst (λ z. Of (tx_at w.text (h.trails z).tx) x.control) i f.0.of_it.0; stands = f.0.of_it.1; exists = f.0.of_it.2; declares = subst (λ z. DeclaredBy w (h.trails z).tx (Go a x.control)) i c.0; low = omega (arith, l.0, i) }

declares_it : {C : Type 0} (w : Fixed C) (Of : Tx → C → Type 0) (finish : C → List State → Alone) (s : Machine C) (h : History) (t k a : ℕ) → Facts (length w.text.opening.states) w.code (IsTxIn w.text) Of finish → AllGood w Of finish s h → is_pact_of t k s.desk.batches ≡ true → There w Of s h t a → is_among a (declared (tx_at w.text (h.trails t).tx)) ≡ true
unfolding OfPacts
declares_it w Of finish s h t k a f g p x =
    let i = pact_tx w h.trails t k s.desk.batches p g.of_pacts in
    x.declares i a (subst (λ z. w.code.rests_on x.control z ≡ true) x.stands (f.rests_where_it_stands (tx_at w.text (h.trails t).tx) x.control i x.of_it))

pub pacts_at_home : {C : Type 0} (w : Fixed C) (Of : Tx → C → Type 0) (finish : C → List State → Alone) (es : List Event) → Given w Of finish → IsRun w es → PactsAtHome w (reached w es)
unfolding Covered Asks FullEntry
pacts_at_home {C} w Of finish es v run =
    let s = reached w es in
    let h = history w es in
    let g = all.all_good w Of finish es v run in
    let i = all_home w Of finish es v run in
    let own = λ (t k : ℕ) (p : is_pact_of t k s.desk.batches ≡ true). names.batch_owns s.ring.next_tid k t h.owners h.trails s.desk.batches i.held.whole.ordered.named.pacts p in
    record {
      declared = λ t k a p n q. let x = there w Of finish s h t a g i.declares q in (i.covered t k x.low (own t k p)).1 a x.exists (declares_it w Of finish s h t k a v.facts g p x);
      named = λ t a e es p n q z. let x = there w Of finish s h t a g i.declares q in
          (subst (AllByRecursion (Here w s h a)) z (i.named.entries a)).0 t x.low (own t e.bid p) (declares_it w Of finish s h t e.bid a v.facts g p x);
    }
