-- The slices so far explain each transaction, event by event.
use Rattle.std.specs.Prelude.{◌≡◌, refl, ℕ, ◌+◌, ◌<◌, ◌≤◌, ◌==◌, Bool, true, false, if◌then◌else◌, Option, Some, None, is_some, List, [], ◌∷◌, ◌++◌, length, take, slice_set}
use Rattle.std.specs.List.{AllByRecursion}
use Rattle.std.proofs.Common.{arith, sym, ap, subst, inl, inr, ◌∙◌}
use Rattle.std.proofs.lemmas.List.{get_or-set_same, get_or-set_other}
use Rattle.std.proofs.lemmas.Bool.{eqb-true, eqb-false, eq-eqb, ne_eqb, true≢false, cases_Bool, cases_lt}
use Rattle.snap_base.specs.declared.transactions.State.{State}
use Rattle.snap_base.specs.declared.transactions.Tx.{Tx}
use Rattle.protocol.specs.Fixed.{Fixed, Next, Go, Ended, IsText, IsTxOf, tx_at, root, no_state, no_tx}
use Rattle.protocol.specs.Parts.{Pact, Waiting, Machine}
use Rattle.protocol.specs.Events.{Event, Form, Admit, Run}
use Rattle.protocol.specs.Words.{waiting_of}
use Rattle.protocol.specs.Conditions.{IsAllowed, conditions, queue}
use Rattle.protocol.specs.Effects.{after, cell_at, no_cell}
use Rattle.protocol.specs.Facts.{Alone, Steps, Facts, state_in, rest_of}
use Rattle.protocol.specs.Numbers.{times, once_in, controls_in}
use Rattle.protocol.specs.OnRing as ring
use Rattle.protocol.specs.OnPost as post
use Rattle.protocol.specs.History.{History, Step, Trail, grown, begun, gone_on}
use Rattle.protocol_laws.specs.Told.{PactsAscend}
use Rattle.protocol_laws.specs.Tracks.{Linked}
use Rattle.protocol_laws.specs.Trails.{Walks, walked, IsOf, Explained, on_actor}
use Rattle.protocol_laws.proofs.first.Times
use Rattle.protocol_laws.proofs.first.Controls as controls
use Rattle.protocol_laws.proofs.machine.ControlWalk
use Rattle.protocol_laws.proofs.machine.ControlWalk.{AllControls, Ready}
use Rattle.protocol_laws.proofs.machine.TracksKept.{held}
use Rattle.protocol.specs.Rests.{IsTxIn}
use Rattle.protocol_laws.proofs.machine.QueuedText.{IsThere, Queued, is_in, next_there, act_there}
use Rattle.protocol_laws.proofs.first.Lists.{all_found, all_get}

-- ---- walks

walks_parts : (xs : List Step) (x : Step) (world : List State) → Walks (xs ++ x ∷ []) world → Walks xs world × (state_in (walked xs world) x.actor ≡ x.found)
walks_parts [] x world h = (tt, h.0)
walks_parts (y ∷ ys) x world h = let g = walks_parts ys x (slice_set world y.actor y.left) h.1 in ((h.0, g.0), g.1)

walked_more : (xs : List Step) (x : Step) (world : List State) → walked (xs ++ x ∷ []) world ≡ slice_set (walked xs world) x.actor x.left
walked_more [] x world = refl
walked_more (y ∷ ys) x world = walked_more ys x (slice_set world y.actor y.left)

pub walked_length : (xs : List Step) (world : List State) → length (walked xs world) ≡ length world
walked_length [] world = refl
walked_length (x ∷ xs) world = walked_length xs (slice_set world x.actor x.left) ∙ Times.length_set world x.actor x.left

-- ---- one more slice

pub step : {C : Type 0} (w : Fixed C) (Of : Tx → C → Type 0) (finish : C → List State → Alone) (r : Trail) (t a : ℕ) (c : C) (s : State) → Facts (length w.text.opening.states) w.code (IsTxIn w.text) Of finish → Explained w Of finish r t (Go a c)
    → Explained w Of finish (gone_on (record { actor = a; found = s; left = (w.code.slice c s).state }) r) t (w.code.slice c s).next
step {C} w Of finish r t a c s f e = record { of_it = next (w.code.slice c s).next refl; meaning = mean }
  where
    next : (n : Next C) → (w.code.slice c s).next ≡ n → IsOf w Of (tx_at w.text r.tx) n
    next (Go b d) q =
        let x : Steps w.code Of (tx_at w.text r.tx) c b d = record { from = s; of_it = e.of_it.0; goes = q } in
        let g = f.goes_elsewhere (tx_at w.text r.tx) c d b x in (f.stays (tx_at w.text r.tx) c d b x, g.0, g.2)
    next (Ended x) q = tt

    mean : (world : List State) → length world ≡ length w.text.opening.states → Walks (r.steps ++ record { actor = a; found = s; left = (w.code.slice c s).state } ∷ []) world
        → finish (w.code.start t (tx_at w.text r.tx)) world ≡ rest_of finish (w.code.slice c s).next (walked (r.steps ++ record { actor = a; found = s; left = (w.code.slice c s).state } ∷ []) world)
    mean world l h =
        let x : Step = record { actor = a; found = s; left = (w.code.slice c s).state } in
        let p = walks_parts r.steps x world h in
        let now = walked r.steps world in
        let k = f.slices_keep_the_meaning (tx_at w.text r.tx) c now e.of_it.0 (omega (arith, e.of_it.1, e.of_it.2, walked_length r.steps world, l)) in
        let g : state_in now (w.code.at c) ≡ s = ap (state_in now) e.of_it.1 ∙ p.1 in
        e.meaning world l p.0 ∙ (k ∙ (ap (λ z. rest_of finish (w.code.slice c z).next (slice_set now (w.code.at c) (w.code.slice c z).state)) g ∙ (ap (λ z. rest_of finish (w.code.slice c s).next (slice_set now z (w.code.slice c s).state)) e.of_it.1 ∙ ap (rest_of finish (w.code.slice c s).next) (sym (walked_more r.steps x world)))))

-- ---- the beginning

pub tx_is : {C : Type 0} (w : Fixed C) → IsText w.text → 1 ≤ length w.text.opening.states → (n : ℕ) → IsTxOf (length w.text.opening.states) (tx_at w.text n)
tx_is w text l n = all_get (IsTxOf (length w.text.opening.states)) w.text.txs n no_tx (record { root_exists = omega (arith, l); declared_exist = tt; declares_root = λ q. absurd (true≢false (sym q)) }) text.txs

begins : {C : Type 0} (w : Fixed C) (Of : Tx → C → Type 0) (finish : C → List State → Alone) (r : Trail) (t n : ℕ) → Facts (length w.text.opening.states) w.code (IsTxIn w.text) Of finish → IsTxOf (length w.text.opening.states) (tx_at w.text n) → IsThere w.text n → r ≡ record { tx = n; steps = [] }
    → Explained w Of finish r t (Go (root (tx_at w.text n)) (w.code.start t (tx_at w.text n)))
begins w Of finish r t n f i there e = subst (λ z. Explained w Of finish z t (Go (root (tx_at w.text n)) (w.code.start t (tx_at w.text n)))) (sym e)
    (record { of_it = (f.starts t (tx_at w.text n) (is_in w.text n there), f.begins_at_root t (tx_at w.text n), i.root_exists); meaning = λ world l h. refl })

-- ---- trails of tids

pub begun_below : (ps : List Pact) (low u : ℕ) (f : ℕ → Trail) → PactsAscend low ps → u < low → begun ps f u ≡ f u
begun_below [] low u f a l = refl
begun_below (p ∷ ps) low u f a l = rw (ne_eqb u p.tid (λ q. omega (arith, q, l, a.0))) (begun_below ps (p.tid + 1) u f a.1 (omega (arith, l, a.0)))

pub new_tids : (low t : ℕ) (ns : List ℕ) → low ≤ t → PactsAscend low (ring.numbered t ns)
new_tids low t [] l = tt
new_tids low t (n ∷ ns) l = (l, new_tids (t + 1) (t + 1) ns (omega arith))

first_ready : {C : Type 0} (w : Fixed C) (Of : Tx → C → Type 0) (finish : C → List State → Alone) (low : ℕ) (ps : List Pact) (f g : ℕ → Trail) → Facts (length w.text.opening.states) w.code (IsTxIn w.text) Of finish → ((n : ℕ) → IsTxOf (length w.text.opening.states) (tx_at w.text n)) → AllByRecursion (λ p. IsThere w.text p.tx) ps
    → PactsAscend low ps → ((u : ℕ) → low ≤ u → g u ≡ begun ps f u) → AllByRecursion (λ q. Explained w Of finish (g q.tid) q.tid (Go (root (tx_at w.text q.tx)) (w.code.start q.tid (tx_at w.text q.tx)))) ps
first_ready w Of finish low [] f g fa i there a e = tt
first_ready w Of finish low (p ∷ ps) f g fa i there a e = (
  begins w Of finish (g p.tid) p.tid p.tx fa (i p.tx) there.0 (e p.tid a.0 ∙ rw (eq-eqb p.tid p.tid refl) refl),
  first_ready w Of finish (p.tid + 1) ps f g fa i there.1 a.1 (λ u l. e u (omega (arith, l, a.0)) ∙ rw (ne_eqb u p.tid (λ q. omega (arith, q, l))) refl),
)

-- controls are of tids that were drawn
below_of : {X : Type 0} (next : ℕ) (f : X → ℕ) (xs : List X) → ((t : ℕ) → next ≤ t → AllByRecursion (λ x. f x ≡ t → ⊥) xs) → AllByRecursion (λ x. f x < next) xs
below_of next f [] h = tt
below_of next f (x ∷ xs) h = (elim (cases_lt (f x) next) [ inl l ↦ l | inr l ↦ absurd ((h (f x) l).0 refl) ], below_of next f xs (λ t l. (h t l).1))

pub drawn : {C : Type 0} (s : Machine C) → controls.HeldIn s → AllControls (λ u n. u < s.ring.next_tid) s
unfolding controls.HeldIn controls.Held
drawn s h =
    let none = λ (t : ℕ) (l : s.ring.next_tid ≤ t). ControlWalk.none_there t s (omega (arith, h t, Times.once_from 0 s.ring.next_tid t l)) in
    record {
      posted = below_of s.ring.next_tid (λ m. m.tid) s.post.controls (λ t l. (none t l).posted);
      inboxes = λ a. below_of s.ring.next_tid (λ x. x.tid) (cell_at s a).inbox (λ t l. (none t l).inboxes a);
      outboxes = λ a. below_of s.ring.next_tid (λ x. x.tid) (cell_at s a).outbox (λ t l. (none t l).outboxes a);
    }

pub at_most_one : {C : Type 0} (t : ℕ) (s : Machine C) → controls.HeldIn s → times t (controls_in s) ≤ 1
unfolding controls.HeldIn controls.Held
at_most_one t s h = omega (arith, h t, one (once_in 0 s.ring.next_tid t) (bound _))
  where
    one : (n : ℕ) → n ≤ 1 → n ≤ 1
    one n l = l

    bound : (b : Bool) → Rattle.protocol.specs.Numbers.one_if b ≤ 1
    bound true = omega arith
    bound false = omega arith

-- ---- over states

abbrev pub Told : {C : Type 0} → Fixed C → (Tx → C → Type 0) → (C → List State → Alone) → History → ℕ → Next C → Type 0
Told w Of finish h t n = Explained w Of finish (h.trails t) t n

pub kept : {C : Type 0} (w : Fixed C) (Of : Tx → C → Type 0) (finish : C → List State → Alone) (e : Event) (s : Machine C) (h : History) → IsText w.text → 1 ≤ length w.text.opening.states → Facts (length w.text.opening.states) w.code (IsTxIn w.text) Of finish → IsAllowed w e s → Queued w s → controls.HeldIn s
    → AllControls (Told w Of finish h) s → AllControls (Told w Of finish (grown w e s h)) (after w e s)
unfolding conditions grown Ready
kept w Of finish (Form k) s h text l f ok queued one g =
    let asc = new_tids s.ring.next_tid s.ring.next_tid (take w.text.batch (queue s.ring.pacts s.ring.holder)) (omega arith) in
    ControlWalk.moves w (Form k) s (Told w Of finish (grown w (Form k) s h)) ok
    (first_ready w Of finish s.ring.next_tid (ring.next_pacts w.text s.ring) h.trails (begun (ring.next_pacts w.text s.ring) h.trails) f (tx_is w text l) (next_there w s queued) asc (λ u q. refl))
    (ControlWalk.both (Told w Of finish h) (λ u n. u < s.ring.next_tid) (Told w Of finish (grown w (Form k) s h)) s (λ t n p q. subst (λ z. Explained w Of finish z t n) (sym (begun_below (ring.next_pacts w.text s.ring) s.ring.next_tid t h.trails asc q)) p) g (drawn s one))
kept w Of finish (Admit t) s h text l f ok queued one g =
    let i : t ≡ s.ring.next_tid = eqb-true t s.ring.next_tid ok.0 in
    ControlWalk.moves w (Admit t) s (Told w Of finish (grown w (Admit t) s h)) ok
    (begins w Of finish ((grown w (Admit t) s h).trails t) t (post.next_act s.ring) f (tx_is w text l (post.next_act s.ring)) (act_there w t s ok queued) (rw (eq-eqb t t refl) refl))
    (ControlWalk.both (Told w Of finish h) (λ u n. u < s.ring.next_tid) (Told w Of finish (grown w (Admit t) s h)) s (λ u n p q. subst (λ z. Explained w Of finish z u n) (sym (rw (ne_eqb u t (λ v. omega (arith, v, i, q))) refl)) p) g (drawn s one))
kept {C} w Of finish (Run t a) s h text l f ok queued one g = by (waiting_of t (cell_at s a).inbox) refl (held (λ c. is_some (waiting_of t c.inbox)) s.cells a no_cell ok.0)
  where
    by : (o : Option (Waiting C)) → waiting_of t (cell_at s a).inbox ≡ o → is_some o ≡ true → AllControls (Told w Of finish (grown w (Run t a) s h)) (after w (Run t a) s)
    by None e q = absurd (true≢false (sym q))
    by (Some x) e q =
        let own = all_found (λ x. Told w Of finish h x.tid (Go a x.control)) (λ x. x.tid == t) (cell_at s a).inbox x (g.inboxes a) e in
        let i : x.tid ≡ t = eqb-true x.tid t own.1 in
        ControlWalk.run_moves w t a s x (Told w Of finish h) (Told w Of finish (grown w (Run t a) s h)) (at_most_one t s one) e
        (λ u n d p. subst (λ z. Explained w Of finish z u n) (sym (rw (ne_eqb u t d) refl)) p)
        (rw (eq-eqb t t refl, e) (step w Of finish (h.trails t) t a x.control (cell_at s a).state f (subst (λ z. Explained w Of finish (h.trails z) z (Go a x.control)) i own.0)))
        g
kept w Of finish e s h text l f ok queued one g = ControlWalk.moves w e s (Told w Of finish h) ok tt g

-- ---- from links at each actor to a walk

world_set : (world : List State) (a b : ℕ) (s : State) → b < length world → state_in (slice_set world b s) a ≡ (if b == a then s else state_in world a)
world_set world a b s l = elim (cases_Bool (b == a)) [
  | inl e ↦ rw (e, sym (eqb-true b a e)) (get_or-set_same world b s no_state l)
  | inr e ↦ rw e (get_or-set_other world b a s no_state (λ q. eqb-false b a e (sym q)))
]

-- Where at each actor the steps of it link from what the world has there, they run in that world one after the other.
pub walks_from : (t : ℕ) (xs : List Step) (world : List State) (last : ℕ → State) → AllByRecursion (λ x. x.actor < length world) xs → ((a : ℕ) → Linked (state_in world a) (on_actor a t xs) (last a))
    → Walks xs world × ((a : ℕ) → state_in (walked xs world) a ≡ last a)
walks_from t [] world last r h = (tt, h)
walks_from t (x ∷ xs) world last r h =
    let own = at_own (x.actor == x.actor) (eq-eqb x.actor x.actor refl) (h x.actor) in
    let g = walks_from t xs (slice_set world x.actor x.left) last (same_range xs r.1) (λ a. rw (world_set world a x.actor x.left r.0) (rest a (x.actor == a) refl (h a))) in
    ((sym own, g.0), g.1)
  where
    same_range : (ys : List Step) → AllByRecursion (λ y. y.actor < length world) ys → AllByRecursion (λ y. y.actor < length (slice_set world x.actor x.left)) ys
    same_range [] q = tt
    same_range (y ∷ ys) q = (omega (arith, q.0, Times.length_set world x.actor x.left), same_range ys q.1)

    at_own : (b : Bool) → b ≡ true → Linked (state_in world x.actor) (if b then record { tid = t; found = x.found; left = x.left } ∷ on_actor x.actor t xs else on_actor x.actor t xs) (last x.actor) → x.found ≡ state_in world x.actor
    at_own true e k = k.0
    at_own false e k = absurd (true≢false (sym e))

    rest : (a : ℕ) (b : Bool) → (x.actor == a) ≡ b → Linked (state_in world a) (if b then record { tid = t; found = x.found; left = x.left } ∷ on_actor a t xs else on_actor a t xs) (last a) → Linked (if b then x.left else state_in world a) (on_actor a t xs) (last a)
    rest a true e k = k.1
    rest a false e k = k
