-- Batch numbers and tids are drawn once, in order.
use Rattle.std.specs.Prelude.{◌≡◌, refl, ℕ, ◌+◌, ◌≤◌, List, [], ◌∷◌, ◌++◌, length, map}
use Rattle.std.proofs.Common.{arith, sym, ap, subst, ◌∙◌}
use Rattle.std.proofs.lemmas.Bool.{eqb-true}
use Rattle.protocol.specs.Fixed.{Fixed, IsText}
use Rattle.protocol.specs.Parts.{Machine}
use Rattle.protocol.specs.Events.{Event, Form, Admit}
use Rattle.protocol.specs.Conditions.{IsAllowed, conditions}
use Rattle.protocol.specs.Effects.{after}
use Rattle.protocol.specs.Runs.{opening, IsRun, EachAllowed, reached}
use Rattle.protocol.specs.Contents.{NextTid, NextBid, Bids, BatchTids, ActTids}
use Rattle.protocol.specs.Numbers.{from, flat, times, once_in, tids_by, bids_by, tids_along, bids_along, NumbersDrawnOnce}
use Rattle.protocol.specs.OnRing.{numbered, next_pacts}
use Rattle.protocol_laws.proofs.first.Along.{along}
use Rattle.protocol_laws.proofs.first.Frames.{frame}
use Rattle.protocol_laws.proofs.first.Times

-- ---- over lists

-- what the law says of its contents
pub record AreDrawn (bid tid next_bid next_tid : ℕ) (bids : List ℕ) (tids : List (List ℕ)) (acts : List ℕ) : Type 0 where
  pub are : bids ≡ from bid (length bids)
  pub next : next_bid ≡ bid + length bids
  pub first : tid ≤ next_tid
  pub each : (t : ℕ) → times t (flat tids ++ acts) ≡ once_in tid next_tid t

same : {bid tid nb nb' nt nt' : ℕ} {bids bids' acts acts' : List ℕ} {tids tids' : List (List ℕ)} → nb' ≡ nb → nt' ≡ nt → bids' ≡ bids → tids' ≡ tids → acts' ≡ acts
    → AreDrawn bid tid nb nt bids tids acts → AreDrawn bid tid nb' nt' bids' tids' acts'
same a b c d e h = rw (a, b, c, d, e) h

pub numbered_tids : (t : ℕ) (ns : List ℕ) → map (λ p. p.tid) (numbered t ns) ≡ from t (length ns)
numbered_tids t [] = refl
numbered_tids t (n ∷ ns) = rw (numbered_tids (t + 1) ns) refl

pub length_numbered : (t : ℕ) (ns : List ℕ) → length (numbered t ns) ≡ length ns
length_numbered t [] = refl
length_numbered t (n ∷ ns) = rw (length_numbered (t + 1) ns) refl

more_bids : (bid k : ℕ) (bids : List ℕ) → bids ≡ from bid (length bids) → k ≡ bid + length bids → bids ++ k ∷ [] ≡ from bid (length (bids ++ k ∷ []))
more_bids bid k bids e f =
    rw (Times.length_join bids (k ∷ []), sym (Times.from_append bid (length bids) 1), sym e, sym f) refl

-- a batch is formed
form : (bid tid nb nt few : ℕ) (bids acts : List ℕ) (tids : List (List ℕ)) → AreDrawn bid tid nb nt bids tids acts
    → AreDrawn bid tid (nb + 1) (nt + few) (bids ++ nb ∷ []) (tids ++ from nt few ∷ []) acts
form bid tid nb nt few bids acts tids h = record {
  are = more_bids bid nb bids h.are h.next;
  next = omega (arith, h.next, Times.length_join bids (nb ∷ []));
  first = omega (arith, h.first);
  each = λ t. omega (arith, h.each t, Times.times_append t (flat tids) acts, Times.times_append t (flat (tids ++ from nt few ∷ [])) acts, Times.times_flat_append t tids (from nt few ∷ []), Times.times_one t (from nt few), Times.times_from nt few t, Times.once_joined tid nt (nt + few) t h.first (omega arith));
}

-- an ACT is admitted
admit : (bid tid nb nt : ℕ) (bids acts : List ℕ) (tids : List (List ℕ)) → AreDrawn bid tid nb nt bids tids acts
    → AreDrawn bid tid nb (nt + 1) bids tids (acts ++ nt ∷ [])
admit bid tid nb nt bids acts tids h = record {
  are = h.are;
  next = h.next;
  first = omega (arith, h.first);
  each = λ t. omega (arith, h.each t, Times.times_append t (flat tids) acts, Times.times_append t (flat tids) (acts ++ nt ∷ []), Times.times_append t acts (nt ∷ []), Times.times_from nt 1 t, Times.once_joined tid nt (nt + 1) t h.first (omega arith));
}

-- ---- over states

unfoldable pub Drawn : {C : Type 0} → Fixed C → Machine C → Type 0
Drawn w s = AreDrawn w.text.opening.next_bid w.text.opening.next_tid s.ring.next_bid s.ring.next_tid
    (map (λ b. b.bid) s.desk.batches) (map (λ b. map (λ p. p.tid) b.pacts) s.desk.batches) (map (λ x. x.tid) s.book.acts)

pub kept : {C : Type 0} (w : Fixed C) (e : Event) (s : Machine C) → IsAllowed w e s → Drawn w s → Drawn w (after w e s)
unfolding Drawn conditions after
kept w (Form k) s ok h =
    let e : k ≡ s.ring.next_bid = eqb-true k s.ring.next_bid ok.0 in
    let new = next_pacts w.text s.ring in
    rw (Times.map_join (λ b. b.bid) s.desk.batches _, Times.map_join (λ b. map (λ p. p.tid) b.pacts) s.desk.batches _, e, numbered_tids s.ring.next_tid _, length_numbered s.ring.next_tid _)
    (form _ _ s.ring.next_bid s.ring.next_tid _ _ _ _ h)
kept w (Admit t) s ok h =
    let e : t ≡ s.ring.next_tid = eqb-true t s.ring.next_tid ok.0 in
    rw (Times.map_join (λ x. x.tid) s.book.acts _, e) (admit _ _ s.ring.next_bid s.ring.next_tid _ _ _ h)
kept w e s ok h = same (frame w e s NextBid refl) (frame w e s NextTid refl) (frame w e s Bids refl) (frame w e s BatchTids refl) (frame w e s ActTids refl) h

pub opened : {C : Type 0} (w : Fixed C) → Drawn w (opening w)
unfolding Drawn
opened w = record {
  are = refl;
  next = omega arith;
  first = omega arith;
  each = λ t. sym (nothing w.text.opening.next_tid t);
}
  where
    nothing : (n t : ℕ) → once_in n n t ≡ 0
    nothing n t = let e : n + 0 ≡ n = omega arith in subst (λ m. once_in n m t ≡ 0) e (sym (Times.times_from n 0 t))

pub drawn : {C : Type 0} (w : Fixed C) (es : List Event) → IsRun w es → Drawn w (reached w es)
drawn w es run = along w (Drawn w) (kept w) es (opening w) run (opened w)

pub numbers_drawn_once : {C : Type 0} (w : Fixed C) (es : List Event) → IsText w.text → IsRun w es → NumbersDrawnOnce w (reached w es)
unfolding Drawn
numbers_drawn_once w es text run =
    let h = drawn w es run in
    let e : length (map (λ b. b.bid) (reached w es).desk.batches) ≡ length (reached w es).desk.batches = Times.length_map (λ b. b.bid) (reached w es).desk.batches in
    record {
      bids = subst (λ n. map (λ b. b.bid) (reached w es).desk.batches ≡ from w.text.opening.next_bid n) e h.are;
      next_bid = h.next ∙ ap (λ n. w.text.opening.next_bid + n) e;
      tids = h.each;
    }

-- ---- along a run

joined : (xs ys : List ℕ) (n m : ℕ) → xs ≡ from n (length xs) → m ≡ n + length xs → ys ≡ from m (length ys) → xs ++ ys ≡ from n (length (xs ++ ys))
joined xs ys n m e f g =
    let h : from n (length xs) ++ from (n + length xs) (length ys) ≡ from n (length xs + length ys) = Times.from_append n (length xs) (length ys) in
    rw (Times.length_join xs ys, sym h, sym f, sym e, sym g) refl

tids_next : {C : Type 0} (w : Fixed C) (e : Event) (s : Machine C) → IsAllowed w e s
    → (tids_by w e s ≡ from s.ring.next_tid (length (tids_by w e s))) × ((after w e s).ring.next_tid ≡ s.ring.next_tid + length (tids_by w e s))
unfolding conditions after
tids_next w (Form k) s ok = rw (numbered_tids s.ring.next_tid _, Times.length_from, length_numbered s.ring.next_tid _) (refl, refl)
tids_next w (Admit t) s ok = rw (eqb-true t s.ring.next_tid ok.0) (refl, refl)
tids_next w e s ok = (refl, frame w e s NextTid refl ∙ plus_0 s.ring.next_tid)
  where
    plus_0 : (n : ℕ) → n ≡ n + 0
    plus_0 n = omega arith

pub tids_consecutive : {C : Type 0} (w : Fixed C) (es : List Event) (s : Machine C) → EachAllowed w es s
    → tids_along w es s ≡ from s.ring.next_tid (length (tids_along w es s))
tids_consecutive w [] s run = refl
tids_consecutive w (e ∷ es) s run = joined (tids_by w e s) (tids_along w es (after w e s)) s.ring.next_tid (after w e s).ring.next_tid (tids_next w e s run.0).0 (tids_next w e s run.0).1 (tids_consecutive w es (after w e s) run.1)

bids_next : {C : Type 0} (w : Fixed C) (e : Event) (s : Machine C) → IsAllowed w e s
    → (bids_by e ≡ from s.ring.next_bid (length (bids_by e))) × ((after w e s).ring.next_bid ≡ s.ring.next_bid + length (bids_by e))
unfolding conditions after
bids_next w (Form k) s ok = rw (eqb-true k s.ring.next_bid ok.0) (refl, refl)
bids_next w e s ok = (refl, frame w e s NextBid refl ∙ plus_0 s.ring.next_bid)
  where
    plus_0 : (n : ℕ) → n ≡ n + 0
    plus_0 n = omega arith

pub bids_consecutive : {C : Type 0} (w : Fixed C) (es : List Event) (s : Machine C) → EachAllowed w es s
    → bids_along es ≡ from s.ring.next_bid (length (bids_along es))
bids_consecutive w [] s run = refl
bids_consecutive w (e ∷ es) s run = joined (bids_by e) (bids_along es) s.ring.next_bid (after w e s).ring.next_bid (bids_next w e s run.0).0 (bids_next w e s run.0).1 (bids_consecutive w es (after w e s) run.1)
