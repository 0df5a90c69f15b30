-- After every run an ACT that has joined no actor has the before number that it was admitted with.
use Rattle.std.specs.Prelude.{◌≡◌, refl, ℕ, ◌==◌, max, not, Bool, true, false, ◌&&◌, ◌||◌, if◌then◌else◌, Option, Some, None, List, [], ◌∷◌, ◌++◌, map, filter}
use Rattle.std.specs.List.{list_any, AllByRecursion}
use Rattle.std.proofs.Common.{arith, sym, ap, subst, ◌∙◌}
use Rattle.std.proofs.lemmas.Bool.{eqb-true, not-true, true≢false}
use Rattle.snap_base.proofs.Booleans.{not_so}
use Rattle.protocol.specs.Conditions.{IsAllowed, conditions}
use Rattle.protocol.specs.Effects.{after, cell_at}
use Rattle.protocol.specs.Events.{Event, Admit, Arrive, Ask, End, Abort, Prepare, Vouch, Decide, Seal, Finish}
use Rattle.protocol.specs.Fixed.{Fixed, base, Next, Go, Ended}
use Rattle.protocol.specs.OnBook as book
use Rattle.protocol.specs.Parts.{Act, Book, Joined, Outcome, Pair, Machine}
use Rattle.protocol.specs.Rivals.{Lock}
use Rattle.protocol.specs.Runs.{EachAllowed, IsRun, opening, reached, state_after}
use Rattle.protocol.specs.Spread.{raised, carried, carries_to, crossed_out, stands_behind}
use Rattle.protocol.specs.Verdicts.{died}
use Rattle.protocol.specs.Words.{act_of, greatest, has_act, holds, is_doomed, is_empty, is_ordered, outcome_of}
use Rattle.ready_news.proofs.Asking.{behind_at, group_at, older_at}

abbrev has_joined : Act → Bool
has_joined x = not (is_empty x.places)

-- the ACT of this tid is there, and has joined an actor
abbrev Placed : List Act → ℕ → Type 0
Placed acts t = holds has_joined (act_of t acts) ≡ true

abbrev AllPlaced : List Act → List Pair → Type 0
AllPlaced acts ps = AllByRecursion (λ p. Placed acts p.behind) ps

abbrev Low : ℕ → List Act → Type 0
Low n acts = (t : ℕ) (x : Act) → act_of t acts ≡ Some x → is_empty x.places ≡ true → x.m ≡ n

pub record Off (n : ℕ) (acts : List Act) (ps : List Pair) : Type 0 where
  pub low : Low n acts
  -- who stands behind another one has joined an actor
  pub placed : AllPlaced acts ps

-- ---- lists

empty_map : (f : Joined → Joined) (ps : List Joined) → is_empty (map f ps) ≡ is_empty ps
empty_map f [] = refl
empty_map f (p ∷ ps) = refl

empty_more : (ps : List Joined) (p : Joined) → is_empty (ps ++ p ∷ []) ≡ false
empty_more [] p = refl
empty_more (q ∷ ps) p = refl

all_more : (P Q : Pair → Type 0) → ((p : Pair) → P p → Q p) → (ps : List Pair) → AllByRecursion P ps → AllByRecursion Q ps
all_more P Q f [] h = tt
all_more P Q f (p ∷ ps) h = (f p h.0, all_more P Q f ps h.1)

all_both : (P : Pair → Type 0) (ps qs : List Pair) → AllByRecursion P ps → AllByRecursion P qs → AllByRecursion P (ps ++ qs)
all_both P [] qs h g = g
all_both P (p ∷ ps) qs h g = (h.0, all_both P ps qs h.1 g)

all_fewer : (P : Pair → Type 0) (test : Pair → Bool) (ps : List Pair) → AllByRecursion P ps → AllByRecursion P (filter test ps)
all_fewer P test [] h = tt
all_fewer P test (p ∷ ps) h = by (test p) (all_fewer P test ps h.1)
  where
    by : (c : Bool) → AllByRecursion P (filter test ps) → AllByRecursion P (if c then p ∷ filter test ps else filter test ps)
    by true g = (h.0, g)
    by false g = g

-- ---- a change of each ACT

module _ (f : Act → Act) (tid : (x : Act) → (f x).tid ≡ x.tid) where
  from_mapped : (t : ℕ) (y : Act) (xs : List Act) → act_of t (map f xs) ≡ Some y → (x : Act) × ((act_of t xs ≡ Some x) × (f x ≡ y))
  from_mapped t y [] e = absurd (cc e)
  from_mapped t y (x ∷ xs) e = by (x.tid == t) (subst (λ i. (if i == t then Some (f x) else act_of t (map f xs)) ≡ Some y) (tid x) e) (from_mapped t y xs)
    where
      by : (c : Bool) → (if c then Some (f x) else act_of t (map f xs)) ≡ Some y → (act_of t (map f xs) ≡ Some y → (x : Act) × ((act_of t xs ≡ Some x) × (f x ≡ y))) → (z : Act) × (((if c then Some x else act_of t xs) ≡ Some z) × (f z ≡ y))
      by true q k = (x, (refl, cc q))
      by false q k = k q

  placed_mapped : ((x : Act) → is_empty x.places ≡ false → is_empty (f x).places ≡ false) → (t : ℕ) (xs : List Act) → Placed xs t → Placed (map f xs) t
  placed_mapped stays t [] h = h
  placed_mapped stays t (x ∷ xs) h = subst (λ i. holds has_joined (if i == t then Some (f x) else act_of t (map f xs)) ≡ true) (sym (tid x)) (by (x.tid == t) h (placed_mapped stays t xs))
    where
      by : (c : Bool) → holds has_joined (if c then Some x else act_of t xs) ≡ true → (Placed xs t → Placed (map f xs) t) → holds has_joined (if c then Some (f x) else act_of t (map f xs)) ≡ true
      by true q k = ap not (stays x (not-true (is_empty x.places) q))
      by false q k = k q

  -- it leaves who has joined and the before numbers
  mapped : (n : ℕ) (acts : List Act) (ps : List Pair) → ((x : Act) → is_empty (f x).places ≡ is_empty x.places) → ((x : Act) → (f x).m ≡ x.m) → Off n acts ps → Off n (map f acts) ps
  mapped n acts ps places m h = record {
    low = λ t y e empty. let x = from_mapped t y acts e in subst (λ z. z.m ≡ n) x.1.1 (m x.0 ∙ h.low t x.0 x.1.0 (sym (places x.0) ∙ subst (λ z. is_empty z.places ≡ true) (sym x.1.1) empty));
    placed = all_more (λ p. Placed acts p.behind) (λ p. Placed (map f acts) p.behind) (λ p g. placed_mapped (λ x e. places x ∙ e) p.behind acts g) ps h.placed;
  }

-- a change of one ACT
changed : (n t : ℕ) (f : Act → Act) (acts : List Act) (ps : List Pair) → ((x : Act) → (f x).tid ≡ x.tid) → ((x : Act) → is_empty (f x).places ≡ is_empty x.places) → ((x : Act) → (f x).m ≡ x.m) → Off n acts ps → Off n (book.changed_act t f acts) ps
changed n t f acts ps tid places m h = mapped (λ x. book.change_if (x.tid == t) f x) (λ x. tids (x.tid == t) x) n acts ps (λ x. same (x.tid == t) x) (λ x. numbers (x.tid == t) x) h
  where
    tids : (c : Bool) (x : Act) → (book.change_if c f x).tid ≡ x.tid
    tids true x = tid x
    tids false x = refl

    same : (c : Bool) (x : Act) → is_empty (book.change_if c f x).places ≡ is_empty x.places
    same true x = places x
    same false x = refl

    numbers : (c : Bool) (x : Act) → (book.change_if c f x).m ≡ x.m
    numbers true x = m x
    numbers false x = refl

-- ---- an ACT that begins

from_more : (t : ℕ) (y n : Act) (xs : List Act) → act_of t (xs ++ n ∷ []) ≡ Some y → (P : Act → Type 0) → (act_of t xs ≡ Some y → P y) → P n → P y
from_more t y n [] e P k own = by (n.tid == t) e
  where
    by : (c : Bool) → (if c then Some n else None) ≡ Some y → P y
    by true q = let i : n ≡ y = cc q in subst P i own
    by false q = absurd (cc q)
from_more t y n (x ∷ xs) e P k own = by (x.tid == t) e k (λ q g. from_more t y n xs q P g own)
  where
    by : (c : Bool) → (if c then Some x else act_of t (xs ++ n ∷ [])) ≡ Some y → ((if c then Some x else act_of t xs) ≡ Some y → P y) → (act_of t (xs ++ n ∷ []) ≡ Some y → (act_of t xs ≡ Some y → P y) → P y) → P y
    by true q g r = g q
    by false q g r = r q g

placed_more : (t : ℕ) (n : Act) (xs : List Act) → Placed xs t → Placed (xs ++ n ∷ []) t
placed_more t n [] h = not_so h
placed_more t n (x ∷ xs) h = by (x.tid == t) h (placed_more t n xs)
  where
    by : (c : Bool) → holds has_joined (if c then Some x else act_of t xs) ≡ true → (Placed xs t → Placed (xs ++ n ∷ []) t) → holds has_joined (if c then Some x else act_of t (xs ++ n ∷ [])) ≡ true
    by true q k = q
    by false q k = k q

admitted : (n : ℕ) (x : Act) (acts : List Act) (ps : List Pair) → x.m ≡ n → Off n acts ps → Off n (acts ++ x ∷ []) ps
admitted n x acts ps e h = record {
  low = λ t y f. from_more t y x acts f (λ z. is_empty z.places ≡ true → z.m ≡ n) (λ g. h.low t y g) (λ g. e);
  placed = all_more (λ p. Placed acts p.behind) (λ p. Placed (acts ++ x ∷ []) p.behind) (λ p g. placed_more p.behind x acts g) ps h.placed;
}

-- ---- before numbers rise along pairs alone

-- no pair has it behind
none_behind : (t : ℕ) (x : Act) (acts : List Act) (ps : List Pair) → AllPlaced acts ps → act_of t acts ≡ Some x → is_empty x.places ≡ true → list_any (λ p. p.behind == t) ps ≡ false
none_behind t x acts [] h e empty = refl
none_behind t x acts (p ∷ ps) h e empty = by (p.behind == t) refl (none_behind t x acts ps h.1 e empty)
  where
    by : (c : Bool) → (p.behind == t) ≡ c → list_any (λ p. p.behind == t) ps ≡ false → (c || list_any (λ p. p.behind == t) ps) ≡ false
    by true q g =
        let i : p.behind ≡ t = eqb-true p.behind t q in
        absurd (true≢false (sym (subst (λ o. holds has_joined o ≡ true) e (subst (Placed acts) i h.0)) ∙ ap not empty))
    by false q g = g

stands_nowhere : (t u : ℕ) (ps : List Pair) → list_any (λ p. p.behind == t) ps ≡ false → stands_behind ps t u ≡ false
stands_nowhere t u [] h = refl
stands_nowhere t u (p ∷ ps) h = by (p.behind == t) (p.ahead == u) h (stands_nowhere t u ps)
  where
    by : (c d : Bool) → (c || list_any (λ p. p.behind == t) ps) ≡ false → (list_any (λ p. p.behind == t) ps ≡ false → stands_behind ps t u ≡ false) → ((c && d) || stands_behind ps t u) ≡ false
    by true d g k = not_so (sym g)
    by false d g k = k g

none_carries : (x : Act) (ps : List Pair) (others : List Act) → list_any (λ p. p.behind == x.tid) ps ≡ false → carried ps x others ≡ 0
none_carries x ps [] h = refl
none_carries x ps (u ∷ us) h = subst (λ c. greatest (map (λ u. u.m) (if c then u ∷ filter (carries_to ps x) us else filter (carries_to ps x) us)) ≡ 0) (sym (by (not (is_ordered x.status)) (not (is_doomed u.status)))) (none_carries x ps us h)
  where
    by : (c d : Bool) → (c && (d && stands_behind ps x.tid u.tid)) ≡ false
    by true true = stands_nowhere x.tid u.tid ps h
    by true false = refl
    by false d = refl

-- the ACT as it was before the rise; where nothing carries to it, its number stays
from_raised : (ps : List Pair) (t : ℕ) (y : Act) (xs : List Act) → act_of t (raised ps xs) ≡ Some y → (x : Act) × ((act_of t xs ≡ Some x) × ((x.places ≡ y.places) × (list_any (λ p. p.behind == t) ps ≡ false → y.m ≡ x.m)))
from_raised ps t y [] e = absurd (cc e)
from_raised ps t y (x ∷ xs) e = by (x.tid == t) refl e (from_raised ps t y xs)
  where
    by : (c : Bool) → (x.tid == t) ≡ c → (if c then Some (record x { m = max x.m (carried ps x (raised ps xs)) }) else act_of t (raised ps xs)) ≡ Some y
        → (act_of t (raised ps xs) ≡ Some y → (x : Act) × ((act_of t xs ≡ Some x) × ((x.places ≡ y.places) × (list_any (λ p. p.behind == t) ps ≡ false → y.m ≡ x.m))))
        → (z : Act) × (((if c then Some x else act_of t xs) ≡ Some z) × ((z.places ≡ y.places) × (list_any (λ p. p.behind == t) ps ≡ false → y.m ≡ z.m)))
    by true q f k =
        let is : record x { m = max x.m (carried ps x (raised ps xs)) } ≡ y = cc f in (
          x,
          (
            refl,
            (
              ap (λ z. z.places) is,
              λ none.
                  let zero_is = none_carries x ps (raised ps xs) (subst (λ i. list_any (λ p. p.behind == i) ps ≡ false) (sym (eqb-true x.tid t q)) none) in
                  let m : max x.m (carried ps x (raised ps xs)) ≡ y.m = ap (λ z. z.m) is in
                  omega (arith, zero_is, m),
            ),
          ),
        )
    by false q f k = k f

placed_raised : (ps : List Pair) (t : ℕ) (xs : List Act) → Placed xs t → Placed (raised ps xs) t
placed_raised ps t [] h = h
placed_raised ps t (x ∷ xs) h = by (x.tid == t) h (placed_raised ps t xs)
  where
    by : (c : Bool) → holds has_joined (if c then Some x else act_of t xs) ≡ true → (Placed xs t → Placed (raised ps xs) t) → holds has_joined (if c then Some (record x { m = max x.m (carried ps x (raised ps xs)) }) else act_of t (raised ps xs)) ≡ true
    by true q k = q
    by false q k = k q

rises : (n : ℕ) (acts : List Act) (ps : List Pair) → Off n acts ps → Off n (raised ps acts) ps
rises n acts ps h = record {
  low = λ t y e empty.
      let x = from_raised ps t y acts e in
      let off : is_empty x.0.places ≡ true = ap is_empty x.1.1.0 ∙ empty in
      x.1.1.1 (none_behind t x.0 acts ps h.placed x.1.0 off) ∙ h.low t x.0 x.1.0 off;
  placed = all_more (λ p. Placed acts p.behind) (λ p. Placed (raised ps acts) p.behind) (λ p g. placed_raised ps p.behind acts g) ps h.placed;
}

-- ---- an ACT that asks

joined_placed : (t a m : ℕ) (acts : List Act) → holds (λ x. not (is_doomed x.status)) (act_of t acts) ≡ true → Placed (book.changed_act t (book.joins a m) acts) t
joined_placed t a m [] h = not_so h
joined_placed t a m (x ∷ xs) h = by (x.tid == t) refl h (joined_placed t a m xs)
  where
    by : (c : Bool) → (x.tid == t) ≡ c → holds (λ x. not (is_doomed x.status)) (if c then Some x else act_of t xs) ≡ true
        → (holds (λ x. not (is_doomed x.status)) (act_of t xs) ≡ true → Placed (book.changed_act t (book.joins a m) xs) t)
        → holds has_joined (if (book.change_if c (book.joins a m) x).tid == t then Some (book.change_if c (book.joins a m) x) else act_of t (book.changed_act t (book.joins a m) xs)) ≡ true
    by true q g k = rw q (ap not (empty_more x.places _))
    by false q g k = rw q (k g)

-- the others are as they were, and who joins is off no more
joins_low : (n t a m : ℕ) (acts : List Act) → Low n acts → Low n (book.changed_act t (book.joins a m) acts)
joins_low n t a m acts h u y e empty =
    let x = from_mapped (λ x. book.change_if (x.tid == t) (book.joins a m) x) (λ x. tids (x.tid == t) x) u y acts e in
    by x.0 x.1.0 (x.0.tid == t) (subst (λ z. is_empty z.places ≡ true) (sym x.1.1) empty) (ap (λ z. z.m) x.1.1)
  where
    tids : (c : Bool) (x : Act) → (book.change_if c (book.joins a m) x).tid ≡ x.tid
    tids true x = refl
    tids false x = refl

    by : (x : Act) → act_of u acts ≡ Some x → (c : Bool) → is_empty (book.change_if c (book.joins a m) x).places ≡ true → (book.change_if c (book.joins a m) x).m ≡ y.m → y.m ≡ n
    by x f true off i = absurd (true≢false (sym off ∙ empty_more x.places _))
    by x f false off i = sym i ∙ h u x f off

joins_placed : (t a m : ℕ) (acts : List Act) (u : ℕ) → Placed acts u → Placed (book.changed_act t (book.joins a m) acts) u
joins_placed t a m acts u h = placed_mapped (λ x. book.change_if (x.tid == t) (book.joins a m) x) (λ x. tids (x.tid == t) x) (λ x e. stays (x.tid == t) x e) u acts h
  where
    tids : (c : Bool) (x : Act) → (book.change_if c (book.joins a m) x).tid ≡ x.tid
    tids true x = refl
    tids false x = refl

    stays : (c : Bool) (x : Act) → is_empty x.places ≡ false → is_empty (book.change_if c (book.joins a m) x).places ≡ false
    stays true x e = empty_more x.places _
    stays false x e = e

new_placed : (t a : ℕ) (group : List Lock) (acts after : List Act) → Placed after t → AllPlaced after (book.new_pairs t a group acts)
new_placed t a group acts after h = go (filter (λ x. not (book.is_doomed_act acts x)) group)
  where
    go : (xs : List Lock) → AllPlaced after (map (λ x. record { behind = t; ahead = x.tid; actor = a }) xs)
    go [] = tt
    go (x ∷ xs) = (h, go xs)

asked : (n : ℕ) (o : Option ℕ) (group : List Lock) (t a m : ℕ) (b : Book) → holds (λ x. not (is_doomed x.status)) (act_of t b.acts) ≡ true → Off n b.acts b.pairs → Off n (book.asked_acts o group t a m b) (book.asked_pairs o group t a b)
asked n (Some older) group t a m b there h = changed n t (book.doomed_by (died a older t)) b.acts b.pairs (λ x. refl) (λ x. refl) (λ x. refl) h
asked n None group t a m b there h =
    let joined = book.changed_act t (book.joins a m) b.acts in
    let ps = b.pairs ++ book.new_pairs t a group b.acts in
    let own = joined_placed t a m b.acts there in
    mapped (crossed_out a) (λ x. refl) n (raised ps joined) ps (λ x. refl) (λ x. refl) (rises n joined ps (record {
      low = joins_low n t a m b.acts h.low;
      placed = all_both (λ p. Placed joined p.behind) b.pairs (book.new_pairs t a group b.acts) (all_more (λ p. Placed b.acts p.behind) (λ p. Placed joined p.behind) (λ p g. joins_placed t a m b.acts p.behind g) b.pairs h.placed) (new_placed t a group b.acts joined own);
    }))

-- ---- all events

ended : {C : Type 0} (n t : ℕ) (is_act : Bool) (o : Option (Outcome C)) (acts : List Act) (ps : List Pair) → Off n acts ps → Off n (if is_act then book.noted_from t o acts else acts) ps
ended n t false o acts ps h = h
ended n t true None acts ps h = h
ended {C} n t true (Some x) acts ps h = by x.next
  where
    by : (y : Next C) → Off n (book.noted_for t y acts) ps
    by (Go b control) = h
    by (Ended r) = changed n t (book.with_result r) acts ps (λ x. refl) (λ x. refl) (λ x. refl) h

marks : (n t a : ℕ) (f : Joined → Joined) (acts : List Act) (ps : List Pair) → Off n acts ps → Off n (book.changed_act t (book.marked a f) acts) ps
marks n t a f acts ps h = changed n t (book.marked a f) acts ps (λ x. refl) (λ x. empty_map (λ p. book.mark_if (p.actor == a) f p) x.places) (λ x. refl) h

abbrev IsOff : {C : Type 0} → Fixed C → Machine C → Type 0
IsOff w s = Off (base w.text) s.book.acts s.book.pairs

kept : {C : Type 0} (w : Fixed C) (e : Event) (s : Machine C) → IsAllowed w e s → IsOff w s → IsOff w (after w e s)
unfolding conditions after
kept w (Admit t) s ok h = admitted (base w.text) _ s.book.acts s.book.pairs refl h
kept w (Arrive k a) s ok h = mapped (crossed_out a) (λ x. refl) _ _ _ (λ x. refl) (λ x. refl) (mapped (book.lowered k (book.tids_on (cell_at s a).entries)) (λ x. refl) _ _ _ (λ x. refl) (λ x. refl) h)
kept w (Ask t a) s ok h = asked (base w.text) (older_at t a s) (group_at t a s) t a (behind_at t a s) s.book ok.1.0 h
kept w (End t a) s ok h = ended (base w.text) t (has_act t (cell_at s a).entries) (outcome_of t (cell_at s a).outbox) s.book.acts s.book.pairs h
kept w (Abort k) s ok h = mapped (book.cascaded k (book.failed_tx (book.why k s.desk))) (λ x. refl) _ _ _ (λ x. refl) (λ x. refl) h
kept w (Prepare t a) s ok h = marks (base w.text) t a book.is_prepared s.book.acts s.book.pairs h
kept w (Vouch t a) s ok h = marks (base w.text) t a book.is_vouched s.book.acts s.book.pairs h
kept w (Decide t) s ok h = changed (base w.text) t (book.decided_as s.book.next_c) s.book.acts s.book.pairs (λ x. refl) (λ x. refl) (λ x. refl) h
kept w (Seal t) s ok h = changed (base w.text) t book.sealed s.book.acts s.book.pairs (λ x. refl) (λ x. refl) (λ x. refl) h
kept w (Finish t a) s ok h = marks (base w.text) t a book.has_left s.book.acts _ (record { low = h.low; placed = all_fewer (λ p. Placed s.book.acts p.behind) (λ p. not ((p.ahead == t) && (p.actor == a))) s.book.pairs h.placed })
kept w e s ok h = h

-- ---- over every run

along : {C : Type 0} (w : Fixed C) (es : List Event) (s : Machine C) → EachAllowed w es s → IsOff w s → IsOff w (state_after w es s)
along w [] s run h = h
along w (e ∷ es) s run h = along w es (after w e s) run.1 (kept w e s run.0 h)

pub off_actors : {C : Type 0} (w : Fixed C) (es : List Event) → IsRun w es → (t : ℕ) (x : Act) → act_of t (reached w es).book.acts ≡ Some x → is_empty x.places ≡ true → x.m ≡ base w.text
off_actors w es run = (along w es (opening w) run (record { low = λ t x e. absurd (cc e); placed = tt })).low
