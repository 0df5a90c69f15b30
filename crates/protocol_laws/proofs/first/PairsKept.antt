-- Every event keeps what pairs and before numbers say.
use Rattle.std.specs.Prelude.{◌≡◌, ◌≢◌, refl, ℕ, zero, suc, ◌<◌, ◌≤◌, ◌==◌, nat_lt, max, not, Bool, true, false, if◌then◌else◌, Option, Some, None, List, [], ◌∷◌, ◌++◌, map, filter, slice_get, slice_index_or}
use Rattle.std.specs.List.{AllByRecursion}
use Rattle.std.proofs.Common.{arith, inl, inr}
use Rattle.std.proofs.lemmas.Bool.{eqb-false, ltb-false, or_parts, not-true, cases_lt}
use Rattle.protocol.specs.Fixed.{Fixed, base, Next, Go, Ended}
use Rattle.protocol.specs.Rivals.{Lock, rivals}
use Rattle.protocol.specs.Parts.{Act, Pair, Book, Entry, BatchEntry, ActEntry, Outcome, Cell, Machine}
use Rattle.protocol.specs.Events.{Event, Admit, Arrive, Ask, End, Abort, Prepare, Vouch, Decide, Seal, Finish}
use Rattle.protocol.specs.Words.{has_act, group_behind, tail_group, least_older, least_of, outcome_of, holds, lock_of, floor_at}
use Rattle.protocol.specs.Spread.{raised, crossed_out}
use Rattle.protocol.specs.Conditions.{IsAllowed, conditions}
use Rattle.protocol.specs.Effects.{after, cell_at, no_cell}
use Rattle.protocol.specs.Runs.{opening}
use Rattle.protocol.specs.OnBook as book
use Rattle.protocol.specs.Standing.{IsOlder}
use Rattle.protocol_laws.proofs.first.Pairs as pairs
use Rattle.protocol_laws.proofs.first.Lists.{all_filter, all_join, all_map}

-- ---- lists

-- ---- who asks stands behind younger ones

none_older : (t : ℕ) (xs : List Lock) → least_older t xs ≡ None → AllByRecursion (λ x. t ≤ x.tid) xs
none_older t [] h = tt
none_older t (x ∷ xs) h = by (none_older t xs) (nat_lt x.tid t) refl h
  where
    by : (least_older t xs ≡ None → AllByRecursion (λ x. t ≤ x.tid) xs) → (b : Bool) → nat_lt x.tid t ≡ b → (if b then Some (least_of x.tid (least_older t xs)) else least_older t xs) ≡ None → AllByRecursion (λ x. t ≤ x.tid) (x ∷ xs)
    by rest true e h = absurd (cc h)
    by rest false e h = (ltb-false x.tid t e, rest h)

not_there : (t : ℕ) (seen : List Lock) (es : List Entry) → has_act t es ≡ false → AllByRecursion (λ x. x.tid ≢ t) seen → AllByRecursion (λ x. x.tid ≢ t) (group_behind seen es)
not_there t seen [] h k = k
not_there t seen (BatchEntry b ∷ es) h k = not_there t [] es h tt
not_there t seen (ActEntry x ∷ es) h k =
    let p = or_parts (x.tid == t) (has_act t es) h in
    not_there t (seen ++ x ∷ []) es p.1 (all_join (λ x. x.tid ≢ t) seen (x ∷ []) k (eqb-false x.tid t p.0, tt))

both : (t : ℕ) (xs : List Lock) → AllByRecursion (λ x. t ≤ x.tid) xs → AllByRecursion (λ x. x.tid ≢ t) xs → AllByRecursion (λ x. t < x.tid) xs
both t [] h k = tt
both t (x ∷ xs) h k = (strictly x.tid h.0 k.0, both t xs h.1 k.1)
  where
    strictly : (u : ℕ) → t ≤ u → u ≢ t → t < u
    strictly u p q = elim (cases_lt t u) [ inl a ↦ a | inr b ↦ absurd (q (omega (arith, p, b))) ]

younger : {C : Type 0} (t : ℕ) (acts : List Act) (c : Cell C) → has_act t c.entries ≡ false → book.in_the_way (lock_of t acts) c.entries ≡ None → AllByRecursion (λ x. t < x.tid) (book.met (lock_of t acts) c.entries)
younger t acts c h e = both t (book.met (lock_of t acts) c.entries) (none_older t (book.met (lock_of t acts) c.entries) e) (all_filter (λ x. x.tid ≢ t) (rivals (lock_of t acts)) (tail_group c.entries) (not_there t [] c.entries h tt))

new_older : (t a : ℕ) (group : List Lock) (acts : List Act) → AllByRecursion (λ x. t < x.tid) group → AllByRecursion IsOlder (book.new_pairs t a group acts)
new_older t a group acts h = all_map (λ x. t < x.tid) IsOlder (λ x. record { behind = t; ahead = x.tid; actor = a }) (filter (λ x. not (book.is_doomed_act acts x)) group) (λ x k. k) (all_filter (λ x. t < x.tid) (λ x. not (book.is_doomed_act acts x)) group h)

-- ---- what is kept of the book

pub record Stands (n : ℕ) (acts : List Act) (ps : List Pair) : Type 0 where
  pub older : AllByRecursion IsOlder ps
  pub carried : pairs.CarriedOn ps acts
  pub based : pairs.Based n acts

pub Standing : {C : Type 0} → Fixed C → Machine C → Type 0
Standing w s = Stands (base w.text) s.book.acts s.book.pairs

-- each ACT changes alike
mapped : (n : ℕ) (f : Act → Act) (acts : List Act) (ps : List Pair) → ((x : Act) → pairs.Keeps x (f x)) → Stands n acts ps → Stands n (map f acts) ps
mapped n f acts ps k h = record {
  older = h.older;
  carried = pairs.carried_kept ps f acts k h.carried;
  based = pairs.based_map n f acts (λ x e. omega (arith, e, (k x).m)) h.based;
}

asked : {C : Type 0} (n : ℕ) (o : Option ℕ) (group : List Lock) (t a : ℕ) (c : Cell C) (b : Book) → (o ≡ None → AllByRecursion (λ x. t < x.tid) group)
    → Stands n b.acts b.pairs → Stands n (book.asked_acts o group t a (max c.last (floor_at t b.acts c)) b) (book.asked_pairs o group t a b)
asked n (Some older) group t a c b k h = mapped n _ b.acts b.pairs (pairs.changed_keeps t _ (pairs.doomed_keeps _)) h
asked n None group t a c b k h =
    let ps = b.pairs ++ book.new_pairs t a group b.acts in
    let joined = book.changed_act t (book.joins a (max c.last (floor_at t b.acts c))) b.acts in
    mapped n (crossed_out a) (raised ps joined) ps (pairs.crossed_keeps a) (record {
      older = all_join IsOlder b.pairs _ h.older (new_older t a group b.acts (k refl));
      carried = pairs.raised_carries ps joined;
      based = pairs.based_raised n ps joined (pairs.based_map n _ b.acts (λ x e. joins_based (x.tid == t) x e) h.based);
    })
  where
    joins_based : (q : Bool) (x : Act) → n ≤ x.m → n ≤ (book.change_if q (book.joins a (max c.last (floor_at t b.acts c))) x).m
    joins_based true x e = omega (arith, e)
    joins_based false x e = e

ended : {C : Type 0} (n t : ℕ) (b : Bool) (o : Option (Outcome C)) (acts : List Act) (ps : List Pair) → Stands n acts ps → Stands n (if b then book.noted_from t o acts else acts) ps
ended n t false o acts ps h = h
ended n t true None acts ps h = h
ended {C} n t true (Some x) acts ps h = by x.next
  where
    by : (y : Next C) → Stands n (book.noted_for t y acts) ps
    by (Go d control) = h
    by (Ended r) = mapped n _ acts ps (pairs.changed_keeps t _ (pairs.result_keeps r)) h

no_entry : {C : Type 0} (t : ℕ) (cells : List (Cell C)) (a : ℕ) → holds (λ c. not (has_act t c.entries)) (slice_get cells a) ≡ true → has_act t (slice_index_or cells a no_cell).entries ≡ false
no_entry t [] a h = refl
no_entry t (c ∷ cs) zero h = not-true (has_act t c.entries) h
no_entry t (c ∷ cs) (suc a) h = no_entry t cs a h

pub kept : {C : Type 0} (w : Fixed C) (e : Event) (s : Machine C) → IsAllowed w e s → Standing w s → Standing w (after w e s)
unfolding Standing conditions after
kept w (Admit t) s ok h = record {
  older = h.older;
  carried = pairs.carried_more (base w.text) s.book.pairs _ s.book.acts refl h.based h.carried;
  based = pairs.based_more (base w.text) s.book.acts _ (omega arith) h.based;
}
kept w (Arrive k a) s ok h = mapped _ (crossed_out a) _ _ (pairs.crossed_keeps a) (mapped _ (book.lowered k (book.tids_on (cell_at s a).entries)) _ _ (pairs.lowered_keeps k _) h)
kept w (Ask t a) s ok h = asked (base w.text) (book.in_the_way (lock_of t s.book.acts) (cell_at s a).entries) (book.met (lock_of t s.book.acts) (cell_at s a).entries) t a (cell_at s a) s.book (younger t s.book.acts (cell_at s a) (no_entry t s.cells a ok.1.1.0)) h
kept w (End t a) s ok h = ended (base w.text) t (has_act t (cell_at s a).entries) (outcome_of t (cell_at s a).outbox) s.book.acts s.book.pairs h
kept w (Abort k) s ok h = mapped _ _ _ _ (pairs.cascaded_keeps k _) h
kept w (Prepare t a) s ok h = mapped _ _ _ _ (pairs.changed_keeps t _ (pairs.marked_keeps a book.is_prepared)) h
kept w (Vouch t a) s ok h = mapped _ _ _ _ (pairs.changed_keeps t _ (pairs.marked_keeps a book.is_vouched)) h
kept w (Decide t) s ok h = mapped _ _ _ _ (pairs.changed_keeps t _ (pairs.decided_keeps s.book.next_c)) h
kept w (Seal t) s ok h = mapped _ _ _ _ (pairs.changed_keeps t _ pairs.sealed_keeps) h
kept w (Finish t a) s ok h = mapped _ _ _ _ (pairs.changed_keeps t _ (pairs.marked_keeps a book.has_left)) (record {
  older = all_filter IsOlder _ s.book.pairs h.older;
  carried = pairs.carried_fewer s.book.pairs _ s.book.acts (pairs.filtered_behind _ s.book.pairs) h.carried;
  based = h.based;
})
kept w e s ok h = h

pub standing_is : {C : Type 0} (w : Fixed C) (s : Machine C) → Standing w s → Stands (base w.text) s.book.acts s.book.pairs
unfolding Standing
standing_is w s h = h

pub opened : {C : Type 0} (w : Fixed C) → Standing w (opening w)
unfolding Standing
opened w = record { older = tt; carried = pairs.none_carried []; based = pairs.none_based (base w.text) }
