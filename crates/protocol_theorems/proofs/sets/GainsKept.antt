-- Gains are the pairs whose ACT ahead is not doomed, and those ACTs are in the book, event by event.
use Rattle.std.specs.Prelude.{◌≡◌, refl, ℕ, ◌==◌, max, not, Bool, true, false, ◌&&◌, if◌then◌else◌, Option, Some, None, is_some, List, [], ◌∷◌, ◌++◌, map, filter}
use Rattle.std.specs.List.{AllByRecursion}
use Rattle.std.proofs.Common.{sym, ap, subst, ◌∙◌}
use Rattle.std.proofs.lemmas.Bool.{true≢false}
use Rattle.protocol.specs.Fixed.{Fixed, Next, Go, Ended}
use Rattle.protocol.specs.Rivals.{Lock, rivals}
use Rattle.protocol.specs.Parts.{Act, Pair, Book, Outcome, OfBatch, OfAct, Entry, BatchEntry, ActEntry, Cell, Machine}
use Rattle.protocol.specs.Events.{Event, Admit, Arrive, Ask, End, Abort, Prepare, Vouch, Decide, Seal, Finish}
use Rattle.protocol.specs.Words.{holds, is_doomed, is_value, act_of, has_act, outcome_of, group_behind, tail_group, lock_of}
use Rattle.protocol.specs.Effects.{after, cell_at}
use Rattle.protocol.specs.OnBook as book
use Rattle.protocol.specs.History.{History, Ran, Stands, Gone, grown, carrying, is_none, gains_after_ask}
use Rattle.protocol_laws.specs.Turns.{Turns}
use Rattle.protocol_laws.specs.Highs.{doomed_at}
use Rattle.protocol_laws.specs.Befores.{is_above, Befores}
use Rattle.protocol_laws.proofs.machine.ActsGrow.{Grows, acts_grow, grown_holds}
use Rattle.protocol_laws.proofs.machine.BeforesKept.{Numbers}
use Rattle.protocol_laws.proofs.machine.TurnsKept.{Turned}
use Rattle.protocol_laws.proofs.first.Lists.{all_join, all_map, all_filter, weaker}
use Rattle.protocol_laws.proofs.first.Statuses.{decided_doomed, if_tid, sealed_doomed}
use Rattle.protocol_laws.proofs.machine.QueuedKept.{found_some}

abbrev pub out : List Act → Pair → Bool
out acts p = doomed_at acts p.ahead

-- ---- who is doomed is so to begin with

twice : (acts acts' : List Act) (ps : List Pair) → ((p : Pair) → out acts p ≡ true → out acts' p ≡ true) → carrying acts' (carrying acts ps) ≡ carrying acts' ps
twice acts acts' [] k = refl
twice acts acts' (p ∷ ps) k = by (out acts p) refl (out acts' p) refl (twice acts acts' ps k)
  where
    by : (b : Bool) → out acts p ≡ b → (c : Bool) → out acts' p ≡ c → carrying acts' (carrying acts ps) ≡ carrying acts' ps
        → carrying acts' (if not b then p ∷ carrying acts ps else carrying acts ps) ≡ (if not c then p ∷ carrying acts' ps else carrying acts' ps)
    by true e true f r = r
    by true e false f r = absurd (true≢false (sym (k p e) ∙ f))
    by false e true f r = rw f r
    by false e false f r = rw (f, r) refl

out_grows : (acts acts' : List Act) (p : Pair) → Grows acts acts' → out acts p ≡ true → out acts' p ≡ true
out_grows acts acts' p g h = grown_holds (λ x. is_doomed x.status) acts acts' p.ahead (λ x y k q. k.doomed q) g h

pub carrying_join : (acts : List Act) (ps qs : List Pair) → carrying acts (ps ++ qs) ≡ carrying acts ps ++ carrying acts qs
carrying_join acts [] qs = refl
carrying_join acts (p ∷ ps) qs = by (out acts p) (carrying_join acts ps qs)
  where
    by : (b : Bool) → carrying acts (ps ++ qs) ≡ carrying acts ps ++ carrying acts qs → (if not b then p ∷ carrying acts (ps ++ qs) else carrying acts (ps ++ qs)) ≡ (if not b then p ∷ carrying acts ps else carrying acts ps) ++ carrying acts qs
    by true r = r
    by false r = rw r refl

-- ---- events that doom nobody

pub same_out : (acts acts' : List Act) (ps : List Pair) → ((p : Pair) → out acts' p ≡ out acts p) → carrying acts' ps ≡ carrying acts ps
same_out acts acts' [] k = refl
same_out acts acts' (p ∷ ps) k = rw (k p, same_out acts acts' ps k) refl

out_map : (f : Act → Act) (xs : List Act) (p : Pair) → ((x : Act) → (f x).tid ≡ x.tid) → ((x : Act) → is_doomed (f x).status ≡ is_doomed x.status) → out (map f xs) p ≡ out xs p
out_map f [] p i k = refl
out_map f (x ∷ xs) p i k = subst (λ z. holds (λ y. is_doomed y.status) (if z == p.ahead then Some (f x) else act_of p.ahead (map f xs)) ≡ out (x ∷ xs) p) (sym (i x)) (by (x.tid == p.ahead) (out_map f xs p i k))
  where
    by : (b : Bool) → out (map f xs) p ≡ out xs p → holds (λ y. is_doomed y.status) (if b then Some (f x) else act_of p.ahead (map f xs)) ≡ holds (λ y. is_doomed y.status) (if b then Some x else act_of p.ahead xs)
    by true r = k x
    by false r = r

out_more : (n : Act) (xs : List Act) (p : Pair) → is_doomed n.status ≡ false → out (xs ++ n ∷ []) p ≡ out xs p
out_more n [] p e = by (n.tid == p.ahead)
  where
    by : (b : Bool) → holds (λ y. is_doomed y.status) (if b then Some n else None) ≡ false
    by true = e
    by false = refl
out_more n (x ∷ xs) p e = by (x.tid == p.ahead) (out_more n xs p e)
  where
    by : (b : Bool) → out (xs ++ n ∷ []) p ≡ out xs p → holds (λ y. is_doomed y.status) (if b then Some x else act_of p.ahead (xs ++ n ∷ [])) ≡ holds (λ y. is_doomed y.status) (if b then Some x else act_of p.ahead xs)
    by true r = refl
    by false r = r

if_out : (v : Bool) (f : Act → Act) (x : Act) → is_doomed (f x).status ≡ is_doomed x.status → is_doomed (book.change_if v f x).status ≡ is_doomed x.status
if_out true f x h = h
if_out false f x h = refl

pub out_changed : (t : ℕ) (f : Act → Act) (xs : List Act) (p : Pair) → ((x : Act) → (f x).tid ≡ x.tid) → ((x : Act) → is_doomed (f x).status ≡ is_doomed x.status) → out (book.changed_act t f xs) p ≡ out xs p
out_changed t f xs p i k = out_map (λ x. book.change_if (x.tid == t) f x) xs p (λ x. if_tid (x.tid == t) f x (i x)) (λ x. if_out (x.tid == t) f x (k x))

ended_out : {C : Type 0} (t : ℕ) (b : Bool) (o : Option (Outcome C)) (xs : List Act) (p : Pair) → out (if b then book.noted_from t o xs else xs) p ≡ out xs p
ended_out t false o xs p = refl
ended_out t true None xs p = refl
ended_out {C} t true (Some x) xs p = by x.next
  where
    by : (y : Next C) → out (book.noted_for t y xs) p ≡ out xs p
    by (Go b c) = refl
    by (Ended r) = out_changed t (book.with_result r) xs p (λ x. refl) (λ x. refl)

-- ---- gains

unfoldable pub GainsAre : {C : Type 0} → Machine C → History → Type 0
GainsAre s h = h.gains ≡ carrying s.book.acts s.book.pairs

swap : (q : Pair → Bool) (acts : List Act) (ps : List Pair) → filter q (carrying acts ps) ≡ carrying acts (filter q ps)
swap q acts [] = refl
swap q acts (p ∷ ps) = by (q p) refl (out acts p) refl (swap q acts ps)
  where
    by : (b : Bool) → q p ≡ b → (c : Bool) → out acts p ≡ c → filter q (carrying acts ps) ≡ carrying acts (filter q ps)
        → filter q (if not c then p ∷ carrying acts ps else carrying acts ps) ≡ carrying acts (if b then p ∷ filter q ps else filter q ps)
    by true e true f r = rw f r
    by true e false f r = rw (e, f, r) refl
    by false e true f r = r
    by false e false f r = rw e r

asked : {C : Type 0} (t a : ℕ) (o : Option ℕ) (s : Machine C) (h : History) (acts' : List Act) → Grows s.book.acts acts' → h.gains ≡ carrying s.book.acts s.book.pairs
    → carrying acts' (gains_after_ask (is_none o) t a s h) ≡ carrying acts' (book.asked_pairs o (book.met (lock_of t s.book.acts) (cell_at s a).entries) t a s.book)
asked t a (Some x) s h acts' g e = ap (carrying acts') e ∙ twice s.book.acts acts' s.book.pairs (λ p q. out_grows s.book.acts acts' p g q)
asked t a None s h acts' g e =
    let new = book.new_pairs t a (book.met (lock_of t s.book.acts) (cell_at s a).entries) s.book.acts in
    carrying_join acts' h.gains new ∙ (ap (λ z. z ++ carrying acts' new) (ap (carrying acts') e ∙ twice s.book.acts acts' s.book.pairs (λ p q. out_grows s.book.acts acts' p g q)) ∙ sym (carrying_join acts' s.book.pairs new))

pub gains_kept : {C : Type 0} (w : Fixed C) (e : Event) (s : Machine C) (h : History) → GainsAre s h → GainsAre (after w e s) (grown w e s h)
unfolding GainsAre after grown
gains_kept w (Admit t) s h g = g ∙ sym (same_out s.book.acts _ s.book.pairs (λ p. out_more _ s.book.acts p refl))
gains_kept w (Arrive k a) s h g = ap (carrying (after w (Arrive k a) s).book.acts) g ∙ twice s.book.acts (after w (Arrive k a) s).book.acts s.book.pairs (λ p q. out_grows s.book.acts (after w (Arrive k a) s).book.acts p (acts_grow w (Arrive k a) s) q)
gains_kept w (Ask t a) s h g = asked t a (book.in_the_way (lock_of t s.book.acts) (cell_at s a).entries) s h (after w (Ask t a) s).book.acts (acts_grow w (Ask t a) s) g
gains_kept w (End t a) s h g = g ∙ sym (same_out s.book.acts _ s.book.pairs (λ p. ended_out t (has_act t (cell_at s a).entries) (outcome_of t (cell_at s a).outbox) s.book.acts p))
gains_kept w (Abort k) s h g = ap (carrying (after w (Abort k) s).book.acts) g ∙ twice s.book.acts (after w (Abort k) s).book.acts s.book.pairs (λ p q. out_grows s.book.acts (after w (Abort k) s).book.acts p (acts_grow w (Abort k) s) q)
gains_kept w (Prepare t a) s h g = g ∙ sym (same_out s.book.acts _ s.book.pairs (λ p. out_changed t _ s.book.acts p (λ x. refl) (λ x. refl)))
gains_kept w (Vouch t a) s h g = g ∙ sym (same_out s.book.acts _ s.book.pairs (λ p. out_changed t _ s.book.acts p (λ x. refl) (λ x. refl)))
gains_kept w (Decide t) s h g = g ∙ sym (same_out s.book.acts _ s.book.pairs (λ p. out_changed t _ s.book.acts p (λ x. refl) (λ x. decided_doomed s.book.next_c (is_value x.result) x.status)))
gains_kept w (Seal t) s h g = g ∙ sym (same_out s.book.acts _ s.book.pairs (λ p. out_changed t _ s.book.acts p (λ x. refl) (λ x. sealed_doomed x.status)))
gains_kept w (Finish t a) s h g = ap (filter (λ p. not ((p.ahead == t) && (p.actor == a)))) g ∙ (swap (λ p. not ((p.ahead == t) && (p.actor == a))) s.book.acts s.book.pairs ∙ sym (same_out s.book.acts _ (filter (λ p. not ((p.ahead == t) && (p.actor == a))) s.book.pairs) (λ p. out_changed t _ s.book.acts p (λ x. refl) (λ x. refl))))
gains_kept w e s h g = g

-- ---- who stands ahead is in the book

abbrev pub IsIn : List Act → ℕ → Type 0
IsIn acts t = is_some (act_of t acts) ≡ true

pub in_grows : (acts acts' : List Act) (t : ℕ) → Grows acts acts' → IsIn acts t → IsIn acts' t
in_grows acts acts' t g h = is_there (act_of t acts') (grown_holds (λ x. true) acts acts' t (λ x y k q. q) g (there (act_of t acts) h))
  where
    there : (o : Option Act) → is_some o ≡ true → holds (λ x. true) o ≡ true
    there None e = e
    there (Some x) e = refl

    is_there : (o : Option Act) → holds (λ x. true) o ≡ true → is_some o ≡ true
    is_there None e = e
    is_there (Some x) e = refl

abbrev pub AllIn : List Act → List Pair → Type 0
AllIn acts ps = AllByRecursion (λ p. IsIn acts p.ahead) ps

unfoldable pub PairsIn : {C : Type 0} → Machine C → Type 0
PairsIn s = AllIn s.book.acts s.book.pairs

group_in : (acts : List Act) (top : ℕ) (seen : List Lock) (rs : List Ran) (es : List Entry) → Turns rs es → Befores acts top rs → AllByRecursion (λ x. IsIn acts x.tid) seen → AllByRecursion (λ x. IsIn acts x.tid) (group_behind seen es)
group_in acts top seen [] [] t b h = h
group_in acts top seen [] (e ∷ es) t b h = absurd t
group_in acts top seen (Gone (OfBatch j) ss ∷ rs) es t b h = group_in acts (max top j) seen rs es t b h
group_in acts top seen (Gone (OfAct u) ss ∷ rs) es t b h = group_in acts top seen rs es t b h
group_in acts top seen (Stands y c ss ∷ rs) [] t b h = absurd t
group_in acts top seen (Stands (OfBatch j) c ss ∷ rs) (ActEntry x ∷ es) t b h = absurd (cc t.0)
group_in acts top seen (Stands (OfBatch j) c ss ∷ rs) (BatchEntry k ∷ es) t b h = group_in acts (max top j) [] rs es t.2 b tt
group_in acts top seen (Stands (OfAct u) c ss ∷ rs) (BatchEntry k ∷ es) t b h = absurd (cc t.0)
group_in acts top seen (Stands (OfAct u) c ss ∷ rs) (ActEntry x ∷ es) t b h = let i : x.tid ≡ u = cc t.0 in group_in acts top (seen ++ x ∷ []) rs es t.2 b.1 (all_join (λ x. IsIn acts x.tid) seen (x ∷ []) h (subst (IsIn acts) (sym i) (found_some (is_above top) (act_of u acts) b.0), tt))

-- so are those that an Ask pairs with
pub new_in : {C : Type 0} (t a : ℕ) (c : Cell C) (acts : List Act) (rs : List Ran) → Turns rs c.entries → Befores acts 0 rs → AllIn acts (book.new_pairs t a (book.met (lock_of t acts) c.entries) acts)
new_in t a c acts rs r b = all_map (λ x. IsIn acts x.tid) (λ p. IsIn acts p.ahead) (λ x. record { behind = t; ahead = x.tid; actor = a }) (filter (λ x. not (book.is_doomed_act acts x)) (book.met (lock_of t acts) c.entries)) (λ x h. h)
    (all_filter (λ x. IsIn acts x.tid) (λ x. not (book.is_doomed_act acts x)) (book.met (lock_of t acts) c.entries) (all_filter (λ x. IsIn acts x.tid) (rivals (lock_of t acts)) (tail_group c.entries) (group_in acts 0 [] rs c.entries r b tt)))

asked_in : {C : Type 0} (t a : ℕ) (o : Option ℕ) (c : Cell C) (b : Book) (rs : List Ran) → Turns rs c.entries → Befores b.acts 0 rs → AllIn b.acts b.pairs → AllIn b.acts (book.asked_pairs o (book.met (lock_of t b.acts) c.entries) t a b)
asked_in t a (Some x) c b rs r n h = h
asked_in t a None c b rs r n h = all_join (λ p. IsIn b.acts p.ahead) b.pairs _ h (new_in t a c b.acts rs r n)

pub in_kept : {C : Type 0} (w : Fixed C) (e : Event) (s : Machine C) (h : History) → Turned s h → Numbers s h → PairsIn s → PairsIn (after w e s)
unfolding PairsIn Turned Numbers after
in_kept w (Ask t a) s h r n g = weaker (λ p. IsIn s.book.acts p.ahead) (λ p. IsIn (after w (Ask t a) s).book.acts p.ahead) _ (λ p q. in_grows s.book.acts (after w (Ask t a) s).book.acts p.ahead (acts_grow w (Ask t a) s) q) (asked_in t a (book.in_the_way (lock_of t s.book.acts) (cell_at s a).entries) (cell_at s a) s.book (h.long a) (r a) (n a) g)
in_kept w (Finish t a) s h r n g = weaker (λ p. IsIn s.book.acts p.ahead) (λ p. IsIn (after w (Finish t a) s).book.acts p.ahead) _ (λ p q. in_grows s.book.acts (after w (Finish t a) s).book.acts p.ahead (acts_grow w (Finish t a) s) q) (all_filter (λ p. IsIn s.book.acts p.ahead) (λ p. not ((p.ahead == t) && (p.actor == a))) s.book.pairs g)
in_kept w e s h r n g = weaker (λ p. IsIn s.book.acts p.ahead) (λ p. IsIn (after w e s).book.acts p.ahead) s.book.pairs (λ p q. in_grows s.book.acts (after w e s).book.acts p.ahead (acts_grow w e s) q) g
