-- What an event leaves of each ACT, but for its after number.
use Rattle.std.specs.Prelude.{◌≡◌, refl, ℕ, ◌==◌, ◌≤◌, nat_le, max, Bool, true, false, not, ◌&&◌, ◌||◌, if◌then◌else◌, Option, Some, None, option_map, List, [], ◌∷◌, ◌++◌, map, filter, find}
use Rattle.std.specs.List.{list_all}
use Rattle.std.proofs.Common.{arith, sym, ap, subst, ◌∙◌}
use Rattle.std.proofs.lemmas.Bool.{eqb-true, eq-eqb, or_parts, true≢false, leb-true}
use Rattle.snap_base.specs.declared.transactions.TxResult.{TxResult}
use Rattle.protocol.specs.Fixed.{Fixed, Next, Go, Ended}
use Rattle.protocol.specs.Rivals.{Lock}
use Rattle.protocol.specs.Parts.{Act, Joined, Pair, Book, Outcome, Machine}
use Rattle.protocol.specs.Events.{Event, Admit, Arrive, Ask, End, Abort, Prepare, Vouch, Decide, Seal, Finish}
use Rattle.protocol.specs.Words.{is_value, is_among, holds, is_failure, is_doomed, is_live_act, is_vouched_everywhere, joined_of, act_of, has_act, outcome_of}
use Rattle.protocol.specs.Spread.{raised, carried, is_crossed, crossed_out, doomed_by_order}
use Rattle.protocol.specs.OnBook as book
use Rattle.protocol.specs.Effects.{after, cell_at}
use Rattle.protocol_laws.proofs.first.Statuses.{decided_doomed, sealed_doomed}
use Rattle.protocol_ready.specs.Touched.{changes_doom, crossed_tids, risen_tids, asked_tids, changes_act, changes_prepared, changes_vouched, changes_finished, changes_votes, changes_left, is_abort}
use Rattle.protocol_ready.proofs.TouchedParts.{find_append}

-- ---- without its after number

abbrev pub forgets : Act → Act
forgets x = record x { n = None }

abbrev pub seen : ℕ → List Act → Option Act
seen t acts = option_map forgets (act_of t acts)

-- a test that does not look at the after number
pub seen_holds : (p : Act → Bool) (x y : Option Act) → ((a : Act) → p (forgets a) ≡ p a) → option_map forgets x ≡ option_map forgets y → holds p x ≡ holds p y
seen_holds p x y h e = sym (through x) ∙ (ap (holds p) e ∙ through y)
  where
    through : (o : Option Act) → holds p (option_map forgets o) ≡ holds p o
    through None = refl
    through (Some a) = h a

-- ---- one ACT among all

pub act_other : (t u : ℕ) (f : Act → Act) (xs : List Act) → ((x : Act) → (f x).tid ≡ x.tid) → (u == t) ≡ false → act_of t (book.changed_act u f xs) ≡ act_of t xs
act_other t u f [] k h = refl
act_other t u f (x ∷ xs) k h = by (x.tid == u) refl (act_other t u f xs k h)
  where
    by : (b : Bool) → (x.tid == u) ≡ b → act_of t (book.changed_act u f xs) ≡ act_of t xs
        → (if (book.change_if b f x).tid == t then Some (book.change_if b f x) else act_of t (book.changed_act u f xs)) ≡ (if x.tid == t then Some x else act_of t xs)
    by true e r =
        let q : (x.tid == t) ≡ false = subst (λ n. (n == t) ≡ false) (sym (eqb-true x.tid u e)) h in
        rw (k x, q) r
    by false e r = rw r refl

-- ---- doom and rise

pub crossed_other : (t a : ℕ) (xs : List Act) → is_among t (crossed_tids xs) ≡ false → act_of t (doomed_by_order a xs) ≡ act_of t xs
crossed_other t a [] h = refl
crossed_other t a (x ∷ xs) h = by (is_crossed x) refl h (crossed_other t a xs)
  where
    by : (b : Bool) → is_crossed x ≡ b → is_among t (map (λ x. x.tid) (if b then x ∷ filter is_crossed xs else filter is_crossed xs)) ≡ false
        → (is_among t (crossed_tids xs) ≡ false → act_of t (doomed_by_order a xs) ≡ act_of t xs) → act_of t (crossed_out a x ∷ doomed_by_order a xs) ≡ act_of t (x ∷ xs)
    by true e q r =
        let o = or_parts (x.tid == t) (is_among t (crossed_tids xs)) q in
        rw o.0 (r o.1)
    by false e q r = rw (e, r q) refl

lowered_seen : (t k : ℕ) (tids : List ℕ) (xs : List Act) → seen t (map (book.lowered k tids) xs) ≡ seen t xs
lowered_seen t k tids [] = refl
lowered_seen t k tids (x ∷ xs) = by (x.tid == t) (lowered_seen t k tids xs)
  where
    by : (b : Bool) → seen t (map (book.lowered k tids) xs) ≡ seen t xs
        → option_map forgets (if b then Some (book.lowered k tids x) else act_of t (map (book.lowered k tids) xs)) ≡ option_map forgets (if b then Some x else act_of t xs)
    by true r = refl
    by false r = r

max_left : (m n : ℕ) → n ≤ m → max m n ≡ m
max_left m n h = omega (arith, h)

pub raised_other : (t : ℕ) (pairs : List Pair) (xs : List Act) → is_among t (risen_tids pairs xs) ≡ false → act_of t (raised pairs xs) ≡ act_of t xs
raised_other t pairs [] h = refl
raised_other t pairs (x ∷ xs) h = by (nat_le (carried pairs x (raised pairs xs)) x.m) refl h (raised_other t pairs xs)
  where
    by : (b : Bool) → nat_le (carried pairs x (raised pairs xs)) x.m ≡ b → is_among t (if b then risen_tids pairs xs else x.tid ∷ risen_tids pairs xs) ≡ false
        → (is_among t (risen_tids pairs xs) ≡ false → act_of t (raised pairs xs) ≡ act_of t xs) → act_of t (raised pairs (x ∷ xs)) ≡ act_of t (x ∷ xs)
    by true e q r = rw (max_left x.m (carried pairs x (raised pairs xs)) (leb-true (carried pairs x (raised pairs xs)) x.m e), r q) refl
    by false e q r =
        let o = or_parts (x.tid == t) (is_among t (risen_tids pairs xs)) q in
        rw o.0 (r o.1)

among_parts : (t : ℕ) (xs ys : List ℕ) → is_among t (xs ++ ys) ≡ false → (is_among t xs ≡ false) × (is_among t ys ≡ false)
among_parts t [] ys h = (refl, h)
among_parts t (x ∷ xs) ys h =
    let o = or_parts (x == t) (is_among t (xs ++ ys)) h in
    let q = among_parts t xs ys o.1 in
    (rw (o.0, q.0) refl, q.1)

one_other : (t u : ℕ) → is_among t (u ∷ []) ≡ false → (u == t) ≡ false
one_other t u h = (or_parts (u == t) false h).0

asked_other : (t : ℕ) (o : Option ℕ) (group : List Lock) (u a m : ℕ) (b : Book) → is_among t (asked_tids o group u a m b) ≡ false → act_of t (book.asked_acts o group u a m b) ≡ act_of t b.acts
asked_other t (Some older) group u a m b h = act_other t u (book.doomed_by _) b.acts (λ x. refl) (one_other t u h)
asked_other t None group u a m b h =
    let o = or_parts (u == t) _ h in
    let q = among_parts t _ _ o.1 in
    crossed_other t a _ q.1 ∙ (raised_other t _ _ q.0 ∙ act_other t u (book.joins a _) b.acts (λ x. refl) o.0)

-- ---- results

noted_other : {C : Type 0} (t u : ℕ) (n : Next C) (xs : List Act) → (u == t) ≡ false → act_of t (book.noted_for u n xs) ≡ act_of t xs
noted_other t u (Go b control) xs h = refl
noted_other t u (Ended r) xs h = act_other t u (book.with_result r) xs (λ x. refl) h

noted_from_other : {C : Type 0} (t u : ℕ) (o : Option (Outcome C)) (xs : List Act) → (u == t) ≡ false → act_of t (book.noted_from u o xs) ≡ act_of t xs
noted_from_other t u None xs h = refl
noted_from_other t u (Some x) xs h = noted_other t u x.next xs h

ended_other : {C : Type 0} (t u : ℕ) (own : Bool) (o : Option (Outcome C)) (xs : List Act) → (u == t) ≡ false → act_of t (if own then book.noted_from u o xs else xs) ≡ act_of t xs
ended_other t u true o xs h = noted_from_other t u o xs h
ended_other t u false o xs h = refl

-- ---- all events but those that set marks

abbrev pub is_marking : Event → Bool
is_marking (Prepare t a) = true
is_marking (Vouch t a) = true
is_marking (Finish t a) = true
is_marking _ = false

act_stays : {C : Type 0} (w : Fixed C) (e : Event) (s : Machine C) (t : ℕ) → is_abort e ≡ false → is_marking e ≡ false → changes_act e s t ≡ false → seen t (after w e s).book.acts ≡ seen t s.book.acts
unfolding after
act_stays w (Admit u) s t k _ h = ap (option_map forgets) (find_append (λ x. x.tid == t) s.book.acts _ h)
act_stays w (Arrive k a) s t _ _ h = ap (option_map forgets) (crossed_other t a _ h) ∙ lowered_seen t k _ s.book.acts
act_stays w (Ask u a) s t k _ h = ap (option_map forgets) (asked_other t _ _ u a _ s.book h)
act_stays w (End u a) s t k _ h = ap (option_map forgets) (ended_other t u (has_act u (cell_at s a).entries) (outcome_of u (cell_at s a).outbox) s.book.acts (one_other t u h))
act_stays w (Decide u) s t k _ h = ap (option_map forgets) (act_other t u _ s.book.acts (λ x. refl) (one_other t u h))
act_stays w (Seal u) s t k _ h = ap (option_map forgets) (act_other t u _ s.book.acts (λ x. refl) (one_other t u h))
act_stays w (Prepare u a) s t k m h = absurd (true≢false m)
act_stays w (Vouch u a) s t k m h = absurd (true≢false m)
act_stays w (Finish u a) s t k m h = absurd (true≢false m)
act_stays w (Abort j) s t k m h = absurd (true≢false k)
act_stays w _ s t k m h = refl

-- ---- marks

act_holds : (p : Act → Bool) (t u : ℕ) (f : Act → Act) (xs : List Act) → ((x : Act) → (f x).tid ≡ x.tid) → ((u == t) ≡ true → (x : Act) → p (f x) ≡ p x) → holds p (act_of t (book.changed_act u f xs)) ≡ holds p (act_of t xs)
act_holds p t u f [] h e = refl
act_holds p t u f (x ∷ xs) h e = by (x.tid == u) refl (x.tid == t) refl (act_holds p t u f xs h e)
  where
    by : (q : Bool) → (x.tid == u) ≡ q → (z : Bool) → (x.tid == t) ≡ z → holds p (act_of t (book.changed_act u f xs)) ≡ holds p (act_of t xs)
        → holds p (if (book.change_if q f x).tid == t then Some (book.change_if q f x) else act_of t (book.changed_act u f xs)) ≡ holds p (if z then Some x else act_of t xs)
    by true a true b r = rw (ap (λ n. n == t) (h x) ∙ b) (e (eq-eqb u t (sym (eqb-true x.tid u a) ∙ eqb-true x.tid t b)) x)
    by true a false b r = rw (ap (λ n. n == t) (h x) ∙ b) r
    by false a true b r = rw b refl
    by false a false b r = rw b r

-- what the test has to bear of the event
abbrev pub BearsMarks : (Act → Bool) → Event → ℕ → Type 0
BearsMarks p (Prepare u b) t = (u == t) ≡ true → (x : Act) → p (book.marked b book.is_prepared x) ≡ p x
BearsMarks p (Vouch u b) t = (u == t) ≡ true → (x : Act) → p (book.marked b book.is_vouched x) ≡ p x
BearsMarks p (Finish u b) t = (u == t) ≡ true → (x : Act) → p (book.marked b book.has_left x) ≡ p x
BearsMarks p _ t = Unit {0}

-- a test of an ACT that does not look at its after number
pub act_test : {C : Type 0} (w : Fixed C) (e : Event) (s : Machine C) (t : ℕ) (p : Act → Bool) → ((x : Act) → p (record x { n = None }) ≡ p x) → BearsMarks p e t → is_abort e ≡ false → changes_act e s t ≡ false
    → holds p (act_of t (after w e s).book.acts) ≡ holds p (act_of t s.book.acts)
unfolding after
act_test w (Prepare u b) s t p h m z k = act_holds p t u (book.marked b book.is_prepared) s.book.acts (λ x. refl) m
act_test w (Vouch u b) s t p h m z k = act_holds p t u (book.marked b book.is_vouched) s.book.acts (λ x. refl) m
act_test w (Finish u b) s t p h m z k = act_holds p t u (book.marked b book.has_left) s.book.acts (λ x. refl) m
act_test w e s t p h m z k = seen_holds p (act_of t (after w e s).book.acts) (act_of t s.book.acts) h (act_stays w e s t z refl k)

-- a test that looks at no mark
pub plain : (p : Act → Bool) (e : Event) (t : ℕ) → ((b : ℕ) (f : Joined → Joined) (x : Act) → p (book.marked b f x) ≡ p x) → BearsMarks p e t
plain p (Prepare u b) t h = λ _ x. h b book.is_prepared x
plain p (Vouch u b) t h = λ _ x. h b book.is_vouched x
plain p (Finish u b) t h = λ _ x. h b book.has_left x
plain p _ t h = tt

joined_kept : (q : Joined → Bool) (a b : ℕ) (f : Joined → Joined) (ps : List Joined) → ((p : Joined) → (f p).actor ≡ p.actor) → (((b == a) ≡ true) → (p : Joined) → q (f p) ≡ q p)
    → holds q (find (λ p. p.actor == a) (map (λ p. book.mark_if (p.actor == b) f p) ps)) ≡ holds q (find (λ p. p.actor == a) ps)
joined_kept q a b f [] h k = refl
joined_kept q a b f (p ∷ ps) h k = by (p.actor == b) refl (p.actor == a) refl (joined_kept q a b f ps h k)
  where
    by : (x : Bool) → (p.actor == b) ≡ x → (y : Bool) → (p.actor == a) ≡ y → holds q (find (λ p. p.actor == a) (map (λ p. book.mark_if (p.actor == b) f p) ps)) ≡ holds q (find (λ p. p.actor == a) ps)
        → holds q (if (book.mark_if x f p).actor == a then Some (book.mark_if x f p) else find (λ p. p.actor == a) (map (λ p. book.mark_if (p.actor == b) f p) ps)) ≡ holds q (if y then Some p else find (λ p. p.actor == a) ps)
    by true u true v r = rw (ap (λ n. n == a) (h p) ∙ v) (k (eq-eqb b a (sym (eqb-true p.actor b u) ∙ eqb-true p.actor a v)) p)
    by true u false v r = rw (ap (λ n. n == a) (h p) ∙ v) r
    by false u true v r = rw v refl
    by false u false v r = rw v r

all_kept : (q : Joined → Bool) (b : ℕ) (f : Joined → Joined) (ps : List Joined) → ((p : Joined) → q (f p) ≡ q p) → list_all q (map (λ p. book.mark_if (p.actor == b) f p) ps) ≡ list_all q ps
all_kept q b f [] h = refl
all_kept q b f (p ∷ ps) h = by (p.actor == b) (all_kept q b f ps h)
  where
    by : (x : Bool) → list_all q (map (λ p. book.mark_if (p.actor == b) f p) ps) ≡ list_all q ps → list_all q (book.mark_if x f p ∷ map (λ p. book.mark_if (p.actor == b) f p) ps) ≡ list_all q (p ∷ ps)
    by true r = rw (h p, r) refl
    by false r = rw r refl

-- whether it has left all its actors
live_kept : (b : ℕ) (f : Joined → Joined) (x : Act) → ((p : Joined) → (f p).finished ≡ p.finished) → is_live_act (book.marked b f x) ≡ is_live_act x
live_kept b f x h = by x.places
  where
    by : (ps : List Joined) → is_live_act (record x { places = map (λ p. book.mark_if (p.actor == b) f p) ps }) ≡ is_live_act (record x { places = ps })
    by [] = refl
    by (p ∷ ps) = ap not (all_kept (λ p. p.finished) b f (p ∷ ps) h)

unless : {X : Type 0} (x y : Bool) → (x && y) ≡ false → y ≡ true → x ≡ true → X
unless true y h e f = absurd (true≢false (sym e ∙ h))
unless false y h e f = absurd (true≢false (sym f))

pub prepared_bears : (e : Event) (t a : ℕ) → changes_prepared e t a ≡ false → BearsMarks (λ x. holds (λ p. not p.prepared) (joined_of a x)) e t
prepared_bears (Prepare u b) t a h = λ e x. joined_kept (λ p. not p.prepared) a b book.is_prepared x.places (λ p. refl) (unless (b == a) (u == t) h e)
prepared_bears (Vouch u b) t a h = λ e x. joined_kept (λ p. not p.prepared) a b book.is_vouched x.places (λ p. refl) (λ f p. refl)
prepared_bears (Finish u b) t a h = λ e x. joined_kept (λ p. not p.prepared) a b book.has_left x.places (λ p. refl) (λ f p. refl)
prepared_bears _ t a h = tt

pub finished_bears : (e : Event) (t a : ℕ) → changes_finished e t a ≡ false → BearsMarks (λ x. holds (λ p. not p.finished) (joined_of a x)) e t
finished_bears (Prepare u b) t a h = λ e x. joined_kept (λ p. not p.finished) a b book.is_prepared x.places (λ p. refl) (λ f p. refl)
finished_bears (Vouch u b) t a h = λ e x. joined_kept (λ p. not p.finished) a b book.is_vouched x.places (λ p. refl) (λ f p. refl)
finished_bears (Finish u b) t a h = λ e x. joined_kept (λ p. not p.finished) a b book.has_left x.places (λ p. refl) (unless (b == a) (u == t) h e)
finished_bears _ t a h = tt

pub votes_bear : (e : Event) (t : ℕ) → changes_votes e t ≡ false → BearsMarks (λ x. is_failure x.result || is_vouched_everywhere x) e t
votes_bear (Prepare u b) t h = λ e x. ap (λ q. is_failure x.result || q) (all_kept (λ p. p.vouched) b book.is_prepared x.places (λ p. refl))
votes_bear (Vouch u b) t h = λ e x. absurd (true≢false (sym e ∙ h))
votes_bear (Finish u b) t h = λ e x. ap (λ q. is_failure x.result || q) (all_kept (λ p. p.vouched) b book.has_left x.places (λ p. refl))
votes_bear _ t h = tt

both_kept : (l m d p q : Bool) → l ≡ m → p ≡ q → (l && (d && p)) ≡ (m && (d && q))
both_kept l m d p q e f = rw (e, f) refl

pub vouch_bears : (e : Event) (t a : ℕ) → (changes_prepared e t a || changes_vouched e t a) ≡ false → changes_left e t ≡ false
    → BearsMarks (λ x. is_live_act x && (not (is_doomed x.status) && holds (λ p. p.prepared && not p.vouched) (joined_of a x))) e t
vouch_bears (Prepare u b) t a h l = λ e x. both_kept _ _ (not (is_doomed x.status)) _ _ (live_kept b book.is_prepared x (λ p. refl)) (joined_kept (λ p. p.prepared && not p.vouched) a b book.is_prepared x.places (λ p. refl) (unless (b == a) (u == t) (or_parts ((b == a) && (u == t)) false h).0 e))
vouch_bears (Vouch u b) t a h l = λ e x. both_kept _ _ (not (is_doomed x.status)) _ _ (live_kept b book.is_vouched x (λ p. refl)) (joined_kept (λ p. p.prepared && not p.vouched) a b book.is_vouched x.places (λ p. refl) (unless (b == a) (u == t) h e))
vouch_bears (Finish u b) t a h l = λ e x. absurd (true≢false (sym e ∙ l))
vouch_bears _ t a h l = tt

-- ---- whether it is given up

noted_holds : {C : Type 0} (p : Act → Bool) (t u : ℕ) (own : Bool) (o : Option (Outcome C)) (xs : List Act) → ((r : TxResult) (x : Act) → p (book.with_result r x) ≡ p x) → holds p (act_of t (if own then book.noted_from u o xs else xs)) ≡ holds p (act_of t xs)
noted_holds p t u false o xs h = refl
noted_holds p t u true None xs h = refl
noted_holds {C} p t u true (Some x) xs h = by x.next
  where
    by : (n : Next C) → holds p (act_of t (book.noted_for u n xs)) ≡ holds p (act_of t xs)
    by (Go b control) = refl
    by (Ended r) = act_holds p t u (book.with_result r) xs (λ x. refl) (λ _ x. h r x)

pub doom_test : {C : Type 0} (w : Fixed C) (e : Event) (s : Machine C) (t : ℕ) (q : Bool → Bool) → is_abort e ≡ false → changes_doom e s t ≡ false
    → holds (λ x. q (is_doomed x.status)) (act_of t (after w e s).book.acts) ≡ holds (λ x. q (is_doomed x.status)) (act_of t s.book.acts)
unfolding after
doom_test w (End u a) s t q z k = noted_holds (λ x. q (is_doomed x.status)) t u (has_act u (cell_at s a).entries) (outcome_of u (cell_at s a).outbox) s.book.acts (λ r x. refl)
doom_test w (Decide u) s t q z k = act_holds (λ x. q (is_doomed x.status)) t u (book.decided_as s.book.next_c) s.book.acts (λ x. refl) (λ _ x. ap q (decided_doomed s.book.next_c (is_value x.result) x.status))
doom_test w (Seal u) s t q z k = act_holds (λ x. q (is_doomed x.status)) t u book.sealed s.book.acts (λ x. refl) (λ _ x. ap q (sealed_doomed x.status))
doom_test w e s t q z k = act_test w e s t (λ x. q (is_doomed x.status)) (λ x. refl) (plain (λ x. q (is_doomed x.status)) e t (λ b f x. refl)) z k
