-- With rises and dooms of live ones alone, a decided ACT stays decided with its before number, by definition.
use Rattle.std.specs.Prelude.{◌≡◌, refl, ℕ, max, ◌==◌, Bool, true, false, ◌&&◌, ◌||◌, if◌then◌else◌, Option, Some, None, List, [], ◌∷◌, ◌++◌, map}
use Rattle.std.proofs.Common.{arith, sym, ap, subst, ◌∙◌}
use Rattle.std.proofs.lemmas.Bool.{true≢false, and_parts}
use Rattle.protocol.specs.Fixed.{Fixed, Next, Go, Ended}
use Rattle.protocol.specs.Parts.{Act, Book, Pair, Status, Live, Doomed, Decided, Sealed, Outcome, Cell, Machine}
use Rattle.protocol.specs.Events.{Event, Admit, Arrive, Ask, End, Abort, Prepare, Vouch, Decide, Seal, Finish}
use Rattle.protocol.specs.Words.{holds, is_live_status, is_decided, is_sealed, is_value, act_of, outcome_of, has_act, is_ordered, lock_of, floor_at}
use Rattle.protocol.specs.Spread.{raised, carried, crossed_out, doomed_by_order}
use Rattle.protocol.specs.Effects.{after, cell_at}
use Rattle.protocol.specs.OnBook as book
use Rattle.protocol_laws.proofs.first.Statuses.{if_tid}

-- decided, with this before number
abbrev pub is_fixed : ℕ → Act → Bool
is_fixed n x = is_ordered x.status && (x.m == n)

holds_map : (q : Act → Bool) (f : Act → Act) → ((x : Act) → (f x).tid ≡ x.tid) → ((x : Act) → q x ≡ true → q (f x) ≡ true) → (t : ℕ) (xs : List Act) → holds q (act_of t xs) ≡ true → holds q (act_of t (map f xs)) ≡ true
holds_map q f i g t [] h = h
holds_map q f i g t (x ∷ xs) h = subst (λ z. holds q (if z == t then Some (f x) else act_of t (map f xs)) ≡ true) (sym (i x)) (by (x.tid == t) h (holds_map q f i g t xs))
  where
    by : (v : Bool) → holds q (if v then Some x else act_of t xs) ≡ true → (holds q (act_of t xs) ≡ true → holds q (act_of t (map f xs)) ≡ true) → holds q (if v then Some (f x) else act_of t (map f xs)) ≡ true
    by true h r = g x h
    by false h r = r h

holds_more : (q : Act → Bool) (t : ℕ) (n : Act) (xs : List Act) → holds q (act_of t xs) ≡ true → holds q (act_of t (xs ++ n ∷ [])) ≡ true
holds_more q t n [] h = absurd (true≢false (sym h))
holds_more q t n (x ∷ xs) h = by (x.tid == t) h (holds_more q t n xs)
  where
    by : (v : Bool) → holds q (if v then Some x else act_of t xs) ≡ true → (holds q (act_of t xs) ≡ true → holds q (act_of t (xs ++ n ∷ [])) ≡ true) → holds q (if v then Some x else act_of t (xs ++ n ∷ [])) ≡ true
    by true h r = h
    by false h r = r h

-- what leaves all that are not live keeps it
live_only : (n : ℕ) (x y : Act) → (is_live_status x.status ≡ false → is_fixed n x ≡ is_fixed n y) → is_fixed n x ≡ true → is_fixed n y ≡ true
live_only n x y k h = by x.status refl h
  where
    by : (s : Status) → x.status ≡ s → ((is_decided s || is_sealed s) && (x.m == n)) ≡ true → is_fixed n y ≡ true
    by Live e q = absurd (true≢false (sym q))
    by (Doomed v) e q = absurd (true≢false (sym q))
    by (Decided c) e q = sym (k (ap is_live_status e)) ∙ h
    by (Sealed c) e q = sym (k (ap is_live_status e)) ∙ h

change_fixed : (n : ℕ) (v : Bool) (f : Act → Act) (x : Act) → (is_fixed n x ≡ true → is_fixed n (f x) ≡ true) → is_fixed n x ≡ true → is_fixed n (book.change_if v f x) ≡ true
change_fixed n true f x g h = g h
change_fixed n false f x g h = h

changed : (n t u : ℕ) (f : Act → Act) (xs : List Act) → ((x : Act) → (f x).tid ≡ x.tid) → ((x : Act) → is_fixed n x ≡ true → is_fixed n (f x) ≡ true) → holds (is_fixed n) (act_of t xs) ≡ true → holds (is_fixed n) (act_of t (book.changed_act u f xs)) ≡ true
changed n t u f xs i g h = holds_map (is_fixed n) (λ x. book.change_if (x.tid == u) f x) (λ x. if_tid (x.tid == u) f x (i x)) (λ x. change_fixed n (x.tid == u) f x (g x)) t xs h

-- nothing is carried to one that has its place
pub carries_none : (ps : List Pair) (x : Act) (xs : List Act) → is_ordered x.status ≡ true → carried ps x xs ≡ 0
carries_none ps x [] e = refl
carries_none ps x (y ∷ ys) e = rw e (carries_none ps x ys e)

raised_fixed : (n t : ℕ) (ps : List Pair) (xs : List Act) → holds (is_fixed n) (act_of t xs) ≡ true → holds (is_fixed n) (act_of t (raised ps xs)) ≡ true
raised_fixed n t ps [] h = h
raised_fixed n t ps (x ∷ xs) h = by (x.tid == t) h (raised_fixed n t ps xs)
  where
    same : (k : ℕ) → k ≡ 0 → is_fixed n x ≡ is_fixed n (record x { m = max x.m k })
    same k e = let i : max x.m k ≡ x.m = omega (arith, e) in ap (λ z. (is_decided x.status || is_sealed x.status) && (z == n)) (sym i)

    by : (v : Bool) → holds (is_fixed n) (if v then Some x else act_of t xs) ≡ true → (holds (is_fixed n) (act_of t xs) ≡ true → holds (is_fixed n) (act_of t (raised ps xs)) ≡ true)
        → holds (is_fixed n) (if v then Some (record x { m = max x.m (carried ps x (raised ps xs)) }) else act_of t (raised ps xs)) ≡ true
    by true h r = sym (same (carried ps x (raised ps xs)) (carries_none ps x (raised ps xs) (and_parts (is_ordered x.status) (x.m == n) h).0)) ∙ h
    by false h r = r h

crossed_fixed : (n a : ℕ) (x : Act) → is_fixed n x ≡ true → is_fixed n (crossed_out a x) ≡ true
crossed_fixed n a x h = live_only n x (crossed_out a x) (λ e. rw e refl) h

by_order : (n t a : ℕ) (xs : List Act) → holds (is_fixed n) (act_of t xs) ≡ true → holds (is_fixed n) (act_of t (doomed_by_order a xs)) ≡ true
by_order n t a xs h = holds_map (is_fixed n) (crossed_out a) (λ x. refl) (crossed_fixed n a) t xs h

-- an ACT that has a control is live
asked_fixed : {C : Type 0} (n u t a : ℕ) (o : Option ℕ) (c : Cell C) (b : Book) → (u ≡ t → ⊥) → holds (is_fixed n) (act_of u b.acts) ≡ true → holds (is_fixed n) (act_of u (book.asked_acts o (book.met (lock_of t b.acts) c.entries) t a (max c.last (floor_at t b.acts c)) b)) ≡ true
asked_fixed n u t a (Some older) c b d h = changed n u t (book.doomed_by (Rattle.protocol.specs.Verdicts.died a older t)) b.acts (λ x. refl) (λ x q. live_only n x (book.doomed_by (Rattle.protocol.specs.Verdicts.died a older t) x) (λ e. rw e refl) q) h
asked_fixed n u t a None c b d h = by_order n u a _ (raised_fixed n u _ _ (others u b.acts d h))
  where
    others : (u : ℕ) (xs : List Act) → (u ≡ t → ⊥) → holds (is_fixed n) (act_of u xs) ≡ true → holds (is_fixed n) (act_of u (book.changed_act t (book.joins a (max c.last (floor_at t b.acts c))) xs)) ≡ true
    others u [] d h = h
    others u (x ∷ xs) d h = by (x.tid == t) refl (x.tid == u) refl h (others u xs d)
      where
        by : (v : Bool) → (x.tid == t) ≡ v → (q : Bool) → (x.tid == u) ≡ q → holds (is_fixed n) (if q then Some x else act_of u xs) ≡ true → (holds (is_fixed n) (act_of u xs) ≡ true → holds (is_fixed n) (act_of u (book.changed_act t (book.joins a (max c.last (floor_at t b.acts c))) xs)) ≡ true)
            → holds (is_fixed n) (act_of u (book.change_if v (book.joins a (max c.last (floor_at t b.acts c))) x ∷ book.changed_act t (book.joins a (max c.last (floor_at t b.acts c))) xs)) ≡ true
        by true e true f h r = absurd (d (sym (Rattle.std.proofs.lemmas.Bool.eqb-true x.tid u f) ∙ Rattle.std.proofs.lemmas.Bool.eqb-true x.tid t e))
        by true e false f h r = rw f (r h)
        by false e true f h r = rw f h
        by false e false f h r = rw f (r h)

-- the one that asks is not meant
abbrev pub Spared : Event → ℕ → Type 0
Spared (Ask t a) u = u ≡ t → ⊥
Spared _ u = Unit {0}

decided_fixed : (n c : ℕ) (x : Act) → is_fixed n x ≡ true → is_fixed n (book.decided_as c x) ≡ true
decided_fixed n c x h = by x.status h
  where
    by : (s : Status) → ((is_decided s || is_sealed s) && (x.m == n)) ≡ true → ((is_decided (book.decided_status c (is_value x.result) s) || is_sealed (book.decided_status c (is_value x.result) s)) && (x.m == n)) ≡ true
    by Live q = absurd (true≢false (sym q))
    by (Doomed v) q = q
    by (Decided d) q = q
    by (Sealed d) q = q

sealed_fixed : (n : ℕ) (x : Act) → is_fixed n x ≡ true → is_fixed n (book.sealed x) ≡ true
sealed_fixed n x h = by x.status h
  where
    by : (s : Status) → ((is_decided s || is_sealed s) && (x.m == n)) ≡ true → ((is_decided (book.sealed_status s) || is_sealed (book.sealed_status s)) && (x.m == n)) ≡ true
    by Live q = q
    by (Doomed v) q = q
    by (Decided d) q = q
    by (Sealed d) q = q

pub stays_decided : {C : Type 0} (w : Fixed C) (e : Event) (s : Machine C) (n t : ℕ) → Spared e t → holds (is_fixed n) (act_of t s.book.acts) ≡ true → holds (is_fixed n) (act_of t (after w e s).book.acts) ≡ true
unfolding after
stays_decided w (Admit u) s n t d h = holds_more (is_fixed n) t _ s.book.acts h
stays_decided w (Arrive k a) s n t d h = by_order n t a _ (holds_map (is_fixed n) (book.lowered k (book.tids_on (cell_at s a).entries)) (λ x. refl) (λ x q. q) t s.book.acts h)
stays_decided w (Ask u a) s n t d h = asked_fixed n t u a (book.in_the_way (lock_of u s.book.acts) (cell_at s a).entries) (cell_at s a) s.book d h
stays_decided {C} w (End u a) s n t d h = by (has_act u (cell_at s a).entries) (outcome_of u (cell_at s a).outbox)
  where
    next : (x : Next C) → holds (is_fixed n) (act_of t (book.noted_for u x s.book.acts)) ≡ true
    next (Go b x) = h
    next (Ended r) = changed n t u (book.with_result r) s.book.acts (λ x. refl) (λ x q. q) h

    by : (v : Bool) (o : Option (Outcome C)) → holds (is_fixed n) (act_of t (if v then book.noted_from u o s.book.acts else s.book.acts)) ≡ true
    by false o = h
    by true None = h
    by true (Some x) = next x.next
stays_decided w (Abort k) s n t d h = holds_map (is_fixed n) _ (λ x. refl) (λ x q. live_only n x (book.cascaded k (book.failed_tx (book.why k s.desk)) x) (λ e. rw e refl) q) t s.book.acts h
stays_decided w (Prepare u a) s n t d h = changed n t u _ s.book.acts (λ x. refl) (λ x q. q) h
stays_decided w (Vouch u a) s n t d h = changed n t u _ s.book.acts (λ x. refl) (λ x q. q) h
stays_decided w (Decide u) s n t d h = changed n t u _ s.book.acts (λ x. refl) (decided_fixed n s.book.next_c) h
stays_decided w (Seal u) s n t d h = changed n t u _ s.book.acts (λ x. refl) (sealed_fixed n) h
stays_decided w (Finish u a) s n t d h = changed n t u _ s.book.acts (λ x. refl) (λ x q. q) h
stays_decided w e s n t d h = h
