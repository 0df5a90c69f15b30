-- ACTs after an event: before numbers only rise, nobody is undoomed, and nobody becomes live again.
use Rattle.std.specs.Prelude.{◌≡◌, refl, ℕ, ◌≤◌, ◌==◌, nat_le, max, ◌&&◌, Bool, true, false, if◌then◌else◌, Option, Some, None, List, [], ◌∷◌, ◌++◌, map}
use Rattle.std.specs.List.{list_any}
use Rattle.std.proofs.Common.{arith, sym, ap, subst, inl, inr, ◌∙◌}
use Rattle.std.proofs.lemmas.Bool.{true≢false, or_cases, or_left, or_right}
use Rattle.snap_base.specs.declared.verdicts.Verdict.{Verdict}
use Rattle.protocol.specs.Rivals.{Lock}
use Rattle.protocol.specs.Fixed.{Fixed, Next, Go, Ended}
use Rattle.protocol.specs.Parts.{Act, Joined, Book, Pair, Status, Live, Doomed, Decided, Sealed, Outcome, Cell, Machine}
use Rattle.protocol.specs.Events.{Event, Admit, Arrive, Ask, End, Abort, Prepare, Vouch, Decide, Seal, Finish}
use Rattle.protocol.specs.Words.{holds, is_doomed, is_live_status, is_sealed, act_of, is_value, outcome_of, has_act, lock_of, floor_at}
use Rattle.protocol.specs.Spread.{raised, crossed_out, is_crossed, reaches}
use Rattle.protocol.specs.Effects.{after, cell_at}
use Rattle.protocol.specs.OnBook as book
use Rattle.protocol_laws.proofs.first.Statuses.{live_if}
use Rattle.protocol_laws.proofs.first.Pairs.{doomed_or}

-- it has joined the actor
abbrev pub has_place : ℕ → Act → Bool
has_place a x = list_any (λ p. p.actor == a) x.places

pub record Later (x y : Act) : Type 0 where
  pub tid : y.tid ≡ x.tid
  pub reader : y.reader ≡ x.reader
  pub placed : (a : ℕ) → has_place a x ≡ true → has_place a y ≡ true
  pub rises : x.m ≤ y.m
  pub doomed : is_doomed x.status ≡ true → is_doomed y.status ≡ true
  pub live : is_live_status y.status ≡ true → is_live_status x.status ≡ true
  pub sealed : is_sealed x.status ≡ true → is_sealed y.status ≡ true

pub same_later : (x : Act) → Later x x
same_later x = record { tid = refl; reader = refl; placed = λ a q. q; rises = omega arith; doomed = λ d. d; live = λ d. d; sealed = λ d. d }

pub later_trans : (x y z : Act) → Later x y → Later y z → Later x z
later_trans x y z h k = record { tid = k.tid ∙ h.tid; reader = k.reader ∙ h.reader; placed = λ a q. k.placed a (h.placed a q); rises = omega (arith, h.rises, k.rises); doomed = λ d. k.doomed (h.doomed d); live = λ d. h.live (k.live d); sealed = λ d. k.sealed (h.sealed d) }

-- each at its place, and more at the end
pub Grows : List Act → List Act → Type 0
Grows [] ys = Unit {0}
Grows (x ∷ xs) [] = ⊥
Grows (x ∷ xs) (y ∷ ys) = Later x y × Grows xs ys

grows_same : (xs : List Act) → Grows xs xs
unfolding Grows
grows_same [] = tt
grows_same (x ∷ xs) = (same_later x, grows_same xs)

grows_trans : (xs ys zs : List Act) → Grows xs ys → Grows ys zs → Grows xs zs
unfolding Grows
grows_trans [] ys zs h k = tt
grows_trans (x ∷ xs) [] zs h k = absurd h
grows_trans (x ∷ xs) (y ∷ ys) [] h k = absurd k
grows_trans (x ∷ xs) (y ∷ ys) (z ∷ zs) h k = (later_trans x y z h.0 k.0, grows_trans xs ys zs h.1 k.1)

grows_map : (f : Act → Act) (xs : List Act) → ((x : Act) → Later x (f x)) → Grows xs (map f xs)
unfolding Grows
grows_map f [] k = tt
grows_map f (x ∷ xs) k = (k x, grows_map f xs k)

grows_more : (xs new : List Act) → Grows xs (xs ++ new)
unfolding Grows
grows_more [] new = tt
grows_more (x ∷ xs) new = (same_later x, grows_more xs new)

grows_raised : (ps : List Pair) (xs : List Act) → Grows xs (raised ps xs)
unfolding Grows
grows_raised ps [] = tt
grows_raised ps (x ∷ xs) = (record { tid = refl; reader = refl; placed = λ a q. q; rises = omega arith; doomed = λ d. d; live = λ d. d; sealed = λ d. d }, grows_raised ps xs)

-- ---- the changes

marked_place : (a b : ℕ) (f : Joined → Joined) → ((p : Joined) → (f p).actor ≡ p.actor) → (ps : List Joined) → list_any (λ p. p.actor == b) ps ≡ true → list_any (λ p. p.actor == b) (map (λ p. book.mark_if (p.actor == a) f p) ps) ≡ true
marked_place a b f i [] h = h
marked_place a b f i (p ∷ ps) h = rw (same (p.actor == a)) (elim (or_cases (p.actor == b) (list_any (λ p. p.actor == b) ps) h) [ inl q ↦ or_left (p.actor == b) _ q | inr q ↦ or_right (p.actor == b) _ (marked_place a b f i ps q) ])
  where
    same : (v : Bool) → (book.mark_if v f p).actor ≡ p.actor
    same true = i p
    same false = refl

pub more_place : (b : ℕ) (ps qs : List Joined) → list_any (λ p. p.actor == b) ps ≡ true → list_any (λ p. p.actor == b) (ps ++ qs) ≡ true
more_place b [] qs h = absurd (true≢false (sym h))
more_place b (p ∷ ps) qs h = elim (or_cases (p.actor == b) (list_any (λ p. p.actor == b) ps) h) [ inl q ↦ or_left (p.actor == b) _ q | inr q ↦ or_right (p.actor == b) _ (more_place b ps qs q) ]

if_later : (b : Bool) (f : Act → Act) (x : Act) → Later x (f x) → Later x (book.change_if b f x)
if_later true f x h = h
if_later false f x h = same_later x

pub changed_grows : (t : ℕ) (f : Act → Act) (xs : List Act) → ((x : Act) → Later x (f x)) → Grows xs (book.changed_act t f xs)
changed_grows t f xs h = grows_map _ xs (λ x. if_later (x.tid == t) f x (h x))

sealed_if : (st : Status) (r : Bool) (v : Verdict) → is_sealed st ≡ true → is_sealed (if is_live_status st && r then Doomed v else st) ≡ true
sealed_if Live r v e = absurd (true≢false (sym e))
sealed_if (Doomed d) r v e = e
sealed_if (Decided c) r v e = e
sealed_if (Sealed c) r v e = e

sealed_only : (st : Status) (v : Verdict) → is_sealed st ≡ true → is_sealed (if is_live_status st then Doomed v else st) ≡ true
sealed_only Live v e = absurd (true≢false (sym e))
sealed_only (Doomed d) v e = e
sealed_only (Decided c) v e = e
sealed_only (Sealed c) v e = e

crossed_later : (a : ℕ) (x : Act) → Later x (crossed_out a x)
crossed_later a x = record { tid = refl; reader = refl; placed = λ a q. q; rises = omega arith; doomed = doomed_or (is_crossed x) _ x.status; live = live_if (is_crossed x) _ x.status; sealed = sealed_if x.status (reaches x.m x.n) _ }

decided_later : (c : ℕ) (x : Act) → Later x (book.decided_as c x)
decided_later c x = record { tid = refl; reader = refl; placed = λ a q. q; rises = omega arith; doomed = d x.status; live = l x.status (is_value x.result); sealed = z x.status }
  where
    d : (st : Status) → is_doomed st ≡ true → is_doomed (book.decided_status c (is_value x.result) st) ≡ true
    d Live e = absurd (true≢false (sym e))
    d (Doomed v) e = e
    d (Decided k) e = e
    d (Sealed k) e = e

    z : (st : Status) → is_sealed st ≡ true → is_sealed (book.decided_status c (is_value x.result) st) ≡ true
    z Live e = absurd (true≢false (sym e))
    z (Doomed v) e = e
    z (Decided k) e = e
    z (Sealed k) e = e

    l : (st : Status) (b : Bool) → is_live_status (book.decided_status c b st) ≡ true → is_live_status st ≡ true
    l Live b e = refl
    l (Doomed v) b e = e
    l (Decided k) b e = e
    l (Sealed k) b e = e

sealed_later : (x : Act) → Later x (book.sealed x)
sealed_later x = record { tid = refl; reader = refl; placed = λ a q. q; rises = omega arith; doomed = d x.status; live = l x.status; sealed = z x.status }
  where
    d : (st : Status) → is_doomed st ≡ true → is_doomed (book.sealed_status st) ≡ true
    d Live e = e
    d (Doomed v) e = e
    d (Decided k) e = e
    d (Sealed k) e = e

    z : (st : Status) → is_sealed st ≡ true → is_sealed (book.sealed_status st) ≡ true
    z Live e = e
    z (Doomed v) e = e
    z (Decided k) e = refl
    z (Sealed k) e = e

    l : (st : Status) → is_live_status (book.sealed_status st) ≡ true → is_live_status st ≡ true
    l Live e = e
    l (Doomed v) e = e
    l (Decided k) e = e
    l (Sealed k) e = e

ended_grows : {C : Type 0} (t : ℕ) (b : Bool) (o : Option (Outcome C)) (xs : List Act) → Grows xs (if b then book.noted_from t o xs else xs)
ended_grows t false o xs = grows_same xs
ended_grows t true None xs = grows_same xs
ended_grows {C} t true (Some x) xs = by x.next
  where
    by : (y : Next C) → Grows xs (book.noted_for t y xs)
    by (Go b c) = grows_same xs
    by (Ended r) = changed_grows t _ xs (λ x. record { tid = refl; reader = refl; placed = λ a q. q; rises = omega arith; doomed = λ d. d; live = λ d. d; sealed = λ d. d })

-- after an Ask has placed it: rise, and doom
pub spread_grows : (a : ℕ) (ps : List Pair) (xs : List Act) → Grows xs (map (crossed_out a) (raised ps xs))
spread_grows a ps xs = grows_trans xs (raised ps xs) _ (grows_raised ps xs) (grows_map (crossed_out a) (raised ps xs) (crossed_later a))

asked_grows : {C : Type 0} (o : Option ℕ) (group : List Lock) (t a : ℕ) (c : Cell C) (b : Book) → Grows b.acts (book.asked_acts o group t a (max c.last (floor_at t b.acts c)) b)
asked_grows (Some older) group t a c b = changed_grows t _ b.acts (λ x. record { tid = refl; reader = refl; placed = λ a q. q; rises = omega arith; doomed = doomed_or (is_live_status x.status) _ x.status; live = live_if (is_live_status x.status) _ x.status; sealed = sealed_only x.status _ })
asked_grows None group t a c b =
    let joined = book.changed_act t (book.joins a (max c.last (floor_at t b.acts c))) b.acts in
    let ps = b.pairs ++ book.new_pairs t a group b.acts in
    grows_trans b.acts joined _ (changed_grows t _ b.acts (λ x. record { tid = refl; reader = refl; placed = λ b q. more_place b x.places _ q; rises = omega arith; doomed = λ d. d; live = λ d. d; sealed = λ d. d })) (grows_trans joined (raised ps joined) _ (grows_raised ps joined) (grows_map (crossed_out a) (raised ps joined) (crossed_later a)))

plain : (f : Act → Act) → ((x : Act) → ((f x).tid ≡ x.tid) × ((f x).m ≡ x.m) × ((f x).status ≡ x.status) × ((f x).reader ≡ x.reader) × ((a : ℕ) → has_place a x ≡ true → has_place a (f x) ≡ true)) → (x : Act) → Later x (f x)
plain f h x = record { tid = (h x).0; reader = (h x).3; placed = (h x).4; rises = omega (arith, (h x).1); doomed = λ d. subst (λ s. is_doomed s ≡ true) (sym (h x).2) d; live = λ d. subst (λ s. is_live_status s ≡ true) (h x).2 d; sealed = λ d. subst (λ s. is_sealed s ≡ true) (sym (h x).2) d }

pub acts_grow : {C : Type 0} (w : Fixed C) (e : Event) (s : Machine C) → Grows s.book.acts (after w e s).book.acts
unfolding after
acts_grow w (Admit u) s = grows_more s.book.acts _
acts_grow w (Arrive k a) s = let low = map (book.lowered k (book.tids_on (cell_at s a).entries)) s.book.acts in grows_trans s.book.acts low _ (grows_map _ s.book.acts (plain _ (λ x. (refl, refl, refl, refl, λ b q. q)))) (grows_map (crossed_out a) low (crossed_later a))
acts_grow w (Ask u a) s = asked_grows (book.in_the_way (lock_of u s.book.acts) (cell_at s a).entries) (book.met (lock_of u s.book.acts) (cell_at s a).entries) u a (cell_at s a) s.book
acts_grow w (End u a) s = ended_grows u (has_act u (cell_at s a).entries) (outcome_of u (cell_at s a).outbox) s.book.acts
acts_grow w (Abort k) s = grows_map _ s.book.acts (λ x. record { tid = refl; reader = refl; placed = λ a q. q; rises = omega arith; doomed = doomed_or _ _ x.status; live = live_if _ _ x.status; sealed = sealed_if x.status (nat_le k x.m) _ })
acts_grow w (Prepare u a) s = changed_grows u _ s.book.acts (plain _ (λ x. (refl, refl, refl, refl, λ b q. marked_place a b book.is_prepared (λ p. refl) x.places q)))
acts_grow w (Vouch u a) s = changed_grows u _ s.book.acts (plain _ (λ x. (refl, refl, refl, refl, λ b q. marked_place a b book.is_vouched (λ p. refl) x.places q)))
acts_grow w (Decide u) s = changed_grows u _ s.book.acts (decided_later s.book.next_c)
acts_grow w (Seal u) s = changed_grows u _ s.book.acts sealed_later
acts_grow w (Finish u a) s = changed_grows u _ s.book.acts (plain _ (λ x. (refl, refl, refl, refl, λ b q. marked_place a b book.has_left (λ p. refl) x.places q)))
acts_grow w e s = grows_same s.book.acts

-- ---- what is found

-- a test that no event takes back
pub grown_holds : (q : Act → Bool) (xs ys : List Act) (t : ℕ) → ((x y : Act) → Later x y → q x ≡ true → q y ≡ true) → Grows xs ys → holds q (act_of t xs) ≡ true → holds q (act_of t ys) ≡ true
unfolding Grows
grown_holds q [] ys t k g h = absurd (true≢false (sym h))
grown_holds q (x ∷ xs) [] t k g h = absurd g
grown_holds q (x ∷ xs) (y ∷ ys) t k g h = by (x.tid == t) (y.tid == t) (ap (λ n. n == t) g.0.tid) h (grown_holds q xs ys t k g.1)
  where
    by : (v w : Bool) → w ≡ v → holds q (if v then Some x else act_of t xs) ≡ true → (holds q (act_of t xs) ≡ true → holds q (act_of t ys) ≡ true) → holds q (if w then Some y else act_of t ys) ≡ true
    by true true i h r = k x y g.0 h
    by true false i h r = absurd (true≢false (sym i))
    by false true i h r = absurd (true≢false i)
    by false false i h r = r h
