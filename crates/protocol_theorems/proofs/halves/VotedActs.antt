-- An ACT whose votes change, or begin.
use Rattle.std.specs.Prelude.{◌≡◌, refl, ℕ, ◌==◌, Bool, true, false, ◌||◌, if◌then◌else◌, Option, Some, None, is_some, option_map, List, [], ◌∷◌, ◌++◌, map, find}
use Rattle.std.specs.List.{AllByRecursion}
use Rattle.std.proofs.Common.{sym, ap, subst, ◌∙◌}
use Rattle.std.proofs.lemmas.Bool.{true≢false, eqb-true, eq-eqb, or_parts, or_right}
use Rattle.snap_base.specs.declared.transactions.TxResult.{TxResult}
use Rattle.protocol.specs.Parts.{Joined, Status, Live, Doomed, Decided, Sealed, Act}
use Rattle.protocol.specs.Words.{is_among, act_of, joined_of, is_live_status, is_decided, is_ordered, is_value}
use Rattle.protocol.specs.OnBook as book
use Rattle.protocol.specs.BookParts.{act_by, place_by, joined_by, status_by, not_voted}
use Rattle.protocol_laws.specs.OneWay.{actors_of}
use Rattle.protocol_laws.proofs.first.Lists.{weaker}
use Rattle.protocol_laws.proofs.machine.EntriesKept.{mark_actor}
use Rattle.protocol_theorems.proofs.halves.ActWithVotes.{cons_eq, map_twice, place_actor}

-- ---- who is found

pub joined_actor_is : (n : ℕ) (q : Joined) (qs : List Joined) → find (λ p. p.actor == n) qs ≡ Some q → q.actor ≡ n
joined_actor_is n q [] e = absurd (cc e)
joined_actor_is n q (p ∷ ps) e = by (p.actor == n) refl e (joined_actor_is n q ps)
  where
    by : (b : Bool) → (p.actor == n) ≡ b → (if b then Some p else find (λ z. z.actor == n) ps) ≡ Some q → (find (λ z. z.actor == n) ps ≡ Some q → q.actor ≡ n) → q.actor ≡ n
    by true f e k = let i : p ≡ q = cc e in ap (λ z. z.actor) (sym i) ∙ eqb-true p.actor n f
    by false f e k = k e

-- in marked places
pub found_marked : (a n : ℕ) (f : Joined → Joined) → ((q : Joined) → (f q).actor ≡ q.actor) → (qs : List Joined)
    → find (λ p. p.actor == n) (map (λ p. book.mark_if (p.actor == a) f p) qs) ≡ option_map (λ p. book.mark_if (p.actor == a) f p) (find (λ p. p.actor == n) qs)
found_marked a n f i [] = refl
found_marked a n f i (q ∷ qs) =
    ap (λ z. if z == n then Some (book.mark_if (q.actor == a) f q) else find (λ p. p.actor == n) (map (λ p. book.mark_if (p.actor == a) f p) qs)) (mark_actor (q.actor == a) f q i)
    ∙ by (q.actor == n) (found_marked a n f i qs)
  where
    by : (b : Bool) → find (λ p. p.actor == n) (map (λ p. book.mark_if (p.actor == a) f p) qs) ≡ option_map (λ p. book.mark_if (p.actor == a) f p) (find (λ p. p.actor == n) qs)
        → (if b then Some (book.mark_if (q.actor == a) f q) else find (λ p. p.actor == n) (map (λ p. book.mark_if (p.actor == a) f p) qs)) ≡ option_map (λ p. book.mark_if (p.actor == a) f p) (if b then Some q else find (λ p. p.actor == n) qs)
    by true k = refl
    by false k = k

act_tid_if : (b : Bool) (f : Act → Act) (x : Act) → ((y : Act) → (f y).tid ≡ y.tid) → (book.change_if b f x).tid ≡ x.tid
act_tid_if true f x i = i x
act_tid_if false f x i = refl

-- among changed ACTs
pub found_changed : (t n : ℕ) (f : Act → Act) → ((y : Act) → (f y).tid ≡ y.tid) → (b : Bool) → (n == t) ≡ b → (vs : List Act) → act_of n (book.changed_act t f vs) ≡ option_map (book.change_if b f) (act_of n vs)
found_changed t n f i b e [] = refl
found_changed t n f i b e (v ∷ vs) =
    ap (λ z. if z == n then Some (book.change_if (v.tid == t) f v) else act_of n (book.changed_act t f vs)) (act_tid_if (v.tid == t) f v i)
    ∙ by (v.tid == n) refl (found_changed t n f i b e vs)
  where
    by : (c : Bool) → (v.tid == n) ≡ c → act_of n (book.changed_act t f vs) ≡ option_map (book.change_if b f) (act_of n vs) → (if c then Some (book.change_if (v.tid == t) f v) else act_of n (book.changed_act t f vs)) ≡ option_map (book.change_if b f) (if c then Some v else act_of n vs)
    by true q k = ap (λ z. Some (book.change_if z f v)) (ap (λ z. z == t) (eqb-true v.tid n q) ∙ e)
    by false q k = k

pub map_unchanged : {X : Type 0} (o : Option X) → option_map (λ x. x) o ≡ o
map_unchanged None = refl
map_unchanged (Some x) = refl

-- another ACT is as before
pub found_other : (t n : ℕ) (f : Act → Act) → ((y : Act) → (f y).tid ≡ y.tid) → (n == t) ≡ false → (vs : List Act) → act_of n (book.changed_act t f vs) ≡ act_of n vs
found_other t n f i e vs = found_changed t n f i false e vs ∙ map_unchanged (act_of n vs)

pub found_own : (t n : ℕ) (f : Act → Act) → ((y : Act) → (f y).tid ≡ y.tid) → (n == t) ≡ true → (vs : List Act) (v : Act) → act_of n vs ≡ Some v → act_of n (book.changed_act t f vs) ≡ Some (f v)
found_own t n f i e vs v k = found_changed t n f i true e vs ∙ ap (option_map f) k

-- behind others
pub found_behind : (n : ℕ) (y : Act) (vs : List Act) → act_of n vs ≡ None → (y.tid == n) ≡ true → act_of n (vs ++ y ∷ []) ≡ Some y
found_behind n y [] h e = ap (λ b. if b then Some y else None) e
found_behind n y (v ∷ vs) h e = by (v.tid == n) h (λ k. found_behind n y vs k e)
  where
    by : (b : Bool) → (if b then Some v else act_of n vs) ≡ None → (act_of n vs ≡ None → act_of n (vs ++ y ∷ []) ≡ Some y) → (if b then Some v else act_of n (vs ++ y ∷ [])) ≡ Some y
    by true k f = absurd (cc k)
    by false k f = f k

pub found_ahead : (n : ℕ) (y : Act) (vs : List Act) → (y.tid == n) ≡ false → act_of n (vs ++ y ∷ []) ≡ act_of n vs
found_ahead n y [] e = ap (λ b. if b then Some y else None) e
found_ahead n y (v ∷ vs) e = ap (λ z. if v.tid == n then Some v else z) (found_ahead n y vs e)

-- ---- each actor has its vote

among_self : (ns : List ℕ) → AllByRecursion (λ n. is_among n ns ≡ true) ns
among_self [] = tt
among_self (n ∷ ns) = (ap (λ b. b || is_among n ns) (eq-eqb n n refl), weaker (λ m. is_among m ns ≡ true) (λ m. is_among m (n ∷ ns) ≡ true) ns (λ m k. or_right (n == m) (is_among m ns) k) (among_self ns))

pub some_among : (n : ℕ) (qs : List Joined) → is_some (find (λ p. p.actor == n) qs) ≡ is_among n (actors_of qs)
some_among n [] = refl
some_among n (q ∷ qs) = by (q.actor == n) (some_among n qs)
  where
    by : (b : Bool) → is_some (find (λ p. p.actor == n) qs) ≡ is_among n (actors_of qs) → is_some (if b then Some q else find (λ p. p.actor == n) qs) ≡ (b || is_among n (actors_of qs))
    by true k = refl
    by false k = k

of_actors : (P : ℕ → Type 0) (ps : List Joined) → AllByRecursion P (actors_of ps) → AllByRecursion (λ p. P p.actor) ps
of_actors P [] h = tt
of_actors P (p ∷ ps) h = (h.0, of_actors P ps h.1)

pub each_has : (ps qs : List Joined) → actors_of qs ≡ actors_of ps → AllByRecursion (λ p. is_some (find (λ q. q.actor == p.actor) qs) ≡ true) ps
each_has ps qs e = of_actors (λ n. is_some (find (λ q. q.actor == n) qs) ≡ true) ps
    (weaker (λ n. is_among n (actors_of ps) ≡ true) (λ n. is_some (find (λ q. q.actor == n) qs) ≡ true) (actors_of ps) (λ n k. some_among n qs ∙ (ap (is_among n) e ∙ k)) (among_self (actors_of ps)))

-- ---- a vote

-- a mark that votes keep
pub record IsVote (f : Joined → Joined) : Type 0 where
  pub actor : (p : Joined) → (f p).actor ≡ p.actor
  pub passes : (q p : Joined) → f (record p { prepared = q.prepared; vouched = q.vouched }) ≡ record p { prepared = (f q).prepared; vouched = (f q).vouched }

pub prepares : IsVote book.is_prepared
prepares = record { actor = λ p. refl; passes = λ q p. refl }

pub vouches : IsVote book.is_vouched
vouches = record { actor = λ p. refl; passes = λ q p. refl }

mark_passes : (f : Joined → Joined) → IsVote f → (b : Bool) (q p : Joined) → book.mark_if b f (joined_by (Some q) p) ≡ joined_by (Some (book.mark_if b f q)) p
mark_passes f v true q p = v.passes q p
mark_passes f v false q p = refl

place_marked : (a : ℕ) (f : Joined → Joined) → IsVote f → (y : Act) (p : Joined) → is_some (joined_of p.actor y) ≡ true → book.mark_if ((place_by (Some y) p).actor == a) f (place_by (Some y) p) ≡ place_by (Some (book.marked a f y)) p
place_marked a f v y p h = ap (λ z. book.mark_if (z == a) f (place_by (Some y) p)) (place_actor (Some y) p) ∙ (by (joined_of p.actor y) refl h ∙ ap (λ z. joined_by z p) (sym (found_marked a p.actor f v.actor y.places)))
  where
    by : (o : Option Joined) → joined_of p.actor y ≡ o → is_some o ≡ true → book.mark_if (p.actor == a) f (joined_by (joined_of p.actor y) p) ≡ joined_by (option_map (λ q. book.mark_if (q.actor == a) f q) (joined_of p.actor y)) p
    by None e k = absurd (true≢false (sym k))
    by (Some q) e k =
        subst (λ z. book.mark_if (p.actor == a) f (joined_by z p) ≡ joined_by (option_map (λ q. book.mark_if (q.actor == a) f q) z) p) (sym e)
        (ap (λ z. book.mark_if (z == a) f (joined_by (Some q) p)) (sym (joined_actor_is p.actor q y.places e)) ∙ mark_passes f v (q.actor == a) q p)

places_marked : (a : ℕ) (f : Joined → Joined) → IsVote f → (y : Act) (ps : List Joined) → AllByRecursion (λ p. is_some (joined_of p.actor y) ≡ true) ps → map (λ p. book.mark_if (p.actor == a) f p) (map (place_by (Some y)) ps) ≡ map (place_by (Some (book.marked a f y))) ps
places_marked a f v y [] h = refl
places_marked a f v y (p ∷ ps) h = cons_eq _ _ _ _ (place_marked a f v y p h.0) (places_marked a f v y ps h.1)

status_marked : (a : ℕ) (f : Joined → Joined) (y : Act) (st : Status) → status_by (Some y) st ≡ status_by (Some (book.marked a f y)) st
status_marked a f y Live = refl
status_marked a f y (Doomed why) = refl
status_marked a f y (Decided c) = refl
status_marked a f y (Sealed c) = refl

placed_as : (x : Act) (r : Option TxResult) (ps qs : List Joined) (st su : Status) → ps ≡ qs → st ≡ su → let y : Act = record x { places = ps; result = r; status = st } in let z : Act = record x { places = qs; result = r; status = su } in y ≡ z
placed_as x r ps qs st su h k = ap (λ ps. let y : Act = record x { places = ps; result = r; status = st } in y) h ∙ ap (λ st. let y : Act = record x { places = qs; result = r; status = st } in y) k

pub act_marked : (a : ℕ) (f : Joined → Joined) → IsVote f → (y x : Act) → actors_of y.places ≡ actors_of x.places → book.marked a f (act_by (Some y) x) ≡ act_by (Some (book.marked a f y)) x
act_marked a f v y x e = placed_as x y.result _ _ _ _ (places_marked a f v y x.places (each_has x.places y.places e)) (status_marked a f y x.status)

-- ---- a decision

decides : (c : ℕ) (b : Bool) (u : Status) → u ≡ Live → book.decided_status c b Live ≡ (if is_ordered (book.decided_status c b u) then book.decided_status c b u else Sealed 0)
decides c b u e = subst (λ u. book.decided_status c b Live ≡ (if is_ordered (book.decided_status c b u) then book.decided_status c b u else Sealed 0)) (sym e) (by b)
  where
    by : (b : Bool) → book.decided_status c b Live ≡ (if is_ordered (book.decided_status c b Live) then book.decided_status c b Live else Sealed 0)
    by true = refl
    by false = refl

live_is : (st : Status) → is_live_status st ≡ true → st ≡ Live
live_is Live e = refl
live_is (Doomed v) e = absurd (true≢false (sym e))
live_is (Decided c) e = absurd (true≢false (sym e))
live_is (Sealed c) e = absurd (true≢false (sym e))

pub act_decides : (c : ℕ) (y x : Act) → x.result ≡ None → is_live_status x.status ≡ true → is_live_status y.status ≡ true → book.decided_as c (act_by (Some y) x) ≡ act_by (Some (book.decided_as c y)) (book.decided_as 0 x)
act_decides c y x n l k = placed_as x y.result (map (place_by (Some y)) x.places) (map (place_by (Some y)) x.places) _ _ refl (at x.result x.status n (live_is x.status l))
  where
    at : (r : Option TxResult) (st : Status) → r ≡ None → st ≡ Live → book.decided_status c (is_value y.result) (status_by (Some y) st) ≡ status_by (Some (book.decided_as c y)) (book.decided_status 0 (is_value r) st)
    at r st e f =
        subst (λ r. book.decided_status c (is_value y.result) (status_by (Some y) st) ≡ status_by (Some (book.decided_as c y)) (book.decided_status 0 (is_value r) st)) (sym e)
        (subst (λ st. book.decided_status c (is_value y.result) (status_by (Some y) st) ≡ status_by (Some (book.decided_as c y)) (book.decided_status 0 false st)) (sym f)
        (decides c (is_value y.result) y.status (live_is y.status k)))

-- ---- a seal

sealed_unplaced : (st : Status) → is_ordered st ≡ false → book.sealed_status (status_by None st) ≡ status_by None st
sealed_unplaced Live h = refl
sealed_unplaced (Doomed why) h = refl
sealed_unplaced (Decided c) h = absurd (true≢false h)
sealed_unplaced (Sealed c) h = refl

pub seals_none : (x : Act) → is_ordered x.status ≡ false → book.sealed (act_by None x) ≡ act_by None x
seals_none x h = ap (λ st. let y : Act = record (act_by None x) { status = st } in y) (sealed_unplaced x.status h)

sealed_if : (u : Status) (c : ℕ) → book.sealed_status (if is_ordered u then u else Sealed c) ≡ (if is_ordered (book.sealed_status u) then book.sealed_status u else Sealed c)
sealed_if Live c = refl
sealed_if (Doomed why) c = refl
sealed_if (Decided d) c = refl
sealed_if (Sealed d) c = refl

sealed_placed : (y : Act) (st : Status) → is_decided st ≡ false → book.sealed_status (status_by (Some y) st) ≡ status_by (Some (book.sealed y)) st
sealed_placed y Live h = refl
sealed_placed y (Doomed why) h = refl
sealed_placed y (Decided c) h = absurd (true≢false h)
sealed_placed y (Sealed c) h = sealed_if y.status c

pub seals_some : (y x : Act) → is_decided x.status ≡ false → book.sealed (act_by (Some y) x) ≡ act_by (Some (book.sealed y)) x
seals_some y x h = ap (λ st. let z : Act = record (act_by (Some y) x) { status = st } in z) (sealed_placed y x.status h)

-- ---- votes begin

abbrev pub first_votes : ℕ → TxResult → List ℕ → Act
first_votes t r actors = record { tid = t; tx = 0; reader = false; m = 0; n = None; places = map not_voted actors; result = Some r; status = Live }

unmarked : (p : Joined) → (p.prepared || p.vouched) ≡ false → record p { prepared = false; vouched = false } ≡ p
unmarked p h = let e = or_parts p.prepared p.vouched h in
    ap (λ b. let q : Joined = record p { prepared = b; vouched = false } in q) (sym e.0) ∙ ap (λ b. let q : Joined = record p { vouched = b } in q) (sym e.1)

place_new : (n : ℕ) (actors : List ℕ) (p : Joined) → (p.prepared || p.vouched) ≡ false → joined_by (find (λ q. q.actor == n) (map not_voted actors)) p ≡ p
place_new n [] p h = refl
place_new n (a ∷ actors) p h = by (a == n) (place_new n actors p h)
  where
    by : (b : Bool) → joined_by (find (λ q. q.actor == n) (map not_voted actors)) p ≡ p → joined_by (if b then Some (not_voted a) else find (λ q. q.actor == n) (map not_voted actors)) p ≡ p
    by true k = unmarked p h
    by false k = k

places_new : (t : ℕ) (r : TxResult) (actors : List ℕ) (ps : List Joined) → AllByRecursion (λ p. (p.prepared || p.vouched) ≡ false) ps → map (place_by None) ps ≡ map (place_by (Some (first_votes t r actors))) ps
places_new t r actors [] h = refl
places_new t r actors (p ∷ ps) h = cons_eq _ _ _ _ (sym (place_new p.actor actors p h.0)) (places_new t r actors ps h.1)

status_new : (t : ℕ) (r : TxResult) (actors : List ℕ) (st : Status) → status_by None st ≡ status_by (Some (first_votes t r actors)) st
status_new t r actors Live = refl
status_new t r actors (Doomed why) = refl
status_new t r actors (Decided c) = refl
status_new t r actors (Sealed c) = refl

pub act_ends : (t : ℕ) (r : TxResult) (actors : List ℕ) (x : Act) → AllByRecursion (λ p. (p.prepared || p.vouched) ≡ false) x.places → book.with_result r (act_by None x) ≡ act_by (Some (first_votes t r actors)) x
act_ends t r actors x h = placed_as x (Some r) _ _ _ _ (places_new t r actors x.places h) (status_new t r actors x.status)

-- ---- it leaves an actor, or joins one

mark_left : (b : Bool) (v : Option Act) (p : Joined) → book.mark_if b book.has_left (place_by v p) ≡ place_by v (book.mark_if b book.has_left p)
mark_left false v p = refl
mark_left true None p = refl
mark_left true (Some y) p = by (joined_of p.actor y)
  where
    by : (o : Option Joined) → book.has_left (joined_by o p) ≡ joined_by o (book.has_left p)
    by None = refl
    by (Some q) = refl

pub act_leaves : (a : ℕ) (v : Option Act) (x : Act) → book.marked a book.has_left (act_by v x) ≡ act_by v (book.marked a book.has_left x)
act_leaves a v x = ap (λ ps. let y : Act = record (act_by v x) { places = ps } in y)
    (map_twice (λ p. book.mark_if (p.actor == a) book.has_left p) (place_by v) (place_by v) (λ p. book.mark_if (p.actor == a) book.has_left p) x.places
    (λ p. ap (λ z. book.mark_if (z == a) book.has_left (place_by v p)) (place_actor v p) ∙ mark_left (p.actor == a) v p))

pub act_joins : (a m : ℕ) (x : Act) → book.joins a m (act_by None x) ≡ act_by None (book.joins a m x)
act_joins a m x = ap (λ ps. let y : Act = record (book.joins a m (act_by None x)) { places = ps } in y) (by x.places)
  where
    by : (ps : List Joined) → map (place_by None) ps ++ record { actor = a; prepared = false; vouched = false; finished = false } ∷ [] ≡ map (place_by None) (ps ++ record { actor = a; prepared = false; vouched = false; finished = false } ∷ [])
    by [] = refl
    by (p ∷ ps) = ap (λ z. p ∷ z) (by ps)
