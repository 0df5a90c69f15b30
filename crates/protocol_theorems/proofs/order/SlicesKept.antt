-- Who may still commit has on each long schedule just the slices of its trail.
use Rattle.std.specs.Prelude.{◌≡◌, refl, ℕ, ◌<◌, ◌≤◌, ◌==◌, not, Bool, true, false, ◌&&◌, ◌||◌, ◌⊎◌, if◌then◌else◌, Option, Some, None, List, [], ◌∷◌, ◌++◌, map, find, ◌+◌}
use Rattle.std.specs.List.{AllByRecursion, list_any}
use Rattle.std.proofs.Common.{arith, sym, ap, subst, inl, inr, ◌∙◌}
use Rattle.std.proofs.lemmas.List.{append-nil}
use Rattle.std.proofs.lemmas.Bool.{eqb-true, eqb-false, eq-eqb, ne_eqb, and_parts, or_cases, or_parts, true≢false, false_from_ne_true, not-true}
use Rattle.protocol.specs.Cutting.{Ascends}
use Rattle.protocol_laws.proofs.machine.ReadersSee.{ReadBy, reads_at, not_read}
use Rattle.protocol_laws.proofs.machine.ReadersKept.{LockOf, Locks, reader_of}
use Rattle.protocol_laws.proofs.machine.ActsGrow.{acts_grow, grown_holds}
use Rattle.protocol_laws.proofs.first.Agree.{agree, agree_same}
use Rattle.protocol_laws.specs.Told.{PactsAscend}
use Rattle.protocol_laws.specs.Commits.{reads_who}
use Rattle.protocol.specs.Fixed.{Fixed}
use Rattle.protocol.specs.Parts.{Act, Pact, Batch, Status, Who, OfBatch, OfAct, Cascade, Entry, Machine, BatchEntry, ActEntry}
use Rattle.protocol.specs.Events.{Event, Form, Admit, Arrive, Ask, Run, Complete, Rollback, Finish, Trim}
use Rattle.protocol.specs.Words.{holds, is_who, is_open, is_formed, is_settled, is_live_status, is_doomed, is_sealed, is_aborted, is_entry_of, is_turn_of, names_pact, who_of, who_on, batch_of, act_of, lock_of, is_reader_entry}
use Rattle.protocol.specs.Conditions.{IsAllowed, conditions}
use Rattle.protocol.specs.Effects.{after, cell_at, no_cell}
use Rattle.protocol.specs.OnRing as ring
use Rattle.protocol.specs.OnBook as book
use Rattle.protocol.specs.OnCell as cell
use Rattle.protocol.specs.OnCell.{is_cut, is_entry_among}
use Rattle.protocol.specs.History.{History, Trail, Step, Slice, Ran, Stands, Gone, grown, with_at, begun, gone_on, not_run, ran_in, completed, left_for_good, without_standing, long_staying, asks, slices_of, batches_in, ran_on, read_on, is_traceless}
use Rattle.protocol_laws.specs.Tracks.{key_of, keys_in, is_key_among, has_read}
use Rattle.protocol_laws.specs.Trails.{on_actor}
use Rattle.protocol_laws.specs.Places.{FitsCell}
use Rattle.protocol_laws.specs.FromDesk.{FromDesk}
use Rattle.protocol_laws.proofs.first.SettlingKept as settling
use Rattle.protocol_laws.proofs.machine.TrackLists
use Rattle.protocol_laws.proofs.machine.TracksKept.{Tracked, held}
use Rattle.protocol_laws.proofs.machine.PlaceLists
use Rattle.protocol_laws.proofs.machine.PlacesKept.{Placed}
use Rattle.protocol_laws.proofs.machine.CommitLists.{none_of}
use Rattle.protocol_laws.proofs.machine.TrailsKept.{begun_below, new_tids}
use Rattle.protocol_laws.proofs.machine.TurnsKept.{one_is}
use Rattle.protocol_laws.proofs.first.Lists.{filter_join, all_found}
use Rattle.protocol_theorems.proofs.order.NamesKept.{Named, AllNamed, AllStanding, OwnsIt, runs_for_owner}
use Rattle.protocol_theorems.proofs.order.RunsBefore.{is_open_with, lives, JustFormed, JustAdmitted, batch_was, act_was}
use Rattle.protocol_theorems.proofs.order.ViewsExplain.{own_slices}

-- ---- the slices of one that stands there

if_same : (b : Bool) (ss : List Slice) → (if b then ss else ss) ≡ ss
if_same true ss = refl
if_same false ss = refl

more_slices : (who y : Who) (rs : List Ran) → slices_of who (rs ++ not_run y ∷ []) ≡ slices_of who rs
more_slices who y [] = if_same (is_who y who) []
more_slices who y (Stands z c ss ∷ rs) = rw (more_slices who y rs) refl
more_slices who y (Gone z ss ∷ rs) = more_slices who y rs

completed_slices : (who : Who) (k : ℕ) (rs : List Ran) → slices_of who (map (completed k) rs) ≡ slices_of who rs
completed_slices who k [] = refl
completed_slices who k (Stands z c ss ∷ rs) = rw (completed_slices who k rs) refl
completed_slices who k (Gone z ss ∷ rs) = completed_slices who k rs

-- another one that leaves
other_first : (z y who : Who) → is_who z y ≡ true → is_who y who ≡ false → is_who z who ≡ false
other_first z y who e n = subst (λ v. is_who v who ≡ false) (sym (TrackLists.is_who_true z y e)) n

left_slices : (who y : Who) (rs : List Ran) → is_who y who ≡ false → slices_of who (map (left_for_good y) rs) ≡ slices_of who rs
left_slices who y [] n = refl
left_slices who y (Stands z c ss ∷ rs) n = by (is_who z y) refl (left_slices who y rs n)
  where
    by : (b : Bool) → is_who z y ≡ b → slices_of who (map (left_for_good y) rs) ≡ slices_of who rs → slices_of who ((if b then Gone z ss else Stands z c ss) ∷ map (left_for_good y) rs) ≡ (if is_who z who then ss else slices_of who rs)
    by true e h = rw (other_first z y who e n) h
    by false e h = rw h refl
left_slices who y (Gone z ss ∷ rs) n = left_slices who y rs n

without_slices : (who y : Who) (rs : List Ran) → is_who y who ≡ false → slices_of who (without_standing y rs) ≡ slices_of who rs
without_slices who y [] n = refl
without_slices who y (Stands z c ss ∷ rs) n = by (is_who z y) refl (without_slices who y rs n)
  where
    by : (b : Bool) → is_who z y ≡ b → slices_of who (without_standing y rs) ≡ slices_of who rs → slices_of who (if b then without_standing y rs else Stands z c ss ∷ without_standing y rs) ≡ (if is_who z who then ss else slices_of who rs)
    by true e h = rw (other_first z y who e n) h
    by false e h = rw h refl
without_slices who y (Gone z ss ∷ rs) n = without_slices who y rs n

-- who does not stand behind the cut
staying_slices : (who : Who) (cs : List Cascade) (rs : List Ran) → is_key_among who (TrackLists.keys_going cs (keys_in rs)) ≡ false → slices_of who (long_staying cs rs) ≡ slices_of who rs
staying_slices who cs [] n = refl
staying_slices who cs (Stands z c ss ∷ rs) n = by (is_cut cs z) n (staying_slices who cs rs)
  where
    by : (b : Bool) → is_key_among who (if b then record { who = z; complete = c } ∷ keys_in rs else TrackLists.keys_going cs (keys_in rs)) ≡ false → (is_key_among who (TrackLists.keys_going cs (keys_in rs)) ≡ false → slices_of who (long_staying cs rs) ≡ slices_of who rs)
        → slices_of who (if b then [] else Stands z c ss ∷ long_staying cs rs) ≡ (if is_who z who then ss else slices_of who rs)
    by true n k = let p = or_parts (is_who z who) (is_key_among who (keys_in rs)) n in rw p.0 (sym (none_of who rs p.1))
    by false n k = rw (k n) refl
staying_slices who cs (Gone z ss ∷ rs) n = staying_slices who cs rs n

-- a slice runs
ran_own : (who : Who) (x : Slice) (rs : List Ran) → is_key_among who (keys_in rs) ≡ true → slices_of who (map (ran_in who x) rs) ≡ slices_of who rs ++ x ∷ []
ran_own who x [] e = absurd (true≢false (sym e))
ran_own who x (Stands z c ss ∷ rs) e = by (is_who z who) e (ran_own who x rs)
  where
    by : (b : Bool) → (b || is_key_among who (keys_in rs)) ≡ true → (is_key_among who (keys_in rs) ≡ true → slices_of who (map (ran_in who x) rs) ≡ slices_of who rs ++ x ∷ [])
        → (if b then (if b then ss ++ x ∷ [] else ss) else slices_of who (map (ran_in who x) rs)) ≡ (if b then ss else slices_of who rs) ++ x ∷ []
    by true e k = refl
    by false e k = k e
ran_own who x (Gone z ss ∷ rs) e = ran_own who x rs e

-- a slice of another transaction does not count, whoever it runs for
not_own : (t : ℕ) (x : Slice) (ss : List Slice) → (x.tid == t) ≡ false → own_slices t (ss ++ x ∷ []) ≡ own_slices t ss
not_own t x ss e = filter_join (λ y. y.tid == t) ss (x ∷ []) ∙ rw e (append-nil (own_slices t ss))

ran_other : (who y : Who) (t : ℕ) (x : Slice) (rs : List Ran) → (x.tid == t) ≡ false → own_slices t (slices_of who (map (ran_in y x) rs)) ≡ own_slices t (slices_of who rs)
ran_other who y t x [] e = refl
ran_other who y t x (Stands z c ss ∷ rs) e = by (is_who z who) (is_who z y) (ran_other who y t x rs e)
  where
    by : (b q : Bool) → own_slices t (slices_of who (map (ran_in y x) rs)) ≡ own_slices t (slices_of who rs) → own_slices t (if b then (if q then ss ++ x ∷ [] else ss) else slices_of who (map (ran_in y x) rs)) ≡ own_slices t (if b then ss else slices_of who rs)
    by true true h = not_own t x ss e
    by true false h = refl
    by false q h = h
ran_other who y t x (Gone z ss ∷ rs) e = ran_other who y t x rs e

-- without a slice it has none of its own
unread : (t : ℕ) (zs : List Slice) → has_read zs t ≡ false → own_slices t zs ≡ []
unread t [] e = refl
unread t (z ∷ zs) e = let p = or_parts (z.tid == t) (has_read zs t) e in rw p.0 (unread t zs p.1)

-- ---- the trail goes on

on_more : (a t : ℕ) (xs : List Step) (x : Step) → on_actor a t (xs ++ x ∷ []) ≡ on_actor a t xs ++ (if x.actor == a then record { tid = t; found = x.found; left = x.left } ∷ [] else [])
on_more a t [] x = refl
on_more a t (y ∷ ys) x = by (y.actor == a) (on_more a t ys x)
  where
    by : (b : Bool) → on_actor a t (ys ++ x ∷ []) ≡ on_actor a t ys ++ (if x.actor == a then record { tid = t; found = x.found; left = x.left } ∷ [] else [])
        → (if b then record { tid = t; found = y.found; left = y.left } ∷ on_actor a t (ys ++ x ∷ []) else on_actor a t (ys ++ x ∷ []))
        ≡ (if b then record { tid = t; found = y.found; left = y.left } ∷ on_actor a t ys else on_actor a t ys) ++ (if x.actor == a then record { tid = t; found = x.found; left = x.left } ∷ [] else [])
    by true h = ap (λ z. record { tid = t; found = y.found; left = y.left } ∷ z) h
    by false h = h

-- ---- what is kept

-- It is of an open batch, or a live ACT.
abbrev pub runs : {C : Type 0} → Machine C → Who → ℕ → Bool
runs s (OfBatch k) t = holds (is_open_with t) (batch_of k s.desk.batches)
runs s (OfAct u) t = (u == t) && holds lives (act_of u s.book.acts)

-- of a reader these are not on the long schedule
abbrev pub Match : Bool → Who → ℕ → (ℕ → Trail) → (ℕ → List Ran) → (ℕ → List Slice) → Type 0
Match v who t trails long reads = (a : ℕ) → on_actor a t (trails t).steps ≡ own_slices t (if v then reads a else slices_of who (long a))

unfoldable pub Matched : {C : Type 0} → Machine C → History → Type 0
Matched s h = (who : Who) (t : ℕ) → runs s who t ≡ true → Match (reads_who s.book.acts who) who t h.trails h.long h.reads

-- it is new
abbrev pub IsNew : {C : Type 0} → Fixed C → Event → Machine C → Who → ℕ → Type 0
IsNew w e s (OfBatch k) t = JustFormed w e s k t
IsNew w e s (OfAct u) t = (u ≡ t) × JustAdmitted e t

pub runs_was : {C : Type 0} (w : Fixed C) (e : Event) (s : Machine C) (who : Who) (t : ℕ) → runs (after w e s) who t ≡ true → (runs s who t ≡ true) ⊎ IsNew w e s who t
runs_was w e s (OfBatch k) t h = batch_was w e s k t h
runs_was w e s (OfAct u) t h =
    let p = and_parts (u == t) (holds lives (act_of u (after w e s).book.acts)) h in
    let i : u ≡ t = eqb-true u t p.0 in
    elim (act_was w e s u p.1) [ inl q ↦ inl (rw (p.0, q) refl) | inr q ↦ inr (i, subst (JustAdmitted e) i q) ]

-- ---- who runs was drawn

named_low : {who : Who} (next t : ℕ) (owners : ℕ → Who) (trails : ℕ → Trail) (ps : List Pact) → list_any (λ p. p.tid == t) ps ≡ true → AllNamed next owners trails who (map (λ p. p.tid) ps) (map (λ p. p.tx) ps) → (t < next) × (owners t ≡ who)
named_low next t owners trails [] q n = absurd (true≢false (sym q))
named_low {who} next t owners trails (p ∷ ps) q n = elim (or_cases (p.tid == t) (list_any (λ p. p.tid == t) ps) q) [ inl i ↦ subst (λ z. (z < next) × (owners z ≡ who)) (eqb-true p.tid t i) (n.0.low, n.0.owner) | inr i ↦ named_low next t owners trails ps i n.1 ]

pub runs_named : {C : Type 0} (s : Machine C) (h : History) (who : Who) (t : ℕ) → Named s h → runs s who t ≡ true → (t < s.ring.next_tid) × (h.owners t ≡ who)
runs_named s h (OfBatch k) t g r =
    let b = one_is (is_open_with t) (batch_of k s.desk.batches) r in
    let f = all_found (λ b. AllNamed s.ring.next_tid h.owners h.trails (OfBatch b.bid) (map (λ p. p.tid) b.pacts) (map (λ p. p.tx) b.pacts)) (λ b. b.bid == k) s.desk.batches b.0 g.pacts b.1 in
    subst (λ z. (t < s.ring.next_tid) × (h.owners t ≡ OfBatch z)) (eqb-true b.0.bid k f.1) (named_low s.ring.next_tid t h.owners h.trails b.0.pacts (and_parts (is_open b.0) (names_pact t b.0) b.2).1 f.0)
runs_named s h (OfAct u) t g r =
    let p = and_parts (u == t) (holds lives (act_of u s.book.acts)) r in
    let i : u ≡ t = eqb-true u t p.0 in
    let x = one_is lives (act_of u s.book.acts) p.1 in
    let f = all_found (λ x. Rattle.protocol_theorems.proofs.order.NamesKept.IsNamed s.ring.next_tid h.owners h.trails (OfAct x.tid) x.tid x.tx) (λ x. x.tid == u) s.book.acts x.0 g.acts x.1 in
    let j : x.0.tid ≡ u = eqb-true x.0.tid u f.1 in
    (omega (arith, f.0.low, i, j), subst (λ z. h.owners z ≡ OfAct u) i (subst (λ z. h.owners z ≡ OfAct z) j f.0.owner))

-- ---- the events

-- on one actor the slices of who stay
carried : (v : Bool) (who : Who) (t a : ℕ) (trails : ℕ → Trail) (long : ℕ → List Ran) (reads : ℕ → List Slice) (new : List Ran) → slices_of who new ≡ slices_of who (long a) → Match v who t trails long reads → Match v who t trails (with_at a new long) reads
carried v who t a trails long reads new e m b = by v (b == a) refl (m b)
  where
    by : (v q : Bool) → (b == a) ≡ q → on_actor b t (trails t).steps ≡ own_slices t (if v then reads b else slices_of who (long b)) → on_actor b t (trails t).steps ≡ own_slices t (if v then reads b else slices_of who (if q then new else long b))
    by true q i k = k
    by false true i k = let j : b ≡ a = eqb-true b a i in k ∙ (ap (λ z. own_slices t (slices_of who (long z))) j ∙ ap (own_slices t) (sym e))
    by false false i k = k

asks_slices : (who : Who) (t : ℕ) (o : Option ℕ) (rs : List Ran) → slices_of who (rs ++ map not_run (asks t o)) ≡ slices_of who rs
asks_slices who t None rs = more_slices who (OfAct t) rs
asks_slices who t (Some older) rs = ap (slices_of who) (append-nil rs)

-- a trail that begins, of one that stands nowhere and has not read
fresh : (v : Bool) (who : Who) (t : ℕ) (trails : ℕ → Trail) (long : ℕ → List Ran) (reads : ℕ → List Slice) → (trails t).steps ≡ [] → ((a : ℕ) → is_key_among who (keys_in (long a)) ≡ false) → ((a : ℕ) → has_read (reads a) t ≡ false) → Match v who t trails long reads
fresh true who t trails long reads e n r a = rw (e, unread t (reads a) (r a)) refl
fresh false who t trails long reads e n r a = rw (e, none_of who (long a) (n a)) refl

-- a slice runs for its owner
runs_on : (v b : Bool) (who y : Who) (t u a : ℕ) (x : Step) (trails : ℕ → Trail) (long : ℕ → List Ran) (reads : ℕ → List Slice) → x.actor ≡ a → (t ≡ u → (who ≡ y) × (is_key_among y (keys_in (long a)) ≡ true) × (v ≡ b)) → Match v who t trails long reads
    → Match v who t (with_at u (gone_on x (trails u)) trails) (with_at a (ran_on b y (record { tid = u; found = x.found; left = x.left }) (long a)) long) (with_at a (read_on b (record { tid = u; found = x.found; left = x.left }) (reads a)) reads)
runs_on v w who y t u a x trails long reads i o m b = by (t == u) refl (b == a) refl
  where
    new : Slice
    new = record { tid = u; found = x.found; left = x.left }

    one : (ss : List Slice) → t ≡ u → own_slices t (ss ++ new ∷ []) ≡ own_slices t ss ++ new ∷ []
    one ss j = filter_join (λ z. z.tid == t) ss (new ∷ []) ∙ rw (eq-eqb u t (sym j)) refl

    -- its own slice comes to its own
    mine : (v w : Bool) → t ≡ u → who ≡ y → is_key_among y (keys_in (long a)) ≡ true → v ≡ w → own_slices t (if v then reads a else slices_of who (long a)) ++ new ∷ [] ≡ own_slices t (if v then read_on w new (reads a) else slices_of who (ran_on w y new (long a)))
    mine true true j p q e = sym (one (reads a) j)
    mine true false j p q e = absurd (true≢false e)
    mine false true j p q e = absurd (true≢false (sym e))
    mine false false j p q e = sym (one (slices_of who (long a)) j) ∙ ap (own_slices t) (sym (subst (λ v. slices_of v (map (ran_in y new) (long a)) ≡ slices_of v (long a) ++ new ∷ []) (sym p) (ran_own y new (long a) q)))

    -- another one's does not count
    others : (v w : Bool) → (u == t) ≡ false → own_slices t (if v then reads a else slices_of who (long a)) ≡ own_slices t (if v then read_on w new (reads a) else slices_of who (ran_on w y new (long a)))
    others true true n = sym (not_own t new (reads a) n)
    others true false n = refl
    others false true n = refl
    others false false n = sym (ran_other who y t new (long a) n)

    at : (c : ℕ) → c ≡ a → own_slices t (if v then reads c else slices_of who (long c)) ≡ own_slices t (if v then reads a else slices_of who (long a))
    at c k = ap (λ z. own_slices t (if v then reads z else slices_of who (long z))) k

    by : (p : Bool) → (t == u) ≡ p → (q : Bool) → (b == a) ≡ q → on_actor b t (if p then gone_on x (trails u) else trails t).steps ≡ own_slices t (if v then (if q then read_on w new (reads a) else reads b) else slices_of who (if q then ran_on w y new (long a) else long b))
    by true e true f =
        let j : t ≡ u = eqb-true t u e in
        let k : b ≡ a = eqb-true b a f in
        let own = o j in
        let here : (x.actor == b) ≡ true = eq-eqb x.actor b (i ∙ sym k) in
        ap (λ z. on_actor b t ((trails z).steps ++ x ∷ [])) (sym j)
        ∙ (on_more b t (trails t).steps x
        ∙ (rw here (ap (λ z. on_actor b t (trails t).steps ++ record { tid = z; found = x.found; left = x.left } ∷ []) j)
        ∙ (ap (λ z. z ++ new ∷ []) (m b ∙ at b k) ∙ mine v w j own.0 own.1 own.2)))
    by true e false f =
        let j : t ≡ u = eqb-true t u e in
        let other : (x.actor == b) ≡ false = ne_eqb x.actor b (λ v. eqb-false b a f (sym v ∙ i)) in
        ap (λ z. on_actor b t ((trails z).steps ++ x ∷ [])) (sym j) ∙ (on_more b t (trails t).steps x ∙ (rw other (append-nil (on_actor b t (trails t).steps)) ∙ m b))
    by false e true f =
        let k : b ≡ a = eqb-true b a f in
        m b ∙ (at b k ∙ others v w (ne_eqb u t (λ v. eqb-false t u e (sym v))))
    by false e false f = m b

-- ---- the two premises of a rollback: a batch that is not aborted stands ahead of the cut, and so does a live ACT

-- all batches behind an aborted one are aborted
going_aborted : (next ep tail k : ℕ) (cs : List Cascade) (rs : List Ran) → AllByRecursion (FitsCell next cs ep tail) (batches_in rs) → Ascends (batches_in rs) → is_key_among (OfBatch k) (TrackLists.keys_going cs (keys_in rs)) ≡ true → is_aborted k cs ≡ true
going_aborted next ep tail k cs [] f asc e = absurd (true≢false (sym e))
going_aborted next ep tail k cs (Stands (OfAct t) c ss ∷ rs) f asc e = going_aborted next ep tail k cs rs f asc e
going_aborted next ep tail k cs (Stands (OfBatch x) c ss ∷ rs) f asc e = by (is_aborted x cs) refl e (going_aborted next ep tail k cs rs f.1 asc.1)
  where
    by : (b : Bool) → is_aborted x cs ≡ b → is_key_among (OfBatch k) (if b then record { who = OfBatch x; complete = c } ∷ keys_in rs else TrackLists.keys_going cs (keys_in rs)) ≡ true → (is_key_among (OfBatch k) (TrackLists.keys_going cs (keys_in rs)) ≡ true → is_aborted k cs ≡ true) → is_aborted k cs ≡ true
    by false a e r = r e
    by true a e r = elim (or_cases (x == k) (is_key_among (OfBatch k) (keys_in rs)) e) [
      | inl q ↦ subst (λ z. is_aborted z cs ≡ true) (eqb-true x k q) a
      | inr q ↦
          let l : x < k = PlaceLists.at_key (λ j. x < j) k rs q asc.0 in
          let m = PlaceLists.at_key (FitsCell next cs ep tail) k rs q f.1 in
          PlaceLists.suffix x k cs a (omega (arith, l)) (omega (arith, f.0.aborted a, m.placed))
    ]
going_aborted next ep tail k cs (Gone (OfAct t) ss ∷ rs) f asc e = going_aborted next ep tail k cs rs f asc e
going_aborted next ep tail k cs (Gone (OfBatch x) ss ∷ rs) f asc e = going_aborted next ep tail k cs rs f.1 asc.1 e

-- What is owed: no live ACT stands behind an aborted batch.
unfoldable pub LiveStay : {C : Type 0} → Event → Machine C → Type 0
LiveStay (Rollback a) s = (t : ℕ) → is_entry_among (OfAct t) (cell.going s.book.cascades (cell_at s a).entries) ≡ true → holds lives (act_of t s.book.acts) ≡ false
LiveStay _ s = Unit {0}

open_at : {C : Type 0} (w : Fixed C) (s : Machine C) (k t : ℕ) → settling.Settling w s → holds (is_open_with t) (batch_of k s.desk.batches) ≡ true → is_aborted k s.book.cascades ≡ false
open_at w s k t g r =
    let b = one_is (is_open_with t) (batch_of k s.desk.batches) r in
    let o = and_parts (is_formed b.0.stage) (not b.0.aborted) (and_parts (is_open b.0) (names_pact t b.0) b.2).0 in
    sym (settling.mark_is w s k b.0 b.1 g) ∙ not-true b.0.aborted o.1

pub stays_ahead : {C : Type 0} (w : Fixed C) (s : Machine C) (h : History) (who : Who) (t a : ℕ) → settling.Settling w s → Placed w s h → Tracked w s h → LiveStay (Rollback a) s → runs s who t ≡ true → is_key_among who (TrackLists.keys_going s.book.cascades (keys_in (h.long a))) ≡ false
unfolding Placed Tracked LiveStay
stays_ahead w s h (OfBatch k) t a g p tr l r = false_from_ne_true (is_key_among (OfBatch k) (TrackLists.keys_going s.book.cascades (keys_in (h.long a)))) (λ q. true≢false (sym (going_aborted _ _ _ k s.book.cascades (h.long a) (p a).fit (p a).ascends q) ∙ open_at w s k t g r))
stays_ahead w s h (OfAct u) t a g p tr l r = false_from_ne_true (is_key_among (OfAct u) (TrackLists.keys_going s.book.cascades (keys_in (h.long a))))
    (λ q. true≢false (sym (and_parts (u == t) (holds lives (act_of u s.book.acts)) r).1 ∙ l u (TrackLists.among_going s.book.cascades (OfAct u) (cell_at s a).entries ∙ (ap (λ ks. is_key_among (OfAct u) (TrackLists.keys_going s.book.cascades ks)) (tr a).stands ∙ q))))

-- ---- who leaves runs no more

not_leaving : (p q : Act → Bool) (t : ℕ) (xs : List Act) → ((x : Act) → p x ≡ true → q x ≡ true → ⊥) → holds p (act_of t xs) ≡ true → holds q (act_of t xs) ≡ true → ⊥
not_leaving p q t xs n h g = by (act_of t xs) h g
  where
    by : (o : Option Act) → holds p o ≡ true → holds q o ≡ true → ⊥
    by None h g = true≢false (sym h)
    by (Some x) h g = n x h g

over_not_live : (x : Act) → (is_doomed x.status || is_sealed x.status) ≡ true → is_live_status x.status ≡ true → ⊥
over_not_live x h g = by x.status h g
  where
    by : (st : Status) → (is_doomed st || is_sealed st) ≡ true → is_live_status st ≡ true → ⊥
    by Rattle.protocol.specs.Parts.Live h g = true≢false (sym h)
    by (Rattle.protocol.specs.Parts.Doomed v) h g = true≢false (sym g)
    by (Rattle.protocol.specs.Parts.Decided c) h g = true≢false (sym g)
    by (Rattle.protocol.specs.Parts.Sealed c) h g = true≢false (sym g)

pub finishes_other : {C : Type 0} (s : Machine C) (u t : ℕ) (who : Who) → holds (λ x. is_doomed x.status || is_sealed x.status) (act_of u s.book.acts) ≡ true → runs s who t ≡ true → is_who (OfAct u) who ≡ false
finishes_other s u t (OfBatch k) ok r = refl
finishes_other s u t (OfAct v) ok r = false_from_ne_true (u == v) (λ q. not_leaving (λ x. is_doomed x.status || is_sealed x.status) lives u s.book.acts over_not_live ok (subst (λ z. holds lives (act_of z s.book.acts) ≡ true) (sym (eqb-true u v q)) (and_parts (v == t) (holds lives (act_of v s.book.acts)) r).1))

settled_not_open : (t k : ℕ) (bs : List Batch) (q : Batch → Bool) → holds (λ b. is_settled b.stage && q b) (batch_of k bs) ≡ true → holds (is_open_with t) (batch_of k bs) ≡ true → ⊥
settled_not_open t k bs q h g = by (batch_of k bs) h g
  where
    stage : (st : Rattle.protocol.specs.Parts.Stage) → is_settled st ≡ true → is_formed st ≡ true → ⊥
    stage Rattle.protocol.specs.Parts.Formed h g = true≢false (sym h)
    stage Rattle.protocol.specs.Parts.Committing h g = true≢false (sym h)
    stage Rattle.protocol.specs.Parts.Settled h g = true≢false (sym g)

    by : (o : Option Batch) → holds (λ b. is_settled b.stage && q b) o ≡ true → holds (is_open_with t) o ≡ true → ⊥
    by None h g = true≢false (sym h)
    by (Some b) h g = stage b.stage (and_parts (is_settled b.stage) (q b) h).0 (and_parts (is_formed b.stage) (not b.aborted) (and_parts (is_open b) (names_pact t b) g).0).0

trims_other : {C : Type 0} (s : Machine C) (k t : ℕ) (q : Batch → Bool) (who : Who) → holds (λ b. is_settled b.stage && q b) (batch_of k s.desk.batches) ≡ true → runs s who t ≡ true → is_who (OfBatch k) who ≡ false
trims_other s k t q (OfAct u) ok r = refl
trims_other s k t q (OfBatch j) ok r = false_from_ne_true (k == j) (λ e. settled_not_open t k s.desk.batches q ok (subst (λ z. holds (is_open_with t) (batch_of z s.desk.batches) ≡ true) (sym (eqb-true k j e)) r))

-- ---- new ones

begun_steps : (t : ℕ) (ps : List Pact) (f : ℕ → Trail) → list_any (λ p. p.tid == t) ps ≡ true → (begun ps f t).steps ≡ []
begun_steps t [] f e = absurd (true≢false (sym e))
begun_steps t (p ∷ ps) f e = by (p.tid == t) refl e (begun_steps t ps f)
  where
    by : (b : Bool) → (p.tid == t) ≡ b → (b || list_any (λ p. p.tid == t) ps) ≡ true → (list_any (λ p. p.tid == t) ps ≡ true → (begun ps f t).steps ≡ []) → (with_at p.tid (record { tx = p.tx; steps = [] }) (begun ps f) t).steps ≡ []
    by true i e k = rw (eq-eqb t p.tid (sym (eqb-true p.tid t i))) refl
    by false i e k = rw (ne_eqb t p.tid (λ q. eqb-false p.tid t i (sym q))) (k e)

-- an ACT with a tid that was not drawn stands nowhere
not_standing : (next t : ℕ) (owners : ℕ → Who) (rs : List Ran) → next ≤ t → AllStanding (OwnsIt next owners) rs → is_key_among (OfAct t) (keys_in rs) ≡ false
not_standing next t owners [] l h = refl
not_standing next t owners (Stands (OfBatch k) c ss ∷ rs) l h = not_standing next t owners rs l h.1
not_standing next t owners (Stands (OfAct u) c ss ∷ rs) l h = rw (ne_eqb u t (λ q. omega (arith, q, l, h.0.0))) (not_standing next t owners rs l h.1)
not_standing next t owners (Gone y ss ∷ rs) l h = not_standing next t owners rs l h

-- nor does a batch that was not formed
not_placed : (next k ep tail : ℕ) (cs : List Cascade) (rs : List Ran) → next ≤ k → AllByRecursion (FitsCell next cs ep tail) (batches_in rs) → is_key_among (OfBatch k) (keys_in rs) ≡ false
not_placed next k ep tail cs rs l f = false_from_ne_true (is_key_among (OfBatch k) (keys_in rs)) (λ q. omega (arith, l, (PlaceLists.at_key (FitsCell next cs ep tail) k rs q f).formed))

who_stands : (t : ℕ) (es : List Entry) (p : Entry → Bool) → holds p (find (is_entry_of t) es) ≡ true → is_key_among (who_on t es) (map key_of es) ≡ true
who_stands t [] p h = absurd (true≢false (sym h))
who_stands t (e ∷ es) p h = by (is_entry_of t e) h (who_stands t es p)
  where
    by : (v : Bool) → holds p (if v then Some e else find (is_entry_of t) es) ≡ true → (holds p (find (is_entry_of t) es) ≡ true → is_key_among (who_on t es) (map key_of es) ≡ true)
        → (is_who (who_of e) (if v then who_of e else who_on t es) || is_key_among (if v then who_of e else who_on t es) (map key_of es)) ≡ true
    by true h k = rw (TrackLists.is_who_refl (who_of e)) refl
    by false h k = rw (k h) (or_true (is_who (who_of e) (who_on t es)))
      where
        or_true : (b : Bool) → (b || true) ≡ true
        or_true true = refl
        or_true false = refl

named_above : (low t : ℕ) (ps : List Pact) → PactsAscend low ps → list_any (λ p. p.tid == t) ps ≡ true → low ≤ t
named_above low t [] a e = absurd (true≢false (sym e))
named_above low t (p ∷ ps) a e = elim (or_cases (p.tid == t) (list_any (λ p. p.tid == t) ps) e) [ inl q ↦ omega (arith, a.0, eqb-true p.tid t q) | inr q ↦ omega (arith, a.0, named_above (p.tid + 1) t ps a.1 q) ]

-- one that is not drawn yet has not read
new_unread : {C : Type 0} (s : Machine C) (h : History) (t : ℕ) → Named s h → ReadBy s h → s.ring.next_tid ≤ t → (a : ℕ) → has_read (h.reads a) t ≡ false
unfolding ReadBy
new_unread s h t n rb l a = not_read a t s.book.acts (h.reads a) (false_from_ne_true (holds (reads_at a) (act_of t s.book.acts)) (λ q.
    let x = one_is (reads_at a) (act_of t s.book.acts) q in
    let f = all_found (λ x. Rattle.protocol_theorems.proofs.order.NamesKept.IsNamed s.ring.next_tid h.owners h.trails (OfAct x.tid) x.tid x.tx) (λ x. x.tid == t) s.book.acts x.0 n.acts x.1 in
    omega (arith, f.0.low, eqb-true x.0.tid t f.1, l))) (rb a)

-- who runs there is a reader where its entry is a reader's
reads_who_on : (acts : List Act) (u : ℕ) (es : List Entry) (p : Entry → Bool) → AllByRecursion (LockOf acts) es → holds p (find (is_entry_of u) es) ≡ true → reads_who acts (who_on u es) ≡ holds is_reader_entry (find (is_entry_of u) es)
reads_who_on acts u [] p l h = absurd (true≢false (sym h))
reads_who_on acts u (BatchEntry b ∷ es) p l h = by (is_entry_of u (BatchEntry b)) h (reads_who_on acts u es p l.1)
  where
    by : (v : Bool) → holds p (if v then Some (BatchEntry b) else find (is_entry_of u) es) ≡ true → (holds p (find (is_entry_of u) es) ≡ true → reads_who acts (who_on u es) ≡ holds is_reader_entry (find (is_entry_of u) es))
        → reads_who acts (if v then OfBatch b.bid else who_on u es) ≡ holds is_reader_entry (if v then Some (BatchEntry b) else find (is_entry_of u) es)
    by true h k = refl
    by false h k = k h
reads_who_on acts u (ActEntry x ∷ es) p l h = by (is_entry_of u (ActEntry x)) h (reads_who_on acts u es p l.1)
  where
    by : (v : Bool) → holds p (if v then Some (ActEntry x) else find (is_entry_of u) es) ≡ true → (holds p (find (is_entry_of u) es) ≡ true → reads_who acts (who_on u es) ≡ holds is_reader_entry (find (is_entry_of u) es))
        → reads_who acts (if v then OfAct x.tid else who_on u es) ≡ holds is_reader_entry (if v then Some (ActEntry x) else find (is_entry_of u) es)
    by true h k = reader_of x.reader (act_of x.tid acts) l.0
    by false h k = k h

-- ---- over states

-- who runs after the event, as the book has it before or as it has it now
kept_for : {C : Type 0} (w : Fixed C) (e : Event) (s : Machine C) (h : History) → IsAllowed w e s → LiveStay e s → settling.Settling w s → Placed w s h → Tracked w s h → FromDesk s → Named s h → Locks s → ReadBy s h → Matched s h
    → (who : Who) (t : ℕ) → runs (after w e s) who t ≡ true → (v : Bool) → (runs s who t ≡ true → v ≡ reads_who s.book.acts who) → Match v who t (grown w e s h).trails (grown w e s h).long (grown w e s h).reads
unfolding Matched Placed Tracked Locks conditions grown
kept_for w (Form j) s h ok l st p tr d n lo rb g = λ who t r v k. elim (runs_was w (Form j) s who t r) [ inl o ↦ old who t v o (k o) | inr q ↦ new who t v q ]
  where
    old : (who : Who) (t : ℕ) (v : Bool) → runs s who t ≡ true → v ≡ reads_who s.book.acts who → Match v who t (begun (ring.next_pacts w.text s.ring) h.trails) h.long h.reads
    old who t v o k = λ a. ap (λ z. on_actor a t z.steps) (begun_below (ring.next_pacts w.text s.ring) s.ring.next_tid t h.trails (new_tids s.ring.next_tid s.ring.next_tid _ (omega arith)) (runs_named s h who t n o).0) ∙ subst (λ z. Match z who t h.trails h.long h.reads) (sym k) (g who t o) a

    new : (who : Who) (t : ℕ) (v : Bool) → IsNew w (Form j) s who t → Match v who t (begun (ring.next_pacts w.text s.ring) h.trails) h.long h.reads
    new (OfAct u) t v q = absurd q.1
    new (OfBatch i) t v q = fresh v (OfBatch i) t (begun (ring.next_pacts w.text s.ring) h.trails) h.long h.reads (begun_steps t (ring.next_pacts w.text s.ring) h.trails q.1)
        (λ a. not_placed s.ring.next_bid i _ _ s.book.cascades (h.long a) (omega (arith, eqb-true j s.ring.next_bid ok.0, q.0)) (p a).fit) (new_unread s h t n rb (named_above s.ring.next_tid t (ring.next_pacts w.text s.ring) (new_tids s.ring.next_tid s.ring.next_tid _ (omega arith)) q.1))
kept_for w (Admit u) s h ok l st p tr d n lo rb g = λ who t r v k. elim (runs_was w (Admit u) s who t r) [ inl o ↦ old who t v o (k o) | inr q ↦ new who t v q ]
  where
    trails : ℕ → Trail
    trails = with_at u (record { tx = Rattle.protocol.specs.OnPost.next_act s.ring; steps = [] }) h.trails

    i : u ≡ s.ring.next_tid
    i = eqb-true u s.ring.next_tid ok.0

    old : (who : Who) (t : ℕ) (v : Bool) → runs s who t ≡ true → v ≡ reads_who s.book.acts who → Match v who t trails h.long h.reads
    old who t v o k = λ a. ap (λ z. on_actor a t z.steps) (other t (ne_eqb t u (λ q. omega (arith, q, i, (runs_named s h who t n o).0)))) ∙ subst (λ z. Match z who t h.trails h.long h.reads) (sym k) (g who t o) a
      where
        other : (t : ℕ) → (t == u) ≡ false → trails t ≡ h.trails t
        other t e = rw e refl

    new : (who : Who) (t : ℕ) (v : Bool) → IsNew w (Admit u) s who t → Match v who t trails h.long h.reads
    new (OfBatch j) t v q = absurd q
    new (OfAct y) t v q = fresh v (OfAct y) t trails h.long h.reads (rw (eq-eqb t u (sym q.1)) refl) (λ a. not_standing s.ring.next_tid y h.owners (h.long a) (omega (arith, i, q.0, q.1)) (n.standing a)) (new_unread s h t n rb (omega (arith, i, q.1)))
kept_for w (Arrive k a) s h ok l st p tr d n lo rb g = λ who t r v same. elim (runs_was w (Arrive k a) s who t r) [ inl o ↦ carried v who t a h.trails h.long h.reads _ (more_slices who (OfBatch k) (h.long a)) (subst (λ z. Match z who t h.trails h.long h.reads) (sym (same o)) (g who t o)) | inr q ↦ absurd (none who t q) ]
  where
    none : (who : Who) (t : ℕ) → IsNew w (Arrive k a) s who t → ⊥
    none (OfBatch j) t q = q
    none (OfAct j) t q = q.1
kept_for w (Ask u a) s h ok l st p tr d n lo rb g = λ who t r v k. elim (runs_was w (Ask u a) s who t r) [ inl o ↦ carried v who t a h.trails h.long h.reads _ (asks_slices who u (book.in_the_way (lock_of u s.book.acts) (cell_at s a).entries) (h.long a)) (subst (λ z. Match z who t h.trails h.long h.reads) (sym (k o)) (g who t o)) | inr q ↦ absurd (none who t q) ]
  where
    none : (who : Who) (t : ℕ) → IsNew w (Ask u a) s who t → ⊥
    none (OfBatch j) t q = q
    none (OfAct j) t q = q.1
kept_for w (Run u a) s h ok l st p tr d n lo rb g = λ who t r v k. elim (runs_was w (Run u a) s who t r) [
  | inl o ↦
      runs_on v (cell.reads_on u (cell_at s a).entries) who (who_on u (cell_at s a).entries) t u a (record { actor = a; found = (cell_at s a).state; left = (cell.slice_run w.code u a (cell_at s a)).state }) h.trails h.long h.reads refl
      (λ e. (is_owner who t e o, subst (λ ks. is_key_among (who_on u (cell_at s a).entries) ks ≡ true) (tr a).stands (who_stands u (cell_at s a).entries (is_turn_of u) turn), k o ∙ (ap (reads_who s.book.acts) (is_owner who t e o) ∙ reads_who_on s.book.acts u (cell_at s a).entries (is_turn_of u) (lo a) turn)))
      (subst (λ z. Match z who t h.trails h.long h.reads) (sym (k o)) (g who t o))
  | inr q ↦ absurd (none who t q)
]
  where
    none : (who : Who) (t : ℕ) → IsNew w (Run u a) s who t → ⊥
    none (OfBatch j) t q = q
    none (OfAct j) t q = q.1

    turn : holds (is_turn_of u) (find (is_entry_of u) (cell_at s a).entries) ≡ true
    turn = held (λ c. holds (is_turn_of u) (find (is_entry_of u) c.entries)) s.cells a no_cell ok.1.1.0

    is_owner : (who : Who) (t : ℕ) → t ≡ u → runs s who t ≡ true → who ≡ who_on u (cell_at s a).entries
    is_owner who t e o = sym (runs_named s h who t n o).1 ∙ (ap h.owners e ∙ runs_for_owner s h u a (is_turn_of u) (tr a).stands (d.entries a) n turn)
kept_for w (Complete k a) s h ok l st p tr d n lo rb g = λ who t r v same. elim (runs_was w (Complete k a) s who t r) [ inl o ↦ carried v who t a h.trails h.long h.reads _ (completed_slices who k (h.long a)) (subst (λ z. Match z who t h.trails h.long h.reads) (sym (same o)) (g who t o)) | inr q ↦ absurd (none who t q) ]
  where
    none : (who : Who) (t : ℕ) → IsNew w (Complete k a) s who t → ⊥
    none (OfBatch j) t q = q
    none (OfAct j) t q = q.1
kept_for w (Rollback a) s h ok l st p tr d n lo rb g = λ who t r v k. elim (runs_was w (Rollback a) s who t r) [ inl o ↦ carried v who t a h.trails h.long h.reads _ (staying_slices who s.book.cascades (h.long a) (stays_ahead w s h who t a st p tr l o)) (subst (λ z. Match z who t h.trails h.long h.reads) (sym (k o)) (g who t o)) | inr q ↦ absurd (none who t q) ]
  where
    none : (who : Who) (t : ℕ) → IsNew w (Rollback a) s who t → ⊥
    none (OfBatch j) t q = q
    none (OfAct j) t q = q.1
kept_for w (Finish u a) s h ok l st p tr d n lo rb g = λ who t r v k. elim (runs_was w (Finish u a) s who t r) [ inl o ↦ carried v who t a h.trails h.long h.reads _ (leaves who (is_traceless (act_of u s.book.acts)) (finishes_other s u t who ok.0 o)) (subst (λ z. Match z who t h.trails h.long h.reads) (sym (k o)) (g who t o)) | inr q ↦ absurd (none who t q) ]
  where
    none : (who : Who) (t : ℕ) → IsNew w (Finish u a) s who t → ⊥
    none (OfBatch j) t q = q
    none (OfAct j) t q = q.1

    leaves : (who : Who) (b : Bool) → is_who (OfAct u) who ≡ false → slices_of who (if b then without_standing (OfAct u) (h.long a) else map (left_for_good (OfAct u)) (h.long a)) ≡ slices_of who (h.long a)
    leaves who true e = without_slices who (OfAct u) (h.long a) e
    leaves who false e = left_slices who (OfAct u) (h.long a) e
kept_for w (Trim k a) s h ok l st p tr d n lo rb g = λ who t r v same. elim (runs_was w (Trim k a) s who t r) [ inl o ↦ carried v who t a h.trails h.long h.reads _ (left_slices who (OfBatch k) (h.long a) (trims_other s k t _ who ok.0 o)) (subst (λ z. Match z who t h.trails h.long h.reads) (sym (same o)) (g who t o)) | inr q ↦ absurd (none who t q) ]
  where
    none : (who : Who) (t : ℕ) → IsNew w (Trim k a) s who t → ⊥
    none (OfBatch j) t q = q
    none (OfAct j) t q = q.1
kept_for w e s h ok l st p tr d n lo rb g = λ who t r v k. elim (runs_was w e s who t r) [ inl o ↦ subst (λ z. Match z who t h.trails h.long h.reads) (sym (k o)) (g who t o) | inr q ↦ absurd (none who t q) ]
  where
    none : (who : Who) (t : ℕ) → IsNew w e s who t → ⊥
    none (OfBatch j) t q = q
    none (OfAct j) t q = q.1

pub kept : {C : Type 0} (w : Fixed C) (e : Event) (s : Machine C) (h : History) → IsAllowed w e s → LiveStay e s → settling.Settling w s → Placed w s h → Tracked w s h → FromDesk s → Named s h → Locks s → ReadBy s h → Matched s h → Matched (after w e s) (grown w e s h)
unfolding Matched
kept w e s h ok l st p tr d n lo rb g = λ who t r. kept_for w e s h ok l st p tr d n lo rb g who t r (reads_who (after w e s).book.acts who) (same who t)
  where
    same : (who : Who) (t : ℕ) → runs s who t ≡ true → reads_who (after w e s).book.acts who ≡ reads_who s.book.acts who
    same (OfBatch k) t o = refl
    same (OfAct u) t o =
        let x = one_is lives (act_of u s.book.acts) (and_parts (u == t) (holds lives (act_of u s.book.acts)) o).1 in
        let was : holds (λ y. agree y.reader x.0.reader) (act_of u s.book.acts) ≡ true = subst (λ z. holds (λ y. agree y.reader x.0.reader) z ≡ true) (sym x.1) (agree_same x.0.reader) in
        reader_of x.0.reader (act_of u (after w e s).book.acts) (grown_holds (λ y. agree y.reader x.0.reader) s.book.acts (after w e s).book.acts u (λ y z k q. subst (λ v. agree v x.0.reader ≡ true) (sym k.reader) q) (acts_grow w e s) was)
        ∙ sym (reader_of x.0.reader (act_of u s.book.acts) was)
