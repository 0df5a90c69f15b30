-- The last batch of each actor, and before numbers along long schedules, event by event.
use Rattle.std.specs.Prelude.{◌≡◌, refl, ℕ, ◌≤◌, ◌<◌, ◌==◌, nat_le, max, Bool, true, false, ◌&&◌, if◌then◌else◌, Option, Some, None, List, [], ◌∷◌, ◌++◌, length, map}
use Rattle.std.specs.List.{AllByRecursion}
use Rattle.std.proofs.Common.{arith, sym, subst, inl, inr, ◌∙◌}
use Rattle.std.proofs.lemmas.List.{append-nil}
use Rattle.std.proofs.lemmas.Bool.{eqb-true, leb-true, le-leb, or_cases, or_left, or_right, true≢false, cases_lt}
use Rattle.protocol.specs.Fixed.{Fixed, Next, Go, Ended}
use Rattle.protocol.specs.Parts.{Act, Book, Pair, Cascade, Status, Live, Doomed, Decided, Sealed, OfBatch, OfAct, Who, Entry, BatchEntry, ActEntry, Outcome, Cell, Machine}
use Rattle.protocol.specs.Events.{Event, Admit, Arrive, Ask, Take, Run, Send, End, Close, Complete, Abort, Rollback, Prepare, Vouch, Decide, Seal, Finish, Trim}
use Rattle.protocol.specs.Words.{holds, greatest, is_doomed, is_live_status, is_value, is_who, act_of, batches_on, outcome_of, has_act, epoch_of, sub_of, lock_of, floor_at}
use Rattle.protocol.specs.Spread.{raised, carried, crossed_out, is_crossed, doomed_by_order}
use Rattle.protocol.specs.Conditions.{IsAllowed, conditions, epoch}
use Rattle.protocol.specs.Effects.{after, cell_at}
use Rattle.protocol.specs.OnBook as book
use Rattle.protocol.specs.OnCell as cell
use Rattle.protocol.specs.OnCell.{is_cut}
use Rattle.protocol.specs.History.{History, Slice, Ran, Stands, Gone, grown, not_run, ran_in, completed, left_for_good, without_standing, long_staying, asks, batches_in, batch_in, is_traceless}
use Rattle.protocol_laws.specs.Turns.{Turns}
use Rattle.protocol_laws.specs.Places.{FitsCell}
use Rattle.protocol_laws.specs.Befores.{gone_in, LastIs, is_above, Befores}
use Rattle.protocol_laws.proofs.first.EpochsKept as epochs
use Rattle.protocol_laws.proofs.machine.TrackLists
use Rattle.protocol_laws.proofs.machine.TracksKept.{beside, beside_same, in_range, arrives}
use Rattle.protocol_laws.proofs.machine.TurnLists
use Rattle.protocol_laws.proofs.machine.TurnsKept.{Turned}
use Rattle.protocol_laws.proofs.machine.PlaceLists
use Rattle.protocol_laws.proofs.machine.PlacesKept.{Placed, message}
use Rattle.protocol_laws.proofs.first.Lists.{all_back, all_front, all_join, weaker}
use Rattle.protocol_laws.proofs.first.Statuses.{doomed_decided, doomed_sealed, if_tid}

-- ---- a fact of an ACT that no event takes back: that it is doomed, or has a before number so great

holds_map : (top : ℕ) (f : Act → Act) → ((x : Act) → (f x).tid ≡ x.tid) → ((x : Act) → is_above top x ≡ true → is_above top (f x) ≡ true) → (t : ℕ) (xs : List Act) → holds (is_above top) (act_of t xs) ≡ true → holds (is_above top) (act_of t (map f xs)) ≡ true
holds_map top f i g t [] h = h
holds_map top f i g t (x ∷ xs) h = subst (λ z. holds (is_above top) (if z == t then Some (f x) else act_of t (map f xs)) ≡ true) (sym (i x)) (by (x.tid == t) h (holds_map top f i g t xs))
  where
    by : (v : Bool) → holds (is_above top) (if v then Some x else act_of t xs) ≡ true → (holds (is_above top) (act_of t xs) ≡ true → holds (is_above top) (act_of t (map f xs)) ≡ true) → holds (is_above top) (if v then Some (f x) else act_of t (map f xs)) ≡ true
    by true h r = g x h
    by false h r = r h

holds_more : (top t : ℕ) (n : Act) (xs : List Act) → holds (is_above top) (act_of t xs) ≡ true → holds (is_above top) (act_of t (xs ++ n ∷ [])) ≡ true
holds_more top t n [] h = absurd (true≢false (sym h))
holds_more top t n (x ∷ xs) h = by (x.tid == t) h (holds_more top t n xs)
  where
    by : (v : Bool) → holds (is_above top) (if v then Some x else act_of t xs) ≡ true → (holds (is_above top) (act_of t xs) ≡ true → holds (is_above top) (act_of t (xs ++ n ∷ [])) ≡ true) → holds (is_above top) (if v then Some x else act_of t (xs ++ n ∷ [])) ≡ true
    by true h r = h
    by false h r = r h

-- more, and doomed still
above_more : (top : ℕ) (x y : Act) → x.m ≤ y.m → (is_doomed x.status ≡ true → is_doomed y.status ≡ true) → is_above top x ≡ true → is_above top y ≡ true
above_more top x y l d h = elim (or_cases (is_doomed x.status) (nat_le top x.m) h) [ inl q ↦ or_left (is_doomed y.status) (nat_le top y.m) (d q) | inr q ↦ or_right (is_doomed y.status) (nat_le top y.m) (le-leb top y.m (omega (arith, leb-true top x.m q, l))) ]

change_above : (top : ℕ) (v : Bool) (f : Act → Act) (x : Act) → (is_above top x ≡ true → is_above top (f x) ≡ true) → is_above top x ≡ true → is_above top (book.change_if v f x) ≡ true
change_above top true f x g h = g h
change_above top false f x g h = h

changed : (top t u : ℕ) (f : Act → Act) (xs : List Act) → ((x : Act) → (f x).tid ≡ x.tid) → ((x : Act) → is_above top x ≡ true → is_above top (f x) ≡ true) → holds (is_above top) (act_of t xs) ≡ true → holds (is_above top) (act_of t (book.changed_act u f xs)) ≡ true
changed top t u f xs i g h = holds_map top (λ x. book.change_if (x.tid == u) f x) (λ x. if_tid (x.tid == u) f x (i x)) (λ x. change_above top (x.tid == u) f x (g x)) t xs h

raised_above : (top t : ℕ) (ps : List Pair) (xs : List Act) → holds (is_above top) (act_of t xs) ≡ true → holds (is_above top) (act_of t (raised ps xs)) ≡ true
raised_above top t ps [] h = h
raised_above top t ps (x ∷ xs) h = by (x.tid == t) h (raised_above top t ps xs)
  where
    by : (v : Bool) → holds (is_above top) (if v then Some x else act_of t xs) ≡ true → (holds (is_above top) (act_of t xs) ≡ true → holds (is_above top) (act_of t (raised ps xs)) ≡ true)
        → holds (is_above top) (if v then Some (record x { m = max x.m (carried ps x (raised ps xs)) }) else act_of t (raised ps xs)) ≡ true
    by true h r = above_more top x (record x { m = max x.m (carried ps x (raised ps xs)) }) (omega arith) (λ q. q) h
    by false h r = r h

doomed_if : (v : Bool) (s d : Status) → is_doomed d ≡ true → is_doomed s ≡ true → is_doomed (if v then d else s) ≡ true
doomed_if true s d e h = e
doomed_if false s d e h = h

crossed_above : (top a : ℕ) (x : Act) → is_above top x ≡ true → is_above top (crossed_out a x) ≡ true
crossed_above top a x h = above_more top x (crossed_out a x) (omega arith) (λ q. doomed_if (is_crossed x) x.status _ refl q) h

by_order : (top t a : ℕ) (xs : List Act) → holds (is_above top) (act_of t xs) ≡ true → holds (is_above top) (act_of t (doomed_by_order a xs)) ≡ true
by_order top t a xs h = holds_map top (crossed_out a) (λ x. refl) (crossed_above top a) t xs h

doomed_still : (s d : Status) → is_doomed s ≡ true → is_doomed (if is_live_status s then d else s) ≡ true
doomed_still Live d e = absurd (true≢false (sym e))
doomed_still (Doomed v) d e = refl
doomed_still (Decided c) d e = e
doomed_still (Sealed c) d e = e

cascade_doomed : (v : Bool) (s d : Status) → is_doomed s ≡ true → is_doomed d ≡ true → is_doomed (if v then d else s) ≡ true
cascade_doomed true s d h e = e
cascade_doomed false s d h e = h

asked_above : {C : Type 0} (top u t a : ℕ) (o : Option ℕ) (c : Cell C) (b : Book) → holds (is_above top) (act_of u b.acts) ≡ true → holds (is_above top) (act_of u (book.asked_acts o (book.met (lock_of t b.acts) c.entries) t a (max c.last (floor_at t b.acts c)) b)) ≡ true
asked_above top u t a (Some older) c b h = changed top u t _ b.acts (λ x. refl) (λ x q. above_more top x (book.doomed_by (Rattle.protocol.specs.Verdicts.died a older t) x) (omega arith) (λ p. doomed_still x.status _ p) q) h
asked_above top u t a None c b h = by_order top u a _ (raised_above top u _ _ (changed top u t _ b.acts (λ x. refl) (λ x q. above_more top x (book.joins a (max c.last (floor_at t b.acts c)) x) (omega arith) (λ p. p) q) h))

pub book_stays : {C : Type 0} (w : Fixed C) (e : Event) (s : Machine C) (top t : ℕ) → holds (is_above top) (act_of t s.book.acts) ≡ true → holds (is_above top) (act_of t (after w e s).book.acts) ≡ true
unfolding after
book_stays w (Admit u) s top t h = holds_more top t _ s.book.acts h
book_stays w (Arrive k a) s top t h = by_order top t a _ (holds_map top (book.lowered k (book.tids_on (cell_at s a).entries)) (λ x. refl) (λ x q. q) t s.book.acts h)
book_stays w (Ask u a) s top t h = asked_above top t u a (book.in_the_way (lock_of u s.book.acts) (cell_at s a).entries) (cell_at s a) s.book h
book_stays {C} w (End u a) s top t h = by (has_act u (cell_at s a).entries) (outcome_of u (cell_at s a).outbox)
  where
    next : (n : Next C) → holds (is_above top) (act_of t (book.noted_for u n s.book.acts)) ≡ true
    next (Go b x) = h
    next (Ended r) = changed top t u (book.with_result r) s.book.acts (λ x. refl) (λ x q. q) h

    by : (v : Bool) (o : Option (Outcome C)) → holds (is_above top) (act_of t (if v then book.noted_from u o s.book.acts else s.book.acts)) ≡ true
    by false o = h
    by true None = h
    by true (Some x) = next x.next
book_stays w (Abort k) s top t h = holds_map top _ (λ x. refl) (λ x q. above_more top x (book.cascaded k (book.failed_tx (book.why k s.desk)) x) (omega arith) (λ p. cascade_doomed (is_live_status x.status && nat_le k x.m) x.status _ p refl) q) t s.book.acts h
book_stays w (Prepare u a) s top t h = changed top t u _ s.book.acts (λ x. refl) (λ x q. q) h
book_stays w (Vouch u a) s top t h = changed top t u _ s.book.acts (λ x. refl) (λ x q. q) h
book_stays w (Decide u) s top t h = changed top t u _ s.book.acts (λ x. refl) (λ x q. above_more top x (book.decided_as s.book.next_c x) (omega arith) (doomed_decided s.book.next_c (is_value x.result) x.status) q) h
book_stays w (Seal u) s top t h = changed top t u _ s.book.acts (λ x. refl) (λ x q. above_more top x (book.sealed x) (omega arith) (doomed_sealed x.status) q) h
book_stays w (Finish u a) s top t h = changed top t u _ s.book.acts (λ x. refl) (λ x q. q) h
book_stays w e s top t h = h

-- ---- before numbers along a long schedule

stay : {C : Type 0} (w : Fixed C) (e : Event) (s : Machine C) (top : ℕ) (rs : List Ran) → Befores s.book.acts top rs → Befores (after w e s).book.acts top rs
stay w e s top [] h = tt
stay w e s top (Stands (OfBatch k) c ss ∷ rs) h = stay w e s (max top k) rs h
stay w e s top (Stands (OfAct t) c ss ∷ rs) h = (book_stays w e s top t h.0, stay w e s top rs h.1)
stay w e s top (Gone (OfBatch k) ss ∷ rs) h = stay w e s (max top k) rs h
stay w e s top (Gone (OfAct t) ss ∷ rs) h = stay w e s top rs h

more_batch : (acts : List Act) (top k : ℕ) (rs : List Ran) → Befores acts top rs → Befores acts top (rs ++ not_run (OfBatch k) ∷ [])
more_batch acts top k [] h = tt
more_batch acts top k (Stands (OfBatch j) c ss ∷ rs) h = more_batch acts (max top j) k rs h
more_batch acts top k (Stands (OfAct t) c ss ∷ rs) h = (h.0, more_batch acts top k rs h.1)
more_batch acts top k (Gone (OfBatch j) ss ∷ rs) h = more_batch acts (max top j) k rs h
more_batch acts top k (Gone (OfAct t) ss ∷ rs) h = more_batch acts top k rs h

lower : (top high t : ℕ) (acts : List Act) → top ≤ high → holds (is_above high) (act_of t acts) ≡ true → holds (is_above top) (act_of t acts) ≡ true
lower top high t acts l h = by (act_of t acts) h
  where
    by : (o : Option Act) → holds (is_above high) o ≡ true → holds (is_above top) o ≡ true
    by None q = q
    by (Some x) q = elim (or_cases (is_doomed x.status) (nat_le high x.m) q) [ inl v ↦ or_left (is_doomed x.status) _ v | inr v ↦ or_right (is_doomed x.status) (nat_le top x.m) (le-leb top x.m (omega (arith, l, leb-true high x.m v))) ]

more_act : (acts : List Act) (top high t : ℕ) (rs : List Ran) → top ≤ high → AllByRecursion (λ k. k ≤ high) (batches_in rs) → holds (is_above high) (act_of t acts) ≡ true → Befores acts top rs → Befores acts top (rs ++ not_run (OfAct t) ∷ [])
more_act acts top high t [] l a q h = (lower top high t acts l q, tt)
more_act acts top high t (Stands (OfBatch j) c ss ∷ rs) l a q h = more_act acts (max top j) high t rs (omega (arith, l, a.0)) a.1 q h
more_act acts top high t (Stands (OfAct u) c ss ∷ rs) l a q h = (h.0, more_act acts top high t rs l a q h.1)
more_act acts top high t (Gone (OfBatch j) ss ∷ rs) l a q h = more_act acts (max top j) high t rs (omega (arith, l, a.0)) a.1 q h
more_act acts top high t (Gone (OfAct u) ss ∷ rs) l a q h = more_act acts top high t rs l a q h

ran : (acts : List Act) (top : ℕ) (who : Who) (x : Slice) (rs : List Ran) → Befores acts top rs → Befores acts top (map (ran_in who x) rs)
ran acts top who x [] h = tt
ran acts top who x (Stands (OfBatch k) c ss ∷ rs) h = ran acts (max top k) who x rs h
ran acts top who x (Stands (OfAct t) c ss ∷ rs) h = (h.0, ran acts top who x rs h.1)
ran acts top who x (Gone (OfBatch k) ss ∷ rs) h = ran acts (max top k) who x rs h
ran acts top who x (Gone (OfAct t) ss ∷ rs) h = ran acts top who x rs h

complete : (acts : List Act) (top j : ℕ) (rs : List Ran) → Befores acts top rs → Befores acts top (map (completed j) rs)
complete acts top j [] h = tt
complete acts top j (Stands (OfBatch k) c ss ∷ rs) h = complete acts (max top k) j rs h
complete acts top j (Stands (OfAct t) c ss ∷ rs) h = (h.0, complete acts top j rs h.1)
complete acts top j (Gone (OfBatch k) ss ∷ rs) h = complete acts (max top k) j rs h
complete acts top j (Gone (OfAct t) ss ∷ rs) h = complete acts top j rs h

leave : (acts : List Act) (top : ℕ) (who : Who) (rs : List Ran) → Befores acts top rs → Befores acts top (map (left_for_good who) rs)
leave acts top who [] h = tt
leave acts top who (Stands (OfBatch k) c ss ∷ rs) h = by (is_who (OfBatch k) who) (leave acts (max top k) who rs h)
  where
    by : (v : Bool) → Befores acts (max top k) (map (left_for_good who) rs) → Befores acts top ((if v then Gone (OfBatch k) ss else Stands (OfBatch k) c ss) ∷ map (left_for_good who) rs)
    by true g = g
    by false g = g
leave acts top who (Stands (OfAct t) c ss ∷ rs) h = by (is_who (OfAct t) who) (leave acts top who rs h.1)
  where
    by : (v : Bool) → Befores acts top (map (left_for_good who) rs) → Befores acts top ((if v then Gone (OfAct t) ss else Stands (OfAct t) c ss) ∷ map (left_for_good who) rs)
    by true g = g
    by false g = (h.0, g)
leave acts top who (Gone (OfBatch k) ss ∷ rs) h = leave acts (max top k) who rs h
leave acts top who (Gone (OfAct t) ss ∷ rs) h = leave acts top who rs h

undo : (acts : List Act) (top t : ℕ) (rs : List Ran) → Befores acts top rs → Befores acts top (without_standing (OfAct t) rs)
undo acts top t [] h = tt
undo acts top t (Stands (OfBatch k) c ss ∷ rs) h = undo acts (max top k) t rs h
undo acts top t (Stands (OfAct u) c ss ∷ rs) h = by (u == t) (undo acts top t rs h.1)
  where
    by : (v : Bool) → Befores acts top (without_standing (OfAct t) rs) → Befores acts top (if v then without_standing (OfAct t) rs else Stands (OfAct u) c ss ∷ without_standing (OfAct t) rs)
    by true g = g
    by false g = (h.0, g)
undo acts top t (Gone (OfBatch k) ss ∷ rs) h = undo acts (max top k) t rs h
undo acts top t (Gone (OfAct u) ss ∷ rs) h = undo acts top t rs h

roll_back : (acts : List Act) (top : ℕ) (cs : List Cascade) (rs : List Ran) → Befores acts top rs → Befores acts top (long_staying cs rs)
roll_back acts top cs [] h = tt
roll_back acts top cs (Stands (OfBatch k) c ss ∷ rs) h = by (is_cut cs (OfBatch k)) (roll_back acts (max top k) cs rs h)
  where
    by : (v : Bool) → Befores acts (max top k) (long_staying cs rs) → Befores acts top (if v then [] else Stands (OfBatch k) c ss ∷ long_staying cs rs)
    by true g = tt
    by false g = g
roll_back acts top cs (Stands (OfAct t) c ss ∷ rs) h = (h.0, roll_back acts top cs rs h.1)
roll_back acts top cs (Gone (OfBatch k) ss ∷ rs) h = roll_back acts (max top k) cs rs h
roll_back acts top cs (Gone (OfAct t) ss ∷ rs) h = roll_back acts top cs rs h

-- an ACT that is placed has a number at least as great as the last batch
asked_own : {C : Type 0} (t a : ℕ) (c : Cell C) (b : Book) → holds (λ x. true) (act_of t b.acts) ≡ true → holds (is_above c.last) (act_of t (book.asked_acts None (book.met (lock_of t b.acts) c.entries) t a (max c.last (floor_at t b.acts c)) b)) ≡ true
asked_own t a c b h = by_order c.last t a _ (raised_above c.last t _ _ (joined t b.acts h))
  where
    joined : (t : ℕ) (xs : List Act) → holds (λ x. true) (act_of t xs) ≡ true → holds (is_above c.last) (act_of t (book.changed_act t (book.joins a (max c.last (floor_at t b.acts c))) xs)) ≡ true
    joined t [] h = absurd (true≢false (sym h))
    joined t (x ∷ xs) h = by (x.tid == t) refl h (joined t xs)
      where
        by : (v : Bool) → (x.tid == t) ≡ v → holds (λ x. true) (if v then Some x else act_of t xs) ≡ true → (holds (λ x. true) (act_of t xs) ≡ true → holds (is_above c.last) (act_of t (book.changed_act t (book.joins a (max c.last (floor_at t b.acts c))) xs)) ≡ true)
            → holds (is_above c.last) (act_of t (book.change_if v (book.joins a (max c.last (floor_at t b.acts c))) x ∷ book.changed_act t (book.joins a (max c.last (floor_at t b.acts c))) xs)) ≡ true
        by true e h r = rw e (or_right (is_doomed x.status) _ (le-leb c.last (max x.m (max c.last (floor_at t b.acts c))) (omega arith)))
        by false e h r = rw e (r h)

-- ---- the last batch of an actor

pub gone_more : (who : Who) (rs : List Ran) → gone_in (rs ++ not_run who ∷ []) ≡ gone_in rs
gone_more who [] = refl
gone_more who (Stands y c ss ∷ rs) = gone_more who rs
gone_more who (Gone y ss ∷ rs) = rw (gone_more who rs) refl

pub gone_ran : (who : Who) (x : Slice) (rs : List Ran) → gone_in (map (ran_in who x) rs) ≡ gone_in rs
gone_ran who x [] = refl
gone_ran who x (Stands y c ss ∷ rs) = gone_ran who x rs
gone_ran who x (Gone y ss ∷ rs) = rw (gone_ran who x rs) refl

pub gone_completed : (k : ℕ) (rs : List Ran) → gone_in (map (completed k) rs) ≡ gone_in rs
gone_completed k [] = refl
gone_completed k (Stands y c ss ∷ rs) = gone_completed k rs
gone_completed k (Gone y ss ∷ rs) = rw (gone_completed k rs) refl

pub gone_undone : (t : ℕ) (rs : List Ran) → gone_in (without_standing (OfAct t) rs) ≡ gone_in rs
gone_undone t [] = refl
gone_undone t (Stands y c ss ∷ rs) = by (is_who y (OfAct t)) (gone_undone t rs)
  where
    by : (v : Bool) → gone_in (without_standing (OfAct t) rs) ≡ gone_in rs → gone_in (if v then without_standing (OfAct t) rs else Stands y c ss ∷ without_standing (OfAct t) rs) ≡ gone_in rs
    by true g = g
    by false g = g
gone_undone t (Gone y ss ∷ rs) = rw (gone_undone t rs) refl

-- whoever leaves, nothing above the number leaves
gone_left : (n : ℕ) (who : Who) (rs : List Ran) → AllByRecursion (λ k. k ≤ n) (batch_in who) → AllByRecursion (λ k. k ≤ n) (gone_in rs) → AllByRecursion (λ k. k ≤ n) (gone_in (map (left_for_good who) rs))
gone_left n who [] b h = tt
gone_left n who (Stands y c ss ∷ rs) b h = by (is_who y who) refl (gone_left n who rs b h)
  where
    by : (v : Bool) → is_who y who ≡ v → AllByRecursion (λ k. k ≤ n) (gone_in (map (left_for_good who) rs)) → AllByRecursion (λ k. k ≤ n) (gone_in ((if v then Gone y ss else Stands y c ss) ∷ map (left_for_good who) rs))
    by true e g = all_join _ (batch_in y) _ (subst (λ z. AllByRecursion (λ k. k ≤ n) (batch_in z)) (sym (Rattle.protocol_laws.proofs.machine.TrackLists.is_who_true y who e)) b) g
    by false e g = g
gone_left n who (Gone y ss ∷ rs) b h = all_join _ (batch_in y) _ (all_front _ (batch_in y) (gone_in rs) h) (gone_left n who rs b (all_back _ (batch_in y) (gone_in rs) h))

gone_staying : (P : ℕ → Type 0) (cs : List Cascade) (rs : List Ran) → AllByRecursion P (gone_in rs) → AllByRecursion P (gone_in (long_staying cs rs))
gone_staying P cs [] h = tt
gone_staying P cs (Stands y c ss ∷ rs) h = by (is_cut cs y) (gone_staying P cs rs h)
  where
    by : (v : Bool) → AllByRecursion P (gone_in (long_staying cs rs)) → AllByRecursion P (gone_in (if v then [] else Stands y c ss ∷ long_staying cs rs))
    by true g = tt
    by false g = g
gone_staying P cs (Gone y ss ∷ rs) h = all_join P (batch_in y) _ (all_front P (batch_in y) (gone_in rs) h) (gone_staying P cs rs (all_back P (batch_in y) (gone_in rs) h))

-- what stands is on the schedule
standing_at_most : (n : ℕ) (rs : List Ran) (es : List Entry) → Turns rs es → AllByRecursion (λ k. k ≤ n) (gone_in rs) → AllByRecursion (λ k. k ≤ max n (greatest (batches_on es))) (batches_in rs)
standing_at_most n [] [] t h = tt
standing_at_most n [] (e ∷ es) t h = absurd t
standing_at_most n (Gone y ss ∷ rs) es t h = all_join _ (batch_in y) _ (weaker _ _ (batch_in y) (λ k l. omega (arith, l)) (all_front _ (batch_in y) (gone_in rs) h)) (standing_at_most n rs es t (all_back _ (batch_in y) (gone_in rs) h))
standing_at_most n (Stands y c ss ∷ rs) [] t h = absurd t
standing_at_most n (Stands y c ss ∷ rs) (BatchEntry b ∷ es) t h = subst (λ z. AllByRecursion (λ k. k ≤ max n (max b.bid (greatest (batches_on es)))) (batch_in z ++ batches_in rs)) t.0
    (omega arith, weaker _ _ (batches_in rs) (λ k l. omega (arith, l)) (standing_at_most n rs es t.2 h))
standing_at_most n (Stands y c ss ∷ rs) (ActEntry x ∷ es) t h = subst (λ z. AllByRecursion (λ k. k ≤ max n (greatest (batches_on es))) (batch_in z ++ batches_in rs)) t.0 (standing_at_most n rs es t.2 h)

same : (last n : ℕ) (rs rs' : List Ran) → batches_in rs' ≡ batches_in rs → gone_in rs' ≡ gone_in rs → LastIs last n rs → LastIs last n rs'
same last n rs rs' e f h = record { placed = rw e h.placed; gone = rw f h.gone }

-- ---- over states

abbrev pub AtLast : {C : Type 0} → ℕ → Cell C → List Ran → Type 0
AtLast a c long = LastIs c.last c.last_trimmed long

unfoldable pub Lasts : {C : Type 0} → Machine C → History → Type 0
Lasts s h = (a : ℕ) → AtLast a (cell_at s a) (h.long a)

unfoldable pub Numbers : {C : Type 0} → Machine C → History → Type 0
Numbers s h = (a : ℕ) → Befores s.book.acts 0 (h.long a)

unfoldable pub Exists : {C : Type 0} → Event → Machine C → Type 0
Exists (Finish t a) s = a < length s.cells
Exists (Trim k a) s = a < length s.cells
Exists _ s = Unit {0}

ask_last : (last n t : ℕ) (o : Option ℕ) (rs : List Ran) → LastIs last n rs → LastIs last n (rs ++ map not_run (asks t o))
ask_last last n t None rs h = same last n rs _ (PlaceLists.batches_join rs (not_run (OfAct t) ∷ []) ∙ append-nil (batches_in rs)) (gone_more (OfAct t) rs) h
ask_last last n t (Some x) rs h = rw (append-nil rs) h

finish_last : (last n t : ℕ) (q : Bool) (rs : List Ran) → LastIs last n rs → LastIs last n (if q then without_standing (OfAct t) rs else map (left_for_good (OfAct t)) rs)
finish_last last n t true rs h = same last n rs _ (PlaceLists.batches_without_act t rs) (gone_undone t rs) h
finish_last last n t false rs h = record { placed = rw (PlaceLists.batches_left (OfAct t) rs) h.placed; gone = gone_left n (OfAct t) rs tt h.gone }

pub lasts_kept : {C : Type 0} (w : Fixed C) (e : Event) (s : Machine C) (h : History) → IsAllowed w e s → Exists e s → epochs.Agreeing s → Placed w s h → Turned s h → Lasts s h → Lasts (after w e s) (grown w e s h)
unfolding Lasts Exists Placed Turned conditions after grown
lasts_kept w (Arrive k a) s h ok x ag p t g =
    let m = message w k a s ok ag in
    beside AtLast s.cells a _ _ h.long (arrives (epoch s.book) a (λ c. c.epoch == epoch s.book) s.cells (sub_of k a s.post.subs) ok.1.1.0)
    (λ y. record {
      placed = rw (PlaceLists.batches_join (h.long a) (not_run (OfBatch k) ∷ [])) (all_join _ (batches_in (h.long a)) (k ∷ []) (weaker _ _ (batches_in (h.long a)) (λ j f. less j k s.book.cascades (cell_at s a).epoch (cell_at s a).tail s.ring.next_bid m.own m.behind f) (p a).fit) (omega arith, tt));
      gone = rw (gone_more (OfBatch k) (h.long a)) y.gone;
    }) g
  where
    less : (j k : ℕ) (cs : List Cascade) (ep tail next : ℕ) → epoch_of k cs ≡ ep → tail < k → FitsCell next cs ep tail j → j ≤ k
    less j k cs ep tail next e m f = elim (cases_lt j k) [ inl l ↦ omega (arith, l) | inr l ↦ absurd (omega (arith, l, m, f.is_last (omega (arith, f.placed, e, PlaceLists.epoch_mono k j cs l)))) ]
lasts_kept w (Ask u a) s h ok x ag p t g = beside AtLast s.cells a _ _ h.long (in_range _ s.cells a ok.1.1.0) (ask_last (cell_at s a).last (cell_at s a).last_trimmed u (book.in_the_way (lock_of u s.book.acts) (cell_at s a).entries) (h.long a)) g
lasts_kept w (Take u a) s h ok x ag p t g = beside_same AtLast s.cells a _ h.long (in_range _ s.cells a ok.1.0) (λ y. y) g
lasts_kept w (Run u a) s h ok x ag p t g = beside AtLast s.cells a _ _ h.long (in_range _ s.cells a ok.0) (TrackLists.on_reads (LastIs (cell_at s a).last (cell_at s a).last_trimmed) (cell.reads_on u (cell_at s a).entries) _ _ (h.long a) (λ y. same (cell_at s a).last (cell_at s a).last_trimmed (h.long a) _ (PlaceLists.batches_ran _ _ (h.long a)) (gone_ran _ _ (h.long a)) y)) g
lasts_kept w (Send u a) s h ok x ag p t g = beside_same AtLast s.cells a _ h.long (in_range _ s.cells a ok.0) (λ y. y) g
lasts_kept w (End u a) s h ok x ag p t g = beside_same AtLast s.cells a _ h.long (in_range _ s.cells a ok.0) (λ y. y) g
lasts_kept w (Close u a) s h ok x ag p t g = beside_same AtLast s.cells a _ h.long (in_range _ s.cells a ok.1.0) (λ y. y) g
lasts_kept w (Complete k a) s h ok x ag p t g = beside AtLast s.cells a _ _ h.long (in_range _ s.cells a ok.0) (λ y. same (cell_at s a).last (cell_at s a).last_trimmed (h.long a) _ (PlaceLists.batches_completed k (h.long a)) (gone_completed k (h.long a)) y) g
lasts_kept w (Rollback a) s h ok x ag p t g = beside AtLast s.cells a _ _ h.long (in_range _ s.cells a ok.0) (λ y. record {
  placed = standing_at_most (cell_at s a).last_trimmed (long_staying s.book.cascades (h.long a)) (cell.staying s.book.cascades (cell_at s a).entries) (TurnLists.roll_back s.book.cascades (h.long a) (cell_at s a).entries (t a)) (gone_staying _ s.book.cascades (h.long a) y.gone);
  gone = gone_staying _ s.book.cascades (h.long a) y.gone;
}) g
lasts_kept w (Finish u a) s h ok x ag p t g = beside AtLast s.cells a _ _ h.long x (finish_last (cell_at s a).last (cell_at s a).last_trimmed u (is_traceless (act_of u s.book.acts)) (h.long a)) g
lasts_kept w (Trim k a) s h ok x ag p t g = beside AtLast s.cells a _ _ h.long x (λ y. record {
  placed = rw (PlaceLists.batches_left (OfBatch k) (h.long a)) y.placed;
  gone = gone_left (max (cell_at s a).last_trimmed k) (OfBatch k) (h.long a) (omega arith, tt) (weaker _ _ (gone_in (h.long a)) (λ j l. omega (arith, l)) y.gone);
}) g
lasts_kept w e s h ok x ag p t g = g

-- what is carried of one actor changes
beside_carried : {X : Type 0} (P : ℕ → X → Type 0) (a : ℕ) (new : X) (long : ℕ → X) → (P a (long a) → P a new) → ((b : ℕ) → P b (long b)) → (b : ℕ) → P b (Rattle.protocol.specs.History.with_at a new long b)
beside_carried P a new long k h b = elim (Rattle.std.proofs.lemmas.Bool.cases_Bool (b == a)) [
  | inl e ↦ let q : b ≡ a = eqb-true b a e in rw e (subst (λ z. P z new) (sym q) (k (h a)))
  | inr e ↦ rw e (h b)
]

pub held_act : (p : Act → Bool) (o : Option Act) → holds p o ≡ true → holds (λ x. true) o ≡ true
held_act p None h = h
held_act p (Some x) h = refl

ask_number : {C : Type 0} (t a : ℕ) (o : Option ℕ) (c : Cell C) (b : Book) (rs : List Ran) → holds (λ x. true) (act_of t b.acts) ≡ true → AllByRecursion (λ k. k ≤ c.last) (batches_in rs) → Befores (book.asked_acts o (book.met (lock_of t b.acts) c.entries) t a (max c.last (floor_at t b.acts c)) b) 0 rs
    → Befores (book.asked_acts o (book.met (lock_of t b.acts) c.entries) t a (max c.last (floor_at t b.acts c)) b) 0 (rs ++ map not_run (asks t o))
ask_number t a None c b rs e l h = more_act (book.asked_acts None (book.met (lock_of t b.acts) c.entries) t a (max c.last (floor_at t b.acts c)) b) 0 c.last t rs (omega arith) l (asked_own t a c b e) h
ask_number t a (Some x) c b rs e l h = rw (append-nil rs) h

finish_number : (acts : List Act) (t : ℕ) (q : Bool) (rs : List Ran) → Befores acts 0 rs → Befores acts 0 (if q then without_standing (OfAct t) rs else map (left_for_good (OfAct t)) rs)
finish_number acts t true rs h = undo acts 0 t rs h
finish_number acts t false rs h = leave acts 0 (OfAct t) rs h

numbers_kept : {C : Type 0} (w : Fixed C) (e : Event) (s : Machine C) (h : History) → IsAllowed w e s → Lasts s h → ((a : ℕ) → Befores (after w e s).book.acts 0 (h.long a)) → Numbers (after w e s) (grown w e s h)
unfolding Numbers Lasts conditions after grown
numbers_kept w (Arrive k a) s h ok l g = beside_carried (λ b rs. Befores (after w (Arrive k a) s).book.acts 0 rs) a _ h.long (more_batch _ 0 k (h.long a)) g
numbers_kept w (Ask t a) s h ok l g = beside_carried (λ b rs. Befores (after w (Ask t a) s).book.acts 0 rs) a _ h.long (ask_number t a (book.in_the_way (lock_of t s.book.acts) (cell_at s a).entries) (cell_at s a) s.book (h.long a) (held_act _ (act_of t s.book.acts) ok.1.0) (l a).placed) g
numbers_kept w (Run t a) s h ok l g = beside_carried (λ b rs. Befores s.book.acts 0 rs) a _ h.long (TrackLists.on_reads (Befores s.book.acts 0) (cell.reads_on t (cell_at s a).entries) _ _ (h.long a) (ran s.book.acts 0 _ _ (h.long a))) g
numbers_kept w (Complete k a) s h ok l g = beside_carried (λ b rs. Befores s.book.acts 0 rs) a _ h.long (complete s.book.acts 0 k (h.long a)) g
numbers_kept w (Rollback a) s h ok l g = beside_carried (λ b rs. Befores s.book.acts 0 rs) a _ h.long (roll_back s.book.acts 0 s.book.cascades (h.long a)) g
numbers_kept w (Finish t a) s h ok l g = beside_carried (λ b rs. Befores (after w (Finish t a) s).book.acts 0 rs) a _ h.long (finish_number _ t (is_traceless (act_of t s.book.acts)) (h.long a)) g
numbers_kept w (Trim k a) s h ok l g = beside_carried (λ b rs. Befores s.book.acts 0 rs) a _ h.long (leave s.book.acts 0 (OfBatch k) (h.long a)) g
numbers_kept w e s h ok l g = g

pub numbers_stay : {C : Type 0} (w : Fixed C) (e : Event) (s : Machine C) (h : History) → IsAllowed w e s → Lasts s h → Numbers s h → Numbers (after w e s) (grown w e s h)
unfolding Numbers
numbers_stay w e s h ok l g = numbers_kept w e s h ok l (λ a. stay w e s 0 (h.long a) (g a))
