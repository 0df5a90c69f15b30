-- A fact of each ACT that is found in the book, as events change ACTs.
use Rattle.std.specs.Prelude.{◌≡◌, refl, ℕ, max, ◌==◌, Bool, true, false, ◌&&◌, if◌then◌else◌, nat_le, Option, Some, None, List, [], ◌∷◌, ◌++◌, map}
use Rattle.std.proofs.Common.{arith, sym, ap, subst, ◌∙◌}
use Rattle.std.proofs.lemmas.Bool.{true≢false, eqb-true}
use Rattle.snap_base.specs.declared.transactions.TxResult.{TxResult}
use Rattle.snap_base.specs.declared.verdicts.Verdict.{Verdict}
use Rattle.protocol.specs.Fixed.{Fixed, base, Next, Go, Ended, is_reader}
use Rattle.protocol.specs.Parts.{Act, Joined, Book, Pair, Doomed, Outcome, Cell, Machine}
use Rattle.protocol.specs.Events.{Event, Admit, Arrive, Ask, End, Abort, Prepare, Vouch, Decide, Seal, Finish}
use Rattle.protocol.specs.Words.{is_live_status, act_of, outcome_of, has_act, is_ordered, lock_of, floor_at}
use Rattle.protocol.specs.Spread.{raised, carried, crossed_out, is_crossed, doomed_by_order}
use Rattle.protocol.specs.Effects.{after, cell_at}
use Rattle.protocol.specs.OnPost.{next_act}
use Rattle.protocol.specs.OnBook as book
use Rattle.protocol_laws.specs.Told.{EachAct}
use Rattle.protocol_laws.proofs.first.Statuses.{if_tid}
use Rattle.protocol_laws.proofs.machine.DecidedStays.{carries_none}

-- Changes that events make of any ACT leave the fact.
pub record HoldsAnyway (P : ℕ → Act → Type 0) : Type 0 where
  pub numbered : (t : ℕ) (x : Act) (n : Option ℕ) → P t x → P t (record x { n = n })
  pub doomed : (t : ℕ) (x : Act) (v : Verdict) → is_live_status x.status ≡ true → P t x → P t (record x { status = Doomed v })
  pub rises : (t k : ℕ) (x : Act) → is_ordered x.status ≡ false → P t x → P t (record x { m = max x.m k })

-- So do marks and seals.
pub record Holds (P : ℕ → Act → Type 0) : Type 0 where
  pub numbered : (t : ℕ) (x : Act) (n : Option ℕ) → P t x → P t (record x { n = n })
  pub marked : (t a : ℕ) (x : Act) (f : Joined → Joined) → ((p : Joined) → (f p).actor ≡ p.actor) → P t x → P t (book.marked a f x)
  pub sealed : (t : ℕ) (x : Act) → P t x → P t (book.sealed x)
  pub doomed : (t : ℕ) (x : Act) (v : Verdict) → is_live_status x.status ≡ true → P t x → P t (record x { status = Doomed v })
  pub rises : (t k : ℕ) (x : Act) → is_ordered x.status ≡ false → P t x → P t (record x { m = max x.m k })

-- The same, for facts of which actors the ACT has left.
pub record HoldsOpen (P : ℕ → Act → Type 0) : Type 0 where
  pub numbered : (t : ℕ) (x : Act) (n : Option ℕ) → P t x → P t (record x { n = n })
  pub noted : (t a : ℕ) (x : Act) (f : Joined → Joined) → ((p : Joined) → (f p).actor ≡ p.actor) → ((p : Joined) → (f p).finished ≡ p.finished) → P t x → P t (book.marked a f x)
  pub sealed : (t : ℕ) (x : Act) → P t x → P t (book.sealed x)
  pub doomed : (t : ℕ) (x : Act) (v : Verdict) → is_live_status x.status ≡ true → P t x → P t (record x { status = Doomed v })
  pub rises : (t k : ℕ) (x : Act) → is_ordered x.status ≡ false → P t x → P t (record x { m = max x.m k })

pub anyway : (P : ℕ → Act → Type 0) → HoldsOpen P → HoldsAnyway P
anyway P c = record { numbered = c.numbered; doomed = c.doomed; rises = c.rises }

open_of : (P : ℕ → Act → Type 0) → Holds P → HoldsOpen P
open_of P c = record { numbered = c.numbered; noted = λ t a x f i j p. c.marked t a x f i p; sealed = c.sealed; doomed = c.doomed; rises = c.rises }

-- ---- lists of ACTs

pub found_tid : (t : ℕ) (x : Act) (xs : List Act) → act_of t xs ≡ Some x → x.tid ≡ t
found_tid t x [] e = absurd (cc e)
found_tid t x (y ∷ ys) e = by (y.tid == t) refl e (found_tid t x ys)
  where
    by : (b : Bool) → (y.tid == t) ≡ b → (if b then Some y else act_of t ys) ≡ Some x → (act_of t ys ≡ Some x → x.tid ≡ t) → x.tid ≡ t
    by true f e k = let q : y ≡ x = cc e in ap (λ z. z.tid) (sym q) ∙ eqb-true y.tid t f
    by false f e k = k e

pub record MappedFrom (f : Act → Act) (t : ℕ) (xs : List Act) (y : Act) : Type 0 where
  pub from : Act
  pub found : act_of t xs ≡ Some from
  pub is_it : f from ≡ y

pub found_map : (f : Act → Act) → ((x : Act) → (f x).tid ≡ x.tid) → (t : ℕ) (y : Act) (xs : List Act) → act_of t (map f xs) ≡ Some y → MappedFrom f t xs y
found_map f i t y [] e = absurd (cc e)
found_map f i t y (x ∷ xs) e = by (x.tid == t) refl (subst (λ z. (if z == t then Some (f x) else act_of t (map f xs)) ≡ Some y) (i x) e) (found_map f i t y xs)
  where
    by : (b : Bool) → (x.tid == t) ≡ b → (if b then Some (f x) else act_of t (map f xs)) ≡ Some y → (act_of t (map f xs) ≡ Some y → MappedFrom f t xs y) → MappedFrom f t (x ∷ xs) y
    by true q e k = record { from = x; found = rw q refl; is_it = cc e }
    by false q e k = let g = k e in record { from = g.from; found = rw q g.found; is_it = g.is_it }

pub each_map : (P Q : ℕ → Act → Type 0) (f : Act → Act) (xs : List Act) → ((x : Act) → (f x).tid ≡ x.tid) → ((t : ℕ) (x : Act) → act_of t xs ≡ Some x → P t x → Q t (f x)) → EachAct P xs → EachAct Q (map f xs)
each_map P Q f xs i k h = λ t y e. let g = found_map f i t y xs e in subst (Q t) g.is_it (k t g.from g.found (h t g.from g.found))

-- one ACT is changed
pub each_changed : (P Q : ℕ → Act → Type 0) (u : ℕ) (f : Act → Act) (xs : List Act) → ((x : Act) → (f x).tid ≡ x.tid) → ((t : ℕ) (x : Act) → (t ≡ u → ⊥) → act_of t xs ≡ Some x → P t x → Q t x) → ((x : Act) → act_of u xs ≡ Some x → P u x → Q u (f x))
    → EachAct P xs → EachAct Q (book.changed_act u f xs)
each_changed P Q u f xs i other own h = each_map P Q (λ x. book.change_if (x.tid == u) f x) xs (λ x. if_tid (x.tid == u) f x (i x)) (λ t x e p. by t x e p (x.tid == u) refl) h
  where
    by : (t : ℕ) (x : Act) → act_of t xs ≡ Some x → P t x → (v : Bool) → (x.tid == u) ≡ v → Q t (book.change_if v f x)
    by t x e p true q = let j : t ≡ u = sym (found_tid t x xs e) ∙ eqb-true x.tid u q in subst (λ z. Q z (f x)) (sym j) (own x (subst (λ z. act_of z xs ≡ Some x) j e) (subst (λ z. P z x) j p))
    by t x e p false q = other t x (λ j. true≢false (sym (Rattle.std.proofs.lemmas.Bool.eq-eqb x.tid u (found_tid t x xs e ∙ j)) ∙ q)) e p

pub changed_same : (P : ℕ → Act → Type 0) (u : ℕ) (f : Act → Act) (xs : List Act) → ((x : Act) → (f x).tid ≡ x.tid) → ((x : Act) → act_of u xs ≡ Some x → P u x → P u (f x)) → EachAct P xs → EachAct P (book.changed_act u f xs)
changed_same P u f xs i own h = each_changed P P u f xs i (λ t x d e p. p) own h

pub record RaisedFrom (t : ℕ) (xs : List Act) (y : Act) : Type 0 where
  pub from : Act
  pub k : ℕ
  pub found : act_of t xs ≡ Some from
  pub is_it : record from { m = max from.m k } ≡ y
  pub placed : is_ordered from.status ≡ true → k ≡ 0

pub found_raised : (ps : List Pair) (t : ℕ) (y : Act) (xs : List Act) → act_of t (raised ps xs) ≡ Some y → RaisedFrom t xs y
found_raised ps t y [] e = absurd (cc e)
found_raised ps t y (x ∷ xs) e = by (x.tid == t) refl e (found_raised ps t y xs)
  where
    by : (b : Bool) → (x.tid == t) ≡ b → (if b then Some (record x { m = max x.m (carried ps x (raised ps xs)) }) else act_of t (raised ps xs)) ≡ Some y → (act_of t (raised ps xs) ≡ Some y → RaisedFrom t xs y) → RaisedFrom t (x ∷ xs) y
    by true q e k = record { from = x; k = carried ps x (raised ps xs); found = rw q refl; is_it = cc e; placed = λ l. carries_none ps x (raised ps xs) l }
    by false q e k = let g = k e in record { from = g.from; k = g.k; found = rw q g.found; is_it = g.is_it; placed = g.placed }

pub each_raised : (P : ℕ → Act → Type 0) (ps : List Pair) (xs : List Act) → HoldsAnyway P → EachAct P xs → EachAct P (raised ps xs)
each_raised P ps xs c h = λ t y e. let g = found_raised ps t y xs e in subst (P t) g.is_it (by t g.from g.k (h t g.from g.found) g.placed (is_ordered g.from.status) refl)
  where
    by : (t : ℕ) (x : Act) (k : ℕ) → P t x → (is_ordered x.status ≡ true → k ≡ 0) → (v : Bool) → is_ordered x.status ≡ v → P t (record x { m = max x.m k })
    by t x k p l false e = c.rises t k x e p
    by t x k p l true e = let i : x.m ≡ max x.m k = omega (arith, l e) in subst (λ z. P t (record x { m = z })) i p

crossed_live : (x : Act) → is_crossed x ≡ true → is_live_status x.status ≡ true
crossed_live x h = (Rattle.std.proofs.lemmas.Bool.and_parts (is_live_status x.status) _ h).0

pub each_by_order : (P : ℕ → Act → Type 0) (a : ℕ) (xs : List Act) → HoldsAnyway P → EachAct P xs → EachAct P (doomed_by_order a xs)
each_by_order P a xs c h = each_map P P (crossed_out a) xs (λ x. refl) (λ t x e p. by t x p (is_crossed x) refl _) h
  where
    by : (t : ℕ) (x : Act) → P t x → (v : Bool) → is_crossed x ≡ v → (w : Verdict) → P t (record x { status = if v then Doomed w else x.status })
    by t x p true q w = c.doomed t x w (crossed_live x q) p
    by t x p false q w = p

given_up : (P : ℕ → Act → Type 0) (t : ℕ) (x : Act) (v : Verdict) → HoldsAnyway P → P t x → P t (book.doomed_by v x)
given_up P t x v c p = by (is_live_status x.status) refl
  where
    by : (b : Bool) → is_live_status x.status ≡ b → P t (record x { status = if b then Doomed v else x.status })
    by true e = c.doomed t x v e p
    by false e = p

taken : (P : ℕ → Act → Type 0) (t k n : ℕ) (x : Act) → HoldsAnyway P → P t x → P t (book.cascaded k n x)
taken P t k n x c p = by (is_live_status x.status) (nat_le k x.m) refl _
  where
    by : (b q : Bool) → is_live_status x.status ≡ b → (v : Verdict) → P t (record x { n = None; status = if b && q then Doomed v else x.status })
    by true true e v = c.doomed t (record x { n = None }) v e (c.numbered t x None p)
    by true false e v = c.numbered t x None p
    by false q e v = c.numbered t x None p

-- ---- all events

-- what events owe of the ACT that they are of; it joins where none is in its way
unfoldable pub ReadyAll : {C : Type 0} → Fixed C → Event → Machine C → (ℕ → Act → Type 0) → Type 0
ReadyAll w (Admit t) s P = act_of t s.book.acts ≡ None → P t (book.new_act t (next_act s.ring) (is_reader w (next_act s.ring)) (base w.text))
ReadyAll w (Ask t a) s P = book.in_the_way (lock_of t s.book.acts) (cell_at s a).entries ≡ None → (x : Act) → act_of t s.book.acts ≡ Some x → P t x → P t (book.joins a (max (cell_at s a).last (floor_at t s.book.acts (cell_at s a))) x)
ReadyAll w (End t a) s P = (x : Act) (r : TxResult) → act_of t s.book.acts ≡ Some x → P t x → P t (book.with_result r x)
ReadyAll w (Decide t) s P = (x : Act) → act_of t s.book.acts ≡ Some x → P t x → P t (book.decided_as s.book.next_c x)
ReadyAll w (Prepare t a) s P = (x : Act) → act_of t s.book.acts ≡ Some x → P t x → P t (book.marked a book.is_prepared x)
ReadyAll w (Vouch t a) s P = (x : Act) → act_of t s.book.acts ≡ Some x → P t x → P t (book.marked a book.is_vouched x)
ReadyAll w (Seal t) s P = (x : Act) → act_of t s.book.acts ≡ Some x → P t x → P t (book.sealed x)
ReadyAll w (Finish t a) s P = (x : Act) → act_of t s.book.acts ≡ Some x → P t x → P t (book.marked a book.has_left x)
ReadyAll w _ s P = Unit {0}

-- where votes and seals leave the fact
unfoldable pub ReadyToo : {C : Type 0} → Fixed C → Event → Machine C → (ℕ → Act → Type 0) → Type 0
ReadyToo w (Admit t) s P = act_of t s.book.acts ≡ None → P t (book.new_act t (next_act s.ring) (is_reader w (next_act s.ring)) (base w.text))
ReadyToo w (Ask t a) s P = book.in_the_way (lock_of t s.book.acts) (cell_at s a).entries ≡ None → (x : Act) → act_of t s.book.acts ≡ Some x → P t x → P t (book.joins a (max (cell_at s a).last (floor_at t s.book.acts (cell_at s a))) x)
ReadyToo w (End t a) s P = (x : Act) (r : TxResult) → act_of t s.book.acts ≡ Some x → P t x → P t (book.with_result r x)
ReadyToo w (Decide t) s P = (x : Act) → act_of t s.book.acts ≡ Some x → P t x → P t (book.decided_as s.book.next_c x)
ReadyToo w (Finish t a) s P = (x : Act) → act_of t s.book.acts ≡ Some x → P t x → P t (book.marked a book.has_left x)
ReadyToo w _ s P = Unit {0}

-- where an ACT may be marked as having left
unfoldable pub Ready : {C : Type 0} → Fixed C → Event → Machine C → (ℕ → Act → Type 0) → Type 0
Ready w (Admit t) s P = act_of t s.book.acts ≡ None → P t (book.new_act t (next_act s.ring) (is_reader w (next_act s.ring)) (base w.text))
Ready w (Ask t a) s P = (x : Act) → act_of t s.book.acts ≡ Some x → P t x → P t (book.joins a (max (cell_at s a).last (floor_at t s.book.acts (cell_at s a))) x)
Ready w (End t a) s P = (x : Act) (r : TxResult) → act_of t s.book.acts ≡ Some x → P t x → P t (book.with_result r x)
Ready w (Decide t) s P = (x : Act) → act_of t s.book.acts ≡ Some x → P t x → P t (book.decided_as s.book.next_c x)
Ready w _ s P = Unit {0}

pub each_more : (P : ℕ → Act → Type 0) (n : Act) (xs : List Act) → (act_of n.tid xs ≡ None → P n.tid n) → EachAct P xs → EachAct P (xs ++ n ∷ [])
each_more P n xs k h = λ t y e. in_list t y xs (λ i q. subst (λ z. P z n) i (k (subst (λ z. act_of z xs ≡ None) (sym i) q))) (λ q. h t y q) e
  where
    in_list : (t : ℕ) (y : Act) (zs : List Act) → (n.tid ≡ t → act_of t zs ≡ None → P t n) → (act_of t zs ≡ Some y → P t y) → act_of t (zs ++ n ∷ []) ≡ Some y → P t y
    in_list t y [] k h e = at (n.tid == t) refl e
      where
        at : (b : Bool) → (n.tid == t) ≡ b → (if b then Some n else None) ≡ Some y → P t y
        at true q e = let i : n ≡ y = cc e in subst (P t) i (k (eqb-true n.tid t q) refl)
        at false q e = absurd (cc e)
    in_list t y (z ∷ zs) k h e = at (z.tid == t) k h e (in_list t y zs)
      where
        at : (b : Bool) → (n.tid ≡ t → (if b then Some z else act_of t zs) ≡ None → P t n) → ((if b then Some z else act_of t zs) ≡ Some y → P t y) → (if b then Some z else act_of t (zs ++ n ∷ [])) ≡ Some y
            → ((n.tid ≡ t → act_of t zs ≡ None → P t n) → (act_of t zs ≡ Some y → P t y) → act_of t (zs ++ n ∷ []) ≡ Some y → P t y) → P t y
        at true k g e r = g e
        at false k g e r = r k g e

pub none_in_way : {C : Type 0} (P : ℕ → Act → Type 0) (t a : ℕ) (c : Cell C) (b : Book) → HoldsAnyway P → EachAct P (book.changed_act t (book.joins a (max c.last (floor_at t b.acts c))) b.acts) → EachAct P (book.asked_acts None (book.met (lock_of t b.acts) c.entries) t a (max c.last (floor_at t b.acts c)) b)
none_in_way P t a c b k h = each_by_order P a _ k (each_raised P _ _ k h)

pub asked : {C : Type 0} (P : ℕ → Act → Type 0) (t a : ℕ) (o : Option ℕ) (c : Cell C) (b : Book) → HoldsAnyway P → (o ≡ None → (x : Act) → act_of t b.acts ≡ Some x → P t x → P t (book.joins a (max c.last (floor_at t b.acts c)) x)) → EachAct P b.acts → EachAct P (book.asked_acts o (book.met (lock_of t b.acts) c.entries) t a (max c.last (floor_at t b.acts c)) b)
asked P t a (Some older) c b k own h = changed_same P t (book.doomed_by (Rattle.protocol.specs.Verdicts.died a older t)) b.acts (λ x. refl) (λ x e p. given_up P t x _ k p) h
asked P t a None c b k own h = none_in_way P t a c b k (changed_same P t (book.joins a (max c.last (floor_at t b.acts c))) b.acts (λ x. refl) (own refl) h)

pub acts_change : {C : Type 0} (w : Fixed C) (e : Event) (s : Machine C) (P : ℕ → Act → Type 0) → HoldsAnyway P → ReadyAll w e s P → EachAct P s.book.acts → EachAct P (after w e s).book.acts
unfolding after ReadyAll
acts_change w (Admit t) s P c r h = each_more P (book.new_act t (next_act s.ring) (is_reader w (next_act s.ring)) (base w.text)) s.book.acts r h
acts_change w (Arrive k a) s P c r h = each_by_order P a _ c (each_map P P (book.lowered k (book.tids_on (cell_at s a).entries)) s.book.acts (λ x. refl) (λ t x e p. c.numbered t x _ p) h)
acts_change w (Ask t a) s P c r h = asked P t a (book.in_the_way (lock_of t s.book.acts) (cell_at s a).entries) (cell_at s a) s.book c r h
acts_change {C} w (End t a) s P c r h = by (has_act t (cell_at s a).entries) (outcome_of t (cell_at s a).outbox)
  where
    next : (x : Next C) → EachAct P (book.noted_for t x s.book.acts)
    next (Go b x) = h
    next (Ended v) = changed_same P t (book.with_result v) s.book.acts (λ x. refl) (λ x e p. r x v e p) h

    by : (v : Bool) (o : Option (Outcome C)) → EachAct P (if v then book.noted_from t o s.book.acts else s.book.acts)
    by false o = h
    by true None = h
    by true (Some x) = next x.next
acts_change w (Abort k) s P c r h = each_map P P (book.cascaded k (book.failed_tx (book.why k s.desk))) s.book.acts (λ x. refl) (λ t x e p. taken P t k _ x c p) h
acts_change w (Prepare t a) s P c r h = changed_same P t (book.marked a book.is_prepared) s.book.acts (λ x. refl) r h
acts_change w (Vouch t a) s P c r h = changed_same P t (book.marked a book.is_vouched) s.book.acts (λ x. refl) r h
acts_change w (Decide t) s P c r h = changed_same P t (book.decided_as s.book.next_c) s.book.acts (λ x. refl) r h
acts_change w (Seal t) s P c r h = changed_same P t book.sealed s.book.acts (λ x. refl) r h
acts_change w (Finish t a) s P c r h = changed_same P t (book.marked a book.has_left) s.book.acts (λ x. refl) r h
acts_change w e s P c r h = h

ready_all : {C : Type 0} (w : Fixed C) (e : Event) (s : Machine C) (P : ℕ → Act → Type 0) → HoldsOpen P → ReadyToo w e s P → ReadyAll w e s P
unfolding ReadyToo ReadyAll
ready_all w (Prepare t a) s P c r = λ x e p. c.noted t a x book.is_prepared (λ q. refl) (λ q. refl) p
ready_all w (Vouch t a) s P c r = λ x e p. c.noted t a x book.is_vouched (λ q. refl) (λ q. refl) p
ready_all w (Seal t) s P c r = λ x e p. c.sealed t x p
ready_all w e s P c r = r

pub acts_move : {C : Type 0} (w : Fixed C) (e : Event) (s : Machine C) (P : ℕ → Act → Type 0) → HoldsOpen P → ReadyToo w e s P → EachAct P s.book.acts → EachAct P (after w e s).book.acts
acts_move w e s P c r h = acts_change w e s P (anyway P c) (ready_all w e s P c r) h

ready_too : {C : Type 0} (w : Fixed C) (e : Event) (s : Machine C) (P : ℕ → Act → Type 0) → Holds P → Ready w e s P → ReadyToo w e s P
unfolding Ready ReadyToo
ready_too w (Ask t a) s P c r = λ n. r
ready_too w (Finish t a) s P c r = λ x e p. c.marked t a x book.has_left (λ q. refl) p
ready_too w e s P c r = r

pub acts_keep : {C : Type 0} (w : Fixed C) (e : Event) (s : Machine C) (P : ℕ → Act → Type 0) → Holds P → Ready w e s P → EachAct P s.book.acts → EachAct P (after w e s).book.acts
acts_keep w e s P c r h = acts_move w e s P (open_of P c) (ready_too w e s P c r) h
