-- Who stands on an actor by the events is who has an entry in its cell; and so is the tail group, with its locks.
use Rattle.std.specs.Prelude.{◌≡◌, refl, ℕ, ◌<◌, ◌==◌, nat_le, not, Bool, true, false, ◌&&◌, ◌||◌, if◌then◌else◌, Option, Some, None, is_some, List, [], ◌∷◌, ◌++◌, filter, find, map}
use Rattle.std.specs.List.{AllByRecursion}
use Rattle.std.proofs.Common.{arith, sym, ap, ◌∙◌}
use Rattle.std.proofs.lemmas.Bool.{true≢false, leb-true}
use Rattle.std.proofs.lemmas.List.{map-append}
use Rattle.snap_base.proofs.Booleans.{eqb_turned}
use Rattle.protocol.specs.Cutting.{AreAbortedFrom, Ascends}
use Rattle.protocol.specs.OnBook.{tids_on}
use Rattle.protocol.specs.OnCell.{staying}
use Rattle.protocol.specs.Parts.{Act, ActEntry, Batch, BatchEntry, Cascade, Declared, Entry, OfAct, OfBatch, Who}
use Rattle.protocol.specs.Rivals.{Lock, rivals}
use Rattle.protocol.specs.Words.{act_of, batch_of, batches_on, covers, declared_of, group_behind, has_act, holds, is_aborted, is_act_entry, is_among, is_batch_entry, is_who, lock_of, rivals_in_tail, who_of}
use Rattle.protocol.specs.OnRing.{Formed}
use Rattle.protocol_laws.specs.FromDesk.{is_declared}
use Rattle.protocol_laws.proofs.first.Agree.{agree, agree_is}
use Rattle.protocol_laws.proofs.machine.ReadersKept.{LockOf}
use Rattle.protocol_laws.proofs.machine.TrackLists.{is_who_sym}
use Rattle.protocol_theorems.specs.Placed.{is_placed}
use Rattle.audit_words.specs.Happenings.{uncut_entries}
use Rattle.audit_words.specs.Seen.{Begun, Cut, act_in, acts_among, batch_in, goes_to, was_taken_along, is_one_of_these, lock_in, tail_behind}

-- ---- names

pub cut_same : (k : ℕ) (cuts : List Cut) (cs : List Cascade) → map (λ c. c.first) cuts ≡ map (λ c. c.first) cs → map (λ c. c.upto) cuts ≡ map (λ c. c.upto) cs → was_taken_along k cuts ≡ is_aborted k cs
cut_same k [] [] e f = refl
cut_same k [] (c ∷ cs) e f = absurd (cc e)
cut_same k (x ∷ cuts) [] e f = absurd (cc e)
cut_same k (x ∷ cuts) (c ∷ cs) e f =
    let i : x.first ≡ c.first = cc e in
    let j : map (λ (y : Cut). y.first) cuts ≡ map (λ (y : Cascade). y.first) cs = cc e in
    let u : x.upto ≡ c.upto = cc f in
    let v : map (λ (y : Cut). y.upto) cuts ≡ map (λ (y : Cascade). y.upto) cs = cc f in
    ap (λ (n : ℕ). (nat_le n k && nat_le k x.upto) || was_taken_along k cuts) i
    ∙ (ap (λ (n : ℕ). (nat_le c.first k && nat_le k n) || was_taken_along k cuts) u ∙ ap (λ (b : Bool). covers k c || b) (cut_same k cuts cs j v))

actor_among : (a : ℕ) (ps : List Declared) → is_among a (map (λ p. p.actor) ps) ≡ is_some (find (λ p. p.actor == a) ps)
actor_among a [] = refl
actor_among a (p ∷ ps) = by (p.actor == a) (actor_among a ps)
  where
    by : (b : Bool) → is_among a (map (λ p. p.actor) ps) ≡ is_some (find (λ p. p.actor == a) ps) → (b || is_among a (map (λ p. p.actor) ps)) ≡ is_some (if b then Some p else find (λ p. p.actor == a) ps)
    by true r = refl
    by false r = r

pub goes_same : (k a : ℕ) (bs : List Formed) (cs : List Batch) → map (λ b. b.bid) bs ≡ map (λ b. b.bid) cs → map (λ b. b.actors) bs ≡ map (λ b. map (λ p. p.actor) b.places) cs → goes_to a (batch_in k bs) ≡ is_declared k a cs
goes_same k a [] [] e f = refl
goes_same k a [] (c ∷ cs) e f = absurd (cc e)
goes_same k a (b ∷ bs) [] e f = absurd (cc e)
goes_same k a (b ∷ bs) (c ∷ cs) e f =
    let i : b.bid ≡ c.bid = cc e in
    let j : map (λ (x : Formed). x.bid) bs ≡ map (λ (x : Batch). x.bid) cs = cc e in
    let u : b.actors ≡ map (λ (p : Declared). p.actor) c.places = cc f in
    let v : map (λ (x : Formed). x.actors) bs ≡ map (λ (x : Batch). map (λ (p : Declared). p.actor) x.places) cs = cc f in
    ap (λ (n : ℕ). goes_to a (if n == k then Some b else batch_in k bs)) i ∙ by (c.bid == k) (ap (is_among a) u ∙ actor_among a c.places) (goes_same k a bs cs j v)
  where
    by : (q : Bool) → is_among a b.actors ≡ is_some (declared_of a c) → goes_to a (batch_in k bs) ≡ is_declared k a cs → goes_to a (if q then Some b else batch_in k bs) ≡ holds (λ x. is_some (declared_of a x)) (if q then Some c else batch_of k cs)
    by true g r = g
    by false g r = r

readers_same : (u : ℕ) (bs : List Begun) (xs : List Act) → map (λ x. x.tid) bs ≡ map (λ x. x.tid) xs → map (λ x. x.reader) bs ≡ map (λ x. x.reader) xs → holds (λ x. x.reader) (act_in u bs) ≡ holds (λ x. x.reader) (act_of u xs)
readers_same u [] [] e f = refl
readers_same u [] (x ∷ xs) e f = absurd (cc e)
readers_same u (b ∷ bs) [] e f = absurd (cc e)
readers_same u (b ∷ bs) (x ∷ xs) e f =
    let i : b.tid ≡ x.tid = cc e in
    let j : map (λ (y : Begun). y.tid) bs ≡ map (λ (y : Act). y.tid) xs = cc e in
    let g : b.reader ≡ x.reader = cc f in
    let l : map (λ (y : Begun). y.reader) bs ≡ map (λ (y : Act). y.reader) xs = cc f in
    ap (λ (n : ℕ). holds (λ (y : Begun). y.reader) (if n == u then Some b else act_in u bs)) i ∙ by (x.tid == u) g (readers_same u bs xs j l)
  where
    by : (q : Bool) → b.reader ≡ x.reader → holds (λ y. y.reader) (act_in u bs) ≡ holds (λ y. y.reader) (act_of u xs) → holds (λ y. y.reader) (if q then Some b else act_in u bs) ≡ holds (λ y. y.reader) (if q then Some x else act_of u xs)
    by true g r = g
    by false g r = r

-- the lock of an ACT, a reader or not
abbrev pub lock : ℕ → Bool → Lock
lock u r = record { tid = u; reader = r }

pub lock_same : (u : ℕ) (bs : List Begun) (xs : List Act) → map (λ x. x.tid) bs ≡ map (λ x. x.tid) xs → map (λ x. x.reader) bs ≡ map (λ x. x.reader) xs → lock_in bs u ≡ lock_of u xs
lock_same u bs xs e f = ap (lock u) (readers_same u bs xs e f)

-- ---- who stands there

same_eq : (a b : ℕ) → (a == b) ≡ (b == a)
same_eq a b = sym (eqb_turned a b (a == b) refl)

pub there_same : (t : ℕ) (es : List Entry) → is_one_of_these (OfAct t) (map who_of es) ≡ has_act t es
there_same t [] = refl
there_same t (BatchEntry b ∷ es) = there_same t es
there_same t (ActEntry x ∷ es) = ap (λ (c : Bool). c || is_one_of_these (OfAct t) (map who_of es)) (same_eq t x.tid) ∙ ap (λ (c : Bool). (x.tid == t) || c) (there_same t es)

pub there_placed : (who : Who) (ws : List Who) → is_one_of_these who ws ≡ is_placed who ws
there_placed who [] = refl
there_placed who (y ∷ ws) = ap (λ (c : Bool). c || is_one_of_these who ws) (is_who_sym who y) ∙ ap (λ (c : Bool). is_who y who || c) (there_placed who ws)

pub acts_same : (es : List Entry) → acts_among (map who_of es) ≡ tids_on es
acts_same [] = refl
acts_same (BatchEntry b ∷ es) = acts_same es
acts_same (ActEntry x ∷ es) = ap (λ (ns : List ℕ). x.tid ∷ ns) (acts_same es)

-- ---- the tail group

lock_is : (acts : List Act) (x : Lock) → holds (λ y. agree y.reader x.reader) (act_of x.tid acts) ≡ true → lock_of x.tid acts ≡ x
lock_is acts x h = ap (lock x.tid) (by (act_of x.tid acts) h)
  where
    by : (o : Option Act) → holds (λ y. agree y.reader x.reader) o ≡ true → holds (λ y. y.reader) o ≡ x.reader
    by None h = absurd (true≢false (sym h))
    by (Some y) h = agree_is y.reader x.reader h

abbrev pub locks_of : List Act → List ℕ → List Lock
locks_of acts ts = map (λ t. lock_of t acts) ts

tails_same : (acts : List Act) (ts : List ℕ) (ls : List Lock) (es : List Entry) → locks_of acts ts ≡ ls → AllByRecursion (LockOf acts) es → locks_of acts (tail_behind ts (map who_of es)) ≡ group_behind ls es
tails_same acts ts ls [] e h = e
tails_same acts ts ls (BatchEntry b ∷ es) e h = tails_same acts [] [] es refl h.1
tails_same acts ts ls (ActEntry x ∷ es) e h =
    tails_same acts (ts ++ x.tid ∷ []) (ls ++ x ∷ []) es
    (map-append (λ (t : ℕ). lock_of t acts) ts (x.tid ∷ []) ∙ (ap (λ (zs : List Lock). zs ++ lock_of x.tid acts ∷ []) e ∙ ap (λ (z : Lock). ls ++ z ∷ []) (lock_is acts x h.0))) h.1

map_same : {X Y : Type 0} (f g : X → Y) (xs : List X) → ((x : X) → f x ≡ g x) → map f xs ≡ map g xs
map_same f g [] h = refl
map_same f g (x ∷ xs) h = ap (λ zs. zs ++ map f xs) (ap (λ z. z ∷ []) (h x)) ∙ ap (λ zs. g x ∷ zs) (map_same f g xs h)

pub met_same : (u : ℕ) (bs : List Begun) (xs : List Act) (ws : List Who) (es : List Entry) → map (λ x. x.tid) bs ≡ map (λ x. x.tid) xs → map (λ x. x.reader) bs ≡ map (λ x. x.reader) xs → ws ≡ map who_of es → AllByRecursion (LockOf xs) es
    → filter (rivals (lock_in bs u)) (map (lock_in bs) (tail_behind [] ws)) ≡ rivals_in_tail (lock_of u xs) es
met_same u bs xs ws es e f s h =
    ap (λ (l : Lock). filter (rivals l) (map (lock_in bs) (tail_behind [] ws))) (lock_same u bs xs e f)
    ∙ ap (filter (rivals (lock_of u xs)))
    (map_same (lock_in bs) (λ (t : ℕ). lock_of t xs) (tail_behind [] ws) (λ t. lock_same t bs xs e f)
    ∙ (ap (λ (zs : List Who). locks_of xs (tail_behind [] zs)) s ∙ tails_same xs [] [] es refl h))

-- ---- who goes

pub filter_who : (p : Who → Bool) (q : Entry → Bool) (es : List Entry) → ((e : Entry) → p (who_of e) ≡ q e) → filter (λ y. not (p y)) (map who_of es) ≡ map who_of (filter (λ e. not (q e)) es)
filter_who p q [] h = refl
filter_who p q (e ∷ es) h = ap (λ (b : Bool). if not b then who_of e ∷ filter (λ y. not (p y)) (map who_of es) else filter (λ y. not (p y)) (map who_of es)) (h e) ∙ by (q e) (filter_who p q es h)
  where
    by : (b : Bool) → filter (λ y. not (p y)) (map who_of es) ≡ map who_of (filter (λ e. not (q e)) es)
        → (if not b then who_of e ∷ filter (λ y. not (p y)) (map who_of es) else filter (λ y. not (p y)) (map who_of es)) ≡ map who_of (if not b then e ∷ filter (λ e. not (q e)) es else filter (λ e. not (q e)) es)
    by true r = r
    by false r = ap (λ (zs : List Who). who_of e ∷ zs) r

pub is_act_of : (t : ℕ) (e : Entry) → is_who (who_of e) (OfAct t) ≡ is_act_entry t e
is_act_of t (BatchEntry b) = refl
is_act_of t (ActEntry x) = refl

pub is_batch_of : (k : ℕ) (e : Entry) → is_who (who_of e) (OfBatch k) ≡ is_batch_entry k e
is_batch_of k (BatchEntry b) = refl
is_batch_of k (ActEntry x) = refl

all_gone : (cuts : List Cut) (cs : List Cascade) (es : List Entry) → ((k : ℕ) → was_taken_along k cuts ≡ is_aborted k cs) → AllByRecursion (λ k. is_aborted k cs ≡ true) (batches_on es) → uncut_entries true cuts (map who_of es) ≡ []
all_gone cuts cs [] c h = refl
all_gone cuts cs (BatchEntry b ∷ es) c h = ap (λ (q : Bool). if q then uncut_entries true cuts (map who_of es) else OfBatch b.bid ∷ uncut_entries true cuts (map who_of es)) (c b.bid ∙ h.0) ∙ all_gone cuts cs es c h.1
all_gone cuts cs (ActEntry x ∷ es) c h = all_gone cuts cs es c h

later_gone : (first j : ℕ) (cs : List Cascade) (ks : List ℕ) → nat_le first j ≡ true → AllByRecursion (λ k. j < k) ks → AllByRecursion (λ k. is_aborted k cs ≡ nat_le first k) ks → AllByRecursion (λ k. is_aborted k cs ≡ true) ks
later_gone first j cs [] l a h = tt
later_gone first j cs (k ∷ ks) l a h = (h.0 ∙ Rattle.std.proofs.lemmas.Bool.le-leb first k (omega (arith, leb-true first j l, a.0)), later_gone first j cs ks l a.1 h.1)

pub rolled_same : (cuts : List Cut) (cs : List Cascade) (first : ℕ) (es : List Entry) → ((k : ℕ) → was_taken_along k cuts ≡ is_aborted k cs) → AreAbortedFrom first cs es → Ascends (batches_on es) → uncut_entries false cuts (map who_of es) ≡ map who_of (staying cs es)
rolled_same cuts cs first [] c h a = refl
rolled_same cuts cs first (BatchEntry b ∷ es) c h a =
    ap (λ (q : Bool). if q then uncut_entries true cuts (map who_of es) else OfBatch b.bid ∷ uncut_entries false cuts (map who_of es)) (c b.bid) ∙ by (is_aborted b.bid cs) refl (rolled_same cuts cs first es c h.1 a.1)
  where
    by : (q : Bool) → is_aborted b.bid cs ≡ q → uncut_entries false cuts (map who_of es) ≡ map who_of (staying cs es)
        → (if q then uncut_entries true cuts (map who_of es) else OfBatch b.bid ∷ uncut_entries false cuts (map who_of es)) ≡ map who_of (if q then [] else BatchEntry b ∷ staying cs es)
    by true e r = all_gone cuts cs es c (later_gone first b.bid cs (batches_on es) (sym h.0 ∙ e) a.0 h.1)
    by false e r = ap (λ (zs : List Who). OfBatch b.bid ∷ zs) r
rolled_same cuts cs first (ActEntry x ∷ es) c h a = ap (λ (zs : List Who). OfAct x.tid ∷ zs) (rolled_same cuts cs first es c h a)
