-- What committed with a value on an actor, in the order of commits: all with a rival behind it is sure.
use Rattle.std.specs.Prelude.{◌≡◌, refl, ℕ, ◌==◌, not, Bool, true, false, ◌&&◌, ◌||◌, if◌then◌else◌, Option, Some, None, is_some, List, [], ◌∷◌, ◌++◌, map}
use Rattle.std.specs.List.{AllByRecursion, list_any}
use Rattle.std.proofs.Common.{sym, ap, subst, inl, inr, ◌∙◌}
use Rattle.std.proofs.lemmas.Bool.{true≢false, or_cases, or_left, or_right, and_parts, and_from, or_from, eq-eqb, cases_Bool, false_from_ne_true, not-true}
use Rattle.snap_base.specs.declared.transactions.Tx.{Tx}
use Rattle.snap_base.specs.declared.transactions.State.{State}
use Rattle.protocol.specs.Facts.{Alone}
use Rattle.protocol.specs.Fixed.{Fixed}
use Rattle.protocol.specs.Parts.{Act, Batch, Pact, Who, OfBatch, OfAct, Machine}
use Rattle.protocol.specs.Events.{Event, Run, Commit, Decide}
use Rattle.protocol.specs.Words.{holds, is_who, is_value, act_of, batch_of}
use Rattle.protocol.specs.Conditions.{IsAllowed}
use Rattle.protocol.specs.Effects.{after, cell_at}
use Rattle.protocol.specs.OnCell as cell
use Rattle.protocol.specs.Chains.{stands_for}
use Rattle.protocol.specs.History.{Done, History, Slice, Ran, Stands, Gone, grown, read_on, kept_act, slices_of, view_in, done_pact, done_act, done_batch, slices_for, act_view, is_reader_act}
use Rattle.protocol_laws.specs.Commits.{is_kept}
use Rattle.protocol_records.specs.Crash.{NoneMissed}
use Rattle.protocol_records.specs.Logged.{is_sure, is_on, HasRead, AllHaveRead, IsThere, AllThere, came_valued, came_rival, DoneSure, AllDoneSure}
use Rattle.protocol_laws.proofs.machine.TrackLists
use Rattle.protocol_laws.proofs.machine.CommitsKept as chain
use Rattle.protocol_laws.proofs.machine.CommitsKept.{Committed, beside_carried}
use Rattle.protocol_laws.proofs.machine.ActsTold.{AllFrom}
use Rattle.protocol_laws.specs.Told.{DoneFrom}
use Rattle.protocol_theorems.specs.Placed.{has_done}
use Rattle.protocol_theorems.proofs.order.ChainsKept.{Chained, IsOver, no_done}
use Rattle.protocol_theorems.proofs.order.RunsBefore.{lives}
use Rattle.protocol_laws.proofs.machine.Good as whole
use Rattle.protocol_laws.proofs.machine.Good.{Given}
use Rattle.protocol_laws.proofs.machine.AllGood.{AllGood}
use Rattle.protocol_laws.proofs.machine.AllGood as all
use Rattle.protocol_records.proofs.crash.OnLong.{on_stays, on_key}
use Rattle.protocol_records.proofs.crash.KeptSure.{SureOf, AtDecide, commit_sure, decide_sure, at_decide}
use Rattle.protocol_records.proofs.crash.ReadersOver as over
use Rattle.protocol_records.proofs.crash.ReadersSure.{reader_sure}
use Rattle.protocol_laws.proofs.machine.ReadersSee.{no_view}
use Rattle.protocol_laws.specs.Tracks.{has_read}
use Rattle.protocol_records.proofs.crash.Durable.{any_back, sure_stays}
use Rattle.protocol_laws.proofs.first.Lists.{all_join, any_front, any_join, both_all, weaker}

-- ---- who committed is there

-- who has slices is there
pub view_on : (t : ℕ) (y : Who) (rs : List Ran) → is_some (view_in t (slices_of y rs)) ≡ true → is_on y rs ≡ true
view_on t y [] h = absurd (true≢false (sym h))
view_on t y (Stands z c ss ∷ rs) h = by (is_who z y) h (view_on t y rs)
  where
    by : (b : Bool) → is_some (view_in t (if b then ss else slices_of y rs)) ≡ true → (is_some (view_in t (slices_of y rs)) ≡ true → is_on y rs ≡ true) → (b || is_on y rs) ≡ true
    by true g k = refl
    by false g k = k g
view_on t y (Gone z ss ∷ rs) h = or_right (is_who z y) _ (view_on t y rs h)

batch_there : (k : ℕ) (h : History) (kept : List Who) (ps : List Pact) → is_kept (OfBatch k) kept ≡ true → AllByRecursion (IsThere kept h.long) (map (done_pact k h) ps)
batch_there k h kept [] e = tt
batch_there k h kept (p ∷ ps) e = (record { known = λ v r. e; there = λ a q v r. view_on p.tid (OfBatch k) (h.long a) q }, batch_there k h kept ps e)

none_or : (k : ℕ) (h : History) (kept : List Who) (o : Option Batch) → is_kept (OfBatch k) kept ≡ true → AllByRecursion (IsThere kept h.long) (done_batch k h o)
none_or k h kept None e = tt
none_or k h kept (Some b) e = batch_there k h kept b.pacts e

act_there : (c : ℕ) (h : History) (o : Option Act) → AllByRecursion (IsThere (h.kept ++ kept_act o) h.long) (done_act c h o)
act_there c h None = tt
act_there c h (Some x) = (record { known = known (is_value x.result) x.reader; there = λ a q v r. view_on x.tid (OfAct x.tid) (h.long a) (subst (λ z. is_some (view_in x.tid (slices_for z x.tid (h.reads a) (h.long a))) ≡ true) r q) }, tt)
  where
    known : (b v : Bool) → b ≡ true → v ≡ false → is_kept (OfAct x.tid) (h.kept ++ (if b && not v then OfAct x.tid ∷ [] else [])) ≡ true
    known true false e r = any_back (λ z. is_who z (OfAct x.tid)) h.kept (OfAct x.tid ∷ []) (or_left (x.tid == x.tid) false (Rattle.std.proofs.lemmas.Bool.eq-eqb x.tid x.tid refl))
    known true true e r = absurd (true≢false r)
    known false v e r = absurd (true≢false (sym e))

pub there_kept : {C : Type 0} (w : Fixed C) (Of : Tx → C → Type 0) (finish : C → List State → Alone) (e : Event) (s : Machine C) (h : History) → Given w Of finish → IsAllowed w e s → AllGood w Of finish s h → AllThere h → AllThere (grown w e s h)
unfolding AllThere grown
there_kept w Of finish (Commit k) s h v ok g q = all_join _ h.committed _ (weaker (IsThere h.kept h.long) (IsThere (h.kept ++ OfBatch k ∷ []) h.long) h.committed (λ d p. record { known = λ u r. any_front (λ z. is_who z d.who) h.kept _ (p.known u r); there = p.there }) q)
    (none_or k h _ (batch_of k s.desk.batches) (any_back (λ z. is_who z (OfBatch k)) h.kept (OfBatch k ∷ []) (or_left (k == k) false (Rattle.std.proofs.lemmas.Bool.eq-eqb k k refl))))
there_kept w Of finish (Decide t) s h v ok g q = all_join _ h.committed _ (weaker (IsThere h.kept h.long) (IsThere (h.kept ++ kept_act (act_of t s.book.acts)) h.long) h.committed (λ d p. record { known = λ u r. any_front (λ z. is_who z d.who) h.kept _ (p.known u r); there = p.there }) q)
    (act_there s.book.next_c h (act_of t s.book.acts))
there_kept w Of finish e s h v ok g q = weaker (IsThere h.kept h.long) (IsThere h.kept (grown w e s h).long) h.committed
    (λ d p. record { known = p.known; there = λ a o u r. on_stays w e s h a d.who (whole.for_chain w Of finish e s h v ok (all.owes w Of finish e s h v ok g) g.good) g.good.committed (p.known u r) ∙ p.there a o u r }) q

-- ---- where a reader came it has read

pub has_view : (t a : ℕ) (h : History) (x : Act) → x.tid ≡ t → x.reader ≡ true → is_some (act_view h x a) ≡ true → has_read (h.reads a) t ≡ true
has_view t a h x e r q = elim (cases_Bool (has_read (h.reads a) t)) [
  | inl u ↦ u
  | inr u ↦ absurd (true≢false (sym (subst (λ v. is_some (view_in x.tid (slices_for v x.tid (h.reads a) (h.long a))) ≡ true) r q) ∙ ap is_some (no_view x.tid (h.reads a) (subst (λ z. has_read (h.reads a) z ≡ false) (sym e) u))))
]

more_read : (v : Bool) (x : Slice) (zs : List Slice) (t : ℕ) → has_read zs t ≡ true → has_read (read_on v x zs) t ≡ true
more_read true x zs t e = any_front (λ z. z.tid == t) zs (x ∷ []) e
more_read false x zs t e = e

more_have : (a : ℕ) (v : Bool) (x : Slice) (zs : List Slice) (ds : List Done) → AllByRecursion (HasRead zs a) ds → AllByRecursion (HasRead (read_on v x zs) a) ds
more_have a v x zs ds h = weaker (HasRead zs a) (HasRead (read_on v x zs) a) ds (λ d k r. let p = k r in (p.0, λ q. more_read v x zs d.tid (p.1 q))) h

pacts_no_readers : (a k : ℕ) (h : History) (ps : List Pact) → AllByRecursion (HasRead (h.reads a) a) (map (done_pact k h) ps)
pacts_no_readers a k h [] = tt
pacts_no_readers a k h (p ∷ ps) = ((λ r. absurd (true≢false (sym r))), pacts_no_readers a k h ps)

batch_no_readers : (a k : ℕ) (h : History) (o : Option Batch) → AllByRecursion (HasRead (h.reads a) a) (done_batch k h o)
batch_no_readers a k h None = tt
batch_no_readers a k h (Some b) = pacts_no_readers a k h b.pacts

act_has_read : (c a : ℕ) (h : History) (o : Option Act) → AllByRecursion (HasRead (h.reads a) a) (done_act c h o)
act_has_read c a h None = tt
act_has_read c a h (Some x) = ((λ r. (refl, λ q. has_view x.tid a h x refl r q)), tt)

pub have_read_kept : {C : Type 0} (w : Fixed C) (e : Event) (s : Machine C) (h : History) → AllHaveRead h → AllHaveRead (grown w e s h)
unfolding AllHaveRead grown
have_read_kept w (Run t a) s h g = beside_carried (λ b zs. AllByRecursion (HasRead zs b) h.committed) a _ h.reads (λ k. more_have a (cell.reads_on t (cell_at s a).entries) _ (h.reads a) h.committed k) g
have_read_kept w (Commit k) s h g = λ a. all_join (HasRead (h.reads a) a) h.committed _ (g a) (batch_no_readers a k h (batch_of k s.desk.batches))
have_read_kept w (Decide t) s h g = λ a. all_join (HasRead (h.reads a) a) h.committed _ (g a) (act_has_read s.book.next_c a h (act_of t s.book.acts))
have_read_kept w e s h g = g

-- ---- in the order of commits

done_weaker : (f g : Who → Bool) (a : ℕ) (ds : List Done) → ((y : Who) → f y ≡ true → g y ≡ true) → DoneSure f a ds → DoneSure g a ds
done_weaker f g a [] k h = tt
done_weaker f g a (d ∷ ds) k h = ((λ e q. k d.who (h.0 e q)), done_weaker f g a ds k h.1)

none_other : (a : ℕ) (d : Done) (es : List Done) → AllByRecursion (λ e. e.who ≡ d.who) es → list_any (came_rival a d) es ≡ true → ⊥
none_other a d [] h e = true≢false (sym e)
none_other a d (x ∷ xs) h e = elim (or_cases (came_rival a d x) (list_any (came_rival a d) xs) e) [
  | inl q ↦
      let p = and_parts (not (is_who d.who x.who)) (not (d.reader && x.reader)) (and_parts (came_valued a x) _ q).1 in
      true≢false (sym (TrackLists.is_who_refl d.who) ∙ (ap (λ z. is_who d.who z) (sym h.0) ∙ not-true (is_who d.who x.who) p.0))
  | inr q ↦ none_other a d xs h.1 q
]

any_came : (a : ℕ) (d : Done) (es : List Done) → list_any (came_rival a d) es ≡ true → list_any (came_valued a) es ≡ true
any_came a d [] h = h
any_came a d (x ∷ xs) h = elim (or_cases (came_rival a d x) (list_any (came_rival a d) xs) h) [ inl q ↦ or_left (came_valued a x) _ (and_parts (came_valued a x) _ q).0 | inr q ↦ or_right (came_valued a x) _ (any_came a d xs q) ]

-- readers are no rivals of one
no_rivals : (a : ℕ) (d : Done) (es : List Done) → d.reader ≡ true → AllByRecursion (λ e. e.reader ≡ true) es → list_any (came_rival a d) es ≡ true → ⊥
no_rivals a d [] r h e = true≢false (sym e)
no_rivals a d (x ∷ xs) r h e = elim (or_cases (came_rival a d x) (list_any (came_rival a d) xs) e) [
  | inl q ↦
      let p = and_parts (not (is_who d.who x.who)) (not (d.reader && x.reader)) (and_parts (came_valued a x) _ q).1 in
      true≢false (sym (and_from d.reader x.reader r h.0) ∙ not-true (d.reader && x.reader) p.1)
  | inr q ↦ no_rivals a d xs r h.1 q
]

own_done : (sure : Who → Bool) (a : ℕ) (y : Who) (es : List Done) → AllByRecursion (λ e. e.who ≡ y) es → DoneSure sure a es
own_done sure a y [] h = tt
own_done sure a y (d ∷ ds) h = ((λ e q. absurd (none_other a d ds (weaker (λ e. e.who ≡ y) (λ e. e.who ≡ d.who) ds (λ e i. i ∙ sym h.0) h.1) q)), own_done sure a y ds h.1)

more_done : (sure : Who → Bool) (a : ℕ) (y : Who) (ds es : List Done) → AllByRecursion (λ e. e.who ≡ y) es → AllByRecursion (λ d. came_valued a d ≡ true → list_any (came_rival a d) es ≡ true → sure d.who ≡ true) ds → DoneSure sure a ds → DoneSure sure a (ds ++ es)
more_done sure a y [] es i k h = own_done sure a y es i
more_done sure a y (d ∷ ds) es i k h = (
  (λ e q. elim (any_join (came_rival a d) ds es q) [ inl v ↦ h.0 e v | inr v ↦ k.0 e v ]),
  more_done sure a y ds es i k.1 h.1,
)

-- the new ones came there only where their batch or ACT is
batch_came : (k a : ℕ) (h : History) (ps : List Pact) → list_any (came_valued a) (map (done_pact k h) ps) ≡ true → is_on (OfBatch k) (h.long a) ≡ true
batch_came k a h [] q = absurd (true≢false (sym q))
batch_came k a h (p ∷ ps) q = elim (or_cases (came_valued a (done_pact k h p)) _ q) [ inl v ↦ view_on p.tid (OfBatch k) (h.long a) (and_parts (is_some (view_in p.tid (slices_of (OfBatch k) (h.long a)))) _ v).0 | inr v ↦ batch_came k a h ps v ]

came_batch : (k a : ℕ) (h : History) (o : Option Batch) → list_any (came_valued a) (done_batch k h o) ≡ true → is_on (OfBatch k) (h.long a) ≡ true
came_batch k a h None q = absurd (true≢false (sym q))
came_batch k a h (Some b) q = batch_came k a h b.pacts q

batch_own : (k : ℕ) (h : History) (ps : List Pact) → AllByRecursion (λ e. e.who ≡ OfBatch k) (map (done_pact k h) ps)
batch_own k h [] = tt
batch_own k h (p ∷ ps) = (refl, batch_own k h ps)

pub own_batch : (k : ℕ) (h : History) (o : Option Batch) → AllByRecursion (λ e. e.who ≡ OfBatch k) (done_batch k h o)
own_batch k h None = tt
own_batch k h (Some b) = batch_own k h b.pacts

pub own_act : (c t : ℕ) (h : History) (o : Option Act) (x : Act) → o ≡ Some x → x.tid ≡ t → AllByRecursion (λ e. e.who ≡ OfAct t) (done_act c h o)
own_act c t h o x e f = subst (λ z. AllByRecursion (λ e. e.who ≡ OfAct t) (done_act c h z)) (sym e) (ap OfAct f, tt)

own_reader : (c : ℕ) (h : History) (o : Option Act) (x : Act) → o ≡ Some x → x.reader ≡ true → AllByRecursion (λ e. e.reader ≡ true) (done_act c h o)
own_reader c h o x e r = subst (λ z. AllByRecursion (λ e. e.reader ≡ true) (done_act c h z)) (sym e) (r, tt)

came_act : (c t a : ℕ) (h : History) (o : Option Act) (x : Act) → o ≡ Some x → x.tid ≡ t → x.reader ≡ false → list_any (came_valued a) (done_act c h o) ≡ true → is_on (OfAct t) (h.long a) ≡ true
came_act c t a h o x e f r q = subst (λ u. is_on (OfAct u) (h.long a) ≡ true) f (elim (or_cases (is_some (act_view h x a) && is_value x.result) false (subst (λ z. list_any (came_valued a) (done_act c h z) ≡ true) e q)) [
  | inl v ↦ view_on x.tid (OfAct x.tid) (h.long a) (subst (λ z. is_some (view_in x.tid (slices_for z x.tid (h.reads a) (h.long a))) ≡ true) r (and_parts (is_some (act_view h x a)) _ v).0)
  | inr v ↦ absurd (true≢false (sym v))
])

-- a reader has read where it came
came_reads : (c t a : ℕ) (h : History) (o : Option Act) (x : Act) → o ≡ Some x → list_any (came_valued a) (done_act c h o) ≡ true → is_some (act_view h x a) ≡ true
came_reads c t a h o x e q = elim (or_cases (is_some (act_view h x a) && is_value x.result) false (subst (λ z. list_any (came_valued a) (done_act c h z) ≡ true) e q)) [
  | inl v ↦ (and_parts (is_some (act_view h x a)) _ v).0
  | inr v ↦ absurd (true≢false (sym v))
]

-- ---- who committed before is sure

-- one of them, with what is known of it
record OneOf {C : Type 0} (s : Machine C) (h : History) (a : ℕ) (d : Done) : Type 0 where
  there : IsThere h.kept h.long d
  read : HasRead (h.reads a) a d
  from : (t : ℕ) → d.who ≡ OfAct t → DoneFrom s.book.acts t d
  self : (p : Done → Bool) → p d ≡ true → list_any p h.committed ≡ true

all_self : (ds : List Done) → AllByRecursion (λ d. (p : Done → Bool) → p d ≡ true → list_any p ds ≡ true) ds
all_self [] = tt
all_self (d ∷ ds) = ((λ p e. or_left (p d) _ e), weaker (λ d. (p : Done → Bool) → p d ≡ true → list_any p ds ≡ true) (λ x. (p : Done → Bool) → p x ≡ true → list_any p (d ∷ ds) ≡ true) ds (λ x k p e. or_right (p d) _ (k p e)) (all_self ds))

each_one : {C : Type 0} (s : Machine C) (h : History) (a : ℕ) → AllThere h → AllHaveRead h → AllFrom s h → AllByRecursion (OneOf s h a) h.committed
unfolding AllThere AllHaveRead AllFrom
each_one s h a th rd fr =
    both_all (λ d. IsThere h.kept h.long d × HasRead (h.reads a) a d) (λ d. ((t : ℕ) → d.who ≡ OfAct t → DoneFrom s.book.acts t d) × ((p : Done → Bool) → p d ≡ true → list_any p h.committed ≡ true)) (OneOf s h a) h.committed
    (λ d p q. record { there = p.0; read = p.1; from = q.0; self = q.1 })
    (both_all (IsThere h.kept h.long) (HasRead (h.reads a) a) (λ d. IsThere h.kept h.long d × HasRead (h.reads a) a d) h.committed (λ d p q. (p, q)) th (rd a))
    (both_all (λ d. (t : ℕ) → d.who ≡ OfAct t → DoneFrom s.book.acts t d) (λ d. (p : Done → Bool) → p d ≡ true → list_any p h.committed ≡ true) (λ d. ((t : ℕ) → d.who ≡ OfAct t → DoneFrom s.book.acts t d) × ((p : Done → Bool) → p d ≡ true → list_any p h.committed ≡ true)) h.committed (λ d p q. (p, q)) fr (all_self h.committed))

-- one that does not only read, where all such on the actor are sure
one_writes : {C : Type 0} (s : Machine C) (h : History) (a : ℕ) (sure : Who → Bool) (d : Done) → OneOf s h a d → d.reader ≡ false → came_valued a d ≡ true → ((z : Who) → is_kept z h.kept ≡ true → is_on z (h.long a) ≡ true → sure z ≡ true) → sure d.who ≡ true
one_writes s h a sure d o r q k = let v = and_parts (is_some (d.views a)) (is_value d.result) q in k d.who (o.there.known v.1 r) (o.there.there a v.0 v.1 r)

-- a reader, where one commits that does not only read
one_reads : {C : Type 0} (w : Fixed C) (Of : Tx → C → Type 0) (finish : C → List State → Alone) (s : Machine C) (h : History) (a : ℕ) (who : Who) (sure : Who → Bool) (d : Done) → AllGood w Of finish s h → Chained s h → SureOf sure s h → over.Commits s h a who → OneOf s h a d → d.reader ≡ true → came_valued a d ≡ true → sure d.who ≡ true
one_reads w Of finish s h a who sure d g ch su c o r q =
    let v = and_parts (is_some (d.views a)) (is_value d.result) q in
    let p = o.read r in
    let stands : stands_for a (OfAct d.tid) d ≡ true = and_from (is_who (OfAct d.tid) d.who) true (subst (λ z. is_who (OfAct d.tid) z ≡ true) (sym p.0) (eq-eqb d.tid d.tid refl)) refl in
    subst (λ y. sure y ≡ true) (sym p.0) (over.reader_over w Of finish s h a d.tid who sure d g ch su c (o.from d.tid p.0) (o.self (stands_for a (OfAct d.tid)) stands) (p.1 v.0) v.1)

-- Over any test of what is sure before the event, and one of what is after it.
pub done_grows : {C : Type 0} (w : Fixed C) (Of : Tx → C → Type 0) (finish : C → List State → Alone) (e : Event) (s : Machine C) (h : History) (sure sure' : Who → Bool) → Given w Of finish → IsAllowed w e s → AllGood w Of finish s h → Chained s h → SureOf sure s h → AllThere h → AllHaveRead h
    → ((y : Who) → sure y ≡ true → sure' y ≡ true) → ((a : ℕ) → DoneSure sure a h.committed) → (a : ℕ) → DoneSure sure' a (grown w e s h).committed
unfolding AllThere grown chain.Assumed Committed
done_grows w Of finish (Commit k) s h sure sure' v ok g ch su th rd up q = λ a. done_weaker sure sure' a (h.committed ++ done_batch k h (batch_of k s.desk.batches)) up
    (more_done sure a (OfBatch k) h.committed (done_batch k h (batch_of k s.desk.batches)) (own_batch k h (batch_of k s.desk.batches)) (weaker (OneOf s h a) _ h.committed (λ d o e r. one a d o e (any_came a d (done_batch k h (batch_of k s.desk.batches)) r)) (each_one s h a th rd g.from)) (q a))
  where
    m : (b : Batch) × chain.MayCommit s h k b
    m = whole.for_chain w Of finish (Commit k) s h v ok (all.owes w Of finish (Commit k) s h v ok g) g.good

    commits : (a : ℕ) → is_on (OfBatch k) (h.long a) ≡ true → over.Commits s h a (OfBatch k)
    commits a on = record {
      fresh = or_from (is_kept (OfBatch k) h.kept) (has_done h.committed (OfBatch k)) m.1.fresh (no_done (OfBatch k) (IsOver s.ring.next_tid s.book.acts h.kept) h.committed (λ q. true≢false (sym q ∙ m.1.fresh)) ch.over);
      writes = refl;
      stands = on_key h.kept (OfBatch k) (h.long a) m.1.fresh (g.good.committed a).front on;
      ahead = m.1.ahead a;
    }

    one : (a : ℕ) (d : Done) → OneOf s h a d → came_valued a d ≡ true → list_any (came_valued a) (done_batch k h (batch_of k s.desk.batches)) ≡ true → sure d.who ≡ true
    one a d o e c =
        let on = came_batch k a h (batch_of k s.desk.batches) c in
        elim (cases_Bool d.reader) [
          | inl r ↦ one_reads w Of finish s h a (OfBatch k) sure d g ch su (commits a on) o r e
          | inr r ↦ one_writes s h a sure d o r e (λ z kz oz. commit_sure w Of finish k a s h sure ok g su on z kz oz)
        ]
done_grows w Of finish (Decide t) s h sure sure' v ok g ch su th rd up q = λ a. let x = at_decide w Of finish t s h ok g in done_weaker sure sure' a (h.committed ++ done_act s.book.next_c h (act_of t s.book.acts)) up
    (more_done sure a (OfAct t) h.committed (done_act s.book.next_c h (act_of t s.book.acts)) (own_act s.book.next_c t h (act_of t s.book.acts) x.act x.found x.tid) (weaker (OneOf s h a) _ h.committed (λ d o e r. one a x d o e r) (each_one s h a th rd g.from)) (q a))
  where
    m : (x : Act) × chain.MayDecide s h t x
    m = whole.for_chain w Of finish (Decide t) s h v ok (all.owes w Of finish (Decide t) s h v ok g) g.good

    lives_now : (x : AtDecide s h t) → holds lives (act_of t s.book.acts) ≡ true
    lives_now x = subst (λ o. holds lives o ≡ true) (sym x.found) x.live

    commits : (a : ℕ) (x : AtDecide s h t) → x.act.reader ≡ false → is_on (OfAct t) (h.long a) ≡ true → over.Commits s h a (OfAct t)
    commits a x r on = record {
      fresh = or_from (is_kept (OfAct t) h.kept) (has_done h.committed (OfAct t)) m.1.fresh (no_done (OfAct t) (IsOver s.ring.next_tid s.book.acts h.kept) h.committed (λ q. true≢false (sym (lives_now x) ∙ q.1)) ch.over);
      writes = ap is_reader_act x.found ∙ r;
      stands = on_key h.kept (OfAct t) (h.long a) m.1.fresh (g.good.committed a).front on;
      ahead = m.1.ahead (let same : x.act ≡ m.0 = cc (sym x.found ∙ m.1.is_it) in subst (λ y. y.reader ≡ false) same r) a;
    }

    one : (a : ℕ) (x : AtDecide s h t) (d : Done) → OneOf s h a d → came_valued a d ≡ true → list_any (came_rival a d) (done_act s.book.next_c h (act_of t s.book.acts)) ≡ true → sure d.who ≡ true
    one a x d o e c =
        let came = any_came a d (done_act s.book.next_c h (act_of t s.book.acts)) c in
        elim (cases_Bool x.act.reader) [
          | inr r ↦
              let on = came_act s.book.next_c t a h (act_of t s.book.acts) x.act x.found x.tid r came in
              elim (cases_Bool d.reader) [
                | inl u ↦ one_reads w Of finish s h a (OfAct t) sure d g ch su (commits a x r on) o u e
                | inr u ↦ one_writes s h a sure d o u e (λ z kz oz. decide_sure w Of finish t a s h sure ok g su (ap is_reader_act x.found ∙ r) on z kz oz)
              ]
          | inl r ↦ elim (cases_Bool d.reader) [
            | inl u ↦ absurd (no_rivals a d (done_act s.book.next_c h (act_of t s.book.acts)) u (own_reader s.book.next_c h (act_of t s.book.acts) x.act x.found r) c)
            | inr u ↦
                let view = came_reads s.book.next_c t a h (act_of t s.book.acts) x.act x.found came in
                let same : x.act ≡ m.0 = cc (sym x.found ∙ m.1.is_it) in
                one_writes s h a sure d o u e (λ z kz oz. reader_sure w Of finish t a s h sure ok g su (ap is_reader_act x.found ∙ r) (has_view t a h x.act x.tid r view) (m.1.there a (subst (λ y. is_some (act_view h y a) ≡ true) same view)) z kz oz)
          ]
        ]
done_grows w Of finish e s h sure sure' v ok g ch su th rd up q = λ a. done_weaker sure sure' a h.committed up (q a)

-- as what has a durable commit record is
pub done_sure : {C : Type 0} (w : Fixed C) (Of : Tx → C → Type 0) (finish : C → List State → Alone) (e : Event) (s : Machine C) (h : History) → Given w Of finish → IsAllowed w e s → AllGood w Of finish s h → Chained s h → SureOf (is_sure w.text.logs s.logs) s h → AllThere h → AllHaveRead h
    → AllDoneSure w s h → AllDoneSure w (after w e s) (grown w e s h)
unfolding AllDoneSure
done_sure w Of finish e s h v ok g ch su th rd q = done_grows w Of finish e s h (is_sure w.text.logs s.logs) (is_sure w.text.logs (after w e s).logs) v ok g ch su th rd (λ y i. sure_stays w e s y i) q

-- ---- behind who is not in a set that all sure ones are in, nobody of it

-- (written over any test that is true of who is sure)
pub none_missed : (P sure : Who → Bool) (a : ℕ) (ds : List Done) → ((y : Who) → sure y ≡ true → P y ≡ true) → DoneSure sure a ds → NoneMissed a (λ d. P d.who && is_value d.result) ds
none_missed P sure a [] k h = tt
none_missed P sure a (d ∷ ds) k h = ((λ n c v. behind (out n v) ds (λ q. h.0 (rw (c, v) refl) q)), none_missed P sure a ds k h.1)
  where
    out : (P d.who && is_value d.result) ≡ false → is_value d.result ≡ true → P d.who ≡ false
    out n v = elim (cases_Bool (P d.who)) [ inr e ↦ e | inl e ↦ absurd (true≢false (sym (and_from (P d.who) (is_value d.result) e v) ∙ n)) ]

    behind : P d.who ≡ false → (es : List Done) → (list_any (came_rival a d) es ≡ true → sure d.who ≡ true) → AllByRecursion (λ e. (P e.who && is_value e.result) ≡ true → (d.reader && e.reader) ≡ false → is_some (e.views a) ≡ false) es
    behind n [] f = tt
    behind n (e ∷ es) f = ((λ m r. let p = and_parts (P e.who) (is_value e.result) m in at p.0 p.1 r), behind n es (λ q. f (or_right (came_rival a d e) _ q)))
      where
        at : P e.who ≡ true → is_value e.result ≡ true → (d.reader && e.reader) ≡ false → is_some (e.views a) ≡ false
        at pe ve r = elim (cases_Bool (is_some (e.views a))) [
          | inr c ↦ c
          | inl c ↦ absurd (true≢false (sym (k d.who (f (or_left (came_rival a d e) _ (rw (c, ve, false_from_ne_true (is_who d.who e.who) (λ q. true≢false (sym pe ∙ (ap P (sym (TrackLists.is_who_true d.who e.who q)) ∙ n))), r) refl)))) ∙ n))
        ]
