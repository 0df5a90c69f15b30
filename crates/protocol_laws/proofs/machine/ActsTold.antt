-- An ACT has its place exactly where it is among those that committed, with that place and its result.
use Rattle.std.specs.Prelude.{◌≡◌, refl, ℕ, Bool, true, false, ◌&&◌, Option, Some, None, is_some, List, [], ◌∷◌, ◌++◌, map}
use Rattle.std.specs.List.{AllByRecursion}
use Rattle.std.proofs.Common.{sym, ap, subst, ◌∙◌}
use Rattle.std.proofs.lemmas.Bool.{true≢false, eqb-true, eq-eqb, and_parts}
use Rattle.snap_base.specs.declared.transactions.TxResult.{TxResult}
use Rattle.snap_base.specs.declared.verdicts.Place.{Place}
use Rattle.protocol.specs.Fixed.{Fixed}
use Rattle.protocol.specs.Parts.{Act, Batch, Pact, Who, OfAct, Status, Live, Doomed, Decided, Sealed, Machine}
use Rattle.protocol.specs.Events.{Event, Admit, Ask, End, Commit, Decide}
use Rattle.protocol.specs.Words.{holds, is_value, is_live_status, act_of, batch_of, is_ended, is_ordered}
use Rattle.protocol.specs.Verdicts.{act_place}
use Rattle.protocol.specs.Conditions.{IsAllowed, conditions}
use Rattle.protocol.specs.Effects.{after, no_cell}
use Rattle.protocol.specs.OnBook as book
use Rattle.protocol.specs.History.{History, Done, grown, done_pact, done_batch, done_act}
use Rattle.protocol_laws.specs.Told.{EachAct, AmongDone, has_number, ActTold, IsDoneOfAct, DoneFrom}
use Rattle.protocol_laws.proofs.machine.ControlWalk.{AllControls}
use Rattle.protocol_laws.proofs.machine.TracksKept.{held}
use Rattle.protocol_laws.proofs.machine.ActsFound as acts
use Rattle.protocol_laws.proofs.machine.ActsFound.{Holds}
use Rattle.protocol_laws.proofs.machine.ActResults as results
use Rattle.protocol_laws.proofs.machine.ActResults.{NoneActed, NoActResult}
use Rattle.protocol_laws.proofs.machine.ActsKept.{Acts}
use Rattle.protocol_laws.proofs.machine.QueuedKept.{in_book}
use Rattle.protocol_laws.proofs.first.Lists.{all_join, join_assoc, some_of}

-- ---- among those that committed

pub among_more : (y : Who) (t n : ℕ) (p : Place) (r : Option TxResult) (ds new : List Done) → AmongDone y t n p r ds → AmongDone y t n p r (ds ++ new)
among_more y t n p r ds new h = record { done = h.done; front = h.front; rest = h.rest ++ new; splits = ap (λ l. l ++ new) h.splits ∙ join_assoc h.front (h.done ∷ h.rest) new; who = h.who; tid = h.tid; tx = h.tx; place = h.place; result = h.result }

pub among_behind : (y : Who) (t n : ℕ) (p : Place) (r : Option TxResult) (us ds : List Done) → AmongDone y t n p r ds → AmongDone y t n p r (us ++ ds)
among_behind y t n p r us ds h = record { done = h.done; front = us ++ h.front; rest = h.rest; splits = ap (λ l. us ++ l) h.splits ∙ sym (join_assoc us h.front (h.done ∷ h.rest)); who = h.who; tid = h.tid; tx = h.tx; place = h.place; result = h.result }

-- ---- statuses

pub at_placed : (c : ℕ) (st : Status) → has_number c st ≡ true → is_ordered st ≡ true
at_placed c Live e = e
at_placed c (Doomed v) e = e
at_placed c (Decided d) e = refl
at_placed c (Sealed d) e = refl

pub at_live : (c : ℕ) (st : Status) → is_live_status st ≡ true → has_number c st ≡ true → ⊥
at_live c Live l e = true≢false (sym e)
at_live c (Doomed v) l e = true≢false (sym e)
at_live c (Decided d) l e = true≢false (sym l)
at_live c (Sealed d) l e = true≢false (sym l)

pub at_sealed : (c : ℕ) (st : Status) → has_number c (book.sealed_status st) ≡ has_number c st
at_sealed c Live = refl
at_sealed c (Doomed v) = refl
at_sealed c (Decided d) = refl
at_sealed c (Sealed d) = refl

pub at_decided : (c d : ℕ) (b : Bool) (st : Status) → has_number c st ≡ true → has_number c (book.decided_status d b st) ≡ true
at_decided c d b Live e = absurd (true≢false (sym e))
at_decided c d b (Doomed v) e = e
at_decided c d b (Decided f) e = e
at_decided c d b (Sealed f) e = e

pub at_now : (c d : ℕ) (b : Bool) (st : Status) → is_live_status st ≡ true → has_number c (book.decided_status d b st) ≡ true → d ≡ c
at_now c d true Live l e = eqb-true d c e
at_now c d false Live l e = eqb-true d c e
at_now c d b (Doomed v) l e = absurd (true≢false (sym l))
at_now c d b (Decided f) l e = absurd (true≢false (sym l))
at_now c d b (Sealed f) l e = absurd (true≢false (sym l))

pub now_at : (d : ℕ) (b : Bool) (st : Status) → is_live_status st ≡ true → has_number d (book.decided_status d b st) ≡ true
now_at d true Live l = eq-eqb d d refl
now_at d false Live l = eq-eqb d d refl
now_at d b (Doomed v) l = absurd (true≢false (sym l))
now_at d b (Decided f) l = absurd (true≢false (sym l))
now_at d b (Sealed f) l = absurd (true≢false (sym l))

-- who has a control has no place
pub unplaced : {C : Type 0} (s : Machine C) (h : History) (t c : ℕ) (x : Act) → Acts s h → NoActResult t s.book.acts → act_of t s.book.acts ≡ Some x → has_number c x.status ≡ true → ⊥
unfolding Acts
unplaced s h t c x i n e a = true≢false (sym ((i t x e).ended (at_placed c x.status a)) ∙ ap is_some (n t x e refl))

-- ---- who has a place is among those that committed

unfoldable pub ActsTold : {C : Type 0} → Machine C → History → Type 0
ActsTold s h = EachAct (ActTold h.committed) s.book.acts

told_holds : (ds : List Done) → Holds (ActTold ds)
told_holds ds = record {
  numbered = λ t x n p. p;
  marked = λ t a x f i p. p;
  sealed = λ t x p c e. p c (sym (at_sealed c x.status) ∙ e);
  doomed = λ t x v l p c e. absurd (true≢false (sym e));
  rises = λ t k x l p c e. absurd (true≢false (sym (at_placed c x.status e) ∙ l));
}

decides : (c t : ℕ) (h : History) (x : Act) → x.tid ≡ t → AmongDone (OfAct t) t x.tx (act_place x.m c) x.result (done_act c h (Some x))
decides c t h x e = record { done = record { who = OfAct x.tid; tid = x.tid; tx = x.tx; place = act_place x.m c; result = x.result; reader = x.reader; views = Rattle.protocol.specs.History.act_view h x }; front = []; rest = []; splits = refl; who = ap OfAct e; tid = e; tx = refl; place = refl; result = refl }

pub told_kept : {C : Type 0} (w : Fixed C) (e : Event) (s : Machine C) (h : History) → IsAllowed w e s → AllControls (NoneActed s) s → Acts s h → ActsTold s h → ActsTold (after w e s) (grown w e s h)
unfolding ActsTold acts.Ready conditions after grown
told_kept w (Admit t) s h ok n i g = acts.acts_keep w (Admit t) s (ActTold h.committed) (told_holds h.committed) (λ e c a. absurd (true≢false (sym a))) g
told_kept w (Ask t a) s h ok n i g = acts.acts_keep w (Ask t a) s (ActTold h.committed) (told_holds h.committed) (λ x e p c q. absurd (unplaced s h t c x i (results.posted_none t a s ok.0 n) e q)) g
told_kept w (End t a) s h ok n i g = acts.acts_keep w (End t a) s (ActTold h.committed) (told_holds h.committed)
    (λ x r e p c q. absurd (unplaced s h t c x i (results.outcome_none (λ x. is_ended x.next) t a s (held (λ c. holds (λ x. is_ended x.next) (Rattle.protocol.specs.Words.outcome_of t c.outbox)) s.cells a no_cell ok.0) n) e q)) g
told_kept w (Commit k) s h ok n i g = λ t x e c q. among_more (OfAct t) t x.tx (act_place x.m c) x.result h.committed _ (g t x e c q)
told_kept w (Decide t) s h ok n i g = acts.each_changed (ActTold h.committed) (ActTold (h.committed ++ done_act s.book.next_c h (act_of t s.book.acts))) t (book.decided_as s.book.next_c) s.book.acts (λ x. refl)
    (λ u x d e p c q. among_more (OfAct u) u x.tx (act_place x.m c) x.result h.committed _ (p c q))
    (λ x e p c q.
    let v = and_parts (is_some x.result) (is_live_status x.status) (some_of (λ x. is_some x.result && is_live_status x.status) (act_of t s.book.acts) x e ok.0) in
    let j : s.book.next_c ≡ c = at_now c s.book.next_c (is_value x.result) x.status v.1 q in
    among_behind (OfAct t) t x.tx (act_place x.m c) x.result h.committed _ (subst (λ z. AmongDone (OfAct t) t x.tx (act_place x.m z) x.result (done_act s.book.next_c h (act_of t s.book.acts))) j (subst (λ z. AmongDone (OfAct t) t x.tx (act_place x.m s.book.next_c) x.result (done_act s.book.next_c h z)) (sym e) (decides s.book.next_c t h x (acts.found_tid t x s.book.acts e))))) g
told_kept w e s h ok n i g = acts.acts_keep w e s (ActTold h.committed) (told_holds h.committed) tt g

-- ---- and the other way round

unfoldable pub AllFrom : {C : Type 0} → Machine C → History → Type 0
AllFrom s h = AllByRecursion (λ d. (t : ℕ) → d.who ≡ OfAct t → DoneFrom s.book.acts t d) h.committed

done_holds : (t : ℕ) (d : Done) → Holds (λ u x. u ≡ t → IsDoneOfAct d x)
done_holds t d = record {
  numbered = λ u x n p i. let k = p i in record { c = k.c; at = k.at; tid = k.tid; tx = k.tx; place = k.place; result = k.result };
  marked = λ u a x f j p i. let k = p i in record { c = k.c; at = k.at; tid = k.tid; tx = k.tx; place = k.place; result = k.result };
  sealed = λ u x p i. let k = p i in record { c = k.c; at = at_sealed k.c x.status ∙ k.at; tid = k.tid; tx = k.tx; place = k.place; result = k.result };
  doomed = λ u x v l p i. let k = p i in absurd (at_live k.c x.status l k.at);
  rises = λ u n x l p i. let k = p i in absurd (true≢false (sym (at_placed k.c x.status k.at) ∙ l));
}

stays_ready : {C : Type 0} (w : Fixed C) (e : Event) (s : Machine C) (h : History) (t : ℕ) (d : Done) → IsAllowed w e s → AllControls (NoneActed s) s → Acts s h → is_some (act_of t s.book.acts) ≡ true → acts.Ready w e s (λ u x. u ≡ t → IsDoneOfAct d x)
unfolding acts.Ready conditions
stays_ready w (Admit u) s h t d ok n i e = λ q j. absurd (true≢false (sym e ∙ ap is_some (ap (λ z. act_of z s.book.acts) (sym j) ∙ q)))
stays_ready w (Ask u a) s h t d ok n i e = λ x f p j. let k = p j in absurd (unplaced s h u k.c x i (results.posted_none u a s ok.0 n) f k.at)
stays_ready w (End u a) s h t d ok n i e = λ x r f p j. let k = p j in absurd (unplaced s h u k.c x i (results.outcome_none (λ x. is_ended x.next) u a s (held (λ c. holds (λ x. is_ended x.next) (Rattle.protocol.specs.Words.outcome_of u c.outbox)) s.cells a no_cell ok.0) n) f k.at)
stays_ready w (Decide u) s h t d ok n i e = λ x f p j. let k = p j in record { c = k.c; at = at_decided k.c s.book.next_c (is_value x.result) x.status k.at; tid = k.tid; tx = k.tx; place = k.place; result = k.result }
stays_ready w e s h t d ok n i q = tt

stays_from : {C : Type 0} (w : Fixed C) (e : Event) (s : Machine C) (h : History) (ds : List Done) → IsAllowed w e s → AllControls (NoneActed s) s → Acts s h → AllByRecursion (λ d. (t : ℕ) → d.who ≡ OfAct t → DoneFrom s.book.acts t d) ds → AllByRecursion (λ d. (t : ℕ) → d.who ≡ OfAct t → DoneFrom (after w e s).book.acts t d) ds
stays_from w e s h [] ok n i g = tt
stays_from w e s h (d ∷ ds) ok n i g = ((λ t q. let k = g.0 t q in record { there = in_book w e s t k.there; is_it = acts.acts_keep w e s (λ u x. u ≡ t → IsDoneOfAct d x) (done_holds t d) (stays_ready w e s h t d ok n i k.there) k.is_it }), stays_from w e s h ds ok n i g.1)

no_acts : (k : ℕ) (h : History) (acts : List Act) (ps : List Pact) → AllByRecursion (λ d. (t : ℕ) → d.who ≡ OfAct t → DoneFrom acts t d) (map (done_pact k h) ps)
no_acts k h acts [] = tt
no_acts k h acts (p ∷ ps) = ((λ t e. absurd (cc e)), no_acts k h acts ps)

from_batch : (k : ℕ) (h : History) (acts : List Act) (o : Option Batch) → AllByRecursion (λ d. (t : ℕ) → d.who ≡ OfAct t → DoneFrom acts t d) (done_batch k h o)
from_batch k h acts None = tt
from_batch k h acts (Some b) = no_acts k h acts b.pacts

tid_of : (t u : ℕ) → OfAct t ≡ OfAct u → t ≡ u
tid_of t u e = cc e

same_act : (t : ℕ) (x y : Act) (xs : List Act) → act_of t xs ≡ Some x → act_of t xs ≡ Some y → x ≡ y
same_act t x y xs e f = cc (sym e ∙ f)

placed_now : {C : Type 0} (w : Fixed C) (s : Machine C) (t : ℕ) (x : Act) (d : Done) → act_of t s.book.acts ≡ Some x → is_live_status x.status ≡ true → d.tid ≡ x.tid → d.tx ≡ x.tx → d.place ≡ act_place x.m s.book.next_c → d.result ≡ x.result
    → (u : ℕ) → u ≡ t → EachAct (λ v y. v ≡ u → IsDoneOfAct d y) (after w (Decide t) s).book.acts
unfolding after
placed_now w s t x d e l a b c r u f = acts.each_changed (λ v y. Unit {0}) (λ v y. v ≡ u → IsDoneOfAct d y) t (book.decided_as s.book.next_c) s.book.acts (λ y. refl)
    (λ v y n k p j. absurd (n (j ∙ f)))
    (λ y k p j. subst (λ z. IsDoneOfAct d (book.decided_as s.book.next_c z)) (same_act t x y s.book.acts e k) (record { c = s.book.next_c; at = now_at s.book.next_c (is_value x.result) x.status l; tid = a; tx = b; place = c; result = r }))
    (λ v y k. tt)

pub from_kept : {C : Type 0} (w : Fixed C) (e : Event) (s : Machine C) (h : History) → IsAllowed w e s → AllControls (NoneActed s) s → Acts s h → AllFrom s h → AllFrom (after w e s) (grown w e s h)
unfolding AllFrom conditions grown
from_kept w (Commit k) s h ok n i g = all_join _ h.committed _ (stays_from w (Commit k) s h h.committed ok n i g) (from_batch k h _ (batch_of k s.desk.batches))
from_kept {C} w (Decide t) s h ok n i g = all_join _ h.committed _ (stays_from w (Decide t) s h h.committed ok n i g) (by (act_of t s.book.acts) refl ok.0)
  where
    by : (o : Option Act) → act_of t s.book.acts ≡ o → holds (λ x. is_some x.result && is_live_status x.status) o ≡ true → AllByRecursion (λ d. (u : ℕ) → d.who ≡ OfAct u → DoneFrom (after w (Decide t) s).book.acts u d) (done_act s.book.next_c h o)
    by None e q = tt
    by (Some x) e q = (
      (λ u j.
          let f : u ≡ t = sym (tid_of x.tid u j) ∙ acts.found_tid t x s.book.acts e in
          record {
            there = in_book w (Decide t) s u (ap is_some (ap (λ z. act_of z s.book.acts) f ∙ e));
            is_it = placed u f;
          }),
      tt,
    )
      where
        d : Done
        d = record { who = OfAct x.tid; tid = x.tid; tx = x.tx; place = act_place x.m s.book.next_c; result = x.result; reader = x.reader; views = Rattle.protocol.specs.History.act_view h x }

        placed : (u : ℕ) → u ≡ t → EachAct (λ v y. v ≡ u → IsDoneOfAct d y) (after w (Decide t) s).book.acts
        placed u f = placed_now w s t x d e (and_parts (is_some x.result) (is_live_status x.status) q).1 refl refl refl refl u f
from_kept w e s h ok n i g = stays_from w e s h h.committed ok n i g
