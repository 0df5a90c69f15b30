-- All that an event owes for the order holds, in every state that runs reach.
use Rattle.std.specs.Prelude.{◌≡◌, refl, ℕ, ◌==◌, Bool, true, false, ◌&&◌, ◌||◌, if◌then◌else◌, Option, Some, None, is_some, List, [], ◌∷◌}
use Rattle.std.specs.List.{AllByRecursion}
use Rattle.std.proofs.Common.{sym, ap, subst, inl, inr, ◌∙◌}
use Rattle.std.proofs.lemmas.Bool.{eqb-true, eq-eqb, and_parts, or_cases, true≢false, false_from_ne_true}
use Rattle.snap_base.specs.declared.transactions.State.{State}
use Rattle.snap_base.specs.declared.transactions.Tx.{Tx}
use Rattle.protocol_laws.proofs.machine.TurnsKept.{Turned}
use Rattle.protocol_laws.proofs.machine.ReadersSee.{ReadBy, reads_at, not_read}
use Rattle.protocol_laws.proofs.machine.ReadersKept.{Locks, bare}
use Rattle.protocol_laws.proofs.machine.Good.{Given}
use Rattle.protocol.specs.Fixed.{Fixed}
use Rattle.protocol.specs.Facts.{Alone}
use Rattle.protocol.specs.Parts.{Act, Status, Live, Doomed, Decided, Sealed, Cascade, OfBatch, OfAct, Waiting, Machine}
use Rattle.protocol.specs.Events.{Event, Arrive, Ask, Run, Rollback, Decide}
use Rattle.protocol.specs.Words.{is_empty, holds, is_aborted, is_live_status, is_doomed, act_of, waiting_of}
use Rattle.protocol.specs.Conditions.{IsAllowed, conditions}
use Rattle.protocol.specs.Effects.{cell_at, no_cell}
use Rattle.protocol.specs.History.{History, Slice, Ran, Stands, Gone, slices_of, view_in, act_view, slices_for, last_left, is_reader_act}
use Rattle.protocol_laws.specs.Tracks.{keys_in, is_key_among, Bare, has_read}
use Rattle.protocol_laws.proofs.machine.TrackLists.{keys_going, among_going}
use Rattle.protocol_laws.proofs.machine.TracksKept.{Tracked, held}
use Rattle.protocol_laws.proofs.first.PairsFound.{each_act}
use Rattle.protocol_laws.proofs.machine.ActResults as results
use Rattle.protocol_laws.proofs.machine.BehindKept.{is_out, Behind, AllBehind}
use Rattle.protocol_laws.proofs.machine.StartsKept.{Starts, Started}
use Rattle.protocol_laws.proofs.machine.Good as good
use Rattle.protocol_laws.proofs.machine.AllGood.{AllGood}
use Rattle.protocol_laws.proofs.machine.AllGood as all
use Rattle.protocol_laws.proofs.machine.CommitsKept.{MayDecide}
use Rattle.protocol_laws.proofs.machine.Higher.{asks_live}
use Rattle.protocol_theorems.proofs.order.ArrivesOnce.{AllPlaced, arrives_once}
use Rattle.protocol_theorems.proofs.order.ExplainedKept.{NoActResult}
use Rattle.protocol_theorems.proofs.order.SlicesKept.{LiveStay}
use Rattle.protocol_theorems.proofs.order.RunsBefore.{lives}
use Rattle.protocol_theorems.proofs.order.ChainsKept.{Owes}
use Rattle.protocol_theorems.proofs.order.OrderLaw.{OwedAt}

-- ---- behind an aborted batch nobody lives

not_out : (o : Option Act) → holds is_out o ≡ true → holds lives o ≡ false
not_out None e = refl
not_out (Some x) e = by x.status e
  where
    by : (st : Status) → is_doomed st ≡ true → is_live_status st ≡ false
    by Live e = absurd (true≢false (sym e))
    by (Doomed v) e = refl
    by (Decided c) e = refl
    by (Sealed c) e = refl

-- behind one that was seen
out_behind : (acts : List Act) (cs : List Cascade) (t : ℕ) (rs : List Ran) → Behind acts cs true rs → is_key_among (OfAct t) (keys_in rs) ≡ true → holds is_out (act_of t acts) ≡ true
out_behind acts cs t [] h e = absurd (true≢false (sym e))
out_behind acts cs t (Stands (OfBatch k) c ss ∷ rs) h e = out_behind acts cs t rs h e
out_behind acts cs t (Stands (OfAct u) c ss ∷ rs) h e = elim (or_cases (u == t) (is_key_among (OfAct t) (keys_in rs)) e) [ inl q ↦ subst (λ z. holds is_out (act_of z acts) ≡ true) (eqb-true u t q) (h.0 refl) | inr q ↦ out_behind acts cs t rs h.1 q ]
out_behind acts cs t (Gone (OfBatch k) ss ∷ rs) h e = out_behind acts cs t rs h e
out_behind acts cs t (Gone (OfAct u) ss ∷ rs) h e = out_behind acts cs t rs h e

-- those that are cut off
out_going : (acts : List Act) (cs : List Cascade) (t : ℕ) (bad : Bool) (rs : List Ran) → Behind acts cs bad rs → is_key_among (OfAct t) (keys_going cs (keys_in rs)) ≡ true → holds is_out (act_of t acts) ≡ true
out_going acts cs t bad [] h e = absurd (true≢false (sym e))
out_going acts cs t bad (Stands (OfBatch k) c ss ∷ rs) h e = by (is_aborted k cs) refl e (out_going acts cs t (bad || is_aborted k cs) rs h)
  where
    or_true : (b : Bool) → (b || true) ≡ true
    or_true true = refl
    or_true false = refl

    by : (b : Bool) → is_aborted k cs ≡ b → is_key_among (OfAct t) (if b then record { who = OfBatch k; complete = c } ∷ keys_in rs else keys_going cs (keys_in rs)) ≡ true → (is_key_among (OfAct t) (keys_going cs (keys_in rs)) ≡ true → holds is_out (act_of t acts) ≡ true) → holds is_out (act_of t acts) ≡ true
    by true q e r = out_behind acts cs t rs (subst (λ z. Behind acts cs z rs) (ap (λ z. bad || z) q ∙ or_true bad) h) e
    by false q e r = r e
out_going acts cs t bad (Stands (OfAct u) c ss ∷ rs) h e = out_going acts cs t bad rs h.1 e
out_going acts cs t bad (Gone (OfBatch k) ss ∷ rs) h e = out_going acts cs t (bad || is_aborted k cs) rs h e
out_going acts cs t bad (Gone (OfAct u) ss ∷ rs) h e = out_going acts cs t bad rs h e

-- ---- who is decided ran wherever it stands

ran_where : {C : Type 0} (rd : ℕ → Bool) (t : ℕ) (xs : List (Waiting C)) (rs : List Ran) → rd t ≡ false → Starts rd xs rs → is_some (waiting_of t xs) ≡ false → is_key_among (OfAct t) (keys_in rs) ≡ true → is_empty (slices_of (OfAct t) rs) ≡ false
ran_where rd t xs [] d h n e = absurd (true≢false (sym e))
ran_where rd t xs (Stands (OfBatch k) c ss ∷ rs) d h n e = ran_where rd t xs rs d h n e
ran_where {C} rd t xs (Stands (OfAct u) c ss ∷ rs) d h n e = by (u == t) refl e (ran_where rd t xs rs d h.1 n)
  where
    by : (b : Bool) → (u == t) ≡ b → (b || is_key_among (OfAct t) (keys_in rs)) ≡ true → (is_key_among (OfAct t) (keys_in rs) ≡ true → is_empty (slices_of (OfAct t) rs) ≡ false) → is_empty (if b then ss else slices_of (OfAct t) rs) ≡ false
    by true q e k = false_from_ne_true (is_empty ss) (λ v. true≢false (sym (subst (λ z. is_some (waiting_of z xs) ≡ true) (eqb-true u t q) (h.0 v (ap rd (eqb-true u t q) ∙ d))) ∙ n))
    by false q e k = k e
ran_where rd t xs (Gone y ss ∷ rs) d h n e = ran_where rd t xs rs d h n e

view_there : (t : ℕ) (ss : List Slice) → AllByRecursion (λ z. z.tid ≡ t) ss → is_empty ss ≡ false → is_some (view_in t ss) ≡ true
view_there t [] a e = absurd (true≢false e)
view_there t (x ∷ xs) a e = rw (eq-eqb x.tid t a.0) refl

-- ---- all that is owed

no_result : {C : Type 0} (w : Fixed C) (Of : Tx → C → Type 0) (finish : C → List State → Alone) (e : Event) (s : Machine C) (h : History) → IsAllowed w e s → AllGood w Of finish s h → NoActResult e s
unfolding NoActResult conditions
no_result w Of finish (Run t a) s h ok g = each_act s (λ u x. u ≡ t → x.result ≡ None) g.ascend (results.waiting_none t a s (held (λ c. is_some (waiting_of t c.inbox)) s.cells a no_cell ok.0) g.none)
no_result w Of finish e s h ok g = tt

pub live_stay : {C : Type 0} (w : Fixed C) (Of : Tx → C → Type 0) (finish : C → List State → Alone) (e : Event) (s : Machine C) (h : History) → AllGood w Of finish s h → LiveStay e s
unfolding LiveStay Tracked AllBehind
live_stay w Of finish (Rollback a) s h g = λ t e. not_out (act_of t s.book.acts) (out_going s.book.acts s.book.cascades t false (h.long a) (g.behind a)
    (ap (λ ks. is_key_among (OfAct t) (keys_going s.book.cascades ks)) (sym (g.good.tracked a).stands) ∙ (sym (among_going s.book.cascades (OfAct t) (cell_at s a).entries) ∙ e)))
live_stay w Of finish e s h g = tt

-- a reader that stands there without a control has read
starts_read : {C : Type 0} (rd : ℕ → Bool) (t : ℕ) (xs : List (Waiting C)) (rs : List Ran) → Starts rd xs rs → Bare (OfAct t) rs → is_some (waiting_of t xs) ≡ false → is_key_among (OfAct t) (keys_in rs) ≡ true → rd t ≡ true
starts_read rd t xs [] h b n e = absurd (true≢false (sym e))
starts_read rd t xs (Stands (OfBatch k) c ss ∷ rs) h b n e = starts_read rd t xs rs h b.1 n e
starts_read {C} rd t xs (Stands (OfAct u) c ss ∷ rs) h b n e = by (u == t) refl e (starts_read rd t xs rs h.1 b.1 n)
  where
    by : (v : Bool) → (u == t) ≡ v → (v || is_key_among (OfAct t) (keys_in rs)) ≡ true → (is_key_among (OfAct t) (keys_in rs) ≡ true → rd t ≡ true) → rd t ≡ true
    by true q e k = elim (Rattle.std.proofs.lemmas.Bool.cases_Bool (rd t)) [
      | inl r ↦ r
      | inr r ↦ absurd (true≢false (sym (subst (λ z. is_some (waiting_of z xs) ≡ true) (eqb-true u t q) (h.0 (ap is_empty (b.0 q)) (ap rd (eqb-true u t q) ∙ r))) ∙ n))
    ]
    by false q e k = k e
starts_read rd t xs (Gone y ss ∷ rs) h b n e = starts_read rd t xs rs h b n e

read_view : (t : ℕ) (zs : List Slice) → has_read zs t ≡ true → is_some (view_in t zs) ≡ true
read_view t [] e = absurd (true≢false (sym e))
read_view t (z ∷ zs) e = by (z.tid == t) e (read_view t zs)
  where
    by : (v : Bool) → (v || has_read zs t) ≡ true → (has_read zs t ≡ true → is_some (view_in t zs) ≡ true) → is_some (if v then Some (record { found = z.found; left = last_left t z.left zs }) else view_in t zs) ≡ true
    by true e k = refl
    by false e k = k e

decide_ran : {C : Type 0} (w : Fixed C) (Of : Tx → C → Type 0) (finish : C → List State → Alone) (t a : ℕ) (s : Machine C) (h : History) (x : Act) → MayDecide s h t x → is_some x.result ≡ true → AllGood w Of finish s h → is_key_among (OfAct t) (keys_in (h.long a)) ≡ true
    → is_some (act_view h x a) ≡ true
unfolding Started Turned Locks ReadBy
decide_ran {C} w Of finish t a s h x m some g e = by x.reader refl
  where
    away : is_some (waiting_of t (cell_at s a).inbox) ≡ false
    away = false_from_ne_true (is_some (waiting_of t (cell_at s a).inbox)) (λ q. true≢false (sym some ∙ ap is_some (results.waiting_none t a s q g.none t x m.is_it refl)))

    by : (v : Bool) → x.reader ≡ v → is_some (view_in x.tid (slices_for v x.tid (h.reads a) (h.long a))) ≡ true
    by true q = subst (λ z. is_some (view_in z (h.reads a)) ≡ true) (sym m.tid) (read_view t (h.reads a) (starts_read (has_read (h.reads a)) t (cell_at s a).inbox (h.long a) (g.started a) (bare s.book.acts t (h.long a) (cell_at s a).entries (g.good.turned a) (g.locks a) (ap is_reader_act m.is_it ∙ q)) away e))
    by false q = subst (λ z. is_some (view_in z (slices_of (OfAct z) (h.long a))) ≡ true) (sym m.tid) (view_there t (slices_of (OfAct t) (h.long a)) (m.of_it a)
        (ran_where (has_read (h.reads a)) t (cell_at s a).inbox (h.long a) (not_read a t s.book.acts (h.reads a) (subst (λ o. holds (reads_at a) o ≡ false) (sym m.is_it) (none q)) (g.read_by a)) (g.started a) away e))
      where
        none : x.reader ≡ false → reads_at a x ≡ false
        none r = rw r refl

placing : {C : Type 0} (w : Fixed C) (Of : Tx → C → Type 0) (finish : C → List State → Alone) (e : Event) (s : Machine C) (h : History) → IsAllowed w e s → AllPlaced s h → AllGood w Of finish s h → good.Owed w e s h → Owes e s h
unfolding Owes good.Owed conditions
placing w Of finish (Arrive k a) s h ok once g o = arrives_once w k a s h ok g.good.agreeing once
placing w Of finish (Ask t a) s h ok once g o = asks_live w Of finish t a s h ok g
placing w Of finish (Decide t) s h ok once g o = λ y f a e. let i : o.0 ≡ y = cc (sym o.1.is_it ∙ f) in subst (λ z. is_some (act_view h z a) ≡ true) i (decide_ran w Of finish t a s h o.0 o.1 (and_parts (is_some o.0.result) (is_live_status o.0.status) (subst (λ z. holds (λ x. is_some x.result && is_live_status x.status) z ≡ true) o.1.is_it ok.0)).0 g e)
placing w Of finish e s h ok once g o = tt

pub owed : {C : Type 0} (w : Fixed C) (Of : Tx → C → Type 0) (finish : C → List State → Alone) (e : Event) (s : Machine C) (h : History) → Given w Of finish → IsAllowed w e s → AllPlaced s h → AllGood w Of finish s h → OwedAt w e s h
owed w Of finish e s h v ok once g =
    let o = all.owes w Of finish e s h v ok g in
    record {
      schedules = o;
      no_result = no_result w Of finish e s h ok g;
      live_stay = live_stay w Of finish e s h g;
      placing = placing w Of finish e s h ok once g o;
      locks = g.locks;
      read_by = g.read_by;
      act_reads = g.act_reads;
    }
