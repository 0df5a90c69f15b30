-- Where what committed still shows on each actor, event by event.
use Rattle.std.specs.Prelude.{◌≡◌, refl, ℕ, ◌<◌, ◌≤◌, ◌==◌, nat_le, not, Bool, true, false, ◌&&◌, ◌||◌, ◌⊎◌, if◌then◌else◌, Option, Some, None, is_some, List, [], ◌∷◌, ◌++◌, length, map}
use Rattle.std.specs.List.{AllByRecursion}
use Rattle.std.proofs.Common.{arith, sym, ap, subst, inl, inr, ◌∙◌}
use Rattle.std.proofs.lemmas.List.{append-nil}
use Rattle.std.proofs.lemmas.Bool.{eqb-true, le-leb, and_parts, and_from, or_cases, or_left, or_right, true≢false, cases_Bool}
use Rattle.protocol.specs.Fixed.{Fixed}
use Rattle.protocol.specs.Parts.{Act, Batch, Pact, Cascade, Who, OfBatch, OfAct, Status, Live, Doomed, Decided, Sealed, SubBatch, FloorPair, Cell, Machine}
use Rattle.protocol.specs.Events.{Event, Arrive, Ask, Take, Run, Send, End, Close, Complete, Commit, Abort, Rollback, Decide, Finish, Trim}
use Rattle.protocol.specs.Words.{holds, is_among, is_aborted, is_doomed, is_decided, is_sealed, is_formed, is_live_status, is_open, is_value, is_who, declared_of, act_of, batch_of, sub_of, lock_of}
use Rattle.protocol.specs.Conditions.{IsAllowed, conditions, epoch}
use Rattle.protocol.specs.Effects.{after, cell_at}
use Rattle.protocol.specs.OnBook as book
use Rattle.protocol.specs.OnCell as cell
use Rattle.protocol.specs.OnCell.{is_cut}
use Rattle.protocol.specs.Verdicts.{act_place}
use Rattle.protocol.specs.History.{History, Done, Ran, Stands, Gone, grown, not_run, ran_in, completed, left_for_good, without_standing, long_staying, asks, batches_in, slices_of, view_in, act_view, done_pact, done_batch, done_act, kept_act, is_traceless}
use Rattle.protocol_laws.specs.Tracks.{keys_in, is_key_among}
use Rattle.protocol_laws.specs.Commits.{is_kept, KeptFront}
use Rattle.protocol_laws.specs.Marks.{Marked, Known}
use Rattle.protocol_laws.specs.FromDesk.{is_declared, MessageOf, FromDesk}
use Rattle.protocol_laws.specs.Rising.{visits, visitors, first_number_of, OpenAbove}
use Rattle.protocol_laws.specs.Highs.{own_floor, TakenAlong, is_above_or_aborted, StandsBelow, ShowsNumber}
use Rattle.protocol_laws.proofs.machine.DecidedStays.{is_fixed, Spared, stays_decided}
use Rattle.protocol_laws.proofs.first.SettlingKept as settling
use Rattle.protocol_laws.proofs.machine.TracksKept.{beside, beside_same, in_range, arrives}
use Rattle.protocol_laws.proofs.machine.TurnsKept.{one_is, Turned}
use Rattle.protocol_laws.proofs.machine.CommitsKept.{MayDecide, Committed}
use Rattle.protocol_laws.proofs.machine.PlaceLists
use Rattle.protocol_laws.proofs.machine.TrackLists
use Rattle.protocol_laws.proofs.machine.ActsGrow.{Grows, acts_grow, grown_holds}
use Rattle.protocol_laws.proofs.first.Agree.{agree, agree_is, agree_same}
use Rattle.protocol_laws.proofs.machine.ShowLists
use Rattle.protocol_laws.proofs.first.Lists.{all_filter, all_found, all_join, both_all, filter_join, weaker}

-- ---- what committed is told

-- a batch has committed; an ACT is decided, with this number, and reads or not
abbrev pub IsTold : List Who → List Act → Bool → ℕ → Who → Type 0
IsTold kept acts r n (OfBatch k) = is_kept (OfBatch k) kept ≡ true
IsTold kept acts r n (OfAct t) = (holds (is_fixed n) (act_of t acts) ≡ true) × (holds (λ x. agree x.reader r) (act_of t acts) ≡ true)

abbrev pub ToldOf : List Who → List Act → Done → Type 0
ToldOf kept acts d = IsTold kept acts d.reader (first_number_of d) d.who

pub kind_stays : (xs ys : List Act) (t : ℕ) (r : Bool) → Grows xs ys → holds (λ x. agree x.reader r) (act_of t xs) ≡ true → holds (λ x. agree x.reader r) (act_of t ys) ≡ true
kind_stays xs ys t r g h = grown_holds (λ x. agree x.reader r) xs ys t (λ x y k q. subst (λ v. agree v r ≡ true) (sym k.reader) q) g h

unfoldable pub AllTold : {C : Type 0} → Machine C → History → Type 0
AllTold s h = AllByRecursion (ToldOf h.kept s.book.acts) h.committed

-- ---- what is owed

unfoldable pub Owed : {C : Type 0} → Event → Machine C → History → Type 0
-- an ACT that asks has no result, so it is live
Owed (Ask t a) s h = holds (λ x. is_live_status x.status) (act_of t s.book.acts) ≡ true
Owed (Finish t a) s h = a < length s.cells
Owed (Trim k a) s h = a < length s.cells
Owed (Decide t) s h = (x : Act) × MayDecide s h t x
Owed _ s h = Unit {0}

fixed_not_live : (n : ℕ) (x : Act) → is_fixed n x ≡ true → is_live_status x.status ≡ true → ⊥
fixed_not_live n x f l = by x.status f l
  where
    by : (s : Status) → ((is_decided s || is_sealed s) && (x.m == n)) ≡ true → is_live_status s ≡ true → ⊥
    by Live f l = true≢false (sym f)
    by (Doomed v) f l = true≢false (sym l)
    by (Decided c) f l = true≢false (sym l)
    by (Sealed c) f l = true≢false (sym l)

pub fixed_not_doomed : (n : ℕ) (x : Act) → is_fixed n x ≡ true → is_doomed x.status ≡ false
fixed_not_doomed n x f = by x.status f
  where
    by : (s : Status) → ((is_decided s || is_sealed s) && (x.m == n)) ≡ true → is_doomed s ≡ false
    by Live f = refl
    by (Doomed v) f = absurd (true≢false (sym f))
    by (Decided c) f = refl
    by (Sealed c) f = refl

two_of : {X : Type 0} (p q : X → Bool) (o : Option X) → holds p o ≡ true → holds q o ≡ true → ((x : X) → p x ≡ true → q x ≡ true → ⊥) → ⊥
two_of p q None f g k = true≢false (sym f)
two_of p q (Some x) f g k = k x f g

spared : {C : Type 0} (e : Event) (s : Machine C) (h : History) (n u : ℕ) → Owed e s h → holds (is_fixed n) (act_of u s.book.acts) ≡ true → Spared e u
unfolding Owed
spared (Ask t a) s h n u o f = λ i. two_of (is_fixed n) (λ x. is_live_status x.status) (act_of u s.book.acts) f (subst (λ z. holds (λ x. is_live_status x.status) (act_of z s.book.acts) ≡ true) (sym i) o) (fixed_not_live n)
spared e s h n u o f = tt

pub fixed_stays : {C : Type 0} (w : Fixed C) (e : Event) (s : Machine C) (h : History) (n u : ℕ) → Owed e s h → holds (is_fixed n) (act_of u s.book.acts) ≡ true → holds (is_fixed n) (act_of u (after w e s).book.acts) ≡ true
fixed_stays w e s h n u o f = stays_decided w e s n u (spared e s h n u o f) f

pub kept_join : (y : Who) (kept more : List Who) → is_kept y kept ≡ true → is_kept y (kept ++ more) ≡ true
kept_join y [] more h = absurd (true≢false (sym h))
kept_join y (x ∷ xs) more h = elim (or_cases (is_who x y) (is_kept y xs) h) [ inl e ↦ or_left (is_who x y) _ e | inr e ↦ or_right (is_who x y) _ (kept_join y xs more e) ]

pub kept_last : (k : ℕ) (kept : List Who) → is_kept (OfBatch k) (kept ++ OfBatch k ∷ []) ≡ true
kept_last k [] = or_left (k == k) _ (Rattle.std.proofs.lemmas.Bool.eq-eqb k k refl)
kept_last k (x ∷ xs) = or_right (is_who x (OfBatch k)) _ (kept_last k xs)

told_stays : {C : Type 0} (w : Fixed C) (e : Event) (s : Machine C) (h : History) (more : List Who) → Owed e s h → (d : Done) → ToldOf h.kept s.book.acts d → ToldOf (h.kept ++ more) (after w e s).book.acts d
told_stays w e s h more o d k = by d.who k
  where
    by : (y : Who) → IsTold h.kept s.book.acts d.reader (first_number_of d) y → IsTold (h.kept ++ more) (after w e s).book.acts d.reader (first_number_of d) y
    by (OfBatch j) k = kept_join (OfBatch j) h.kept more k
    by (OfAct t) k = (fixed_stays w e s h (first_number_of d) t o k.0, kind_stays s.book.acts (after w e s).book.acts t d.reader (acts_grow w e s) k.1)

told_same : {C : Type 0} (w : Fixed C) (e : Event) (s : Machine C) (h : History) → Owed e s h → (d : Done) → ToldOf h.kept s.book.acts d → ToldOf h.kept (after w e s).book.acts d
told_same w e s h o d k = by d.who k
  where
    by : (y : Who) → IsTold h.kept s.book.acts d.reader (first_number_of d) y → IsTold h.kept (after w e s).book.acts d.reader (first_number_of d) y
    by (OfBatch j) k = k
    by (OfAct t) k = (fixed_stays w e s h (first_number_of d) t o k.0, kind_stays s.book.acts (after w e s).book.acts t d.reader (acts_grow w e s) k.1)

told_pacts : (k : ℕ) (h : History) (kept : List Who) (acts : List Act) (ps : List Pact) → is_kept (OfBatch k) kept ≡ true → AllByRecursion (ToldOf kept acts) (map (done_pact k h) ps)
told_pacts k h kept acts [] e = tt
told_pacts k h kept acts (p ∷ ps) e = (e, told_pacts k h kept acts ps e)

told_batch : (k : ℕ) (h : History) (kept : List Who) (acts : List Act) (o : Option Batch) → is_kept (OfBatch k) kept ≡ true → AllByRecursion (ToldOf kept acts) (done_batch k h o)
told_batch k h kept acts None e = tt
told_batch k h kept acts (Some b) e = told_pacts k h kept acts b.pacts e

pub decided_now : (c t : ℕ) (x : Act) (acts : List Act) → act_of t acts ≡ Some x → is_live_status x.status ≡ true → holds (is_fixed x.m) (act_of t (book.changed_act t (book.decided_as c) acts)) ≡ true
decided_now c t x [] e l = absurd (cc e)
decided_now c t x (y ∷ ys) e l = by (y.tid == t) refl e (decided_now c t x ys)
  where
    same : is_fixed x.m (book.decided_as c x) ≡ true
    same = and_from (is_decided (book.decided_status c (is_value x.result) x.status) || is_sealed (book.decided_status c (is_value x.result) x.status)) (x.m == x.m) (of x.status (is_value x.result) l) (Rattle.std.proofs.lemmas.Bool.eq-eqb x.m x.m refl)
      where
        of : (st : Status) (v : Bool) → is_live_status st ≡ true → (is_decided (book.decided_status c v st) || is_sealed (book.decided_status c v st)) ≡ true
        of Live true l = refl
        of Live false l = refl
        of (Doomed d) v l = absurd (true≢false (sym l))
        of (Decided d) v l = absurd (true≢false (sym l))
        of (Sealed d) v l = absurd (true≢false (sym l))

    by : (b : Bool) → (y.tid == t) ≡ b → (if b then Some y else act_of t ys) ≡ Some x → (act_of t ys ≡ Some x → is_live_status x.status ≡ true → holds (is_fixed x.m) (act_of t (book.changed_act t (book.decided_as c) ys)) ≡ true)
        → holds (is_fixed x.m) (act_of t (book.change_if b (book.decided_as c) y ∷ book.changed_act t (book.decided_as c) ys)) ≡ true
    by true f e r = let i : y ≡ x = cc e in rw f (subst (λ z. is_fixed x.m (book.decided_as c z) ≡ true) (sym i) same)
    by false f e r = rw f (r e l)

-- the one that is decided is live
pub live_here : (t : ℕ) (x : Act) (o : Option Act) → o ≡ Some x → holds (λ x. is_some x.result && is_live_status x.status) o ≡ true → is_live_status x.status ≡ true
live_here t x None e v = absurd (cc e)
live_here t x (Some y) e v = let i : y ≡ x = cc e in subst (λ z. is_live_status z.status ≡ true) i (and_parts (is_some y.result) (is_live_status y.status) v).1

pub told_kept : {C : Type 0} (w : Fixed C) (e : Event) (s : Machine C) (h : History) → IsAllowed w e s → Owed e s h → AllTold s h → AllTold (after w e s) (grown w e s h)
unfolding AllTold Owed conditions after grown
told_kept w (Commit k) s h ok o g = all_join (ToldOf (h.kept ++ OfBatch k ∷ []) s.book.acts) h.committed _ (weaker _ _ h.committed (told_stays w (Commit k) s h (OfBatch k ∷ []) o) g) (told_batch k h (h.kept ++ OfBatch k ∷ []) s.book.acts (batch_of k s.desk.batches) (kept_last k h.kept))
told_kept w (Decide t) s h ok o g = all_join (ToldOf (h.kept ++ kept_act (act_of t s.book.acts)) (after w (Decide t) s).book.acts) h.committed _ (weaker _ _ h.committed (told_stays w (Decide t) s h (kept_act (act_of t s.book.acts)) o) g) (own (act_of t s.book.acts) o.1.is_it)
  where
    same : holds (λ x. agree x.reader o.0.reader) (act_of t (after w (Decide t) s).book.acts) ≡ true
    same = kind_stays s.book.acts (after w (Decide t) s).book.acts t o.0.reader (acts_grow w (Decide t) s) (subst (λ z. holds (λ x. agree x.reader o.0.reader) z ≡ true) (sym o.1.is_it) (agree_same o.0.reader))

    own : (q : Option Act) → q ≡ Some o.0 → AllByRecursion (ToldOf (h.kept ++ kept_act (act_of t s.book.acts)) (after w (Decide t) s).book.acts) (done_act s.book.next_c h q)
    own None e = tt
    own (Some x) e = let i : x ≡ o.0 = cc e in ((rw (i, o.1.tid) (decided_now s.book.next_c t o.0 s.book.acts o.1.is_it (live_here t o.0 (act_of t s.book.acts) o.1.is_it ok.0)), rw (i, o.1.tid) same), tt)
told_kept w e s h ok o g = weaker _ _ h.committed (told_same w e s h o) g

-- ---- where it shows

abbrev pub ShowsOn : {C : Type 0} → List Cascade → List Done → ℕ → Cell C → List Ran → Type 0
ShowsOn cs ds a c long = AllByRecursion (λ d. ShowsNumber cs (own_floor d.reader c.floors) (first_number_of d) d.who long) (visitors a ds)

unfoldable pub Showing : {C : Type 0} → Machine C → History → Type 0
Showing s h = (a : ℕ) → ShowsOn s.book.cascades h.committed a (cell_at s a) (h.long a)

-- what is known of each: it is told, and open batches are above it
abbrev pub IsLow : ℕ → List Batch → Done → Type 0
IsLow next bs d = (first_number_of d < next) × OpenAbove (first_number_of d) bs

abbrev pub FactsOf : List Who → List Act → ℕ → List Batch → Done → Type 0
FactsOf kept acts next bs d = ToldOf kept acts d × IsLow next bs d

show_change : (P : Done → Type 0) (a : ℕ) (ds : List Done) (cs cs' : List Cascade) (f f' : FloorPair) (long long' : List Ran) → AllByRecursion P ds
    → ((d : Done) → P d → ShowsNumber cs (own_floor d.reader f) (first_number_of d) d.who long → ShowsNumber cs' (own_floor d.reader f') (first_number_of d) d.who long')
    → AllByRecursion (λ d. ShowsNumber cs (own_floor d.reader f) (first_number_of d) d.who long) (visitors a ds) → AllByRecursion (λ d. ShowsNumber cs' (own_floor d.reader f') (first_number_of d) d.who long') (visitors a ds)
show_change P a ds cs cs' f f' long long' p k h = both_all P (λ d. ShowsNumber cs (own_floor d.reader f) (first_number_of d) d.who long) (λ d. ShowsNumber cs' (own_floor d.reader f') (first_number_of d) d.who long') (visitors a ds) k (all_filter P (visits a) ds p) h

-- ---- one, at each change

pub join_batches : (k : ℕ) (long xs : List Ran) → is_among k (batches_in long) ≡ true → is_among k (batches_in (long ++ xs)) ≡ true
join_batches k long xs h = subst (λ z. is_among k z ≡ true) (sym (PlaceLists.batches_join long xs)) (ShowLists.among_more k (batches_in long) (batches_in xs) h)

same_batches : (k : ℕ) (long long' : List Ran) → batches_in long' ≡ batches_in long → is_among k (batches_in long) ≡ true → is_among k (batches_in long') ≡ true
same_batches k long long' e h = rw e h

show_batch : (cs : List Cascade) (f n k : ℕ) (y : Who) (long : List Ran) → is_above_or_aborted cs n k ≡ true → ShowsNumber cs f n y long → ShowsNumber cs f n y (long ++ not_run (OfBatch k) ∷ [])
show_batch cs f n k (OfBatch j) long e h = (h.0, join_batches j long (not_run (OfBatch k) ∷ []) h.1)
show_batch cs f n k (OfAct u) long e h = elim h [ inl l ↦ inl l | inr b ↦ inr (ShowLists.below_more cs n u long (not_run (OfBatch k) ∷ []) (e, tt) b) ]

show_act : (cs : List Cascade) (f n t : ℕ) (o : Option ℕ) (y : Who) (long : List Ran) → ShowsNumber cs f n y long → ShowsNumber cs f n y (long ++ map not_run (asks t o))
show_act cs f n t (Some x) y long h = rw (append-nil long) h
show_act cs f n t None (OfBatch j) long h = (h.0, join_batches j long (not_run (OfAct t) ∷ []) h.1)
show_act cs f n t None (OfAct u) long h = elim h [ inl l ↦ inl l | inr b ↦ inr (ShowLists.below_more cs n u long (not_run (OfAct t) ∷ []) tt b) ]

show_ran : (cs : List Cascade) (f n : ℕ) (who : Who) (x : Rattle.protocol.specs.History.Slice) (y : Who) (long : List Ran) → ShowsNumber cs f n y long → ShowsNumber cs f n y (map (ran_in who x) long)
show_ran cs f n who x (OfBatch j) long h = (h.0, same_batches j long (map (ran_in who x) long) (PlaceLists.batches_ran who x long) h.1)
show_ran cs f n who x (OfAct u) long h = elim h [ inl l ↦ inl l | inr b ↦ inr (ShowLists.below_ran cs n u who x long b) ]

show_completed : (cs : List Cascade) (f n k : ℕ) (y : Who) (long : List Ran) → ShowsNumber cs f n y long → ShowsNumber cs f n y (map (completed k) long)
show_completed cs f n k (OfBatch j) long h = (h.0, same_batches j long (map (completed k) long) (PlaceLists.batches_completed k long) h.1)
show_completed cs f n k (OfAct u) long h = elim h [ inl l ↦ inl l | inr b ↦ inr (ShowLists.below_completed cs n u k long b) ]

show_trimmed : (cs : List Cascade) (f n k : ℕ) (y : Who) (long : List Ran) → ShowsNumber cs f n y long → ShowsNumber cs f n y (map (left_for_good (OfBatch k)) long)
show_trimmed cs f n k (OfBatch j) long h = (h.0, same_batches j long (map (left_for_good (OfBatch k)) long) (PlaceLists.batches_left (OfBatch k) long) h.1)
show_trimmed cs f n k (OfAct u) long h = elim h [ inl l ↦ inl l | inr b ↦ inr (ShowLists.below_left cs n u (OfBatch k) long refl b) ]

show_cascade : (cs : List Cascade) (c : Cascade) (f n : ℕ) (y : Who) (long : List Ran) → ShowsNumber cs f n y long → ShowsNumber (cs ++ c ∷ []) f n y long
show_cascade cs c f n (OfBatch j) long h = h
show_cascade cs c f n (OfAct u) long h = elim h [ inl l ↦ inl l | inr b ↦ inr (ShowLists.below_cascade cs c n u long b) ]

show_staying : (cs : List Cascade) (kept : List Who) (acts : List Act) (r : Bool) (f n : ℕ) (y : Who) (long : List Ran) → ((y : Who) → is_cut cs y ≡ true → is_kept y kept ≡ false) → KeptFront kept long → TakenAlong cs acts long → IsTold kept acts r n y
    → ShowsNumber cs f n y long → ShowsNumber cs f n y (long_staying cs long)
show_staying cs kept acts r f n (OfBatch j) long c k x t h = (h.0, ShowLists.among_staying kept cs j long c k t h.1)
show_staying cs kept acts r f n (OfAct u) long c k x t h = elim h [
  | inl l ↦ inl l
  | inr b ↦ inr (ShowLists.below_staying cs acts n u long (λ d. two_of (is_fixed n) (λ x. is_doomed x.status) (act_of u acts) t.0 d (λ x p q. true≢false (sym q ∙ fixed_not_doomed n x p))) x b)
]

-- an ACT that leaves sealed raises its floor
floor_of : (r : Bool) (f : FloorPair) (n : ℕ) (o : Option Act) → holds (is_fixed n) o ≡ true → holds (λ x. agree x.reader r) o ≡ true → holds (λ x. is_doomed x.status || is_sealed x.status) o ≡ true → n ≤ own_floor r (cell.floors_after f o)
floor_of r f n None e i v = absurd (true≢false (sym e))
floor_of r f n (Some x) e i v = by (is_sealed x.status) (or_cases (is_doomed x.status) (is_sealed x.status) v)
  where
    num : n ≡ x.m
    num = sym (eqb-true x.m n (and_parts (is_decided x.status || is_sealed x.status) (x.m == n) e).1)

    raised : (v : Bool) → v ≡ r → n ≤ own_floor r (cell.raised_floors v x.m f)
    raised true q = subst (λ z. n ≤ own_floor z (cell.raised_floors true x.m f)) q (omega (arith, num))
    raised false q = subst (λ z. n ≤ own_floor z (cell.raised_floors false x.m f)) q (omega (arith, num))

    by : (b : Bool) → (is_doomed x.status ≡ true) ⊎ (b ≡ true) → n ≤ own_floor r (if b then cell.raised_floors x.reader x.m f else f)
    by true q = raised x.reader (agree_is x.reader r i)
    by false (inl d) = absurd (true≢false (sym d ∙ fixed_not_doomed n x e))
    by false (inr d) = absurd (true≢false (sym d))

pub floor_rises : (f : FloorPair) (o : Option Act) → (f.write ≤ (cell.floors_after f o).write) × (f.read ≤ (cell.floors_after f o).read)
floor_rises f None = (omega arith, omega arith)
floor_rises f (Some x) = by (is_sealed x.status)
  where
    raised : (v : Bool) → (f.write ≤ (cell.raised_floors v x.m f).write) × (f.read ≤ (cell.raised_floors v x.m f).read)
    raised true = (omega arith, omega arith)
    raised false = (omega arith, omega arith)

    by : (b : Bool) → (f.write ≤ (if b then cell.raised_floors x.reader x.m f else f).write) × (f.read ≤ (if b then cell.raised_floors x.reader x.m f else f).read)
    by true = raised x.reader
    by false = (omega arith, omega arith)

pub own_rises : (r : Bool) (f : FloorPair) (o : Option Act) → own_floor r f ≤ own_floor r (cell.floors_after f o)
own_rises true f o = (floor_rises f o).1
own_rises false f o = (floor_rises f o).0

show_finish : (cs : List Cascade) (kept : List Who) (acts : List Act) (r : Bool) (f : FloorPair) (n t : ℕ) (q : Bool) (y : Who) (long : List Ran) → holds (λ x. is_doomed x.status || is_sealed x.status) (act_of t acts) ≡ true → IsTold kept acts r n y
    → ShowsNumber cs (own_floor r f) n y long → ShowsNumber cs (own_floor r (cell.floors_after f (act_of t acts))) n y (if q then without_standing (OfAct t) long else map (left_for_good (OfAct t)) long)
show_finish cs kept acts r f n t true (OfBatch j) long v k h = (h.0, same_batches j long (without_standing (OfAct t) long) (PlaceLists.batches_without_act t long) h.1)
show_finish cs kept acts r f n t false (OfBatch j) long v k h = (h.0, same_batches j long (map (left_for_good (OfAct t)) long) (PlaceLists.batches_left (OfAct t) long) h.1)
show_finish cs kept acts r f n t q (OfAct u) long v k h = elim (cases_Bool (u == t)) [
  | inl e ↦ let i : u ≡ t = eqb-true u t e in inl (floor_of r f n (act_of t acts) (subst (λ z. holds (is_fixed n) (act_of z acts) ≡ true) i k.0) (subst (λ z. holds (λ x. agree x.reader r) (act_of z acts) ≡ true) i k.1) v)
  | inr e ↦ elim h [ inl l ↦ inl (omega (arith, l, own_rises r f (act_of t acts))) | inr b ↦ inr (by q e b) ]
]
  where
    by : (q : Bool) → (u == t) ≡ false → StandsBelow cs n u long → StandsBelow cs n u (if q then without_standing (OfAct t) long else map (left_for_good (OfAct t)) long)
    by true e b = ShowLists.below_undone cs n u t long e b
    by false e b = ShowLists.below_left cs n u (OfAct t) long e b

-- ---- what commits

pub viewed : (who : Who) (t : ℕ) (rs : List Ran) → is_some (view_in t (slices_of who rs)) ≡ true → is_key_among who (keys_in rs) ≡ true
viewed who t [] h = absurd (true≢false (sym h))
viewed who t (Stands y c ss ∷ rs) h = by (is_who y who) h (viewed who t rs)
  where
    by : (b : Bool) → is_some (view_in t (if b then ss else slices_of who rs)) ≡ true → (is_some (view_in t (slices_of who rs)) ≡ true → is_key_among who (keys_in rs) ≡ true) → (b || is_key_among who (keys_in rs)) ≡ true
    by true h r = refl
    by false h r = r h
viewed who t (Gone y ss ∷ rs) h = viewed who t rs h

show_pacts : (cs : List Cascade) (k a : ℕ) (f : FloorPair) (h : History) (ps : List Pact) → AllByRecursion (λ d. ShowsNumber cs (own_floor d.reader f) (first_number_of d) d.who (h.long a)) (visitors a (map (done_pact k h) ps))
show_pacts cs k a f h [] = tt
show_pacts cs k a f h (p ∷ ps) = by (visits a (done_pact k h p)) refl (show_pacts cs k a f h ps)
  where
    by : (b : Bool) → visits a (done_pact k h p) ≡ b → AllByRecursion (λ d. ShowsNumber cs (own_floor d.reader f) (first_number_of d) d.who (h.long a)) (visitors a (map (done_pact k h) ps))
        → AllByRecursion (λ d. ShowsNumber cs (own_floor d.reader f) (first_number_of d) d.who (h.long a)) (if b then done_pact k h p ∷ visitors a (map (done_pact k h) ps) else visitors a (map (done_pact k h) ps))
    by true e r = ((refl, ShowLists.key_among k (h.long a) (viewed (OfBatch k) p.tid (h.long a) e)), r)
    by false e r = r

show_done : (cs : List Cascade) (k a : ℕ) (f : FloorPair) (h : History) (o : Option Batch) → AllByRecursion (λ d. ShowsNumber cs (own_floor d.reader f) (first_number_of d) d.who (h.long a)) (visitors a (done_batch k h o))
show_done cs k a f h None = tt
show_done cs k a f h (Some b) = show_pacts cs k a f h b.pacts

show_decided : (cs : List Cascade) (c a : ℕ) (f : FloorPair) (h : History) (o : Option Act) → ((x : Act) → o ≡ Some x → is_some (act_view h x a) ≡ true → StandsBelow cs x.m x.tid (h.long a))
    → AllByRecursion (λ d. ShowsNumber cs (own_floor d.reader f) (first_number_of d) d.who (h.long a)) (visitors a (done_act c h o))
show_decided cs c a f h None k = tt
show_decided cs c a f h (Some x) k = by (is_some (act_view h x a)) refl
  where
    unit : Done
    unit = record { who = OfAct x.tid; tid = x.tid; tx = x.tx; place = act_place x.m c; result = x.result; reader = x.reader; views = Rattle.protocol.specs.History.act_view h x }

    by : (b : Bool) → is_some (act_view h x a) ≡ b → AllByRecursion (λ d. ShowsNumber cs (own_floor d.reader f) (first_number_of d) d.who (h.long a)) (if b then unit ∷ [] else [])
    by true e = (inr (k x refl e), tt)
    by false e = tt

show_join : (cs : List Cascade) (a : ℕ) (f : FloorPair) (long : List Ran) (ds es : List Done) → AllByRecursion (λ d. ShowsNumber cs (own_floor d.reader f) (first_number_of d) d.who long) (visitors a ds) → AllByRecursion (λ d. ShowsNumber cs (own_floor d.reader f) (first_number_of d) d.who long) (visitors a es)
    → AllByRecursion (λ d. ShowsNumber cs (own_floor d.reader f) (first_number_of d) d.who long) (visitors a (ds ++ es))
show_join cs a f long ds es h k = subst (AllByRecursion (λ d. ShowsNumber cs (own_floor d.reader f) (first_number_of d) d.who long)) (sym (filter_join (visits a) ds es)) (all_join (λ d. ShowsNumber cs (own_floor d.reader f) (first_number_of d) d.who long) (visitors a ds) (visitors a es) h k)

-- ---- open batches

-- a batch that has not committed is aborted, or above what open batches are above
pub open_or : {C : Type 0} (w : Fixed C) (s : Machine C) (h : History) (n k : ℕ) (test : Batch → Bool) → settling.Settling w s → Marked s h → OpenAbove n s.desk.batches → holds test (batch_of k s.desk.batches) ≡ true → is_kept (OfBatch k) h.kept ≡ false → is_above_or_aborted s.book.cascades n k ≡ true
unfolding settling.Settling Marked
open_or w s h n k test st m o d f =
    let b = one_is test (batch_of k s.desk.batches) d in
    let i = settling.in_keys b.0 (λ x. x.bid == k) s.desk.batches b.1 in
    let e : b.0.bid ≡ k = eqb-true b.0.bid k i.1 in
    let formed : is_formed b.0.stage ≡ true = not_not (is_formed b.0.stage) (sym (m k b.0 b.1).known ∙ f) in
    elim (cases_Bool (is_aborted k s.book.cascades)) [
      | inl a ↦ or_left (is_aborted k s.book.cascades) _ a
      | inr a ↦
          let unaborted : b.0.aborted ≡ false = st.marked (settling.key_of b.0) i.0 ∙ subst (λ z. is_aborted z s.book.cascades ≡ false) (sym e) a in
          let opened : is_open b.0 ≡ true = and_from (is_formed b.0.stage) (not b.0.aborted) formed (rw unaborted refl) in
          or_right (is_aborted k s.book.cascades) (nat_le n k) (le-leb n k (omega (arith, e, (all_found (λ b. is_open b ≡ true → n < b.bid) (λ b. b.bid == k) s.desk.batches b.0 o b.1).0 opened)))
    ]
  where
    not_not : (b : Bool) → not b ≡ false → b ≡ true
    not_not true e = refl
    not_not false e = absurd (true≢false e)

pub arrives_declared : {C : Type 0} (k a : ℕ) (s : Machine C) → FromDesk s → is_some (sub_of k a s.post.subs) ≡ true → is_declared k a s.desk.batches ≡ true
arrives_declared {C} k a s d v = by (sub_of k a s.post.subs) refl v
  where
    by : (o : Option SubBatch) → sub_of k a s.post.subs ≡ o → is_some o ≡ true → is_declared k a s.desk.batches ≡ true
    by None e q = absurd (true≢false (sym q))
    by (Some x) e q =
        let f = all_found (MessageOf s.desk.batches) (λ y. (y.bid == k) && (y.actor == a)) s.post.subs x d.subs e in
        let v = and_parts (x.bid == k) (x.actor == a) f.1 in
        subst (λ z. is_declared z a s.desk.batches ≡ true) (eqb-true x.bid k v.0) (subst (λ z. is_declared x.bid z s.desk.batches ≡ true) (eqb-true x.actor a v.1) f.0.declared)

-- ---- event by event

-- What is taken from others: what commits is told, batches and entries, and that ACTs behind an aborted batch are doomed.
pub record Beside {C : Type 0} (w : Fixed C) (s : Machine C) (h : History) : Type 0 where
  pub settles : settling.Settling w s
  pub known : Known s h
  pub marked : Marked s h
  pub from_desk : FromDesk s
  pub turned : Turned s h
  pub committed : Committed w h
  pub taken : (a : ℕ) → TakenAlong s.book.cascades s.book.acts (h.long a)
  -- a batch that arrives, and one that a rollback cuts, did not commit
  pub cuts : (y : Who) → is_cut s.book.cascades y ≡ true → is_kept y h.kept ≡ false

-- of an ACT that gets its place: batches behind it are above its number, or aborted
pub decided_below : {C : Type 0} (w : Fixed C) (s : Machine C) (h : History) (t a n : ℕ) → Beside w s h → OpenAbove n s.desk.batches → is_kept (OfAct t) h.kept ≡ false → is_key_among (OfAct t) (keys_in (h.long a)) ≡ true → StandsBelow s.book.cascades n t (h.long a)
unfolding Turned Committed
decided_below w s h t a n g low f q = ShowLists.decides_below h.kept s.book.cascades s.desk.batches a n t (h.long a) (cell_at s a).entries (λ k d e. open_or w s h n k (λ b. is_some (declared_of a b)) g.settles g.marked low d e) f ((g.committed a).front) (g.turned a) (g.from_desk.entries a) q

abbrev pub ArrivesFresh : {C : Type 0} → Event → Machine C → History → Type 0
ArrivesFresh (Arrive k a) s h = is_kept (OfBatch k) h.kept ≡ false
ArrivesFresh _ s h = Unit {0}

pub shows_kept : {C : Type 0} (w : Fixed C) (e : Event) (s : Machine C) (h : History) → IsAllowed w e s → Owed e s h → ArrivesFresh e s h → Beside w s h → ((x : Act) (t : ℕ) → e ≡ Decide t → act_of t s.book.acts ≡ Some x → OpenAbove x.m s.desk.batches)
    → AllByRecursion (FactsOf h.kept s.book.acts s.ring.next_bid s.desk.batches) h.committed → Showing s h → Showing (after w e s) (grown w e s h)
unfolding Showing Owed Committed conditions after grown
shows_kept w (Arrive k a) s h ok o n b m p g =
    let P = FactsOf h.kept s.book.acts s.ring.next_bid s.desk.batches in
    beside (ShowsOn s.book.cascades h.committed) s.cells a _ _ h.long (arrives (epoch s.book) a (λ c. c.epoch == epoch s.book) s.cells (sub_of k a s.post.subs) ok.1.1.0)
    (show_change P a h.committed s.book.cascades s.book.cascades (cell_at s a).floors (cell_at s a).floors (h.long a) (h.long a ++ not_run (OfBatch k) ∷ []) p
    (λ d q x. show_batch s.book.cascades (own_floor d.reader (cell_at s a).floors) (first_number_of d) k d.who (h.long a) (open_or w s h (first_number_of d) k (λ b. is_some (declared_of a b)) b.settles b.marked q.1.1 (arrives_declared k a s b.from_desk ok.0) n) x)) g
shows_kept w (Ask t a) s h ok o n b m p g =
    beside (ShowsOn s.book.cascades h.committed) s.cells a _ _ h.long (in_range _ s.cells a ok.1.1.0)
    (weaker (λ d. ShowsNumber s.book.cascades (own_floor d.reader (cell_at s a).floors) (first_number_of d) d.who (h.long a)) _ (visitors a h.committed) (λ d x. show_act s.book.cascades (own_floor d.reader (cell_at s a).floors) (first_number_of d) t (book.in_the_way (lock_of t s.book.acts) (cell_at s a).entries) d.who (h.long a) x)) g
shows_kept w (Take t a) s h ok o n b m p g = beside_same (ShowsOn s.book.cascades h.committed) s.cells a _ h.long (in_range _ s.cells a ok.1.0) (λ x. x) g
shows_kept w (Run t a) s h ok o n b m p g =
    beside (ShowsOn s.book.cascades h.committed) s.cells a _ _ h.long (in_range _ s.cells a ok.0)
    (weaker (λ d. ShowsNumber s.book.cascades (own_floor d.reader (cell_at s a).floors) (first_number_of d) d.who (h.long a)) _ (visitors a h.committed) (λ d x. TrackLists.on_reads (ShowsNumber s.book.cascades (own_floor d.reader (cell_at s a).floors) (first_number_of d) d.who) (cell.reads_on t (cell_at s a).entries) _ _ (h.long a) (show_ran s.book.cascades (own_floor d.reader (cell_at s a).floors) (first_number_of d) _ _ d.who (h.long a)) x)) g
shows_kept w (Send t a) s h ok o n b m p g = beside_same (ShowsOn s.book.cascades h.committed) s.cells a _ h.long (in_range _ s.cells a ok.0) (λ x. x) g
shows_kept w (End t a) s h ok o n b m p g = beside_same (ShowsOn s.book.cascades h.committed) s.cells a _ h.long (in_range _ s.cells a ok.0) (λ x. x) g
shows_kept w (Close t a) s h ok o n b m p g = beside_same (ShowsOn s.book.cascades h.committed) s.cells a _ h.long (in_range _ s.cells a ok.1.0) (λ x. x) g
shows_kept w (Complete k a) s h ok o n b m p g =
    beside (ShowsOn s.book.cascades h.committed) s.cells a _ _ h.long (in_range _ s.cells a ok.0)
    (weaker (λ d. ShowsNumber s.book.cascades (own_floor d.reader (cell_at s a).floors) (first_number_of d) d.who (h.long a)) _ (visitors a h.committed) (λ d x. show_completed s.book.cascades (own_floor d.reader (cell_at s a).floors) (first_number_of d) k d.who (h.long a) x)) g
shows_kept w (Commit k) s h ok o n b m p g = λ a. show_join s.book.cascades a (cell_at s a).floors (h.long a) h.committed (done_batch k h (batch_of k s.desk.batches)) (g a) (show_done s.book.cascades k a (cell_at s a).floors h (batch_of k s.desk.batches))
shows_kept w (Abort k) s h ok o n b m p g = λ a. weaker (λ d. ShowsNumber s.book.cascades (own_floor d.reader (cell_at s a).floors) (first_number_of d) d.who (h.long a)) _ (visitors a h.committed) (λ d x. show_cascade s.book.cascades _ (own_floor d.reader (cell_at s a).floors) (first_number_of d) d.who (h.long a) x) (g a)
shows_kept w (Rollback a) s h ok o n b m p g =
    beside (ShowsOn s.book.cascades h.committed) s.cells a _ _ h.long (in_range _ s.cells a ok.0)
    (show_change (FactsOf h.kept s.book.acts s.ring.next_bid s.desk.batches) a h.committed s.book.cascades s.book.cascades (cell_at s a).floors (cell_at s a).floors (h.long a) (long_staying s.book.cascades (h.long a)) p
    (λ d q x. show_staying s.book.cascades h.kept s.book.acts d.reader (own_floor d.reader (cell_at s a).floors) (first_number_of d) d.who (h.long a) b.cuts ((b.committed a).front) (b.taken a) q.0 x)) g
shows_kept w (Decide t) s h ok o n b m p g = λ a. show_join s.book.cascades a (cell_at s a).floors (h.long a) h.committed (done_act s.book.next_c h (act_of t s.book.acts)) (g a)
    (show_decided s.book.cascades s.book.next_c a (cell_at s a).floors h (act_of t s.book.acts)
    (λ x e q. let i : x ≡ o.0 = one (sym e ∙ o.1.is_it) in let j : x.tid ≡ t = ap (λ z. z.tid) i ∙ o.1.tid in
    subst (λ z. StandsBelow s.book.cascades x.m z (h.long a)) (sym j) (decided_below w s h t a x.m b (m x t refl e) o.1.fresh (o.1.there a (subst (λ z. is_some (act_view h z a) ≡ true) i q)))))
  where
    one : {x y : Act} → Some x ≡ Some y → x ≡ y
    one e = cc e
shows_kept w (Finish t a) s h ok o n b m p g =
    beside (ShowsOn s.book.cascades h.committed) s.cells a _ _ h.long o
    (show_change (FactsOf h.kept s.book.acts s.ring.next_bid s.desk.batches) a h.committed s.book.cascades s.book.cascades (cell_at s a).floors (cell.floors_after (cell_at s a).floors (act_of t s.book.acts)) (h.long a) (if is_traceless (act_of t s.book.acts) then without_standing (OfAct t) (h.long a) else map (left_for_good (OfAct t)) (h.long a)) p
    (λ d q x. show_finish s.book.cascades h.kept s.book.acts d.reader (cell_at s a).floors (first_number_of d) t (is_traceless (act_of t s.book.acts)) d.who (h.long a) ok.0 q.0 x)) g
shows_kept w (Trim k a) s h ok o n b m p g =
    beside (ShowsOn s.book.cascades h.committed) s.cells a _ _ h.long o
    (weaker (λ d. ShowsNumber s.book.cascades (own_floor d.reader (cell_at s a).floors) (first_number_of d) d.who (h.long a)) _ (visitors a h.committed) (λ d x. show_trimmed s.book.cascades (own_floor d.reader (cell_at s a).floors) (first_number_of d) k d.who (h.long a) x)) g
shows_kept w e s h ok o n b m p g = g
