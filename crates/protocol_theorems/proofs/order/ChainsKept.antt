-- The order of placing is the order of commits, event by event.
use Rattle.std.specs.Prelude.{◌≡◌, refl, ℕ, ◌+◌, ◌<◌, ◌≤◌, ◌==◌, not, Bool, true, false, ◌&&◌, ◌||◌, if◌then◌else◌, Option, Some, None, is_some, List, [], ◌∷◌, ◌++◌, map, filter}
use Rattle.std.specs.List.{AllByRecursion}
use Rattle.std.proofs.Common.{arith, sym, ap, subst, inl, inr, ◌∙◌}
use Rattle.std.proofs.lemmas.List.{append-nil}
use Rattle.std.proofs.lemmas.Bool.{eqb-true, eq-eqb, and_parts, or_cases, or_from, or_left, or_right, true≢false, cases_Bool, false_from_ne_true}
use Rattle.protocol_laws.proofs.machine.ActsGrow.{acts_grow, grown_holds}
use Rattle.protocol.specs.Fixed.{Fixed}
use Rattle.protocol.specs.Parts.{Act, Pact, Batch, Status, Live, Doomed, Decided, Sealed, Who, OfBatch, OfAct, Cascade, Machine}
use Rattle.protocol.specs.Events.{Event, Form, Admit, Arrive, Ask, Run, Complete, Commit, Rollback, Decide, Finish, Trim}
use Rattle.protocol.specs.Words.{holds, is_who, is_value, is_live_status, has_act, batch_of, act_of, lock_of}
use Rattle.protocol.specs.Conditions.{IsAllowed, conditions}
use Rattle.protocol.specs.Effects.{after, cell_at, no_cell}
use Rattle.protocol.specs.OnBook as book
use Rattle.protocol.specs.OnCell as cell
use Rattle.protocol.specs.OnCell.{is_cut}
use Rattle.protocol.specs.History.{History, Done, Ran, Stands, Gone, grown, with_at, not_run, left_for_good, without_standing, asks, slices_of, view_in, done_pact, done_batch, done_act, kept_act, is_traceless, ran_on, is_reader_act}
use Rattle.protocol.specs.Chains.{stands_for}
use Rattle.protocol_laws.specs.Tracks.{Key, keys_in, is_key_among}
use Rattle.protocol_laws.specs.Commits.{is_kept, KeptAhead, KeptOrReads, reads_who}
use Rattle.protocol_laws.specs.Linked.{visitors}
use Rattle.protocol_theorems.specs.Placed.{is_placed, has_done, ChainIs}
use Rattle.protocol_laws.proofs.first.SettlingKept as settling
use Rattle.protocol_laws.proofs.machine.TrackLists
use Rattle.protocol_laws.proofs.machine.TrackLists.{keys_without, keys_staying, keys_going}
use Rattle.protocol_laws.proofs.machine.TracksKept.{Tracked, held, act_not_among}
use Rattle.protocol_laws.proofs.machine.PlacesKept.{Placed}
use Rattle.protocol_laws.proofs.machine.CommitLists.{none_of}
use Rattle.protocol_laws.proofs.machine.CommitsKept.{beside_carried, MayDecide}
use Rattle.protocol_laws.proofs.machine.CommitsKept as chain
use Rattle.protocol_laws.proofs.machine.TurnsKept.{one_is}
use Rattle.protocol_laws.proofs.first.Lists.{all_join, weaker, all_found}
use Rattle.protocol_theorems.proofs.order.NamesKept.{Named, IsNamed}
use Rattle.protocol_theorems.proofs.order.RunsBefore.{lives, act_was}
use Rattle.protocol_theorems.proofs.order.SlicesKept.{LiveStay, stays_ahead, finishes_other}
use Rattle.protocol_theorems.proofs.order.ChainLists as lists
use Rattle.protocol_theorems.proofs.order.ChainLists.{AheadKept, OfIt, CommitsFor, Came, NotCame, NotPlaced, kept_grows}

-- ---- who committed

-- a batch with a value, or an ACT that lives no more
abbrev pub IsOver : ℕ → List Act → List Who → Who → Type 0
IsOver next acts kept (OfBatch k) = is_kept (OfBatch k) kept ≡ true
IsOver next acts kept (OfAct t) = (t < next) × (holds lives (act_of t acts) ≡ false)

abbrev pub IsDrawn : ℕ → Who → Type 0
IsDrawn next (OfBatch k) = Unit {0}
IsDrawn next (OfAct t) = t < next

pub record ChainedFor {C : Type 0} (rd : Who → Bool) (s : Machine C) (h : History) : Type 0 where
  pub over : AllByRecursion (λ d. IsOver s.ring.next_tid s.book.acts h.kept d.who) h.committed
  pub drawn : (a : ℕ) → AllByRecursion (IsDrawn s.ring.next_tid) (h.placed a)
  -- a live ACT stands where it was placed
  pub stands : (t a : ℕ) → holds lives (act_of t s.book.acts) ≡ true → is_placed (OfAct t) (h.placed a) ≡ true → is_key_among (OfAct t) (keys_in (h.long a)) ≡ true
  pub chains : (a : ℕ) → ChainIs a rd h.kept h.committed (h.placed a) (keys_in (h.long a))

-- of the readers that the book has
abbrev pub Chained : {C : Type 0} → Machine C → History → Type 0
Chained s h = ChainedFor (reads_who s.book.acts) s h

-- What is owed.
unfoldable pub Owes : {C : Type 0} → Event → Machine C → History → Type 0
-- a batch arrives once
Owes (Arrive k a) s h = is_placed (OfBatch k) (h.placed a) ≡ false
-- an ACT that asks lives
Owes (Ask t a) s h = holds lives (act_of t s.book.acts) ≡ true
-- one that is decided ran wherever it stands
Owes (Decide t) s h = (x : Act) → act_of t s.book.acts ≡ Some x → (a : ℕ) → is_key_among (OfAct t) (keys_in (h.long a)) ≡ true → is_some (Rattle.protocol.specs.History.act_view h x a) ≡ true
Owes _ s h = Unit {0}

-- ---- over

pub no_done : (who : Who) (P : Who → Type 0) (ds : List Done) → (P who → ⊥) → AllByRecursion (λ d. P d.who) ds → has_done ds who ≡ false
no_done who P [] n h = refl
no_done who P (d ∷ ds) n h = or_from (is_who who d.who) (has_done ds who) (false_from_ne_true (is_who who d.who) (λ q. n (subst P (sym (TrackLists.is_who_true who d.who q)) h.0))) (no_done who P ds n h.1)

over_more : (next next' : ℕ) (acts acts' : List Act) (kept more : List Who) (y : Who) → next ≤ next' → ((t : ℕ) → t < next → holds lives (act_of t acts') ≡ true → holds lives (act_of t acts) ≡ true) → IsOver next acts kept y → IsOver next' acts' (kept ++ more) y
over_more next next' acts acts' kept more (OfBatch k) l f h = kept_grows kept more (OfBatch k) h
over_more next next' acts acts' kept more (OfAct t) l f h = (omega (arith, l, h.0), false_from_ne_true (holds lives (act_of t acts')) (λ q. true≢false (sym (f t h.0 q) ∙ h.1)))

over_same : (next next' : ℕ) (acts acts' : List Act) (kept : List Who) (y : Who) → next ≤ next' → ((t : ℕ) → t < next → holds lives (act_of t acts') ≡ true → holds lives (act_of t acts) ≡ true) → IsOver next acts kept y → IsOver next' acts' kept y
over_same next next' acts acts' kept (OfBatch k) l f h = h
over_same next next' acts acts' kept (OfAct t) l f h = (omega (arith, l, h.0), false_from_ne_true (holds lives (act_of t acts')) (λ q. true≢false (sym (f t h.0 q) ∙ h.1)))

-- who lives after an event lived before it, where it was drawn
lived : {C : Type 0} (w : Fixed C) (e : Event) (s : Machine C) → IsAllowed w e s → (t : ℕ) → t < s.ring.next_tid → holds lives (act_of t (after w e s).book.acts) ≡ true → holds lives (act_of t s.book.acts) ≡ true
unfolding conditions
lived w (Admit u) s ok t l q = elim (act_was w (Admit u) s t q) [ inl o ↦ o | inr n ↦ absurd (omega (arith, n, l, eqb-true u s.ring.next_tid ok.0)) ]
lived w e s ok t l q = elim (act_was w e s t q) [ inl o ↦ o | inr n ↦ absurd n ]

drawn_more : (next next' : ℕ) (y : Who) → next ≤ next' → IsDrawn next y → IsDrawn next' y
drawn_more next next' (OfBatch k) l h = tt
drawn_more next next' (OfAct t) l h = omega (arith, l, h)

-- ---- keys

still_staying : (cs : List Cascade) (who : Who) (ks : List Key) → is_key_among who ks ≡ true → is_key_among who (keys_going cs ks) ≡ false → is_key_among who (keys_staying cs ks) ≡ true
still_staying cs who [] e n = e
still_staying cs who (k ∷ ks) e n = by (is_cut cs k.who) e n (still_staying cs who ks)
  where
    by : (b : Bool) → (is_who k.who who || is_key_among who ks) ≡ true → is_key_among who (if b then k ∷ ks else keys_going cs ks) ≡ false → (is_key_among who ks ≡ true → is_key_among who (keys_going cs ks) ≡ false → is_key_among who (keys_staying cs ks) ≡ true)
        → is_key_among who (if b then [] else k ∷ keys_staying cs ks) ≡ true
    by true e n r = absurd (true≢false (sym e ∙ n))
    by false e n r = elim (or_cases (is_who k.who who) (is_key_among who ks) e) [ inl q ↦ or_left (is_who k.who who) _ q | inr q ↦ or_right (is_who k.who who) _ (r q n) ]

still_without : (v who : Who) (ks : List Key) → is_who v who ≡ false → is_key_among who ks ≡ true → is_key_among who (keys_without v ks) ≡ true
still_without v who [] n e = e
still_without v who (k ∷ ks) n e = by (is_who k.who v) refl (still_without v who ks n)
  where
    by : (b : Bool) → is_who k.who v ≡ b → (is_key_among who ks ≡ true → is_key_among who (keys_without v ks) ≡ true) → is_key_among who (if b then keys_without v ks else k ∷ keys_without v ks) ≡ true
    by true q r = elim (or_cases (is_who k.who who) (is_key_among who ks) e) [ inl i ↦ absurd (true≢false (sym (subst (λ z. is_who z who ≡ true) (TrackLists.is_who_true k.who v q) i) ∙ n)) | inr i ↦ r i ]
    by false q r = elim (or_cases (is_who k.who who) (is_key_among who ks) e) [ inl i ↦ or_left (is_who k.who who) _ i | inr i ↦ or_right (is_who k.who who) _ (r i) ]

ahead_keys : (kept : List Who) (who : Who) (rs : List Ran) → KeptAhead kept who rs → AheadKept (λ y. is_kept y kept) who (keys_in rs)
ahead_keys kept who [] h = tt
ahead_keys kept who (Stands y c ss ∷ rs) h = (h.0, ahead_keys kept who rs h.1)
ahead_keys kept who (Gone y ss ∷ rs) h = ahead_keys kept who rs h

or_keys : (kept : List Who) (acts : List Act) (who : Who) (rs : List Ran) → KeptOrReads kept acts who rs → AheadKept (λ y. is_kept y kept || reads_who acts y) who (keys_in rs)
or_keys kept acts who [] h = tt
or_keys kept acts who (Stands y c ss ∷ rs) h = (h.0, or_keys kept acts who rs h.1)
or_keys kept acts who (Gone y ss ∷ rs) h = or_keys kept acts who rs h

finish_keys : (t : ℕ) (b : Bool) (rs : List Ran) → keys_in (if b then without_standing (OfAct t) rs else map (left_for_good (OfAct t)) rs) ≡ keys_without (OfAct t) (keys_in rs)
finish_keys t true rs = TrackLists.keys_without_standing (OfAct t) rs
finish_keys t false rs = TrackLists.keys_left (OfAct t) rs

-- ---- who is placed

-- two things that are carried of one actor change
beside_two : {X Y : Type 0} (P : ℕ → X → Y → Type 0) (a : ℕ) (x : X) (y : Y) (f : ℕ → X) (g : ℕ → Y) → (P a (f a) (g a) → P a x y) → ((b : ℕ) → P b (f b) (g b)) → (b : ℕ) → P b (with_at a x f b) (with_at a y g b)
beside_two P a x y f g k h b = elim (cases_Bool (b == a)) [
  | inl e ↦ let q : b ≡ a = eqb-true b a e in rw e (subst (λ z. P z x y) (sym q) (k (h a)))
  | inr e ↦ rw e (h b)
]

abbrev pub StandsAt : List Act → ℕ → List Who → List Ran → Type 0
StandsAt acts a placed long = (t : ℕ) → holds lives (act_of t acts) ≡ true → is_placed (OfAct t) placed ≡ true → is_key_among (OfAct t) (keys_in long) ≡ true

among_front : (who : Who) (xs ys : List Key) → is_key_among who xs ≡ true → is_key_among who (xs ++ ys) ≡ true
among_front who [] ys e = absurd (true≢false (sym e))
among_front who (x ∷ xs) ys e = elim (or_cases (is_who x.who who) (is_key_among who xs) e) [ inl q ↦ or_left (is_who x.who who) _ q | inr q ↦ or_right (is_who x.who who) _ (among_front who xs ys q) ]

among_end : (who : Who) (xs : List Key) (k : Key) → is_who k.who who ≡ true → is_key_among who (xs ++ k ∷ []) ≡ true
among_end who [] k e = or_left (is_who k.who who) false e
among_end who (x ∷ xs) k e = or_right (is_who x.who who) _ (among_end who xs k e)

placed_parts : (who y : Who) (ys : List Who) → is_placed who (ys ++ y ∷ []) ≡ true → (Rattle.std.specs.Prelude.◌⊎◌ (is_placed who ys ≡ true) (is_who y who ≡ true))
placed_parts who y [] e = elim (or_cases (is_who y who) false e) [ inl q ↦ inr q | inr q ↦ inl q ]
placed_parts who y (z ∷ zs) e = elim (or_cases (is_who z who) (is_placed who (zs ++ y ∷ [])) e) [
  | inl q ↦ inl (or_left (is_who z who) _ q)
  | inr q ↦ elim (placed_parts who y zs q) [ inl r ↦ inl (or_right (is_who z who) _ r) | inr r ↦ inr r ]
]

stands_more : (acts : List Act) (a : ℕ) (placed : List Who) (long : List Ran) (y : Who) → StandsAt acts a placed long → StandsAt acts a (placed ++ y ∷ []) (long ++ not_run y ∷ [])
stands_more acts a placed long y h = λ t l e. subst (λ ks. is_key_among (OfAct t) ks ≡ true) (sym (TrackLists.keys_join long (not_run y ∷ [])))
    (elim (placed_parts (OfAct t) y placed e) [ inl q ↦ among_front (OfAct t) (keys_in long) _ (h t l q) | inr q ↦ among_end (OfAct t) (keys_in long) (record { who = y; complete = false }) q ])

chain_more : (a : ℕ) (rd : Who → Bool) (kept : List Who) (ds : List Done) (placed : List Who) (long : List Ran) (y : Who) → has_done ds y ≡ false → is_placed y placed ≡ false → ChainIs a rd kept ds placed (keys_in long) → ChainIs a rd kept ds (placed ++ y ∷ []) (keys_in (long ++ not_run y ∷ []))
chain_more a rd kept ds placed long y n p h = subst (λ ks. ChainIs a rd kept ds (placed ++ y ∷ []) ks) (sym (TrackLists.keys_join long (not_run y ∷ []))) (lists.places a rd kept ds placed (keys_in long) (record { who = y; complete = false }) n p h)

keys_on : (b : Bool) (who : Who) (x : Rattle.protocol.specs.History.Slice) (rs : List Ran) → keys_in (ran_on b who x rs) ≡ keys_in rs
keys_on true who x rs = refl
keys_on false who x rs = TrackLists.keys_ran who x rs

-- ---- who commits

view_none : (t : ℕ) (who : Who) (rs : List Ran) → is_key_among who (keys_in rs) ≡ false → is_some (view_in t (slices_of who rs)) ≡ false
view_none t who rs e = ap (λ ss. is_some (view_in t ss)) (none_of who rs e)

batch_for : (k a : ℕ) (h : History) (ps : List Pact) → filter (stands_for a (OfBatch k)) (map (done_pact k h) ps) ≡ visitors a (map (done_pact k h) ps)
batch_for k a h [] = refl
batch_for k a h (p ∷ ps) = rw (eq-eqb k k refl, batch_for k a h ps) refl

batch_none : (k a : ℕ) (h : History) (ps : List Pact) → is_key_among (OfBatch k) (keys_in (h.long a)) ≡ false → visitors a (map (done_pact k h) ps) ≡ []
batch_none k a h [] e = refl
batch_none k a h (p ∷ ps) e = rw (view_none p.tid (OfBatch k) (h.long a) e) (batch_none k a h ps e)

pub batch_of_it : (k : ℕ) (h : History) (ps : List Pact) → OfIt (OfBatch k) (map (done_pact k h) ps)
batch_of_it k h [] = tt
batch_of_it k h (p ∷ ps) = (refl, batch_of_it k h ps)

batch_commits : (k a : ℕ) (h : History) (ps : List Pact) → CommitsFor a (OfBatch k) (map (done_pact k h) ps) (h.placed a) (keys_in (h.long a))
batch_commits k a h ps = elim (cases_Bool (is_key_among (OfBatch k) (keys_in (h.long a)))) [
  | inl e ↦ Came e (batch_for k a h ps)
  | inr e ↦ NotCame (batch_for k a h ps ∙ batch_none k a h ps e) (batch_none k a h ps e)
]

abbrev pub act_done : ℕ → History → Act → Done
act_done c h x = record { who = OfAct x.tid; tid = x.tid; tx = x.tx; place = Rattle.protocol.specs.Verdicts.act_place x.m c; result = x.result; reader = x.reader; views = Rattle.protocol.specs.History.act_view h x }

act_commits : (c a : ℕ) (h : History) (x : Act) → (is_key_among (OfAct x.tid) (keys_in (h.long a)) ≡ true → is_some (Rattle.protocol.specs.History.act_view h x a) ≡ true) → (is_some (Rattle.protocol.specs.History.act_view h x a) ≡ true → is_key_among (OfAct x.tid) (keys_in (h.long a)) ≡ true)
    → (is_placed (OfAct x.tid) (h.placed a) ≡ true → is_key_among (OfAct x.tid) (keys_in (h.long a)) ≡ true) → CommitsFor a (OfAct x.tid) (act_done c h x ∷ []) (h.placed a) (keys_in (h.long a))
act_commits c a h x r n p = elim (cases_Bool (is_key_among (OfAct x.tid) (keys_in (h.long a)))) [
  | inl e ↦ Came e (rw (eq-eqb x.tid x.tid refl, r e) refl)
  | inr e ↦ NotPlaced (false_from_ne_true (is_placed (OfAct x.tid) (h.placed a)) (λ q. true≢false (sym (p q) ∙ e))) (rw (false_from_ne_true (is_some (Rattle.protocol.specs.History.act_view h x a)) (λ q. true≢false (sym (n q) ∙ e))) refl)
]

decided_over : (t c : ℕ) (xs : List Act) → holds lives (act_of t (book.changed_act t (book.decided_as c) xs)) ≡ false
decided_over t c [] = refl
decided_over t c (x ∷ xs) = by (x.tid == t) refl (decided_over t c xs)
  where
    status : (b : Bool) (st : Status) → is_live_status (book.decided_status c b st) ≡ false
    status true Live = refl
    status false Live = refl
    status b (Doomed v) = refl
    status b (Decided d) = refl
    status b (Sealed d) = refl

    by : (b : Bool) → (x.tid == t) ≡ b → holds lives (act_of t (book.changed_act t (book.decided_as c) xs)) ≡ false → holds lives (act_of t (book.change_if b (book.decided_as c) x ∷ book.changed_act t (book.decided_as c) xs)) ≡ false
    by true e h = rw e (status (is_value x.result) x.status)
    by false e h = rw e h

-- ---- over states

all_over : {C : Type 0} (w : Fixed C) (e : Event) (s : Machine C) (next' : ℕ) (kept : List Who) (ds : List Done) → IsAllowed w e s → s.ring.next_tid ≤ next' → AllByRecursion (λ d. IsOver s.ring.next_tid s.book.acts kept d.who) ds → AllByRecursion (λ d. IsOver next' (after w e s).book.acts kept d.who) ds
all_over w e s next' kept ds ok l h = weaker _ _ ds (λ d i. over_same s.ring.next_tid next' s.book.acts (after w e s).book.acts kept d.who l (lived w e s ok) i) h

-- the ACT in the record
decided_for : {C : Type 0} (w : Fixed C) (t c : ℕ) (s : Machine C) (h : History) (x : Act) → MayDecide s h t x → is_live_status x.status ≡ true → ((a : ℕ) → is_key_among (OfAct t) (keys_in (h.long a)) ≡ true → is_some (Rattle.protocol.specs.History.act_view h x a) ≡ true) → Chained s h
    → (a : ℕ) → ChainIs a (reads_who s.book.acts) (h.kept ++ kept_act (Some x)) (h.committed ++ done_act c h (Some x)) (h.placed a) (keys_in (h.long a))
decided_for w t c s h x m live r g a = elim (cases_Bool x.reader) [
  | inl v ↦ lists.reads a (reads_who s.book.acts) (OfAct x.tid) h.kept (kept_act (Some x)) h.committed (act_done c h x) (h.placed a) (keys_in (h.long a)) refl v not_over
      (λ q. or_keys h.kept s.book.acts (OfAct x.tid) (h.long a) (subst (λ z. KeptOrReads h.kept s.book.acts (OfAct z) (h.long a)) (sym m.tid) (m.around v a q))) mine (g.chains a)
  | inr v ↦ lists.commits a (reads_who s.book.acts) (OfAct x.tid) h.kept (kept_act (Some x)) h.committed (act_done c h x ∷ []) (h.placed a) (keys_in (h.long a)) (refl, tt)
      (or_from (is_kept (OfAct x.tid) h.kept || has_done h.committed (OfAct x.tid)) (reads_who s.book.acts (OfAct x.tid)) not_over (ap (λ z. is_reader_act (act_of z s.book.acts)) m.tid ∙ (ap is_reader_act m.is_it ∙ v)))
      (ahead_keys h.kept (OfAct x.tid) (h.long a) (subst (λ z. KeptAhead h.kept (OfAct z) (h.long a)) (sym m.tid) (m.ahead v a))) mine (g.chains a)
]
  where
    lives_now : holds lives (act_of x.tid s.book.acts) ≡ true
    lives_now = subst (λ z. holds lives (act_of z s.book.acts) ≡ true) (sym m.tid) (subst (λ o. holds lives o ≡ true) (sym m.is_it) live)

    not_over : (is_kept (OfAct x.tid) h.kept || has_done h.committed (OfAct x.tid)) ≡ false
    not_over = or_from (is_kept (OfAct x.tid) h.kept) (has_done h.committed (OfAct x.tid)) (subst (λ z. is_kept (OfAct z) h.kept ≡ false) (sym m.tid) m.fresh)
        (no_done (OfAct x.tid) (IsOver s.ring.next_tid s.book.acts h.kept) h.committed (λ q. true≢false (sym lives_now ∙ q.1)) g.over)

    mine : CommitsFor a (OfAct x.tid) (act_done c h x ∷ []) (h.placed a) (keys_in (h.long a))
    mine = act_commits c a h x (λ e. r a (subst (λ z. is_key_among (OfAct z) (keys_in (h.long a)) ≡ true) m.tid e)) (λ e. subst (λ z. is_key_among (OfAct z) (keys_in (h.long a)) ≡ true) (sym m.tid) (m.there a e)) (λ e. g.stands x.tid a lives_now e)

kept_for : {C : Type 0} (w : Fixed C) (e : Event) (s : Machine C) (h : History) → IsAllowed w e s → Owes e s h → LiveStay e s → chain.Assumed e s h → settling.Settling w s → Placed w s h → Tracked w s h → Named s h → Chained s h → ChainedFor (reads_who s.book.acts) (after w e s) (grown w e s h)
unfolding Owes chain.Assumed Tracked conditions after grown
kept_for w (Form k) s h ok o l am st p tr n g = record {
  over = all_over w (Form k) s _ h.kept h.committed ok (omega arith) g.over;
  drawn = λ a. weaker _ _ (h.placed a) (λ y i. drawn_more s.ring.next_tid _ y (omega arith) i) (g.drawn a);
  stands = g.stands;
  chains = g.chains;
}
kept_for w (Admit u) s h ok o l am st p tr n g = record {
  over = all_over w (Admit u) s _ h.kept h.committed ok (omega arith) g.over;
  drawn = λ a. weaker _ _ (h.placed a) (λ y i. drawn_more s.ring.next_tid _ y (omega arith) i) (g.drawn a);
  stands = λ t a q i. elim (act_was w (Admit u) s t q) [ inl v ↦ g.stands t a v i | inr v ↦ absurd (not_low t (h.placed a) (omega (arith, v, eqb-true u s.ring.next_tid ok.0)) i (g.drawn a)) ];
  chains = g.chains;
}
  where
    not_low : (t : ℕ) (ys : List Who) → s.ring.next_tid ≤ t → is_placed (OfAct t) ys ≡ true → AllByRecursion (IsDrawn s.ring.next_tid) ys → ⊥
    not_low t [] v e d = true≢false (sym e)
    not_low t (y ∷ ys) v e d = elim (or_cases (is_who y (OfAct t)) (is_placed (OfAct t) ys) e) [
      | inl q ↦ (omega (arith, v, subst (IsDrawn s.ring.next_tid) (TrackLists.is_who_true y (OfAct t) q) d.0))
      | inr q ↦ not_low t ys v q d.1
    ]
kept_for w (Arrive k a) s h ok o l am st p tr n g = record {
  over = all_over w (Arrive k a) s _ h.kept h.committed ok (omega arith) g.over;
  drawn = beside_carried (λ b ys. AllByRecursion (IsDrawn s.ring.next_tid) ys) a _ h.placed (λ x. all_join _ (h.placed a) _ x (tt, tt)) g.drawn;
  stands = λ t b q i. beside_two (λ b ys rs. StandsAt s.book.acts b ys rs) a _ _ h.placed h.long (λ x. stands_more s.book.acts a (h.placed a) (h.long a) (OfBatch k) x) (λ b t v j. g.stands t b v j) b t (elim (act_was w (Arrive k a) s t q) [ inl v ↦ v | inr v ↦ absurd v ]) i;
  chains = beside_two (λ b ys rs. ChainIs b (reads_who s.book.acts) h.kept h.committed ys (keys_in rs)) a _ _ h.placed h.long (λ x. chain_more a (reads_who s.book.acts) h.kept h.committed (h.placed a) (h.long a) (OfBatch k) (no_done (OfBatch k) (IsOver s.ring.next_tid s.book.acts h.kept) h.committed (λ q. true≢false (sym q ∙ am)) g.over) o x) g.chains;
}
kept_for w (Ask u a) s h ok o l am st p tr n g = record {
  over = all_over w (Ask u a) s _ h.kept h.committed ok (omega arith) g.over;
  drawn = beside_carried (λ b ys. AllByRecursion (IsDrawn s.ring.next_tid) ys) a _ h.placed (drawn (book.in_the_way (lock_of u s.book.acts) (cell_at s a).entries)) g.drawn;
  stands = λ t b q i. beside_two (λ b ys rs. StandsAt s.book.acts b ys rs) a _ _ h.placed h.long (stands (book.in_the_way (lock_of u s.book.acts) (cell_at s a).entries)) (λ b t v j. g.stands t b v j) b t (elim (act_was w (Ask u a) s t q) [ inl v ↦ v | inr v ↦ absurd v ]) i;
  chains = beside_two (λ b ys rs. ChainIs b (reads_who s.book.acts) h.kept h.committed ys (keys_in rs)) a _ _ h.placed h.long (chains (book.in_the_way (lock_of u s.book.acts) (cell_at s a).entries)) g.chains;
}
  where
    low : u < s.ring.next_tid
    low =
        let x = one_is lives (act_of u s.book.acts) o in
        let f = all_found (λ x. IsNamed s.ring.next_tid h.owners h.trails (OfAct x.tid) x.tid x.tx) (λ x. x.tid == u) s.book.acts x.0 n.acts x.1 in
        omega (arith, f.0.low, eqb-true x.0.tid u f.1)

    not_key : is_key_among (OfAct u) (keys_in (h.long a)) ≡ false
    not_key = subst (λ ks. is_key_among (OfAct u) ks ≡ false) (tr a).stands (act_not_among u (cell_at s a).entries (held (λ c. not (has_act u c.entries)) s.cells a no_cell ok.1.1.0))

    drawn : (v : Option ℕ) → AllByRecursion (IsDrawn s.ring.next_tid) (h.placed a) → AllByRecursion (IsDrawn s.ring.next_tid) (h.placed a ++ asks u v)
    drawn None x = all_join (IsDrawn s.ring.next_tid) (h.placed a) (OfAct u ∷ []) x (low, tt)
    drawn (Some older) x = rw (append-nil (h.placed a)) x

    stands : (v : Option ℕ) → StandsAt s.book.acts a (h.placed a) (h.long a) → StandsAt s.book.acts a (h.placed a ++ asks u v) (h.long a ++ map not_run (asks u v))
    stands None x = stands_more s.book.acts a (h.placed a) (h.long a) (OfAct u) x
    stands (Some older) x = rw (append-nil (h.placed a), append-nil (h.long a)) x

    chains : (v : Option ℕ) → ChainIs a (reads_who s.book.acts) h.kept h.committed (h.placed a) (keys_in (h.long a)) → ChainIs a (reads_who s.book.acts) h.kept h.committed (h.placed a ++ asks u v) (keys_in (h.long a ++ map not_run (asks u v)))
    chains None x = chain_more a (reads_who s.book.acts) h.kept h.committed (h.placed a) (h.long a) (OfAct u)
        (no_done (OfAct u) (IsOver s.ring.next_tid s.book.acts h.kept) h.committed (λ q. true≢false (sym o ∙ q.1)) g.over)
        (false_from_ne_true (is_placed (OfAct u) (h.placed a)) (λ q. true≢false (sym (g.stands u a o q) ∙ not_key))) x
    chains (Some older) x = rw (append-nil (h.placed a), append-nil (h.long a)) x
kept_for w (Run u a) s h ok o l am st p tr n g = record {
  over = all_over w (Run u a) s _ h.kept h.committed ok (omega arith) g.over;
  drawn = g.drawn;
  stands = λ t b q i. beside_carried (λ b rs. StandsAt s.book.acts b (h.placed b) rs) a _ h.long (λ x t v j. subst (λ ks. is_key_among (OfAct t) ks ≡ true) (sym (keys_on (cell.reads_on u (cell_at s a).entries) _ _ (h.long a))) (x t v j)) (λ b t v j. g.stands t b v j) b t q i;
  chains = beside_carried (λ b rs. ChainIs b (reads_who s.book.acts) h.kept h.committed (h.placed b) (keys_in rs)) a _ h.long (λ x. subst (λ ks. ChainIs a (reads_who s.book.acts) h.kept h.committed (h.placed a) ks) (sym (keys_on (cell.reads_on u (cell_at s a).entries) _ _ (h.long a))) x) g.chains;
}
kept_for w (Complete k a) s h ok o l am st p tr n g = record {
  over = all_over w (Complete k a) s _ h.kept h.committed ok (omega arith) g.over;
  drawn = g.drawn;
  stands = λ t b q i. beside_carried (λ b rs. StandsAt s.book.acts b (h.placed b) rs) a _ h.long (λ x t v j. subst (λ ks. is_key_among (OfAct t) ks ≡ true) (sym (TrackLists.keys_completed k (h.long a))) (lists.among_completed k (OfAct t) (keys_in (h.long a)) ∙ x t v j)) (λ b t v j. g.stands t b v j) b t q i;
  chains = beside_carried (λ b rs. ChainIs b (reads_who s.book.acts) h.kept h.committed (h.placed b) (keys_in rs)) a _ h.long (λ x. subst (λ ks. ChainIs a (reads_who s.book.acts) h.kept h.committed (h.placed a) ks) (sym (TrackLists.keys_completed k (h.long a))) (lists.completes a (reads_who s.book.acts) h.kept h.committed (h.placed a) (keys_in (h.long a)) k x)) g.chains;
}
kept_for w (Commit k) s h ok o l am st p tr n g =
    let b = am.0 in
    let m = am.1 in
    record {
      over = all_join _ h.committed _ (weaker _ _ h.committed (λ d i. over_more s.ring.next_tid s.ring.next_tid s.book.acts s.book.acts h.kept (OfBatch k ∷ []) d.who (omega arith) (λ t v q. q) i) g.over) (new_over (batch_of k s.desk.batches));
      drawn = g.drawn;
      stands = g.stands;
      chains = λ a. subst (λ z. ChainIs a (reads_who s.book.acts) (h.kept ++ OfBatch k ∷ []) (h.committed ++ done_batch k h z) (h.placed a) (keys_in (h.long a))) (sym m.is_it)
          (lists.commits a (reads_who s.book.acts) (OfBatch k) h.kept (OfBatch k ∷ []) h.committed (map (done_pact k h) b.pacts) (h.placed a) (keys_in (h.long a)) (batch_of_it k h b.pacts)
          (or_from (is_kept (OfBatch k) h.kept || has_done h.committed (OfBatch k)) false (or_from (is_kept (OfBatch k) h.kept) (has_done h.committed (OfBatch k)) m.fresh (no_done (OfBatch k) (IsOver s.ring.next_tid s.book.acts h.kept) h.committed (λ q. true≢false (sym q ∙ m.fresh)) g.over)) refl)
          (ahead_keys h.kept (OfBatch k) (h.long a) (m.ahead a)) (batch_commits k a h b.pacts) (g.chains a));
    }
  where
    now_kept : (kept : List Who) → is_kept (OfBatch k) (kept ++ OfBatch k ∷ []) ≡ true
    now_kept [] = or_left (k == k) false (eq-eqb k k refl)
    now_kept (y ∷ ys) = or_right (is_who y (OfBatch k)) _ (now_kept ys)

    each : (ps : List Pact) → AllByRecursion (λ d. IsOver s.ring.next_tid s.book.acts (h.kept ++ OfBatch k ∷ []) d.who) (map (done_pact k h) ps)
    each [] = tt
    each (q ∷ qs) = (now_kept h.kept, each qs)

    new_over : (z : Option Batch) → AllByRecursion (λ d. IsOver s.ring.next_tid s.book.acts (h.kept ++ OfBatch k ∷ []) d.who) (done_batch k h z)
    new_over None = tt
    new_over (Some b) = each b.pacts
kept_for w (Decide u) s h ok o l am st p tr n g =
    let x = am.0 in
    let m = am.1 in
    let live : is_live_status x.status ≡ true = (and_parts (is_some x.result) (is_live_status x.status) (subst (λ z. holds (λ x. is_some x.result && is_live_status x.status) z ≡ true) m.is_it ok.0)).1 in
    record {
      over = all_join _ h.committed _ (weaker _ _ h.committed (λ d i. over_more s.ring.next_tid s.ring.next_tid s.book.acts _ h.kept (kept_act (act_of u s.book.acts)) d.who (omega arith) (λ t v q. lived w (Decide u) s ok t v q) i) g.over)
          (subst (λ z. AllByRecursion (λ d. IsOver s.ring.next_tid (book.changed_act u (book.decided_as s.book.next_c) s.book.acts) (h.kept ++ kept_act (act_of u s.book.acts)) d.who) (done_act s.book.next_c h z)) (sym m.is_it)
          (subst (λ z. (z < s.ring.next_tid) × (holds lives (act_of z (book.changed_act u (book.decided_as s.book.next_c) s.book.acts)) ≡ false)) (sym m.tid) (low x m, decided_over u s.book.next_c s.book.acts), tt));
      drawn = g.drawn;
      stands = λ t a q i. g.stands t a (elim (act_was w (Decide u) s t q) [ inl v ↦ v | inr v ↦ absurd v ]) i;
      chains = λ a. subst (λ z. ChainIs a (reads_who s.book.acts) (h.kept ++ kept_act z) (h.committed ++ done_act s.book.next_c h z) (h.placed a) (keys_in (h.long a))) (sym m.is_it) (decided_for w u s.book.next_c s h x m live (o x m.is_it) g a);
    }
  where
    low : (x : Act) → MayDecide s h u x → u < s.ring.next_tid
    low x m =
        let f = all_found (λ x. IsNamed s.ring.next_tid h.owners h.trails (OfAct x.tid) x.tid x.tx) (λ x. x.tid == u) s.book.acts x n.acts m.is_it in
        omega (arith, f.0.low, m.tid)
kept_for w (Rollback a) s h ok o l am st p tr n g = record {
  over = all_over w (Rollback a) s _ h.kept h.committed ok (omega arith) g.over;
  drawn = g.drawn;
  stands = λ t b q i. beside_carried (λ b rs. StandsAt s.book.acts b (h.placed b) rs) a _ h.long
      (λ x t v j. subst (λ ks. is_key_among (OfAct t) ks ≡ true) (sym (TrackLists.keys_long_staying s.book.cascades (h.long a))) (still_staying s.book.cascades (OfAct t) (keys_in (h.long a)) (x t v j) (stays_ahead w s h (OfAct t) t a st p tr l (rw (eq-eqb t t refl) v))))
      (λ b t v j. g.stands t b v j) b t q i;
  chains = beside_carried (λ b rs. ChainIs b (reads_who s.book.acts) h.kept h.committed (h.placed b) (keys_in rs)) a _ h.long (λ x. subst (λ ks. ChainIs a (reads_who s.book.acts) h.kept h.committed (h.placed a) ks) (sym (TrackLists.keys_long_staying s.book.cascades (h.long a))) (lists.stays a (reads_who s.book.acts) h.kept h.committed (h.placed a) (keys_in (h.long a)) s.book.cascades x)) g.chains;
}
kept_for w (Finish u a) s h ok o l am st p tr n g = record {
  over = all_over w (Finish u a) s _ h.kept h.committed ok (omega arith) g.over;
  drawn = g.drawn;
  stands = λ t b q i. beside_carried (λ b rs. StandsAt s.book.acts b (h.placed b) rs) a _ h.long
      (λ x t v j. subst (λ ks. is_key_among (OfAct t) ks ≡ true) (sym (finish_keys u (is_traceless (act_of u s.book.acts)) (h.long a))) (still_without (OfAct u) (OfAct t) (keys_in (h.long a)) (finishes_other s u t (OfAct t) ok.0 (rw (eq-eqb t t refl) v)) (x t v j)))
      (λ b t v j. g.stands t b v j) b t (elim (act_was w (Finish u a) s t q) [ inl v ↦ v | inr v ↦ absurd v ]) i;
  chains = beside_carried (λ b rs. ChainIs b (reads_who s.book.acts) h.kept h.committed (h.placed b) (keys_in rs)) a _ h.long (λ x. subst (λ ks. ChainIs a (reads_who s.book.acts) h.kept h.committed (h.placed a) ks) (sym (finish_keys u (is_traceless (act_of u s.book.acts)) (h.long a))) (lists.leaves a (reads_who s.book.acts) h.kept h.committed (h.placed a) (keys_in (h.long a)) (OfAct u) x)) g.chains;
}
kept_for w (Trim k a) s h ok o l am st p tr n g = record {
  over = all_over w (Trim k a) s _ h.kept h.committed ok (omega arith) g.over;
  drawn = g.drawn;
  stands = λ t b q i. beside_carried (λ b rs. StandsAt s.book.acts b (h.placed b) rs) a _ h.long
      (λ x t v j. subst (λ ks. is_key_among (OfAct t) ks ≡ true) (sym (TrackLists.keys_left (OfBatch k) (h.long a))) (still_without (OfBatch k) (OfAct t) (keys_in (h.long a)) refl (x t v j)))
      (λ b t v j. g.stands t b v j) b t q i;
  chains = beside_carried (λ b rs. ChainIs b (reads_who s.book.acts) h.kept h.committed (h.placed b) (keys_in rs)) a _ h.long (λ x. subst (λ ks. ChainIs a (reads_who s.book.acts) h.kept h.committed (h.placed a) ks) (sym (TrackLists.keys_left (OfBatch k) (h.long a))) (lists.leaves a (reads_who s.book.acts) h.kept h.committed (h.placed a) (keys_in (h.long a)) (OfBatch k) x)) g.chains;
}
kept_for w e s h ok o l am st p tr n g = record {
  over = all_over w e s _ h.kept h.committed ok (omega arith) g.over;
  drawn = g.drawn;
  stands = λ t a q i. g.stands t a (elim (act_was w e s t q) [ inl v ↦ v | inr v ↦ absurd v ]) i;
  chains = g.chains;
}

-- the book's readers stay so
pub kept : {C : Type 0} (w : Fixed C) (e : Event) (s : Machine C) (h : History) → IsAllowed w e s → Owes e s h → LiveStay e s → chain.Assumed e s h → settling.Settling w s → Placed w s h → Tracked w s h → Named s h → Chained s h → Chained (after w e s) (grown w e s h)
kept w e s h ok o l am st p tr n g =
    let k = kept_for w e s h ok o l am st p tr n g in
    record {
      over = k.over;
      drawn = k.drawn;
      stands = k.stands;
      chains = λ a. lists.later a (reads_who s.book.acts) (reads_who (after w e s).book.acts) (grown w e s h).kept (grown w e s h).committed ((grown w e s h).placed a) (keys_in ((grown w e s h).long a)) stays (k.chains a);
    }
  where
    stays : (y : Who) → reads_who s.book.acts y ≡ true → reads_who (after w e s).book.acts y ≡ true
    stays (OfBatch k) q = q
    stays (OfAct t) q = grown_holds (λ x. x.reader) s.book.acts (after w e s).book.acts t (λ x y k q. k.reader ∙ q) (acts_grow w e s) q
