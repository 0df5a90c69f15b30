-- By each event, what is listed of what is under way tells what is new there.
use Rattle.std.specs.Prelude.{◌≡◌, ◌↔◌, refl, ℕ, zero, suc, ◌≤◌, ◌==◌, not, Bool, true, false, ◌&&◌, ◌||◌, if◌then◌else◌, is_some, Option, Some, None, List, [], ◌∷◌, ◌++◌, map, filter, slice_get, slice_set, slice_index_or, Contains}
use Rattle.std.specs.Option.{option_map}
use Rattle.std.specs.List.{list_any, AllByRecursion}
use Rattle.std.proofs.Common.{sym, ap, subst, inl, inr, ◌∙◌}
use Rattle.std.proofs.lemmas.Bool.{true≢false, and_parts, eqb-true, eq-eqb, cases_Bool}
use Rattle.std.proofs.lemmas.List.Elements.{Contains-append_left, Contains-append_right}
use Rattle.std.proofs.lemmas.Option.{same_Some}
use Rattle.aml_slice.specs.Controls.{Rest}
use Rattle.protocol.specs.Conditions.{IsAllowed, conditions, epoch, is_given_up, refusal}
use Rattle.protocol.specs.Effects.{after, cell_at, no_cell}
use Rattle.protocol.specs.Events.{Event, Submit, Pass, Form, Admit, Arrive, Ask, Take, Run, Send, End, Close, Complete, Sync, Note, Commit, Settle, Abort, Rollback, DropSub, DropControl, Prepare, Vouch, Decide, Seal, Finish, Reply, Trim}
use Rattle.protocol.specs.Fixed.{Fixed}
use Rattle.protocol.specs.OnBook.{asked_acts, batch_arrived, change_if, changed_act, doomed_by, has_left, joins, lowered, marked, new_pairs, tids_on}
use Rattle.protocol.specs.OnPost.{sub_taken}
use Rattle.protocol.specs.OnRing.{next_pacts}
use Rattle.protocol.specs.OnCell.{act_entries, act_left, act_placed, batch_entries, batch_left, batch_placed}
use Rattle.protocol.specs.Numbers.{times}
use Rattle.protocol.specs.Parts.{Act, Book, Doomed, Entry, BatchEntry, ActEntry, Who, OfBatch, OfAct, SubBatch, ControlMessage, Post, Cell, Machine}
use Rattle.protocol.specs.Rivals.{Lock}
use Rattle.protocol.specs.Spread.{raised}
use Rattle.protocol.specs.Verdicts.{died}
use Rattle.snap_base.specs.declared.verdicts.Verdict.{Verdict}
use Rattle.snap_base.proofs.Options.{is_no_none}
use Rattle.snap_base.proofs.Booleans.{either_way}
use Rattle.protocol.specs.Words.{act_of, control_of, has_control_to, has_entry, holds, is_act_entry, is_batch_entry, is_entry_of, is_doomed, is_live_status, lock_of, sub_of, without_control, without_sub, has_act}
use Rattle.protocol_ready.specs.Telling.{PostTells}
use Rattle.protocol_ready.specs.Touched.{is_touched, changes_who, changes_doom}
use Rattle.protocol_ready.proofs.Listing.{held, found_in}
use Rattle.protocol_ready.proofs.TouchedListed.{no}
use Rattle.protocol_ready.proofs.TouchedParts.{find_filter}
use Rattle.snap_hand.specs.Hands.{Parts}
use Rattle.ready_news.specs.New.{IsBehind, is_new}
use Rattle.ready_news.specs.InBook.{only}
use Rattle.ready_news.specs.InPost.{arrivals_to, comes_behind, comings_to, followers, formed_listed, given_up_drops, goes_to, is_at, of_drops, of_post, of_sent, on_control, takes_by}
use Rattle.ready_listing.specs.Listed.{on_post}
use Rattle.ready_news.proofs.Common.{Among, new_is_touched, new_is_allowed, new_was_refused}
use Rattle.ready_news.proofs.AfterRuns.{Holding, IsOwn, on_schedule}
use Rattle.ready_news.proofs.Asking.{behind_at, group_at, older_at}
use Rattle.ready_news.proofs.GivenUp.{Known, arrival_fallen, ask_fallen}
use Rattle.ready_news.proofs.NewBatches.{AreDrawn, are_drawn, formed_arrives, formed_asks, formed_drops, formed_drops_sub, formed_takes}
use Rattle.ready_news.proofs.InPost.{AreShown, left_or, find_gone, goes_where, let_in, nowhere, arrival_in, ask_in_control, coming_in, drop_in_control, take_in_control, where_so, all_subs, all_controls, all_drops, holds_back, crossed_back, raised_back, changed_back, follower_in}
use Rattle.ready_news.proofs.NewDrops.{IsGivenUp, all_are, crossed_found, fallen_dropped, joined_doom, lowered_doom}

-- ---- what was taken is gone, and the rest is there

gone_control : (u t : ℕ) (cs : List (ControlMessage Rest)) → (u == t) ≡ true → control_of t (without_control u cs) ≡ None
gone_control u t cs e = subst (λ n. control_of n (without_control u cs) ≡ None) (eqb-true u t e) (find_gone (λ m. m.tid == u) cs)

gone_sub : (j b k a : ℕ) (subs : List SubBatch) → ((j == k) && (b == a)) ≡ true → sub_of k a (without_sub j b subs) ≡ None
gone_sub j b k a subs e =
    let q = and_parts (j == k) (b == a) e in
    subst (λ n. sub_of n a (without_sub j b subs) ≡ None) (eqb-true j k q.0) (subst (λ n. sub_of j n (without_sub j b subs) ≡ None) (eqb-true b a q.1) (find_gone (λ m. (m.bid == j) && (m.actor == b)) subs))

others_stay : (u t : ℕ) (cs : List (ControlMessage Rest)) → (u == t) ≡ false → control_of t (without_control u cs) ≡ control_of t cs
others_stay u t cs e = find_filter (λ m. m.tid == t) (λ m. not (m.tid == u)) cs (λ m h. by m h (m.tid == u) refl)
  where
    by : (m : ControlMessage Rest) → (m.tid == t) ≡ true → (b : Bool) → (m.tid == u) ≡ b → not b ≡ true
    by m h true g = absurd (true≢false (sym (eq-eqb u t (sym (eqb-true m.tid u g) ∙ eqb-true m.tid t h)) ∙ e))
    by m h false g = refl

-- a change of one ACT gives no other up
others_doom : (u : ℕ) (v : Verdict) (t : ℕ) (acts : List Act) → (u == t) ≡ false → IsGivenUp t (changed_act u (doomed_by v) acts) → IsGivenUp t acts
others_doom u v t [] other h = h
others_doom u v t (x ∷ xs) other h = by (x.tid == u) refl h (others_doom u v t xs other)
  where
    pick : (c : Bool) → holds (λ x. is_doomed x.status) (if c then Some x else act_of t (changed_act u (doomed_by v) xs)) ≡ true → (IsGivenUp t (changed_act u (doomed_by v) xs) → IsGivenUp t xs) → holds (λ x. is_doomed x.status) (if c then Some x else act_of t xs) ≡ true
    pick true g rest = g
    pick false g rest = rest g

    by : (c : Bool) → (x.tid == u) ≡ c → IsGivenUp t (change_if c (doomed_by v) x ∷ changed_act u (doomed_by v) xs) → (IsGivenUp t (changed_act u (doomed_by v) xs) → IsGivenUp t xs) → IsGivenUp t (x ∷ xs)
    by true e g rest =
        let none : (x.tid == t) ≡ false = ap (λ n. n == t) (eqb-true x.tid u e) ∙ other in
        let past = subst (λ c. holds (λ x. is_doomed x.status) (if c then Some (doomed_by v x) else act_of t (changed_act u (doomed_by v) xs)) ≡ true) none g in
        subst (λ c. holds (λ x. is_doomed x.status) (if c then Some x else act_of t xs) ≡ true) (sym none) (rest past)
    by false e g rest = pick (x.tid == t) g rest

taken_back : (u t a : ℕ) (cs : List (ControlMessage Rest)) → has_control_to t a (without_control u cs) ≡ true → has_control_to t a cs ≡ true
taken_back u t a cs h = elim (cases_Bool (u == t)) [
  | inl e ↦ absurd (nowhere (λ m. m.to == a) (control_of t (without_control u cs)) (gone_control u t cs e) h)
  | inr e ↦ subst (λ o. holds (λ m. m.to == a) o ≡ true) (others_stay u t cs e) h
]

-- ---- a cell that changed

set_back : (p : Cell Rest → Bool) (xs : List (Cell Rest)) (i j : ℕ) (y : Cell Rest) → (p y ≡ true → p (slice_index_or xs j no_cell) ≡ true) → holds p (slice_get (slice_set xs j y) i) ≡ true → holds p (slice_get xs i) ≡ true
set_back p [] i j y f h = h
set_back p (x ∷ xs) zero zero y f h = f h
set_back p (x ∷ xs) (suc i) zero y f h = h
set_back p (x ∷ xs) zero (suc j) y f h = h
set_back p (x ∷ xs) (suc i) (suc j) y f h = set_back p xs i j y f h

front_none : {X : Type 0} (p : X → Bool) (xs ys : List X) → not (list_any p (xs ++ ys)) ≡ true → not (list_any p xs) ≡ true
front_none p [] ys h = refl
front_none p (x ∷ xs) ys h = by (p x) h (front_none p xs ys)
  where
    by : (b : Bool) → not (b || list_any p (xs ++ ys)) ≡ true → (not (list_any p (xs ++ ys)) ≡ true → not (list_any p xs) ≡ true) → not (b || list_any p xs) ≡ true
    by true g i = g
    by false g i = i g

-- ---- an ACT that may ask could have asked

abbrev Undoomed : ℕ → List Act → Type 0
Undoomed t acts = holds (λ x. not (is_doomed x.status)) (act_of t acts) ≡ true

lowered_back : (k : ℕ) (tids : List ℕ) (t : ℕ) (acts : List Act) → Undoomed t (map (lowered k tids) acts) → Undoomed t acts
lowered_back k tids t acts h = holds_back (λ x. not (is_doomed x.status)) (λ x. x.tid == t) (lowered k tids) (λ x. refl) (λ x g. g) acts h

asked_back : (older : Option ℕ) (group : List Lock) (u b m : ℕ) (bk : Book) (t : ℕ) → Undoomed t (asked_acts older group u b m bk) → Undoomed t bk.acts
asked_back (Some older) group u b m bk t h = changed_back (λ x. not (is_doomed x.status)) u (doomed_by (died b older u)) (λ x. refl) (λ x g. by x (is_live_status x.status) g) t bk.acts h
  where
    by : (x : Act) (c : Bool) → not (is_doomed (if c then Doomed (died b older u) else x.status)) ≡ true → not (is_doomed x.status) ≡ true
    by x true g = no g
    by x false g = g
asked_back None group u b m bk t h =
    let pairs = bk.pairs ++ new_pairs u b group bk.acts in
    changed_back (λ x. not (is_doomed x.status)) u (joins b m) (λ x. refl) (λ x g. g) t bk.acts (raised_back (λ x. not (is_doomed x.status)) (λ x k g. g) pairs t (changed_act u (joins b m) bk.acts) (crossed_back b t (raised pairs (changed_act u (joins b m) bk.acts)) h))

arrive_asks : (w : Fixed Rest) (k b : ℕ) (s : Machine Rest) (t a : ℕ) → IsAllowed w (Ask t a) (after w (Arrive k b) s) → IsAllowed w (Ask t a) s
unfolding conditions after
arrive_asks w k b s t a c = (c.0, (lowered_back k (tids_on (cell_at s b).entries) t s.book.acts (crossed_back b t (map (lowered k (tids_on (cell_at s b).entries)) s.book.acts) c.1.0), (set_back (λ c. not (has_act t c.entries)) s.cells a b (batch_placed k (sub_of k b s.post.subs) (cell_at s b)) (front_none (is_act_entry t) (cell_at s b).entries (batch_entries k (sub_of k b s.post.subs))) c.1.1.0, (set_back (λ c. c.epoch == epoch s.book) s.cells a b (batch_placed k (sub_of k b s.post.subs) (cell_at s b)) (λ g. g) c.1.1.1.0, tt))))

ask_asks : (w : Fixed Rest) (u b : ℕ) (s : Machine Rest) (t a : ℕ) → IsAllowed w (Ask t a) (after w (Ask u b) s) → IsAllowed w (Ask t a) s
unfolding conditions after
ask_asks w u b s t a c = (taken_back u t a s.post.controls c.0, (asked_back (older_at u b s) (group_at u b s) u b _ s.book t c.1.0, (set_back (λ c. not (has_act t c.entries)) s.cells a b (act_placed (lock_of u s.book.acts) (older_at u b s) (control_of u s.post.controls) (cell_at s b)) (front_none (is_act_entry t) (cell_at s b).entries (act_entries (lock_of u s.book.acts) (older_at u b s))) c.1.1.0, (set_back (λ c. c.epoch == epoch s.book) s.cells a b (act_placed (lock_of u s.book.acts) (older_at u b s) (control_of u s.post.controls) (cell_at s b)) (λ g. g) c.1.1.1.0, tt))))

-- ---- a control that may be taken, and an ACT that may ask, where entries come or go

any_front : {X : Type 0} (p : X → Bool) (xs ys : List X) → list_any p ys ≡ false → list_any p (xs ++ ys) ≡ true → list_any p xs ≡ true
any_front p [] ys none h = absurd (true≢false (sym h ∙ none))
any_front p (x ∷ xs) ys none h = by (p x) h (any_front p xs ys none)
  where
    by : (b : Bool) → (b || list_any p (xs ++ ys)) ≡ true → (list_any p (xs ++ ys) ≡ true → list_any p xs ≡ true) → (b || list_any p xs) ≡ true
    by true g i = refl
    by false g i = i g

any_filter : {X : Type 0} (p q : X → Bool) (xs : List X) → list_any p (filter q xs) ≡ true → list_any p xs ≡ true
any_filter p q [] h = h
any_filter p q (x ∷ xs) h = by (q x) (p x) refl h (any_filter p q xs)
  where
    by : (c b : Bool) → p x ≡ b → list_any p (if c then x ∷ filter q xs else filter q xs) ≡ true → (list_any p (filter q xs) ≡ true → list_any p xs ≡ true) → (b || list_any p xs) ≡ true
    by c true f g i = refl
    by true false f g i = i (subst (λ v. (v || list_any p (filter q xs)) ≡ true) f g)
    by false false f g i = i g

none_filter : {X : Type 0} (p q : X → Bool) (xs : List X) → ((x : X) → p x ≡ true → q x ≡ true) → not (list_any p (filter q xs)) ≡ true → not (list_any p xs) ≡ true
none_filter p q [] keeps h = refl
none_filter p q (x ∷ xs) keeps h = by (q x) refl (p x) refl h (none_filter p q xs keeps)
  where
    by : (c : Bool) → q x ≡ c → (b : Bool) → p x ≡ b → not (list_any p (if c then x ∷ filter q xs else filter q xs)) ≡ true → (not (list_any p (filter q xs)) ≡ true → not (list_any p xs) ≡ true) → not (b || list_any p xs) ≡ true
    by true e true f g i = absurd (true≢false (sym g ∙ ap (λ v. not (v || list_any p (filter q xs))) f))
    by true e false f g i = i (subst (λ v. not (v || list_any p (filter q xs)) ≡ true) f g)
    by false e true f g i = absurd (true≢false (sym (keeps x f) ∙ e))
    by false e false f g i = i g

other_act : (x : Lock) (t : ℕ) (older : Option ℕ) → (x.tid == t) ≡ false → list_any (is_entry_of t) (act_entries x older) ≡ false
other_act x t None e = rw e refl
other_act x t (Some o) e = refl

ask_takes : (w : Fixed Rest) (u b : ℕ) (s : Machine Rest) (t a : ℕ) → (u == t) ≡ false → IsAllowed w (Take t a) (after w (Ask u b) s) → IsAllowed w (Take t a) s
unfolding conditions after
ask_takes w u b s t a e c = (taken_back u t a s.post.controls c.0, (set_back (λ c. has_entry t c.entries) s.cells a b (act_placed (lock_of u s.book.acts) (older_at u b s) (control_of u s.post.controls) (cell_at s b)) (any_front (is_entry_of t) (cell_at s b).entries (act_entries (lock_of u s.book.acts) (older_at u b s)) (other_act (lock_of u s.book.acts) t (older_at u b s) e)) c.1.0, tt))

finish_takes : (w : Fixed Rest) (u b : ℕ) (s : Machine Rest) (t a : ℕ) → IsAllowed w (Take t a) (after w (Finish u b) s) → IsAllowed w (Take t a) s
unfolding conditions after
finish_takes w u b s t a c = (c.0, (set_back (λ c. has_entry t c.entries) s.cells a b (act_left u (act_of u s.book.acts) (cell_at s b)) (any_filter (is_entry_of t) (λ e. not (is_act_entry u e)) (cell_at s b).entries) c.1.0, tt))

trim_takes : (w : Fixed Rest) (k b : ℕ) (s : Machine Rest) (t a : ℕ) → IsAllowed w (Take t a) (after w (Trim k b) s) → IsAllowed w (Take t a) s
unfolding conditions after
trim_takes w k b s t a c = (c.0, (set_back (λ c. has_entry t c.entries) s.cells a b (batch_left k (cell_at s b)) (any_filter (is_entry_of t) (λ e. not (is_batch_entry k e)) (cell_at s b).entries) c.1.0, tt))

act_stays : (k t : ℕ) (e : Entry) → is_act_entry t e ≡ true → not (is_batch_entry k e) ≡ true
act_stays k t (BatchEntry b) h = no h
act_stays k t (ActEntry x) h = refl

other_stays : (u t : ℕ) → (u == t) ≡ false → (e : Entry) → is_act_entry t e ≡ true → not (is_act_entry u e) ≡ true
other_stays u t n (BatchEntry b) h = no h
other_stays u t n (ActEntry x) h = by (x.tid == u) refl
  where
    by : (b : Bool) → (x.tid == u) ≡ b → not b ≡ true
    by true e = absurd (true≢false (sym (eq-eqb u t (sym (eqb-true x.tid u e) ∙ eqb-true x.tid t h)) ∙ n))
    by false e = refl

trim_asks : (w : Fixed Rest) (k b : ℕ) (s : Machine Rest) (t a : ℕ) → IsAllowed w (Ask t a) (after w (Trim k b) s) → IsAllowed w (Ask t a) s
unfolding conditions after
trim_asks w k b s t a c = (c.0, (c.1.0, (set_back (λ c. not (has_act t c.entries)) s.cells a b (batch_left k (cell_at s b)) (none_filter (is_act_entry t) (λ e. not (is_batch_entry k e)) (cell_at s b).entries (act_stays k t)) c.1.1.0, (set_back (λ c. c.epoch == epoch s.book) s.cells a b (batch_left k (cell_at s b)) (λ g. g) c.1.1.1.0, tt))))

finish_asks : (w : Fixed Rest) (u b : ℕ) (s : Machine Rest) (t a : ℕ) → (u == t) ≡ false → IsAllowed w (Ask t a) (after w (Finish u b) s) → IsAllowed w (Ask t a) s
unfolding conditions after
finish_asks w u b s t a n c = (c.0, (changed_back (λ x. not (is_doomed x.status)) u (marked b has_left) (λ x. refl) (λ x g. g) t s.book.acts c.1.0, (set_back (λ c. not (has_act t c.entries)) s.cells a b (act_left u (act_of u s.book.acts) (cell_at s b)) (none_filter (is_act_entry t) (λ e. not (is_act_entry u e)) (cell_at s b).entries (other_stays u t n)) c.1.1.0, (set_back (λ c. c.epoch == epoch s.book) s.cells a b (act_left u (act_of u s.book.acts) (cell_at s b)) (λ g. g) c.1.1.1.0, tt))))

-- ---- whose control it is

pub not_who : (e : Event) (s : Machine Rest) (o : Option (ControlMessage Rest)) → ((t : ℕ) → changes_doom e s t ≡ false) → holds (λ m. changes_who e s m.who) o ≡ true → ⊥
not_who e s None quiet h = true≢false (sym h)
not_who e s (Some m) quiet h = by m.who h
  where
    by : (who : Who) → changes_who e s who ≡ true → ⊥
    by (OfBatch k) g = true≢false (sym g)
    by (OfAct t) g = true≢false (sym g ∙ quiet t)

-- ---- by event

-- what is known of the events that are asked for
pub record Asks (asked : Event → Bool) (w : Fixed Rest) (s : Machine Rest) (e : Event) : Type 0 where
  pub touched : (f : Event) → asked f ≡ true → is_touched w e s f ≡ true
  pub allowed : (f : Event) → asked f ≡ true → IsAllowed w f (after w e s)
  pub refused : (f : Event) → asked f ≡ true → IsAllowed w f s → ⊥

pub asks_of : (w : Fixed Rest) (e : Event) (s : Machine Rest) → ((w : Fixed Rest) (e : Event) (s : Machine Rest) → (refusal w e s ≡ 0) ↔ IsAllowed w e s) → Asks (is_new w e s) w s e
asks_of w e s ruled = record {
  touched = λ f q. new_is_touched w e s f q;
  allowed = λ f q. new_is_allowed w e s f q ruled;
  refused = λ f q a. true≢false (sym (eq-eqb (refusal w f s) 0 ((ruled w f s).1 a)) ∙ new_was_refused w e s f q);
}

-- what is known of the event: it was allowed, all numbers were drawn, and these cells are the actors' after it
pub record Around (w : Fixed Rest) (s : Machine Rest) (e : Event) (cells : List (Option (Cell Rest))) : Type 0 where
  pub ok : IsAllowed w e s
  pub drawn : AreDrawn s
  pub shown : AreShown cells (after w e s).cells

pub around_of : (w : Fixed Rest) (e : Event) (s : Machine Rest) (h : Parts) → IsBehind w e s h → Around w s e h.cells
around_of w e s h behind = record { ok = behind.allowed; drawn = are_drawn w e s behind.run behind.allowed; shown = behind.fits.cells }

-- one or nothing
pub first_only : (b : Bool) → (b || false) ≡ true → b ≡ true
first_only b h = left_or b false h no

-- ---- an ACT that is given up now, so that its control may be dropped

newly_given_up : (asked : Event → Bool) (w : Fixed Rest) (s : Machine Rest) (e : Event) (t : ℕ) → AllByRecursion IsOwn s.post.controls → Asks asked w s e → asked (DropControl t) ≡ true → control_of t (after w e s).post.controls ≡ control_of t s.post.controls
    → holds (λ m. changes_who e s m.who) (control_of t s.post.controls) ≡ true → IsGivenUp t (after w e s).book.acts × (IsGivenUp t s.book.acts → ⊥)
unfolding conditions
newly_given_up asked w s e t own g q same touched =
    let m = held (λ m. changes_who e s m.who) (control_of t s.post.controls) touched in
    let r = found_in (λ m. m.tid == t) s.post.controls m.it m.is in
    by m.it m.is (eqb-true m.it.tid t r.1) (all_are IsOwn s.post.controls m.it own r.0) m.it.who refl m.does
  where
    by : (m : ControlMessage Rest) → control_of t s.post.controls ≡ Some m → m.tid ≡ t → IsOwn m → (who : Who) → m.who ≡ who → changes_who e s who ≡ true → IsGivenUp t (after w e s).book.acts × (IsGivenUp t s.book.acts → ⊥)
    by m is tid own (OfBatch k) i d = no d
    by m is tid own (OfAct u) i d =
        let who : m.who ≡ OfAct t = i ∙ ap OfAct (own u i ∙ tid) in
        let now = (g.allowed (DropControl t) q).1.0 in (
          subst (λ z. is_given_up z (after w e s).book ≡ true) who (subst (λ o. holds (λ m. is_given_up m.who (after w e s).book) o ≡ true) (same ∙ is) now),
          (λ d. g.refused (DropControl t) q (ap is_some is, (subst (λ o. holds (λ m. is_given_up m.who s.book) o ≡ true) (sym is) (subst (λ z. is_given_up z s.book ≡ true) (sym who) d), tt))),
        )

arrival_dropped : (asked : Event → Bool) (w : Fixed Rest) (s : Machine Rest) (j b t : ℕ) → Holding w s → Holding w (after w (Arrive j b) s) → Asks asked w s (Arrive j b) → asked (DropControl t) ≡ true → Contains (given_up_drops (after w (Arrive j b) s).book) (DropControl t)
unfolding after
arrival_dropped asked w s j b t before later g q =
    let tids = tids_on (cell_at s b).entries in
    let acts = map (lowered j tids) s.book.acts in
    let v = newly_given_up asked w s (Arrive j b) t before.own g q refl (g.touched (DropControl t) q) in
    let f = arrival_fallen s.book.acts before.known j b tids (batch_arrived j b tids s.book) refl later.known.once (λ x among e. before.stand b x.tid x (on_schedule x.tid (cell_at s b).entries among) e)
    (λ x. x.tid == t) (λ y. refl) (crossed_found b t acts v.0 (λ d. v.1 (lowered_doom j tids t s.book.acts d))) in
    fallen_dropped (after w (Arrive j b) s).book t f (later.known.once f.it.tid)

-- what is admitted changes whose control is its own
admitted_own : (s : Machine Rest) (u t : ℕ) → AllByRecursion IsOwn s.post.controls → holds (λ m. changes_who (Admit u) s m.who) (control_of t s.post.controls) ≡ true → (u == t) ≡ true
admitted_own s u t own touched =
    let m = held (λ m. changes_who (Admit u) s m.who) (control_of t s.post.controls) touched in
    let r = found_in (λ m. m.tid == t) s.post.controls m.it m.is in
    by m.it (eqb-true m.it.tid t r.1) (all_are IsOwn s.post.controls m.it own r.0) m.it.who refl m.does
  where
    by : (m : ControlMessage Rest) → m.tid ≡ t → IsOwn m → (who : Who) → m.who ≡ who → changes_who (Admit u) s who ≡ true → (u == t) ≡ true
    by m tid own (OfBatch k) i d = no d
    by m tid own (OfAct n) i d = subst (λ k. (u == k) ≡ true) (own n i ∙ tid) (first_only (u == n) d)

-- who asks and dies is another one, and has no control
asked_dropped : (o : Option ℕ) (group : List Lock) (u a m t : ℕ) (b c : Book) → Known b.acts → c.acts ≡ asked_acts o group u a m b → ((n : ℕ) → times n (map (λ y. y.tid) c.acts) ≤ 1) → (u == t) ≡ false → IsGivenUp t c.acts → (IsGivenUp t b.acts → ⊥) → Contains (given_up_drops c) (DropControl t)
asked_dropped (Some older) group u a m t b c known e once other d n = absurd (n (others_doom u (died a older u) t b.acts other (subst (IsGivenUp t) e d)))
asked_dropped None group u a m t b c known e once other d n =
    let pairs = b.pairs ++ new_pairs u a group b.acts in
    let f = ask_fallen b.acts known pairs u a m c e once (λ x. x.tid == t) (λ y. refl)
    (crossed_found a t (raised pairs (changed_act u (joins a m) b.acts)) (subst (IsGivenUp t) e d) (λ d. n (joined_doom pairs u a m t b.acts d))) in
    fallen_dropped c t f (once f.it.tid)

ask_dropped : (asked : Event → Bool) (w : Fixed Rest) (s : Machine Rest) (u b t : ℕ) → Holding w s → Holding w (after w (Ask u b) s) → Asks asked w s (Ask u b) → asked (DropControl t) ≡ true → (u == t) ≡ false → Contains (given_up_drops (after w (Ask u b) s).book) (DropControl t)
unfolding after
ask_dropped asked w s u b t before later g q other =
    let older = older_at u b s in
    let group = group_at u b s in
    let m = behind_at u b s in
    let touched = either_way (u == t) _ (g.touched (DropControl t) q) (λ e. absurd (true≢false (sym e ∙ other))) (λ x. x) in
    let v = newly_given_up asked w s (Ask u b) t before.own g q (others_stay u t s.post.controls other) touched in
    asked_dropped older group u b m t s.book (after w (Ask u b) s).book before.known refl later.known.once other v.0 v.1

-- ---- a control that a sub-batch lets in

-- the cell that was put in
pub put_there : (xs : List (Cell Rest)) (i : ℕ) (y c : Cell Rest) → slice_get (slice_set xs i y) i ≡ Some c → c ≡ y
put_there [] i y c e = absurd (cc e)
put_there (x ∷ xs) zero y c e = sym (same_Some y c e)
put_there (x ∷ xs) (suc i) y c e = put_there xs i y c e

-- what may come after an arrival comes behind that batch
arrive_follows : (w : Fixed Rest) (j b : ℕ) (s : Machine Rest) (k a : ℕ) → (b == a) ≡ true → IsAllowed w (Arrive k a) (after w (Arrive j b) s) → comes_behind j (after w (Arrive j b) s).post (k, a) ≡ true
unfolding conditions after
arrive_follows w j b s k a e c =
    let y = batch_placed j (sub_of j b s.post.subs) (cell_at s b) in
    let xs = slice_set s.cells b y in
    let m = held (λ (m : SubBatch). holds (λ (z : Cell Rest). m.prev == z.tail) (slice_get xs a)) (sub_of k a (sub_taken j b s.post).subs) c.1.1.1.0 in
    let z = held (λ (z : Cell Rest). m.it.prev == z.tail) (slice_get xs a) m.does in
    let same : z.it ≡ y = put_there s.cells b y z.it (subst (λ n. slice_get xs n ≡ Some z.it) (sym (eqb-true b a e)) z.is) in
    ap (λ (o : Option SubBatch). is_at j (option_map (λ (x : SubBatch). x.prev) o)) m.is ∙ subst (λ n. (m.it.prev == n) ≡ true) (ap (λ (v : Cell Rest). v.tail) same) z.does

let_here : (w : Fixed Rest) (k b : ℕ) (s : Machine Rest) (t : ℕ) (cells : List (Option (Cell Rest))) → AreShown cells (after w (Arrive k b) s).cells → IsAllowed w (Take t b) (after w (Arrive k b) s) → (IsAllowed w (Take t b) s → ⊥)
    → Contains (takes_by k b (slice_get cells b) (after w (Arrive k b) s).post) (Take t b)
unfolding conditions after
let_here w k b s t cells shown c refused = by (slice_get cells b) refl (list_any (is_entry_of t) (batch_entries k (sub_of k b s.post.subs))) refl
  where
    by : (o : Option (Option (Cell Rest))) → slice_get cells b ≡ o → (v : Bool) → list_any (is_entry_of t) (batch_entries k (sub_of k b s.post.subs)) ≡ v → Contains (takes_by k b o (sub_taken k b s.post)) (Take t b)
    by None e v f = coming_in (sub_taken k b s.post) t b b (Take t b) c.0 (eq-eqb b b refl) (inr (inl refl))
    by (Some None) e v f = coming_in (sub_taken k b s.post) t b b (Take t b) c.0 (eq-eqb b b refl) (inr (inl refl))
    by (Some (Some x)) e true f =
        let is = put_there s.cells b (batch_placed k (sub_of k b s.post.subs) (cell_at s b)) x (shown b x e) in
        let_in (sub_taken k b s.post) t k b x (cell_at s b).entries (sub_of k b s.post.subs) (ap (λ z. z.entries) is) c.0 f
    by (Some (Some x)) e false f =
        absurd (refused (c.0, (set_back (λ c. has_entry t c.entries) s.cells b b (batch_placed k (sub_of k b s.post.subs) (cell_at s b)) (any_front (is_entry_of t) (cell_at s b).entries (batch_entries k (sub_of k b s.post.subs)) f) c.1.0, tt)))

arrive_takes : (w : Fixed Rest) (k b : ℕ) (s : Machine Rest) (t a : ℕ) (cells : List (Option (Cell Rest))) → AreShown cells (after w (Arrive k b) s).cells → (b == a) ≡ true → IsAllowed w (Take t a) (after w (Arrive k b) s) → (IsAllowed w (Take t a) s → ⊥)
    → Contains (takes_by k b (slice_get cells b) (after w (Arrive k b) s).post) (Take t a)
arrive_takes w k b s t a cells shown e c refused =
    subst (λ n. IsAllowed w (Take t n) (after w (Arrive k b) s) → (IsAllowed w (Take t n) s → ⊥) → Contains (takes_by k b (slice_get cells b) (after w (Arrive k b) s).post) (Take t n)) (eqb-true b a e)
    (λ c refused. let_here w k b s t cells shown c refused) c refused

-- ---- by event

module _ (asked : Event → Bool) (w : Fixed Rest) (s : Machine Rest) (before : Holding w s) (cells : List (Option (Cell Rest))) (es : List Event) where
  abbrev Told : Event → Type 0
  Told e = Holding w (after w e s) → Asks asked w s e → Around w s e cells → Among (of_post e cells (after w e s).desk (after w e s).post) es → Among (of_sent e cells (after w e s).book (after w e s).post) es → ((t : ℕ) → asked (DropControl t) ≡ true → Contains (of_drops e (after w e s).book) (DropControl t) → Contains es (DropControl t)) → PostTells asked (after w e s).post es

  all_told : (p : Post Rest) → Among (on_post p) es → PostTells asked p es
  all_told p more = record {
    arrive = λ k a q h. more (Arrive k a) (all_subs p k a (Arrive k a) h (inl refl));
    drop_sub = λ k a q h. more (DropSub k a) (all_subs p k a (DropSub k a) h (inr (inl refl)));
    ask = λ t a q h. more (Ask t a) (all_controls p t a (Ask t a) h (inl refl));
    take = λ t a q h. more (Take t a) (all_controls p t a (Take t a) h (inr (inl refl)));
    drop_control = λ t q h. more (DropControl t) (all_drops p t h);
  }

  same_batch : (j k a : ℕ) → (j == k) ≡ true → Contains (formed_listed j (after w (Form j) s).desk) (Arrive j a) → Contains (formed_listed j (after w (Form j) s).desk) (Arrive k a)
  same_batch j k a e c = subst (λ n. Contains (formed_listed j (after w (Form j) s).desk) (Arrive n a)) (eqb-true j k e) c

  form_told : (j : ℕ) → Told (Form j)
  form_told j later g around more sent drops =
      let p = (after w (Form j) s).post in
      record {
        arrive = λ k a q h.
            let e = first_only (j == k) (first_only ((j == k) || false) (g.touched (Arrive k a) q)) in
            more (Arrive k a) (same_batch j k a e (formed_arrives w j s around.ok around.drawn a (subst (λ n. is_some (sub_of n a p.subs) ≡ true) (sym (eqb-true j k e)) h)));
        drop_sub = λ k a q h.
            let e = first_only (j == k) (g.touched (DropSub k a) q) in
            absurd (formed_drops_sub w j s around.ok around.drawn a (subst (λ n. IsAllowed w (DropSub n a) (after w (Form j) s)) (sym (eqb-true j k e)) (g.allowed (DropSub k a) q)));
        ask = λ t a q h. absurd (formed_asks w j s around.ok around.drawn t a (first_only (list_any (λ p. p.tid == t) (next_pacts w.text s.ring)) (g.touched (Ask t a) q)) (g.allowed (Ask t a) q));
        take = λ t a q h. absurd (formed_takes w j s around.ok around.drawn t a (first_only (list_any (λ p. p.tid == t) (next_pacts w.text s.ring)) (g.touched (Take t a) q)) (g.allowed (Take t a) q));
        drop_control = λ t q h.
            either_way (list_any (λ p. p.tid == t) (next_pacts w.text s.ring)) _ (g.touched (DropControl t) q)
            (λ x. absurd (formed_drops w j s around.ok around.drawn t x (g.allowed (DropControl t) q)))
            (λ x. absurd (not_who (Form j) s (control_of t s.post.controls) (λ t. refl) x));
      }

  -- the control of a transaction that may be what it is asked to be
  ask_sent : (e : Event) → Asks asked w s e → Around w s e cells → (t a : ℕ) → asked (Ask t a) ≡ true → Contains (on_control t cells (after w e s).book (after w e s).post) (Ask t a)
  unfolding conditions
  ask_sent e g around t a q =
      let c = g.allowed (Ask t a) q in
      ask_in_control cells (after w e s).book (after w e s).post t a (after w e s).cells around.shown c.0 c.1.0 c.1.1.0

  take_sent : (e : Event) → Asks asked w s e → Around w s e cells → (t a : ℕ) → asked (Take t a) ≡ true → Contains (on_control t cells (after w e s).book (after w e s).post) (Take t a)
  unfolding conditions
  take_sent e g around t a q =
      let c = g.allowed (Take t a) q in
      take_in_control cells (after w e s).book (after w e s).post t a (after w e s).cells around.shown c.0 c.1.0

  drop_sent : (e : Event) → Asks asked w s e → (t : ℕ) → asked (DropControl t) ≡ true → Contains (on_control t cells (after w e s).book (after w e s).post) (DropControl t)
  unfolding conditions
  drop_sent e g t q = drop_in_control cells (after w e s).book (after w e s).post t (g.allowed (DropControl t) q).1.0

  of_one : (e : Event) (u t : ℕ) (f : Event) → (u == t) ≡ true → Contains (on_control t cells (after w e s).book (after w e s).post) f → Contains (on_control u cells (after w e s).book (after w e s).post) f
  of_one e u t f same c = subst (λ n. Contains (on_control n cells (after w e s).book (after w e s).post) f) (sym (eqb-true u t same)) c

  admit_told : (u : ℕ) → Told (Admit u)
  admit_told u later g around more sent drops = record {
    arrive = λ k a q h. no (g.touched (Arrive k a) q);
    drop_sub = λ k a q h. no (g.touched (DropSub k a) q);
    ask = λ t a q h. sent (Ask t a) (of_one (Admit u) u t (Ask t a) (left_or (u == t) _ (g.touched (Ask t a) q) (λ x. first_only (u == t) (first_only ((u == t) || false) x))) (ask_sent (Admit u) g around t a q));
    take = λ t a q h. sent (Take t a) (of_one (Admit u) u t (Take t a) (first_only (u == t) (g.touched (Take t a) q)) (take_sent (Admit u) g around t a q));
    drop_control = λ t q h.
        either_way (u == t) _ (g.touched (DropControl t) q)
        (λ x. sent (DropControl t) (of_one (Admit u) u t (DropControl t) x (drop_sent (Admit u) g t q)))
        (λ x. sent (DropControl t) (of_one (Admit u) u t (DropControl t) (admitted_own s u t before.own x) (drop_sent (Admit u) g t q)));
  }

  arrive_told : (j b : ℕ) → Told (Arrive j b)
  unfolding after
  arrive_told j b later g around more sent drops =
      let p = (after w (Arrive j b) s).post in
      record {
        arrive = λ k a q h.
            let there = either_way ((j == k) && (b == a)) (b == a) (g.touched (Arrive k a) q) (λ x. (and_parts (j == k) (b == a) x).1) (λ x. x) in
            more (Arrive k a) (Contains-append_left (followers j b p) (takes_by j b (slice_get cells b) p) (Arrive k a) (follower_in p j k a b h there (arrive_follows w j b s k a there (g.allowed (Arrive k a) q))));
        drop_sub = λ k a q h. absurd (is_no_none (sub_of k a p.subs) (gone_sub j b k a s.post.subs (g.touched (DropSub k a) q)) h);
        ask = λ t a q h. absurd (g.refused (Ask t a) q (arrive_asks w j b s t a (g.allowed (Ask t a) q)));
        take = λ t a q h. more (Take t a) (Contains-append_right (followers j b p) (takes_by j b (slice_get cells b) p) (Take t a) (arrive_takes w j b s t a cells around.shown (g.touched (Take t a) q) (g.allowed (Take t a) q) (g.refused (Take t a) q)));
        drop_control = λ t q h. drops t q (arrival_dropped asked w s j b t before later g q);
      }

  ask_told : (u b : ℕ) → Told (Ask u b)
  unfolding after
  ask_told u b later g around more sent drops =
      let p = (after w (Ask u b) s).post in
      let gone : (t : ℕ) → (u == t) ≡ true → control_of t p.controls ≡ None = λ t e. gone_control u t s.post.controls e in
      record {
        arrive = λ k a q h. no (g.touched (Arrive k a) q);
        drop_sub = λ k a q h. no (g.touched (DropSub k a) q);
        ask = λ t a q h. absurd (g.refused (Ask t a) q (ask_asks w u b s t a (g.allowed (Ask t a) q)));
        take = λ t a q h. elim (cases_Bool (u == t)) [
          | inl e ↦ absurd (nowhere (λ m. m.to == a) (control_of t p.controls) (gone t e) h)
          | inr e ↦ absurd (g.refused (Take t a) q (ask_takes w u b s t a e (g.allowed (Take t a) q)))
        ];
        drop_control = λ t q h. elim (cases_Bool (u == t)) [
          | inl e ↦ absurd (is_no_none (control_of t p.controls) (gone t e) h)
          | inr e ↦ drops t q (ask_dropped asked w s u b t before later g q e)
        ];
      }

  send_told : (u b : ℕ) → Told (Send u b)
  send_told u b later g around more sent drops = record {
    arrive = λ k a q h. no (g.touched (Arrive k a) q);
    drop_sub = λ k a q h. no (g.touched (DropSub k a) q);
    ask = λ t a q h. sent (Ask t a) (of_one (Send u b) u t (Ask t a) (first_only (u == t) (g.touched (Ask t a) q)) (ask_sent (Send u b) g around t a q));
    take = λ t a q h. sent (Take t a) (of_one (Send u b) u t (Take t a) (first_only (u == t) (g.touched (Take t a) q)) (take_sent (Send u b) g around t a q));
    drop_control = λ t q h.
        either_way (u == t) _ (g.touched (DropControl t) q)
        (λ x. sent (DropControl t) (of_one (Send u b) u t (DropControl t) x (drop_sent (Send u b) g t q)))
        (λ x. absurd (not_who (Send u b) s (control_of t s.post.controls) (λ t. refl) x));
  }

  take_told : (u b : ℕ) → Told (Take u b)
  unfolding after
  take_told u b later g around more sent drops =
      let p = (after w (Take u b) s).post in
      let gone : (t : ℕ) → (u == t) ≡ true → control_of t p.controls ≡ None = λ t e. gone_control u t s.post.controls e in
      record {
        arrive = λ k a q h. no (g.touched (Arrive k a) q);
        drop_sub = λ k a q h. no (g.touched (DropSub k a) q);
        ask = λ t a q h. absurd (nowhere (λ m. m.to == a) (control_of t p.controls) (gone t (first_only (u == t) (g.touched (Ask t a) q))) h);
        take = λ t a q h. absurd (nowhere (λ m. m.to == a) (control_of t p.controls) (gone t (first_only (u == t) (g.touched (Take t a) q))) h);
        drop_control = λ t q h.
            either_way (u == t) _ (g.touched (DropControl t) q)
            (λ x. absurd (is_no_none (control_of t p.controls) (gone t x) h))
            (λ x. absurd (not_who (Take u b) s (control_of t s.post.controls) (λ t. refl) x));
      }

  dropped_told : (u : ℕ) → Told (DropControl u)
  unfolding after
  dropped_told u later g around more sent drops =
      let p = (after w (DropControl u) s).post in
      let gone : (t : ℕ) → (u == t) ≡ true → control_of t p.controls ≡ None = λ t e. gone_control u t s.post.controls e in
      record {
        arrive = λ k a q h. no (g.touched (Arrive k a) q);
        drop_sub = λ k a q h. no (g.touched (DropSub k a) q);
        ask = λ t a q h. absurd (nowhere (λ m. m.to == a) (control_of t p.controls) (gone t (first_only (u == t) (g.touched (Ask t a) q))) h);
        take = λ t a q h. absurd (nowhere (λ m. m.to == a) (control_of t p.controls) (gone t (first_only (u == t) (g.touched (Take t a) q))) h);
        drop_control = λ t q h.
            either_way (u == t) _ (g.touched (DropControl t) q)
            (λ x. absurd (is_no_none (control_of t p.controls) (gone t x) h))
            (λ x. absurd (not_who (DropControl u) s (control_of t s.post.controls) (λ t. refl) x));
      }

  left_told : (j b : ℕ) → Told (DropSub j b)
  unfolding after
  left_told j b later g around more sent drops =
      let p = (after w (DropSub j b) s).post in
      record {
        arrive = λ k a q h. absurd (is_no_none (sub_of k a p.subs) (gone_sub j b k a s.post.subs (first_only ((j == k) && (b == a)) (g.touched (Arrive k a) q))) h);
        drop_sub = λ k a q h. absurd (is_no_none (sub_of k a p.subs) (gone_sub j b k a s.post.subs (g.touched (DropSub k a) q)) h);
        ask = λ t a q h. no (g.touched (Ask t a) q);
        take = λ t a q h. no (g.touched (Take t a) q);
        drop_control = λ t q h. absurd (not_who (DropSub j b) s (control_of t s.post.controls) (λ t. refl) (g.touched (DropControl t) q));
      }

  abort_told : (j : ℕ) → Told (Abort j)
  abort_told j later g around more sent drops = all_told (after w (Abort j) s).post more

  rollback_told : (b : ℕ) → Told (Rollback b)
  rollback_told b later g around more sent drops =
      let p = (after w (Rollback b) s).post in
      let rest : (f : Event) → Contains (comings_to b p) f → Contains es f = λ f c. more f (Contains-append_right (arrivals_to b p) (comings_to b p) f c) in
      record {
        arrive = λ k a q h. more (Arrive k a) (Contains-append_left (arrivals_to b p) (comings_to b p) (Arrive k a) (arrival_in p k a b h (left_or (b == a) (b == a) (g.touched (Arrive k a) q) (λ x. x))));
        drop_sub = λ k a q h. no (g.touched (DropSub k a) q);
        ask = λ t a q h. rest (Ask t a) (coming_in p t a b (Ask t a) h (left_or (b == a) (b == a) (g.touched (Ask t a) q) (λ x. x)) (inl refl));
        take = λ t a q h. rest (Take t a) (coming_in p t a b (Take t a) h (g.touched (Take t a) q) (inr (inl refl)));
        drop_control = λ t q h. absurd (not_who (Rollback b) s (control_of t s.post.controls) (λ t. refl) (g.touched (DropControl t) q));
      }

  finish_told : (u b : ℕ) → Told (Finish u b)
  finish_told u b later g around more sent drops = let p = (after w (Finish u b) s).post in record {
    arrive = λ k a q h. no (g.touched (Arrive k a) q);
    drop_sub = λ k a q h. no (g.touched (DropSub k a) q);
    ask = λ t a q h. elim (cases_Bool (u == t)) [
      | inl e ↦
          let here = eqb-true b a (first_only (b == a) (g.touched (Ask t a) q)) in
          more (Ask t a) (subst (λ n. Contains (only (goes_to u n p) (Ask u n)) (Ask t a)) (sym here) (subst (λ n. Contains (only (goes_to n a p) (Ask n a)) (Ask t a)) (sym (eqb-true u t e)) (where_so (goes_to t a p) (Ask t a) (goes_where t a p h))))
      | inr e ↦ absurd (g.refused (Ask t a) q (finish_asks w u b s t a e (g.allowed (Ask t a) q)))
    ];
    take = λ t a q h. absurd (g.refused (Take t a) q (finish_takes w u b s t a (g.allowed (Take t a) q)));
    drop_control = λ t q h. absurd (not_who (Finish u b) s (control_of t s.post.controls) (λ t. refl) (g.touched (DropControl t) q));
  }

  trim_told : (j b : ℕ) → Told (Trim j b)
  trim_told j b later g around more sent drops = record {
    arrive = λ k a q h. no (g.touched (Arrive k a) q);
    drop_sub = λ k a q h. no (g.touched (DropSub k a) q);
    ask = λ t a q h. absurd (g.refused (Ask t a) q (trim_asks w j b s t a (g.allowed (Ask t a) q)));
    take = λ t a q h. absurd (g.refused (Take t a) q (trim_takes w j b s t a (g.allowed (Take t a) q)));
    drop_control = λ t q h. absurd (not_who (Trim j b) s (control_of t s.post.controls) (λ t. refl) (g.touched (DropControl t) q));
  }

  -- who touches nothing here
  quiet_told : (e : Event) → ((f : Event) → asked f ≡ true → is_touched w e s f ≡ true)
      → ((k a : ℕ) → is_touched w e s (Arrive k a) ≡ false) → ((k a : ℕ) → is_touched w e s (DropSub k a) ≡ false) → ((t a : ℕ) → is_touched w e s (Ask t a) ≡ false) → ((t a : ℕ) → is_touched w e s (Take t a) ≡ false)
      → ((t : ℕ) → is_touched w e s (DropControl t) ≡ true → ⊥) → PostTells asked (after w e s).post es
  quiet_told e touched arrives drops asks takes leaves = record {
    arrive = λ k a q h. absurd (true≢false (sym (touched (Arrive k a) q) ∙ arrives k a));
    drop_sub = λ k a q h. absurd (true≢false (sym (touched (DropSub k a) q) ∙ drops k a));
    ask = λ t a q h. absurd (true≢false (sym (touched (Ask t a) q) ∙ asks t a));
    take = λ t a q h. absurd (true≢false (sym (touched (Take t a) q) ∙ takes t a));
    drop_control = λ t q h. absurd (leaves t (touched (DropControl t) q));
  }

  pub post_told : (e : Event) → Told e
  post_told (Form j) later g around more sent drops = form_told j later g around more sent drops
  post_told (Admit u) later g around more sent drops = admit_told u later g around more sent drops
  post_told (Arrive j b) later g around more sent drops = arrive_told j b later g around more sent drops
  post_told (Ask u b) later g around more sent drops = ask_told u b later g around more sent drops
  post_told (Take u b) later g around more sent drops = take_told u b later g around more sent drops
  post_told (Send u b) later g around more sent drops = send_told u b later g around more sent drops
  post_told (Abort j) later g around more sent drops = abort_told j later g around more sent drops
  post_told (Rollback b) later g around more sent drops = rollback_told b later g around more sent drops
  post_told (DropSub j b) later g around more sent drops = left_told j b later g around more sent drops
  post_told (DropControl u) later g around more sent drops = dropped_told u later g around more sent drops
  post_told (Finish u b) later g around more sent drops = finish_told u b later g around more sent drops
  post_told (Trim j b) later g around more sent drops = trim_told j b later g around more sent drops
  post_told (Submit n) later g around more sent drops = quiet_told (Submit n) g.touched (λ k a. refl) (λ k a. refl) (λ t a. refl) (λ t a. refl) (λ t x. not_who (Submit n) s (control_of t s.post.controls) (λ u. refl) x)
  post_told (Pass c) later g around more sent drops = quiet_told (Pass c) g.touched (λ k a. refl) (λ k a. refl) (λ t a. refl) (λ t a. refl) (λ t x. not_who (Pass c) s (control_of t s.post.controls) (λ u. refl) x)
  post_told (Run u b) later g around more sent drops = quiet_told (Run u b) g.touched (λ k a. refl) (λ k a. refl) (λ t a. refl) (λ t a. refl) (λ t x. not_who (Run u b) s (control_of t s.post.controls) (λ u. refl) x)
  post_told (End u b) later g around more sent drops = quiet_told (End u b) g.touched (λ k a. refl) (λ k a. refl) (λ t a. refl) (λ t a. refl) (λ t x. not_who (End u b) s (control_of t s.post.controls) (λ u. refl) x)
  post_told (Close u b) later g around more sent drops = quiet_told (Close u b) g.touched (λ k a. refl) (λ k a. refl) (λ t a. refl) (λ t a. refl) (λ t x. not_who (Close u b) s (control_of t s.post.controls) (λ u. refl) x)
  post_told (Complete j b) later g around more sent drops = quiet_told (Complete j b) g.touched (λ k a. refl) (λ k a. refl) (λ t a. refl) (λ t a. refl) (λ t x. not_who (Complete j b) s (control_of t s.post.controls) (λ u. refl) x)
  post_told (Sync l) later g around more sent drops = quiet_told (Sync l) g.touched (λ k a. refl) (λ k a. refl) (λ t a. refl) (λ t a. refl) (λ t x. not_who (Sync l) s (control_of t s.post.controls) (λ u. refl) x)
  post_told (Note j b) later g around more sent drops = quiet_told (Note j b) g.touched (λ k a. refl) (λ k a. refl) (λ t a. refl) (λ t a. refl) (λ t x. not_who (Note j b) s (control_of t s.post.controls) (λ u. refl) x)
  post_told (Commit j) later g around more sent drops = quiet_told (Commit j) g.touched (λ k a. refl) (λ k a. refl) (λ t a. refl) (λ t a. refl) (λ t x. not_who (Commit j) s (control_of t s.post.controls) (λ u. refl) x)
  post_told (Settle j) later g around more sent drops = quiet_told (Settle j) g.touched (λ k a. refl) (λ k a. refl) (λ t a. refl) (λ t a. refl) (λ t x. not_who (Settle j) s (control_of t s.post.controls) (λ u. refl) x)
  post_told (Prepare u b) later g around more sent drops = quiet_told (Prepare u b) g.touched (λ k a. refl) (λ k a. refl) (λ t a. refl) (λ t a. refl) (λ t x. not_who (Prepare u b) s (control_of t s.post.controls) (λ u. refl) x)
  post_told (Vouch u b) later g around more sent drops = quiet_told (Vouch u b) g.touched (λ k a. refl) (λ k a. refl) (λ t a. refl) (λ t a. refl) (λ t x. not_who (Vouch u b) s (control_of t s.post.controls) (λ u. refl) x)
  post_told (Decide u) later g around more sent drops = quiet_told (Decide u) g.touched (λ k a. refl) (λ k a. refl) (λ t a. refl) (λ t a. refl) (λ t x. not_who (Decide u) s (control_of t s.post.controls) (λ u. refl) x)
  post_told (Seal u) later g around more sent drops = quiet_told (Seal u) g.touched (λ k a. refl) (λ k a. refl) (λ t a. refl) (λ t a. refl) (λ t x. not_who (Seal u) s (control_of t s.post.controls) (λ u. refl) x)
  post_told (Reply n) later g around more sent drops = quiet_told (Reply n) g.touched (λ k a. refl) (λ k a. refl) (λ t a. refl) (λ t a. refl) (λ t x. not_who (Reply n) s (control_of t s.post.controls) (λ u. refl) x)
