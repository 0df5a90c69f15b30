-- The entries of an ACT are on actors that it has not left, and where it is not given up it has one on each of those.
use Rattle.std.specs.Prelude.{◌≡◌, refl, ℕ, zero, suc, ◌<◌, ◌==◌, max, not, Bool, true, false, ◌⊎◌, ◌||◌, if◌then◌else◌, Option, Some, None, is_some, List, [], ◌∷◌, ◌++◌, length, map, find, slice_index_or, slice_set}
use Rattle.std.specs.List.{AllByRecursion}
use Rattle.std.proofs.Common.{sym, ap, subst, inl, inr, ◌∙◌}
use Rattle.std.proofs.lemmas.List.{get_or-set_same, get_or-set_other}
use Rattle.std.proofs.lemmas.Bool.{true≢false, eqb-true, eq-eqb, ne_eqb, eqb-false, or_cases, or_left, or_right, cases_Bool, false_from_ne_true}
use Rattle.protocol.specs.Fixed.{Fixed}
use Rattle.protocol.specs.Rivals.{Lock}
use Rattle.protocol.specs.Parts.{Act, Joined, Cascade, Status, Live, Doomed, Decided, Sealed, Who, OfBatch, OfAct, SubBatch, Entry, Cell, Machine}
use Rattle.protocol.specs.Events.{Event, Admit, Arrive, Ask, Take, Run, Send, End, Close, Complete, Rollback, Decide, Finish, Trim}
use Rattle.protocol.specs.Words.{holds, is_doomed, is_sealed, is_value, is_who, act_of, joined_of, sub_of, is_ordered, lock_of, floor_at}
use Rattle.protocol.specs.Conditions.{IsAllowed, conditions}
use Rattle.protocol.specs.Effects.{after, cell_at, no_cell}
use Rattle.protocol.specs.OnBook as book
use Rattle.protocol.specs.OnCell as cell
use Rattle.protocol.specs.OnCell.{is_cut}
use Rattle.protocol.specs.History.{History, Ran, Stands, Gone, long_staying}
use Rattle.protocol_laws.specs.Told.{EachAct}
use Rattle.protocol_laws.specs.Tracks.{Key, key_of, keys_in, is_key_among}
use Rattle.protocol_laws.proofs.machine.TrackLists
use Rattle.protocol_laws.proofs.machine.TracksKept.{Tracked, in_range}
use Rattle.protocol_laws.proofs.machine.FromDeskKept.{one_cell}
use Rattle.protocol_laws.proofs.machine.ControlWalk.{AllControls}
use Rattle.protocol_laws.proofs.machine.ActsFound as acts
use Rattle.protocol_laws.proofs.machine.ActsFound.{HoldsOpen}
use Rattle.protocol_laws.proofs.machine.ActResults as results
use Rattle.protocol_laws.proofs.machine.ActResults.{NoneActed}
use Rattle.protocol_laws.proofs.machine.ActsKept.{Acts}
use Rattle.protocol_laws.proofs.machine.QueuedKept.{in_book, found_some}
use Rattle.protocol_laws.proofs.machine.BehindKept.{Behind, AllBehind, each_to_holds, holds_to_each}
use Rattle.protocol_laws.proofs.machine.BehindKept.{none_bad}
use Rattle.protocol_laws.proofs.first.Lists.{all_join, weaker}
use Rattle.protocol_laws.proofs.first.Statuses.{not_doomed_decided, sealed_doomed}
use Rattle.protocol_laws.proofs.machine.TrackLists.{among_completed}

-- ---- which actors it has not left

-- given up, or its commit is durable
abbrev pub is_through : Status → Bool
is_through st = is_doomed st || is_sealed st

abbrev pub open_in : ℕ → List Joined → Bool
open_in a ps = holds (λ p. not p.finished) (find (λ p. p.actor == a) ps)

-- it joined the actor and has not left it
abbrev pub open_at : ℕ → Act → Bool
open_at a x = holds (λ p. not p.finished) (joined_of a x)

open_more : (b : ℕ) (q : Joined) (ps : List Joined) → open_in b ps ≡ true → open_in b (ps ++ q ∷ []) ≡ true
open_more b q [] h = absurd (true≢false (sym h))
open_more b q (p ∷ ps) h = by (p.actor == b) h (open_more b q ps)
  where
    by : (v : Bool) → holds (λ p. not p.finished) (if v then Some p else find (λ p. p.actor == b) ps) ≡ true → (open_in b ps ≡ true → open_in b (ps ++ q ∷ []) ≡ true) → holds (λ p. not p.finished) (if v then Some p else find (λ p. p.actor == b) (ps ++ q ∷ [])) ≡ true
    by true h k = h
    by false h k = k h

open_new : (a : ℕ) (q : Joined) (ps : List Joined) → q.actor ≡ a → q.finished ≡ false → AllByRecursion (λ p. p.finished ≡ false) ps → open_in a (ps ++ q ∷ []) ≡ true
open_new a q [] e f h = rw (eq-eqb q.actor a e, f) refl
open_new a q (p ∷ ps) e f h = by (p.actor == a) (open_new a q ps e f h.1)
  where
    by : (v : Bool) → open_in a (ps ++ q ∷ []) ≡ true → holds (λ p. not p.finished) (if v then Some p else find (λ p. p.actor == a) (ps ++ q ∷ [])) ≡ true
    by true g = rw h.0 refl
    by false g = g

open_back : (b : ℕ) (q : Joined) (ps : List Joined) → open_in b (ps ++ q ∷ []) ≡ true → (open_in b ps ≡ true) ⊎ (q.actor ≡ b)
open_back b q [] h = by (q.actor == b) refl h
  where
    by : (v : Bool) → (q.actor == b) ≡ v → holds (λ p. not p.finished) (if v then Some q else None) ≡ true → (open_in b [] ≡ true) ⊎ (q.actor ≡ b)
    by true e g = inr (eqb-true q.actor b e)
    by false e g = absurd (true≢false (sym g))
open_back b q (p ∷ ps) h = by (p.actor == b) h (open_back b q ps)
  where
    by : (v : Bool) → holds (λ p. not p.finished) (if v then Some p else find (λ p. p.actor == b) (ps ++ q ∷ [])) ≡ true → (open_in b (ps ++ q ∷ []) ≡ true → (open_in b ps ≡ true) ⊎ (q.actor ≡ b)) → (holds (λ p. not p.finished) (if v then Some p else find (λ p. p.actor == b) ps) ≡ true) ⊎ (q.actor ≡ b)
    by true h k = inl h
    by false h k = k h

pub mark_actor : (v : Bool) (f : Joined → Joined) (p : Joined) → ((q : Joined) → (f q).actor ≡ q.actor) → (book.mark_if v f p).actor ≡ p.actor
mark_actor true f p i = i p
mark_actor false f p i = refl

-- marks leave it as it is
marked_open : (a b : ℕ) (f : Joined → Joined) (ps : List Joined) → ((p : Joined) → (f p).actor ≡ p.actor) → ((p : Joined) → p.actor ≡ b → (book.mark_if (p.actor == a) f p).finished ≡ p.finished) → open_in b (map (λ p. book.mark_if (p.actor == a) f p) ps) ≡ open_in b ps
marked_open a b f [] i j = refl
marked_open a b f (p ∷ ps) i j = subst (λ z. holds (λ p. not p.finished) (if z == b then Some (book.mark_if (p.actor == a) f p) else find (λ p. p.actor == b) (map (λ p. book.mark_if (p.actor == a) f p) ps)) ≡ open_in b (p ∷ ps)) (sym (mark_actor (p.actor == a) f p i)) (by (p.actor == b) refl (marked_open a b f ps i j))
  where
    by : (v : Bool) → (p.actor == b) ≡ v → open_in b (map (λ p. book.mark_if (p.actor == a) f p) ps) ≡ open_in b ps
        → holds (λ p. not p.finished) (if v then Some (book.mark_if (p.actor == a) f p) else find (λ p. p.actor == b) (map (λ p. book.mark_if (p.actor == a) f p) ps)) ≡ holds (λ p. not p.finished) (if v then Some p else find (λ p. p.actor == b) ps)
    by true e g = ap not (j p (eqb-true p.actor b e))
    by false e g = g

finished_same : (v : Bool) (f : Joined → Joined) (p : Joined) → ((q : Joined) → (f q).finished ≡ q.finished) → (book.mark_if v f p).finished ≡ p.finished
finished_same true f p i = i p
finished_same false f p i = refl

noted_open : (a b : ℕ) (x : Act) (f : Joined → Joined) → ((p : Joined) → (f p).actor ≡ p.actor) → ((p : Joined) → (f p).finished ≡ p.finished) → open_at b (book.marked a f x) ≡ open_at b x
noted_open a b x f i j = marked_open a b f x.places i (λ p e. finished_same (p.actor == a) f p j)

left_other : (a b : ℕ) (x : Act) → (a ≡ b → ⊥) → open_at b (book.marked a book.has_left x) ≡ open_at b x
left_other a b x d = marked_open a b book.has_left x.places (λ p. refl) (λ p e. ap (λ v. (book.mark_if v book.has_left p).finished) (ne_eqb p.actor a (λ q. d (sym q ∙ e))))

left_own : (a : ℕ) (x : Act) → open_at a (book.marked a book.has_left x) ≡ false
left_own a x = on x.places
  where
    on : (ps : List Joined) → open_in a (map (λ p. book.mark_if (p.actor == a) book.has_left p) ps) ≡ false
    on [] = refl
    on (p ∷ ps) = by (p.actor == a) refl (on ps)
      where
        by : (v : Bool) → (p.actor == a) ≡ v → open_in a (map (λ p. book.mark_if (p.actor == a) book.has_left p) ps) ≡ false
            → holds (λ p. not p.finished) (if (book.mark_if v book.has_left p).actor == a then Some (book.mark_if v book.has_left p) else find (λ p. p.actor == a) (map (λ p. book.mark_if (p.actor == a) book.has_left p) ps)) ≡ false
        by true e g = rw e refl
        by false e g = rw e g

-- ---- who has left an actor is given up or sealed

abbrev pub LeftThrough : ℕ → Act → Type 0
LeftThrough t x = AllByRecursion (λ p. p.finished ≡ true → is_through x.status ≡ true) x.places

unfoldable pub Left : {C : Type 0} → Machine C → Type 0
Left s = EachAct LeftThrough s.book.acts

all_given : (v : Bool) (ps : List Joined) → v ≡ true → AllByRecursion (λ p. p.finished ≡ true → v ≡ true) ps
all_given v [] e = tt
all_given v (p ∷ ps) e = ((λ q. e), all_given v ps e)

through_sealed : (st : Status) → is_through st ≡ true → is_through (book.sealed_status st) ≡ true
through_sealed Live e = e
through_sealed (Doomed v) e = refl
through_sealed (Decided c) e = refl
through_sealed (Sealed c) e = refl

through_decided : (c : ℕ) (b : Bool) (st : Status) → is_through st ≡ true → is_through (book.decided_status c b st) ≡ true
through_decided c b Live e = absurd (true≢false (sym e))
through_decided c b (Doomed v) e = refl
through_decided c b (Decided d) e = e
through_decided c b (Sealed d) e = refl

marked_through : (v : Bool) (a : ℕ) (f : Joined → Joined) (ps : List Joined) → ((p : Joined) → (f p).finished ≡ p.finished) → AllByRecursion (λ p. p.finished ≡ true → v ≡ true) ps → AllByRecursion (λ p. p.finished ≡ true → v ≡ true) (map (λ p. book.mark_if (p.actor == a) f p) ps)
marked_through v a f [] i h = tt
marked_through v a f (p ∷ ps) i h = ((λ e. h.0 (sym (finished_same (p.actor == a) f p i) ∙ e)), marked_through v a f ps i h.1)

left_holds : HoldsOpen LeftThrough
left_holds = record {
  numbered = λ t x n p. p;
  noted = λ t a x f i j p. marked_through (is_through x.status) a f x.places j p;
  sealed = λ t x p. weaker _ _ x.places (λ q k e. through_sealed x.status (k e)) p;
  doomed = λ t x v l p. all_given true x.places refl;
  rises = λ t k x l p. p;
}

pub left_kept : {C : Type 0} (w : Fixed C) (e : Event) (s : Machine C) → IsAllowed w e s → Left s → Left (after w e s)
unfolding Left acts.ReadyToo conditions
left_kept w (Admit t) s ok g = acts.acts_move w (Admit t) s LeftThrough left_holds (λ e. tt) g
left_kept w (Ask t a) s ok g = acts.acts_move w (Ask t a) s LeftThrough left_holds (λ n x e p. all_join _ x.places _ p ((λ q. absurd (true≢false (sym q))), tt)) g
left_kept w (End t a) s ok g = acts.acts_move w (End t a) s LeftThrough left_holds (λ x r e p. p) g
left_kept w (Decide t) s ok g = acts.acts_move w (Decide t) s LeftThrough left_holds (λ x e p. weaker _ _ x.places (λ q k f. through_decided s.book.next_c (is_value x.result) x.status (k f)) p) g
left_kept w (Finish t a) s ok g = acts.acts_move w (Finish t a) s LeftThrough left_holds (λ x e p. all_given (is_through x.status) (book.marked a book.has_left x).places (subst (λ z. holds (λ x. is_doomed x.status || is_sealed x.status) z ≡ true) e ok.0)) g
left_kept w e s ok g = acts.acts_move w e s LeftThrough left_holds tt g

-- ---- an entry of an ACT is on an actor that it has not left

abbrev pub KeyOpen : ℕ → List Act → Who → Type 0
KeyOpen a xs (OfBatch k) = Unit {0}
KeyOpen a xs (OfAct t) = holds (open_at a) (act_of t xs) ≡ true

abbrev pub KeysOpen : ℕ → List Act → List Key → Type 0
KeysOpen a xs ks = AllByRecursion (λ k. KeyOpen a xs k.who) ks

unfoldable pub Opened : {C : Type 0} → Machine C → Type 0
Opened s = (b : ℕ) → KeysOpen b s.book.acts (map key_of (cell_at s b).entries)

abbrev pub NotLeaving : Event → ℕ → ℕ → Type 0
NotLeaving (Finish u a) t b = t ≡ u → a ≡ b → ⊥
NotLeaving _ t b = Unit {0}

open_holds : (t b : ℕ) → HoldsOpen (λ u x. u ≡ t → open_at b x ≡ true)
open_holds t b = record { numbered = λ u x n p. p; noted = λ u a x f i j p k. noted_open a b x f i j ∙ p k; sealed = λ u x p. p; doomed = λ u x v l p. p; rises = λ u k x l p. p }

open_ready : {C : Type 0} (w : Fixed C) (e : Event) (s : Machine C) (t b : ℕ) → NotLeaving e t b → is_some (act_of t s.book.acts) ≡ true → acts.ReadyToo w e s (λ u x. u ≡ t → open_at b x ≡ true)
unfolding acts.ReadyToo
open_ready w (Admit u) s t b n e = λ q j. absurd (true≢false (sym e ∙ ap is_some (ap (λ z. act_of z s.book.acts) (sym j) ∙ q)))
open_ready w (Ask u a) s t b n e = λ q x f p j. open_more b _ x.places (p j)
open_ready w (End u a) s t b n e = λ x r f p. p
open_ready w (Decide u) s t b n e = λ x f p. p
open_ready w (Finish u a) s t b n e = λ x f p j. left_other a b x (λ q. n (sym j) q) ∙ p j
open_ready w e s t b n q = tt

open_stays : {C : Type 0} (w : Fixed C) (e : Event) (s : Machine C) (t b : ℕ) → NotLeaving e t b → holds (open_at b) (act_of t s.book.acts) ≡ true → holds (open_at b) (act_of t (after w e s).book.acts) ≡ true
open_stays w e s t b n h =
    let i = found_some (open_at b) (act_of t s.book.acts) h in
    each_to_holds (open_at b) t (after w e s).book.acts (in_book w e s t i) (acts.acts_move w e s (λ u x. u ≡ t → open_at b x ≡ true) (open_holds t b) (open_ready w e s t b n i) (holds_to_each (open_at b) t s.book.acts h))

weaker_keys : (b : ℕ) (xs ys : List Act) (ks : List Key) → ((t : ℕ) → is_key_among (OfAct t) ks ≡ true → holds (open_at b) (act_of t xs) ≡ true → holds (open_at b) (act_of t ys) ≡ true) → KeysOpen b xs ks → KeysOpen b ys ks
weaker_keys b xs ys [] k h = tt
weaker_keys b xs ys (y ∷ ks) k h = (by y.who refl h.0, weaker_keys b xs ys ks (λ t e. k t (or_right (is_who y.who (OfAct t)) _ e)) h.1)
  where
    by : (z : Who) → y.who ≡ z → KeyOpen b xs z → KeyOpen b ys z
    by (OfBatch j) e g = tt
    by (OfAct t) e g = k t (or_left (is_who y.who (OfAct t)) _ (subst (λ v. is_who v (OfAct t) ≡ true) (sym e) (eq-eqb t t refl))) g

keys_done : (b : ℕ) (xs : List Act) (t : ℕ) (es : List Entry) → KeysOpen b xs (map key_of es) → KeysOpen b xs (map key_of (map (cell.done_in t) es))
keys_done b xs t es h = subst (KeysOpen b xs) (sym (TrackLists.entries_done t es)) h

keys_completed : (b : ℕ) (xs : List Act) (k : ℕ) (ks : List Key) → KeysOpen b xs ks → KeysOpen b xs (map (TrackLists.key_completed k) ks)
keys_completed b xs k [] h = tt
keys_completed b xs k (y ∷ ks) h = (h.0, keys_completed b xs k ks h.1)

keys_without : (b : ℕ) (xs : List Act) (v : Who) (ks : List Key) → KeysOpen b xs ks → KeysOpen b xs (TrackLists.keys_without v ks)
keys_without b xs v [] h = tt
keys_without b xs v (y ∷ ks) h = by (is_who y.who v) (keys_without b xs v ks h.1)
  where
    by : (q : Bool) → KeysOpen b xs (TrackLists.keys_without v ks) → KeysOpen b xs (if q then TrackLists.keys_without v ks else y ∷ TrackLists.keys_without v ks)
    by true g = g
    by false g = (h.0, g)

keys_staying : (b : ℕ) (xs : List Act) (cs : List Cascade) (ks : List Key) → KeysOpen b xs ks → KeysOpen b xs (TrackLists.keys_staying cs ks)
keys_staying b xs cs [] h = tt
keys_staying b xs cs (y ∷ ks) h = by (is_cut cs y.who) (keys_staying b xs cs ks h.1)
  where
    by : (q : Bool) → KeysOpen b xs (TrackLists.keys_staying cs ks) → KeysOpen b xs (if q then [] else y ∷ TrackLists.keys_staying cs ks)
    by true g = tt
    by false g = (h.0, g)

keys_batch : (b : ℕ) (xs : List Act) (k : ℕ) (o : Option SubBatch) → KeysOpen b xs (map key_of (cell.batch_entries k o))
keys_batch b xs k None = tt
keys_batch b xs k (Some m) = (tt, tt)

keys_more : (b : ℕ) (xs : List Act) (es new : List Entry) → KeysOpen b xs (map key_of es) → KeysOpen b xs (map key_of new) → KeysOpen b xs (map key_of (es ++ new))
keys_more b xs es new h g = subst (KeysOpen b xs) (sym (TrackLists.entries_join es new)) (all_join _ (map key_of es) (map key_of new) h g)

-- an ACT that asks has left no actor
pub none_left : {C : Type 0} (w : Fixed C) (s : Machine C) (h : History) (t a : ℕ) (x : Act) → IsAllowed w (Ask t a) s → AllControls (NoneActed s) s → Acts s h → Left s → act_of t s.book.acts ≡ Some x → AllByRecursion (λ p. p.finished ≡ false) x.places
unfolding conditions Acts Left
none_left w s h t a x ok n i l e = weaker _ _ x.places (λ p k. false_from_ne_true p.finished (λ q. not_through x.status (subst (λ z. holds (λ x. not (is_doomed x.status)) z ≡ true) e ok.1.0) (λ v. true≢false (sym ((i t x e).ended v) ∙ ap is_some (results.posted_none t a s ok.0 n t x e refl))) (k q))) (l t x e)
  where
    not_through : (st : Status) → not (is_doomed st) ≡ true → (is_ordered st ≡ true → ⊥) → is_through st ≡ true → ⊥
    not_through Live d p q = true≢false (sym q)
    not_through (Doomed v) d p q = true≢false (sym d)
    not_through (Decided c) d p q = true≢false (sym q)
    not_through (Sealed c) d p q = p refl

joined_open : {C : Type 0} (w : Fixed C) (s : Machine C) (h : History) (t a : ℕ) → IsAllowed w (Ask t a) s → AllControls (NoneActed s) s → Acts s h → Left s → (o : Option ℕ) → o ≡ None → is_some (act_of t s.book.acts) ≡ true → is_some (act_of t (book.asked_acts o (book.met (lock_of t s.book.acts) (cell_at s a).entries) t a (max (cell_at s a).last (floor_at t s.book.acts (cell_at s a))) s.book)) ≡ true
    → holds (open_at a) (act_of t (book.asked_acts o (book.met (lock_of t s.book.acts) (cell_at s a).entries) t a (max (cell_at s a).last (floor_at t s.book.acts (cell_at s a))) s.book)) ≡ true
joined_open w s h t a ok n i l (Some y) q e f = absurd (cc q)
joined_open w s h t a ok n i l None q e f = each_to_holds (open_at a) t _ f
    (acts.none_in_way (λ u x. u ≡ t → open_at a x ≡ true) t a (cell_at s a) s.book (acts.anyway _ (open_holds t a))
    (acts.each_changed (λ u x. Unit {0}) (λ u x. u ≡ t → open_at a x ≡ true) t (book.joins a (max (cell_at s a).last (floor_at t s.book.acts (cell_at s a)))) s.book.acts (λ x. refl) (λ u x d k p j. absurd (d j))
    (λ x k p j. open_new a _ x.places refl refl (none_left w s h t a x ok n i l k)) (λ u x k. tt)))

ask_keys : (a : ℕ) (t : Lock) (xs : List Act) (o : Option ℕ) (es : List Entry) → (o ≡ None → holds (open_at a) (act_of t.tid xs) ≡ true) → KeysOpen a xs (map key_of es) → KeysOpen a xs (map key_of (es ++ cell.act_entries t o))
ask_keys a t xs None es k h = keys_more a xs es _ h (k refl, tt)
ask_keys a t xs (Some y) es k h = keys_more a xs es [] h tt

run_keys : (b : ℕ) (xs : List Act) (v : Bool) (t : ℕ) (es : List Entry) → KeysOpen b xs (map key_of es) → KeysOpen b xs (map key_of (if v then map (cell.done_in t) es else es))
run_keys b xs true t es h = keys_done b xs t es h
run_keys b xs false t es h = h

-- those that stay where one has left
after_leaving : {C : Type 0} (w : Fixed C) (t a : ℕ) (s : Machine C) (b : ℕ) (ks : List Key) → (is_key_among (OfAct t) ks ≡ true → a ≡ b → ⊥) → KeysOpen b s.book.acts ks → KeysOpen b (after w (Finish t a) s).book.acts ks
after_leaving w t a s b ks d h = weaker_keys b s.book.acts (after w (Finish t a) s).book.acts ks (λ u e. open_stays w (Finish t a) s u b (λ j q. d (subst (λ z. is_key_among (OfAct z) ks ≡ true) j e) q)) h

none_without : (v : Who) (ks : List Key) → is_key_among v (TrackLists.keys_without v ks) ≡ false
none_without v [] = refl
none_without v (y ∷ ks) = by (is_who y.who v) refl (none_without v ks)
  where
    by : (q : Bool) → is_who y.who v ≡ q → is_key_among v (TrackLists.keys_without v ks) ≡ false → is_key_among v (if q then TrackLists.keys_without v ks else y ∷ TrackLists.keys_without v ks) ≡ false
    by true e g = g
    by false e g = rw e g

finish_opened : {C : Type 0} (w : Fixed C) (t a : ℕ) (s : Machine C) → a < length s.cells → Opened s → Opened (after w (Finish t a) s)
unfolding Opened after
finish_opened w t a s r g b = elim (cases_Bool (b == a)) [
  | inl e ↦ let q : b ≡ a = eqb-true b a e in subst (λ z. KeysOpen z (after w (Finish t a) s).book.acts (map key_of (slice_index_or (slice_set s.cells a (cell.act_left t (act_of t s.book.acts) (cell_at s a))) z no_cell).entries)) (sym q)
      (rw (get_or-set_same s.cells a (cell.act_left t (act_of t s.book.acts) (cell_at s a)) no_cell r)
      (subst (KeysOpen a (after w (Finish t a) s).book.acts) (sym (TrackLists.entries_without_act t (cell_at s a).entries)) (after_leaving w t a s a (TrackLists.keys_without (OfAct t) (map key_of (cell_at s a).entries)) (λ v j. true≢false (sym v ∙ none_without (OfAct t) (map key_of (cell_at s a).entries))) (keys_without a s.book.acts (OfAct t) (map key_of (cell_at s a).entries) (g a)))))
  | inr e ↦ rw (get_or-set_other s.cells a b (cell.act_left t (act_of t s.book.acts) (cell_at s a)) no_cell (eqb-false b a e)) (after_leaving w t a s b (map key_of (cell_at s b).entries) (λ v j. true≢false (sym (eq-eqb b a (sym j)) ∙ e)) (g b))
]

before_keys : {C : Type 0} (w : Fixed C) (e : Event) (s : Machine C) → ((t b : ℕ) → NotLeaving e t b) → Opened s → (b : ℕ) → KeysOpen b (after w e s).book.acts (map key_of (cell_at s b).entries)
unfolding Opened
before_keys w e s n g b = weaker_keys b s.book.acts (after w e s).book.acts (map key_of (cell_at s b).entries) (λ t v. open_stays w e s t b (n t b)) (g b)

abbrev pub Here : {C : Type 0} → List Act → ℕ → Cell C → Type 0
Here xs b c = KeysOpen b xs (map key_of c.entries)

pub opened_kept : {C : Type 0} (w : Fixed C) (e : Event) (s : Machine C) (h : History) → IsAllowed w e s → ((t a : ℕ) → e ≡ Finish t a → a < length s.cells) → AllControls (NoneActed s) s → Acts s h → Left s → Opened s → Opened (after w e s)
unfolding Opened conditions after
opened_kept w (Arrive k a) s h ok r n i l g = one_cell (Here (after w (Arrive k a) s).book.acts) s.cells a _ (λ z. keys_more a _ (cell_at s a).entries _ z (keys_batch a _ k (sub_of k a s.post.subs))) (before_keys w (Arrive k a) s (λ t b. tt) g)
opened_kept w (Ask t a) s h ok r n i l g =
    let e = found_some _ (act_of t s.book.acts) ok.1.0 in
    one_cell (Here (after w (Ask t a) s).book.acts) s.cells a _ (λ z. ask_keys a (lock_of t s.book.acts) _ (book.in_the_way (lock_of t s.book.acts) (cell_at s a).entries) (cell_at s a).entries (λ q. joined_open w s h t a ok n i l (book.in_the_way (lock_of t s.book.acts) (cell_at s a).entries) q e (in_book w (Ask t a) s t e)) z) (before_keys w (Ask t a) s (λ t b. tt) g)
opened_kept w (Take t a) s h ok r n i l g = one_cell (Here s.book.acts) s.cells a _ (λ z. z) g
opened_kept w (Run t a) s h ok r n i l g = one_cell (Here s.book.acts) s.cells a _ (λ z. run_keys a s.book.acts (cell.is_done_after w.code a (cell.slice_of w.code t (cell_at s a))) t (cell_at s a).entries z) g
opened_kept w (Send t a) s h ok r n i l g = one_cell (Here s.book.acts) s.cells a _ (λ z. z) g
opened_kept w (End t a) s h ok r n i l g = one_cell (Here (after w (End t a) s).book.acts) s.cells a _ (λ z. z) (before_keys w (End t a) s (λ t b. tt) g)
opened_kept w (Close t a) s h ok r n i l g = one_cell (Here s.book.acts) s.cells a _ (λ z. keys_done a s.book.acts t (cell_at s a).entries z) g
opened_kept w (Complete k a) s h ok r n i l g = one_cell (Here s.book.acts) s.cells a _ (λ z. subst (KeysOpen a s.book.acts) (sym (TrackLists.entries_completed k (cell_at s a).entries)) (keys_completed a s.book.acts k (map key_of (cell_at s a).entries) z)) g
opened_kept w (Rollback a) s h ok r n i l g = one_cell (Here s.book.acts) s.cells a _ (λ z. subst (KeysOpen a s.book.acts) (sym (TrackLists.entries_staying s.book.cascades (cell_at s a).entries)) (keys_staying a s.book.acts s.book.cascades (map key_of (cell_at s a).entries) z)) g
opened_kept w (Finish t a) s h ok r n i l g = finish_opened w t a s (r t a refl) g
opened_kept w (Trim k a) s h ok r n i l g = one_cell (Here s.book.acts) s.cells a _ (λ z. subst (KeysOpen a s.book.acts) (sym (TrackLists.entries_without_batch k (cell_at s a).entries)) (keys_without a s.book.acts (OfBatch k) (map key_of (cell_at s a).entries) z)) g
opened_kept w e s h ok r n i l g = before_keys w e s (λ t b. tt) g

-- ---- and it has one on each of those where it is not given up

abbrev pub Stand : {C : Type 0} → Machine C → ℕ → Act → Type 0
Stand s t x = is_doomed x.status ≡ false → (b : ℕ) → open_at b x ≡ true → is_key_among (OfAct t) (map key_of (cell_at s b).entries) ≡ true

unfoldable pub Standing : {C : Type 0} → Machine C → Type 0
Standing s = EachAct (Stand s) s.book.acts

-- ---- what stays among the keys of a cell

pub at_cell : {C : Type 0} (P : Cell C → Type 0) (xs : List (Cell C)) (a : ℕ) (c : Cell C) (b : ℕ) → (b ≡ a → P (slice_index_or xs b no_cell) → P c) → P (slice_index_or xs b no_cell) → P (slice_index_or (slice_set xs a c) b no_cell)
at_cell P [] a c b k h = h
at_cell P (x ∷ xs) zero c zero k h = k refl h
at_cell P (x ∷ xs) zero c (suc b) k h = h
at_cell P (x ∷ xs) (suc a) c zero k h = h
at_cell P (x ∷ xs) (suc a) c (suc b) k h = at_cell P xs a c b (λ e. k (ap suc e)) h

abbrev pub Has : {C : Type 0} → ℕ → Cell C → Type 0
Has t c = is_key_among (OfAct t) (map key_of c.entries) ≡ true

among_more : (who : Who) (es new : List Entry) → is_key_among who (map key_of es) ≡ true → is_key_among who (map key_of (es ++ new)) ≡ true
among_more who es new h = ap (is_key_among who) (TrackLists.entries_join es new) ∙ (TrackLists.among_join who (map key_of es) (map key_of new) ∙ or_left (is_key_among who (map key_of es)) _ h)

among_without : (who v : Who) (ks : List Key) → is_who who v ≡ false → is_key_among who ks ≡ true → is_key_among who (TrackLists.keys_without v ks) ≡ true
among_without who v [] e h = h
among_without who v (y ∷ ks) e h = by (is_who y.who v) refl (or_cases (is_who y.who who) (is_key_among who ks) h) (among_without who v ks e)
  where
    by : (q : Bool) → is_who y.who v ≡ q → (is_who y.who who ≡ true) ⊎ (is_key_among who ks ≡ true) → (is_key_among who ks ≡ true → is_key_among who (TrackLists.keys_without v ks) ≡ true) → is_key_among who (if q then TrackLists.keys_without v ks else y ∷ TrackLists.keys_without v ks) ≡ true
    by true f (inl g) k = absurd (true≢false (sym (subst (λ z. is_who z v ≡ true) (TrackLists.is_who_true y.who who g) f) ∙ e))
    by true f (inr g) k = k g
    by false f (inl g) k = or_left (is_who y.who who) _ g
    by false f (inr g) k = or_right (is_who y.who who) _ (k g)

run_among : (v : Bool) (t u : ℕ) (es : List Entry) → is_key_among (OfAct u) (map key_of es) ≡ true → is_key_among (OfAct u) (map key_of (if v then map (cell.done_in t) es else es)) ≡ true
run_among true t u es h = ap (is_key_among (OfAct u)) (TrackLists.entries_done t es) ∙ h
run_among false t u es h = h

-- one that is not given up stays when an actor rolls back
stay_standing : (acts : List Act) (cs : List Cascade) (bad : Bool) (t : ℕ) (x : Act) (rs : List Ran) → act_of t acts ≡ Some x → is_doomed x.status ≡ false → Behind acts cs bad rs → is_key_among (OfAct t) (keys_in rs) ≡ true → is_key_among (OfAct t) (keys_in (long_staying cs rs)) ≡ true
stay_standing acts cs bad t x [] f d h e = e
stay_standing acts cs bad t x (Stands (OfBatch k) c ss ∷ rs) f d h e = by (is_cut cs (OfBatch k)) refl (stay_standing acts cs (bad || Rattle.protocol.specs.Words.is_aborted k cs) t x rs f d h e)
  where
    by : (q : Bool) → is_cut cs (OfBatch k) ≡ q → is_key_among (OfAct t) (keys_in (long_staying cs rs)) ≡ true → is_key_among (OfAct t) (keys_in (if q then [] else Stands (OfBatch k) c ss ∷ long_staying cs rs)) ≡ true
    by true g r = absurd (none_bad acts cs (bad || Rattle.protocol.specs.Words.is_aborted k cs) t x rs f d h e (or_right bad _ g))
    by false g r = r
stay_standing acts cs bad t x (Stands (OfAct u) c ss ∷ rs) f d h e = elim (or_cases (u == t) (is_key_among (OfAct t) (keys_in rs)) e) [ inl q ↦ or_left (u == t) _ q | inr q ↦ or_right (u == t) _ (stay_standing acts cs bad t x rs f d h.1 q) ]
stay_standing acts cs bad t x (Gone (OfBatch k) ss ∷ rs) f d h e = stay_standing acts cs (bad || Rattle.protocol.specs.Words.is_aborted k cs) t x rs f d h e
stay_standing acts cs bad t x (Gone (OfAct u) ss ∷ rs) f d h e = stay_standing acts cs bad t x rs f d h e

rolled_among : {C : Type 0} (w : Fixed C) (s : Machine C) (h : History) (a t : ℕ) (x : Act) → act_of t s.book.acts ≡ Some x → is_doomed x.status ≡ false → Tracked w s h → AllBehind s h → Has t (cell_at s a) → is_key_among (OfAct t) (map key_of (cell.staying s.book.cascades (cell_at s a).entries)) ≡ true
unfolding Tracked AllBehind
rolled_among w s h a t x f d tr be e =
    let r : map key_of (cell.staying s.book.cascades (cell_at s a).entries) ≡ keys_in (long_staying s.book.cascades (h.long a)) = TrackLists.entries_staying s.book.cascades (cell_at s a).entries ∙ (ap (TrackLists.keys_staying s.book.cascades) (tr a).stands ∙ sym (TrackLists.keys_long_staying s.book.cascades (h.long a))) in
    ap (is_key_among (OfAct t)) r ∙ stay_standing s.book.acts s.book.cascades false t x (h.long a) f d (be a) (ap (is_key_among (OfAct t)) (sym (tr a).stands) ∙ e)

has_stays : {C : Type 0} (w : Fixed C) (e : Event) (s : Machine C) (h : History) (t b : ℕ) (x : Act) → NotLeaving e t b → act_of t s.book.acts ≡ Some x → is_doomed x.status ≡ false → Tracked w s h → AllBehind s h → Has t (cell_at s b) → Has t (cell_at (after w e s) b)
unfolding after
has_stays w (Arrive k a) s h t b x n f d tr be g = at_cell (Has t) s.cells a _ b (λ j q. among_more (OfAct t) (cell_at s a).entries _ (subst (λ z. Has t (cell_at s z)) j q)) g
has_stays w (Ask u a) s h t b x n f d tr be g = at_cell (Has t) s.cells a _ b (λ j q. among_more (OfAct t) (cell_at s a).entries _ (subst (λ z. Has t (cell_at s z)) j q)) g
has_stays w (Take u a) s h t b x n f d tr be g = at_cell (Has t) s.cells a _ b (λ j q. subst (λ z. Has t (cell_at s z)) j q) g
has_stays w (Run u a) s h t b x n f d tr be g = at_cell (Has t) s.cells a _ b (λ j q. run_among (cell.is_done_after w.code a (cell.slice_of w.code u (cell_at s a))) u t (cell_at s a).entries (subst (λ z. Has t (cell_at s z)) j q)) g
has_stays w (Send u a) s h t b x n f d tr be g = at_cell (Has t) s.cells a _ b (λ j q. subst (λ z. Has t (cell_at s z)) j q) g
has_stays w (End u a) s h t b x n f d tr be g = at_cell (Has t) s.cells a _ b (λ j q. subst (λ z. Has t (cell_at s z)) j q) g
has_stays w (Close u a) s h t b x n f d tr be g = at_cell (Has t) s.cells a _ b (λ j q. run_among true u t (cell_at s a).entries (subst (λ z. Has t (cell_at s z)) j q)) g
has_stays w (Complete k a) s h t b x n f d tr be g = at_cell (Has t) s.cells a _ b (λ j q. ap (is_key_among (OfAct t)) (TrackLists.entries_completed k (cell_at s a).entries) ∙ (among_completed k (OfAct t) (map key_of (cell_at s a).entries) ∙ subst (λ z. Has t (cell_at s z)) j q)) g
has_stays w (Rollback a) s h t b x n f d tr be g = at_cell (Has t) s.cells a _ b (λ j q. rolled_among w s h a t x f d tr be (subst (λ z. Has t (cell_at s z)) j q)) g
has_stays w (Finish u a) s h t b x n f d tr be g = at_cell (Has t) s.cells a _ b (λ j q. ap (is_key_among (OfAct t)) (TrackLists.entries_without_act u (cell_at s a).entries) ∙ among_without (OfAct t) (OfAct u) (map key_of (cell_at s a).entries) (ne_eqb t u (λ v. n v (sym j))) (subst (λ z. Has t (cell_at s z)) j q)) g
has_stays w (Trim k a) s h t b x n f d tr be g = at_cell (Has t) s.cells a _ b (λ j q. ap (is_key_among (OfAct t)) (TrackLists.entries_without_batch k (cell_at s a).entries) ∙ among_without (OfAct t) (OfBatch k) (map key_of (cell_at s a).entries) refl (subst (λ z. Has t (cell_at s z)) j q)) g
has_stays w e s h t b x n f d tr be g = g

stand_holds : {C : Type 0} (s : Machine C) → HoldsOpen (Stand s)
stand_holds s = record {
  numbered = λ t x n p. p;
  noted = λ t a x f i j p d b o. p d b (sym (noted_open a b x f i j) ∙ o);
  sealed = λ t x p d. p (sym (sealed_doomed x.status) ∙ d);
  doomed = λ t x v l p d. absurd (true≢false d);
  rises = λ t k x l p. p;
}

-- all but who leaves
stand_around : {C : Type 0} (w : Fixed C) (e : Event) (s : Machine C) (h : History) → ((t b : ℕ) → NotLeaving e t b) → Tracked w s h → AllBehind s h → EachAct (Stand s) s.book.acts → EachAct (Stand (after w e s)) s.book.acts
stand_around w e s h n tr be g = λ t x f d b o. has_stays w e s h t b x (n t b) f d tr be (g t x f d b o)

asks_has : {C : Type 0} (w : Fixed C) (t a : ℕ) (s : Machine C) → a < length s.cells → book.in_the_way (lock_of t s.book.acts) (cell_at s a).entries ≡ None → Has t (cell_at (after w (Ask t a) s) a)
unfolding after
asks_has w t a s r n = rw (get_or-set_same s.cells a (cell.act_placed (lock_of t s.book.acts) (book.in_the_way (lock_of t s.book.acts) (cell_at s a).entries) (Rattle.protocol.specs.Words.control_of t s.post.controls) (cell_at s a)) no_cell r, n)
    (ap (is_key_among (OfAct t)) (TrackLists.entries_join (cell_at s a).entries _) ∙ (TrackLists.among_join (OfAct t) (map key_of (cell_at s a).entries) _ ∙ or_right (is_key_among (OfAct t) (map key_of (cell_at s a).entries)) _ (or_left (t == t) _ (eq-eqb t t refl))))

finish_standing : {C : Type 0} (w : Fixed C) (t a : ℕ) (s : Machine C) (h : History) → Tracked w s h → AllBehind s h → EachAct (Stand s) s.book.acts → EachAct (Stand (after w (Finish t a) s)) (after w (Finish t a) s).book.acts
unfolding after
finish_standing w t a s h tr be g = acts.each_changed (Stand s) (Stand (after w (Finish t a) s)) t (book.marked a book.has_left) s.book.acts (λ x. refl)
    (λ u x n f p d b o. has_stays w (Finish t a) s h u b x (λ j q. n j) f d tr be (p d b o))
    (λ x f p d b o. elim (cases_Bool (a == b)) [
      | inl q ↦ absurd (true≢false (sym o ∙ subst (λ z. open_at z (book.marked a book.has_left x) ≡ false) (eqb-true a b q) (left_own a x)))
      | inr q ↦ has_stays w (Finish t a) s h t b x (λ j v. eqb-false a b q v) f d tr be (p d b (sym (left_other a b x (eqb-false a b q)) ∙ o))
    ]) g

pub standing_kept : {C : Type 0} (w : Fixed C) (e : Event) (s : Machine C) (h : History) → IsAllowed w e s → Tracked w s h → AllBehind s h → Standing s → Standing (after w e s)
unfolding Standing conditions acts.ReadyToo
standing_kept w (Admit t) s h ok tr be g = acts.acts_move w (Admit t) s (Stand (after w (Admit t) s)) (stand_holds (after w (Admit t) s)) (λ e d b o. absurd (true≢false (sym o))) (stand_around w (Admit t) s h (λ u b. tt) tr be g)
standing_kept w (Ask t a) s h ok tr be g = acts.acts_move w (Ask t a) s (Stand (after w (Ask t a) s)) (stand_holds (after w (Ask t a) s)) (λ n x e p d b o. elim (open_back b _ x.places o) [ inl q ↦ p d b q | inr q ↦ subst (λ z. Has t (cell_at (after w (Ask t a) s) z)) q (asks_has w t a s (in_range _ s.cells a ok.1.1.0) n) ])
    (stand_around w (Ask t a) s h (λ u b. tt) tr be g)
standing_kept w (End t a) s h ok tr be g = acts.acts_move w (End t a) s (Stand (after w (End t a) s)) (stand_holds (after w (End t a) s)) (λ x r e p. p) (stand_around w (End t a) s h (λ u b. tt) tr be g)
standing_kept w (Decide t) s h ok tr be g = acts.acts_move w (Decide t) s (Stand (after w (Decide t) s)) (stand_holds (after w (Decide t) s)) (λ x e p d. p (not_doomed_decided s.book.next_c (is_value x.result) x.status d)) (stand_around w (Decide t) s h (λ u b. tt) tr be g)
standing_kept w (Finish t a) s h ok tr be g = finish_standing w t a s h tr be g
standing_kept w e s h ok tr be g = acts.acts_move w e s (Stand (after w e s)) (stand_holds (after w e s)) tt (stand_around w e s h (λ u b. tt) tr be g)
