-- ACTs with no batch between them are pairs, on all actors, event by event.
use Rattle.std.specs.Prelude.{◌≡◌, refl, ℕ, ◌≤◌, ◌==◌, Bool, true, false, ◌&&◌, ◌⊎◌, if◌then◌else◌, Option, Some, None, List, [], ◌∷◌, ◌++◌, map}
use Rattle.std.specs.List.{AllByRecursion}
use Rattle.std.proofs.Common.{sym, subst, inl, inr}
use Rattle.std.proofs.lemmas.List.{append-nil}
use Rattle.std.proofs.lemmas.Bool.{eqb-true, and_parts, or_cases, or_left, or_right, true≢false, cases_Bool}
use Rattle.protocol.specs.Fixed.{Fixed}
use Rattle.protocol.specs.Rivals.{Lock}
use Rattle.protocol.specs.Parts.{Act, Pair, Book, OfBatch, OfAct, Entry, BatchEntry, ActEntry, Cell, Machine}
use Rattle.protocol.specs.Events.{Event, Arrive, Ask, Run, Complete, Rollback, Finish, Trim}
use Rattle.protocol.specs.Words.{holds, group_behind, is_doomed, act_of, tail_group, is_ordered, lock_of}
use Rattle.protocol.specs.Conditions.{IsAllowed}
use Rattle.protocol.specs.Effects.{after, cell_at}
use Rattle.protocol.specs.OnBook as book
use Rattle.protocol.specs.OnCell as cell
use Rattle.protocol.specs.History.{History, Ran, grown, with_at, not_run, left_for_good, without_standing, asks, is_traceless}
use Rattle.protocol.specs.Standing.{CarriesNumber}
use Rattle.protocol_laws.specs.Turns.{Turns}
use Rattle.protocol_laws.specs.Highs.{both_read, doomed_at, is_pair, has_pair, is_paired, Grouped}
use Rattle.protocol_laws.proofs.machine.TrackLists
use Rattle.protocol_laws.proofs.machine.ActsGrow.{Grows, acts_grow, grown_holds}
use Rattle.protocol_laws.proofs.machine.CommitsKept.{beside_carried}
use Rattle.protocol_laws.proofs.machine.TurnsKept.{Turned}
use Rattle.protocol_laws.proofs.machine.HighLists
use Rattle.protocol_laws.proofs.machine.ReadersKept.{LockOf, Locks}
use Rattle.protocol_laws.proofs.first.Agree.{agree, agree_is}
use Rattle.protocol_laws.proofs.first.Lists.{all_join}

unfoldable pub Groups : {C : Type 0} → Machine C → History → Type 0
Groups s h = (a : ℕ) → Grouped a s.book.pairs s.book.acts (h.long a)

-- ---- an Ask

tail_tell : (acts : List Act) (seen : List Lock) (es : List Entry) → AllByRecursion (LockOf acts) es → HighLists.LocksTell acts seen → HighLists.LocksTell acts (group_behind seen es)
tail_tell acts seen [] l h = h
tail_tell acts seen (BatchEntry b ∷ es) l h = tail_tell acts [] es l.1 tt
tail_tell acts seen (ActEntry x ∷ es) l h = tail_tell acts (seen ++ x ∷ []) es l.1 (all_join _ seen (x ∷ []) h (by (act_of x.tid acts) l.0, tt))
  where
    by : (o : Option Act) → holds (λ y. agree y.reader x.reader) o ≡ true → x.reader ≡ holds (λ y. y.reader) o
    by None q = absurd (true≢false (sym q))
    by (Some y) q = sym (agree_is y.reader x.reader q)

pub locks_tell : {C : Type 0} (s : Machine C) (a : ℕ) → Locks s → HighLists.LocksTell s.book.acts (tail_group (cell_at s a).entries)
unfolding Locks
locks_tell s a l = tail_tell s.book.acts [] (cell_at s a).entries (l a) tt

-- the ACTs of the tail group are paired with the one that is placed
pub asked_pairs : {C : Type 0} (t a u : ℕ) (c : Cell C) (b : Book) (acts' : List Act) → Grows b.acts acts' → HighLists.LocksTell b.acts (tail_group c.entries) → HighLists.is_lock_among u (tail_group c.entries) ≡ true → is_paired a (book.asked_pairs None (book.met (lock_of t b.acts) c.entries) t a b) acts' u t ≡ true
asked_pairs t a u c b acts' g k i = elim (cases_Bool (both_read b.acts u t)) [
  | inl r ↦ or_left (both_read acts' u t) _ (HighLists.both_later b.acts acts' u t g r)
  | inr r ↦ or_right (both_read acts' u t) _ (elim (cases_Bool (doomed_at b.acts u)) [
    | inl d ↦ or_left (doomed_at acts' u) _ (grown_holds (λ x. is_doomed x.status) b.acts acts' u (λ x y k q. k.doomed q) g d)
    | inr d ↦ or_right (doomed_at acts' u) _ (or_right (doomed_at acts' t) _ (HighLists.pair_last a t u b.pairs (book.new_pairs t a (book.met (lock_of t b.acts) c.entries) b.acts) (HighLists.new_pair t a u (book.met (lock_of t b.acts) c.entries) b.acts (HighLists.among_rivals (lock_of t b.acts) u b.acts (tail_group c.entries) k r i) d)))
  ])
]

more_pairs : (o : Option ℕ) (group : List Lock) (t a b u v : ℕ) (k : Book) → has_pair b v u k.pairs ≡ true → has_pair b v u (book.asked_pairs o group t a k) ≡ true
more_pairs None group t a b u v k h = HighLists.pair_more b v u k.pairs _ h
more_pairs (Some x) group t a b u v k h = h

ask : {C : Type 0} (t a : ℕ) (o : Option ℕ) (c : Cell C) (b : Book) (acts' : List Act) (long : List Ran) → Grows b.acts acts' → HighLists.LocksTell b.acts (tail_group c.entries) → Turns long c.entries
    → Grouped a (book.asked_pairs o (book.met (lock_of t b.acts) c.entries) t a b) acts' long → Grouped a (book.asked_pairs o (book.met (lock_of t b.acts) c.entries) t a b) acts' (long ++ map not_run (asks t o))
ask t a None c b acts' long g k r h = HighLists.grouped_act a (book.asked_pairs None (book.met (lock_of t b.acts) c.entries) t a b) acts' t (tail_group c.entries) [] long c.entries r refl (λ u i. asked_pairs t a u c b acts' g k i) h
ask t a (Some x) c b acts' long g k r h = rw (append-nil long) h

finish : (t a : ℕ) (q : Bool) (ps : List Pair) (acts : List Act) (long : List Ran) → Grouped a ps acts long → Grouped a (HighLists.pairs_left t a ps) acts (if q then without_standing (OfAct t) long else map (left_for_good (OfAct t)) long)
finish t a true ps acts long h = HighLists.grouped_undone a ps acts t long h
finish t a false ps acts long h = HighLists.grouped_goes a ps acts t long h

-- the book changes
booked : {C : Type 0} (w : Fixed C) (e : Event) (s : Machine C) (h : History) → ((b u v : ℕ) → has_pair b v u s.book.pairs ≡ true → has_pair b v u (after w e s).book.pairs ≡ true) → ((a : ℕ) → Grouped a s.book.pairs s.book.acts (h.long a))
    → (b : ℕ) → Grouped b (after w e s).book.pairs (after w e s).book.acts (h.long b)
booked w e s h k g b = HighLists.grouped_change b s.book.pairs (after w e s).book.pairs s.book.acts (after w e s).book.acts (h.long b) (acts_grow w e s) (k b) (g b)

pub kept : {C : Type 0} (w : Fixed C) (e : Event) (s : Machine C) (h : History) → IsAllowed w e s → Locks s → Turned s h → Groups s h → Groups (after w e s) (grown w e s h)
unfolding Groups Turned after grown
kept w (Arrive k a) s h ok l t g = beside_carried (λ b rs. Grouped b s.book.pairs (after w (Arrive k a) s).book.acts rs) a _ h.long (HighLists.grouped_batch a s.book.pairs (after w (Arrive k a) s).book.acts k (h.long a)) (booked w (Arrive k a) s h (λ b u v i. i) g)
kept w (Ask t a) s h ok l r g =
    beside_carried (λ b rs. Grouped b (after w (Ask t a) s).book.pairs (after w (Ask t a) s).book.acts rs) a _ h.long
    (ask t a (book.in_the_way (lock_of t s.book.acts) (cell_at s a).entries) (cell_at s a) s.book (after w (Ask t a) s).book.acts (h.long a) (acts_grow w (Ask t a) s) (locks_tell s a l) (r a))
    (booked w (Ask t a) s h (λ b u v i. more_pairs (book.in_the_way (lock_of t s.book.acts) (cell_at s a).entries) (book.met (lock_of t s.book.acts) (cell_at s a).entries) t a b u v s.book i) g)
kept w (Run t a) s h ok l r g = beside_carried (λ b rs. Grouped b s.book.pairs s.book.acts rs) a _ h.long (TrackLists.on_reads (Grouped a s.book.pairs s.book.acts) (cell.reads_on t (cell_at s a).entries) _ _ (h.long a) (HighLists.grouped_ran a s.book.pairs s.book.acts _ _ (h.long a))) g
kept w (Complete k a) s h ok l r g = beside_carried (λ b rs. Grouped b s.book.pairs s.book.acts rs) a _ h.long (HighLists.grouped_completed a s.book.pairs s.book.acts k (h.long a)) g
kept w (Rollback a) s h ok l r g = beside_carried (λ b rs. Grouped b s.book.pairs s.book.acts rs) a _ h.long (HighLists.grouped_staying a s.book.pairs s.book.acts s.book.cascades (h.long a)) g
kept w (Finish t a) s h ok l r g = λ b. by b (cases_Bool (b == a))
  where
    acts' : List Act
    acts' = (after w (Finish t a) s).book.acts

    grown_there : (b : ℕ) → Grouped b s.book.pairs acts' (h.long b)
    grown_there b = HighLists.grouped_change b s.book.pairs s.book.pairs s.book.acts acts' (h.long b) (acts_grow w (Finish t a) s) (λ u v i. i) (g b)

    by : (b : ℕ) → ((b == a) ≡ true) ⊎ ((b == a) ≡ false) → Grouped b (HighLists.pairs_left t a s.book.pairs) acts' (with_at a (if is_traceless (act_of t s.book.acts) then without_standing (OfAct t) (h.long a) else map (left_for_good (OfAct t)) (h.long a)) h.long b)
    by b (inl e) = rw e (subst (λ z. Grouped z (HighLists.pairs_left t a s.book.pairs) acts' (if is_traceless (act_of t s.book.acts) then without_standing (OfAct t) (h.long a) else map (left_for_good (OfAct t)) (h.long a))) (sym (eqb-true b a e)) (finish t a (is_traceless (act_of t s.book.acts)) s.book.pairs acts' (h.long a) (grown_there a)))
    by b (inr e) = rw e (HighLists.grouped_other t a b s.book.pairs acts' (h.long b) e (grown_there b))
kept w (Trim k a) s h ok l r g = beside_carried (λ b rs. Grouped b s.book.pairs s.book.acts rs) a _ h.long (HighLists.grouped_left a s.book.pairs s.book.acts (OfBatch k) (h.long a)) g
kept w e s h ok l r g = booked w e s h (λ b u v i. i) g

-- ---- what a pair gives

pub pair_carries : (b : Book) (a t u : ℕ) (ps : List Pair) (x y : Act) → has_pair a t u ps ≡ true → AllByRecursion (CarriesNumber b) ps → act_of t b.acts ≡ Some x → act_of u b.acts ≡ Some y → is_ordered x.status ≡ false → is_doomed y.status ≡ false → y.m ≤ x.m
pair_carries b a t u [] x y i k e f l d = absurd (true≢false (sym i))
pair_carries b a t u (p ∷ ps) x y i k e f l d = elim (or_cases (is_pair a t u p) (has_pair a t u ps) i) [
  | inl q ↦
      let v = and_parts (p.behind == t) ((p.ahead == u) && (p.actor == a)) q in
      let z = and_parts (p.ahead == u) (p.actor == a) v.1 in
      k.0 x y (subst (λ n. act_of n b.acts ≡ Some x) (sym (eqb-true p.behind t v.0)) e) (subst (λ n. act_of n b.acts ≡ Some y) (sym (eqb-true p.ahead u z.0)) f) l d
  | inr q ↦ pair_carries b a t u ps x y q k.1 e f l d
]
