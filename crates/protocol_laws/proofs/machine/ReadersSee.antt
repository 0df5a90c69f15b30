-- Where a reader ran and still stands it sees the state that the actor has, and what it stands behind is over.
use Rattle.std.specs.Prelude.{◌≡◌, refl, ℕ, ◌<◌, ◌==◌, not, Bool, true, false, ◌&&◌, ◌||◌, ◌⊎◌, if◌then◌else◌, Option, Some, None, List, [], ◌∷◌, ◌++◌, map, filter, find}
use Rattle.std.specs.List.{AllByRecursion, list_any, list_all}
use Rattle.std.proofs.Common.{sym, ap, subst, inl, inr, ◌∙◌}
use Rattle.std.proofs.lemmas.List.{append-nil}
use Rattle.std.proofs.lemmas.Bool.{true≢false, eqb-true, eq-eqb, ne_eqb, and_parts, and_from, or_cases, or_parts, or_from, cases_Bool, false_from_ne_true}
use Rattle.snap_base.specs.declared.transactions.State.{State}
use Rattle.protocol.specs.Fixed.{Fixed}
use Rattle.protocol.specs.Rivals.{Lock}
use Rattle.protocol.specs.Parts.{Act, Joined, OfAct, SubBatch, Cascade, Entry, BatchEntry, ActEntry, Cell, Machine}
use Rattle.protocol.specs.Events.{Event, Arrive, Ask, Take, Run, Send, End, Close, Complete, Rollback, Finish, Trim}
use Rattle.protocol.specs.Words.{holds, who_of, is_who, act_of, is_entry_of, is_over_for, is_clear, ahead, names_slot, is_reader_entry, is_act_entry, sub_of, lock_of}
use Rattle.protocol.specs.Contents.{complete_mark}
use Rattle.protocol.specs.Conditions.{IsAllowed, conditions, epoch}
use Rattle.protocol.specs.Effects.{after, cell_at, no_cell}
use Rattle.protocol.specs.OnBook as book
use Rattle.protocol.specs.OnCell as cell
use Rattle.protocol.specs.OnCell.{is_cut}
use Rattle.protocol.specs.History.{History, Slice, Ran, Stands, Gone, grown, with_at, read_on, view_in, last_left, is_reader_act, without_standing, long_staying}
use Rattle.protocol_laws.specs.Tracks.{key_of, keys_in, is_key_among, Differ, slices_in, InOrder, has_read}
use Rattle.protocol_laws.specs.Sees.{blocks_readers, HasNotRead, ReadersFound, SeesAt}
use Rattle.protocol_laws.specs.Turns.{Turns}
use Rattle.protocol_laws.proofs.first.Lists.{all_filter, all_join, weaker}
use Rattle.protocol_laws.proofs.machine.TrackLists
use Rattle.protocol_laws.proofs.machine.TrackLists.{without_nothing}
use Rattle.protocol_laws.proofs.machine.TracksKept.{beside, beside_same, in_range, held, arrives}
use Rattle.protocol_laws.proofs.machine.TurnsKept.{one_is}
use Rattle.protocol_laws.proofs.machine.CommitLists.{Sees}
use Rattle.protocol_laws.proofs.machine.ActsGrow.{Grows, acts_grow, grown_holds, has_place}
use Rattle.protocol_laws.proofs.machine.EntriesKept.{open_in, open_at, KeysOpen, Opened}
use Rattle.protocol_laws.proofs.machine.ReadersKept.{LockOf, Locks, read_entry}

-- ---- whose slices those of readers are

abbrev pub reads_at : ℕ → Act → Bool
reads_at a x = x.reader && has_place a x

-- they are of readers that have joined the actor
unfoldable pub ReadBy : {C : Type 0} → Machine C → History → Type 0
ReadBy s h = (a : ℕ) → AllByRecursion (λ z. holds (reads_at a) (act_of z.tid s.book.acts) ≡ true) (h.reads a)

reads_grow : (a t : ℕ) (acts acts' : List Act) → Grows acts acts' → holds (reads_at a) (act_of t acts) ≡ true → holds (reads_at a) (act_of t acts') ≡ true
reads_grow a t acts acts' g h = grown_holds (reads_at a) acts acts' t (λ x y k q. let p = and_parts x.reader (has_place a x) q in and_from y.reader (has_place a y) (k.reader ∙ p.0) (k.placed a p.1)) g h

open_place : (a : ℕ) (ps : List Joined) → open_in a ps ≡ true → list_any (λ p. p.actor == a) ps ≡ true
open_place a [] h = absurd (true≢false (sym h))
open_place a (p ∷ ps) h = by (p.actor == a) h (open_place a ps)
  where
    by : (v : Bool) → holds (λ p. not p.finished) (if v then Some p else find (λ p. p.actor == a) ps) ≡ true → (open_in a ps ≡ true → list_any (λ p. p.actor == a) ps ≡ true) → (v || list_any (λ p. p.actor == a) ps) ≡ true
    by true q k = refl
    by false q k = k q

entry_open : (a t : ℕ) (acts : List Act) (es : List Entry) → KeysOpen a acts (map key_of es) → holds is_reader_entry (find (is_entry_of t) es) ≡ true → holds (open_at a) (act_of t acts) ≡ true
entry_open a t acts [] k h = absurd (true≢false (sym h))
entry_open a t acts (BatchEntry b ∷ es) k h = by (names_slot t b) h (entry_open a t acts es k.1)
  where
    by : (v : Bool) → holds is_reader_entry (if v then Some (BatchEntry b) else find (is_entry_of t) es) ≡ true → (holds is_reader_entry (find (is_entry_of t) es) ≡ true → holds (open_at a) (act_of t acts) ≡ true) → holds (open_at a) (act_of t acts) ≡ true
    by true q r = absurd (true≢false (sym q))
    by false q r = r q
entry_open a t acts (ActEntry x ∷ es) k h = by (x.tid == t) refl h (entry_open a t acts es k.1)
  where
    by : (v : Bool) → (x.tid == t) ≡ v → holds is_reader_entry (if v then Some (ActEntry x) else find (is_entry_of t) es) ≡ true → (holds is_reader_entry (find (is_entry_of t) es) ≡ true → holds (open_at a) (act_of t acts) ≡ true) → holds (open_at a) (act_of t acts) ≡ true
    by true e q r = subst (λ n. holds (open_at a) (act_of n acts) ≡ true) (eqb-true x.tid t e) k.0
    by false e q r = r q

both_hold : (p : ℕ → Act → Bool) (a t : ℕ) (o : Option Act) → is_reader_act o ≡ true → holds (open_at a) o ≡ true → holds (reads_at a) o ≡ true
both_hold p a t None q h = absurd (true≢false (sym q))
both_hold p a t (Some x) q h = and_from x.reader (has_place a x) q (open_place a x.places h)

pub read_by_kept : {C : Type 0} (w : Fixed C) (e : Event) (s : Machine C) (h : History) → Locks s → Opened s → ReadBy s h → ReadBy (after w e s) (grown w e s h)
unfolding ReadBy Locks Opened after grown
read_by_kept w (Run t a) s h l o g = λ b. by b (cases_Bool (b == a))
  where
    ran : Slice
    ran = record { tid = t; found = (cell_at s a).state; left = (cell.slice_run w.code t a (cell_at s a)).state }

    more_of : (v : Bool) → cell.reads_on t (cell_at s a).entries ≡ v → AllByRecursion (λ z. holds (reads_at a) (act_of z.tid s.book.acts) ≡ true) (read_on v ran (h.reads a))
    more_of true e = all_join _ (h.reads a) (ran ∷ []) (g a) (both_hold reads_at a t (act_of t s.book.acts) (read_entry s.book.acts t (cell_at s a).entries (l a) e) (entry_open a t s.book.acts (cell_at s a).entries (o a) e), tt)
    more_of false e = g a

    by : (b : ℕ) → ((b == a) ≡ true) ⊎ ((b == a) ≡ false) → AllByRecursion (λ z. holds (reads_at b) (act_of z.tid s.book.acts) ≡ true) (with_at a (read_on (cell.reads_on t (cell_at s a).entries) ran (h.reads a)) h.reads b)
    by b (inl e) = rw e (subst (λ n. AllByRecursion (λ z. holds (reads_at n) (act_of z.tid s.book.acts) ≡ true) (read_on (cell.reads_on t (cell_at s a).entries) ran (h.reads a))) (sym (eqb-true b a e)) (more_of (cell.reads_on t (cell_at s a).entries) refl))
    by b (inr e) = rw e (g b)
read_by_kept w e s h l o g = λ a. weaker _ _ (h.reads a) (λ z. reads_grow a z.tid s.book.acts (after w e s).book.acts (acts_grow w e s)) (g a)

-- who is no reader has no slices there, and who has not joined the actor
pub not_read : (a t : ℕ) (acts : List Act) (zs : List Slice) → holds (reads_at a) (act_of t acts) ≡ false → AllByRecursion (λ z. holds (reads_at a) (act_of z.tid acts) ≡ true) zs → has_read zs t ≡ false
not_read a t acts [] e h = refl
not_read a t acts (z ∷ zs) e h = or_from (z.tid == t) (has_read zs t) (false_from_ne_true (z.tid == t) (λ q. true≢false (sym h.0 ∙ (ap (λ n. holds (reads_at a) (act_of n acts)) (eqb-true z.tid t q) ∙ e)))) (not_read a t acts zs e h.1)

-- ---- what readers see

unfoldable pub AllSee : {C : Type 0} → Machine C → History → Type 0
AllSee s h = (a : ℕ) → SeesAt (cell_at s a).state (h.reads a) (cell_at s a).entries

-- ---- where none has read

pub none_seen : (now : State) (t : ℕ) (zs : List Slice) → has_read zs t ≡ false → AllByRecursion (λ z. z.tid ≡ t → (z.found ≡ now) × (z.left ≡ now)) zs
none_seen now t [] h = tt
none_seen now t (z ∷ zs) h = let p = or_parts (z.tid == t) (has_read zs t) h in ((λ i. absurd (true≢false (sym (eq-eqb z.tid t i) ∙ p.0))), none_seen now t zs p.1)

unseen : (now : State) (reads : List Slice) (e : Entry) → HasNotRead reads e → ReadersFound now reads e
unseen now reads (BatchEntry b) h = tt
unseen now reads (ActEntry x) h = λ q. none_seen now x.tid reads (h q)

pub none_see : (now : State) (reads : List Slice) (es : List Entry) → AllByRecursion (HasNotRead reads) es → SeesAt now reads es
none_see now reads [] h = tt
none_see now reads (e ∷ es) h = (unseen now reads e h.0, (λ q. h.1), none_see now reads es h.1)

-- ---- entries come and go

more : (now : State) (reads : List Slice) (es : List Entry) (e : Entry) → HasNotRead reads e → SeesAt now reads es → SeesAt now reads (es ++ e ∷ [])
more now reads [] e k h = (unseen now reads e k, (λ q. tt), tt)
more now reads (x ∷ es) e k h = (h.0, (λ q. all_join (HasNotRead reads) es (e ∷ []) (h.1 q) (k, tt)), more now reads es e k h.2)

arrive : (now : State) (reads : List Slice) (k : ℕ) (o : Option SubBatch) (es : List Entry) → SeesAt now reads es → SeesAt now reads (es ++ cell.batch_entries k o)
arrive now reads k None es h = rw (append-nil es) h
arrive now reads k (Some m) es h = more now reads es _ tt h

ask : (now : State) (reads : List Slice) (t : Lock) (o : Option ℕ) (es : List Entry) → (t.reader ≡ true → has_read reads t.tid ≡ false) → SeesAt now reads es → SeesAt now reads (es ++ cell.act_entries t o)
ask now reads t None es k h = more now reads es (ActEntry t) k h
ask now reads t (Some x) es k h = rw (append-nil es) h

fewer : (now : State) (reads : List Slice) (p : Entry → Bool) (es : List Entry) → SeesAt now reads es → SeesAt now reads (filter p es)
fewer now reads p [] h = tt
fewer now reads p (e ∷ es) h = by (p e) (fewer now reads p es h.2)
  where
    by : (v : Bool) → SeesAt now reads (filter p es) → SeesAt now reads (if v then e ∷ filter p es else filter p es)
    by true k = (h.0, (λ q. all_filter (HasNotRead reads) p es (h.1 q)), k)
    by false k = k

none_staying : (reads : List Slice) (cs : List Cascade) (es : List Entry) → AllByRecursion (HasNotRead reads) es → AllByRecursion (HasNotRead reads) (cell.staying cs es)
none_staying reads cs [] h = tt
none_staying reads cs (e ∷ es) h = by (is_cut cs (who_of e)) (none_staying reads cs es h.1)
  where
    by : (v : Bool) → AllByRecursion (HasNotRead reads) (cell.staying cs es) → AllByRecursion (HasNotRead reads) (if v then [] else e ∷ cell.staying cs es)
    by true k = tt
    by false k = (h.0, k)

staying : (now : State) (reads : List Slice) (cs : List Cascade) (es : List Entry) → SeesAt now reads es → SeesAt now reads (cell.staying cs es)
staying now reads cs [] h = tt
staying now reads cs (e ∷ es) h = by (is_cut cs (who_of e)) (staying now reads cs es h.2)
  where
    by : (v : Bool) → SeesAt now reads (cell.staying cs es) → SeesAt now reads (if v then [] else e ∷ cell.staying cs es)
    by true k = tt
    by false k = (h.0, (λ q. none_staying reads cs es (h.1 q)), k)

-- marks: what does not block goes on not blocking
abbrev IsMark : (Entry → Entry) → Type 0
IsMark f = (e : Entry) → ((reads : List Slice) → HasNotRead reads e → HasNotRead reads (f e)) × ((now : State) (reads : List Slice) → ReadersFound now reads e → ReadersFound now reads (f e)) × (blocks_readers (f e) ≡ true → blocks_readers e ≡ true)

none_marked : (reads : List Slice) (f : Entry → Entry) (es : List Entry) → IsMark f → AllByRecursion (HasNotRead reads) es → AllByRecursion (HasNotRead reads) (map f es)
none_marked reads f [] k h = tt
none_marked reads f (e ∷ es) k h = ((k e).0 reads h.0, none_marked reads f es k h.1)

marked : (now : State) (reads : List Slice) (f : Entry → Entry) (es : List Entry) → IsMark f → SeesAt now reads es → SeesAt now reads (map f es)
marked now reads f [] k h = tt
marked now reads f (e ∷ es) k h = ((k e).1 now reads h.0, (λ q. none_marked reads f es k (h.1 ((k e).2 q))), marked now reads f es k h.2)

done_mark : (t : ℕ) → IsMark (cell.done_in t)
done_mark t (BatchEntry b) = ((λ r h. tt), (λ n r h. tt), (λ q. q))
done_mark t (ActEntry x) = ((λ r h. h), (λ n r h. h), (λ q. q))

complete_mark_is : (k : ℕ) → IsMark (cell.complete_in k)
complete_mark_is k (BatchEntry b) = ((λ r h. tt), (λ n r h. tt), (λ q. by b.complete (b.bid == k) q))
  where
    by : (v u : Bool) → not (v || u) ≡ true → not v ≡ true
    by true u q = q
    by false u q = refl
complete_mark_is k (ActEntry x) = ((λ r h. h), (λ n r h. h), (λ q. q))

done : (now : State) (reads : List Slice) (t : ℕ) (b : Bool) (es : List Entry) → SeesAt now reads es → SeesAt now reads (if b then map (cell.done_in t) es else es)
done now reads t true es h = marked now reads (cell.done_in t) es (done_mark t) h
done now reads t false es h = h

-- ---- a reader runs

read_others : (zs : List Slice) (x : Slice) (u : ℕ) → (x.tid == u) ≡ false → has_read zs u ≡ false → has_read (zs ++ x ∷ []) u ≡ false
read_others [] x u e h = or_from (x.tid == u) false e refl
read_others (z ∷ zs) x u e h = let p = or_parts (z.tid == u) (has_read zs u) h in or_from (z.tid == u) (has_read (zs ++ x ∷ []) u) p.0 (read_others zs x u e p.1)

seen_more : (now : State) (zs : List Slice) (x : Slice) (e : Entry) → x.found ≡ now → x.left ≡ now → ReadersFound now zs e → ReadersFound now (zs ++ x ∷ []) e
seen_more now zs x (BatchEntry b) f l h = tt
seen_more now zs x (ActEntry y) f l h = λ q. all_join _ zs (x ∷ []) (h q) ((λ i. (f, l)), tt)

none_others : (zs : List Slice) (x : Slice) (es : List Entry) → is_key_among (OfAct x.tid) (map key_of es) ≡ false → AllByRecursion (HasNotRead zs) es → AllByRecursion (HasNotRead (zs ++ x ∷ [])) es
none_others zs x [] e h = tt
none_others zs x (BatchEntry b ∷ es) e h = (tt, none_others zs x es e h.1)
none_others zs x (ActEntry y ∷ es) e h =
    let p = or_parts (y.tid == x.tid) (is_key_among (OfAct x.tid) (map key_of es)) e in
    ((λ q. read_others zs x y.tid (ne_eqb x.tid y.tid (λ i. true≢false (sym (eq-eqb y.tid x.tid (sym i)) ∙ p.0))) (h.0 q)), none_others zs x es p.1 h.1)

others : (now : State) (zs : List Slice) (x : Slice) (es : List Entry) → x.found ≡ now → x.left ≡ now → is_key_among (OfAct x.tid) (map key_of es) ≡ false → SeesAt now zs es → SeesAt now (zs ++ x ∷ []) es
others now zs x [] f l e h = tt
others now zs x (y ∷ es) f l e h =
    let p = or_parts (is_who (who_of y) (OfAct x.tid)) (is_key_among (OfAct x.tid) (map key_of es)) e in
    (seen_more now zs x y f l h.0, (λ q. none_others zs x es p.1 (h.1 q)), others now zs x es f l p.1 h.2)

over_reader : (own y : Entry) → is_reader_entry own ≡ true → is_over_for own y ≡ true → blocks_readers y ≡ false
over_reader (BatchEntry b) y r h = absurd (true≢false (sym r))
over_reader (ActEntry x) (BatchEntry d) r h = ap not h
over_reader (ActEntry x) (ActEntry z) r h = by x.reader z.reader r h
  where
    by : (v u : Bool) → v ≡ true → not (not (v && u)) ≡ true → not u ≡ false
    by true true q k = refl
    by true false q k = absurd (true≢false (sym k))
    by false u q k = absurd (true≢false (sym q))

reader_runs : (now : State) (zs : List Slice) (x : Slice) (own : Entry) (es : List Entry) → x.found ≡ now → x.left ≡ now → Differ (map key_of es) → find (is_entry_of x.tid) es ≡ Some own → is_reader_entry own ≡ true → list_all (is_over_for own) (ahead (is_entry_of x.tid) es) ≡ true
    → SeesAt now zs es → SeesAt now (zs ++ x ∷ []) es
reader_runs now zs x own [] f l d i r o h = tt
reader_runs now zs x own (y ∷ es) f l d i r o h = by (is_entry_of x.tid y) refl i o (λ j p. reader_runs now zs x own es f l d.1 j r p h.2)
  where
    at : (y : Entry) → is_entry_of x.tid y ≡ true → is_reader_entry y ≡ true → (blocks_readers y ≡ false) × (who_of y ≡ OfAct x.tid)
    at (BatchEntry b) e v = absurd (true≢false (sym v))
    at (ActEntry z) e v = (ap not v, ap OfAct (eqb-true z.tid x.tid e))

    by : (v : Bool) → is_entry_of x.tid y ≡ v → (if v then Some y else find (is_entry_of x.tid) es) ≡ Some own → list_all (is_over_for own) (if v then [] else y ∷ ahead (is_entry_of x.tid) es) ≡ true
        → (find (is_entry_of x.tid) es ≡ Some own → list_all (is_over_for own) (ahead (is_entry_of x.tid) es) ≡ true → SeesAt now (zs ++ x ∷ []) es) → SeesAt now (zs ++ x ∷ []) (y ∷ es)
    by true e i o k =
        let same : y ≡ own = cc i in
        let p = at y e (ap is_reader_entry same ∙ r) in
        (seen_more now zs x y f l h.0, (λ q. absurd (true≢false (sym q ∙ p.0))), others now zs x es f l (subst (λ z. is_key_among z (map key_of es) ≡ false) p.1 d.0) h.2)
    by false e i o k = let p = and_parts (is_over_for own y) (list_all (is_over_for own) (ahead (is_entry_of x.tid) es)) o in (seen_more now zs x y f l h.0, (λ q. absurd (true≢false (sym q ∙ over_reader own y r p.0))), k i p.1)

-- ---- another one runs: no reader that stands there has run

over_other : (zs : List Slice) (own y : Entry) → is_reader_entry own ≡ false → complete_mark own ≡ false → is_over_for own y ≡ true → HasNotRead zs y
over_other zs (BatchEntry b) (BatchEntry d) r c h = tt
over_other zs (BatchEntry b) (ActEntry z) r c h = absurd (true≢false (sym h))
over_other zs (ActEntry x) (BatchEntry d) r c h = tt
over_other zs (ActEntry x) (ActEntry z) r c h = by x.reader z.reader r h
  where
    by : (v u : Bool) → v ≡ false → not (not (v && u)) ≡ true → u ≡ true → has_read zs z.tid ≡ false
    by true u q k e = absurd (true≢false q)
    by false u q k e = absurd (true≢false (sym k))

other_runs : (now : State) (zs : List Slice) (t : ℕ) (own : Entry) (es : List Entry) → find (is_entry_of t) es ≡ Some own → is_reader_entry own ≡ false → complete_mark own ≡ false → list_all (is_over_for own) (ahead (is_entry_of t) es) ≡ true
    → SeesAt now zs es → AllByRecursion (HasNotRead zs) es
other_runs now zs t own [] i r c o h = tt
other_runs now zs t own (y ∷ es) i r c o h = by (is_entry_of t y) refl i o (λ j p. other_runs now zs t own es j r c p h.2)
  where
    at : (y : Entry) → is_reader_entry y ≡ false → complete_mark y ≡ false → HasNotRead zs y × (blocks_readers y ≡ true)
    at (BatchEntry b) v q = (tt, ap not q)
    at (ActEntry z) v q = ((λ e. absurd (true≢false (sym e ∙ v))), ap not v)

    by : (v : Bool) → is_entry_of t y ≡ v → (if v then Some y else find (is_entry_of t) es) ≡ Some own → list_all (is_over_for own) (if v then [] else y ∷ ahead (is_entry_of t) es) ≡ true
        → (find (is_entry_of t) es ≡ Some own → list_all (is_over_for own) (ahead (is_entry_of t) es) ≡ true → AllByRecursion (HasNotRead zs) es) → AllByRecursion (HasNotRead zs) (y ∷ es)
    by true e i o k = let same : y ≡ own = cc i in let p = at y (ap is_reader_entry same ∙ r) (ap complete_mark same ∙ c) in (p.0, h.1 p.1)
    by false e i o k = let p = and_parts (is_over_for own y) (list_all (is_over_for own) (ahead (is_entry_of t) es)) o in (over_other zs own y r c p.0, k i p.1)

-- ---- the state changes by an undo: then no reader that stands there has run

abbrev pub has_run : List Slice → Entry → Bool
has_run zs (BatchEntry b) = false
has_run zs (ActEntry x) = x.reader && has_read zs x.tid

none_run : (zs : List Slice) (es : List Entry) → list_any (has_run zs) es ≡ false → AllByRecursion (HasNotRead zs) es
none_run zs [] h = tt
none_run zs (e ∷ es) h = let p = or_parts (has_run zs e) (list_any (has_run zs) es) h in (at e p.0, none_run zs es p.1)
  where
    and_second : (r u : Bool) → r ≡ true → (r && u) ≡ false → u ≡ false
    and_second true u v q = q
    and_second false u v q = absurd (true≢false (sym v))

    at : (e : Entry) → has_run zs e ≡ false → HasNotRead zs e
    at (BatchEntry b) q = tt
    at (ActEntry x) q = λ v. and_second x.reader (has_read zs x.tid) v q

none_any : (zs : List Slice) (es : List Entry) → AllByRecursion (HasNotRead zs) es → list_any (has_run zs) es ≡ false
none_any zs [] h = refl
none_any zs (BatchEntry b ∷ es) h = none_any zs es h.1
none_any zs (ActEntry x ∷ es) h = or_from (x.reader && has_read zs x.tid) (list_any (has_run zs) es) (by x.reader (has_read zs x.tid) h.0) (none_any zs es h.1)
  where
    by : (r u : Bool) → (r ≡ true → u ≡ false) → (r && u) ≡ false
    by true u k = k refl
    by false u k = refl

-- who stands on the long schedule, beside its entry
abbrev pub Lined : List Ran → List Entry → Type 0
Lined [] [] = Unit {0}
Lined [] (e ∷ es) = ⊥
Lined (Gone y ss ∷ rs) es = Lined rs es
Lined (Stands y c ss ∷ rs) [] = ⊥
Lined (Stands y c ss ∷ rs) (e ∷ es) = (who_of e ≡ y) × (c ≡ complete_mark e) × (is_reader_entry e ≡ true → ss ≡ []) × Lined rs es

pub lined : (rs : List Ran) (es : List Entry) → Turns rs es → map key_of es ≡ keys_in rs → Lined rs es
lined [] [] h k = tt
lined [] (e ∷ es) h k = absurd h
lined (Gone y ss ∷ rs) es h k = lined rs es h k
lined (Stands y c ss ∷ rs) [] h k = absurd h
lined (Stands y c ss ∷ rs) (e ∷ es) h k =
    let one : key_of e ≡ record { who = y; complete = c } = cc k in
    let rest : map key_of es ≡ keys_in rs = cc k in
    (h.0, ap (λ z. z.complete) (sym one), at e h.1, lined rs es h.2 rest)
  where
    at : (e : Entry) → Rattle.protocol_laws.specs.Turns.TurnOf e ss → is_reader_entry e ≡ true → ss ≡ []
    at (BatchEntry b) t q = absurd (true≢false (sym q))
    at (ActEntry x) t q = t.1 q

run_open : (zs : List Slice) (e : Entry) → has_run zs e ≡ true → complete_mark e ≡ false
run_open zs (BatchEntry b) h = absurd (true≢false (sym h))
run_open zs (ActEntry x) h = refl

pub rollback_same : (cs : List Cascade) (zs : List Slice) (rs : List Ran) (es : List Entry) → Lined rs es → InOrder rs → list_any (has_run zs) (cell.staying cs es) ≡ true → slices_in (long_staying cs rs) ≡ slices_in rs
rollback_same cs zs [] es l o h = refl
rollback_same cs zs (Gone y ss ∷ rs) es l o h = ap (λ z. ss ++ z) (rollback_same cs zs rs es l o h)
rollback_same cs zs (Stands y c ss ∷ rs) [] l o h = absurd l
rollback_same cs zs (Stands y c ss ∷ rs) (e ∷ es) l o h = by (is_cut cs y) (subst (λ z. list_any (has_run zs) (if is_cut cs z then [] else e ∷ cell.staying cs es) ≡ true) l.0 h) (rollback_same cs zs rs es l.3 o.1)
  where
    by : (v : Bool) → list_any (has_run zs) (if v then [] else e ∷ cell.staying cs es) ≡ true → (list_any (has_run zs) (cell.staying cs es) ≡ true → slices_in (long_staying cs rs) ≡ slices_in rs)
        → slices_in (if v then [] else Stands y c ss ∷ long_staying cs rs) ≡ ss ++ slices_in rs
    by true q k = absurd (true≢false (sym q))
    by false q k = ap (λ z. ss ++ z) (elim (or_cases (has_run zs e) (list_any (has_run zs) (cell.staying cs es)) q) [
      | inl r ↦ let none : slices_in rs ≡ [] = o.0 (l.1 ∙ run_open zs e r) in TrackLists.staying_nothing cs rs none ∙ sym none
      | inr r ↦ k r
    ])

pub finish_same : (t : ℕ) (now : State) (zs : List Slice) (rs : List Ran) (es : List Entry) → Lined rs es → InOrder rs → SeesAt now zs es → list_any (has_run zs) (filter (λ e. not (is_act_entry t e)) es) ≡ true → slices_in (without_standing (OfAct t) rs) ≡ slices_in rs
finish_same t now zs [] es l o g h = refl
finish_same t now zs (Gone y ss ∷ rs) es l o g h = ap (λ z. ss ++ z) (finish_same t now zs rs es l o g h)
finish_same t now zs (Stands y c ss ∷ rs) [] l o g h = absurd l
finish_same t now zs (Stands y c ss ∷ rs) (e ∷ es) l o g h = by (is_act_entry t e) (ap (λ z. is_who z (OfAct t)) (sym l.0) ∙ own e) refl h (finish_same t now zs rs es l.3 o.1 g.2)
  where
    own : (e : Entry) → is_who (who_of e) (OfAct t) ≡ is_act_entry t e
    own (BatchEntry b) = refl
    own (ActEntry x) = refl

    reads_or : (e : Entry) → is_act_entry t e ≡ true → (is_reader_entry e ≡ true) ⊎ (blocks_readers e ≡ true)
    reads_or (BatchEntry b) q = absurd (true≢false (sym q))
    reads_or (ActEntry x) q = elim (cases_Bool x.reader) [ inl r ↦ inl r | inr r ↦ inr (ap not r) ]

    by : (v : Bool) → is_who y (OfAct t) ≡ v → is_act_entry t e ≡ v → list_any (has_run zs) (if not v then e ∷ filter (λ e. not (is_act_entry t e)) es else filter (λ e. not (is_act_entry t e)) es) ≡ true
        → (list_any (has_run zs) (filter (λ e. not (is_act_entry t e)) es) ≡ true → slices_in (without_standing (OfAct t) rs) ≡ slices_in rs)
        → slices_in (if is_who y (OfAct t) then without_standing (OfAct t) rs else Stands y c ss ∷ without_standing (OfAct t) rs) ≡ ss ++ slices_in rs
    by true i j q k = rw i (elim (reads_or e j) [
      | inl r ↦ k q ∙ ap (λ z. z ++ slices_in rs) (sym (l.2 r))
      | inr r ↦ absurd (true≢false (sym q ∙ none_any zs (filter (λ e. not (is_act_entry t e)) es) (all_filter (HasNotRead zs) (λ e. not (is_act_entry t e)) es (g.1 r))))
    ])
    by false i j q k = rw i (ap (λ z. ss ++ z) (elim (or_cases (has_run zs e) (list_any (has_run zs) (filter (λ e. not (is_act_entry t e)) es)) q) [
      | inl r ↦ let none : slices_in rs ≡ [] = o.0 (l.1 ∙ run_open zs e r) in without_nothing (OfAct t) rs none ∙ sym none
      | inr r ↦ k r
    ]))

-- another state, where it is the same or none has run
changes : (now new : State) (zs : List Slice) (es : List Entry) → (list_any (has_run zs) es ≡ true → new ≡ now) → SeesAt now zs es → SeesAt new zs es
changes now new zs es k h = elim (cases_Bool (list_any (has_run zs) es)) [
  | inl r ↦ subst (λ z. SeesAt z zs es) (sym (k r)) h
  | inr r ↦ none_see new zs es (none_run zs es r)
]

-- ---- all events

-- What is taken from other invariants.
unfoldable pub Owed : {C : Type 0} → Fixed C → Event → Machine C → History → Type 0
-- an ACT that asks has not run there
Owed w (Ask t a) s h = has_read (h.reads a) t ≡ false
Owed w (Run t a) s h = Rattle.protocol_laws.proofs.machine.TracksKept.LeavesIt w t a s × ((e : Entry) → find (is_entry_of t) (cell_at s a).entries ≡ Some e → complete_mark e ≡ false) × Differ (map key_of (cell_at s a).entries)
-- where a reader that ran stays, the state stays
Owed w (Rollback a) s h = list_any (has_run (h.reads a)) (cell.staying s.book.cascades (cell_at s a).entries) ≡ true → (cell.rolled_back s.book.cascades (cell_at s a)).state ≡ (cell_at s a).state
Owed w (Finish t a) s h = (a < Rattle.std.specs.Prelude.length s.cells) × (list_any (has_run (h.reads a)) (filter (λ e. not (is_act_entry t e)) (cell_at s a).entries) ≡ true → (cell.act_left t (act_of t s.book.acts) (cell_at s a)).state ≡ (cell_at s a).state)
Owed w (Trim k a) s h = a < Rattle.std.specs.Prelude.length s.cells
Owed w _ s h = Unit {0}

abbrev At : {C : Type 0} → ℕ → Cell C → List Slice → Type 0
At a c zs = SeesAt c.state zs c.entries

run : {C : Type 0} (w : Fixed C) (t a : ℕ) (s : Machine C) (h : History) → holds (λ own. list_all (is_over_for own) (ahead (is_entry_of t) (cell_at s a).entries)) (find (is_entry_of t) (cell_at s a).entries) ≡ true → Owed w (Run t a) s h → At a (cell_at s a) (h.reads a)
    → At a (cell.slice_run w.code t a (cell_at s a)) (read_on (cell.reads_on t (cell_at s a).entries) (record { tid = t; found = (cell_at s a).state; left = (cell.slice_run w.code t a (cell_at s a)).state }) (h.reads a))
unfolding Owed
run w t a s h q o g = done _ _ t (cell.is_done_after w.code a (cell.slice_of w.code t (cell_at s a))) (cell_at s a).entries (more_of (cell.reads_on t (cell_at s a).entries) refl (one_is (λ own. list_all (is_over_for own) (ahead (is_entry_of t) (cell_at s a).entries)) (find (is_entry_of t) (cell_at s a).entries) q))
  where
    now : State
    now = (cell_at s a).state

    new : State
    new = (cell.slice_run w.code t a (cell_at s a)).state

    ran : Slice
    ran = record { tid = t; found = now; left = new }

    more_of : (v : Bool) → cell.reads_on t (cell_at s a).entries ≡ v → (own : Entry) × (find (is_entry_of t) (cell_at s a).entries ≡ Some own) × (list_all (is_over_for own) (ahead (is_entry_of t) (cell_at s a).entries) ≡ true) → SeesAt new (read_on v ran (h.reads a)) (cell_at s a).entries
    more_of true e p = subst (λ z. SeesAt z (h.reads a ++ ran ∷ []) (cell_at s a).entries) (sym (o.0 e)) (reader_runs now (h.reads a) ran p.0 (cell_at s a).entries refl (o.0 e) o.2 p.1 (subst (λ z. holds is_reader_entry z ≡ true) p.1 e) p.2 g)
    more_of false e p = none_see new (h.reads a) (cell_at s a).entries (other_runs now (h.reads a) t p.0 (cell_at s a).entries p.1 (subst (λ z. holds is_reader_entry z ≡ false) p.1 e) (o.1 p.0 p.1) p.2 g)

pub see_kept : {C : Type 0} (w : Fixed C) (e : Event) (s : Machine C) (h : History) → IsAllowed w e s → Owed w e s h → AllSee s h → AllSee (after w e s) (grown w e s h)
unfolding AllSee Owed conditions after grown
see_kept w (Arrive k a) s h ok o g = beside_same At s.cells a _ h.reads (arrives (epoch s.book) a (λ c. c.epoch == epoch s.book) s.cells (sub_of k a s.post.subs) ok.1.1.0) (arrive _ _ k (sub_of k a s.post.subs) (cell_at s a).entries) g
see_kept w (Ask t a) s h ok o g = beside_same At s.cells a _ h.reads (in_range _ s.cells a ok.1.1.0) (ask _ _ (lock_of t s.book.acts) (book.in_the_way (lock_of t s.book.acts) (cell_at s a).entries) (cell_at s a).entries (λ q. o)) g
see_kept w (Take t a) s h ok o g = beside_same At s.cells a _ h.reads (in_range _ s.cells a ok.1.0) (λ x. x) g
see_kept w (Run t a) s h ok o g = beside At s.cells a _ _ h.reads (in_range _ s.cells a ok.0) (run w t a s h (held (λ c. is_clear t c.entries) s.cells a no_cell ok.1.0) o) g
see_kept w (Send t a) s h ok o g = beside_same At s.cells a _ h.reads (in_range _ s.cells a ok.0) (λ x. x) g
see_kept w (End t a) s h ok o g = beside_same At s.cells a _ h.reads (in_range _ s.cells a ok.0) (λ x. x) g
see_kept w (Close t a) s h ok o g = beside_same At s.cells a _ h.reads (in_range _ s.cells a ok.1.0) (done _ _ t true (cell_at s a).entries) g
see_kept w (Complete k a) s h ok o g = beside_same At s.cells a _ h.reads (in_range _ s.cells a ok.0) (marked _ _ (cell.complete_in k) (cell_at s a).entries (complete_mark_is k)) g
see_kept w (Rollback a) s h ok o g = beside_same At s.cells a _ h.reads (in_range _ s.cells a ok.0) (λ x. changes _ _ (h.reads a) _ o (staying _ _ s.book.cascades (cell_at s a).entries x)) g
see_kept w (Finish t a) s h ok o g = beside_same At s.cells a _ h.reads o.0 (λ x. changes _ _ (h.reads a) _ o.1 (fewer _ _ (λ e. not (is_act_entry t e)) (cell_at s a).entries x)) g
see_kept w (Trim k a) s h ok o g = beside_same At s.cells a _ h.reads o (fewer _ _ _ (cell_at s a).entries) g
see_kept w e s h ok o g = g

-- ---- what one of them saw

last_seen : (now s : State) (t : ℕ) (zs : List Slice) → s ≡ now → AllByRecursion (λ z. z.tid ≡ t → (z.found ≡ now) × (z.left ≡ now)) zs → last_left t s zs ≡ now
last_seen now s t [] e h = e
last_seen now s t (z ∷ zs) e h = by (z.tid == t) refl (λ k. last_seen now z.left t zs k h.1) (last_seen now s t zs e h.1)
  where
    by : (v : Bool) → (z.tid == t) ≡ v → (z.left ≡ now → last_left t z.left zs ≡ now) → last_left t s zs ≡ now → last_left t (if v then z.left else s) zs ≡ now
    by true q l r = l (h.0 (eqb-true z.tid t q)).1
    by false q l r = r

pub view_sees : (now : State) (t : ℕ) (zs : List Slice) → AllByRecursion (λ z. z.tid ≡ t → (z.found ≡ now) × (z.left ≡ now)) zs → Sees now (view_in t zs)
view_sees now t [] h = tt
view_sees now t (z ∷ zs) h = by (z.tid == t) refl (view_sees now t zs h.1)
  where
    by : (v : Bool) → (z.tid == t) ≡ v → Sees now (view_in t zs) → Sees now (if v then Some (record { found = z.found; left = last_left t z.left zs }) else view_in t zs)
    by true q r = let p = h.0 (eqb-true z.tid t q) in (p.0, last_seen now z.left t zs p.1 h.1)
    by false q r = r

pub no_view : (t : ℕ) (zs : List Slice) → has_read zs t ≡ false → view_in t zs ≡ None
no_view t [] h = refl
no_view t (z ∷ zs) h = let p = or_parts (z.tid == t) (has_read zs t) h in rw p.0 (no_view t zs p.1)

-- the entry of a reader tells what its slices saw
pub entry_sees : (acts : List Act) (now : State) (t : ℕ) (zs : List Slice) (es : List Entry) → AllByRecursion (LockOf acts) es → is_reader_act (act_of t acts) ≡ true → is_key_among (OfAct t) (map key_of es) ≡ true → SeesAt now zs es → AllByRecursion (λ z. z.tid ≡ t → (z.found ≡ now) × (z.left ≡ now)) zs
entry_sees acts now t zs [] l r i h = absurd (true≢false (sym i))
entry_sees acts now t zs (BatchEntry b ∷ es) l r i h = entry_sees acts now t zs es l.1 r i h.2
entry_sees acts now t zs (ActEntry x ∷ es) l r i h = elim (or_cases (x.tid == t) (is_key_among (OfAct t) (map key_of es)) i) [
  | inl q ↦
      let j : x.tid ≡ t = eqb-true x.tid t q in
      let v : x.reader ≡ true = sym (Rattle.protocol_laws.proofs.machine.ReadersKept.reader_of x.reader (act_of x.tid acts) l.0) ∙ subst (λ n. is_reader_act (act_of n acts) ≡ true) (sym j) r in
      subst (λ n. AllByRecursion (λ z. z.tid ≡ n → (z.found ≡ now) × (z.left ≡ now)) zs) j (h.0 v)
  | inr q ↦ entry_sees acts now t zs es l.1 r q h.2
]

-- none of those has read
pub none_has : (acts : List Act) (t : ℕ) (zs : List Slice) (es : List Entry) → AllByRecursion (LockOf acts) es → is_reader_act (act_of t acts) ≡ true → is_key_among (OfAct t) (map key_of es) ≡ true → AllByRecursion (HasNotRead zs) es → has_read zs t ≡ false
none_has acts t zs [] l r i h = absurd (true≢false (sym i))
none_has acts t zs (BatchEntry b ∷ es) l r i h = none_has acts t zs es l.1 r i h.1
none_has acts t zs (ActEntry x ∷ es) l r i h = elim (or_cases (x.tid == t) (is_key_among (OfAct t) (map key_of es)) i) [
  | inl q ↦
      let j : x.tid ≡ t = eqb-true x.tid t q in
      let v : x.reader ≡ true = sym (Rattle.protocol_laws.proofs.machine.ReadersKept.reader_of x.reader (act_of x.tid acts) l.0) ∙ subst (λ n. is_reader_act (act_of n acts) ≡ true) (sym j) r in
      subst (λ n. has_read zs n ≡ false) j (h.0 v)
  | inr q ↦ none_has acts t zs es l.1 r q h.1
]
