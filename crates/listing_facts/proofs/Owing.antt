-- A PACT stands on an actor only where it has declared the actor: so does the plan of its batch have it, and from there a sub-batch
-- goes to the actor's schedule.
use Rattle.std.specs.Prelude.{◌≡◌, refl, ℕ, zero, suc, ◌+◌, ◌<◌, ◌≤◌, ◌==◌, Bool, true, false, not, ◌&&◌, ◌||◌, if◌then◌else◌, Option, Some, None, List, [], ◌∷◌, ◌++◌, length, map, filter, find, slice_get, slice_set, slice_index_or, take}
use Rattle.std.specs.List.{AllByRecursion, list_any}
use Rattle.std.proofs.Common.{arith, ap, sym, subst, ◌∙◌, inl, inr}
use Rattle.std.proofs.lemmas.Bool.{true≢false, eqb-true, eq-eqb, ne_eqb, and_parts, or_cases}
use Rattle.snap_base.specs.declared.transactions.State.{State}
use Rattle.protocol.specs.Fixed.{Text, Fixed, base, declared, tx_at}
use Rattle.protocol.specs.Parts.{Ring, Pact, Batch, Slot, Entry, BatchEntry, ActEntry, SubBatch, Cell, Cascade, Machine}
use Rattle.protocol.specs.Events.{Event, Submit, Pass, Form, Admit, Arrive, Ask, Take, Run, Send, End, Close, Complete, Sync, Note, Commit, Settle, Abort, Rollback, DropSub, DropControl, Prepare, Vouch, Decide, Seal, Finish, Reply, Trim}
use Rattle.protocol.specs.Words.{holds, is_among, names_pact, sub_of, is_undone, has_undone, is_act_entry, is_batch_entry, who_of}
use Rattle.protocol.specs.Conditions.{cell_is, queue}
use Rattle.protocol.specs.Contents.{Content, NextTid, Subs, BatchTids, BatchTxs, EntryTids, slot_tids, IsSame, is_changed}
use Rattle.protocol.specs.Effects.{after, cell_at, no_cell}
use Rattle.protocol.specs.OnRing.{numbered, next_pacts, next_actors, next_tids_on, first_sub, declares}
use Rattle.protocol.specs.OnDesk.{new_batch}
use Rattle.protocol.specs.Rivals.{Lock}
use Rattle.protocol.specs.OnCell.{batch_entries, act_entries, not_done, staying, is_cut}
use Rattle.protocol.specs.Runs.{opening, new_cell, reached, state_after}
use Rattle.protocol_laws.proofs.first.Lists.{all_join, all_filter, weaker, all_found, all_map, set_each}
use Rattle.batch_table.specs.Listed.{tx_named, pact_tx}
use Rattle.listing_facts.specs.Owing.{UndoneHaveDeclared}

-- the transaction, where there is one, has declared the actor
abbrev by : Text → ℕ → Option ℕ → Bool
by w a n = holds (λ m. is_among a (declared (tx_at w m))) n

abbrev Declares : Text → List Batch → ℕ → ℕ → Type 0
Declares w bs a t = by w a (pact_tx t bs) ≡ true

abbrev tids_of : Batch → List ℕ
tids_of b = map (λ p. p.tid) b.pacts

abbrev txs_of : Batch → List ℕ
txs_of b = map (λ p. p.tx) b.pacts

abbrev tids_on : {C : Type 0} → Cell C → List (List ℕ)
tids_on c = map slot_tids c.entries

-- all tids of batches were drawn, and whoever is on its way to an actor, or stands there, has declared it
record Stands {C : Type 0} (w : Fixed C) (s : Machine C) : Type 0 where
  pub drawn : AllByRecursion (AllByRecursion (λ t. t < s.ring.next_tid)) (map tids_of s.desk.batches)
  pub under_way : AllByRecursion (λ m. AllByRecursion (Declares w.text s.desk.batches m.actor) m.tids) s.post.subs
  pub placed : (a : ℕ) → AllByRecursion (AllByRecursion (Declares w.text s.desk.batches a)) (slice_index_or (map tids_on s.cells) a [])

-- ---- batches alike

named_alike : (t : ℕ) (ps qs : List Pact) → map (λ p. p.tid) qs ≡ map (λ p. p.tid) ps → list_any (λ p. p.tid == t) qs ≡ list_any (λ p. p.tid == t) ps
named_alike t [] [] e = refl
named_alike t [] (q ∷ qs) e = absurd (cc e)
named_alike t (p ∷ ps) [] e = absurd (cc e)
named_alike t (p ∷ ps) (q ∷ qs) e =
    let same : q.tid ≡ p.tid = cc e in
    let more : map (λ p. p.tid) qs ≡ map (λ p. p.tid) ps = cc e in
    rw (same, named_alike t ps qs more) refl

tx_alike : (t : ℕ) (ps qs : List Pact) → map (λ p. p.tid) qs ≡ map (λ p. p.tid) ps → map (λ p. p.tx) qs ≡ map (λ p. p.tx) ps → tx_named t qs ≡ tx_named t ps
tx_alike t [] [] e i = refl
tx_alike t [] (q ∷ qs) e i = absurd (cc e)
tx_alike t (p ∷ ps) [] e i = absurd (cc e)
tx_alike t (p ∷ ps) (q ∷ qs) e i =
    let same : q.tid ≡ p.tid = cc e in
    let also : q.tx ≡ p.tx = cc i in
    let more : map (λ p. p.tid) qs ≡ map (λ p. p.tid) ps = cc e in
    let rest : map (λ p. p.tx) qs ≡ map (λ p. p.tx) ps = cc i in
    rw (same, also, tx_alike t ps qs more rest) refl

pact_alike : (t : ℕ) (bs cs : List Batch) → map tids_of cs ≡ map tids_of bs → map txs_of cs ≡ map txs_of bs → pact_tx t cs ≡ pact_tx t bs
pact_alike t [] [] e i = refl
pact_alike t [] (c ∷ cs) e i = absurd (cc e)
pact_alike t (b ∷ bs) [] e i = absurd (cc e)
pact_alike t (b ∷ bs) (c ∷ cs) e i =
    let same : tids_of c ≡ tids_of b = cc e in
    let also : txs_of c ≡ txs_of b = cc i in
    let more : map tids_of cs ≡ map tids_of bs = cc e in
    let rest : map txs_of cs ≡ map txs_of bs = cc i in
    rw (named_alike t b.pacts c.pacts same, tx_alike t b.pacts c.pacts same also, pact_alike t bs cs more rest) refl

-- ---- one batch more

found_before : (w : Text) (a t : ℕ) (bs cs : List Batch) → Declares w bs a t → Declares w (bs ++ cs) a t
found_before w a t [] cs h = absurd (true≢false (sym h))
found_before w a t (b ∷ bs) cs h = one (names_pact t b) h (found_before w a t bs cs)
  where
    one : (v : Bool) → by w a (if v then tx_named t b.pacts else pact_tx t bs) ≡ true → (Declares w bs a t → Declares w (bs ++ cs) a t) → by w a (if v then tx_named t b.pacts else pact_tx t (bs ++ cs)) ≡ true
    one true g r = g
    one false g r = r g

unnamed_below : (n t : ℕ) (ps : List Pact) → n ≤ t → AllByRecursion (λ u. u < n) (map (λ p. p.tid) ps) → list_any (λ p. p.tid == t) ps ≡ false
unnamed_below n t [] l h = refl
unnamed_below n t (p ∷ ps) l h = rw (ne_eqb p.tid t (λ e. omega (arith, e, l, h.0)), unnamed_below n t ps l h.1) refl

found_behind : (w : Text) (a n t : ℕ) (bs : List Batch) (b : Batch) → n ≤ t → AllByRecursion (AllByRecursion (λ u. u < n)) (map tids_of bs) → names_pact t b ≡ true → by w a (tx_named t b.pacts) ≡ true → Declares w (bs ++ b ∷ []) a t
found_behind w a n t [] b l h named has = rw named has
found_behind w a n t (x ∷ bs) b l h named has = rw (unnamed_below n t x.pacts l h.0) (found_behind w a n t bs b l h.1 named has)

-- ---- the batch that is formed

-- a tid from this one on, of a PACT that has declared the actor
record IsNew (w : Text) (a n : ℕ) (ps : List Pact) (t : ℕ) : Type 0 where
  pub drawn : n ≤ t
  pub named : list_any (λ p. p.tid == t) ps ≡ true
  pub declares : by w a (tx_named t ps) ≡ true

later : (w : Text) (a n : ℕ) (p : Pact) (ps : List Pact) (t : ℕ) → p.tid ≡ n → IsNew w a (n + 1) ps t → IsNew w a n (p ∷ ps) t
later w a n p ps t e h =
    let other : (p.tid == t) ≡ false = ne_eqb p.tid t (λ i. omega (arith, e, i, h.drawn)) in
    record { drawn = omega (arith, h.drawn); named = rw other h.named; declares = rw other h.declares }

new_tids : (w : Text) (a n : ℕ) (xs : List ℕ) → AllByRecursion (IsNew w a n (numbered n xs)) (map (λ p. p.tid) (filter (declares w a) (numbered n xs)))
new_tids w a n [] = tt
new_tids w a n (x ∷ xs) = one (is_among a (declared (tx_at w x))) refl (new_tids w a (n + 1) xs)
  where
    first : Pact
    first = record { tid = n; tx = x; result = None }

    rest : AllByRecursion (IsNew w a (n + 1) (numbered (n + 1) xs)) (map (λ p. p.tid) (filter (declares w a) (numbered (n + 1) xs))) → AllByRecursion (IsNew w a n (first ∷ numbered (n + 1) xs)) (map (λ p. p.tid) (filter (declares w a) (numbered (n + 1) xs)))
    rest h = weaker (IsNew w a (n + 1) (numbered (n + 1) xs)) (IsNew w a n (first ∷ numbered (n + 1) xs)) (map (λ p. p.tid) (filter (declares w a) (numbered (n + 1) xs))) (λ t g. later w a n first (numbered (n + 1) xs) t refl g) h

    one : (v : Bool) → is_among a (declared (tx_at w x)) ≡ v → AllByRecursion (IsNew w a (n + 1) (numbered (n + 1) xs)) (map (λ p. p.tid) (filter (declares w a) (numbered (n + 1) xs)))
        → AllByRecursion (IsNew w a n (first ∷ numbered (n + 1) xs)) (map (λ p. p.tid) (if v then first ∷ filter (declares w a) (numbered (n + 1) xs) else filter (declares w a) (numbered (n + 1) xs)))
    one true e h = (record { drawn = omega arith; named = rw (eq-eqb n n refl) refl; declares = rw (eq-eqb n n refl) e }, rest h)
    one false e h = rest h

drawn_tids : (n : ℕ) (xs : List ℕ) → AllByRecursion (λ t. t < n + length (numbered n xs)) (map (λ p. p.tid) (numbered n xs))
drawn_tids n [] = tt
drawn_tids n (x ∷ xs) = (omega arith, weaker (λ t. t < n + 1 + length (numbered (n + 1) xs)) (λ t. t < n + suc (length (numbered (n + 1) xs))) (map (λ p. p.tid) (numbered (n + 1) xs)) (λ t h. omega (arith, h)) (drawn_tids (n + 1) xs))

-- ---- schedules

not_done_tids : (ts : List ℕ) → map (λ (s : Slot). s.tid) (map not_done ts) ≡ ts
not_done_tids [] = refl
not_done_tids (t ∷ ts) = ap (λ l. t ∷ l) (not_done_tids ts)

joined_tids : (P : List ℕ → Type 0) (es fs : List Entry) → AllByRecursion P (map slot_tids es) → AllByRecursion P (map slot_tids fs) → AllByRecursion P (map slot_tids (es ++ fs))
joined_tids P [] fs h g = g
joined_tids P (e ∷ es) fs h g = (h.0, joined_tids P es fs h.1 g)

kept_tids : (P : List ℕ → Type 0) (stays : Entry → Bool) (es : List Entry) → AllByRecursion P (map slot_tids es) → AllByRecursion P (map slot_tids (filter stays es))
kept_tids P stays [] h = tt
kept_tids P stays (e ∷ es) h = one (stays e) (kept_tids P stays es h.1)
  where
    one : (v : Bool) → AllByRecursion P (map slot_tids (filter stays es)) → AllByRecursion P (map slot_tids (if v then e ∷ filter stays es else filter stays es))
    one true r = (h.0, r)
    one false r = r

staying_tids : (P : List ℕ → Type 0) (cascades : List Cascade) (es : List Entry) → AllByRecursion P (map slot_tids es) → AllByRecursion P (map slot_tids (staying cascades es))
staying_tids P cascades [] h = tt
staying_tids P cascades (e ∷ es) h = one (is_cut cascades (who_of e)) (staying_tids P cascades es h.1)
  where
    one : (v : Bool) → AllByRecursion P (map slot_tids (staying cascades es)) → AllByRecursion P (map slot_tids (if v then [] else e ∷ staying cascades es))
    one true r = tt
    one false r = (h.0, r)

-- the cell at an actor, in place of what all cells have
at_cell : {C : Type 0} (cells : List (Cell C)) (a : ℕ) → slice_index_or (map tids_on cells) a [] ≡ tids_on (slice_index_or cells a no_cell)
at_cell [] a = refl
at_cell (c ∷ cells) zero = refl
at_cell (c ∷ cells) (suc a) = at_cell cells a

-- one cell is another one
one_cell : {C : Type 0} (w : Text) (bs : List Batch) (s : Machine C) (a : ℕ) (c : Cell C) → ((b : ℕ) → AllByRecursion (AllByRecursion (Declares w bs b)) (slice_index_or (map tids_on s.cells) b []))
    → (AllByRecursion (AllByRecursion (Declares w bs a)) (tids_on (cell_at s a)) → AllByRecursion (AllByRecursion (Declares w bs a)) (tids_on c))
    → (b : ℕ) → AllByRecursion (AllByRecursion (Declares w bs b)) (slice_index_or (map tids_on (slice_set s.cells a c)) b [])
one_cell w bs s a c h k b =
    subst (AllByRecursion (AllByRecursion (Declares w bs b))) (sym (at_cell (slice_set s.cells a c) b))
    (set_each (λ i x. AllByRecursion (AllByRecursion (Declares w bs i)) (tids_on x)) s.cells a c no_cell (k (here a)) here b)
  where
    here : (i : ℕ) → AllByRecursion (AllByRecursion (Declares w bs i)) (tids_on (slice_index_or s.cells i no_cell))
    here i = subst (AllByRecursion (AllByRecursion (Declares w bs i))) (at_cell s.cells i) (h i)

-- the sub-batch that comes to an actor
come : (w : Text) (bs : List Batch) (k a : ℕ) (subs : List SubBatch) → AllByRecursion (λ m. AllByRecursion (Declares w bs m.actor) m.tids) subs → AllByRecursion (AllByRecursion (Declares w bs a)) (map slot_tids (batch_entries k (sub_of k a subs)))
come w bs k a [] h = tt
come w bs k a (m ∷ subs) h = one ((m.bid == k) && (m.actor == a)) refl (come w bs k a subs h.1)
  where
    one : (v : Bool) → ((m.bid == k) && (m.actor == a)) ≡ v → AllByRecursion (AllByRecursion (Declares w bs a)) (map slot_tids (batch_entries k (sub_of k a subs)))
        → AllByRecursion (AllByRecursion (Declares w bs a)) (map slot_tids (batch_entries k (if v then Some m else sub_of k a subs)))
    one true e r = (subst (AllByRecursion (Declares w bs a)) (sym (not_done_tids m.tids)) (subst (λ i. AllByRecursion (Declares w bs i) m.tids) (eqb-true m.actor a (and_parts (m.bid == k) (m.actor == a) e).1) h.0), tt)
    one false e r = r

-- ---- event by event

-- where batches are as they were
same_batches : {C : Type 0} (w : Fixed C) (e : Event) (s : Machine C) → ((q : Content) → is_changed q e ≡ false → IsSame q s (after w e s)) → is_changed BatchTids e ≡ false → is_changed BatchTxs e ≡ false
    → (a t : ℕ) → Declares w.text s.desk.batches a t → Declares w.text (after w e s).desk.batches a t
same_batches w e s framed i j a t h = ap (by w.text a) (pact_alike t s.desk.batches (after w e s).desk.batches (framed BatchTids i) (framed BatchTxs j)) ∙ h

both : (P Q : ℕ → Type 0) (ts : List (List ℕ)) → ((t : ℕ) → P t → Q t) → AllByRecursion (AllByRecursion P) ts → AllByRecursion (AllByRecursion Q) ts
both P Q ts k h = weaker (AllByRecursion P) (AllByRecursion Q) ts (λ us g. weaker P Q us k g) h

-- what an event leaves as it is, but for one more name of the batches
moved : {C : Type 0} (w : Fixed C) (s u : Machine C) → ((a t : ℕ) → Declares w.text s.desk.batches a t → Declares w.text u.desk.batches a t) → map tids_on u.cells ≡ map tids_on s.cells
    → ((a : ℕ) → AllByRecursion (AllByRecursion (Declares w.text s.desk.batches a)) (slice_index_or (map tids_on s.cells) a []))
    → (a : ℕ) → AllByRecursion (AllByRecursion (Declares w.text u.desk.batches a)) (slice_index_or (map tids_on u.cells) a [])
moved w s u k e h a = subst (λ l. AllByRecursion (AllByRecursion (Declares w.text u.desk.batches a)) (slice_index_or l a [])) (sym e) (both (Declares w.text s.desk.batches a) (Declares w.text u.desk.batches a) (slice_index_or (map tids_on s.cells) a []) (k a) (h a))

carried : {C : Type 0} (w : Fixed C) (s u : Machine C) (subs : List SubBatch) → ((a t : ℕ) → Declares w.text s.desk.batches a t → Declares w.text u.desk.batches a t)
    → AllByRecursion (λ m. AllByRecursion (Declares w.text s.desk.batches m.actor) m.tids) subs → AllByRecursion (λ m. AllByRecursion (Declares w.text u.desk.batches m.actor) m.tids) subs
carried w s u subs k h = weaker (λ m. AllByRecursion (Declares w.text s.desk.batches m.actor) m.tids) (λ m. AllByRecursion (Declares w.text u.desk.batches m.actor) m.tids) subs (λ m g. weaker (Declares w.text s.desk.batches m.actor) (Declares w.text u.desk.batches m.actor) m.tids (k m.actor) g) h

-- what stays where the batches, the tids drawn, the sub-batches under way and the schedules do
drawn_stay : {C : Type 0} (w : Fixed C) (s u : Machine C) → map tids_of u.desk.batches ≡ map tids_of s.desk.batches → s.ring.next_tid ≤ u.ring.next_tid → Stands w s → AllByRecursion (AllByRecursion (λ t. t < u.ring.next_tid)) (map tids_of u.desk.batches)
drawn_stay w s u e l h =
    subst (AllByRecursion (AllByRecursion (λ t. t < u.ring.next_tid))) (sym e)
    (both (λ t. t < s.ring.next_tid) (λ t. t < u.ring.next_tid) (map tids_of s.desk.batches) (λ t g. omega (arith, g, l)) h.drawn)

record Alike {C : Type 0} (w : Fixed C) (s u : Machine C) : Type 0 where
  pub drawn : AllByRecursion (AllByRecursion (λ t. t < u.ring.next_tid)) (map tids_of u.desk.batches)
  pub declares : (a t : ℕ) → Declares w.text s.desk.batches a t → Declares w.text u.desk.batches a t

alike : {C : Type 0} (w : Fixed C) (e : Event) (s : Machine C) → ((q : Content) → is_changed q e ≡ false → IsSame q s (after w e s)) → is_changed BatchTids e ≡ false → is_changed BatchTxs e ≡ false → s.ring.next_tid ≤ (after w e s).ring.next_tid → Stands w s → Alike w s (after w e s)
alike w e s framed i j l h = record { drawn = drawn_stay w s (after w e s) (framed BatchTids i) l h; declares = same_batches w e s framed i j }

-- where the schedules stay
on_schedules : {C : Type 0} (w : Fixed C) (e : Event) (s : Machine C) → ((q : Content) → is_changed q e ≡ false → IsSame q s (after w e s)) → is_changed EntryTids e ≡ false → Alike w s (after w e s) → Stands w s
    → (a : ℕ) → AllByRecursion (AllByRecursion (Declares w.text (after w e s).desk.batches a)) (slice_index_or (map tids_on (after w e s).cells) a [])
on_schedules w e s framed i k h = moved w s (after w e s) k.declares (framed EntryTids i) h.placed

-- where what is under way stays
on_the_way : {C : Type 0} (w : Fixed C) (e : Event) (s : Machine C) → ((q : Content) → is_changed q e ≡ false → IsSame q s (after w e s)) → is_changed Subs e ≡ false → Alike w s (after w e s) → Stands w s
    → AllByRecursion (λ m. AllByRecursion (Declares w.text (after w e s).desk.batches m.actor) m.tids) (after w e s).post.subs
on_the_way w e s framed i k h = subst (AllByRecursion (λ m. AllByRecursion (Declares w.text (after w e s).desk.batches m.actor) m.tids)) (sym (framed Subs i)) (carried w s (after w e s) s.post.subs k.declares h.under_way)

plain : {C : Type 0} (w : Fixed C) (e : Event) (s : Machine C) → ((q : Content) → is_changed q e ≡ false → IsSame q s (after w e s)) → is_changed BatchTids e ≡ false → is_changed BatchTxs e ≡ false → is_changed Subs e ≡ false → is_changed EntryTids e ≡ false
    → s.ring.next_tid ≤ (after w e s).ring.next_tid → Stands w s → Stands w (after w e s)
plain w e s framed i j m n l h =
    let k = alike w e s framed i j l h in
    record { drawn = k.drawn; under_way = on_the_way w e s framed m k h; placed = on_schedules w e s framed n k h }

-- one schedule changes, and the batches are as they were
on_one : {C : Type 0} (w : Fixed C) (s : Machine C) (a : ℕ) (c : Cell C) → Stands w s → (AllByRecursion (AllByRecursion (Declares w.text s.desk.batches a)) (tids_on (cell_at s a)) → AllByRecursion (AllByRecursion (Declares w.text s.desk.batches a)) (tids_on c))
    → (b : ℕ) → AllByRecursion (AllByRecursion (Declares w.text s.desk.batches b)) (slice_index_or (map tids_on (slice_set s.cells a c)) b [])
on_one w s a c h k = one_cell w.text s.desk.batches s a c h.placed k

formed_stand : {C : Type 0} (w : Fixed C) (k : ℕ) (s : Machine C) → ((q : Content) → is_changed q (Form k) ≡ false → IsSame q s (after w (Form k) s)) → Stands w s → Stands w (after w (Form k) s)
unfolding after
formed_stand {C} w k s framed h = record {
  drawn = all_joined;
  under_way = all_join (λ m. AllByRecursion (Declares w.text new m.actor) m.tids) s.post.subs (map (first_sub w.text k s.ring) (next_actors w.text s.ring)) (carried w s u s.post.subs old h.under_way) (firsts (next_actors w.text s.ring));
  placed = moved w s u old (framed EntryTids refl) h.placed;
}
  where
    u : Machine C
    u = after w (Form k) s

    xs : List ℕ
    xs = take w.text.batch (queue s.ring.pacts s.ring.holder)

    more : Batch
    more = new_batch k (next_actors w.text s.ring) (next_pacts w.text s.ring)

    new : List Batch
    new = s.desk.batches ++ more ∷ []

    old : (a t : ℕ) → Declares w.text s.desk.batches a t → Declares w.text new a t
    old a t g = found_before w.text a t s.desk.batches (more ∷ []) g

    many : ℕ
    many = s.ring.next_tid + length (next_pacts w.text s.ring)

    all_joined : AllByRecursion (AllByRecursion (λ t. t < many)) (map tids_of new)
    all_joined = tids_joined s.desk.batches (both (λ t. t < s.ring.next_tid) (λ t. t < many) (map tids_of s.desk.batches) (λ t g. omega (arith, g)) h.drawn)
      where
        tids_joined : (bs : List Batch) → AllByRecursion (AllByRecursion (λ t. t < many)) (map tids_of bs) → AllByRecursion (AllByRecursion (λ t. t < many)) (map tids_of (bs ++ more ∷ []))
        tids_joined [] g = (drawn_tids s.ring.next_tid xs, tt)
        tids_joined (b ∷ bs) g = (g.0, tids_joined bs g.1)

    firsts : (actors : List ℕ) → AllByRecursion (λ m. AllByRecursion (Declares w.text new m.actor) m.tids) (map (first_sub w.text k s.ring) actors)
    firsts [] = tt
    firsts (a ∷ actors) = (
      weaker (IsNew w.text a s.ring.next_tid (next_pacts w.text s.ring)) (Declares w.text new a) (next_tids_on w.text s.ring a) (λ t g. found_behind w.text a s.ring.next_tid t s.desk.batches more g.drawn h.drawn g.named g.declares) (new_tids w.text a s.ring.next_tid xs),
      firsts actors,
    )

kept : {C : Type 0} (w : Fixed C) (e : Event) (s : Machine C) → ((q : Content) → is_changed q e ≡ false → IsSame q s (after w e s)) → Stands w s → Stands w (after w e s)
unfolding after
kept w (Form k) s framed h = formed_stand w k s framed h
kept w (Admit t) s framed h = plain w (Admit t) s framed refl refl refl refl (omega arith) h
kept w (Arrive k a) s framed h =
    let bs = s.desk.batches in record {
      drawn = h.drawn;
      under_way = all_filter (λ m. AllByRecursion (Declares w.text bs m.actor) m.tids) _ s.post.subs h.under_way;
      placed = on_one w s a _ h (λ g. joined_tids (AllByRecursion (Declares w.text bs a)) (cell_at s a).entries (batch_entries k (sub_of k a s.post.subs)) g (come w.text bs k a s.post.subs h.under_way));
    }
kept w (Ask t a) s framed h = record {
  drawn = h.drawn;
  under_way = h.under_way;
  placed = on_one w s a _ h (λ g. joined_tids (AllByRecursion (Declares w.text s.desk.batches a)) (cell_at s a).entries _ g (asked _ _));
}
  where
    asked : (x : Lock) (older : Option ℕ) → AllByRecursion (AllByRecursion (Declares w.text s.desk.batches a)) (map slot_tids (act_entries x older))
    asked x None = (tt, tt)
    asked x (Some o) = tt
kept w (Rollback a) s framed h = record {
  drawn = h.drawn;
  under_way = h.under_way;
  placed = on_one w s a _ h (λ g. staying_tids (AllByRecursion (Declares w.text s.desk.batches a)) s.book.cascades (cell_at s a).entries g);
}
kept w (DropSub k a) s framed h = record {
  drawn = h.drawn;
  under_way = all_filter (λ m. AllByRecursion (Declares w.text s.desk.batches m.actor) m.tids) _ s.post.subs h.under_way;
  placed = h.placed;
}
kept w (Finish t a) s framed h = record {
  drawn = h.drawn;
  under_way = h.under_way;
  placed = on_one w s a _ h (λ g. kept_tids (AllByRecursion (Declares w.text s.desk.batches a)) (λ e. not (is_act_entry t e)) (cell_at s a).entries g);
}
kept w (Trim k a) s framed h =
    let e = Trim k a in
    let u = after w e s in
    let d = same_batches w e s framed refl refl in
    record {
      drawn = drawn_stay w s u (framed BatchTids refl) (omega arith) h;
      under_way = carried w s u s.post.subs d h.under_way;
      placed = λ b. both (Declares w.text s.desk.batches b) (Declares w.text u.desk.batches b) (slice_index_or (map tids_on u.cells) b []) (d b)
          (on_one w s a _ h (λ g. kept_tids (AllByRecursion (Declares w.text s.desk.batches a)) (λ e. not (is_batch_entry k e)) (cell_at s a).entries g) b);
    }
kept w e s framed h = plain w e s framed refl refl refl refl (omega arith) h

along : {C : Type 0} (w : Fixed C) (es : List Event) (s : Machine C) → ((e : Event) (s : Machine C) (q : Content) → is_changed q e ≡ false → IsSame q s (after w e s)) → Stands w s → Stands w (state_after w es s)
along w [] s framed h = h
along w (e ∷ es) s framed h = along w es (after w e s) framed (kept w e s (framed e s) h)

at_first : {C : Type 0} (w : Fixed C) → Stands w (opening w)
at_first {C} w = record { drawn = tt; under_way = tt; placed = nobody w.text.opening.states }
  where
    nobody : (sts : List State) (a : ℕ) → AllByRecursion (AllByRecursion (Declares w.text [] a)) (slice_index_or (map tids_on (map (new_cell {C = C} (base w.text)) sts)) a [])
    nobody [] a = tt
    nobody (x ∷ xs) zero = tt
    nobody (x ∷ xs) (suc a) = none xs a
      where
        none : (sts : List State) (b : ℕ) → AllByRecursion (AllByRecursion (Declares w.text [] (suc a))) (slice_index_or (map tids_on (map (new_cell {C = C} (base w.text)) sts)) b [])
        none [] b = tt
        none (y ∷ ys) zero = tt
        none (y ∷ ys) (suc b) = none ys b

-- ---- who is undone there

undone_slot : (w : Text) (bs : List Batch) (a t : ℕ) (ss : List Slot) → AllByRecursion (Declares w bs a) (map (λ s. s.tid) ss) → list_any (λ s. (s.tid == t) && not s.done) ss ≡ true → Declares w bs a t
undone_slot w bs a t [] h u = absurd (true≢false (sym u))
undone_slot w bs a t (s ∷ ss) h u = elim (or_cases ((s.tid == t) && not s.done) (list_any (λ s. (s.tid == t) && not s.done) ss) u) [
  | inl e ↦ subst (Declares w bs a) (eqb-true s.tid t (and_parts (s.tid == t) (not s.done) e).0) h.0
  | inr e ↦ undone_slot w bs a t ss h.1 e
]

undone_entry : (w : Text) (bs : List Batch) (a t : ℕ) (es : List Entry) → AllByRecursion (AllByRecursion (Declares w bs a)) (map slot_tids es) → has_undone t es ≡ true → Declares w bs a t
undone_entry w bs a t [] h u = absurd (true≢false (sym u))
undone_entry w bs a t (BatchEntry b ∷ es) h u = elim (or_cases (is_undone t (BatchEntry b)) (has_undone t es) u) [
  | inl e ↦ undone_slot w bs a t b.slots h.0 e
  | inr e ↦ undone_entry w bs a t es h.1 e
]
undone_entry w bs a t (ActEntry x ∷ es) h u = undone_entry w bs a t es h.1 u

undone_cell : {C : Type 0} (w : Text) (bs : List Batch) (i a t : ℕ) (cells : List (Cell C)) → AllByRecursion (AllByRecursion (Declares w bs a)) (slice_index_or (map tids_on cells) i []) → holds (λ c. has_undone t c.entries) (slice_get cells i) ≡ true → Declares w bs a t
undone_cell w bs i a t [] h u = absurd (true≢false (sym u))
undone_cell w bs zero a t (c ∷ cells) h u = undone_entry w bs a t c.entries h u
undone_cell w bs (suc i) a t (c ∷ cells) h u = undone_cell w bs i a t cells h u

pub undone_declared : {C : Type 0} (w : Fixed C) (es : List Event) → ((w : Fixed C) (e : Event) (s : Machine C) (q : Content) → is_changed q e ≡ false → IsSame q s (after w e s)) → UndoneHaveDeclared w (reached w es)
undone_declared w es framed t a u = undone_cell w.text (reached w es).desk.batches a a t (reached w es).cells ((along w es (opening w) (framed w) (at_first w)).placed a) u
