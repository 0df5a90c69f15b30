-- A live ACT has a before number at least as great as those of all that committed on its actors, event by event.
use Rattle.std.specs.Prelude.{◌≡◌, refl, ℕ, ◌<◌, ◌≤◌, ◌==◌, nat_le, nat_lt, max, not, Bool, true, false, ◌&&◌, ◌||◌, ◌⊎◌, if◌then◌else◌, Option, Some, None, List, [], ◌∷◌, ◌++◌, length, map, filter}
use Rattle.std.specs.List.{AllByRecursion}
use Rattle.std.proofs.Common.{arith, sym, ap, subst, inl, inr, ◌∙◌}
use Rattle.std.proofs.lemmas.List.{append-nil}
use Rattle.std.proofs.lemmas.Bool.{or_parts, eqb-true, leb-true, le-leb, and_parts, or_cases, or_left, or_right, not-true, true≢false, false_from_ne_true, cases_Bool}
use Rattle.protocol.specs.Fixed.{Fixed}
use Rattle.protocol.specs.Rivals.{Lock}
use Rattle.protocol.specs.Parts.{Act, Book, Batch, Pact, Cascade, Who, OfBatch, OfAct, Status, Live, Doomed, Decided, Sealed, Entry, BatchEntry, ActEntry, FloorPair, Cell, Machine}
use Rattle.protocol.specs.Events.{Event, Arrive, Ask, Run, Complete, Commit, Rollback, Decide, Finish, Trim}
use Rattle.protocol.specs.Words.{holds, greatest, is_among, covers, is_aborted, epoch_of, is_doomed, is_decided, is_sealed, is_live_status, is_value, is_who, act_of, batch_of, group_behind, tail_group, lock_of, floor_for, floor_at}
use Rattle.protocol.specs.Conditions.{IsAllowed, conditions, epoch}
use Rattle.protocol.specs.Effects.{after, cell_at, no_cell}
use Rattle.protocol.specs.OnBook as book
use Rattle.protocol.specs.OnCell as cell
use Rattle.protocol.specs.Standing.{CarriesNumber}
use Rattle.protocol.specs.History.{History, Done, Ran, Stands, Gone, grown, not_run, left_for_good, without_standing, asks, batches_in, done_pact, done_batch, done_act, kept_act, is_traceless}
use Rattle.protocol_laws.specs.Tracks.{keys_in, is_key_among}
use Rattle.protocol_laws.specs.Turns.{Turns}
use Rattle.protocol_laws.specs.Places.{FitsCell}
use Rattle.protocol_laws.specs.Commits.{is_kept, KeptAhead}
use Rattle.protocol_laws.specs.Befores.{Befores}
use Rattle.protocol_laws.specs.Rising.{visits, visitors, first_number_of, is_as, highest, OpenAbove}
use Rattle.protocol_laws.specs.Highs.{is_free, is_free_or_above, own_floor, reads_in, both_read, AllOver, doomed_at, has_pair, is_paired, is_above_or_aborted, StandsBelow, ShowsNumber}
use Rattle.protocol_laws.proofs.machine.TrackLists
use Rattle.protocol_laws.proofs.machine.ActsGrow.{Later, Grows, acts_grow, grown_holds}
use Rattle.protocol_laws.proofs.machine.DecidedStays.{is_fixed}
use Rattle.protocol_laws.proofs.first.CellEpochs as cells
use Rattle.protocol_laws.proofs.machine.TurnsKept.{one_is, Turned}
use Rattle.protocol_laws.proofs.machine.PlacesKept.{Placed}
use Rattle.protocol_laws.proofs.machine.CommitsKept.{beside_carried, MayDecide, Committed}
use Rattle.protocol_laws.proofs.machine.BeforesKept.{Lasts, Numbers, held_act}
use Rattle.protocol_laws.proofs.machine.HighLists
use Rattle.protocol_laws.proofs.machine.ReadersKept.{Locks}
use Rattle.protocol_laws.proofs.first.Agree.{agree, agree_is, agree_same}
use Rattle.protocol_laws.proofs.machine.HighLists.{NotLive}
use Rattle.protocol_laws.proofs.machine.GroupsKept as groups
use Rattle.protocol_laws.proofs.machine.GroupsKept.{Groups}
use Rattle.protocol_laws.proofs.machine.ShowsKept as shows
use Rattle.protocol_laws.proofs.machine.ShowsKept.{Showing, Beside}
use Rattle.protocol_laws.proofs.first.Lists.{all_filter, both_all, weaker, filter_join}
use Rattle.protocol_laws.proofs.first.Statuses.{live_unordered}

-- ---- the greatest

pub greatest_join : (xs ys : List ℕ) → greatest (xs ++ ys) ≡ max (greatest xs) (greatest ys)
greatest_join [] ys = omega arith
greatest_join (x ∷ xs) ys = omega (arith, greatest_join xs ys)

map_join : (ds es : List Done) → map first_number_of (ds ++ es) ≡ map first_number_of ds ++ map first_number_of es
map_join [] es = refl
map_join (d ∷ ds) es = rw (map_join ds es) refl

pub highest_join : (r : Bool) (a : ℕ) (ds es : List Done) → highest r a (ds ++ es) ≡ max (highest r a ds) (highest r a es)
highest_join r a ds es = ap (λ z. greatest (map first_number_of (filter (is_as r) z))) (filter_join (visits a) ds es) ∙ (ap (λ z. greatest (map first_number_of z)) (filter_join (is_as r) (visitors a ds) (visitors a es)) ∙ (ap greatest (map_join (filter (is_as r) (visitors a ds)) (filter (is_as r) (visitors a es))) ∙ greatest_join (map first_number_of (filter (is_as r) (visitors a ds))) (map first_number_of (filter (is_as r) (visitors a es)))))

highest_batch : (r : Bool) (a k : ℕ) (h : History) (ps : List Pact) → highest r a (map (done_pact k h) ps) ≤ k
highest_batch r a k h [] = omega arith
highest_batch r a k h (p ∷ ps) = by (visits a (done_pact k h p)) (is_as r (done_pact k h p)) refl (highest_batch r a k h ps)
  where
    by : (b v : Bool) → is_as r (done_pact k h p) ≡ v → highest r a (map (done_pact k h) ps) ≤ k → greatest (map first_number_of (filter (is_as r) (if b then done_pact k h p ∷ visitors a (map (done_pact k h) ps) else visitors a (map (done_pact k h) ps)))) ≤ k
    by true true e q = rw e (omega (arith, q))
    by true false e q = rw e q
    by false v e q = q

-- nobody came there
none_came : (r : Bool) (a k : ℕ) (h : History) (ps : List Pact) → is_key_among (OfBatch k) (keys_in (h.long a)) ≡ false → highest r a (map (done_pact k h) ps) ≡ 0
none_came r a k h [] e = refl
none_came r a k h (p ∷ ps) e = by (visits a (done_pact k h p)) refl (none_came r a k h ps e)
  where
    by : (b : Bool) → visits a (done_pact k h p) ≡ b → highest r a (map (done_pact k h) ps) ≡ 0 → greatest (map first_number_of (filter (is_as r) (if b then done_pact k h p ∷ visitors a (map (done_pact k h) ps) else visitors a (map (done_pact k h) ps)))) ≡ 0
    by true q v = absurd (true≢false (sym (shows.viewed (OfBatch k) p.tid (h.long a) q) ∙ e))
    by false q v = v

-- over each of them, so over the greatest
over_each : (r : Bool) (o : Option Act) (ds : List Done) → holds (λ x. true) o ≡ true → AllByRecursion (λ d. holds (is_free_or_above r (first_number_of d)) o ≡ true) ds → holds (is_free_or_above r (greatest (map first_number_of ds))) o ≡ true
over_each r None ds e h = absurd (true≢false (sym e))
over_each r (Some x) [] e h = or_right (is_free r x) _ (le-leb 0 x.m (omega arith))
over_each r (Some x) (d ∷ ds) e h = elim (or_cases (is_free r x) (nat_le (first_number_of d) x.m) h.0) [
  | inl q ↦ or_left (is_free r x) _ q
  | inr q ↦ elim (or_cases (is_free r x) (nat_le (greatest (map first_number_of ds)) x.m) (over_each r (Some x) ds e h.1)) [
    | inl v ↦ or_left (is_free r x) _ v
    | inr v ↦ or_right (is_free r x) _ (le-leb (max (first_number_of d) (greatest (map first_number_of ds))) x.m (omega (arith, leb-true (first_number_of d) x.m q, leb-true (greatest (map first_number_of ds)) x.m v)))
  ]
]

-- and the other way
pub each_most : (ds : List Done) (m : ℕ) → greatest (map first_number_of ds) ≤ m → AllByRecursion (λ d. first_number_of d ≤ m) ds
each_most [] m l = tt
each_most (d ∷ ds) m l = (omega (arith, l), each_most ds m (omega (arith, l)))

-- ---- kept ACTs are not live

unfoldable pub NoneLive : {C : Type 0} → Machine C → History → Type 0
NoneLive s h = (t : ℕ) → is_kept (OfAct t) h.kept ≡ true → NotLive s.book.acts t

not_live_later : (x y : Act) → Later x y → not (is_live_status x.status) ≡ true → not (is_live_status y.status) ≡ true
not_live_later x y k h = by (is_live_status y.status) refl
  where
    by : (b : Bool) → is_live_status y.status ≡ b → not b ≡ true
    by true e = absurd (true≢false (sym h ∙ ap not (k.live e)))
    by false e = refl

not_live_grow : (xs ys : List Act) (t : ℕ) → Grows xs ys → NotLive xs t → NotLive ys t
not_live_grow xs ys t g h = grown_holds (λ x. not (is_live_status x.status)) xs ys t not_live_later g h

kept_split : (y : Who) (kept more : List Who) → is_kept y (kept ++ more) ≡ true → (is_kept y kept ≡ true) ⊎ (is_kept y more ≡ true)
kept_split y [] more h = inr h
kept_split y (x ∷ xs) more h = elim (or_cases (is_who x y) (is_kept y (xs ++ more)) h) [
  | inl e ↦ inl (or_left (is_who x y) _ e)
  | inr e ↦ elim (kept_split y xs more e) [ inl q ↦ inl (or_right (is_who x y) _ q) | inr q ↦ inr q ]
]

fixed_to_not_live : (n : ℕ) (o : Option Act) → holds (is_fixed n) o ≡ true → holds (λ x. not (is_live_status x.status)) o ≡ true
fixed_to_not_live n None h = h
fixed_to_not_live n (Some x) h = by x.status h
  where
    by : (s : Status) → ((is_decided s || is_sealed s) && (x.m == n)) ≡ true → not (is_live_status s) ≡ true
    by Live f = absurd (true≢false (sym f))
    by (Doomed v) f = refl
    by (Decided c) f = refl
    by (Sealed c) f = refl

pub none_live_kept : {C : Type 0} (w : Fixed C) (e : Event) (s : Machine C) (h : History) → IsAllowed w e s → shows.Owed e s h → NoneLive s h → NoneLive (after w e s) (grown w e s h)
unfolding NoneLive shows.Owed conditions after grown
none_live_kept w (Commit k) s h ok o g = λ t q. elim (kept_split (OfAct t) h.kept (OfBatch k ∷ []) q) [ inl i ↦ g t i | inr i ↦ absurd (true≢false (sym i)) ]
none_live_kept w (Decide t) s h ok o g = λ u q. elim (kept_split (OfAct u) h.kept (kept_act (act_of t s.book.acts)) q) [
  | inl i ↦ not_live_grow s.book.acts (after w (Decide t) s).book.acts u (acts_grow w (Decide t) s) (g u i)
  | inr i ↦ own u (act_of t s.book.acts) o.1.is_it i
]
  where
    decided : NotLive (after w (Decide t) s).book.acts t
    decided = fixed_to_not_live o.0.m (act_of t (after w (Decide t) s).book.acts) (shows.decided_now s.book.next_c t o.0 s.book.acts o.1.is_it (shows.live_here t o.0 (act_of t s.book.acts) o.1.is_it ok.0))

    own : (u : ℕ) (q : Option Act) → q ≡ Some o.0 → is_kept (OfAct u) (kept_act q) ≡ true → NotLive (after w (Decide t) s).book.acts u
    own u None e i = absurd (true≢false (sym i))
    own u (Some x) e i = by (is_value x.result && not x.reader) i
      where
        tid : x.tid ≡ t
        tid = (let j : x ≡ o.0 = cc e in ap (λ z. z.tid) j) ∙ o.1.tid

        by : (b : Bool) → is_kept (OfAct u) (if b then OfAct x.tid ∷ [] else []) ≡ true → NotLive (after w (Decide t) s).book.acts u
        by false i = absurd (true≢false (sym i))
        by true i = elim (or_cases (x.tid == u) false i) [ inl v ↦ subst (NotLive (after w (Decide t) s).book.acts) (sym tid ∙ eqb-true x.tid u v) decided | inr v ↦ absurd (true≢false (sym v)) ]
none_live_kept w e s h ok o g = λ t q. not_live_grow s.book.acts (after w e s).book.acts t (acts_grow w e s) (g t q)

-- ---- an ACT that asks

-- no aborted batch is on a cell of the present epoch
pub aborted_low : (k : ℕ) (cs : List Cascade) → is_aborted k cs ≡ true → epoch_of k cs < length cs
aborted_low k [] h = absurd (true≢false (sym h))
aborted_low k (c ∷ cs) h = by (nat_lt c.upto k) refl (or_cases (covers k c) (is_aborted k cs) h) (aborted_low k cs)
  where
    most : (cs : List Cascade) → epoch_of k cs ≤ length cs
    most [] = omega arith
    most (d ∷ ds) = one (nat_lt d.upto k) (most ds)
      where
        one : (b : Bool) → epoch_of k ds ≤ length ds → length (if b then d ∷ filter (λ c. nat_lt c.upto k) ds else filter (λ c. nat_lt c.upto k) ds) ≤ length (d ∷ ds)
        one true r = omega (arith, r)
        one false r = omega (arith, r)

    by : (b : Bool) → nat_lt c.upto k ≡ b → (covers k c ≡ true) ⊎ (is_aborted k cs ≡ true) → (is_aborted k cs ≡ true → epoch_of k cs < length cs) → length (if b then c ∷ filter (λ c. nat_lt c.upto k) cs else filter (λ c. nat_lt c.upto k) cs) < length (c ∷ cs)
    by true e (inl v) r = absurd (omega (arith, leb-true k c.upto (and_parts (nat_le c.first k) (nat_le k c.upto) v).1, Rattle.std.proofs.lemmas.Bool.ltb-true c.upto k e))
    by true e (inr v) r = omega (arith, r v)
    by false e v r = omega (arith, most cs)

none_aborted : (next : ℕ) (cs : List Cascade) (ep tail : ℕ) (ks : List ℕ) → ep ≡ length cs → AllByRecursion (FitsCell next cs ep tail) ks → AllByRecursion (λ k. is_aborted k cs ≡ false) ks
none_aborted next cs ep tail ks e h = weaker (FitsCell next cs ep tail) (λ k. is_aborted k cs ≡ false) ks (λ k f. false_from_ne_true (is_aborted k cs) (λ q. omega (arith, aborted_low k cs q, f.aborted q, e))) h

-- a committed ACT that stands there: a batch is behind it, or it is in the last group
below_or_tail : (cs : List Cascade) (n u last : ℕ) (seen : List Lock) (rs : List Ran) (es : List Entry) → Turns rs es → AllByRecursion (λ k. is_aborted k cs ≡ false) (batches_in rs) → AllByRecursion (λ k. k ≤ last) (batches_in rs) → StandsBelow cs n u rs
    → (n ≤ last) ⊎ (HighLists.is_lock_among u (group_behind seen es) ≡ true)
below_or_tail cs n u last seen [] es t f l h = absurd h
below_or_tail cs n u last seen (Gone (OfBatch j) ss ∷ rs) es t f l h = below_or_tail cs n u last seen rs es t f.1 l.1 h
below_or_tail cs n u last seen (Gone (OfAct v) ss ∷ rs) es t f l h = below_or_tail cs n u last seen rs es t f l h
below_or_tail cs n u last seen (Stands y c ss ∷ rs) [] t f l h = absurd t
below_or_tail cs n u last seen (Stands (OfBatch j) c ss ∷ rs) (ActEntry x ∷ es) t f l h = absurd (cc t.0)
below_or_tail cs n u last seen (Stands (OfBatch j) c ss ∷ rs) (BatchEntry b ∷ es) t f l h = below_or_tail cs n u last [] rs es t.2 f.1 l.1 h
below_or_tail cs n u last seen (Stands (OfAct v) c ss ∷ rs) (BatchEntry b ∷ es) t f l h = absurd (cc t.0)
below_or_tail cs n u last seen (Stands (OfAct v) c ss ∷ rs) (ActEntry x ∷ es) t f l h = elim h [
  | inl p ↦ by (batches_in rs) refl p.0 p.1 f l
  | inr q ↦ below_or_tail cs n u last (seen ++ x ∷ []) rs es t.2 f l q
]
  where
    by : (ks : List ℕ) → batches_in rs ≡ ks → v ≡ u → AllByRecursion (λ k. is_above_or_aborted cs n k ≡ true) ks → AllByRecursion (λ k. is_aborted k cs ≡ false) ks → AllByRecursion (λ k. k ≤ last) ks → (n ≤ last) ⊎ (HighLists.is_lock_among u (group_behind (seen ++ x ∷ []) es) ≡ true)
    by [] e q p f l = let i : x.tid ≡ v = cc t.0 in inr (HighLists.in_tail u (seen ++ x ∷ []) rs es e t.2 (subst (λ z. HighLists.is_lock_among z (seen ++ x ∷ []) ≡ true) (i ∙ q) (HighLists.lock_last x seen)))
    by (k ∷ ks) e q p f l = elim (or_cases (is_aborted k cs) (nat_le n k) p.0) [ inl a ↦ absurd (true≢false (sym a ∙ f.0)) | inr a ↦ inl (omega (arith, leb-true n k a, l.0)) ]

-- who is placed has a number at least the last batch and the floor
asked_high : {C : Type 0} (t a : ℕ) (c : Cell C) (b : Book) → holds (λ x. true) (act_of t b.acts) ≡ true → holds (λ x. nat_le (max c.last (floor_at t b.acts c)) x.m) (act_of t (book.asked_acts None (book.met (lock_of t b.acts) c.entries) t a (max c.last (floor_at t b.acts c)) b)) ≡ true
asked_high t a c b h =
    grown_holds (λ x. nat_le (max c.last (floor_at t b.acts c)) x.m) joined _ t (λ x y k q. le-leb (max c.last (floor_at t b.acts c)) y.m (omega (arith, leb-true (max c.last (floor_at t b.acts c)) x.m q, k.rises))) (Rattle.protocol_laws.proofs.machine.ActsGrow.spread_grows a (b.pairs ++ book.new_pairs t a (book.met (lock_of t b.acts) c.entries) b.acts) joined) (own t b.acts h)
  where
    joined : List Act
    joined = book.changed_act t (book.joins a (max c.last (floor_at t b.acts c))) b.acts

    own : (t : ℕ) (xs : List Act) → holds (λ x. true) (act_of t xs) ≡ true → holds (λ x. nat_le (max c.last (floor_at t b.acts c)) x.m) (act_of t (book.changed_act t (book.joins a (max c.last (floor_at t b.acts c))) xs)) ≡ true
    own t [] h = absurd (true≢false (sym h))
    own t (x ∷ xs) h = by (x.tid == t) refl h (own t xs)
      where
        by : (v : Bool) → (x.tid == t) ≡ v → holds (λ x. true) (if v then Some x else act_of t xs) ≡ true → (holds (λ x. true) (act_of t xs) ≡ true → holds (λ x. nat_le (max c.last (floor_at t b.acts c)) x.m) (act_of t (book.changed_act t (book.joins a (max c.last (floor_at t b.acts c))) xs)) ≡ true)
            → holds (λ x. nat_le (max c.last (floor_at t b.acts c)) x.m) (act_of t (book.change_if v (book.joins a (max c.last (floor_at t b.acts c))) x ∷ book.changed_act t (book.joins a (max c.last (floor_at t b.acts c))) xs)) ≡ true
        by true e h r = rw e (le-leb (max c.last (floor_at t b.acts c)) (max x.m (max c.last (floor_at t b.acts c))) (omega arith))
        by false e h r = rw e (r h)

-- its number is over that of one that committed there
pub record Asked (acts : List Act) (b' : Book) (t a last floor : ℕ) (floors : FloorPair) (group : List Lock) : Type 0 where
  pub high : holds (λ x. nat_le (max last floor) x.m) (act_of t b'.acts) ≡ true
  -- the floor of each kind counts, but for two readers
  pub floored : (r : Bool) → (r && reads_in b'.acts t) ≡ false → own_floor r floors ≤ floor
  pub pairs : (u : ℕ) → HighLists.is_lock_among u group ≡ true → is_paired a b'.pairs b'.acts u t ≡ true
  pub carried : AllByRecursion (CarriesNumber b') b'.pairs
  pub fixed : (u n : ℕ) → holds (is_fixed n) (act_of u acts) ≡ true → holds (is_fixed n) (act_of u b'.acts) ≡ true
  pub kinds : (u : ℕ) (r : Bool) → holds (λ x. agree x.reader r) (act_of u acts) ≡ true → reads_in b'.acts u ≡ r

over_low : (r : Bool) (b' : Book) (t m n : ℕ) → n ≤ m → holds (λ x. nat_le m x.m) (act_of t b'.acts) ≡ true → holds (is_free_or_above r n) (act_of t b'.acts) ≡ true
over_low r b' t m n l h = by (act_of t b'.acts) h
  where
    by : (o : Option Act) → holds (λ x. nat_le m x.m) o ≡ true → holds (is_free_or_above r n) o ≡ true
    by None h = h
    by (Some x) h = or_right (is_free r x) _ (le-leb n x.m (omega (arith, l, leb-true m x.m h)))

-- two readers
over_reads : (r : Bool) (o : Option Act) (n : ℕ) → holds (λ x. true) o ≡ true → (r && holds (λ x. x.reader) o) ≡ true → holds (is_free_or_above r n) o ≡ true
over_reads r None n e q = absurd (true≢false (sym e))
over_reads r (Some x) n e q = or_left (is_free r x) _ (or_left (r && x.reader) _ q)

-- through its pair
over_paired : (r : Bool) (b' : Book) (t a u n : ℕ) → AllByRecursion (CarriesNumber b') b'.pairs → holds (λ x. true) (act_of t b'.acts) ≡ true → holds (is_fixed n) (act_of u b'.acts) ≡ true → both_read b'.acts u t ≡ false → is_paired a b'.pairs b'.acts u t ≡ true → holds (is_free_or_above r n) (act_of t b'.acts) ≡ true
over_paired r b' t a u n k e f c p =
    let y = one_is (is_fixed n) (act_of u b'.acts) f in
    let x = one_is (λ x. true) (act_of t b'.acts) e in
    let num : y.0.m ≡ n = eqb-true y.0.m n (and_parts (is_decided y.0.status || is_sealed y.0.status) (y.0.m == n) y.2).1 in
    let ahead : doomed_at b'.acts u ≡ false = subst (λ o. holds (λ x. is_doomed x.status) o ≡ false) (sym y.1) (shows.fixed_not_doomed n y.0 y.2) in
    subst (λ o. holds (is_free_or_above r n) o ≡ true) (sym x.1) (elim (cases_Bool (is_live_status x.0.status)) [
      | inr d ↦ or_left (is_free r x.0) _ (or_right (r && x.0.reader) _ (rw d refl))
      | inl l ↦ elim (or_cases (both_read b'.acts u t) (doomed_at b'.acts u || (doomed_at b'.acts t || has_pair a t u b'.pairs)) p) [
        | inl d ↦ absurd (true≢false (sym d ∙ c))
        | inr p ↦ elim (or_cases (doomed_at b'.acts u) (doomed_at b'.acts t || has_pair a t u b'.pairs) p) [
          | inl d ↦ absurd (true≢false (sym d ∙ ahead))
          | inr q ↦ elim (or_cases (doomed_at b'.acts t) (has_pair a t u b'.pairs) q) [
            | inl d ↦ absurd (undoomed x.0.status l (subst (λ o. holds (λ x. is_doomed x.status) o ≡ true) x.1 d))
            | inr i ↦ or_right (is_free r x.0) _ (le-leb n x.0.m (omega (arith, num, groups.pair_carries b' a t u b'.pairs x.0 y.0 i k x.1 y.1 (live_unordered x.0.status l) (shows.fixed_not_doomed n y.0 y.2))))
          ]
        ]
      ]
    ])
  where
    undoomed : (s : Status) → is_live_status s ≡ true → is_doomed s ≡ true → ⊥
    undoomed Live l d = true≢false (sym d)
    undoomed (Doomed v) l d = true≢false (sym l)
    undoomed (Decided c) l d = true≢false (sym l)
    undoomed (Sealed c) l d = true≢false (sym l)

among_most : (k last : ℕ) (ks : List ℕ) → is_among k ks ≡ true → AllByRecursion (λ j. j ≤ last) ks → k ≤ last
among_most k last [] h l = absurd (true≢false (sym h))
among_most k last (j ∷ js) h l = elim (or_cases (j == k) (is_among k js) h) [ inl e ↦ omega (arith, eqb-true j k e, l.0) | inr e ↦ among_most k last js e l.1 ]

-- one that committed there
asked_one : {C : Type 0} (kept : List Who) (acts : List Act) (b' : Book) (cs : List Cascade) (t a floor : ℕ) (c : Cell C) (long : List Ran) (r : Bool) (n : ℕ) (y : Who) → Asked acts b' t a c.last floor c.floors (tail_group c.entries)
    → Turns long c.entries → AllByRecursion (λ k. is_aborted k cs ≡ false) (batches_in long) → AllByRecursion (λ k. k ≤ c.last) (batches_in long)
    → shows.IsTold kept acts r n y → ShowsNumber cs (own_floor r c.floors) n y long → holds (is_free_or_above r n) (act_of t b'.acts) ≡ true
asked_one kept acts b' cs t a floor c long r n (OfBatch k) q i f l told h = over_low r b' t (max c.last floor) n (omega (arith, h.0, among_most k c.last (batches_in long) h.1 l)) q.high
asked_one kept acts b' cs t a floor c long r n (OfAct u) q i f l told h = elim (cases_Bool (r && reads_in b'.acts t)) [
  | inl v ↦ over_reads r (act_of t b'.acts) n (held_act (λ x. nat_le (max c.last floor) x.m) (act_of t b'.acts) q.high) v
  | inr v ↦ elim h [
    | inl j ↦ over_low r b' t (max c.last floor) n (omega (arith, j, q.floored r v)) q.high
    | inr j ↦ elim (below_or_tail cs n u c.last [] long c.entries i f l j) [
      | inl k ↦ over_low r b' t (max c.last floor) n (omega (arith, k)) q.high
      | inr k ↦ over_paired r b' t a u n q.carried (held_act (λ x. nat_le (max c.last floor) x.m) (act_of t b'.acts) q.high) (q.fixed u n told.0) (ap (λ z. z && reads_in b'.acts t) (q.kinds u r told.1) ∙ v) (q.pairs u k)
    ]
  ]
]

as_is : (r : Bool) (d : Done) → is_as r d ≡ true → d.reader ≡ r
as_is true d e = e
as_is false d e = not-true d.reader e

pub all_as : (P : Done → Type 0) (r : Bool) (ds : List Done) → AllByRecursion P ds → AllByRecursion (λ d. P d × (d.reader ≡ r)) (filter (is_as r) ds)
all_as P r [] h = tt
all_as P r (d ∷ ds) h = by (is_as r d) refl (all_as P r ds h.1)
  where
    by : (v : Bool) → is_as r d ≡ v → AllByRecursion (λ d. P d × (d.reader ≡ r)) (filter (is_as r) ds) → AllByRecursion (λ d. P d × (d.reader ≡ r)) (if v then d ∷ filter (is_as r) ds else filter (is_as r) ds)
    by true e k = ((h.0, as_is r d e), k)
    by false e k = k

asked_all : {C : Type 0} (kept : List Who) (acts : List Act) (b' : Book) (cs : List Cascade) (t a floor : ℕ) (c : Cell C) (long : List Ran) (ds : List Done) → Asked acts b' t a c.last floor c.floors (tail_group c.entries)
    → Turns long c.entries → AllByRecursion (λ k. is_aborted k cs ≡ false) (batches_in long) → AllByRecursion (λ k. k ≤ c.last) (batches_in long)
    → AllByRecursion (shows.ToldOf kept acts) ds → AllByRecursion (λ d. ShowsNumber cs (own_floor d.reader c.floors) (first_number_of d) d.who long) (visitors a ds) → (r : Bool) → holds (is_free_or_above r (highest r a ds)) (act_of t b'.acts) ≡ true
asked_all kept acts b' cs t a floor c long ds q i f l told h r =
    over_each r (act_of t b'.acts) (filter (is_as r) (visitors a ds)) (held_act (λ x. nat_le (max c.last floor) x.m) (act_of t b'.acts) q.high)
    (weaker _ (λ d. holds (is_free_or_above r (first_number_of d)) (act_of t b'.acts) ≡ true) (filter (is_as r) (visitors a ds)) (λ d p. subst (λ z. holds (is_free_or_above z (first_number_of d)) (act_of t b'.acts) ≡ true) p.1 p.0) (all_as (λ d. holds (is_free_or_above d.reader (first_number_of d)) (act_of t b'.acts) ≡ true) r (visitors a ds)
    (both_all (shows.ToldOf kept acts) (λ d. ShowsNumber cs (own_floor d.reader c.floors) (first_number_of d) d.who long) (λ d. holds (is_free_or_above d.reader (first_number_of d)) (act_of t b'.acts) ≡ true) (visitors a ds) (λ d u v. asked_one kept acts b' cs t a floor c long d.reader (first_number_of d) d.who q i f l u v) (all_filter (shows.ToldOf kept acts) (visits a) ds told) h)))

-- ---- event by event

unfoldable pub Overs : {C : Type 0} → Machine C → History → Type 0
Overs s h = (r : Bool) (a : ℕ) → AllOver r s.book.acts (highest r a h.committed) (h.long a)

-- what is ahead of a batch that commits committed
unfoldable pub CommitsNext : {C : Type 0} → Event → Machine C → History → Type 0
CommitsNext (Commit k) s h = (a : ℕ) → KeptAhead h.kept (OfBatch k) (h.long a)
CommitsNext _ s h = Unit {0}

pub record With {C : Type 0} (w : Fixed C) (s : Machine C) (h : History) : Type 0 where
  pub beside : Beside w s h
  pub placed : Placed w s h
  pub lasts : Lasts s h
  pub numbers : Numbers s h
  pub grouped : Groups s h
  pub showing : Showing s h
  pub told : shows.AllTold s h
  pub none_live : NoneLive s h
  pub locks : Locks s

floor_counts : (r v : Bool) (f : FloorPair) → (r && v) ≡ false → own_floor r f ≤ floor_for v f
floor_counts true true f e = absurd (true≢false e)
floor_counts true false f e = omega arith
floor_counts false true f e = omega arith
floor_counts false false f e = omega arith

kind_now : (acts acts' : List Act) (u : ℕ) (r : Bool) → Grows acts acts' → holds (λ x. agree x.reader r) (act_of u acts) ≡ true → reads_in acts' u ≡ r
kind_now acts acts' u r g h = by (act_of u acts') (shows.kind_stays acts acts' u r g h)
  where
    by : (o : Option Act) → holds (λ x. agree x.reader r) o ≡ true → holds (λ x. x.reader) o ≡ r
    by None q = absurd (true≢false (sym q))
    by (Some x) q = agree_is x.reader r q

own_kind : (acts : List Act) (u : ℕ) → holds (λ x. not (is_doomed x.status)) (act_of u acts) ≡ true → holds (λ x. agree x.reader (reads_in acts u)) (act_of u acts) ≡ true
own_kind acts u h = by (act_of u acts) h
  where
    by : (o : Option Act) → holds (λ x. not (is_doomed x.status)) o ≡ true → holds (λ x. agree x.reader (holds (λ x. x.reader) o)) o ≡ true
    by None q = absurd (true≢false (sym q))
    by (Some x) q = agree_same x.reader

ask : {C : Type 0} (w : Fixed C) (t a : ℕ) (s : Machine C) (h : History) → IsAllowed w (Ask t a) s → shows.Owed (Ask t a) s h → With w s h → AllByRecursion (CarriesNumber (after w (Ask t a) s).book) (after w (Ask t a) s).book.pairs
    → (r : Bool) → AllOver r (after w (Ask t a) s).book.acts (highest r a h.committed) (h.long a) → AllOver r (after w (Ask t a) s).book.acts (highest r a h.committed) (h.long a ++ map not_run (asks t (book.in_the_way (lock_of t s.book.acts) (cell_at s a).entries)))
unfolding conditions after Lasts Placed Turned Showing shows.AllTold
ask {C} w t a s h ok o g k r v = by (book.in_the_way (lock_of t s.book.acts) (cell_at s a).entries) refl
  where
    c : Cell C
    c = cell_at s a

    floor : ℕ
    floor = floor_at t s.book.acts c

    asked : book.in_the_way (lock_of t s.book.acts) c.entries ≡ None → Asked s.book.acts (after w (Ask t a) s).book t a c.last floor c.floors (tail_group c.entries)
    asked e = record {
      high = subst (λ o. holds (λ x. nat_le (max c.last floor) x.m) (act_of t (book.asked_acts o (book.met (lock_of t s.book.acts) c.entries) t a (max c.last floor) s.book)) ≡ true) (sym e) (asked_high t a c s.book (held_act _ (act_of t s.book.acts) ok.1.0));
      floored = λ r q. floor_counts r (reads_in s.book.acts t) c.floors (ap (λ z. r && z) (sym (kind_now s.book.acts (after w (Ask t a) s).book.acts t (reads_in s.book.acts t) (acts_grow w (Ask t a) s) (own_kind s.book.acts t ok.1.0))) ∙ q);
      pairs = λ u i. subst (λ o. is_paired a (book.asked_pairs o (book.met (lock_of t s.book.acts) c.entries) t a s.book) (after w (Ask t a) s).book.acts u t ≡ true) (sym e) (groups.asked_pairs t a u c s.book (after w (Ask t a) s).book.acts (acts_grow w (Ask t a) s) (groups.locks_tell s a g.locks) i);
      carried = k;
      fixed = λ u n f. shows.fixed_stays w (Ask t a) s h n u o f;
      kinds = λ u r q. kind_now s.book.acts (after w (Ask t a) s).book.acts u r (acts_grow w (Ask t a) s) q;
    }

    by : (q : Option ℕ) → book.in_the_way (lock_of t s.book.acts) c.entries ≡ q → AllOver r (after w (Ask t a) s).book.acts (highest r a h.committed) (h.long a ++ map not_run (asks t q))
    by (Some x) e = rw (append-nil (h.long a)) v
    by None e = HighLists.over_act r (after w (Ask t a) s).book.acts (highest r a h.committed) t (h.long a)
        (asked_all h.kept s.book.acts (after w (Ask t a) s).book s.book.cascades t a floor c (h.long a) h.committed (asked e) (g.beside.turned a)
        (none_aborted s.ring.next_bid s.book.cascades c.epoch c.tail (batches_in (h.long a)) (eqb-true c.epoch (epoch s.book) (cells.held (λ c. c.epoch == epoch s.book) s.cells a no_cell ok.1.1.1.0)) ((g.placed a).fit))
        ((g.lasts a).placed) g.told (g.showing a) r) v

commit : (r : Bool) (a k : ℕ) (acts : List Act) (kept : List Who) (h : History) (o : Option Batch) → ((t : ℕ) → is_kept (OfAct t) kept ≡ true → NotLive acts t) → KeptAhead kept (OfBatch k) (h.long a) → Befores acts 0 (h.long a)
    → AllOver r acts (highest r a h.committed) (h.long a) → AllOver r acts (highest r a (h.committed ++ done_batch k h o)) (h.long a)
commit r a k acts kept h None n q b g = HighLists.over_less r acts _ (highest r a h.committed) (h.long a) (omega (arith, highest_join r a h.committed [])) g
commit r a k acts kept h (Some x) n q b g = elim (cases_Bool (is_key_among (OfBatch k) (keys_in (h.long a)))) [
  | inl i ↦ HighLists.over_less r acts (highest r a (h.committed ++ map (done_pact k h) x.pacts)) (max (highest r a h.committed) k) (h.long a) (omega (arith, highest_join r a h.committed (map (done_pact k h) x.pacts), highest_batch r a k h x.pacts)) (HighLists.over_commit r acts kept k 0 (highest r a h.committed) (h.long a) n i q b g)
  | inr i ↦ HighLists.over_less r acts (highest r a (h.committed ++ map (done_pact k h) x.pacts)) (highest r a h.committed) (h.long a) (omega (arith, highest_join r a h.committed (map (done_pact k h) x.pacts), none_came r a k h x.pacts i)) g
]

-- what is ahead of one that does not read committed; ahead of a reader, of those that do not read
kept_free : (r : Bool) (acts : List Act) (kept : List Who) (u : ℕ) (rs : List Ran) → ((t : ℕ) → is_kept (OfAct t) kept ≡ true → NotLive acts t) → KeptAhead kept (OfAct u) rs → HighLists.FreeAhead r acts u rs
kept_free r acts kept u [] n h = tt
kept_free r acts kept u (Stands (OfBatch k) c ss ∷ rs) n h = kept_free r acts kept u rs n h.1
kept_free r acts kept u (Stands (OfAct t) c ss ∷ rs) n h = ((λ e. by (act_of t acts) (n t (h.0 e))), kept_free r acts kept u rs n h.1)
  where
    by : (o : Option Act) → holds (λ x. not (is_live_status x.status)) o ≡ true → holds (is_free r) o ≡ true
    by None q = q
    by (Some x) q = or_right (r && x.reader) _ q
kept_free r acts kept u (Gone y ss ∷ rs) n h = kept_free r acts kept u rs n h

decide : {C : Type 0} (w : Fixed C) (t a : ℕ) (s : Machine C) (h : History) (x : Act) → is_live_status x.status ≡ true → MayDecide s h t x → OpenAbove x.m s.desk.batches → With w s h → AllByRecursion (CarriesNumber s.book) s.book.pairs
    → (q : Option Act) → q ≡ Some x → (r : Bool) → AllOver r s.book.acts (highest r a h.committed) (h.long a) → AllOver r s.book.acts (highest r a (h.committed ++ done_act s.book.next_c h q)) (h.long a)
unfolding Numbers Groups NoneLive Committed
decide w t a s h x live may low g k None e r v = absurd (cc e)
decide w t a s h x live may low g k (Some y) e r v = let i : y ≡ x = cc e in subst (λ z. AllOver r s.book.acts (highest r a (h.committed ++ done_act s.book.next_c h (Some z))) (h.long a)) (sym i) (elim (cases_Bool (visits a unit && is_as r unit)) [
  | inl q ↦
      let p = and_parts (visits a unit) (is_as r unit) q in
      let kind : x.reader ≡ r = as_is r unit p.1 in
      let there = may.there a p.0 in
      HighLists.over_less r s.book.acts (highest r a (h.committed ++ unit ∷ [])) (max (highest r a h.committed) x.m) (h.long a) (omega (arith, highest_join r a h.committed (unit ∷ []), one_most r (visits a unit)))
      (HighLists.over_decide r s.book.acts h.kept a s.book.pairs s.book.cascades t x.m 0 (highest r a h.committed) (h.long a) (paired r kind) (own r) may.fresh ((g.beside.committed a).front) (free r kind p.0) (g.grouped a) (shows.decided_below w s h t a x.m g.beside low may.fresh there) (g.beside.taken a) (g.numbers a) v)
  | inr q ↦ HighLists.over_less r s.book.acts (highest r a (h.committed ++ unit ∷ [])) (highest r a h.committed) (h.long a) (omega (arith, highest_join r a h.committed (unit ∷ []), none_most r (visits a unit) (is_as r unit) refl q)) v
])
  where
    unit : Done
    unit = record { who = OfAct x.tid; tid = x.tid; tx = x.tx; place = Rattle.protocol.specs.Verdicts.act_place x.m s.book.next_c; result = x.result; reader = x.reader; views = Rattle.protocol.specs.History.act_view h x }

    one_most : (r : Bool) (b : Bool) → greatest (map first_number_of (filter (is_as r) (if b then unit ∷ [] else []))) ≤ x.m
    one_most r true = by (is_as r unit)
      where
        by : (v : Bool) → greatest (map first_number_of (if v then unit ∷ [] else [])) ≤ x.m
        by true = omega arith
        by false = omega arith
    one_most r false = omega arith

    none_most : (r b v : Bool) → is_as r unit ≡ v → (b && v) ≡ false → greatest (map first_number_of (filter (is_as r) (if b then unit ∷ [] else []))) ≡ 0
    none_most r true true e q = absurd (true≢false q)
    none_most r true false e q = rw e refl
    none_most r false v e q = refl

    undoomed : (st : Status) → is_live_status st ≡ true → is_doomed st ≡ false
    undoomed Live l = refl
    undoomed (Doomed v) l = absurd (true≢false (sym l))
    undoomed (Decided c) l = refl
    undoomed (Sealed c) l = refl

    raise : (r : Bool) (n : ℕ) (z : Act) → (is_live_status z.status ≡ true → (r && z.reader) ≡ false → n ≤ z.m) → is_free_or_above r (highest r a h.committed) z ≡ true → is_free_or_above r (max (highest r a h.committed) n) z ≡ true
    raise r n z l o = elim (or_cases (is_free r z) (nat_le (highest r a h.committed) z.m) o) [
      | inl d ↦ or_left (is_free r z) _ d
      | inr d ↦ elim (cases_Bool (is_free r z)) [
        | inl f ↦ or_left (is_free r z) _ f
        | inr f ↦ or_right (is_free r z) _ (le-leb (max (highest r a h.committed) n) z.m (omega (arith, leb-true (highest r a h.committed) z.m d, l (not_not (is_live_status z.status) (or_parts (r && z.reader) (not (is_live_status z.status)) f).1) (or_parts (r && z.reader) (not (is_live_status z.status)) f).0)))
      ]
    ]
      where
        not_not : (b : Bool) → not b ≡ false → b ≡ true
        not_not true e = refl
        not_not false e = absurd (true≢false e)

    own : (r : Bool) → holds (is_free_or_above r (highest r a h.committed)) (act_of t s.book.acts) ≡ true → holds (is_free_or_above r (max (highest r a h.committed) x.m)) (act_of t s.book.acts) ≡ true
    own r o = subst (λ z. holds (is_free_or_above r (max (highest r a h.committed) x.m)) z ≡ true) (sym may.is_it) (raise r x.m x (λ l f. omega arith) (subst (λ z. holds (is_free_or_above r (highest r a h.committed)) z ≡ true) may.is_it o))

    reads : reads_in s.book.acts t ≡ x.reader
    reads = ap (holds (λ x. x.reader)) may.is_it

    paired : (r : Bool) → x.reader ≡ r → (v : ℕ) → is_paired a s.book.pairs s.book.acts t v ≡ true → holds (is_free_or_above r (highest r a h.committed)) (act_of v s.book.acts) ≡ true → holds (is_free_or_above r (max (highest r a h.committed) x.m)) (act_of v s.book.acts) ≡ true
    paired r kind v p o =
        let z = one_is (is_free_or_above r (highest r a h.committed)) (act_of v s.book.acts) o in
        subst (λ o. holds (is_free_or_above r (max (highest r a h.committed) x.m)) o ≡ true) (sym z.1) (raise r x.m z.0 (λ l f. elim (or_cases (both_read s.book.acts t v) (doomed_at s.book.acts t || (doomed_at s.book.acts v || has_pair a v t s.book.pairs)) p) [
          | inl b ↦ absurd (true≢false (sym b ∙ (ap (λ q. q && reads_in s.book.acts v) (reads ∙ kind) ∙ (ap (λ o. r && holds (λ x. x.reader) o) z.1 ∙ f))))
          | inr p ↦ elim (or_cases (doomed_at s.book.acts t) (doomed_at s.book.acts v || has_pair a v t s.book.pairs) p) [
            | inl d ↦ absurd (true≢false (sym (subst (λ o. holds (λ x. is_doomed x.status) o ≡ true) may.is_it d) ∙ undoomed x.status live))
            | inr q ↦ elim (or_cases (doomed_at s.book.acts v) (has_pair a v t s.book.pairs) q) [
              | inl d ↦ absurd (true≢false (sym (subst (λ o. holds (λ x. is_doomed x.status) o ≡ true) z.1 d) ∙ undoomed z.0.status l))
              | inr j ↦ groups.pair_carries s.book a v t s.book.pairs z.0 x j k z.1 may.is_it (live_unordered z.0.status l) (undoomed x.status live)
            ]
          ]
        ]) z.2)

    free : (r : Bool) → x.reader ≡ r → visits a unit ≡ true → HighLists.FreeAhead r s.book.acts t (h.long a)
    free true kind there = may.readers_ahead kind a there
    free false kind there = kept_free false s.book.acts h.kept t (h.long a) g.none_live (may.ahead kind a)

-- the book changes
booked : {C : Type 0} (w : Fixed C) (e : Event) (s : Machine C) (h : History) → ((r : Bool) (a : ℕ) → AllOver r s.book.acts (highest r a h.committed) (h.long a)) → (r : Bool) (a : ℕ) → AllOver r (after w e s).book.acts (highest r a h.committed) (h.long a)
booked w e s h g r a = HighLists.over_grow r s.book.acts (after w e s).book.acts (highest r a h.committed) (h.long a) (acts_grow w e s) (g r a)

finish : (r : Bool) (acts : List Act) (high t : ℕ) (q : Bool) (long : List Ran) → AllOver r acts high long → AllOver r acts high (if q then without_standing (OfAct t) long else map (left_for_good (OfAct t)) long)
finish r acts high t true long h = HighLists.over_without r acts high t long h
finish r acts high t false long h = HighLists.over_left r acts high (OfAct t) long h

pub overs_kept : {C : Type 0} (w : Fixed C) (e : Event) (s : Machine C) (h : History) → IsAllowed w e s → shows.Owed e s h → CommitsNext e s h → With w s h → ((x : Act) (t : ℕ) → e ≡ Decide t → act_of t s.book.acts ≡ Some x → OpenAbove x.m s.desk.batches)
    → AllByRecursion (CarriesNumber s.book) s.book.pairs → AllByRecursion (CarriesNumber (after w e s).book) (after w e s).book.pairs → Overs s h → Overs (after w e s) (grown w e s h)
unfolding Overs CommitsNext shows.Owed Numbers NoneLive conditions after grown
overs_kept w (Arrive k a) s h ok o n b m p p' g = λ r. beside_carried (λ b rs. AllOver r (after w (Arrive k a) s).book.acts (highest r b h.committed) rs) a _ h.long (HighLists.over_batch r (after w (Arrive k a) s).book.acts (highest r a h.committed) k (h.long a)) (booked w (Arrive k a) s h g r)
overs_kept w (Ask t a) s h ok o n b m p p' g = λ r. beside_carried (λ b rs. AllOver r (after w (Ask t a) s).book.acts (highest r b h.committed) rs) a _ h.long (ask w t a s h ok o b p' r) (booked w (Ask t a) s h g r)
overs_kept w (Run t a) s h ok o n b m p p' g = λ r. beside_carried (λ b rs. AllOver r s.book.acts (highest r b h.committed) rs) a _ h.long (TrackLists.on_reads (AllOver r s.book.acts (highest r a h.committed)) (cell.reads_on t (cell_at s a).entries) _ _ (h.long a) (HighLists.over_ran r s.book.acts (highest r a h.committed) _ _ (h.long a))) (g r)
overs_kept w (Complete k a) s h ok o n b m p p' g = λ r. beside_carried (λ b rs. AllOver r s.book.acts (highest r b h.committed) rs) a _ h.long (HighLists.over_completed r s.book.acts (highest r a h.committed) k (h.long a)) (g r)
overs_kept w (Commit k) s h ok o n b m p p' g = λ r a. commit r a k s.book.acts h.kept h (batch_of k s.desk.batches) b.none_live (n a) (b.numbers a) (g r a)
overs_kept w (Rollback a) s h ok o n b m p p' g = λ r. beside_carried (λ b rs. AllOver r s.book.acts (highest r b h.committed) rs) a _ h.long (HighLists.over_staying r s.book.acts (highest r a h.committed) s.book.cascades (h.long a)) (g r)
overs_kept w (Decide t) s h ok o n b m p p' g = λ r a.
    HighLists.over_grow r s.book.acts (after w (Decide t) s).book.acts (highest r a (h.committed ++ done_act s.book.next_c h (act_of t s.book.acts))) (h.long a) (acts_grow w (Decide t) s)
    (decide w t a s h o.0 (shows.live_here t o.0 (act_of t s.book.acts) o.1.is_it ok.0) o.1 (m o.0 t refl o.1.is_it) b p (act_of t s.book.acts) o.1.is_it r (g r a))
overs_kept w (Finish t a) s h ok o n b m p p' g = λ r. beside_carried (λ b rs. AllOver r (after w (Finish t a) s).book.acts (highest r b h.committed) rs) a _ h.long (finish r (after w (Finish t a) s).book.acts (highest r a h.committed) t (is_traceless (act_of t s.book.acts)) (h.long a)) (booked w (Finish t a) s h g r)
overs_kept w (Trim k a) s h ok o n b m p p' g = λ r. beside_carried (λ b rs. AllOver r s.book.acts (highest r b h.committed) rs) a _ h.long (HighLists.over_left r s.book.acts (highest r a h.committed) (OfBatch k) (h.long a)) (g r)
overs_kept w e s h ok o n b m p p' g = booked w e s h g

-- ---- what it says of an ACT that gets its place

standing_over : (r : Bool) (acts : List Act) (high t : ℕ) (rs : List Ran) → is_key_among (OfAct t) (keys_in rs) ≡ true → AllOver r acts high rs → holds (is_free_or_above r high) (act_of t acts) ≡ true
standing_over r acts high t [] e h = absurd (true≢false (sym e))
standing_over r acts high t (Stands (OfBatch k) c ss ∷ rs) e h = standing_over r acts high t rs e h
standing_over r acts high t (Stands (OfAct u) c ss ∷ rs) e h = elim (or_cases (u == t) (is_key_among (OfAct t) (keys_in rs)) e) [ inl i ↦ subst (λ z. holds (is_free_or_above r high) (act_of z acts) ≡ true) (eqb-true u t i) h.0 | inr i ↦ standing_over r acts high t rs i h.1 ]
standing_over r acts high t (Gone y ss ∷ rs) e h = standing_over r acts high t rs e h

-- of the ones of each kind a fact, so of all
from_kinds : (P : Done → Type 0) (ds : List Done) → ((r : Bool) → AllByRecursion P (filter (is_as r) ds)) → AllByRecursion P ds
from_kinds P [] h = tt
from_kinds P (d ∷ ds) h = ((subst (λ v. AllByRecursion P (if v then d ∷ filter (is_as d.reader) ds else filter (is_as d.reader) ds)) (as_own d.reader refl) (h d.reader)).0, from_kinds P ds (λ r. rest r (h r)))
  where
    as_own : (b : Bool) → d.reader ≡ b → is_as b d ≡ true
    as_own true e = e
    as_own false e = ap not e

    rest : (r : Bool) → AllByRecursion P (if is_as r d then d ∷ filter (is_as r) ds else filter (is_as r) ds) → AllByRecursion P (filter (is_as r) ds)
    rest r k = tail (is_as r d) k
      where
        tail : (v : Bool) → AllByRecursion P (if v then d ∷ filter (is_as r) ds else filter (is_as r) ds) → AllByRecursion P (filter (is_as r) ds)
        tail true k = k.1
        tail false k = k

-- all that committed on an actor where a live ACT came have numbers at most its own, but for readers where it reads
pub high_before : {C : Type 0} (s : Machine C) (h : History) (t a : ℕ) (x : Act) → Overs s h → act_of t s.book.acts ≡ Some x → is_live_status x.status ≡ true → is_key_among (OfAct t) (keys_in (h.long a)) ≡ true
    → AllByRecursion (λ d. (d.reader && x.reader) ≡ false → first_number_of d ≤ x.m) (visitors a h.committed)
unfolding Overs
high_before s h t a x g e l v = from_kinds (λ d. (d.reader && x.reader) ≡ false → first_number_of d ≤ x.m) (visitors a h.committed) (λ r. kind r (or_cases (is_free r x) (nat_le (highest r a h.committed) x.m) (subst (λ o. holds (is_free_or_above r (highest r a h.committed)) o ≡ true) e (standing_over r s.book.acts (highest r a h.committed) t (h.long a) v (g r a)))))
  where
    kind : (r : Bool) → (is_free r x ≡ true) ⊎ (nat_le (highest r a h.committed) x.m ≡ true) → AllByRecursion (λ d. (d.reader && x.reader) ≡ false → first_number_of d ≤ x.m) (filter (is_as r) (visitors a h.committed))
    kind r (inr q) = weaker _ _ (filter (is_as r) (visitors a h.committed)) (λ d k f. k) (each_most (filter (is_as r) (visitors a h.committed)) x.m (leb-true (highest r a h.committed) x.m q))
    kind r (inl q) = elim (or_cases (r && x.reader) (not (is_live_status x.status)) q) [
      | inl b ↦ weaker _ _ (filter (is_as r) (visitors a h.committed)) (λ d k f. absurd (true≢false (sym b ∙ (ap (λ z. z && x.reader) (sym k.1) ∙ f)))) (all_as (λ d. Unit {0}) r (visitors a h.committed) (units (visitors a h.committed)))
      | inr b ↦ absurd (true≢false (sym b ∙ ap not l))
    ]
      where
        units : (ds : List Done) → AllByRecursion (λ d. Unit {0}) ds
        units [] = tt
        units (d ∷ ds) = (tt, units ds)
