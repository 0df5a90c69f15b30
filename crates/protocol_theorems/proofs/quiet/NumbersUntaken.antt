-- The before number of an ACT that is not doomed is no aborted batch, over every run.
use Rattle.std.specs.Prelude.{◌≡◌, refl, ℕ, ◌+◌, ◌<◌, ◌≤◌, ◌==◌, nat_le, max, not, Bool, true, false, ◌&&◌, if◌then◌else◌, Option, Some, None, List, [], ◌∷◌, ◌++◌, map, filter}
use Rattle.std.specs.List.{AllByRecursion}
use Rattle.std.proofs.Common.{arith, sym, ap, subst, inl, inr, ◌∙◌}
use Rattle.std.proofs.lemmas.Bool.{eqb-true, leb-true, le-leb, and_parts, and_left, or_from, true≢false, not-true, false_from_ne_true, cases_lt}
use Rattle.snap_base.specs.declared.transactions.State.{State}
use Rattle.snap_base.specs.declared.transactions.Tx.{Tx}
use Rattle.protocol.specs.Fixed.{Fixed, base, Next, Go, Ended}
use Rattle.protocol.specs.Facts.{Alone}
use Rattle.protocol.specs.Rivals.{Lock}
use Rattle.protocol.specs.Parts.{Act, Pair, Book, Cascade, Status, Live, Doomed, Decided, Sealed, Outcome, FloorPair, Cell, Machine}
use Rattle.protocol.specs.Events.{Event, Admit, Arrive, Ask, End, Abort, Prepare, Vouch, Decide, Seal, Finish}
use Rattle.protocol.specs.Words.{holds, greatest, covers, is_aborted, is_doomed, is_live_status, is_sealed, is_value, act_of, has_act, outcome_of, is_ordered, lock_of, floor_for, floor_at}
use Rattle.protocol.specs.Spread.{raised, carried, carries_to, crossed_out, is_crossed}
use Rattle.protocol.specs.Conditions.{IsAllowed, conditions, epoch}
use Rattle.protocol.specs.Effects.{after, cell_at, no_cell}
use Rattle.protocol.specs.Runs.{opening, IsRun, reached}
use Rattle.protocol.specs.OnBook as book
use Rattle.protocol.specs.History.{History, no_history, grown, batches_in}
use Rattle.protocol_theorems.specs.Floors.{number_or_0, number_in, is_kind}
use Rattle.protocol_laws.specs.Befores.{LastIs}
use Rattle.protocol_laws.specs.Highs.{own_floor}
use Rattle.protocol_laws.proofs.first.CellEpochs as cells
use Rattle.protocol_laws.proofs.first.SettlingKept as settling
use Rattle.protocol_laws.proofs.first.SettlingKeys as keys
use Rattle.protocol_laws.proofs.machine.TurnsKept.{one_is}
use Rattle.protocol_laws.proofs.machine.PlacesKept.{Placed}
use Rattle.protocol_laws.proofs.machine.BeforesKept.{Lasts}
use Rattle.protocol_laws.proofs.first.PairsFound.{TidsAscend}
use Rattle.protocol_laws.proofs.machine.ActsKept.{Acts}
use Rattle.protocol_laws.proofs.machine.BehindKept as behind
use Rattle.protocol_theorems.proofs.sets.LastsTight.{Tights, Tight}
use Rattle.protocol_theorems.proofs.sets.FloorsKept.{Floors, Both}
use Rattle.protocol_theorems.proofs.sets.BeforeSets as sets
use Rattle.protocol_theorems.proofs.sets.BeforeSets.{Less, if_less, dooms}
use Rattle.protocol_theorems.proofs.sets.BeforeStand as before
use Rattle.protocol_theorems.proofs.sets.BeforeStand.{BeforeStand}
use Rattle.protocol_laws.proofs.machine.Good.{Given}
use Rattle.protocol_laws.proofs.machine.AllGood as all
use Rattle.protocol_laws.proofs.machine.AllGood.{AllGood}
use Rattle.protocol_laws.proofs.first.Lists.{all_join, all_map, both_all, all_found}
use Rattle.protocol_laws.proofs.first.Statuses.{not_doomed_decided}

-- ---- numbers

abbrev pub IsOut : List Cascade → ℕ → Type 0
IsOut cs n = is_aborted n cs ≡ false

out_max : (cs : List Cascade) (m n : ℕ) → IsOut cs m → IsOut cs n → IsOut cs (max m n)
out_max cs m n h k = elim (cases_lt m n) [
  | inl l ↦ let e : max m n ≡ n = omega (arith, l) in subst (IsOut cs) (sym e) k
  | inr l ↦ let e : max m n ≡ m = omega (arith, l) in subst (IsOut cs) (sym e) h
]

out_greatest : (cs : List Cascade) (ns : List ℕ) → IsOut cs 0 → AllByRecursion (IsOut cs) ns → IsOut cs (greatest ns)
out_greatest cs [] z h = z
out_greatest cs (n ∷ ns) z h = out_max cs n (greatest ns) h.0 (out_greatest cs ns z h.1)

-- below all cascades
out_low : (low high n : ℕ) (cs : List Cascade) → keys.Ascend low high cs → n < low → IsOut cs n
out_low low high n [] a l = refl
out_low low high n (c ∷ cs) a l =
    let p = keys.ascend_step low high c cs a in
    or_from (covers n c) (is_aborted n cs) (and_left (nat_le c.first n) (nat_le n c.upto) (false_from_ne_true (nat_le c.first n) (λ e. omega (arith, leb-true c.first n e, p.0, l)))) (out_low (c.upto + 1) high n cs p.2 (omega (arith, l, p.0, p.1)))

-- a number that is the greater of a low one and another
out_of_two : (cs : List Cascade) (first g n : ℕ) → ((k : ℕ) → k ≤ first → IsOut cs k) → IsOut cs g → n ≤ max first g → g ≤ max first n → IsOut cs n
out_of_two cs first g n low h l m = elim (cases_lt first n) [
  | inl q ↦ let e : n ≡ g = omega (arith, l, m, q) in subst (IsOut cs) (sym e) h
  | inr q ↦ low n (omega (arith, q))
]

-- ---- ACTs

abbrev pub IsUntaken : List Cascade → Act → Type 0
IsUntaken cs x = is_doomed x.status ≡ false → IsOut cs x.m

untaken_less : (cs : List Cascade) (x y : Act) → Less x y → IsUntaken cs x → IsUntaken cs y
untaken_less cs x y k h = λ d. subst (IsOut cs) (sym k.m) (h (k.doomed d))

untaken_map : (cs : List Cascade) (f : Act → Act) (xs : List Act) → ((x : Act) → Less x (f x)) → AllByRecursion (IsUntaken cs) xs → AllByRecursion (IsUntaken cs) (map f xs)
untaken_map cs f xs k h = all_map (IsUntaken cs) (IsUntaken cs) f xs (λ x i. untaken_less cs x (f x) (k x) i) h

untaken_changed : (cs : List Cascade) (t : ℕ) (f : Act → Act) (xs : List Act) → ((x : Act) → Less x (f x)) → AllByRecursion (IsUntaken cs) xs → AllByRecursion (IsUntaken cs) (book.changed_act t f xs)
untaken_changed cs t f xs k h = untaken_map cs _ xs (λ x. if_less (x.tid == t) f x (k x)) h

untaken_carried : (cs : List Cascade) (ps : List Pair) (x : Act) (ys : List Act) → IsOut cs 0 → AllByRecursion (IsUntaken cs) ys → IsOut cs (carried ps x ys)
untaken_carried cs ps x [] z h = z
untaken_carried cs ps x (y ∷ ys) z h = by (carries_to ps x y) refl (untaken_carried cs ps x ys z h.1)
  where
    by : (c : Bool) → carries_to ps x y ≡ c → IsOut cs (carried ps x ys) → IsOut cs (greatest (map (λ u. u.m) (if c then y ∷ filter (carries_to ps x) ys else filter (carries_to ps x) ys)))
    by true e r = out_max cs y.m (carried ps x ys) (h.0 (not-true (is_doomed y.status) (and_parts (not (is_doomed y.status)) _ (and_parts (not (is_ordered x.status)) _ e).1).0)) r
    by false e r = r

untaken_raised : (cs : List Cascade) (ps : List Pair) (xs : List Act) → IsOut cs 0 → AllByRecursion (IsUntaken cs) xs → AllByRecursion (IsUntaken cs) (raised ps xs)
untaken_raised cs ps [] z h = tt
untaken_raised cs ps (x ∷ xs) z h = let r = untaken_raised cs ps xs z h.1 in ((λ d. out_max cs x.m (carried ps x (raised ps xs)) (h.0 d) (untaken_carried cs ps x (raised ps xs) z r)), r)

untaken_joined : (cs : List Cascade) (t a m : ℕ) (xs : List Act) → IsOut cs m → AllByRecursion (IsUntaken cs) xs → AllByRecursion (IsUntaken cs) (book.changed_act t (book.joins a m) xs)
untaken_joined cs t a m xs o h = all_map (IsUntaken cs) (IsUntaken cs) (λ x. book.change_if (x.tid == t) (book.joins a m) x) xs (λ x i. by (x.tid == t) x i) h
  where
    by : (c : Bool) (x : Act) → IsUntaken cs x → IsUntaken cs (book.change_if c (book.joins a m) x)
    by true x i = λ d. out_max cs x.m m (i d) o
    by false x i = i

untaken_asked : {C : Type 0} (cs : List Cascade) (t a : ℕ) (o : Option ℕ) (group : List Lock) (c : Cell C) (b : Book) → IsOut cs 0 → IsOut cs (max c.last (floor_at t b.acts c)) → AllByRecursion (IsUntaken cs) b.acts → AllByRecursion (IsUntaken cs) (book.asked_acts o group t a (max c.last (floor_at t b.acts c)) b)
untaken_asked cs t a (Some x) group c b z m h = untaken_changed cs t _ b.acts (λ y. record { tid = refl; m = refl; doomed = dooms (is_live_status y.status) _ y.status }) h
untaken_asked cs t a None group c b z m h =
    let joined = book.changed_act t (book.joins a (max c.last (floor_at t b.acts c))) b.acts in
    untaken_map cs (crossed_out a) (raised (b.pairs ++ book.new_pairs t a group b.acts) joined) (λ y. record { tid = refl; m = refl; doomed = dooms (is_crossed y) _ y.status }) (untaken_raised cs (b.pairs ++ book.new_pairs t a group b.acts) joined z (untaken_joined cs t a (max c.last (floor_at t b.acts c)) b.acts m h))

untaken_ended : {C : Type 0} (cs : List Cascade) (t : ℕ) (v : Bool) (o : Option (Outcome C)) (xs : List Act) → AllByRecursion (IsUntaken cs) xs → AllByRecursion (IsUntaken cs) (if v then book.noted_from t o xs else xs)
untaken_ended cs t false o xs h = h
untaken_ended cs t true None xs h = h
untaken_ended {C} cs t true (Some x) xs h = by x.next
  where
    by : (y : Next C) → AllByRecursion (IsUntaken cs) (book.noted_for t y xs)
    by (Go c d) = h
    by (Ended r) = untaken_changed cs t (book.with_result r) xs (λ x. record { tid = refl; m = refl; doomed = λ d. d }) h

-- the floor is the number of one that left sealed, or base
sealed_out : (cs : List Cascade) (acts : List Act) (xs : List Lock) → AllByRecursion (λ x. holds (λ y. is_sealed y.status) (act_of x.tid acts) ≡ true) xs → AllByRecursion (IsUntaken cs) acts → AllByRecursion (IsOut cs) (map (number_in acts) xs)
sealed_out cs acts [] q h = tt
sealed_out cs acts (x ∷ xs) q h =
    let y = one_is (λ y. is_sealed y.status) (act_of x.tid acts) q.0 in
    (subst (IsOut cs) (sym (ap number_or_0 y.1)) ((all_found (IsUntaken cs) (λ z. z.tid == x.tid) acts y.0 h y.1).0 (undoomed y.0.status y.2)), sealed_out cs acts xs q.1 h)
  where
    undoomed : (st : Status) → is_sealed st ≡ true → is_doomed st ≡ false
    undoomed Live e = absurd (true≢false (sym e))
    undoomed (Doomed v) e = absurd (true≢false (sym e))
    undoomed (Decided c) e = refl
    undoomed (Sealed c) e = refl

-- ---- a cascade

cascade_out : (cs : List Cascade) (c : Cascade) (n : ℕ) → n < c.first → IsOut cs n → IsOut (cs ++ c ∷ []) n
cascade_out cs c n l h = keys.aborted_more n cs c ∙ or_from (is_aborted n cs) (covers n c) h (and_left (nat_le c.first n) (nat_le n c.upto) (false_from_ne_true (nat_le c.first n) (λ e. omega (arith, leb-true c.first n e, l))))

unfoldable pub Untaken : {C : Type 0} → Machine C → Type 0
Untaken s = AllByRecursion (IsUntaken s.book.cascades) s.book.acts

aborted : (cs : List Cascade) (c : Cascade) (k settled tx : ℕ) (x : Act) → c.first ≡ k → settled < k → (is_ordered x.status ≡ true → x.m ≤ settled) → IsUntaken cs x → IsUntaken (cs ++ c ∷ []) (book.cascaded k tx x)
aborted cs c k settled tx x f l p h = by x.status refl
  where
    by : (st : Status) → x.status ≡ st → is_doomed (if is_live_status st && nat_le k x.m then Doomed (Rattle.protocol.specs.Verdicts.taken_along k tx) else st) ≡ false → IsOut (cs ++ c ∷ []) x.m
    by Live e d = cascade_out cs c x.m (elim (cases_lt x.m k) [ inl q ↦ omega (arith, q, f) | inr q ↦ absurd (true≢false (subst (λ b. is_doomed (if b then Doomed (Rattle.protocol.specs.Verdicts.taken_along k tx) else Live) ≡ false) (le-leb k x.m (omega (arith, q))) d)) ]) (h (ap is_doomed e))
    by (Doomed v) e d = absurd (true≢false d)
    by (Decided n) e d = cascade_out cs c x.m (omega (arith, p (ap is_ordered e), l, f)) (h (ap is_doomed e))
    by (Sealed n) e d = cascade_out cs c x.m (omega (arith, p (ap is_ordered e), l, f)) (h (ap is_doomed e))

-- ---- all events

floor_out : (cs : List Cascade) (acts : List Act) (first : ℕ) (floors : FloorPair) (left : List Lock) (v : Bool) → ((k : ℕ) → k ≤ first → IsOut cs k) → Both first acts floors left → AllByRecursion (IsUntaken cs) acts → IsOut cs (floor_for v floors)
floor_out cs acts first floors left v low f u = by v
  where
    one : (r : Bool) → IsOut cs (own_floor r floors)
    one r =
        let n = out_greatest cs (map (number_in acts) (filter (is_kind r) left)) (low 0 (omega arith)) (sealed_out cs acts (filter (is_kind r) left) (f r).sealed u) in
        out_of_two cs first (greatest (map (number_in acts) (filter (is_kind r) left))) (own_floor r floors) low n (omega (arith, (f r).floor_is)) (omega (arith, (f r).floor_is))

    by : (v : Bool) → IsOut cs (floor_for v floors)
    by true = one false
    by false = out_max cs floors.write floors.read (one false) (one true)

asked_out : {C : Type 0} (w : Fixed C) (a : ℕ) (s : Machine C) (h : History) (first : ℕ) (v : Bool) → ((k : ℕ) → k ≤ first → IsOut s.book.cascades k) → AllByRecursion (λ k. is_aborted k s.book.cascades ≡ false) (batches_in (h.long a))
    → Tight first (cell_at s a).last (cell_at s a).last_trimmed (h.long a) → LastIs (cell_at s a).last (cell_at s a).last_trimmed (h.long a) → Both first s.book.acts (cell_at s a).floors (h.left_sealed a) → AllByRecursion (IsUntaken s.book.cascades) s.book.acts
    → IsOut s.book.cascades (max (cell_at s a).last (floor_for v (cell_at s a).floors))
asked_out w a s h first v low none t l f u =
    let cs = s.book.cascades in
    let g = out_greatest cs (batches_in (h.long a)) (low 0 (omega arith)) none in
    out_max cs (cell_at s a).last (floor_for v (cell_at s a).floors)
    (out_of_two cs first (greatest (batches_in (h.long a))) (cell_at s a).last low g t.placed (omega (arith, sets.greatest_most (cell_at s a).last (batches_in (h.long a)) l.placed)))
    (floor_out cs s.book.acts first (cell_at s a).floors (h.left_sealed a) v low f u)

pub untaken_kept : {C : Type 0} (w : Fixed C) (e : Event) (s : Machine C) (h : History) → IsAllowed w e s → settling.Settling w s → Placed w s h → Lasts s h → Tights w s h → Floors w s h → TidsAscend s → Acts s h → Untaken s → Untaken (after w e s)
unfolding Untaken settling.Settling Placed Lasts Tights Floors TidsAscend Acts conditions after
untaken_kept w (Admit t) s h ok st p l tg f asc i g = all_join (IsUntaken s.book.cascades) s.book.acts _ g ((λ d. out_low w.text.opening.next_bid s.ring.next_bid (base w.text) s.book.cascades st.ascend (omega (arith, st.some))), tt)
untaken_kept w (Arrive k a) s h ok st p l tg f asc i g = untaken_map s.book.cascades (crossed_out a) (map (book.lowered k (book.tids_on (cell_at s a).entries)) s.book.acts) (λ x. record { tid = refl; m = refl; doomed = dooms (is_crossed x) _ x.status }) (untaken_map s.book.cascades (book.lowered k (book.tids_on (cell_at s a).entries)) s.book.acts (λ x. record { tid = refl; m = refl; doomed = λ d. d }) g)
untaken_kept w (Ask t a) s h ok st p l tg f asc i g =
    untaken_asked s.book.cascades t a (book.in_the_way (lock_of t s.book.acts) (cell_at s a).entries) (book.met (lock_of t s.book.acts) (cell_at s a).entries) (cell_at s a) s.book (out_low w.text.opening.next_bid s.ring.next_bid 0 s.book.cascades st.ascend (omega (arith, st.some)))
    (asked_out w a s h (base w.text) (lock_of t s.book.acts).reader (λ k q. out_low w.text.opening.next_bid s.ring.next_bid k s.book.cascades st.ascend (omega (arith, q, st.some)))
    (behind.clean s.ring.next_bid s.book.cascades (cell_at s a).epoch (cell_at s a).tail (batches_in (h.long a)) (eqb-true (cell_at s a).epoch (epoch s.book) (cells.held (λ c. c.epoch == epoch s.book) s.cells a no_cell ok.1.1.1.0)) (p a).fit) (tg a) (l a) (f a) g) g
untaken_kept w (End t a) s h ok st p l tg f asc i g = untaken_ended s.book.cascades t (has_act t (cell_at s a).entries) (outcome_of t (cell_at s a).outbox) s.book.acts g
untaken_kept w (Abort k) s h ok st p l tg f asc i g =
    all_map (λ x. (act_of x.tid s.book.acts ≡ Some x) × IsUntaken s.book.cascades x) (IsUntaken (after w (Abort k) s).book.cascades) (book.cascaded k (book.failed_tx (book.why k s.desk))) s.book.acts
    (λ x q. aborted s.book.cascades _ k s.desk.settled (book.failed_tx (book.why k s.desk)) x refl (settling.aborts_above w s k ok st) (λ v. (i x.tid x q.0).settles v) q.1)
    (both_all (λ x. act_of x.tid s.book.acts ≡ Some x) (IsUntaken s.book.cascades) (λ x. (act_of x.tid s.book.acts ≡ Some x) × IsUntaken s.book.cascades x) s.book.acts (λ x e u. (e, u)) (sets.find_self 0 s.ring.next_tid s.book.acts asc (λ x. act_of x.tid s.book.acts ≡ Some x) (λ x e. e)) g)
untaken_kept w (Prepare t a) s h ok st p l tg f asc i g = untaken_changed s.book.cascades t _ s.book.acts (λ x. record { tid = refl; m = refl; doomed = λ d. d }) g
untaken_kept w (Vouch t a) s h ok st p l tg f asc i g = untaken_changed s.book.cascades t _ s.book.acts (λ x. record { tid = refl; m = refl; doomed = λ d. d }) g
untaken_kept w (Decide t) s h ok st p l tg f asc i g = untaken_changed s.book.cascades t _ s.book.acts (λ x. record { tid = refl; m = refl; doomed = not_doomed_decided s.book.next_c (is_value x.result) x.status }) g
untaken_kept w (Seal t) s h ok st p l tg f asc i g = untaken_changed s.book.cascades t _ s.book.acts (λ x. record { tid = refl; m = refl; doomed = sets.unsealed x.status }) g
untaken_kept w (Finish t a) s h ok st p l tg f asc i g = untaken_changed s.book.cascades t _ s.book.acts (λ x. record { tid = refl; m = refl; doomed = λ d. d }) g
untaken_kept w e s h ok st p l tg f asc i g = g

-- ---- over every run

pub record UntakenStand {C : Type 0} (w : Fixed C) (s : Machine C) (h : History) : Type 0 where
  pub before : BeforeStand w s h
  pub untaken : Untaken s

opened : {C : Type 0} (w : Fixed C) (Of : Tx → C → Type 0) (finish : C → List State → Alone) → Given w Of finish → UntakenStand w (opening w) no_history
unfolding Untaken
opened w Of finish v = record { before = before.opened w Of finish v; untaken = tt }

step : {C : Type 0} (w : Fixed C) (Of : Tx → C → Type 0) (finish : C → List State → Alone) (e : Event) (s : Machine C) (h : History) → Given w Of finish → IsAllowed w e s → AllGood w Of finish s h → UntakenStand w s h → UntakenStand w (after w e s) (grown w e s h)
step w Of finish e s h v ok g i = record {
  before = before.kept w Of finish e s h v ok g i.before;
  untaken = untaken_kept w e s h ok g.good.settling g.good.placed g.good.lasts i.before.tights i.before.floors.floors i.before.high.tids g.acts i.untaken;
}

-- Over every run the before number of an ACT that is not doomed is no aborted batch
pub m_is_not_aborted : {C : Type 0} (w : Fixed C) (Of : Tx → C → Type 0) (finish : C → List State → Alone) (es : List Event) → Given w Of finish → IsRun w es → (t : ℕ) (x : Act) → act_of t (reached w es).book.acts ≡ Some x → is_doomed x.status ≡ false → is_aborted x.m (reached w es).book.cascades ≡ false
unfolding Untaken
m_is_not_aborted w Of finish es v run t x e d = (all_found (IsUntaken (reached w es).book.cascades) (λ y. y.tid == t) (reached w es).book.acts x (all.along_good w Of finish (UntakenStand w) v (λ e s h ok g i. step w Of finish e s h v ok g i) (opened w Of finish v) es run).untaken e).0 d
