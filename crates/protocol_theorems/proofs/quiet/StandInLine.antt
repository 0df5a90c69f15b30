-- Of the ACTs and batches of a schedule: their before numbers are in line.
use Rattle.std.specs.Prelude.{◌≡◌, refl, ℕ, ◌+◌, ◌<◌, ◌≤◌, ◌==◌, nat_lt, nat_le, max, not, Bool, true, false, ◌||◌, ◌&&◌, ◌⊎◌, if◌then◌else◌, Option, Some, None, is_some, List, [], ◌∷◌, length, map}
use Rattle.std.specs.List.{AllByRecursion}
use Rattle.std.proofs.Common.{arith, sym, ap, subst, inl, inr, ◌∙◌}
use Rattle.std.proofs.lemmas.Bool.{true≢false, eqb-true, eq-eqb, lt-ltb, le-leb, leb-true, or_cases, or_left, or_right, and_parts, cases_lt, false_from_ne_true}
use Rattle.snap_base.specs.declared.transactions.State.{State}
use Rattle.snap_base.specs.declared.transactions.Tx.{Tx}
use Rattle.protocol_laws.proofs.first.Agree.{agree, agree_is}
use Rattle.protocol_laws.proofs.machine.ReadersKept.{LockOf, Locks}
use Rattle.protocol.specs.Facts.{Alone}
use Rattle.protocol.specs.Fixed.{Fixed, base}
use Rattle.protocol.specs.Numbers.{from}
use Rattle.protocol.specs.Parts.{Act, Batch, Pair, Status, Live, Doomed, Decided, Sealed, Stage, Formed, Committing, Settled, OfBatch, OfAct, Entry, BatchEntry, ActEntry, Machine}
use Rattle.protocol.specs.Events.{Event}
use Rattle.protocol.specs.Words.{holds, is_among, is_aborted, is_formed, is_settled, is_doomed, is_live_status, least_of, act_of, batch_of, batches_on, has_act, is_ordered}
use Rattle.protocol.specs.Spread.{reaches}
use Rattle.protocol.specs.Conditions.{IsAllowed}
use Rattle.protocol.specs.Effects.{after, cell_at}
use Rattle.protocol.specs.Runs.{opening, IsRun, reached}
use Rattle.protocol.specs.History.{History, Ran, Stands, Gone, no_history, history, grown}
use Rattle.protocol.specs.Standing.{IsOlder, CarriesNumber}
use Rattle.protocol_laws.specs.Tracks.{key_of, is_key_among}
use Rattle.protocol_laws.specs.Turns.{Turns}
use Rattle.protocol_laws.specs.Commits.{is_kept}
use Rattle.protocol_laws.specs.Marks.{Marked}
use Rattle.protocol_laws.specs.FromDesk.{is_declared, EntryOf}
use Rattle.protocol_laws.specs.Befores.{is_above, Befores, gone_in}
use Rattle.protocol_laws.specs.Highs.{doomed_at, is_pair, has_pair, is_paired, Paired, Grouped, both_read}
use Rattle.protocol_theorems.specs.Sets.{least_in, AfterIsLeast, IsUncrossed}
use Rattle.protocol_theorems.specs.Quiet.{BeforeBatches, BehindBatches, IsAheadOf, ActsInOrder, EntriesTell}
use Rattle.protocol_laws.proofs.first.SettlingKept as settling
use Rattle.protocol_laws.proofs.machine.TracksKept.{Tracked}
use Rattle.protocol_laws.proofs.machine.TurnsKept.{one_is, Turned}
use Rattle.protocol_laws.proofs.machine.BeforesKept.{Numbers}
use Rattle.protocol_laws.proofs.machine.Good.{Given, Good}
use Rattle.protocol_laws.proofs.machine.ActsKept.{Acts}
use Rattle.protocol_laws.proofs.machine.ActsFound.{found_tid}
use Rattle.protocol_laws.proofs.machine.EntriesKept.{open_at}
use Rattle.protocol_laws.proofs.machine.AllGood as all
use Rattle.protocol_laws.proofs.machine.AllGood.{AllGood}
use Rattle.protocol_laws.proofs.first.PairsFound as found
use Rattle.protocol_laws.proofs.machine.GroupsKept.{Groups}
use Rattle.protocol_theorems.proofs.sets.AfterSets as sets
use Rattle.protocol_theorems.proofs.sets.AfterStand as afters
use Rattle.protocol_theorems.proofs.sets.AfterStand.{AfterStand}
use Rattle.protocol_theorems.proofs.sets.PairsAhead as ahead
use Rattle.protocol_theorems.proofs.quiet.NumbersLow as low
use Rattle.protocol_theorems.proofs.quiet.NumbersUntaken as untaken
use Rattle.protocol_laws.proofs.first.Lists.{all_found}
use Rattle.protocol_laws.proofs.first.Drawn as drawn
use Rattle.protocol_theorems.proofs.quiet.JoinsKept as joins
use Rattle.protocol_theorems.proofs.quiet.JoinsKept.{Joins, Arrived}
use Rattle.protocol_theorems.proofs.quiet.InLine as line
use Rattle.protocol_theorems.proofs.quiet.InLine.{NoneAhead, FreeActs, AllFree, Full, Fulls}

-- ---- over every run

pub record Line {C : Type 0} (w : Fixed C) (s : Machine C) (h : History) : Type 0 where
  pub joins : Joins s
  pub arrived : Arrived s
  pub free : AllFree s h
  pub full : Fulls s h
  pub afters : AfterStand w s h

line_kept : {C : Type 0} (w : Fixed C) (Of : Tx → C → Type 0) (finish : C → List State → Alone) (e : Event) (s : Machine C) (h : History) → Given w Of finish → IsAllowed w e s → AllGood w Of finish s h → Line w s h → Line w (after w e s) (grown w e s h)
line_kept w Of finish e s h v ok g i = record {
  joins = joins.joins_kept w e s h ok g.none g.acts g.left g.standing i.joins;
  arrived = joins.arrived_kept w e s g.opened i.arrived;
  free = line.free_kept w Of finish e s h ok g i.free;
  full = line.full_kept w e s h ok g.opened g.acts i.full;
  afters = afters.kept w Of finish e s h v ok g i.afters;
}

line_opened : {C : Type 0} (w : Fixed C) (Of : Tx → C → Type 0) (finish : C → List State → Alone) → Given w Of finish → Line w (opening w) no_history
unfolding Joins Arrived AllFree Fulls
line_opened {C} w Of finish v = record {
  joins = λ t x e. absurd (cc e);
  arrived = λ t x e. absurd (cc e);
  free = λ a. tt;
  full = λ a. subst (Full (λ t. []) []) (sym (Rattle.protocol_laws.proofs.machine.Good.no_entries C (base w.text) w.text.opening.states a)) tt;
  afters = afters.opened w Of finish v;
}

pub line_stands : {C : Type 0} (w : Fixed C) (Of : Tx → C → Type 0) (finish : C → List State → Alone) (es : List Event) → Given w Of finish → IsRun w es → Line w (reached w es) (history w es)
line_stands w Of finish es v run = all.along_good w Of finish (Line w) v (λ e s h ok g i. line_kept w Of finish e s h v ok g i) (line_opened w Of finish v) es run

-- ---- a batch behind an ACT is not committed yet

least_most : (k : ℕ) (ks : List ℕ) → is_among k ks ≡ true → (j : ℕ) × (least_in ks ≡ Some j) × (j ≤ k)
least_most k [] e = absurd (true≢false (sym e))
least_most k (x ∷ ks) e = elim (or_cases (x == k) (is_among k ks) e) [
  | inl q ↦ (least_of x (least_in ks), refl, first (least_in ks) (eqb-true x k q))
  | inr q ↦ let r = least_most k ks q in (least_of x (least_in ks), refl, rw r.1 (omega (arith, r.2)))
]
  where
    first : (o : Option ℕ) → x ≡ k → least_of x o ≤ k
    first None e = omega (arith, e)
    first (Some y) e = omega (arith, e)

batch_key : (k : ℕ) (es : List Entry) → is_among k (batches_on es) ≡ true → is_key_among (OfBatch k) (map key_of es) ≡ true
batch_key k [] h = h
batch_key k (BatchEntry b ∷ es) h = elim (or_cases (b.bid == k) (is_among k (batches_on es)) h) [ inl e ↦ or_left (b.bid == k) _ e | inr e ↦ or_right (b.bid == k) _ (batch_key k es e) ]
batch_key k (ActEntry x ∷ es) h = batch_key k es h

declared_there : (k a : ℕ) (bs : List Batch) (es : List Entry) → is_among k (batches_on es) ≡ true → AllByRecursion (EntryOf a bs) es → is_declared k a bs ≡ true
declared_there k a bs [] h f = absurd (true≢false (sym h))
declared_there k a bs (BatchEntry b ∷ es) h f = elim (or_cases (b.bid == k) (is_among k (batches_on es)) h) [ inl e ↦ subst (λ z. is_declared z a bs ≡ true) (eqb-true b.bid k e) f.0.0 | inr e ↦ declared_there k a bs es e f.1 ]
declared_there k a bs (ActEntry x ∷ es) h f = declared_there k a bs es h f.1

-- ---- before numbers ahead of batches

over_open : (st : Stage) (a : Bool) → is_formed st ≡ true → a ≡ false → (a || is_settled st) ≡ true → ⊥
over_open st true f n e = true≢false n
over_open Formed false f n e = true≢false (sym e)
over_open Committing false f n e = true≢false (sym f)
over_open Settled false f n e = true≢false (sym f)

-- a batch that has not committed is above all that is settled
unsettled : {C : Type 0} (w : Fixed C) (Of : Tx → C → Type 0) (finish : C → List State → Alone) (s : Machine C) (h : History) (k a : ℕ) → AllGood w Of finish s h → is_declared k a s.desk.batches ≡ true → is_aborted k s.book.cascades ≡ false → is_kept (OfBatch k) h.kept ≡ false → s.desk.settled < k
unfolding Marked
unsettled w Of finish s h k a g d n q =
    let b = one_is _ (batch_of k s.desk.batches) d in
    let formed : is_formed b.0.stage ≡ true = not_not (is_formed b.0.stage) (sym (g.good.marked k b.0 b.1).known ∙ q) in
    let fresh : b.0.aborted ≡ false = settling.mark_is w s k b.0 b.1 g.good.settling ∙ n in
    elim (cases_lt s.desk.settled k) [
      | inl l ↦ l
      | inr l ↦ absurd (over_open b.0.stage b.0.aborted formed fresh (settling.over_settled w s k b.0 b.1 g.good.settling l))
    ]
  where
    not_not : (b : Bool) → not b ≡ false → b ≡ true
    not_not true e = refl
    not_not false e = absurd (true≢false e)

-- of an ACT
before_one : {C : Type 0} (w : Fixed C) (Of : Tx → C → Type 0) (finish : C → List State → Alone) (s : Machine C) (h : History) (x : Act) (t k : ℕ) → AllGood w Of finish s h → Line w s h → act_of t s.book.acts ≡ Some x → s.desk.settled < k → is_among k (h.behind t) ≡ true → (is_doomed x.status || nat_lt x.m k) ≡ true
unfolding Acts sets.AfterSets sets.Uncrossed
before_one w Of finish s h x t k g i e l q = by x.status refl
  where
    tid : x.tid ≡ t
    tid = Rattle.protocol_laws.proofs.machine.ActsFound.found_tid t x s.book.acts e

    less : x.m < k → (is_doomed x.status || nat_lt x.m k) ≡ true
    less m = or_right (is_doomed x.status) _ (lt-ltb x.m k m)

    crossed : (b : Bool) (n : Option ℕ) (j : ℕ) → b ≡ true → n ≡ Some j → (b && reaches x.m n) ≡ false → x.m < j
    crossed true (Some v) j b e r = let f : v ≡ j = cc e in elim (cases_lt x.m v) [ inl l ↦ omega (arith, l, f) | inr l ↦ absurd (true≢false (sym (le-leb v x.m l) ∙ r)) ]
    crossed true None j b e r = absurd (cc e)
    crossed false n j b e r = absurd (true≢false (sym b))

    live : is_live_status x.status ≡ true → (is_doomed x.status || nat_lt x.m k) ≡ true
    live v =
        let n : x.n ≡ least_in (h.behind x.tid) = ((all_found (AfterIsLeast s.book.cascades h.long h.behind) (λ y. y.tid == t) s.book.acts x i.afters.after_sets e).0 v).0 in
        let r = least_most k (h.behind t) q in
        let u = (all_found IsUncrossed (λ y. y.tid == t) s.book.acts x i.afters.uncrossed e).0 in
        let m = crossed (is_live_status x.status) x.n r.0 v (n ∙ (ap (λ z. least_in (h.behind z)) tid ∙ r.1)) u in
        less (omega (arith, m, r.2))

    placed : is_ordered x.status ≡ true → (is_doomed x.status || nat_lt x.m k) ≡ true
    placed p = let m = (g.acts t x e).settles p in less (omega (arith, m, l))

    by : (st : Status) → x.status ≡ st → (is_doomed x.status || nat_lt x.m k) ≡ true
    by Live f = live (ap is_live_status f)
    by (Doomed v) f = or_left (is_doomed x.status) _ (ap is_doomed f)
    by (Decided c) f = placed (ap is_ordered f)
    by (Sealed c) f = placed (ap is_ordered f)

-- along a schedule
before_on : {C : Type 0} (w : Fixed C) (Of : Tx → C → Type 0) (finish : C → List State → Alone) (s : Machine C) (h : History) (a : ℕ) (es : List Entry) → AllGood w Of finish s h → Line w s h
    → ((k : ℕ) → is_among k (batches_on es) ≡ true → is_aborted k s.book.cascades ≡ false)
    → ((k : ℕ) → is_among k (batches_on es) ≡ true → is_kept (OfBatch k) h.kept ≡ true → NoneAhead k (map key_of es))
    → AllByRecursion (EntryOf a s.desk.batches) es → ((t : ℕ) → has_act t es ≡ true → holds (open_at a) (act_of t s.book.acts) ≡ true) → Full h.behind s.book.cascades es → BeforeBatches s.book.acts es
before_on w Of finish s h a [] g i n u d o f = tt
before_on w Of finish s h a (BatchEntry b ∷ es) g i n u d o f = before_on w Of finish s h a es g i (λ k q. n k (or_right (b.bid == k) _ q)) (λ k q v. (u k (or_right (b.bid == k) _ q) v).1) d.1 o f
before_on w Of finish s h a (ActEntry z ∷ es) g i n u d o f = (
  (λ k q.
      let x = one_is (open_at a) (act_of z.tid s.book.acts) (o z.tid (or_left (z.tid == z.tid) _ (eq-eqb z.tid z.tid refl))) in
      let fresh = false_from_ne_true (is_kept (OfBatch k) h.kept) (λ v. true≢false (sym (batch_key k es q) ∙ (u k q v).0 refl)) in
      let l = unsettled w Of finish s h k a g (declared_there k a s.desk.batches es q d.1) (n k q) fresh in
      subst (λ y. holds (λ y. is_doomed y.status || nat_lt y.m k) y ≡ true) (sym x.1) (before_one w Of finish s h x.0 z.tid k g i x.1 l (f.0 k q (n k q)))),
  before_on w Of finish s h a es g i n (λ k q v. (u k q v).1) d.1 (λ t q. o t (or_right (z.tid == t) _ q)) f.1,
)

pub before : {C : Type 0} (w : Fixed C) (Of : Tx → C → Type 0) (finish : C → List State → Alone) (s : Machine C) (h : History) → AllGood w Of finish s h → Line w s h → (a : ℕ) → ((k : ℕ) → is_among k (batches_on (cell_at s a).entries) ≡ true → is_aborted k s.book.cascades ≡ false) → BeforeBatches s.book.acts (cell_at s a).entries
unfolding Fulls Tracked
before w Of finish s h g i a n = before_on w Of finish s h a (cell_at s a).entries g i n
    (λ k q v. subst (NoneAhead k) (sym (g.good.tracked a).stands) (line.kept_none_ahead w Of finish s h k a g v (n k q) (declared_there k a s.desk.batches (cell_at s a).entries q (g.good.from_desk.entries a))))
    (g.good.from_desk.entries a) (λ t q. joins.stands s g.opened t a q) (i.full a)

-- ---- before numbers behind batches

act_is : {t u : ℕ} → OfAct t ≡ OfAct u → t ≡ u
act_is e = cc e

above : (acts : List Act) (top t : ℕ) (y : Act) (rs : List Ran) (es : List Entry) → Turns rs es → Befores acts top rs → has_act t es ≡ true → act_of t acts ≡ Some y → is_doomed y.status ≡ false → top ≤ y.m
above acts top t y [] [] r b h e d = absurd (true≢false (sym h))
above acts top t y [] (x ∷ es) r b h e d = absurd r
above acts top t y (Gone (OfBatch k) ss ∷ rs) es r b h e d = let l = above acts (max top k) t y rs es r b h e d in omega (arith, l)
above acts top t y (Gone (OfAct u) ss ∷ rs) es r b h e d = above acts top t y rs es r b h e d
above acts top t y (Stands z c ss ∷ rs) [] r b h e d = absurd r
above acts top t y (Stands (OfBatch k) c ss ∷ rs) (BatchEntry x ∷ es) r b h e d = let l = above acts (max top k) t y rs es r.2 b h e d in omega (arith, l)
above acts top t y (Stands (OfBatch k) c ss ∷ rs) (ActEntry x ∷ es) r b h e d = absurd (cc r.0)
above acts top t y (Stands (OfAct u) c ss ∷ rs) (BatchEntry x ∷ es) r b h e d = absurd (cc r.0)
above acts top t y (Stands (OfAct u) c ss ∷ rs) (ActEntry x ∷ es) r b h e d = elim (or_cases (x.tid == t) (has_act t es) h) [
  | inl q ↦ own (subst (λ o. holds (is_above top) o ≡ true) e (subst (λ z. holds (is_above top) (act_of z acts) ≡ true) (sym (act_is r.0) ∙ eqb-true x.tid t q) b.0))
  | inr q ↦ above acts top t y rs es r.2 b.1 q e d
]
  where
    own : is_above top y ≡ true → top ≤ y.m
    own v = elim (or_cases (is_doomed y.status) (nat_le top y.m) v) [ inl q ↦ absurd (true≢false (sym q ∙ d)) | inr q ↦ leb-true top y.m q ]

behind_on : (acts : List Act) (top : ℕ) (rs : List Ran) (es : List Entry) → Turns rs es → Befores acts top rs → BehindBatches acts es
behind_on acts top [] [] r b = tt
behind_on acts top [] (x ∷ es) r b = absurd r
behind_on acts top (Gone (OfBatch k) ss ∷ rs) es r b = behind_on acts (max top k) rs es r b
behind_on acts top (Gone (OfAct u) ss ∷ rs) es r b = behind_on acts top rs es r b
behind_on acts top (Stands z c ss ∷ rs) [] r b = absurd r
behind_on acts top (Stands (OfBatch k) c ss ∷ rs) (BatchEntry x ∷ es) r b = ((λ t y h e d. let l = above acts (max top k) t y rs es r.2 b h e d in let i : x.bid ≡ k = cc r.0 in omega (arith, l, i)), behind_on acts (max top k) rs es r.2 b)
behind_on acts top (Stands (OfBatch k) c ss ∷ rs) (ActEntry x ∷ es) r b = absurd (cc r.0)
behind_on acts top (Stands (OfAct u) c ss ∷ rs) (BatchEntry x ∷ es) r b = absurd (cc r.0)
behind_on acts top (Stands (OfAct u) c ss ∷ rs) (ActEntry x ∷ es) r b = behind_on acts top rs es r.2 b.1

pub behind : {C : Type 0} (s : Machine C) (h : History) → Turned s h → Numbers s h → (a : ℕ) → BehindBatches s.book.acts (cell_at s a).entries
unfolding Turned Numbers
behind s h t n a = behind_on s.book.acts 0 (h.long a) (cell_at s a).entries (t a) (n a)

-- ---- ACTs with no batch between

abbrev pub PairedOn : ℕ → List Pair → List Act → ℕ → List Entry → Type 0
PairedOn a ps acts u [] = Unit {0}
PairedOn a ps acts u (BatchEntry b ∷ es) = Unit {0}
PairedOn a ps acts u (ActEntry x ∷ es) = (is_paired a ps acts u x.tid ≡ true) × PairedOn a ps acts u es

abbrev pub GroupedOn : ℕ → List Pair → List Act → List Entry → Type 0
GroupedOn a ps acts [] = Unit {0}
GroupedOn a ps acts (BatchEntry b ∷ es) = GroupedOn a ps acts es
GroupedOn a ps acts (ActEntry x ∷ es) = PairedOn a ps acts x.tid es × GroupedOn a ps acts es

paired_on : (a : ℕ) (ps : List Pair) (acts : List Act) (u : ℕ) (rs : List Ran) (es : List Entry) → Turns rs es → gone_in rs ≡ [] → Paired a ps acts u rs → PairedOn a ps acts u es
paired_on a ps acts u [] [] r g h = tt
paired_on a ps acts u [] (x ∷ es) r g h = absurd r
paired_on a ps acts u (Gone (OfBatch k) ss ∷ rs) es r g h = absurd (cc g)
paired_on a ps acts u (Gone (OfAct t) ss ∷ rs) es r g h = paired_on a ps acts u rs es r g h
paired_on a ps acts u (Stands z c ss ∷ rs) [] r g h = absurd r
paired_on a ps acts u (Stands z c ss ∷ rs) (BatchEntry b ∷ es) r g h = tt
paired_on a ps acts u (Stands (OfBatch k) c ss ∷ rs) (ActEntry x ∷ es) r g h = absurd (cc r.0)
paired_on a ps acts u (Stands (OfAct t) c ss ∷ rs) (ActEntry x ∷ es) r g h = (subst (λ z. is_paired a ps acts u z ≡ true) (sym (act_is r.0)) h.0, paired_on a ps acts u rs es r.2 g h.1)

grouped_on : (a : ℕ) (ps : List Pair) (acts : List Act) (rs : List Ran) (es : List Entry) → Turns rs es → FreeActs rs → Grouped a ps acts rs → GroupedOn a ps acts es
grouped_on a ps acts [] [] r f h = tt
grouped_on a ps acts [] (x ∷ es) r f h = absurd r
grouped_on a ps acts (Gone y ss ∷ rs) es r f h = grouped_on a ps acts rs es r f h
grouped_on a ps acts (Stands z c ss ∷ rs) [] r f h = absurd r
grouped_on a ps acts (Stands (OfBatch k) c ss ∷ rs) (BatchEntry b ∷ es) r f h = grouped_on a ps acts rs es r.2 f.1 h
grouped_on a ps acts (Stands (OfAct t) c ss ∷ rs) (BatchEntry b ∷ es) r f h = absurd (cc r.0)
grouped_on a ps acts (Stands (OfBatch k) c ss ∷ rs) (ActEntry x ∷ es) r f h = absurd (cc r.0)
grouped_on a ps acts (Stands (OfAct t) c ss ∷ rs) (ActEntry x ∷ es) r f h = (subst (λ z. PairedOn a ps acts z es) (sym (act_is r.0)) (paired_on a ps acts t rs es r.2 (f.0 refl) h.0), grouped_on a ps acts rs es r.2 f.1 h.1)

-- ---- the order of ACTs

-- what is used of a pair
abbrev pub IsInLine : List Act → Pair → Type 0
IsInLine acts p = (x y : Act) → act_of p.ahead acts ≡ Some x → act_of p.behind acts ≡ Some y → is_doomed x.status ≡ false → is_doomed y.status ≡ false → (x.m ≤ y.m) × (p.behind < p.ahead)

pair_found : (P : Pair → Type 0) (a t u : ℕ) (ps : List Pair) → has_pair a t u ps ≡ true → AllByRecursion P ps → (p : Pair) × P p × (p.behind ≡ t) × (p.ahead ≡ u)
pair_found P a t u [] h g = absurd (true≢false (sym h))
pair_found P a t u (p ∷ ps) h g = elim (or_cases (is_pair a t u p) (has_pair a t u ps) h) [
  | inl e ↦ let q = and_parts (p.behind == t) ((p.ahead == u) && (p.actor == a)) e in (p, g.0, eqb-true p.behind t q.0, eqb-true p.ahead u (and_parts (p.ahead == u) (p.actor == a) q.1).0)
  | inr e ↦ pair_found P a t u ps e g.1
]

not_doomed : (acts : List Act) (t : ℕ) (x : Act) → act_of t acts ≡ Some x → is_doomed x.status ≡ false → doomed_at acts t ≡ true → ⊥
not_doomed acts t x e d q = true≢false (sym (subst (λ o. holds (λ x. is_doomed x.status) o ≡ true) e q) ∙ d)

or_second : (p q : Bool) → p ≡ false → (p || q) ≡ true → q ≡ true
or_second true q e h = absurd (true≢false e)
or_second false q e h = h

order_one : (a : ℕ) (ps : List Pair) (acts : List Act) (z : ℕ) (es : List Entry) → AllByRecursion (IsInLine acts) ps → PairedOn a ps acts z es → ((k : ℕ) → is_among k (batches_on es) ≡ true → holds (λ y. is_doomed y.status || nat_lt y.m k) (act_of z acts) ≡ true) → BehindBatches acts es
    → (t : ℕ) (x y : Act) → has_act t es ≡ true → act_of z acts ≡ Some x → act_of t acts ≡ Some y → is_doomed x.status ≡ false → is_doomed y.status ≡ false → (x.reader && y.reader) ≡ false → IsAheadOf x y
order_one a ps acts z [] l p b c t x y h e f d g r = absurd (true≢false (sym h))
order_one a ps acts z (BatchEntry k ∷ es) l p b c t x y h e f d g r =
    let m = subst (λ o. holds (λ y. is_doomed y.status || nat_lt y.m k.bid) o ≡ true) e (b k.bid (or_left (k.bid == k.bid) _ (eq-eqb k.bid k.bid refl))) in
    let n = c.0 t y h f g in
    elim (or_cases (is_doomed x.status) (nat_lt x.m k.bid) m) [ inl q ↦ absurd (true≢false (sym q ∙ d)) | inr q ↦ inl (omega (arith, n, Rattle.std.proofs.lemmas.Bool.ltb-true x.m k.bid q)) ]
order_one a ps acts z (ActEntry u ∷ es) l p b c t x y h e f d g r = elim (or_cases (u.tid == t) (has_act t es) h) [
  | inl q ↦
      let own : is_paired a ps acts z t ≡ true = subst (λ v. is_paired a ps acts z v ≡ true) (eqb-true u.tid t q) p.0 in
      elim (or_cases (doomed_at acts z) (doomed_at acts t || has_pair a t z ps) (or_second (both_read acts z t) (doomed_at acts z || (doomed_at acts t || has_pair a t z ps)) (ap (λ o. holds (λ v. v.reader) o && holds (λ v. v.reader) (act_of t acts)) e ∙ (ap (λ o. x.reader && holds (λ v. v.reader) o) f ∙ r)) own)) [
        | inl v ↦ absurd (not_doomed acts z x e d v)
        | inr v ↦ elim (or_cases (doomed_at acts t) (has_pair a t z ps) v) [
          | inl w ↦ absurd (not_doomed acts t y f g w)
          | inr w ↦
              let r = pair_found (IsInLine acts) a t z ps w l in
              let k = r.1 x y (subst (λ n. act_of n acts ≡ Some x) (sym r.3) e) (subst (λ n. act_of n acts ≡ Some y) (sym r.2) f) d g in
              inr (k.0, omega (arith, k.1, r.2, r.3, found_tid z x acts e, found_tid t y acts f))
        ]
      ]
  | inr q ↦ order_one a ps acts z es l p.1 b c t x y q e f d g r
]

order_on : (a : ℕ) (ps : List Pair) (acts : List Act) (es : List Entry) → AllByRecursion (IsInLine acts) ps → GroupedOn a ps acts es → BeforeBatches acts es → BehindBatches acts es → ActsInOrder acts es
order_on a ps acts [] l p b c = tt
order_on a ps acts (BatchEntry k ∷ es) l p b c = order_on a ps acts es l p b c.1
order_on a ps acts (ActEntry z ∷ es) l p b c = (order_one a ps acts z.tid es l p.0 b.0 c, order_on a ps acts es l p.1 b.1 c)

all_three : (P Q R S : Pair → Type 0) (ps : List Pair) → ((p : Pair) → P p → Q p → R p → S p) → AllByRecursion P ps → AllByRecursion Q ps → AllByRecursion R ps → AllByRecursion S ps
all_three P Q R S [] k f g h = tt
all_three P Q R S (p ∷ ps) k f g h = (k p f.0 g.0 h.0, all_three P Q R S ps k f.1 g.1 h.1)

pub pairs_in_line : {C : Type 0} (w : Fixed C) (Of : Tx → C → Type 0) (finish : C → List State → Alone) (es : List Event) → Given w Of finish → IsRun w es → AllByRecursion (IsInLine (reached w es).book.acts) (reached w es).book.pairs
pairs_in_line w Of finish es v run =
    let s = reached w es in
    let p = found.pairs_stand w es v.text run in
    all_three IsOlder (CarriesNumber s.book) (λ p. holds (λ x. is_ordered x.status) (act_of p.behind s.book.acts) ≡ true → doomed_at s.book.acts p.ahead ≡ true) (IsInLine s.book.acts) s.book.pairs
    (λ p o c n x y e f d g. (c y x f e (by s.book.acts p x y e f d g (λ q. n (subst (λ o. holds (λ x. is_ordered x.status) o ≡ true) (sym f) q)) y.status refl) d, o)) p.older p.carried (ahead.placed_behind_none w Of finish es v run)
  where
    by : (acts : List Act) (p : Pair) (x y : Act) → act_of p.ahead acts ≡ Some x → act_of p.behind acts ≡ Some y → is_doomed x.status ≡ false → is_doomed y.status ≡ false → (is_ordered y.status ≡ true → doomed_at acts p.ahead ≡ true) → (st : Status) → y.status ≡ st → is_ordered y.status ≡ false
    by acts p x y e f d g n Live q = ap is_ordered q
    by acts p x y e f d g n (Doomed v) q = absurd (true≢false (sym (ap is_doomed q) ∙ g))
    by acts p x y e f d g n (Decided c) q = absurd (not_doomed acts p.ahead x e d (n (ap is_ordered q)))
    by acts p x y e f d g n (Sealed c) q = absurd (not_doomed acts p.ahead x e d (n (ap is_ordered q)))

-- an entry tells of its ACT whether it only reads
tell_all : (acts : List Act) (es : List Entry) → AllByRecursion (LockOf acts) es → EntriesTell acts es
tell_all acts [] h = tt
tell_all acts (BatchEntry b ∷ es) h = tell_all acts es h.1
tell_all acts (ActEntry z ∷ es) h = ((λ x e. agree_is x.reader z.reader (subst (λ o. holds (λ y. agree y.reader z.reader) o ≡ true) e h.0)), tell_all acts es h.1)

pub entries_tell : {C : Type 0} (s : Machine C) (a : ℕ) → Locks s → EntriesTell s.book.acts (cell_at s a).entries
unfolding Locks
entries_tell s a l = tell_all s.book.acts (cell_at s a).entries (l a)

pub in_order : {C : Type 0} (w : Fixed C) (Of : Tx → C → Type 0) (finish : C → List State → Alone) (s : Machine C) (h : History) → AllGood w Of finish s h → Line w s h → AllByRecursion (IsInLine s.book.acts) s.book.pairs → (a : ℕ) → BeforeBatches s.book.acts (cell_at s a).entries → ActsInOrder s.book.acts (cell_at s a).entries
unfolding Turned AllFree Groups
in_order w Of finish s h g i l a b = order_on a s.book.pairs s.book.acts (cell_at s a).entries l (grouped_on a s.book.pairs s.book.acts (h.long a) (cell_at s a).entries (g.good.turned a) (i.free a) (i.afters.high.grouped a)) b (behind s h g.good.turned g.good.numbers a)

-- ---- a before number is base or a batch's

batch_there : (low k : ℕ) (bs : List Batch) → map (λ b. b.bid) bs ≡ from low (length bs) → low ≤ k → k < low + length bs → is_some (batch_of k bs) ≡ true
batch_there low k [] e l m = absurd (omega (arith, l, m))
batch_there low k (b ∷ bs) e l m = by (b.bid == k) refl (batch_there (low + 1) k bs (tail e))
  where
    head : map (λ b. b.bid) (b ∷ bs) ≡ from low (length (b ∷ bs)) → b.bid ≡ low
    head e = cc e

    tail : map (λ b. b.bid) (b ∷ bs) ≡ from low (length (b ∷ bs)) → map (λ b. b.bid) bs ≡ from (low + 1) (length bs)
    tail e = cc e

    by : (v : Bool) → (b.bid == k) ≡ v → (low + 1 ≤ k → k < (low + 1) + length bs → is_some (batch_of k bs) ≡ true) → is_some (if v then Some b else batch_of k bs) ≡ true
    by true q r = refl
    by false q r = r (elim (cases_lt low k) [ inl n ↦ omega (arith, n) | inr n ↦ absurd (Rattle.std.proofs.lemmas.Bool.eqb-false b.bid k q (omega (arith, l, n, head e))) ]) (omega (arith, m))

pub number : {C : Type 0} (w : Fixed C) (Of : Tx → C → Type 0) (finish : C → List State → Alone) (es : List Event) → Given w Of finish → IsRun w es → (t : ℕ) (x : Act) → act_of t (reached w es).book.acts ≡ Some x → is_doomed x.status ≡ false → (x.m ≤ base w.text) ⊎ (holds (λ b. not b.aborted) (batch_of x.m (reached w es).desk.batches) ≡ true)
number w Of finish es v run t x e d = elim (cases_lt (base w.text) x.m) [
  | inr l ↦ inl l
  | inl l ↦
      let s = reached w es in
      let n = drawn.numbers_drawn_once w es v.text run in
      let m = (all_found (λ x. x.m < s.ring.next_bid) (λ y. y.tid == t) s.book.acts x (low.numbers_low w Of finish es v run).acts e).0 in
      let b = some_is (batch_of x.m s.desk.batches) (batch_there w.text.opening.next_bid x.m s.desk.batches n.bids (omega (arith, l)) (omega (arith, m, n.next_bid))) in
      inr (subst (λ o. holds (λ b. not b.aborted) o ≡ true) (sym b.1) (ap not (settling.mark_is w s x.m b.0 b.1 (all.all_good w Of finish es v run).good.settling ∙ untaken.m_is_not_aborted w Of finish es v run t x e d)))
]
  where
    some_is : (o : Option Batch) → is_some o ≡ true → (b : Batch) × (o ≡ Some b)
    some_is None q = absurd (true≢false (sym q))
    some_is (Some b) q = (b, refl)
