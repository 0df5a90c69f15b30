-- Places of committed transactions: they differ, and on each actor they rise.
use Rattle.std.specs.Prelude.{◌≡◌, refl, ◌≢◌, ℕ, ◌+◌, ◌<◌, ◌≤◌, ◌==◌, nat_lt, nat_le, max, not, Bool, true, false, ◌&&◌, ◌||◌, ◌⊎◌, if◌then◌else◌, Option, Some, None, is_some, List, [], ◌∷◌, ◌++◌, map}
use Rattle.std.specs.List.{AllByRecursion, list_all}
use Rattle.std.proofs.Common.{arith, sym, subst, inl, inr, ◌∙◌}
use Rattle.std.proofs.lemmas.Bool.{eqb-true, eqb-false, eq-eqb, leb-true, lt-ltb, and_parts, and_from, or_cases, or_left, or_right, not-true, true≢false, cases_lt}
use Rattle.snap_base.specs.declared.verdicts.Place.{Place}
use Rattle.protocol.specs.Fixed.{Fixed, IsText, base}
use Rattle.protocol.specs.Parts.{Stage, Formed, Committing, Settled, Act, Pact, Batch, OfAct, Machine}
use Rattle.protocol.specs.Events.{Event, Form, Commit, Settle, Abort, Decide}
use Rattle.protocol.specs.Words.{holds, is_formed, is_settled, is_open, is_next_to_commit, batch_of, act_of}
use Rattle.protocol.specs.Verdicts.{pact_place, act_place}
use Rattle.protocol.specs.Conditions.{IsAllowed, conditions}
use Rattle.protocol.specs.Effects.{after}
use Rattle.protocol.specs.Runs.{opening}
use Rattle.protocol.specs.Contents.{Bids, BatchTids, Stages, AbortedMarks}
use Rattle.protocol.specs.OnRing.{numbered}
use Rattle.protocol.specs.OnDesk.{change_if, changed_batch, with_stage, taken}
use Rattle.protocol.specs.History.{Done, History, done_pact, done_batch, done_act, act_view, grown, no_history}
use Rattle.protocol.specs.Chains.{is_place_below, RivalsRise}
use Rattle.protocol_laws.specs.Rising.{visits, visitors, first_number_of, PlacesDiffer, OpenAbove}
use Rattle.protocol_laws.proofs.first.Frames.{frame}
use Rattle.protocol_laws.proofs.first.Lists.{all_join, all_map, all_found, all_alike, all_alike3, all_filter, weaker, both_all, join_assoc, join_nil, filter_join}
use Rattle.protocol_laws.proofs.first.SettlingKept as settling
use Rattle.protocol_laws.proofs.first.SettlingKeys as keys

-- ---- places

pub by_batch : (p q : Place) → p.batch.0 < q.batch.0 → is_place_below p q ≡ true
by_batch p q l = or_left (nat_lt p.batch.0 q.batch.0) _ (lt-ltb p.batch.0 q.batch.0 l)

pub by_side : (p q : Place) → p.batch.0 ≡ q.batch.0 → p.side < q.side → is_place_below p q ≡ true
by_side p q e l = or_right (nat_lt p.batch.0 q.batch.0) _ (and_from (p.batch.0 == q.batch.0) _ (eq-eqb p.batch.0 q.batch.0 e) (or_left (nat_lt p.side q.side) _ (lt-ltb p.side q.side l)))

pub by_order : (p q : Place) → p.batch.0 ≡ q.batch.0 → p.side ≡ q.side → p.order < q.order → is_place_below p q ≡ true
by_order p q e f l = or_right (nat_lt p.batch.0 q.batch.0) _ (and_from (p.batch.0 == q.batch.0) _ (eq-eqb p.batch.0 q.batch.0 e) (or_right (nat_lt p.side q.side) _ (and_from (p.side == q.side) _ (eq-eqb p.side q.side f) (lt-ltb p.order q.order l))))

-- it is a PACT's, or an ACT's with a number below this one
abbrev pub IsSided : ℕ → Place → Type 0
IsSided c p = (p.side ≡ 0) ⊎ ((p.side ≡ 1) × (p.order < c))

pub act_above : (p : Place) (m c : ℕ) → p.batch.0 ≤ m → IsSided c p → is_place_below p (act_place m c) ≡ true
act_above p m c l k = elim (cases_lt p.batch.0 m) [
  | inl a ↦ by_batch p (act_place m c) a
  | inr b ↦ elim k [
    | inl s ↦ by_side p (act_place m c) (omega (arith, l, b)) (omega (arith, s))
    | inr s ↦ by_order p (act_place m c) (omega (arith, l, b)) (omega (arith, s.0)) s.1
  ]
]

abbrev pub Differ : Done → Done → Type 0
Differ d e = (is_place_below d.place e.place ≡ true) ⊎ (is_place_below e.place d.place ≡ true)

act_differs : (d e : Done) (m c : ℕ) → e.place ≡ act_place m c → IsSided c d.place → Differ d e
act_differs d e m c q k = subst (λ p. (is_place_below d.place p ≡ true) ⊎ (is_place_below p d.place ≡ true)) (sym q) (elim (cases_lt m d.place.batch.0) [
  | inl a ↦ inr (by_batch (act_place m c) d.place a)
  | inr b ↦ inl (act_above d.place m c b k)
])

-- ---- more at the end

-- each of these is above all before it, that came there where this one did
pub AboveOn : ℕ → List Done → List Done → Type 0
AboveOn a us [] = Unit {0}
AboveOn a us (d ∷ ds) = (visits a d ≡ true → AllByRecursion (λ e. (e.reader && d.reader) ≡ false → is_place_below e.place d.place ≡ true) (visitors a us)) × AboveOn a (us ++ d ∷ []) ds

pub DifferFrom : List Done → List Done → Type 0
DifferFrom us [] = Unit {0}
DifferFrom us (d ∷ ds) = AllByRecursion (λ e. Differ e d) us × DifferFrom (us ++ d ∷ []) ds

one_above : (us : List Done) (d : Done) → AllByRecursion (λ e. (e.reader && d.reader) ≡ false → is_place_below e.place d.place ≡ true) us → RivalsRise us → RivalsRise (us ++ d ∷ [])
one_above [] d h r = (tt, tt)
one_above (u ∷ us) d h r = (all_join (λ e. (u.reader && e.reader) ≡ false → is_place_below u.place e.place ≡ true) us (d ∷ []) r.0 (h.0, tt), one_above us d h.1 r.1)

one_differs : (us : List Done) (d : Done) → AllByRecursion (λ e. Differ e d) us → PlacesDiffer us → PlacesDiffer (us ++ d ∷ [])
one_differs [] d h r = (tt, tt)
one_differs (u ∷ us) d h r = (all_join (λ e. Differ u e) us (d ∷ []) r.0 (h.0, tt), one_differs us d h.1 r.1)

pub rise_more : (a : ℕ) (us ds : List Done) → AboveOn a us ds → RivalsRise (visitors a us) → RivalsRise (visitors a (us ++ ds))
unfolding AboveOn
rise_more a us [] h r = subst (λ xs. RivalsRise (visitors a xs)) (sym (join_nil us)) r
rise_more a us (d ∷ ds) h r =
    subst (λ xs. RivalsRise (visitors a xs)) (join_assoc us (d ∷ []) ds)
    (rise_more a (us ++ d ∷ []) ds h.1 (subst (λ xs. RivalsRise xs) (sym (filter_join (visits a) us (d ∷ []))) (by (visits a d) refl)))
  where
    by : (b : Bool) → visits a d ≡ b → RivalsRise (visitors a us ++ (if b then d ∷ [] else []))
    by true e = one_above (visitors a us) d (h.0 e) r
    by false e = subst (λ xs. RivalsRise xs) (sym (join_nil (visitors a us))) r

pub differ_more : (us ds : List Done) → DifferFrom us ds → PlacesDiffer us → PlacesDiffer (us ++ ds)
unfolding DifferFrom
differ_more us [] h r = subst (λ xs. PlacesDiffer xs) (sym (join_nil us)) r
differ_more us (d ∷ ds) h r = subst (λ xs. PlacesDiffer xs) (join_assoc us (d ∷ []) ds) (differ_more (us ++ d ∷ []) ds h.1 (one_differs us d h.0 r))

-- ---- batches

-- it and the next ones, each tid above the one before
pub TidsFrom : ℕ → List ℕ → Type 0
TidsFrom low [] = Unit {0}
TidsFrom low (t ∷ ts) = (low ≤ t) × TidsFrom (t + 1) ts

numbered_rise : (t : ℕ) (ns : List ℕ) → TidsFrom t (map (λ p. p.tid) (numbered t ns))
unfolding TidsFrom
numbered_rise t [] = tt
numbered_rise t (n ∷ ns) = (omega arith, numbered_rise (t + 1) ns)

any_low : (low : ℕ) (ts : List ℕ) → TidsFrom low ts → TidsFrom 0 ts
unfolding TidsFrom
any_low low [] h = tt
any_low low (t ∷ ts) h = (omega arith, h.1)

-- a batch that commits is above all that committed, each of its PACTs above the one before
pacts_above : (k : ℕ) (h : History) (a low : ℕ) (us : List Done) (ps : List Pact) → AllByRecursion (λ e. (t : ℕ) → low ≤ t → is_place_below e.place (pact_place k t) ≡ true) us → TidsFrom low (map (λ p. p.tid) ps)
    → AboveOn a us (map (done_pact k h) ps) × DifferFrom us (map (done_pact k h) ps)
unfolding TidsFrom AboveOn DifferFrom
pacts_above k h a low us [] u t = (tt, tt)
pacts_above k h a low us (p ∷ ps) u t =
    let here = weaker (λ e. (t : ℕ) → low ≤ t → is_place_below e.place (pact_place k t) ≡ true) (λ e. is_place_below e.place (pact_place k p.tid) ≡ true) us (λ e f. f p.tid t.0) u in
    let later = all_join (λ e. (t : ℕ) → p.tid + 1 ≤ t → is_place_below e.place (pact_place k t) ≡ true) us (done_pact k h p ∷ []) (weaker _ _ us (λ e f i l. f i (omega (arith, l, t.0))) u) ((λ i l. by_order (pact_place k p.tid) (pact_place k i) refl refl (omega (arith, l))), tt) in
    let rest = pacts_above k h a (p.tid + 1) (us ++ done_pact k h p ∷ []) ps later t.1 in
    ((λ e. all_filter _ (visits a) us (weaker _ _ us (λ e i f. i) here), rest.0), (weaker _ _ us (λ e i. inl i) here, rest.1))

-- ---- open batches

open_parts : (b : Batch) → is_open b ≡ true → (is_formed b.stage ≡ true) × (b.aborted ≡ false)
open_parts b e = let p = and_parts (is_formed b.stage) (not b.aborted) e in (p.0, not-true b.aborted p.1)

not_over : (b : Batch) → is_open b ≡ true → (b.aborted || is_settled b.stage) ≡ true → ⊥
not_over b o e = let p = open_parts b o in elim (or_cases b.aborted (is_settled b.stage) e) [ inl a ↦ true≢false (sym a ∙ p.1) | inr q ↦ by b.stage p.0 q ]
  where
    by : (st : Stage) → is_formed st ≡ true → is_settled st ≡ true → ⊥
    by Formed f q = true≢false (sym q)
    by Committing f q = true≢false (sym q)
    by Settled f q = true≢false (sym f)

open_mapped : (n : ℕ) (f : Batch → Batch) (bs : List Batch) → ((b : Batch) → ((f b).bid ≡ b.bid) × (is_open (f b) ≡ true → is_open b ≡ true)) → OpenAbove n bs → OpenAbove n (map f bs)
open_mapped n f bs k h = all_map (λ b. is_open b ≡ true → n < b.bid) (λ b. is_open b ≡ true → n < b.bid) f bs (λ b i o. omega (arith, (k b).0, i ((k b).1 o))) h

restage_opens : (k : ℕ) (st : Stage) → is_formed st ≡ false → (b : Batch) → ((change_if (b.bid == k) (with_stage st) b).bid ≡ b.bid) × (is_open (change_if (b.bid == k) (with_stage st) b) ≡ true → is_open b ≡ true)
restage_opens k st e b = by (b.bid == k)
  where
    by : (q : Bool) → ((change_if q (with_stage st) b).bid ≡ b.bid) × (is_open (change_if q (with_stage st) b) ≡ true → is_open b ≡ true)
    by true = (refl, λ o. absurd (true≢false (sym (and_parts (is_formed st) (not b.aborted) o).0 ∙ e)))
    by false = (refl, λ o. o)

take_opens : (k : ℕ) (b : Batch) → ((taken k b).bid ≡ b.bid) × (is_open (taken k b) ≡ true → is_open b ≡ true)
take_opens k b = (refl, by (is_formed b.stage) b.aborted)
  where
    by : (f a : Bool) → (f && not (a || nat_le k b.bid)) ≡ true → (f && not a) ≡ true
    by true true e = e
    by true false e = refl
    by false a e = e

-- where a batch may commit, the open ones that are left are above it
opens_next : (k : ℕ) (bs : List Batch) → is_next_to_commit k bs ≡ true → OpenAbove k (changed_batch k (with_stage Committing) bs)
opens_next k [] e = tt
opens_next k (b ∷ bs) e =
    let p = and_parts (nat_le k b.bid || (b.aborted || is_settled b.stage)) (list_all (λ b. nat_le k b.bid || (b.aborted || is_settled b.stage)) bs) e in
    (by (b.bid == k) refl p.0, opens_next k bs p.1)
  where
    by : (q : Bool) → (b.bid == k) ≡ q → (nat_le k b.bid || (b.aborted || is_settled b.stage)) ≡ true → is_open (change_if q (with_stage Committing) b) ≡ true → k < (change_if q (with_stage Committing) b).bid
    by true i r o = absurd (true≢false (sym (and_parts false (not b.aborted) o).0))
    by false i r o = elim (or_cases (nat_le k b.bid) (b.aborted || is_settled b.stage) r) [
      | inl l ↦ strictly (leb-true k b.bid l) (eqb-false b.bid k i)
      | inr v ↦ absurd (not_over b o v)
    ]
      where
        strictly : k ≤ b.bid → b.bid ≢ k → k < b.bid
        strictly l n = elim (cases_lt k b.bid) [ inl a ↦ a | inr c ↦ absurd (n (omega (arith, l, c))) ]

-- what is at most the last settled one is below every open one
pub settled_below : {C : Type 0} (w : Fixed C) (s : Machine C) (m : ℕ) → settling.Settling w s → m ≤ max s.desk.settled (base w.text) → (m < s.ring.next_bid) × OpenAbove m s.desk.batches
unfolding settling.Settling
settled_below w s m h l =
    let most : m ≤ s.desk.settled = omega (arith, l, h.based) in (
      elim h.reached [
        | inl e ↦ omega (arith, e, most, h.some, keys.rises_top w.text.opening.next_bid s.ring.next_bid _ h.rises)
        | inr r ↦ omega (arith, most, r.3, (keys.rises_within w.text.opening.next_bid s.ring.next_bid r.0 _ h.rises r.1).1)
      ],
      settling.all_batches (λ b. is_open b ≡ true → m < b.bid) s.desk.batches (λ b i o. elim (cases_lt b.bid (s.desk.settled + 1)) [
        | inl a ↦ absurd (not_over b o (keys.over_at (s.desk.settled + 1) _ (settling.key_of b) h.below_settled i a))
        | inr c ↦ omega (arith, c, most)
      ]),
    )

-- ---- the premise: an ACT that is decided has a before number at least as great as those of all that committed on its actors

unfoldable pub BeforeIsHigh : {C : Type 0} → Event → Machine C → History → Type 0
BeforeIsHigh (Decide t) s h = (x : Act) → act_of t s.book.acts ≡ Some x → (a : ℕ) → is_some (act_view h x a) ≡ true → AllByRecursion (λ e. (e.reader && x.reader) ≡ false → first_number_of e ≤ x.m) (visitors a h.committed)
BeforeIsHigh e s h = Unit {0}

-- ---- what is kept

pub record PlacesStand {C : Type 0} (w : Fixed C) (s : Machine C) (h : History) : Type 0 where
  pub settles : settling.Settling w s
  pub ascend : AllByRecursion (λ b. TidsFrom 0 (map (λ p. p.tid) b.pacts)) s.desk.batches
  pub low : AllByRecursion (λ d. (d.place.batch.0 < s.ring.next_bid) × OpenAbove d.place.batch.0 s.desk.batches) h.committed
  pub sided : AllByRecursion (λ d. IsSided s.book.next_c d.place) h.committed
  pub differ : PlacesDiffer h.committed
  pub rise : (a : ℕ) → RivalsRise (visitors a h.committed)

pub below_open : (n k : ℕ) (bs : List Batch) (b : Batch) → batch_of k bs ≡ Some b → is_open b ≡ true → OpenAbove n bs → n < k
below_open n k bs b e o h = let f = all_found (λ b. is_open b ≡ true → n < b.bid) (λ b. b.bid == k) bs b h e in omega (arith, f.0 o, eqb-true b.bid k f.1)

-- ---- a batch commits

record Commits (k : ℕ) (next : ℕ) (bs' : List Batch) (h : History) (ds : List Done) : Type 0 where
  above : (a : ℕ) → AboveOn a h.committed ds
  differs : DifferFrom h.committed ds
  lows : AllByRecursion (λ d. (d.place.batch.0 < next) × OpenAbove d.place.batch.0 bs') ds
  sides : (c : ℕ) → AllByRecursion (λ d. IsSided c d.place) ds

commits : {C : Type 0} (w : Fixed C) (k : ℕ) (s : Machine C) (h : History) → PlacesStand w s h → (o : Option Batch) → batch_of k s.desk.batches ≡ o → holds (λ b. is_open b && is_next_to_commit k s.desk.batches) o ≡ true
    → Commits k s.ring.next_bid (changed_batch k (with_stage Committing) s.desk.batches) h (done_batch k h o)
unfolding settling.Settling
commits w k s h g None e v = absurd (true≢false (sym v))
commits w k s h g (Some b) e v =
    let p = and_parts (is_open b) (is_next_to_commit k s.desk.batches) v in
    let t = (all_found (λ b. TidsFrom 0 (map (λ p. p.tid) b.pacts)) (λ b. b.bid == k) s.desk.batches b g.ascend e).0 in
    let i = settling.in_keys b (λ x. x.bid == k) s.desk.batches e in
    let lt : k < s.ring.next_bid = omega (arith, eqb-true b.bid k i.1, (keys.rises_within w.text.opening.next_bid s.ring.next_bid (settling.key_of b) _ g.settles.rises i.0).1) in
    let nx = p.1 in
    let all = weaker _ (λ e. (t : ℕ) → 0 ≤ t → is_place_below e.place (pact_place k t) ≡ true) h.committed (λ d q j l. by_batch d.place (pact_place k j) (below_open d.place.batch.0 k s.desk.batches b e p.0 q.1)) g.low in
    record {
      above = λ a. (pacts_above k h a 0 h.committed b.pacts all t).0;
      differs = (pacts_above k h 0 0 h.committed b.pacts all t).1;
      lows = each (λ d. (d.place.batch.0 < s.ring.next_bid) × OpenAbove d.place.batch.0 (changed_batch k (with_stage Committing) s.desk.batches)) b.pacts (λ p. (lt, opens_next k s.desk.batches nx));
      sides = λ c. each (λ d. IsSided c d.place) b.pacts (λ p. inl refl);
    }
  where
    each : (P : Done → Type 0) (ps : List Pact) → ((p : Pact) → P (done_pact k h p)) → AllByRecursion P (map (done_pact k h) ps)
    each P [] f = tt
    each P (p ∷ ps) f = (f p, each P ps f)

-- ---- an ACT is decided

decides : {C : Type 0} (w : Fixed C) (t : ℕ) (s : Machine C) (h : History) → PlacesStand w s h
    → ((x : Act) → act_of t s.book.acts ≡ Some x → (a : ℕ) → is_some (act_view h x a) ≡ true → AllByRecursion (λ e. (e.reader && x.reader) ≡ false → first_number_of e ≤ x.m) (visitors a h.committed))
    → (o : Option Act) → act_of t s.book.acts ≡ o → holds (λ x. nat_le x.m (max s.desk.settled (base w.text))) o ≡ true
    → ((a : ℕ) → AboveOn a h.committed (done_act s.book.next_c h o)) × (DifferFrom h.committed (done_act s.book.next_c h o)
    × (AllByRecursion (λ d. (d.place.batch.0 < s.ring.next_bid) × OpenAbove d.place.batch.0 s.desk.batches) (done_act s.book.next_c h o) × AllByRecursion (λ d. IsSided (s.book.next_c + 1) d.place) (done_act s.book.next_c h o)))
unfolding AboveOn DifferFrom
decides w t s h g q None e v = (λ a. tt, (tt, (tt, tt)))
decides w t s h g q (Some x) e v = (
  λ a. ((λ i. both_all (λ d. (d.reader && x.reader) ≡ false → first_number_of d ≤ x.m) (λ d. IsSided s.book.next_c d.place) (λ d. (d.reader && x.reader) ≡ false → is_place_below d.place (act_place x.m s.book.next_c) ≡ true) (visitors a h.committed) (λ d j k f. act_above d.place x.m s.book.next_c (j f) k) (q x e a i) (all_filter _ (visits a) h.committed g.sided)), tt),
  (
    (weaker _ _ h.committed (λ d k. act_differs d (record { who = OfAct x.tid; tid = x.tid; tx = x.tx; place = act_place x.m s.book.next_c; result = x.result; reader = x.reader; views = Rattle.protocol.specs.History.act_view h x }) x.m s.book.next_c refl k) g.sided, tt),
    ((settled_below w s x.m g.settles (leb-true x.m (max s.desk.settled (base w.text)) v), tt), (inr (refl, omega arith), tt)),
  ),
)

unfoldable low_same : ℕ → ℕ → List Batch → List Batch → List Done → Type 0
low_same next next' bs bs' ds = AllByRecursion (λ d. (d.place.batch.0 < next) × OpenAbove d.place.batch.0 bs) ds → AllByRecursion (λ d. (d.place.batch.0 < next') × OpenAbove d.place.batch.0 bs') ds

lower : (next next' : ℕ) (bs bs' : List Batch) (ds : List Done) → next ≤ next' → ((n : ℕ) → n < next → OpenAbove n bs → OpenAbove n bs') → low_same next next' bs bs' ds
unfolding low_same
lower next next' bs bs' ds l k = λ h. weaker _ _ ds (λ d i. (omega (arith, l, i.0), k d.place.batch.0 i.0 i.1)) h

pub kept : {C : Type 0} (w : Fixed C) (e : Event) (s : Machine C) (h : History) → IsAllowed w e s → BeforeIsHigh e s h → PlacesStand w s h → PlacesStand w (after w e s) (grown w e s h)
unfolding low_same BeforeIsHigh conditions after grown
kept w (Form k) s h ok q g = record {
  settles = settling.kept w (Form k) s ok g.settles;
  ascend = all_join _ s.desk.batches _ g.ascend (any_low s.ring.next_tid _ (numbered_rise s.ring.next_tid _), tt);
  low = lower s.ring.next_bid (s.ring.next_bid + 1) s.desk.batches _ h.committed (omega arith) (λ n l i. all_join (λ b. is_open b ≡ true → n < b.bid) s.desk.batches _ i ((λ o. omega (arith, l, eqb-true k s.ring.next_bid ok.0)), tt)) g.low;
  sided = g.sided;
  differ = g.differ;
  rise = g.rise;
}
kept w (Commit k) s h ok q g =
    let c = commits w k s h g (batch_of k s.desk.batches) refl ok.0 in
    record {
      settles = settling.kept w (Commit k) s ok g.settles;
      ascend = all_alike (λ b. map (λ p. p.tid) b.pacts) (λ b. map (λ p. p.tid) b.pacts) (λ b. TidsFrom 0 (map (λ p. p.tid) b.pacts)) s.desk.batches _ (λ x y i j t. subst (λ ts. TidsFrom 0 ts) (sym i) t) (frame w (Commit k) s BatchTids refl) (frame w (Commit k) s BatchTids refl) g.ascend;
      low = all_join _ h.committed _ (lower s.ring.next_bid s.ring.next_bid s.desk.batches _ h.committed (omega arith) (λ n l i. open_mapped n _ s.desk.batches (restage_opens k Committing refl) i) g.low) c.lows;
      sided = all_join _ h.committed _ g.sided (c.sides s.book.next_c);
      differ = differ_more h.committed _ c.differs g.differ;
      rise = λ a. rise_more a h.committed _ (c.above a) (g.rise a);
    }
kept w (Settle k) s h ok q g = record {
  settles = settling.kept w (Settle k) s ok g.settles;
  ascend = all_alike (λ b. map (λ p. p.tid) b.pacts) (λ b. map (λ p. p.tid) b.pacts) (λ b. TidsFrom 0 (map (λ p. p.tid) b.pacts)) s.desk.batches _ (λ x y i j t. subst (λ ts. TidsFrom 0 ts) (sym i) t) (frame w (Settle k) s BatchTids refl) (frame w (Settle k) s BatchTids refl) g.ascend;
  low = lower s.ring.next_bid s.ring.next_bid s.desk.batches _ h.committed (omega arith) (λ n l i. open_mapped n _ s.desk.batches (restage_opens k Settled refl) i) g.low;
  sided = g.sided;
  differ = g.differ;
  rise = g.rise;
}
kept w (Abort k) s h ok q g = record {
  settles = settling.kept w (Abort k) s ok g.settles;
  ascend = all_alike (λ b. map (λ p. p.tid) b.pacts) (λ b. map (λ p. p.tid) b.pacts) (λ b. TidsFrom 0 (map (λ p. p.tid) b.pacts)) s.desk.batches _ (λ x y i j t. subst (λ ts. TidsFrom 0 ts) (sym i) t) (frame w (Abort k) s BatchTids refl) (frame w (Abort k) s BatchTids refl) g.ascend;
  low = lower s.ring.next_bid s.ring.next_bid s.desk.batches _ h.committed (omega arith) (λ n l i. open_mapped n (taken k) s.desk.batches (take_opens k) i) g.low;
  sided = g.sided;
  differ = g.differ;
  rise = g.rise;
}
kept w (Decide t) s h ok q g =
    let c = decides w t s h g q (act_of t s.book.acts) refl ok.1.1.0 in
    record {
      settles = settling.kept w (Decide t) s ok g.settles;
      ascend = g.ascend;
      low = all_join _ h.committed _ g.low c.1.1.0;
      sided = all_join _ h.committed _ (weaker _ _ h.committed (λ d i. elim i [ inl a ↦ inl a | inr b ↦ inr (b.0, omega (arith, b.1)) ]) g.sided) c.1.1.1;
      differ = differ_more h.committed _ c.1.0 g.differ;
      rise = λ a. rise_more a h.committed _ (c.0 a) (g.rise a);
    }
kept w e s h ok q g = record {
  settles = settling.kept w e s ok g.settles;
  ascend = all_alike (λ b. map (λ p. p.tid) b.pacts) (λ b. map (λ p. p.tid) b.pacts) (λ b. TidsFrom 0 (map (λ p. p.tid) b.pacts)) s.desk.batches _ (λ x y i j t. subst (λ ts. TidsFrom 0 ts) (sym i) t) (frame w e s BatchTids refl) (frame w e s BatchTids refl) g.ascend;
  low = lower s.ring.next_bid s.ring.next_bid s.desk.batches _ h.committed (omega arith) (λ n l i. all_alike3 (λ b. b.bid) (λ b. b.stage) (λ b. b.aborted) (λ b. is_open b ≡ true → n < b.bid) s.desk.batches _ (λ x y a b c f o. omega (arith, a, f (subst (λ v. (is_formed x.stage && not v) ≡ true) c (subst (λ v. (is_formed v && not y.aborted) ≡ true) b o)))) (frame w e s Bids refl) (frame w e s Stages refl) (frame w e s AbortedMarks refl) i) g.low;
  sided = g.sided;
  differ = g.differ;
  rise = g.rise;
}

pub opened : {C : Type 0} (w : Fixed C) → IsText w.text → PlacesStand w (opening w) no_history
opened w text = record { settles = settling.opened w text; ascend = tt; low = tt; sided = tt; differ = tt; rise = λ a. tt }
