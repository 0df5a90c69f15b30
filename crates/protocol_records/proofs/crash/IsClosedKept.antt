-- The members of a moment are closed under the order of the whole run.
use Rattle.std.specs.Prelude.{◌≡◌, refl, ℕ, zero, suc, ◌≤◌, ◌==◌, Bool, true, false, ◌&&◌, ◌⊎◌, if◌then◌else◌, is_some, List, [], ◌∷◌, ◌++◌, length, filter}
use Rattle.std.specs.List.{AllByRecursion, list_any}
use Rattle.std.proofs.Common.{arith, sym, ap, subst, inl, inr, ◌∙◌}
use Rattle.std.proofs.lemmas.Bool.{eqb-true, eq-eqb, or_cases, or_left, or_right, or_from, true≢false, and_parts, cases_Bool, false_from_ne_true}
use Rattle.snap_base.specs.declared.transactions.State.{State}
use Rattle.snap_base.specs.declared.transactions.Tx.{Tx}
use Rattle.protocol.specs.Fixed.{Fixed, IsText}
use Rattle.protocol.specs.Facts.{Alone}
use Rattle.protocol.specs.Events.{Event, Commit, Decide}
use Rattle.protocol.specs.Parts.{Who, OfBatch, OfAct, Machine}
use Rattle.protocol.specs.Words.{holds, is_value, is_live_status}
use Rattle.protocol.specs.Conditions.{IsAllowed, conditions}
use Rattle.protocol.specs.Runs.{opening, IsRun, reached}
use Rattle.protocol.specs.History.{Done, History, no_history, history}
use Rattle.protocol.specs.Chains.{chain, Precedes, IsClosedSet}
use Rattle.protocol_laws.specs.Linked.{came_to, visitors}
use Rattle.protocol.specs.Moments.{Moment, IsLeft, left_in}
use Rattle.protocol_records.specs.Crash.{HasMember, is_in, members, NoneMissed, CrashStands, AtEveryMoment}
use Rattle.protocol_laws.proofs.first.Lists.{all_back, all_filter, all_join, all_mid, both_all, weaker}
use Rattle.protocol_laws.proofs.machine.Good.{Given, for_chain}
use Rattle.protocol_laws.proofs.machine.AllGood.{owes, along_good, none_allowed}
use Rattle.protocol_laws.proofs.machine.CommitsKept as committing
use Rattle.protocol_theorems.specs.Order.{Shuffled}
use Rattle.protocol_theorems.specs.OrderCases.{EachBehind}
use Rattle.protocol_theorems.proofs.order.CasesHold.{shuffled_behind}
use Rattle.protocol_theorems.proofs.order.OrderImplied.{shuffled_all}
use Rattle.protocol_theorems.proofs.order.ChainsKept.{Chained, IsOver, no_done}
use Rattle.protocol_theorems.proofs.order.RunsBefore.{lives}
use Rattle.protocol_records.proofs.crash.TidsDiffer.{TidsDiffer, Owned, NotDone, pairs}
use Rattle.protocol_records.proofs.crash.TidsDiffer as tids
use Rattle.protocol_theorems.proofs.order.LastLaw.{Whole, whole}
use Rattle.protocol_theorems.proofs.order.LastLaw as last
use Rattle.protocol_theorems.proofs.order.OrderLaw.{committed_grows}
use Rattle.protocol_records.proofs.crash.CrashImplied.{moment_is_cut, front_runs}
use Rattle.protocol_records.proofs.crash.CrashParts.{none_missed_at, done_hold}
use Rattle.protocol_records.proofs.crash.CrashSerial.{members_recover}
use Rattle.protocol_records.proofs.crash.CrashClosed.{goes_on}
use Rattle.protocol_records.proofs.crash.Acknowledged.{acknowledged}
use Rattle.protocol_laws.proofs.machine.AlongHistory
use Rattle.protocol_records.proofs.crash.RecordsKept.{RecordsAreKept, in_is_kept}
use Rattle.protocol_records.proofs.crash.RecordsKept as records
use Rattle.protocol.specs.Rests.{HasFacts, IsRest, IsTxIn}

-- ---- who is among the members

any_split : (p : Done → Bool) (front : List Done) (d : Done) (rest : List Done) → p d ≡ true → list_any p (front ++ d ∷ rest) ≡ true
any_split p [] d rest e = or_left (p d) _ e
any_split p (x ∷ xs) d rest e = or_right (p x) _ (any_split p xs d rest e)

-- the one that stands behind is among these, and so is the one ahead, where it has a value
abbrev WithIt : (Done → Bool) → List Done → Done → Done → Type 0
WithIt mem ms d e = (d.reader && e.reader) ≡ false → list_any (λ x. x.tid == e.tid) ms ≡ true → is_value d.result ≡ true → list_any (λ x. x.tid == d.tid) ms ≡ true

-- who passes the test is among them
all_in : (mem : Done → Bool) (ds : List Done) → AllByRecursion (λ d. mem d ≡ true → list_any (λ x. x.tid == d.tid) (filter mem ds) ≡ true) ds
all_in mem [] = tt
all_in mem (d ∷ ds) = ((λ e. rw e (or_left (d.tid == d.tid) _ (eq-eqb d.tid d.tid refl))), weaker (λ x. mem x ≡ true → list_any (λ y. y.tid == x.tid) (filter mem ds) ≡ true) (λ x. mem x ≡ true → list_any (λ y. y.tid == x.tid) (filter mem (d ∷ ds)) ≡ true) ds (λ x k e. more x (mem d) (k e)) (all_in mem ds))
  where
    more : (x : Done) (b : Bool) → list_any (λ y. y.tid == x.tid) (filter mem ds) ≡ true → list_any (λ y. y.tid == x.tid) (if b then d ∷ filter mem ds else filter mem ds) ≡ true
    more x true e = or_right (d.tid == x.tid) _ e
    more x false e = e

-- and who is among them passes it
is_in_part : (mem : Done → Bool) (x : Done) (ds : List Done) → AllByRecursion (λ d. d.tid ≡ x.tid → d ≡ x) ds → list_any (λ y. y.tid == x.tid) (filter mem ds) ≡ true → mem x ≡ true
is_in_part mem x [] u e = absurd (true≢false (sym e))
is_in_part mem x (d ∷ ds) u e = by (mem d) refl e (is_in_part mem x ds u.1)
  where
    by : (b : Bool) → mem d ≡ b → list_any (λ y. y.tid == x.tid) (if b then d ∷ filter mem ds else filter mem ds) ≡ true → (list_any (λ y. y.tid == x.tid) (filter mem ds) ≡ true → mem x ≡ true) → mem x ≡ true
    by true m e k = elim (or_cases (d.tid == x.tid) (list_any (λ y. y.tid == x.tid) (filter mem ds)) e) [ inl q ↦ subst (λ z. mem z ≡ true) (u.0 (eqb-true d.tid x.tid q)) m | inr q ↦ k q ]
    by false m e k = k e

are_in : (mem : Done → Bool) (ds : List Done) → TidsDiffer ds → AllByRecursion (λ x. list_any (λ y. y.tid == x.tid) (filter mem ds) ≡ true → mem x ≡ true) ds
are_in mem ds t = weaker (λ x. AllByRecursion (λ d. d.tid ≡ x.tid → d ≡ x) ds) (λ x. list_any (λ y. y.tid == x.tid) (filter mem ds) ≡ true → mem x ≡ true) ds (λ x u e. is_in_part mem x ds u e) (pairs ds t)

front_differ : (xs ys : List Done) → TidsDiffer (xs ++ ys) → TidsDiffer xs
front_differ [] ys h = tt
front_differ (x ∷ xs) ys h = (ahead xs h.0, front_differ xs ys h.1)
  where
    ahead : (zs : List Done) → AllByRecursion (λ e. x.tid ≡ e.tid → ⊥) (zs ++ ys) → AllByRecursion (λ e. x.tid ≡ e.tid → ⊥) zs
    ahead [] k = tt
    ahead (z ∷ zs) k = (k.0, ahead zs k.1)

-- who came later is not among them
none_new : (mem : Done → Bool) (xs ys : List Done) → TidsDiffer (xs ++ ys) → AllByRecursion (λ e. list_any (λ x. x.tid == e.tid) (filter mem xs) ≡ false) ys
none_new mem [] ys h = nobody ys
  where
    nobody : (zs : List Done) → AllByRecursion (λ e. false ≡ false) zs
    nobody [] = tt
    nobody (z ∷ zs) = (refl, nobody zs)
none_new mem (x ∷ xs) ys h = both_all (λ e. x.tid ≡ e.tid → ⊥) (λ e. list_any (λ x. x.tid == e.tid) (filter mem xs) ≡ false) (λ e. list_any (λ x. x.tid == e.tid) (filter mem (x ∷ xs)) ≡ false) ys (λ e n k. by e (mem x) n k) (all_back (λ e. x.tid ≡ e.tid → ⊥) xs ys h.0) (none_new mem xs ys h.1)
  where
    by : (e : Done) (b : Bool) → (x.tid ≡ e.tid → ⊥) → list_any (λ x. x.tid == e.tid) (filter mem xs) ≡ false → list_any (λ x. x.tid == e.tid) (if b then x ∷ filter mem xs else filter mem xs) ≡ false
    by e true n k = or_from (x.tid == e.tid) _ (false_from_ne_true (x.tid == e.tid) (λ q. n (eqb-true x.tid e.tid q))) k
    by e false n k = k

-- of those that came to an actor
came_all : (a : ℕ) (R : Done → Type 0) (ds : List Done) → AllByRecursion (λ e. came_to a e ≡ true → R e) ds → AllByRecursion R (visitors a ds)
came_all a R [] h = tt
came_all a R (d ∷ ds) h = by (came_to a d) h.0 (came_all a R ds h.1)
  where
    by : (b : Bool) → (b ≡ true → R d) → AllByRecursion R (visitors a ds) → AllByRecursion R (if b then d ∷ visitors a ds else visitors a ds)
    by true r k = (r refl, k)
    by false r k = k

with_new : (a : ℕ) (mem : Done → Bool) (ms ys : List Done) → AllByRecursion (λ e. list_any (λ x. x.tid == e.tid) ms ≡ false) ys → EachBehind (WithIt mem ms) (visitors a ys)
with_new a mem ms [] n = tt
with_new a mem ms (y ∷ ys) n = by (came_to a y) (came_all a (WithIt mem ms y) ys (weaker (λ e. list_any (λ x. x.tid == e.tid) ms ≡ false) (λ e. came_to a e ≡ true → WithIt mem ms y e) ys (λ e k c r i. absurd (true≢false (sym i ∙ k))) n.1)) (with_new a mem ms ys n.1)
  where
    by : (b : Bool) → AllByRecursion (WithIt mem ms y) (visitors a ys) → EachBehind (WithIt mem ms) (visitors a ys) → EachBehind (WithIt mem ms) (if b then y ∷ visitors a ys else visitors a ys)
    by true r k = (r, k)
    by false r k = k

every : {P : Done → Type 0} (ds : List Done) → ((d : Done) → P d) → AllByRecursion P ds
every [] k = tt
every (d ∷ ds) k = (k d, every ds k)

with_early : (a : ℕ) (mem : Done → Bool) (ms xs ys : List Done) → AllByRecursion (λ d. mem d ≡ true → list_any (λ x. x.tid == d.tid) ms ≡ true) xs → AllByRecursion (λ d. list_any (λ x. x.tid == d.tid) ms ≡ true → mem d ≡ true) xs → AllByRecursion (λ e. list_any (λ x. x.tid == e.tid) ms ≡ false) ys → NoneMissed a mem xs
    → EachBehind (WithIt mem ms) (visitors a (xs ++ ys))
with_early a mem ms [] ys i j n m = with_new a mem ms ys n
with_early a mem ms (x ∷ xs) ys i j n m = by (came_to a x) refl (with_early a mem ms xs ys i.1 j.1 n m.1)
  where
    one : came_to a x ≡ true → (e : Done) → (mem x ≡ false → is_value x.result ≡ true → mem e ≡ true → (x.reader && e.reader) ≡ false → is_some (e.views a) ≡ false) → (list_any (λ z. z.tid == e.tid) ms ≡ true → mem e ≡ true) → came_to a e ≡ true → WithIt mem ms x e
    one c e k q came r in_ms v = elim (cases_Bool (mem x)) [
      | inl y ↦ i.0 y
      | inr y ↦ absurd (true≢false (sym came ∙ k y v (q in_ms) r))
    ]

    ahead : came_to a x ≡ true → AllByRecursion (λ e. came_to a e ≡ true → WithIt mem ms x e) (xs ++ ys)
    ahead c = all_join (λ e. came_to a e ≡ true → WithIt mem ms x e) xs ys
        (both_all (λ e. mem x ≡ false → is_value x.result ≡ true → mem e ≡ true → (x.reader && e.reader) ≡ false → is_some (e.views a) ≡ false) (λ e. list_any (λ z. z.tid == e.tid) ms ≡ true → mem e ≡ true) (λ e. came_to a e ≡ true → WithIt mem ms x e) xs (λ e k q. one c e k q) (missing c (cases_Bool (mem x)) (cases_Bool (is_value x.result))) j.1)
        (weaker (λ e. list_any (λ z. z.tid == e.tid) ms ≡ false) (λ e. came_to a e ≡ true → WithIt mem ms x e) ys (λ e k came r in_ms. absurd (true≢false (sym in_ms ∙ k))) n)
      where
        missing : came_to a x ≡ true → (mem x ≡ true) ⊎ (mem x ≡ false) → (is_value x.result ≡ true) ⊎ (is_value x.result ≡ false) → AllByRecursion (λ e. mem x ≡ false → is_value x.result ≡ true → mem e ≡ true → (x.reader && e.reader) ≡ false → is_some (e.views a) ≡ false) xs
        missing c (inl y) v = every xs (λ e f. absurd (true≢false (sym y ∙ f)))
        missing c (inr y) (inr v) = every xs (λ e f g. absurd (true≢false (sym g ∙ v)))
        missing c (inr y) (inl v) = weaker (λ e. mem e ≡ true → (x.reader && e.reader) ≡ false → is_some (e.views a) ≡ false) (λ e. mem x ≡ false → is_value x.result ≡ true → mem e ≡ true → (x.reader && e.reader) ≡ false → is_some (e.views a) ≡ false) xs (λ e k f g. k) (m.0 y c v)

    by : (b : Bool) → came_to a x ≡ b → EachBehind (WithIt mem ms) (visitors a (xs ++ ys)) → EachBehind (WithIt mem ms) (if b then x ∷ visitors a (xs ++ ys) else visitors a (xs ++ ys))
    by true c k = (came_all a (WithIt mem ms x) (xs ++ ys) (ahead c), k)
    by false c k = k

each_behind : (R : Done → Done → Type 0) (ds front between rest : List Done) (x y : Done) → ds ≡ front ++ x ∷ (between ++ y ∷ rest) → EachBehind (λ d e. (d.reader && e.reader) ≡ false → R d e) ds → (x.reader && y.reader) ≡ false → R x y
each_behind R ds front between rest x y e h r = at front (subst (EachBehind (λ d e. (d.reader && e.reader) ≡ false → R d e)) e h)
  where
    at : (front : List Done) → EachBehind (λ d e. (d.reader && e.reader) ≡ false → R d e) (front ++ x ∷ (between ++ y ∷ rest)) → R x y
    at [] k = all_mid (λ e. (x.reader && e.reader) ≡ false → R x e) y between rest k.0 r
    at (z ∷ zs) k = at zs k.1

has_member : (t : ℕ) (ds : List Done) → list_any (λ d. d.tid == t) ds ≡ true → HasMember t ds
has_member t [] e = absurd (true≢false (sym e))
has_member t (d ∷ ds) e = elim (or_cases (d.tid == t) (list_any (λ d. d.tid == t) ds) e) [
  | inl q ↦ record { done = d; front = []; rest = ds; splits = refl; is_it = eqb-true d.tid t q }
  | inr q ↦ let m = has_member t ds q in record { done = m.done; front = d ∷ m.front; rest = m.rest; splits = ap (λ l. d ∷ l) m.splits; is_it = m.is_it }
]

-- ---- tids differ over every run

not_done : {C : Type 0} (w : Fixed C) (e : Event) (s : Machine C) (h : History) → IsAllowed w e s → committing.Assumed e s h → Chained s h → NotDone e s h
unfolding NotDone committing.Assumed conditions
not_done w (Commit k) s h ok m g = no_done (OfBatch k) (IsOver s.ring.next_tid s.book.acts h.kept) h.committed (λ q. true≢false (sym q ∙ m.1.fresh)) g.over
not_done w (Decide t) s h ok m g = no_done (OfAct t) (IsOver s.ring.next_tid s.book.acts h.kept) h.committed (λ q. true≢false (sym (subst (λ o. holds lives o ≡ true) (sym m.1.is_it) (and_parts (is_some m.0.result) (is_live_status m.0.status) (subst (λ z. holds (λ x. is_some x.result && is_live_status x.status) z ≡ true) m.1.is_it ok.0)).1) ∙ q.1)) g.over
not_done w e s h ok m g = tt

pub record Both {C : Type 0} (w : Fixed C) (Of : Tx → C → Type 0) (finish : C → List State → Alone) (s : Machine C) (h : History) : Type 0 where
  pub whole : Whole w Of finish s h
  pub owned : Owned s h

pub both : {C : Type 0} (w : Fixed C) (Of : Tx → C → Type 0) (finish : C → List State → Alone) (es : List Event) → Given w Of finish → IsRun w es → Both w Of finish (reached w es) (history w es)
both w Of finish es v run = along_good w Of finish (Both w Of finish) v
    (λ e s h ok g i. let am = for_chain w Of finish e s h v ok (owes w Of finish e s h v ok g) g.good in record {
      whole = last.kept w Of finish e s h v ok g i.whole;
      owned = tids.kept w e s h ok am (not_done w e s h ok am i.whole.ordered.chained) i.whole.ordered.named i.owned;
    })
    (record { whole = last.opened w Of finish v; owned = record { owner = tt; differ = tt } }) es run

-- ---- closed

-- With each of them all that the whole run places before it, and that committed with a value.
pub parts_closed : {C : Type 0} (w : Fixed C) (finish : C → List State → Alone) (es events later : List Event) (test : Who → Bool) → es ≡ events ++ later → HasFacts w finish → IsText w.text → IsRun w es → 1 ≤ length w.text.opening.states
    → ((a : ℕ) → NoneMissed a (λ d. test d.who && is_value d.result) (history w events).committed)
    → IsClosedSet (λ t. HasMember t (filter (λ d. test d.who && is_value d.result) (history w events).committed)) (history w es)
parts_closed {C} w finish es events later test splits f text run some missed t u mine before value =
    has_member t ms (subst (λ n. list_any (λ d. d.tid == n) ms ≡ true) p.is_first (each_behind (WithIt mem ms) (chain a h) p.front p.between p.rest p.first p.second p.splits behind p.rivals p.rivals there first_value))
  where
    Of : Tx → C → Type 0
    Of = IsRest w.code (IsTxIn w.text)

    v : Given w Of finish
    v = record { text = text; actors = some; facts = f }

    h : History
    h = history w es

    early : List Done
    early = (history w events).committed

    mem : Done → Bool
    mem d = test d.who && is_value d.result

    ms : List Done
    ms = filter (λ d. test d.who && is_value d.result) (history w events).committed

    a : ℕ
    a = before.0

    p : Precedes t u (chain a h)
    p = before.1

    end : Both w Of finish (reached w es) h
    end = both w Of finish es v run

    more : (new : List Done) × (h.committed ≡ (history w events).committed ++ new)
    more = let g = committed_grows w later (reached w events) (history w events) in (g.0, ap (λ xs. (history w xs).committed) splits ∙ (ap (λ z. z.committed) (goes_on w events later (opening w) no_history) ∙ g.1))

    along : Shuffled (chain a h) (visitors a h.committed)
    along = (end.whole.ordered.chained.chains a).chain

    differ : TidsDiffer (early ++ more.0)
    differ = subst TidsDiffer more.1 end.owned.differ

    -- in the order of commits, and so in that of placing
    behind : EachBehind (λ d e. (d.reader && e.reader) ≡ false → WithIt mem ms d e) (chain a h)
    behind = shuffled_behind (WithIt mem ms) (chain a h) (visitors a h.committed) along (subst (λ z. EachBehind (WithIt mem ms) (visitors a z)) (sym more.1) (with_early a mem ms early more.0 (all_in mem early) (are_in mem early (front_differ early more.0 differ)) (none_new mem early more.0 differ) (missed a)))

    unique : AllByRecursion (λ d. AllByRecursion (λ e. e.tid ≡ d.tid → e ≡ d) h.committed) h.committed
    unique = pairs h.committed end.owned.differ

    first_value : is_value p.first.result ≡ true
    first_value =
        let all = shuffled_all (λ d. AllByRecursion (λ e. e.tid ≡ d.tid → e ≡ d) h.committed) (chain a h) (visitors a h.committed) along (all_filter (λ d. AllByRecursion (λ e. e.tid ≡ d.tid → e ≡ d) h.committed) (came_to a) h.committed unique) in
        let own = all_mid (λ d. AllByRecursion (λ e. e.tid ≡ d.tid → e ≡ d) h.committed) p.first p.front (p.between ++ p.second ∷ p.rest) (subst (AllByRecursion (λ d. AllByRecursion (λ e. e.tid ≡ d.tid → e ≡ d) h.committed)) p.splits all) in
        let one = all_mid (λ e. e.tid ≡ p.first.tid → e ≡ p.first) value.done value.front value.rest (subst (AllByRecursion (λ e. e.tid ≡ p.first.tid → e ≡ p.first)) value.splits own) in
        ap (λ z. is_value z.result) (sym (one (value.is_it ∙ sym p.is_first))) ∙ value.value

    there : list_any (λ d. d.tid == p.second.tid) ms ≡ true
    there = subst (λ z. list_any (λ d. d.tid == p.second.tid) z ≡ true) (sym mine.splits) (any_split (λ d. d.tid == p.second.tid) mine.front mine.done mine.rest (eq-eqb mine.done.tid p.second.tid (mine.is_it ∙ sym p.is_second)))

-- With each member all that the whole run places before it, and that committed with a value.
pub members_closed : {C : Type 0} (w : Fixed C) (finish : C → List State → Alone) (es : List Event) (m : Moment w es) (left : ℕ → ℕ) → HasFacts w finish → IsText w.text → IsRun w es → IsLeft w es m left
    → 1 ≤ length w.text.opening.states → IsClosedSet (λ t. HasMember t (members w.text.logs (left_in (reached w m.events) left) (history w m.events))) (history w es)
members_closed w finish es m left f text run l some =
    let early = front_runs w m.events m.later (subst (λ xs. IsRun w xs) m.splits run) in
    parts_closed w finish es m.events m.later (is_in w.text.logs (left_in (reached w m.events) left)) m.splits f text run some
    (λ a. none_missed_at w (reached w m.events) (history w m.events) left a (moment_is_cut w es m left run l) (done_hold w (IsRest w.code (IsTxIn w.text)) finish m.events (record { text = text; actors = some; facts = f }) early))

-- ---- what holds of a crash

kept_records : {C : Type 0} (w : Fixed C) (es : List Event) → IsRun w es → RecordsAreKept (reached w es) (history w es)
kept_records w es run = AlongHistory.along w RecordsAreKept (λ e s h ok g. records.kept w e s h g) es (opening w) no_history run (records.opened w)

no_chain : (front between rest : List Done) (x y : Done) → [] ≡ front ++ x ∷ (between ++ y ∷ rest) → ⊥
no_chain [] between rest x y e = cc e
no_chain (f ∷ fs) between rest x y e = cc e

-- At every moment of every run of an accepted text, over code with the facts, whatever the logs are left with.
pub crash_stands : {C : Type 0} → AtEveryMoment (CrashStands {C = C})
crash_stands {C} w finish es m left f text run l = record {
  all_done = λ y e. in_is_kept w (reached w m.events) (history w m.events) left y (kept_records w m.events (front_runs w m.events m.later (subst (λ xs. IsRun w xs) m.splits run))) e;
  closed = closed es m run l (length w.text.opening.states) refl;
  acknowledged = acknowledged w finish es m left f text run l;
  serial = (members_recover w finish es m left f text run l).serial;
}
  where
    closed : (es : List Event) (m : Moment w es) → IsRun w es → IsLeft w es m left → (n : ℕ) → length w.text.opening.states ≡ n → IsClosedSet (λ t. HasMember t (members w.text.logs (left_in (reached w m.events) left) (history w m.events))) (history w es)
    closed es m run l (suc n) q = members_closed w finish es m left f text run l (omega (arith, q))
    closed [] m run l zero q = λ t u mine before value. let p = before.1 in absurd (no_chain p.front p.between p.rest p.first p.second p.splits)
    closed (x ∷ xs) m run l zero q = absurd (none_allowed w x text q run.0)
