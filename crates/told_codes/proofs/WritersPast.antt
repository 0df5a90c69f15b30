-- When one commits, or fails by its own code, all that changed a state on one of its actors before is over: settled or sealed.
use Rattle.std.specs.Prelude.{◌≡◌, ℕ, ◌≤◌, ◌==◌, nat_le, not, Bool, true, false, ◌&&◌, if◌then◌else◌, Option, Some, None, is_some, List, [], ◌∷◌, ◌++◌, map}
use Rattle.std.specs.List.{AllByRecursion, list_any}
use Rattle.std.proofs.Common.{arith, sym, ap, subst, inl, inr, ◌∙◌}
use Rattle.std.proofs.lemmas.Bool.{true≢false, or_cases, or_left, or_right, and_parts, cases_Bool, not-true, leb-true, le-leb}
use Rattle.snap_base.specs.declared.transactions.State.{State}
use Rattle.snap_base.specs.declared.transactions.Tx.{Tx}
use Rattle.protocol.specs.Facts.{Alone}
use Rattle.protocol.specs.Fixed.{Fixed}
use Rattle.protocol.specs.Parts.{Act, Batch, Pact, Who, OfBatch, OfAct, Status, Live, Doomed, Decided, Sealed, Machine}
use Rattle.protocol.specs.Events.{Event, Commit, Decide}
use Rattle.protocol.specs.Words.{holds, is_who, is_value, is_formed, is_settled, is_sealed, act_of, batch_of}
use Rattle.protocol.specs.Conditions.{IsAllowed}
use Rattle.protocol.specs.Effects.{after}
use Rattle.protocol.specs.Runs.{IsRun, reached}
use Rattle.protocol.specs.History.{Done, History, Ran, Stands, Gone, history, grown, view_in, done_pact, done_act, done_batch, slices_for, act_view, is_reader_act}
use Rattle.protocol_laws.specs.Commits.{is_kept}
use Rattle.protocol_laws.specs.Linked.{came_to}
use Rattle.protocol_laws.specs.Marks.{Marked, Known}
use Rattle.protocol_laws.specs.OneWay.{EachBecame, StatusWent, ActWent}
use Rattle.protocol_laws.proofs.first.Lists.{any_join, weaker}
use Rattle.protocol_laws.proofs.first.OneWay.{went_on}
use Rattle.protocol_laws.proofs.first.SettlingKept as settling
use Rattle.protocol_laws.proofs.machine.ActsKept.{settled_rises}
use Rattle.protocol_laws.proofs.machine.AllGood.{AllGood, all_good, along_good}
use Rattle.protocol_laws.proofs.machine.AllGood as all
use Rattle.protocol_laws.proofs.machine.CommitsKept as chain
use Rattle.protocol_laws.proofs.machine.CommitsKept.{Committed}
use Rattle.protocol_laws.proofs.machine.Good as whole
use Rattle.protocol_laws.proofs.machine.Good.{Given}
use Rattle.protocol_laws.proofs.machine.TrackLists
use Rattle.protocol_laws.proofs.machine.TurnsKept.{one_is}
use Rattle.protocol_records.specs.AsTold.{is_over}
use Rattle.protocol_records.specs.Logged.{is_on, GoneSure, IsThere, AllThere}
use Rattle.protocol_records.proofs.crash.DonesSure.{view_on, has_view, there_kept, own_batch, own_act}
use Rattle.protocol_records.proofs.crash.DurableKept.{AllGone, gone_before, gone_weaker, is_sealed_act}
use Rattle.protocol_records.proofs.crash.KeptSure.{SureOf, AtDecide, at_decide, commit_sure, decide_sure, there_is}
use Rattle.protocol_records.proofs.crash.ReadersSure.{reader_sure}

-- ---- past: a batch that is at most the last settled one, and a sealed ACT

abbrev pub is_past : {C : Type 0} → Machine C → Who → Bool
is_past s (OfBatch k) = nat_le k s.desk.settled
is_past s (OfAct t) = holds (λ x. is_sealed x.status) (act_of t s.book.acts)

sealed_went : (t : ℕ) (xs ys : List Act) → EachBecame ActWent xs ys → holds (λ x. is_sealed x.status) (act_of t xs) ≡ true → holds (λ x. is_sealed x.status) (act_of t ys) ≡ true
sealed_went t [] ys r h = absurd (true≢false (sym h))
sealed_went t (x ∷ xs) [] r h = absurd r
sealed_went t (x ∷ xs) (y ∷ ys) r h = subst (λ z. holds (λ x. is_sealed x.status) (if z == t then Some y else act_of t ys) ≡ true) (sym r.0.tid) (by (x.tid == t) h (sealed_went t xs ys r.1))
  where
    stays : (a b : Status) → StatusWent a b → is_sealed a ≡ true → is_sealed b ≡ true
    stays Live b g q = absurd (true≢false (sym q))
    stays (Doomed v) b g q = absurd (true≢false (sym q))
    stays (Decided c) b g q = absurd (true≢false (sym q))
    stays (Sealed c) b g q = ap is_sealed g

    by : (v : Bool) → holds (λ x. is_sealed x.status) (if v then Some x else act_of t xs) ≡ true → (holds (λ x. is_sealed x.status) (act_of t xs) ≡ true → holds (λ x. is_sealed x.status) (act_of t ys) ≡ true) → holds (λ x. is_sealed x.status) (if v then Some y else act_of t ys) ≡ true
    by true h k = stays x.status y.status r.0.status h
    by false h k = k h

pub past_stays : {C : Type 0} (w : Fixed C) (e : Event) (s : Machine C) (y : Who) → IsAllowed w e s → settling.Settling w s → is_past s y ≡ true → is_past (after w e s) y ≡ true
past_stays w e s (OfBatch k) ok g h = le-leb k (after w e s).desk.settled (omega (arith, leb-true k s.desk.settled h, settled_rises w e s ok g))
past_stays w e s (OfAct t) ok g h = sealed_went t s.book.acts (after w e s).book.acts (went_on w e s ok).acts h

pub settled_past : {C : Type 0} (w : Fixed C) (s : Machine C) (k : ℕ) → settling.Settling w s → holds (λ b. is_settled b.stage) (batch_of k s.desk.batches) ≡ true → is_past s (OfBatch k) ≡ true
unfolding settling.Settling
settled_past w s k g h =
    let f = settling.found k (λ b. is_settled b.stage) s.desk.batches h in
    le-leb k s.desk.settled (omega (arith, f.bid, g.most (settling.key_of f.batch) f.is_in f.holds))

sealed_past : (o : Option Act) → holds is_sealed_act o ≡ true → holds (λ x. is_sealed x.status) o ≡ true
sealed_past None h = h
sealed_past (Some x) h = (and_parts (is_sealed x.status) (is_value x.result) h).0

pub gone_past : (past : Who → Bool) (rs : List Ran) → AllGone (λ y. past y ≡ true) rs → GoneSure past rs
gone_past past [] h = tt
gone_past past (Stands y c ss ∷ rs) h = gone_past past rs h
gone_past past (Gone y ss ∷ rs) h = (h.0, gone_past past rs h.1)

-- ---- in the order of commits

-- it came to the actor, committed with a value, and does not only read
abbrev pub wrote_at : ℕ → Done → Bool
wrote_at a d = came_to a d && (is_value d.result && not d.reader)

-- another one came to the actor
abbrev pub came_too : ℕ → Done → Done → Bool
came_too a d e = came_to a e && not (is_who d.who e.who)

-- who wrote there, and another one came behind it, is past
abbrev pub WritersPast : (Who → Bool) → ℕ → List Done → Type 0
WritersPast past a [] = Unit {0}
WritersPast past a (d ∷ ds) = (wrote_at a d ≡ true → list_any (came_too a d) ds ≡ true → past d.who ≡ true) × WritersPast past a ds

pub past_weaker : (f g : Who → Bool) (a : ℕ) (ds : List Done) → ((y : Who) → f y ≡ true → g y ≡ true) → WritersPast f a ds → WritersPast g a ds
past_weaker f g a [] k h = tt
past_weaker f g a (d ∷ ds) k h = ((λ e q. k d.who (h.0 e q)), past_weaker f g a ds k h.1)

none_other : (a : ℕ) (d : Done) (es : List Done) → AllByRecursion (λ e. e.who ≡ d.who) es → list_any (came_too a d) es ≡ true → ⊥
none_other a d [] h e = true≢false (sym e)
none_other a d (x ∷ xs) h e = elim (or_cases (came_too a d x) (list_any (came_too a d) xs) e) [
  | inl q ↦ true≢false (sym (TrackLists.is_who_refl d.who) ∙ (ap (λ z. is_who d.who z) (sym h.0) ∙ not-true (is_who d.who x.who) (and_parts (came_to a x) (not (is_who d.who x.who)) q).1))
  | inr q ↦ none_other a d xs h.1 q
]

any_came : (a : ℕ) (d : Done) (es : List Done) → list_any (came_too a d) es ≡ true → list_any (came_to a) es ≡ true
any_came a d [] h = h
any_came a d (x ∷ xs) h = elim (or_cases (came_too a d x) (list_any (came_too a d) xs) h) [
  | inl q ↦ or_left (came_to a x) _ (and_parts (came_to a x) _ q).0
  | inr q ↦ or_right (came_to a x) _ (any_came a d xs q)
]

own_past : (past : Who → Bool) (a : ℕ) (y : Who) (es : List Done) → AllByRecursion (λ e. e.who ≡ y) es → WritersPast past a es
own_past past a y [] h = tt
own_past past a y (d ∷ ds) h = ((λ e q. absurd (none_other a d ds (weaker (λ e. e.who ≡ y) (λ e. e.who ≡ d.who) ds (λ e i. i ∙ sym h.0) h.1) q)), own_past past a y ds h.1)

more_past : (past : Who → Bool) (a : ℕ) (y : Who) (ds es : List Done) → AllByRecursion (λ e. e.who ≡ y) es → AllByRecursion (λ d. wrote_at a d ≡ true → list_any (came_to a) es ≡ true → past d.who ≡ true) ds → WritersPast past a ds → WritersPast past a (ds ++ es)
more_past past a y [] es i k h = own_past past a y es i
more_past past a y (d ∷ ds) es i k h = (
  (λ e q. elim (any_join (came_too a d) ds es q) [ inl v ↦ h.0 e v | inr v ↦ k.0 e (any_came a d es v) ]),
  more_past past a y ds es i k.1 h.1,
)

-- ---- the new ones came there only where their batch or ACT stands

pacts_on : (k a : ℕ) (h : History) (ps : List Pact) → list_any (came_to a) (map (done_pact k h) ps) ≡ true → is_on (OfBatch k) (h.long a) ≡ true
pacts_on k a h [] q = absurd (true≢false (sym q))
pacts_on k a h (p ∷ ps) q = elim (or_cases (came_to a (done_pact k h p)) _ q) [ inl v ↦ view_on p.tid (OfBatch k) (h.long a) v | inr v ↦ pacts_on k a h ps v ]

batch_on : (k a : ℕ) (h : History) (o : Option Batch) → list_any (came_to a) (done_batch k h o) ≡ true → is_on (OfBatch k) (h.long a) ≡ true
batch_on k a h None q = absurd (true≢false (sym q))
batch_on k a h (Some b) q = pacts_on k a h b.pacts q

act_came : (c a : ℕ) (h : History) (o : Option Act) (x : Act) → o ≡ Some x → list_any (came_to a) (done_act c h o) ≡ true → is_some (act_view h x a) ≡ true
act_came c a h o x e q = elim (or_cases (is_some (act_view h x a)) false (subst (λ z. list_any (came_to a) (done_act c h z) ≡ true) e q)) [
  | inl v ↦ v
  | inr v ↦ absurd (true≢false (sym v))
]

act_on : (t a : ℕ) (h : History) (x : Act) → x.tid ≡ t → x.reader ≡ false → is_some (act_view h x a) ≡ true → is_on (OfAct t) (h.long a) ≡ true
act_on t a h x f r v = subst (λ u. is_on (OfAct u) (h.long a) ≡ true) f (view_on x.tid (OfAct x.tid) (h.long a) (subst (λ z. is_some (view_in x.tid (slices_for z x.tid (h.reads a) (h.long a))) ≡ true) r v))

-- ---- all events

-- who wrote there stands there, or has left for good
one_past : (h : History) (a : ℕ) (past : Who → Bool) (d : Done) → IsThere h.kept h.long d → wrote_at a d ≡ true → ((z : Who) → is_kept z h.kept ≡ true → is_on z (h.long a) ≡ true → past z ≡ true) → past d.who ≡ true
one_past h a past d i q k =
    let p = and_parts (came_to a d) (is_value d.result && not d.reader) q in
    let v = and_parts (is_value d.result) (not d.reader) p.1 in
    let r = not-true d.reader v.1 in
    k d.who (i.known v.0 r) (i.there a p.0 v.0 r)

grows : {C : Type 0} (w : Fixed C) (Of : Tx → C → Type 0) (finish : C → List State → Alone) (e : Event) (s : Machine C) (h : History) (past past' : Who → Bool) → Given w Of finish → IsAllowed w e s → AllGood w Of finish s h → SureOf past s h → AllThere h
    → ((y : Who) → past y ≡ true → past' y ≡ true) → ((a : ℕ) → WritersPast past a h.committed) → (a : ℕ) → WritersPast past' a (grown w e s h).committed
unfolding AllThere grown chain.Assumed
grows w Of finish (Commit k) s h past past' v ok g su th up q = λ a. past_weaker past past' a (h.committed ++ done_batch k h (batch_of k s.desk.batches)) up
    (more_past past a (OfBatch k) h.committed (done_batch k h (batch_of k s.desk.batches)) (own_batch k h (batch_of k s.desk.batches))
    (weaker (IsThere h.kept h.long) (λ d. wrote_at a d ≡ true → list_any (came_to a) (done_batch k h (batch_of k s.desk.batches)) ≡ true → past d.who ≡ true) h.committed
    (λ d i o c. one_past h a past d i o (λ z kz oz. commit_sure w Of finish k a s h past ok g su (batch_on k a h (batch_of k s.desk.batches) c) z kz oz)) th) (q a))
grows w Of finish (Decide t) s h past past' v ok g su th up q = λ a. let x = at_decide w Of finish t s h ok g in past_weaker past past' a (h.committed ++ done_act s.book.next_c h (act_of t s.book.acts)) up
    (more_past past a (OfAct t) h.committed (done_act s.book.next_c h (act_of t s.book.acts)) (own_act s.book.next_c t h (act_of t s.book.acts) x.act x.found x.tid)
    (weaker (IsThere h.kept h.long) (λ d. wrote_at a d ≡ true → list_any (came_to a) (done_act s.book.next_c h (act_of t s.book.acts)) ≡ true → past d.who ≡ true) h.committed
    (λ d i o c. one_past h a past d i o (at a x (act_came s.book.next_c a h (act_of t s.book.acts) x.act x.found c))) th) (q a))
  where
    m : (x : Act) × chain.MayDecide s h t x
    m = whole.for_chain w Of finish (Decide t) s h v ok (all.owes w Of finish (Decide t) s h v ok g) g.good

    at : (a : ℕ) (x : AtDecide s h t) → is_some (act_view h x.act a) ≡ true → (z : Who) → is_kept z h.kept ≡ true → is_on z (h.long a) ≡ true → past z ≡ true
    at a x view z kz oz = elim (cases_Bool x.act.reader) [
      | inr r ↦ decide_sure w Of finish t a s h past ok g su (ap is_reader_act x.found ∙ r) (act_on t a h x.act x.tid r view) z kz oz
      | inl r ↦
          let same : x.act ≡ m.0 = cc (sym x.found ∙ m.1.is_it) in
          reader_sure w Of finish t a s h past ok g su (ap is_reader_act x.found ∙ r) (has_view t a h x.act x.tid r view) (m.1.there a (subst (λ y. is_some (act_view h y a) ≡ true) same view)) z kz oz
    ]
grows w Of finish e s h past past' v ok g su th up q = λ a. past_weaker past past' a h.committed up (q a)

-- ---- along a run

pub record Carried {C : Type 0} (s : Machine C) (h : History) : Type 0 where
  pub there : AllThere h
  pub gone : (a : ℕ) → AllGone (λ y. is_past s y ≡ true) (h.long a)
  pub past : (a : ℕ) → WritersPast (is_past s) a h.committed

kept : {C : Type 0} (w : Fixed C) (Of : Tx → C → Type 0) (finish : C → List State → Alone) (e : Event) (s : Machine C) (h : History) → Given w Of finish → IsAllowed w e s → AllGood w Of finish s h → Carried s h → Carried (after w e s) (grown w e s h)
kept w Of finish e s h v ok g i =
    let up : (y : Who) → is_past s y ≡ true → is_past (after w e s) y ≡ true = λ y q. past_stays w e s y ok g.good.settling q in
    let su : SureOf (is_past s) s h = record { settled = λ k q. settled_past w s k g.good.settling q; sealed = λ t q. sealed_past (act_of t s.book.acts) q; gone = λ a. gone_past (is_past s) (h.long a) (i.gone a) } in
    record {
      there = there_kept w Of finish e s h v ok g i.there;
      gone = λ a. gone_weaker (λ y. is_past s y ≡ true) (λ y. is_past (after w e s) y ≡ true) ((grown w e s h).long a) up (gone_before w (λ y. is_past s y ≡ true) e s h ok g.acts su.settled su.sealed i.gone a);
      past = grows w Of finish e s h (is_past s) (is_past (after w e s)) v ok g su i.there up i.past;
    }

pub carried : {C : Type 0} (w : Fixed C) (Of : Tx → C → Type 0) (finish : C → List State → Alone) (es : List Event) → Given w Of finish → IsRun w es → Carried (reached w es) (history w es)
unfolding AllThere
carried w Of finish es v run = along_good w Of finish Carried v (λ e s h ok g i. kept w Of finish e s h v ok g i) (record { there = tt; gone = λ a. tt; past = λ a. tt }) es run

-- ---- who wrote and is past is over

is_settled_kept : {C : Type 0} (w : Fixed C) (Of : Tx → C → Type 0) (finish : C → List State → Alone) (s : Machine C) (h : History) (k : ℕ) → AllGood w Of finish s h → is_kept (OfBatch k) h.kept ≡ true → k ≤ s.desk.settled → is_over s (OfBatch k) ≡ true
unfolding Marked Known
is_settled_kept w Of finish s h k g q l =
    let c = one_is (λ x. true) (batch_of k s.desk.batches) (there_is (batch_of k s.desk.batches) (g.good.known k q)) in
    elim (or_cases c.0.aborted (is_settled c.0.stage) (settling.over_settled w s k c.0 c.1 g.good.settling l)) [
      | inl a ↦ absurd (true≢false (sym (settling.aborted_formed w s k c.0 c.1 g.good.settling (sym (settling.mark_is w s k c.0 c.1 g.good.settling) ∙ a)) ∙ not-true (is_formed c.0.stage) (sym (g.good.marked k c.0 c.1).known ∙ q)))
      | inr a ↦ subst (λ o. holds (λ b. is_settled b.stage) o ≡ true) (sym c.1) a
    ]

pub over : {C : Type 0} (w : Fixed C) (Of : Tx → C → Type 0) (finish : C → List State → Alone) (s : Machine C) (h : History) (y : Who) → AllGood w Of finish s h → is_kept y h.kept ≡ true → is_past s y ≡ true → is_over s y ≡ true
over w Of finish s h (OfBatch k) g q p = is_settled_kept w Of finish s h k g q (leb-true k s.desk.settled p)
over w Of finish s h (OfAct t) g q p = p

-- who has a value and does not only read is among those that changed a state
abbrev pub AreKept : List Who → List Done → Type 0
AreKept kept ds = AllByRecursion (λ d. is_value d.result ≡ true → d.reader ≡ false → is_kept d.who kept ≡ true) ds

pub all_over : {C : Type 0} (w : Fixed C) (Of : Tx → C → Type 0) (finish : C → List State → Alone) (s : Machine C) (h : History) (a : ℕ) (ds : List Done) → AllGood w Of finish s h → AreKept h.kept ds → WritersPast (is_past s) a ds → WritersPast (is_over s) a ds
all_over w Of finish s h a [] g th p = tt
all_over w Of finish s h a (d ∷ ds) g th p = (
  (λ e q. let v = and_parts (is_value d.result) (not d.reader) (and_parts (came_to a d) (is_value d.result && not d.reader) e).1 in over w Of finish s h d.who g (th.0 v.0 (not-true d.reader v.1)) (p.0 e q)),
  all_over w Of finish s h a ds g th.1 p.1,
)

-- Who wrote on an actor, and another one that committed or failed came behind it, is settled or sealed.
pub writers_over : {C : Type 0} (w : Fixed C) (Of : Tx → C → Type 0) (finish : C → List State → Alone) (es : List Event) → Given w Of finish → IsRun w es → (a : ℕ) → WritersPast (is_over (reached w es)) a (history w es).committed
unfolding AllThere
writers_over w Of finish es v run a =
    let c = carried w Of finish es v run in
    all_over w Of finish (reached w es) (history w es) a (history w es).committed (all_good w Of finish es v run) (weaker (IsThere (history w es).kept (history w es).long) (λ d. is_value d.result ≡ true → d.reader ≡ false → is_kept d.who (history w es).kept ≡ true) (history w es).committed (λ d i. i.known) c.there) (c.past a)
