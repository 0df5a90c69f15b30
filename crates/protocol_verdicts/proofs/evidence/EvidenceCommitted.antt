-- What committed is of settled batches, and of ACTs that have a place.
use Rattle.std.specs.Prelude.{◌≡◌, refl, ℕ, ◌==◌, not, Bool, true, false, ◌&&◌, ◌||◌, ◌⊎◌, if◌then◌else◌, Option, Some, None, is_some, List, [], ◌∷◌, ◌++◌, map}
use Rattle.std.specs.List.{AllByRecursion, list_any}
use Rattle.std.proofs.Common.{sym, ap, subst, inl, inr, ◌∙◌}
use Rattle.std.proofs.lemmas.Bool.{true≢false, eqb-true, eq-eqb, and_from, or_left, or_right, false_from_ne_true}
use Rattle.snap_base.specs.declared.transactions.State.{State}
use Rattle.snap_base.specs.declared.transactions.Tx.{Tx}
use Rattle.snap_base.specs.declared.transactions.TxResult.{TxResult}
use Rattle.protocol.specs.Fixed.{Fixed}
use Rattle.protocol.specs.Facts.{Alone}
use Rattle.protocol.specs.Parts.{Act, Pact, Batch, OfBatch, OfAct, Stage, Formed, Committing, Settled, Status, Live, Doomed, Decided, Sealed, Machine}
use Rattle.protocol.specs.Events.{Event, Commit, Decide}
use Rattle.protocol.specs.Words.{holds, is_formed, act_of, batch_of}
use Rattle.protocol.specs.Verdicts.{act_place}
use Rattle.protocol.specs.Effects.{after}
use Rattle.protocol.specs.Runs.{IsRun, reached}
use Rattle.protocol.specs.History.{History, Done, history, grown, done_pact, done_batch, done_act}
use Rattle.protocol_laws.specs.Told.{has_number, DoneFrom}
use Rattle.protocol_laws.specs.Marks.{Marked}
use Rattle.protocol_laws.specs.Commits.{is_kept}
use Rattle.protocol_verdicts.specs.EvidenceSerial.{IsCommittedPact, IsCommittedAct}
use Rattle.protocol.specs.OnDesk as desk
use Rattle.protocol_laws.proofs.first.Lists.{all_join, both_all, weaker}
use Rattle.protocol_laws.proofs.first.SettlingKept as settling
use Rattle.protocol_laws.proofs.machine.FromDeskKept.{Fixedly, desk_stays}
use Rattle.protocol_laws.proofs.machine.Good.{Given}
use Rattle.protocol_laws.proofs.machine.AllGood.{AllGood, all_good, along_good}
use Rattle.protocol_laws.proofs.machine.ActsTold.{AllFrom, from_kept}

-- ---- the sides of places

abbrev pub names : ℕ → ℕ → Batch → Bool
names t n b = list_any (λ p. (p.tid == t) && (p.tx == n)) b.pacts

-- it is a PACT of its batch, or an ACT
abbrev pub Named : List Batch → Done → Type 0
Named bs d = ((d.place.side ≡ 0) × (holds (names d.place.order d.tx) (batch_of d.place.batch.0 bs) ≡ true)) ⊎ ((d.place.side ≡ 1) × ((t : ℕ) × (d.who ≡ OfAct t)))

unfoldable pub AllNamed : {C : Type 0} → Machine C → History → Type 0
AllNamed s h = AllByRecursion (Named s.desk.batches) h.committed

noted_names : (t n u : ℕ) (r : TxResult) (ps : List Pact) → list_any (λ p. (p.tid == t) && (p.tx == n)) (map (desk.with_result u r) ps) ≡ list_any (λ p. (p.tid == t) && (p.tx == n)) ps
noted_names t n u r [] = refl
noted_names t n u r (p ∷ ps) = ap (λ b. ((p.tid == t) && (p.tx == n)) || b) (noted_names t n u r ps)

names_fixed : (t n : ℕ) → Fixedly (names t n)
names_fixed t n = record { places = λ b a f i h. h; pacts = λ b u r h. by u r b b.aborted h; stage = λ b st h. h; aborted = λ b v h. h }
  where
    by : (u : ℕ) (r : TxResult) (b : Batch) (q : Bool) → names t n b ≡ true → list_any (λ p. (p.tid == t) && (p.tx == n)) (if q then b.pacts else map (desk.with_result u r) b.pacts) ≡ true
    by u r b true h = h
    by u r b false h = noted_names t n u r b.pacts ∙ h

named_stays : {C : Type 0} (w : Fixed C) (e : Event) (s : Machine C) (d : Done) → Named s.desk.batches d → Named (after w e s).desk.batches d
named_stays w e s d (inl x) = inl (x.0, desk_stays w e s (names d.place.order d.tx) (names_fixed d.place.order d.tx) d.place.batch.0 x.1)
named_stays w e s d (inr x) = inr x

pacts_named : (k : ℕ) (h : History) (bs : List Batch) (b : Batch) (ps : List Pact) → ((p : Pact) → list_any (λ q. (q.tid == p.tid) && (q.tx == p.tx)) ps ≡ true → holds (names p.tid p.tx) (batch_of k bs) ≡ true) → AllByRecursion (Named bs) (map (done_pact k h) ps)
pacts_named k h bs b [] f = tt
pacts_named k h bs b (p ∷ ps) f = (
  inl (refl, f p (or_left ((p.tid == p.tid) && (p.tx == p.tx)) _ (and_from (p.tid == p.tid) (p.tx == p.tx) (eq-eqb p.tid p.tid refl) (eq-eqb p.tx p.tx refl)))),
  pacts_named k h bs b ps (λ q e. f q (or_right ((p.tid == q.tid) && (p.tx == q.tx)) _ e)),
)

batch_named : (k : ℕ) (h : History) (bs : List Batch) (o : Option Batch) → batch_of k bs ≡ o → AllByRecursion (Named bs) (done_batch k h o)
batch_named k h bs None e = tt
batch_named k h bs (Some b) e = pacts_named k h bs b b.pacts (λ p q. subst (λ z. holds (names p.tid p.tx) z ≡ true) (sym e) q)

act_named : (c : ℕ) (h : History) (bs : List Batch) (o : Option Act) → AllByRecursion (Named bs) (done_act c h o)
act_named c h bs None = tt
act_named c h bs (Some x) = (inr (refl, (x.tid, refl)), tt)

named_kept : {C : Type 0} (w : Fixed C) (e : Event) (s : Machine C) (h : History) → AllNamed s h → AllNamed (after w e s) (grown w e s h)
unfolding AllNamed grown
named_kept w (Commit k) s h g = weaker (Named s.desk.batches) (Named (after w (Commit k) s).desk.batches) (h.committed ++ done_batch k h (batch_of k s.desk.batches)) (λ d. named_stays w (Commit k) s d) (all_join (Named s.desk.batches) h.committed (done_batch k h (batch_of k s.desk.batches)) g (batch_named k h s.desk.batches (batch_of k s.desk.batches) refl))
named_kept w (Decide t) s h g = weaker (Named s.desk.batches) (Named (after w (Decide t) s).desk.batches) (h.committed ++ done_act s.book.next_c h (act_of t s.book.acts)) (λ d. named_stays w (Decide t) s d) (all_join (Named s.desk.batches) h.committed (done_act s.book.next_c h (act_of t s.book.acts)) g (act_named s.book.next_c h s.desk.batches (act_of t s.book.acts)))
named_kept w e s h g = weaker (Named s.desk.batches) (Named (after w e s).desk.batches) h.committed (λ d. named_stays w e s d) g

record Both {C : Type 0} (s : Machine C) (h : History) : Type 0 where
  pub named : AllNamed s h
  pub from : AllFrom s h

both : {C : Type 0} (w : Fixed C) (Of : Tx → C → Type 0) (finish : C → List State → Alone) (es : List Event) → Given w Of finish → IsRun w es → Both (reached w es) (history w es)
unfolding AllNamed AllFrom
both w Of finish es v run = along_good w Of finish Both v (λ e s h ok g i. record { named = named_kept w e s h i.named; from = from_kept w e s h ok g.none g.acts i.from }) (record { named = tt; from = tt }) es run

-- ---- what committed is

at_status : (c : ℕ) (st : Status) → has_number c st ≡ true → (st ≡ Decided c) ⊎ (st ≡ Sealed c)
at_status c Live e = absurd (true≢false (sym e))
at_status c (Doomed v) e = absurd (true≢false (sym e))
at_status c (Decided d) e = inl (ap Decided (eqb-true d c e))
at_status c (Sealed d) e = inr (ap Sealed (eqb-true d c e))

past_formed : (st : Stage) → true ≡ not (is_formed st) → is_formed st ≡ false
past_formed Formed e = absurd (true≢false e)
past_formed Committing e = refl
past_formed Settled e = refl

one_is : {C : Type 0} (w : Fixed C) (Of : Tx → C → Type 0) (finish : C → List State → Alone) (s : Machine C) (h : History) (d : Done) → AllGood w Of finish s h → (d.place.side ≡ 0 → is_kept (OfBatch d.place.batch.0) h.kept ≡ true) → Named s.desk.batches d → ((t : ℕ) → d.who ≡ OfAct t → DoneFrom s.book.acts t d)
    → IsCommittedPact s d ⊎ IsCommittedAct s d
unfolding Marked settling.Settling
one_is w Of finish s h d g kept (inl x) from = inl (at (batch_of d.place.batch.0 s.desk.batches) refl x.1)
  where
    at : (o : Option Batch) → batch_of d.place.batch.0 s.desk.batches ≡ o → holds (names d.place.order d.tx) o ≡ true → IsCommittedPact s d
    at None e f = absurd (true≢false (sym f))
    at (Some b) e f =
        let n = past_formed b.stage (sym (kept x.0) ∙ (g.good.marked d.place.batch.0 b e).known) in
        let y = settling.in_keys b (λ z. z.bid == d.place.batch.0) s.desk.batches e in
        record { batch = b; side = x.0; found = e; past = n; sound = false_from_ne_true b.aborted (λ a. true≢false (sym (g.good.settling.formed (settling.key_of b) y.0 a) ∙ n)); names = f }
one_is w Of finish s h d g kept (inr x) from = inr (at (act_of x.1.0 s.book.acts) refl (from x.1.0 x.1.1).there)
  where
    at : (o : Option Act) → act_of x.1.0 s.book.acts ≡ o → is_some o ≡ true → IsCommittedAct s d
    at None e f = absurd (true≢false (sym f))
    at (Some y) e f =
        let i = (from x.1.0 x.1.1).is_it x.1.0 y e refl in
        let c : i.c ≡ d.place.order = ap (λ z. z.order) (sym i.place) in
        record { tid = x.1.0; act = y; side = x.0; found = e; decided = at_status d.place.order y.status (subst (λ z. has_number z y.status ≡ true) c i.at); tx = i.tx; place = i.place ∙ ap (act_place y.m) c; result = i.result }

pub committed_is : {C : Type 0} (w : Fixed C) (Of : Tx → C → Type 0) (finish : C → List State → Alone) (es : List Event) → Given w Of finish → IsRun w es → AllByRecursion (λ d. d.place.side ≡ 0 → is_kept (OfBatch d.place.batch.0) (history w es).kept ≡ true) (history w es).committed
    → AllByRecursion (λ d. IsCommittedPact (reached w es) d ⊎ IsCommittedAct (reached w es) d) (history w es).committed
unfolding AllNamed AllFrom
committed_is w Of finish es v run kept =
    let b = both w Of finish es v run in
    let g = all_good w Of finish es v run in
    both_all (λ d. (d.place.side ≡ 0 → is_kept (OfBatch d.place.batch.0) (history w es).kept ≡ true) × Named (reached w es).desk.batches d) (λ d. (t : ℕ) → d.who ≡ OfAct t → DoneFrom (reached w es).book.acts t d) (λ d. IsCommittedPact (reached w es) d ⊎ IsCommittedAct (reached w es) d) (history w es).committed (λ d x y. one_is w Of finish (reached w es) (history w es) d g x.0 x.1 y)
    (both_all (λ d. d.place.side ≡ 0 → is_kept (OfBatch d.place.batch.0) (history w es).kept ≡ true) (Named (reached w es).desk.batches) (λ d. (d.place.side ≡ 0 → is_kept (OfBatch d.place.batch.0) (history w es).kept ≡ true) × Named (reached w es).desk.batches d) (history w es).committed (λ d x y. (x, y)) kept b.named) b.from
