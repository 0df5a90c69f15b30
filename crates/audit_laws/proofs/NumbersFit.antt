-- Numbers of verdicts fit their types: each was drawn in the run, or is one of the opening's.
use Rattle.std.specs.Prelude.{◌≡◌, refl, ℕ, zero, suc, ◌<◌, ◌≤◌, ◌==◌, ◌^◌, ℤ, Bool, true, false, ◌&&◌, ◌||◌, ◌⊎◌, Some, List, [], ◌∷◌, ◌++◌, length, map}
use Rattle.std.specs.List.{AllByRecursion, list_any}
use Rattle.std.proofs.Common.{arith, sym, ap, subst, inl, inr, ◌∙◌}
use Rattle.std.proofs.lemmas.Bool.{true≢false, eqb-true}
use Rattle.std.proofs.lemmas.List.{append_assoc}
use Rattle.snap_base.specs.declared.transactions.State.{State}
use Rattle.snap_base.specs.declared.transactions.TxResult.{TxResult}
use Rattle.snap_base.specs.declared.transactions.TxResult.TheVariants.{Value, Fail}
use Rattle.snap_base.specs.declared.verdicts.Place.{Place}
use Rattle.snap_base.specs.declared.verdicts.Verdict.TheVariants as verdicts
use Rattle.snap_base.proofs.Lists.{all_found, all_mid}
use Rattle.snap_base.proofs.Options.{none_is_some}
use Rattle.protocol.specs.Conditions.{IsAllowed}
use Rattle.protocol.specs.Events.{Event, Abort}
use Rattle.protocol.specs.Facts.{Alone}
use Rattle.protocol.specs.Fixed.{Fixed, IsText}
use Rattle.protocol.specs.History.{Done, history}
use Rattle.protocol.specs.Numbers.{TransactionsInOnePlace}
use Rattle.protocol.specs.Parts.{Machine, Pact}
use Rattle.protocol.specs.Rests.{HasFacts, IsRest, IsTxIn}
use Rattle.protocol.specs.Runs.{EachAllowed, IsRun, opening, reached}
use Rattle.protocol.specs.Verdicts.{verdict}
use Rattle.protocol.specs.Words.{act_of, is_among}
use Rattle.protocol_laws.specs.Ranges.{ActInRange, BatchInRange, IsDrawnTid, NumbersInRange}
use Rattle.protocol_laws.specs.Rising.{OpenAbove}
use Rattle.protocol_laws.specs.Told.{IsAmongDone}
use Rattle.protocol_laws.proofs.machine.AllGood.{none_allowed}
use Rattle.protocol_laws.proofs.machine.Good.{Given}
use Rattle.protocol_laws.proofs.machine.Higher.{higher}
use Rattle.protocol_laws.proofs.machine.PlacesRise.{IsSided, PlacesStand}
use Rattle.protocol_theorems.specs.Bounds.{PlacesAreFew}
use Rattle.protocol_theorems.specs.Order.{OrderHolds}
use Rattle.protocol_theorems.specs.Sizes.{SizesHold}
use Rattle.protocol_verdicts.specs.Evidence.{Crosses, Dies, VerdictsStand}
use Rattle.protocol_verdicts.specs.EvidenceSerial.{FailedAt, IsCommittedAct, IsCommittedPact, VerdictsTell}
use Rattle.audit_words.specs.Papers.{IsPlaceInRange}
use Rattle.audit_laws.specs.Fits.{VerdictsAreInRange}
use Rattle.audit_laws.proofs.EvidenceOfBatches.{first_run}
use Rattle.audit_laws.proofs.EvidenceSeen.{mid_among}
use Rattle.audit_laws.proofs.NamesSeen.{Frames}
use Rattle.audit_laws.proofs.Premises.{batch_in_text}
use Rattle.audit_laws.proofs.RepliesOnce.{state_join}
use Rattle.audit_laws.proofs.SimulatedComing.{arrives_in, asks_in}

-- what the laws of the machine say of each run
pub record RangeLaws {C : Type 0} (w : Fixed C) (finish : C → List State → Alone) : Type 0 where
  pub frames : Frames C
  pub text : IsText w.text
  pub range : (es : List Event) → IsRun w es → NumbersInRange w (reached w es)
  pub sizes : (es : List Event) → IsRun w es → SizesHold w (reached w es)
  pub few : (es : List Event) → IsRun w es → PlacesAreFew w finish (reached w es) (history w es)
  pub once : (es : List Event) → IsRun w es → TransactionsInOnePlace w (reached w es)

-- ---- how far numbers go

module _ {C : Type 0} (w : Fixed C) (s : Machine C) (t : IsText w.text) (z : SizesHold w s) where
  tid_fits : (n : ℕ) → n < s.ring.next_tid → n < 2 ^ 64
  tid_fits n l = omega (arith, l, z.next_tid, z.next_tx, t.few_txs, t.tids_fit)

  bid_fits : (n : ℕ) → n < s.ring.next_bid → n < 2 ^ 64
  bid_fits n l = omega (arith, l, z.next_bid, z.next_tx, t.few_txs, t.bids_fit)

  c_fits : (n : ℕ) → n ≤ s.book.next_c → n < 2 ^ 64
  c_fits n l = omega (arith, l, z.next_c, z.next_tx, t.few_txs, t.cs_fit)

-- ---- places

-- one of them has this tid
named_below : (n t m : ℕ) (ps : List Pact) → list_any (λ p. (p.tid == t) && (p.tx == n)) ps ≡ true → AllByRecursion (λ p. p.tid < m) ps → t < m
named_below n t m [] e h = absurd (true≢false (sym e))
named_below n t m (p ∷ ps) e h = by (p.tid == t) refl (p.tx == n) e (λ q. named_below n t m ps q h.1)
  where
    by : (a : Bool) → (p.tid == t) ≡ a → (b : Bool) → ((a && b) || list_any (λ p. (p.tid == t) && (p.tx == n)) ps) ≡ true → (list_any (λ p. (p.tid == t) && (p.tx == n)) ps ≡ true → t < m) → t < m
    by true q true e r = subst (λ (z : ℕ). z < m) (eqb-true p.tid t q) h.0
    by true q false e r = r e
    by false q b e r = r e

all_below : {C : Type 0} (w : Fixed C) (s : Machine C) (ps : List Pact) → AllByRecursion (λ p. IsDrawnTid w s p.tid) ps → AllByRecursion (λ p. p.tid < s.ring.next_tid) ps
all_below w s [] h = tt
all_below w s (p ∷ ps) h = ((h.0).below, all_below w s ps h.1)

place_fits : {C : Type 0} (w : Fixed C) (s : Machine C) (d : Done) → IsText w.text → SizesHold w s → NumbersInRange w s → d.place.batch.0 < s.ring.next_bid → IsSided s.book.next_c d.place → IsCommittedPact s d ⊎ IsCommittedAct s d → IsPlaceInRange d.place
place_fits w s d t z r low sided (inl k) =
    let b = (all_found (BatchInRange w s) (λ x. x.bid == d.place.batch.0) s.desk.batches k.batch r.batches k.found).0 in
    (bid_fits w s t z d.place.batch.0 low, omega (arith, k.side), tid_fits w s t z d.place.order (named_below d.tx d.place.order s.ring.next_tid (k.batch).pacts k.names (all_below w s (k.batch).pacts b.tids)))
place_fits w s d t z r low sided (inr k) = (bid_fits w s t z d.place.batch.0 low, omega (arith, k.side), by sided)
  where
    by : IsSided s.book.next_c d.place → d.place.order < 2 ^ 64
    by (inl e) = absurd (omega (arith, e, k.side))
    by (inr e) = c_fits w s t z d.place.order (omega (arith, e.1))

-- ---- over runs

-- the first events of a run are one
first_some : {C : Type 0} (w : Fixed C) (front later : List Event) (s : Machine C) → EachAllowed w (front ++ later) s → EachAllowed w front s
first_some w [] later s run = tt
first_some w (e ∷ front) later s run = (run.0, first_some w front later _ run.1)

module _ {C : Type 0} (w : Fixed C) (finish : C → List State → Alone) (es : List Event) (run : IsRun w es) (l : RangeLaws w finish) where
  -- who is told a place
  placed_fits : (n : ℕ) (p : Place) (r : TxResult) → PlacesStand w (reached w es) (history w es) → VerdictsTell w finish es → IsAmongDone n p r (history w es).committed → IsPlaceInRange p
  placed_fits n p r q v k =
      let s = reached w es in
      let low = all_mid (λ (d : Done). (d.place.batch.0 < s.ring.next_bid) × OpenAbove d.place.batch.0 s.desk.batches) k.done k.front k.rest (subst (AllByRecursion (λ (d : Done). (d.place.batch.0 < s.ring.next_bid) × OpenAbove d.place.batch.0 s.desk.batches)) k.splits q.low) in
      let sided = all_mid (λ (d : Done). IsSided s.book.next_c d.place) k.done k.front k.rest (subst (AllByRecursion (λ (d : Done). IsSided s.book.next_c d.place)) k.splits q.sided) in
      let is = all_mid (λ (d : Done). IsCommittedPact s d ⊎ IsCommittedAct s d) k.done k.front k.rest (subst (AllByRecursion (λ (d : Done). IsCommittedPact s d ⊎ IsCommittedAct s d)) k.splits v.committed) in
      subst IsPlaceInRange k.place (place_fits w s k.done l.text (l.sizes es run) (l.range es run) low.0 sided is)

  -- who failed with its batch
  failed_fits : (n k c code : ℕ) → FailedAt w finish n k c code es → (k < 2 ^ 64) × (c < 2 ^ 64) × (n < 2 ^ 32)
  failed_fits n k c code f =
      let front = (first_run w f.front (Abort k) f.later (opening w) (subst (IsRun w) f.splits run)).0 in
      let s = reached w f.front in
      let z = l.sizes f.front front in
      let x = f.there in
      let b = all_found (BatchInRange w s) (λ y. y.bid == k) s.desk.batches x.batch (l.range f.front front).batches x.found in
      let ours = batch_in_text w s n k x.batch (l.once f.front front) z x.found (ap (λ ps. is_among n (map (λ p. p.tx) ps)) x.splits ∙ mid_among n x.front x.pact x.rest x.tx) in
      (bid_fits w s l.text z k (subst (λ (y : ℕ). y < s.ring.next_bid) (eqb-true (x.batch).bid k b.1) (b.0).bid.below), c_fits w s l.text z c (omega (arith, f.next_c)), omega (arith, ours, l.text.few_txs))

  -- who died
  died_fits : (n a older own : ℕ) (front : List Event) (e : Event) (later : List Event) → es ≡ front ++ e ∷ later → Dies n a older own e (reached w front) → (a < 2 ^ 16) × (older < 2 ^ 64) × (own < 2 ^ 64)
  died_fits n a older own front e later splits d =
      let first = first_run w front e later (opening w) (subst (IsRun w) splits run) in
      let s = reached w front in
      let z = l.sizes front first.0 in
      let inside = (asks_in w l.frames) own a s (subst (λ (x : Event). IsAllowed w x s) d.event first.1) in
      let x = all_found (ActInRange w s) (λ y. y.tid == own) s.book.acts d.act (l.range front first.0).acts (d.is_act).found in
      let below : own < s.ring.next_tid = subst (λ (y : ℕ). y < s.ring.next_tid) (eqb-true (d.act).tid own x.1) (x.0).tid.below in
      (omega (arith, inside, z.cells, l.text.few_actors), tid_fits w s l.text z older (omega (arith, below, d.is_older)), tid_fits w s l.text z own below)

  -- whose numbers crossed
  crossed_fits : (n m k a : ℕ) (front : List Event) (e : Event) (later : List Event) → es ≡ front ++ e ∷ later → Crosses w n m k a e (reached w front) → (m < 2 ^ 64) × (k < 2 ^ 64) × (a < 2 ^ 16)
  crossed_fits n m k a front e later splits d =
      let first = first_run w front e later (opening w) (subst (IsRun w) splits run) in
      let s = reached w front in
      let z = l.sizes front first.0 in
      let behind : IsRun w (front ++ e ∷ []) = first_some w (front ++ e ∷ []) later (opening w) (subst (IsRun w) (splits ∙ sym (append_assoc front (e ∷ []) later)) run) in
      let same = state_join w front (e ∷ []) (opening w) in
      let found = ap (λ (x : Machine C). act_of d.tid x.book.acts) same ∙ d.found in
      let y = l.sizes (front ++ e ∷ []) behind in
      let low : m < (reached w (front ++ e ∷ [])).ring.next_bid = subst (λ (x : ℕ). x < (reached w (front ++ e ∷ [])).ring.next_bid) d.before_is (l.few (front ++ e ∷ []) behind d.tid d.next found).before in
      let inside : a < length s.cells = elim d.event [
        | inl x ↦ (arrives_in w l.frames) x.0 a s (subst (λ (v : Event). IsAllowed w v s) x.1 first.1)
        | inr x ↦ (asks_in w l.frames) x.0 a s (subst (λ (v : Event). IsAllowed w v s) x.1.0 first.1)
      ] in
      (bid_fits w _ l.text y m low, bid_fits w _ l.text y k (omega (arith, low, d.cross)), omega (arith, inside, z.cells, l.text.few_actors))

  pub verdicts_in_range : PlacesStand w (reached w es) (history w es) → VerdictsTell w finish es → VerdictsStand w finish es
      → ((n : ℕ) (p : Place) (z : ℤ) → verdict n (reached w es).book (reached w es).desk ≡ Some (verdicts.Committed p z) → IsAmongDone n p (Value z) (history w es).committed)
      → ((n : ℕ) (p : Place) (c : ℕ) → verdict n (reached w es).book (reached w es).desk ≡ Some (verdicts.Code p c) → IsAmongDone n p (Fail c) (history w es).committed)
      → VerdictsAreInRange w es
  verdicts_in_range q v u f g n (verdicts.Committed p z) e = placed_fits n p (Value z) q v (f n p z e)
  verdicts_in_range q v u f g n (verdicts.Code p c) e = placed_fits n p (Fail c) q v (g n p c e)
  verdicts_in_range q v u f g n (verdicts.BatchCode k at code) e = let h = failed_fits n k.0 at code (v.batch_code n k.0 at code e) in (h.0, h.1)
  verdicts_in_range q v u f g n (verdicts.Cascade k by) e =
      let x = v.cascade n k.0 by.0 e in
      let h = failed_fits by.0 k.0 x.0 x.1.0 (v.batch_code by.0 k.0 x.0 x.1.0 x.1.1) in
      (h.0, h.2)
  verdicts_in_range q v u f g n (verdicts.Died a older own) e =
      let k = (u.evidence n (verdicts.Died a older own)).0 e in
      died_fits n a.0 older.0 own.0 k.front k.event k.later k.splits k.gives
  verdicts_in_range q v u f g n (verdicts.Order m j a) e =
      let k = (u.evidence n (verdicts.Order m j a)).0 e in
      crossed_fits n m.0 j.0 a.0 k.front k.event k.later k.splits k.gives
  verdicts_in_range q v u f g n (verdicts.Unsure z) e = tt

-- ---- of every run

pub verdicts_fit : {C : Type 0} (w : Fixed C) (finish : C → List State → Alone) (es : List Event) → HasFacts w finish → RangeLaws w finish → IsRun w es → VerdictsTell w finish es → VerdictsStand w finish es → OrderHolds w finish (reached w es) (history w es) → VerdictsAreInRange w es
verdicts_fit {C} w finish es f l run v u o = by es run v u o (length w.text.opening.states) refl
  where
    by : (es : List Event) → IsRun w es → VerdictsTell w finish es → VerdictsStand w finish es → OrderHolds w finish (reached w es) (history w es) → (n : ℕ) → length w.text.opening.states ≡ n → VerdictsAreInRange w es
    by es run v u o (suc n) e =
        let g : Given w (IsRest w.code (IsTxIn w.text)) finish = record { text = l.text; actors = omega (arith, e); facts = f } in
        (verdicts_in_range w finish es run l) (higher w (IsRest w.code (IsTxIn w.text)) finish es g run).places v u (o.stands).told_value (o.stands).told_code
    by [] run v u o zero e = λ n z h. absurd (none_is_some z h)
    by (d ∷ es) run v u o zero e = absurd (none_allowed w d l.text e run.0)
