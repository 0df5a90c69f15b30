-- A transaction has a verdict exactly where its batch is settled or aborted, or its ACT doomed or sealed; so the conditions of
-- Reply are the agreed ones, and those of Abort by who is blamed.
use Rattle.std.specs.Prelude.{◌≡◌, refl, ℕ, ◌==◌, Bool, true, false, not, ◌&&◌, ◌||◌, if◌then◌else◌, Option, Some, None, is_some, List, [], ◌∷◌, find, slice_get}
use Rattle.std.specs.List.{AllByRecursion, list_any}
use Rattle.std.proofs.Common.{sym, ap, ◌∙◌}
use Rattle.std.proofs.lemmas.Bool.{and_parts, or_right, true≢false}
use Rattle.snap_base.specs.declared.transactions.State.{State}
use Rattle.snap_base.specs.declared.transactions.Tx.{Tx}
use Rattle.snap_base.specs.declared.transactions.TxResult.{TxResult}
use Rattle.protocol.specs.Facts.{Alone}
use Rattle.protocol.specs.Fixed.{Fixed}
use Rattle.protocol.specs.Numbers.{NumbersDrawnOnce}
use Rattle.protocol.specs.Parts.{Act, Status, Live, Doomed, Decided, Sealed, Cascade, Pact, Stage, Formed, Committing, Settled, Batch, Machine}
use Rattle.protocol.specs.Events.{Event, Abort, Reply}
use Rattle.protocol.specs.Words.{holds, covers, is_aborted, is_doomed, is_decided, is_sealed, is_formed, is_settled, is_open, is_next_to_commit, batch_of, first_failed}
use Rattle.protocol.specs.Verdicts.{act_place, pact_place, or_else, settled_verdict, pact_verdict, act_verdict, verdict_in_batch, verdict_of_pact, verdict_of_act, verdict}
use Rattle.protocol.specs.Conditions.{conditions}
use Rattle.protocol.specs.Rows.{has_pact, has_ended, blamed, conditions_as_agreed}
use Rattle.protocol.specs.History.{History}
use Rattle.protocol_laws.specs.Told.{PactsAscend}
use Rattle.protocol_laws.proofs.first.Lists.{weaker, or_true}
use Rattle.protocol_laws.proofs.first.PairsFound.{TidsAscend}
use Rattle.protocol_laws.proofs.machine.ActsKept.{Acts}
use Rattle.protocol_laws.proofs.machine.RunOwed.{Valued, has_results}
use Rattle.protocol_laws.proofs.machine.AllGood.{AllGood}
use Rattle.protocol_theorems.proofs.quiet.QuietEnd as quiet
use Rattle.protocol_theorems.proofs.quiet.QuietKnown.{numbered}
use Rattle.protocol_theorems.proofs.sets.BeforeSets.{find_self}
use Rattle.protocol_theorems.proofs.sets.Blamed.{first_is_blamed}

some_of_two : {X : Type 0} (o p : Option X) → is_some (or_else o p) ≡ (is_some o || is_some p)
some_of_two None p = refl
some_of_two (Some x) p = refl

-- ---- a PACT

covered : (k : ℕ) (cs : List Cascade) → is_some (find (covers k) cs) ≡ is_aborted k cs
covered k [] = refl
covered k (c ∷ cs) = by (covers k c) (covered k cs)
  where
    by : (b : Bool) → is_some (find (covers k) cs) ≡ is_aborted k cs → is_some (if b then Some c else find (covers k) cs) ≡ (b || is_aborted k cs)
    by true e = refl
    by false e = e

pact_told : (o : Option Cascade) (b : Batch) (p : Pact) → (is_settled b.stage ≡ true → is_some p.result ≡ true) → is_some (pact_verdict o b p) ≡ (is_settled b.stage || is_some o)
pact_told (Some c) b p r = sym (or_true (is_settled b.stage))
pact_told None b p r = by b.stage r
  where
    by : (st : Stage) → (is_settled st ≡ true → is_some p.result ≡ true) → is_some (settled_verdict st (pact_place b.bid p.tid) p.result) ≡ (is_settled st || false)
    by Formed r = refl
    by Committing r = refl
    by Settled r = quiet.has_ended (pact_place b.bid p.tid) p.result (r refl)

told_in_batch : (cs : List Cascade) (n : ℕ) (b : Batch) (ps : List Pact) → (is_settled b.stage ≡ true → has_results ps ≡ true) → is_some (verdict_in_batch cs n b ps) ≡ (list_any (λ p. p.tx == n) ps && (is_settled b.stage || is_aborted b.bid cs))
told_in_batch cs n b [] r = refl
told_in_batch cs n b (p ∷ ps) r = by (p.tx == n) (told_in_batch cs n b ps (λ e. (and_parts (is_some p.result) (has_results ps) (r e)).1))
  where
    by : (v : Bool) → is_some (verdict_in_batch cs n b ps) ≡ (list_any (λ p. p.tx == n) ps && (is_settled b.stage || is_aborted b.bid cs))
        → is_some (if v then pact_verdict (find (covers b.bid) cs) b p else verdict_in_batch cs n b ps) ≡ ((v || list_any (λ p. p.tx == n) ps) && (is_settled b.stage || is_aborted b.bid cs))
    by true h = pact_told (find (covers b.bid) cs) b p (λ e. (and_parts (is_some p.result) (has_results ps) (r e)).0) ∙ ap (λ z. is_settled b.stage || z) (covered b.bid cs)
    by false h = h

told_in_batches : (cs : List Cascade) (n : ℕ) (bs : List Batch) → AllByRecursion (λ b. is_settled b.stage ≡ true → has_results b.pacts ≡ true) bs → is_some (verdict_of_pact cs n bs) ≡ list_any (λ x. has_pact n x && (is_settled x.stage || is_aborted x.bid cs)) bs
told_in_batches cs n [] r = refl
told_in_batches cs n (b ∷ bs) r =
    some_of_two (verdict_in_batch cs n b b.pacts) (verdict_of_pact cs n bs)
    ∙ (ap (λ z. z || is_some (verdict_of_pact cs n bs)) (told_in_batch cs n b b.pacts r.0) ∙ ap (λ z. (has_pact n b && (is_settled b.stage || is_aborted b.bid cs)) || z) (told_in_batches cs n bs r.1))

-- ---- an ACT

act_told : (st : Status) (m : ℕ) (r : Option TxResult) → (is_sealed st ≡ true → is_some r ≡ true) → is_some (act_verdict st m r) ≡ (is_doomed st || is_sealed st)
act_told Live m r h = refl
act_told (Doomed v) m r h = refl
act_told (Decided c) m r h = refl
act_told (Sealed c) m r h = quiet.has_ended (act_place m c) r (h refl)

told_of_acts : (n : ℕ) (xs : List Act) → AllByRecursion (λ x. is_sealed x.status ≡ true → is_some x.result ≡ true) xs → is_some (verdict_of_act n xs) ≡ holds (λ x. is_doomed x.status || is_sealed x.status) (find (λ x. x.tx == n) xs)
told_of_acts n [] r = refl
told_of_acts n (x ∷ xs) r = by (x.tx == n) (told_of_acts n xs r.1)
  where
    by : (v : Bool) → is_some (verdict_of_act n xs) ≡ holds (λ x. is_doomed x.status || is_sealed x.status) (find (λ x. x.tx == n) xs)
        → is_some (if v then act_verdict x.status x.m x.result else verdict_of_act n xs) ≡ holds (λ x. is_doomed x.status || is_sealed x.status) (if v then Some x else find (λ x. x.tx == n) xs)
    by true h = act_told x.status x.m x.result r.0
    by false h = h

-- ---- in a state of a run

settled_results : {C : Type 0} (s : Machine C) → Valued s → (bs : List Batch) → AllByRecursion (λ b. batch_of b.bid s.desk.batches ≡ Some b) bs → AllByRecursion (λ b. is_settled b.stage ≡ true → has_results b.pacts ≡ true) bs
unfolding Valued
settled_results s v bs f = weaker (λ b. batch_of b.bid s.desk.batches ≡ Some b) (λ b. is_settled b.stage ≡ true → has_results b.pacts ≡ true) bs (λ b e q. v b.bid b e (not_formed b.stage q)) f
  where
    not_formed : (st : Stage) → is_settled st ≡ true → is_formed st ≡ false
    not_formed Formed e = absurd (true≢false (sym e))
    not_formed Committing e = refl
    not_formed Settled e = refl

sealed_results : {C : Type 0} (s : Machine C) (h : History) → TidsAscend s → Acts s h → AllByRecursion (λ x. is_sealed x.status ≡ true → is_some x.result ≡ true) s.book.acts
unfolding TidsAscend Acts
sealed_results s h asc i = find_self 0 s.ring.next_tid s.book.acts asc (λ x. is_sealed x.status ≡ true → is_some x.result ≡ true) (λ x e q. (i x.tid x e).ended (or_right (is_decided x.status) (is_sealed x.status) q))

pub told_where_ended : {C : Type 0} (w : Fixed C) (Of : Tx → C → Type 0) (finish : C → List State → Alone) (s : Machine C) (h : History) → AllGood w Of finish s h → NumbersDrawnOnce w s → (n : ℕ) → is_some (verdict n s.book s.desk) ≡ has_ended n s.book s.desk
told_where_ended w Of finish s h g d n =
    some_of_two (verdict_of_pact s.book.cascades n s.desk.batches) (verdict_of_act n s.book.acts)
    ∙ (ap (λ z. z || is_some (verdict_of_act n s.book.acts)) (told_in_batches s.book.cascades n s.desk.batches (settled_results s g.good.valued s.desk.batches (numbered w s d).batches))
    ∙ ap (λ z. list_any (λ x. has_pact n x && (is_settled x.stage || is_aborted x.bid s.book.cascades)) s.desk.batches || z) (told_of_acts n s.book.acts (sealed_results s h g.ascend g.acts)))

-- somebody failed where somebody is blamed
some_blamed : (o : Option Batch) → ((b : Batch) → o ≡ Some b → PactsAscend 0 b.pacts) → holds (λ b. is_some (first_failed b.pacts)) o ≡ holds (λ b. is_some (blamed b.pacts)) o
some_blamed None n = refl
some_blamed (Some b) n = ap is_some (first_is_blamed 0 b.pacts (n b refl))

pub same_conditions : {C : Type 0} (w : Fixed C) (s : Machine C) → ((k : ℕ) (b : Batch) → batch_of k s.desk.batches ≡ Some b → PactsAscend 0 b.pacts) → ((n : ℕ) → is_some (verdict n s.book s.desk) ≡ has_ended n s.book s.desk) → (e : Event) → conditions w e s ≡ conditions_as_agreed w e s
unfolding conditions conditions_as_agreed
same_conditions w s p v (Abort k) = ap (λ z. holds (λ b. is_open b && is_next_to_commit k s.desk.batches) (batch_of k s.desk.batches) ∷ z ∷ []) (some_blamed (batch_of k s.desk.batches) (p k))
same_conditions w s p v (Reply n) = ap (λ z. holds not (slice_get s.desk.replied n) ∷ z ∷ []) (v n)
same_conditions w s p v e = refl
