-- What is vouched for is durable, what is sealed too; each commit record of an ACT has its actors.
use Rattle.std.specs.Prelude.{◌≡◌, refl, ℕ, ◌%◌, ◌==◌, Bool, true, false, ◌&&◌, ◌||◌, if◌then◌else◌, Option, Some, None, is_some, List, [], ◌∷◌, ◌++◌, map}
use Rattle.std.specs.List.{AllByRecursion}
use Rattle.std.proofs.Common.{sym, ap, subst, inl, inr, ◌∙◌}
use Rattle.std.proofs.lemmas.Bool.{true≢false, or_cases, eqb-true, and_parts}
use Rattle.snap_base.specs.declared.transactions.TxResult.{TxResult}
use Rattle.protocol.specs.Fixed.{Fixed}
use Rattle.protocol.specs.Records.{LogRecord, BatchInfo, BatchComplete, BatchDone, ActPrepare, ActDone, is_prepare, is_act_commit}
use Rattle.protocol.specs.Parts.{Act, Joined, Status, Live, Doomed, Decided, Sealed, Log, Machine}
use Rattle.protocol.specs.Events.{Event, Form, Admit, Ask, End, Complete, Sync, Commit, Prepare, Vouch, Decide, Seal, Finish}
use Rattle.protocol.specs.Words.{is_value, is_failure, holds, act_of, is_sealed, is_live_status, is_vouched_everywhere, is_ended, outcome_of, is_ordered, value_of}
use Rattle.protocol.specs.Conditions.{IsAllowed, conditions}
use Rattle.protocol.specs.Effects.{after, no_cell, act_commit, ascending}
use Rattle.protocol.specs.OnBook as book
use Rattle.protocol.specs.History.{History}
use Rattle.protocol_records.specs.Logged.{durable_at, ActSure, ActsSure, CommitIs, ActCommits}
use Rattle.protocol_laws.specs.Told.{EachAct}
use Rattle.protocol_laws.proofs.first.Kept
use Rattle.protocol_laws.proofs.machine.TracksKept.{held}
use Rattle.protocol_laws.proofs.machine.TurnsKept.{one_is}
use Rattle.protocol_laws.proofs.machine.ControlWalk.{AllControls}
use Rattle.protocol_laws.proofs.machine.ActsFound as acts
use Rattle.protocol_laws.proofs.machine.ActsFound.{HoldsAnyway}
use Rattle.protocol_laws.proofs.machine.ActsKept.{Acts}
use Rattle.protocol_laws.proofs.machine.ActResults as results
use Rattle.protocol_laws.proofs.machine.ActResults.{NoneActed}
use Rattle.protocol_laws.proofs.machine.QueuedKept.{in_book}
use Rattle.protocol_records.proofs.crash.Durable.{durable_stays, durable_is, all_added}
use Rattle.protocol_laws.proofs.first.Lists.{all_map, list_all_mapped, some_of, weaker}
use Rattle.protocol_laws.proofs.first.Statuses.{live_unordered, ordered_decided, ordered_sealed}
use Rattle.protocol_laws.proofs.machine.CommitRecords.{not_placed}
use Rattle.protocol_laws.proofs.machine.MarksKept.{log_synced}

abbrev VouchedSure : ℕ → List Log → ℕ → Joined → Type 0
VouchedSure many logs t p = p.vouched ≡ true → durable_at (is_prepare t p.actor) logs (p.actor % many) ≡ true

-- ---- marks

prepare_one : (many : ℕ) (logs : List Log) (t : ℕ) (v : Bool) (p : Joined) → VouchedSure many logs t p → VouchedSure many logs t (book.mark_if v book.is_prepared p)
prepare_one many logs t true p h = h
prepare_one many logs t false p h = h

leave_one : (many : ℕ) (logs : List Log) (t : ℕ) (v : Bool) (p : Joined) → VouchedSure many logs t p → VouchedSure many logs t (book.mark_if v book.has_left p)
leave_one many logs t true p h = h
leave_one many logs t false p h = h

vouch_one : (many : ℕ) (logs : List Log) (t a : ℕ) (v : Bool) (p : Joined) → (p.actor == a) ≡ v → durable_at (is_prepare t a) logs (a % many) ≡ true → VouchedSure many logs t p → VouchedSure many logs t (book.mark_if v book.is_vouched p)
vouch_one many logs t a true p e d h = λ q. subst (λ z. durable_at (is_prepare t z) logs (z % many) ≡ true) (sym (eqb-true p.actor a e)) d
vouch_one many logs t a false p e d h = h

prepared_vouched : (v : Bool) (p : Joined) → p.vouched ≡ true → (book.mark_if v book.is_prepared p).vouched ≡ true
prepared_vouched true p h = h
prepared_vouched false p h = h

left_vouched : (v : Bool) (p : Joined) → p.vouched ≡ true → (book.mark_if v book.has_left p).vouched ≡ true
left_vouched true p h = h
left_vouched false p h = h

vouched_vouched : (v : Bool) (p : Joined) → p.vouched ≡ true → (book.mark_if v book.is_vouched p).vouched ≡ true
vouched_vouched true p h = refl
vouched_vouched false p h = h

-- ---- any ACT

sealed_placed : (st : Status) → is_sealed st ≡ true → is_ordered st ≡ true
sealed_placed Live e = absurd (true≢false (sym e))
sealed_placed (Doomed v) e = absurd (true≢false (sym e))
sealed_placed (Decided c) e = refl
sealed_placed (Sealed c) e = refl

holds_sure : (many : ℕ) (logs : List Log) → HoldsAnyway (ActSure many logs)
holds_sure many logs = record {
  numbered = λ t x n p. record { vouched = p.vouched; everywhere = p.everywhere; sealed = p.sealed };
  doomed = λ t x v l p. record { vouched = p.vouched; everywhere = λ e. absurd (true≢false (sym e)); sealed = λ e. absurd (true≢false (sym e)) };
  rises = λ t k x l p. record { vouched = p.vouched; everywhere = p.everywhere; sealed = p.sealed };
}

grows : {C : Type 0} (w : Fixed C) (e : Event) (s : Machine C) → EachAct (ActSure w.text.logs s.logs) s.book.acts → EachAct (ActSure w.text.logs (after w e s).logs) s.book.acts
grows w e s h = λ t x q. let p = h t x q in record {
  vouched = weaker (VouchedSure w.text.logs s.logs t) (VouchedSure w.text.logs (after w e s).logs t) x.places (λ y g v. durable_stays w e s _ _ (g v)) p.vouched;
  everywhere = p.everywhere;
  sealed = λ u v. durable_stays w e s _ _ (p.sealed u v);
}

decided_placed : (c : ℕ) (st : Status) → is_sealed (book.decided_status c true st) ≡ true → is_sealed st ≡ true
decided_placed c Live e = absurd (true≢false (sym e))
decided_placed c (Doomed v) e = e
decided_placed c (Decided d) e = absurd (true≢false (sym e))
decided_placed c (Sealed d) e = e

value_no_failure : (r : Rattle.std.specs.Prelude.Option TxResult) → is_value r ≡ true → is_failure r ≡ true → ⊥
value_no_failure None e f = true≢false (sym e)
value_no_failure (Some (Rattle.snap_base.specs.declared.transactions.TxResult.TheVariants.Value v)) e f = true≢false (sym f)
value_no_failure (Some (Rattle.snap_base.specs.declared.transactions.TxResult.TheVariants.Fail v)) e f = true≢false (sym e)

pub sure_kept : {C : Type 0} (w : Fixed C) (e : Event) (s : Machine C) (h : History) → IsAllowed w e s → AllControls (NoneActed s) s → Acts s h → ActsSure w s → ActsSure w (after w e s)
unfolding ActsSure acts.ReadyAll conditions after
sure_kept w (Admit t) s h ok n i g = acts.acts_change w (Admit t) s (ActSure w.text.logs s.logs) (holds_sure w.text.logs s.logs) (λ e. record { vouched = tt; everywhere = λ q. absurd (true≢false (sym q)); sealed = λ q. absurd (true≢false (sym q)) }) g
sure_kept w (Ask t a) s h ok n i g = acts.acts_change w (Ask t a) s (ActSure w.text.logs s.logs) (holds_sure w.text.logs s.logs)
    (λ o x e p. let r = results.posted_none t a s ok.0 n in record { vouched = more x.places p.vouched; everywhere = λ q. absurd (not_placed s h t x i r e q); sealed = p.sealed }) g
  where
    more : (ps : List Joined) → AllByRecursion (VouchedSure w.text.logs s.logs t) ps → AllByRecursion (VouchedSure w.text.logs s.logs t) (ps ++ record { actor = a; prepared = false; vouched = false; finished = false } ∷ [])
    more [] h = ((λ q. absurd (true≢false (sym q))), tt)
    more (p ∷ ps) h = (h.0, more ps h.1)
sure_kept w (End t a) s h ok n i g = acts.acts_change w (End t a) s (ActSure w.text.logs s.logs) (holds_sure w.text.logs s.logs)
    (λ x v e p. let r = results.outcome_none (λ x. is_ended x.next) t a s (held (λ c. holds (λ x. is_ended x.next) (outcome_of t c.outbox)) s.cells a no_cell ok.0) n in record { vouched = p.vouched; everywhere = λ q. absurd (not_placed s h t x i r e q); sealed = λ q. absurd (not_placed s h t x i r e (sealed_placed x.status q)) }) g
sure_kept w (Prepare t a) s h ok n i g = acts.acts_change w (Prepare t a) s (ActSure w.text.logs (after w (Prepare t a) s).logs) (holds_sure w.text.logs _)
    (λ x e p. record { vouched = all_map (VouchedSure w.text.logs _ t) (VouchedSure w.text.logs _ t) _ x.places (λ y q. prepare_one w.text.logs _ t (y.actor == a) y q) p.vouched; everywhere = λ q v. list_all_mapped (λ p. p.vouched) _ x.places (λ y f. prepared_vouched (y.actor == a) y f) (p.everywhere q v); sealed = p.sealed }) (grows w (Prepare t a) s g)
sure_kept w (Vouch t a) s h ok n i g = acts.acts_change w (Vouch t a) s (ActSure w.text.logs s.logs) (holds_sure w.text.logs s.logs)
    (λ x e p. record { vouched = all_map (VouchedSure w.text.logs s.logs t) (VouchedSure w.text.logs s.logs t) _ x.places (λ y q. vouch_one w.text.logs s.logs t a (y.actor == a) y refl (durable_is (is_prepare t a) s.logs (a % w.text.logs) ok.1.0) q) p.vouched; everywhere = λ q v. list_all_mapped (λ p. p.vouched) _ x.places (λ y f. vouched_vouched (y.actor == a) y f) (p.everywhere q v); sealed = p.sealed }) g
sure_kept w (Finish t a) s h ok n i g = acts.acts_change w (Finish t a) s (ActSure w.text.logs s.logs) (holds_sure w.text.logs s.logs)
    (λ x e p. record { vouched = all_map (VouchedSure w.text.logs s.logs t) (VouchedSure w.text.logs s.logs t) _ x.places (λ y q. leave_one w.text.logs s.logs t (y.actor == a) y q) p.vouched; everywhere = λ q v. list_all_mapped (λ p. p.vouched) _ x.places (λ y f. left_vouched (y.actor == a) y f) (p.everywhere q v); sealed = p.sealed }) g
sure_kept w (Seal t) s h ok n i g = acts.acts_change w (Seal t) s (ActSure w.text.logs s.logs) (holds_sure w.text.logs s.logs)
    (λ x e p. record { vouched = p.vouched; everywhere = λ q v. p.everywhere (sym (ordered_sealed x.status) ∙ q) v; sealed = λ q v. durable_is (is_act_commit t) s.logs (t % w.text.logs) ok.1.0 }) g
sure_kept w (Decide t) s h ok n i g = acts.acts_change w (Decide t) s (ActSure w.text.logs (after w (Decide t) s).logs) (holds_sure w.text.logs _)
    (λ x e p. record {
      vouched = p.vouched;
      everywhere = λ q v. elim (or_cases (is_failure x.result) (is_vouched_everywhere x) (some_of (λ x. is_failure x.result || is_vouched_everywhere x) (act_of t s.book.acts) x e ok.1.0)) [ inl f ↦ absurd (value_no_failure x.result v f) | inr f ↦ f ];
      sealed = λ q v. p.sealed (decided_placed s.book.next_c x.status (subst (λ z. is_sealed (book.decided_status s.book.next_c z x.status) ≡ true) v q)) v;
    }) (grows w (Decide t) s g)
sure_kept w e s h ok n i g = acts.acts_change w e s (ActSure w.text.logs (after w e s).logs) (holds_sure w.text.logs _) tt (grows w e s g)

-- ---- commit records of ACTs

record Fixed_actors (u : ℕ) (actors : List ℕ) (t : ℕ) (x : Act) : Type 0 where
  placed : is_ordered x.status ≡ true
  same : ascending (map (λ p. p.actor) x.places) ≡ actors

holds_fixed : (u : ℕ) (actors : List ℕ) → HoldsAnyway (λ t x. t ≡ u → Fixed_actors u actors t x)
holds_fixed u actors = record {
  numbered = λ t x n p e. let k = p e in record { placed = k.placed; same = k.same };
  doomed = λ t x v l p e. let k = p e in absurd (true≢false (sym k.placed ∙ live_unordered x.status l));
  rises = λ t n x l p e. let k = p e in absurd (true≢false (sym k.placed ∙ l));
}

ready_fixed : {C : Type 0} (w : Fixed C) (e : Event) (s : Machine C) (h : History) (u : ℕ) (actors : List ℕ) → IsAllowed w e s → AllControls (NoneActed s) s → Acts s h → is_some (act_of u s.book.acts) ≡ true → acts.ReadyAll w e s (λ t x. t ≡ u → Fixed_actors u actors t x)
unfolding acts.ReadyAll conditions
ready_fixed w (Admit t) s h u actors ok n i q = λ e f. absurd (true≢false (sym q ∙ ap is_some (ap (λ z. act_of z s.book.acts) (sym f) ∙ e)))
ready_fixed w (Ask t a) s h u actors ok n i q = λ o x e p f. let k = p f in absurd (not_placed s h t x i (results.posted_none t a s ok.0 n) e k.placed)
ready_fixed w (End t a) s h u actors ok n i q = λ x v e p f. let k = p f in absurd (not_placed s h t x i (results.outcome_none (λ x. is_ended x.next) t a s (held (λ c. holds (λ x. is_ended x.next) (outcome_of t c.outbox)) s.cells a no_cell ok.0) n) e k.placed)
ready_fixed w (Prepare t a) s h u actors ok n i q = λ x e p f. let k = p f in record { placed = k.placed; same = ap ascending (Kept.marked_kept (λ p. p.actor) a book.is_prepared x (λ p. refl)) ∙ k.same }
ready_fixed w (Vouch t a) s h u actors ok n i q = λ x e p f. let k = p f in record { placed = k.placed; same = ap ascending (Kept.marked_kept (λ p. p.actor) a book.is_vouched x (λ p. refl)) ∙ k.same }
ready_fixed w (Finish t a) s h u actors ok n i q = λ x e p f. let k = p f in record { placed = k.placed; same = ap ascending (Kept.marked_kept (λ p. p.actor) a book.has_left x (λ p. refl)) ∙ k.same }
ready_fixed w (Seal t) s h u actors ok n i q = λ x e p f. let k = p f in record { placed = ordered_sealed x.status ∙ k.placed; same = k.same }
ready_fixed w (Decide t) s h u actors ok n i q = λ x e p f. let k = p f in record { placed = ordered_decided s.book.next_c (is_value x.result) x.status k.placed; same = k.same }
ready_fixed w e s h u actors ok n i q = tt

abbrev ActsActors : List Act → ℕ → List ℕ → Type 0
ActsActors acts t actors = (x : Act) × (act_of t acts ≡ Some x) × (is_ordered x.status ≡ true) × (ascending (map (λ p. p.actor) x.places) ≡ actors)

fixed_stays : {C : Type 0} (w : Fixed C) (e : Event) (s : Machine C) (h : History) (u : ℕ) (actors : List ℕ) → IsAllowed w e s → AllControls (NoneActed s) s → Acts s h → ActsActors s.book.acts u actors → ActsActors (after w e s).book.acts u actors
fixed_stays w e s h u actors ok n i p =
    let k : EachAct (λ t x. t ≡ u → Fixed_actors u actors t x) (after w e s).book.acts = acts.acts_change w e s (λ t x. t ≡ u → Fixed_actors u actors t x) (holds_fixed u actors) (ready_fixed w e s h u actors ok n i (ap is_some p.1)) start in
    let y = one_is (λ x. true) (act_of u (after w e s).book.acts) (there (act_of u (after w e s).book.acts) (in_book w e s u (ap is_some p.1))) in
    let f = k u y.0 y.1 refl in
    (y.0, y.1, f.placed, f.same)
  where
    there : (o : Option Act) → is_some o ≡ true → holds (λ x. true) o ≡ true
    there None q = absurd (true≢false (sym q))
    there (Some x) q = refl

    start : EachAct (λ t x. t ≡ u → Fixed_actors u actors t x) s.book.acts
    start t x q f = let j : p.0 ≡ x = cc (sym p.1 ∙ (ap (λ z. act_of z s.book.acts) (sym f) ∙ q)) in record { placed = subst (λ z. is_ordered z.status ≡ true) j p.2; same = subst (λ z. ascending (map (λ p. p.actor) z.places) ≡ actors) j p.3 }

commits_stay : {C : Type 0} (w : Fixed C) (e : Event) (s : Machine C) (h : History) (rs : List LogRecord) → IsAllowed w e s → AllControls (NoneActed s) s → Acts s h → AllByRecursion (CommitIs s.book.acts) rs → AllByRecursion (CommitIs (after w e s).book.acts) rs
commits_stay w e s h rs ok n i g = weaker (CommitIs s.book.acts) (CommitIs (after w e s).book.acts) rs (λ r p. one r p) g
  where
    one : (r : LogRecord) → CommitIs s.book.acts r → CommitIs (after w e s).book.acts r
    one (BatchInfo k actors tids) p = tt
    one (BatchComplete k a st) p = tt
    one (BatchDone k vs) p = tt
    one (ActPrepare t a st) p = tt
    one (ActDone t m c v actors) p = fixed_stays w e s h t actors ok n i p

pub found_changed : (t : ℕ) (f : Act → Act) (x : Act) (xs : List Act) → ((x : Act) → (f x).tid ≡ x.tid) → act_of t xs ≡ Some x → act_of t (book.changed_act t f xs) ≡ Some (f x)
found_changed t f x [] i e = absurd (cc e)
found_changed t f x (y ∷ ys) i e = by (y.tid == t) refl e (found_changed t f x ys i)
  where
    by : (v : Bool) → (y.tid == t) ≡ v → (if v then Some y else act_of t ys) ≡ Some x → (act_of t ys ≡ Some x → act_of t (book.changed_act t f ys) ≡ Some (f x)) → (if (book.change_if v f y).tid == t then Some (book.change_if v f y) else act_of t (book.changed_act t f ys)) ≡ Some (f x)
    by true q e k = let j : y ≡ x = cc e in let u : ((f y).tid == t) ≡ true = ap (λ z. z == t) (i y) ∙ q in rw u (ap (λ z. Some (f z)) j)
    by false q e k = rw q (k e)

pub now_placed : (c : ℕ) (b : Bool) (st : Status) → is_live_status st ≡ true → is_ordered (book.decided_status c b st) ≡ true
now_placed c true Live e = refl
now_placed c false Live e = refl
now_placed c b (Doomed v) e = absurd (true≢false (sym e))
now_placed c b (Decided d) e = refl
now_placed c b (Sealed d) e = refl

pub commits_kept : {C : Type 0} (w : Fixed C) (e : Event) (s : Machine C) (h : History) → IsAllowed w e s → AllControls (NoneActed s) s → Acts s h → ActCommits s → ActCommits (after w e s)
unfolding ActCommits conditions after
commits_kept w (Form k) s h ok n i g = λ l. all_added _ _ s.logs (k % w.text.logs) l (tt, tt) (commits_stay w (Form k) s h _ ok n i (g l))
commits_kept w (Complete k a) s h ok n i g = λ l. all_added _ _ s.logs (a % w.text.logs) l (tt, tt) (commits_stay w (Complete k a) s h _ ok n i (g l))
commits_kept w (Commit k) s h ok n i g = λ l. all_added _ _ s.logs (k % w.text.logs) l (tt, tt) (commits_stay w (Commit k) s h _ ok n i (g l))
commits_kept w (Prepare t a) s h ok n i g = λ l. all_added _ _ s.logs (a % w.text.logs) l (tt, tt) (commits_stay w (Prepare t a) s h _ ok n i (g l))
commits_kept w (Decide t) s h ok n i g = λ l. all_added _ _ s.logs (t % w.text.logs) l (own (one_is (λ x. is_some x.result && is_live_status x.status) (act_of t s.book.acts) ok.0)) (commits_stay w (Decide t) s h _ ok n i (g l))
  where
    own : (x : Act) × (act_of t s.book.acts ≡ Some x) × ((is_some x.result && is_live_status x.status) ≡ true) → AllByRecursion (CommitIs (book.changed_act t (book.decided_as s.book.next_c) s.book.acts)) (act_commit s.book.next_c (act_of t s.book.acts))
    own q = subst (λ o. AllByRecursion (CommitIs (book.changed_act t (book.decided_as s.book.next_c) s.book.acts)) (act_commit s.book.next_c o)) (sym q.1) (by (is_value q.0.result))
      where
        tid : q.0.tid ≡ t
        tid = acts.found_tid t q.0 s.book.acts q.1

        by : (b : Bool) → AllByRecursion (CommitIs (book.changed_act t (book.decided_as s.book.next_c) s.book.acts)) (if b then ActDone q.0.tid q.0.m s.book.next_c (value_of q.0.result) (ascending (map (λ p. p.actor) q.0.places)) ∷ [] else [])
        by true = ((book.decided_as s.book.next_c q.0, ap (λ z. act_of z (book.changed_act t (book.decided_as s.book.next_c) s.book.acts)) tid ∙ found_changed t (book.decided_as s.book.next_c) q.0 s.book.acts (λ x. refl) q.1, now_placed s.book.next_c (is_value q.0.result) q.0.status (and_parts (is_some q.0.result) (is_live_status q.0.status) q.2).1, refl), tt)
        by false = tt
commits_kept w (Sync j) s h ok n i g = λ l. subst (AllByRecursion (CommitIs s.book.acts)) (sym (log_synced s.logs j l)) (g l)
commits_kept w e s h ok n i g = λ l. commits_stay w e s h _ ok n i (g l)
