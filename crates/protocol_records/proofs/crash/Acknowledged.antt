-- Who was told that it committed is recovered, at every moment.
use Rattle.std.specs.Prelude.{◌≡◌, refl, ℕ, zero, suc, ℤ, Bool, true, ◌&&◌, Option, Some, List, [], ◌∷◌, ◌++◌, length, filter}
use Rattle.std.proofs.Common.{arith, sym, ap, subst, ◌∙◌}
use Rattle.std.proofs.lemmas.Bool.{eq-eqb}
use Rattle.snap_base.specs.declared.transactions.State.{State}
use Rattle.snap_base.specs.declared.transactions.Tx.{Tx}
use Rattle.snap_base.specs.declared.transactions.TxResult.{TxResult}
use Rattle.snap_base.specs.declared.transactions.TxResult.TheVariants.{Value}
use Rattle.snap_base.specs.declared.verdicts.Place.{Place}
use Rattle.snap_base.specs.declared.verdicts.Verdict.{Verdict}
use Rattle.snap_base.specs.declared.verdicts.Verdict.TheVariants as verdicts
use Rattle.protocol.specs.Fixed.{Fixed, IsText}
use Rattle.protocol.specs.Facts.{Alone}
use Rattle.protocol.specs.Parts.{Act, Batch, Who, OfBatch, OfAct, Machine}
use Rattle.protocol.specs.Events.{Event}
use Rattle.protocol.specs.Words.{holds, is_value, is_formed, is_settled}
use Rattle.protocol.specs.Verdicts.{verdict, pact_place, act_place}
use Rattle.protocol.specs.Runs.{IsRun, reached}
use Rattle.protocol.specs.History.{Done, History, history}
use Rattle.protocol_laws.specs.Told.{AmongDone, has_number, ActTold, BatchTold}
use Rattle.protocol_laws.specs.Told.{IsAmongDone}
use Rattle.protocol.specs.Moments.{Moment, IsCut, IsLeft, left_in}
use Rattle.protocol_records.specs.Crash.{is_in, members}
use Rattle.protocol_laws.proofs.first.Lists.{both_all, filter_join, weaker}
use Rattle.protocol_laws.proofs.first.PairsFound.{each_act}
use Rattle.protocol_laws.proofs.machine.ActsTold.{ActsTold}
use Rattle.protocol_laws.proofs.first.SettlingKept.{each_batch}
use Rattle.protocol_laws.proofs.machine.PactsTold.{PactsTold, NoPlaces}
use Rattle.protocol_laws.proofs.machine.VerdictsSay.{Says, BatchSays, ActSays, verdict_says}
use Rattle.protocol_laws.proofs.machine.Good.{Given}
use Rattle.protocol_laws.proofs.machine.AllGood.{AllGood, all_good, none_allowed}
use Rattle.protocol_records.proofs.crash.DurableKept.{Durable, has_record, is_settled_batch, is_sealed_act}
use Rattle.protocol_records.proofs.crash.CrashImplied.{moment_is_cut, front_runs}
use Rattle.protocol_records.proofs.crash.CrashSerial.{recovers, is_left}
use Rattle.protocol.specs.Rests.{IsRest, IsTxIn, HasFacts}

-- what is told of a value: it is of a member
abbrev pub Acked : ℕ → List Done → Place → TxResult → Type 0
Acked n ms p r = (v : ℤ) → r ≡ Value v → IsAmongDone n p (Value v) ms

-- who committed with a value, and has a record that is left
pub member : (test : Who → Bool) (h : History) (y : Who) (t m n : ℕ) (p : Place) (o : Option TxResult) (r : TxResult) → AmongDone y t m p o h.committed → test y ≡ true → m ≡ n → o ≡ Some r → Acked n (filter (λ d. test d.who && is_value d.result) h.committed) p r
member test h y t m n p o r a i same q v j = record {
  done = a.done;
  front = filter (λ d. test d.who && is_value d.result) a.front;
  rest = filter (λ d. test d.who && is_value d.result) a.rest;
  splits = ap (filter (λ d. test d.who && is_value d.result)) a.splits ∙ (filter_join (λ d. test d.who && is_value d.result) a.front (a.done ∷ a.rest) ∙ ap (λ l. filter (λ d. test d.who && is_value d.result) a.front ++ l) own);
  tx = a.tx ∙ same;
  place = a.place;
  result = valued;
}
  where
    valued : a.done.result ≡ Some (Value v)
    valued = a.result ∙ (q ∙ ap Some j)

    there : test a.done.who ≡ true
    there = ap (test) a.who ∙ i

    own : filter (λ d. test d.who && is_value d.result) (a.done ∷ a.rest) ≡ a.done ∷ filter (λ d. test d.who && is_value d.result) a.rest
    own = rw (there, valued) refl

batch_member : {C : Type 0} (w : Fixed C) (s : Machine C) (h : History) (left : ℕ → ℕ) (n : ℕ) (b : Batch) → IsCut s left → (is_settled b.stage ≡ true → has_record w s (OfBatch b.bid) ≡ true) → BatchTold h.committed b.bid b → BatchSays n (Acked n (members w.text.logs (left_in s left) h)) b
batch_member w s h left n b c d t f = weaker _ _ b.pacts
    (λ p i q r o. member (is_in w.text.logs (left_in s left)) h (OfBatch b.bid) p.tid p.tx n (pact_place b.bid p.tid) p.result r i.0 (is_left w s left (OfBatch b.bid) c (d (ap is_settled f))) q o)
    (t (ap is_formed f))

act_member : {C : Type 0} (w : Fixed C) (s : Machine C) (h : History) (left : ℕ → ℕ) (n : ℕ) (x : Act) → IsCut s left → (is_sealed_act x ≡ true → has_record w s (OfAct x.tid) ≡ true) → ActTold h.committed x.tid x → ActSays n (Acked n (members w.text.logs (left_in s left) h)) x
act_member w s h left n x c d t q k f r o v j = member (is_in w.text.logs (left_in s left)) h (OfAct x.tid) x.tid x.tx n (act_place x.m k) x.result r (t k (ap (has_number k) f ∙ eq-eqb k k refl)) (is_left w s left (OfAct x.tid) c (d (rw (f, o, j) refl))) q o v j

-- Where a verdict says that it committed with a value, it is a member.
acknowledged_at : {C : Type 0} (w : Fixed C) (Of : Tx → C → Type 0) (finish : C → List State → Alone) (s : Machine C) (h : History) (left : ℕ → ℕ) → IsCut s left → AllGood w Of finish s h → Durable w s h
    → (n : ℕ) (v : Verdict) → verdict n s.book s.desk ≡ Some v → Says (Acked n (members w.text.logs (left_in s left) h)) v
unfolding ActsTold PactsTold NoPlaces
acknowledged_at w Of finish s h left c g d n v e = verdict_says n (Acked n (members w.text.logs (left_in s left) h)) s v
    (both_all _ _ _ s.desk.batches (λ b p q. batch_member w s h left n b c p q) (each_batch w s (λ k b. is_settled b.stage ≡ true → has_record w s (OfBatch k) ≡ true) g.good.settling (λ k b f q. d.settled k (subst (λ z. holds is_settled_batch z ≡ true) (sym f) q))) (each_batch w s (BatchTold h.committed) g.good.settling g.pacts_told))
    (both_all _ _ _ s.book.acts (λ x p q. act_member w s h left n x c p q) (each_act s (λ t x. is_sealed_act x ≡ true → has_record w s (OfAct t) ≡ true) g.ascend (λ t x f q. d.sealed t (subst (λ z. holds is_sealed_act z ≡ true) (sym f) q))) (each_act s (ActTold h.committed) g.ascend g.told)) g.no_places e

-- At every moment of every run: who was told that it committed is recovered, with its place and its value.
pub acknowledged : {C : Type 0} (w : Fixed C) (finish : C → List State → Alone) (es : List Event) (m : Moment w es) (left : ℕ → ℕ) → HasFacts w finish → IsText w.text → IsRun w es → IsLeft w es m left
    → (n : ℕ) (p : Place) (v : ℤ) → verdict n (reached w m.events).book (reached w m.events).desk ≡ Some (verdicts.Committed p v) → IsAmongDone n p (Value v) (members w.text.logs (left_in (reached w m.events) left) (history w m.events))
acknowledged {C} w finish es m left f t run l n p v e = by m.events (front_runs w m.events m.later (subst (λ xs. IsRun w xs) m.splits run)) (moment_is_cut w es m left run l) e (length w.text.opening.states) refl
  where
    by : (ds : List Event) → IsRun w ds → IsCut (reached w ds) left → verdict n (reached w ds).book (reached w ds).desk ≡ Some (verdicts.Committed p v) → (many : ℕ) → length w.text.opening.states ≡ many → IsAmongDone n p (Value v) (members w.text.logs (left_in (reached w ds) left) (history w ds))
    by ds early c e (suc many) q =
        let given : Given w (IsRest w.code (IsTxIn w.text)) finish = record { text = t; actors = omega (arith, q); facts = f } in
        acknowledged_at w (IsRest w.code (IsTxIn w.text)) finish (reached w ds) (history w ds) left c (all_good w (IsRest w.code (IsTxIn w.text)) finish ds given early)
        (recovers w (IsRest w.code (IsTxIn w.text)) finish ds given early).durable n (verdicts.Committed p v) e v refl
    by [] early c e zero q = absurd (cc e)
    by (x ∷ xs) early c e zero q = absurd (none_allowed w x t q early.0)
