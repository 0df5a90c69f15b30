-- Who is told a place: who they are, and that they are serial with nobody else, over every run.
use Rattle.std.specs.Prelude.{◌≡◌, refl, ℕ, zero, suc, Bool, true, false, if◌then◌else◌, Option, Some, None, List, [], ◌∷◌, ◌++◌, length, filter}
use Rattle.std.specs.List.{AllByRecursion}
use Rattle.std.proofs.Common.{arith, sym, ap, subst, ◌∙◌}
use Rattle.std.proofs.lemmas.Bool.{eq-eqb, true≢false}
use Rattle.snap_base.specs.declared.transactions.State.{State}
use Rattle.snap_base.specs.declared.transactions.Tx.{Tx}
use Rattle.snap_base.specs.declared.transactions.TxResult.{TxResult}
use Rattle.snap_base.specs.declared.verdicts.Place.{Place}
use Rattle.snap_base.specs.declared.verdicts.Verdict.{Verdict}
use Rattle.snap_base.specs.declared.verdicts.Verdict.TheVariants as verdicts
use Rattle.protocol.specs.Fixed.{Fixed}
use Rattle.protocol.specs.Facts.{Alone}
use Rattle.protocol.specs.Laws.{AfterEveryRunWithHistory}
use Rattle.protocol.specs.Numbers.{TransactionsInOnePlace}
use Rattle.protocol.specs.Parts.{Act, Batch, Who, OfBatch, OfAct, Status, Live, Doomed, Decided, Sealed, Machine}
use Rattle.protocol.specs.Events.{Event}
use Rattle.protocol.specs.Words.{holds, is_formed, is_settled, is_sealed, is_decided, act_of, batch_of}
use Rattle.protocol.specs.Verdicts.{verdict, pact_place, act_place, ended_at}
use Rattle.protocol.specs.Runs.{IsRun, reached}
use Rattle.protocol.specs.History.{Done, History, history}
use Rattle.protocol.specs.Rests.{IsRest, IsTxIn}
use Rattle.protocol_laws.specs.Told.{AmongDone, IsAmongDone, has_number, ActTold, BatchTold, DoneFrom, PactFrom, FromBatches}
use Rattle.protocol_laws.proofs.first.Lists.{both_all, filter_join, weaker}
use Rattle.protocol_laws.proofs.first.OnePlace.{transactions_in_one_place}
use Rattle.protocol_laws.proofs.first.PairsFound.{each_act}
use Rattle.protocol_laws.proofs.first.SettlingKept.{each_batch}
use Rattle.protocol_laws.proofs.machine.ActsTold.{ActsTold, AllFrom}
use Rattle.protocol_laws.proofs.machine.PactsTold.{PactsTold, NoPlaces}
use Rattle.protocol_laws.proofs.machine.QuietTold as quiet
use Rattle.protocol_laws.proofs.machine.QuietTold.{PactsFrom, pact_told}
use Rattle.protocol_laws.proofs.machine.VerdictsSay.{Says, BatchSays, ActSays, verdict_says}
use Rattle.protocol_laws.proofs.machine.Good.{Given}
use Rattle.protocol_laws.proofs.machine.AllGood.{AllGood, all_good, none_allowed}
use Rattle.protocol_theorems.proofs.order.LastLaw.{all_facts}
use Rattle.protocol_records.specs.AsTold.{is_over}
use Rattle.told_codes.specs.Places.{told_places, ToldPlacesStand}
use Rattle.told_codes.proofs.PlacesSerial.{none_behind, rest_serial}
use Rattle.told_codes.proofs.ValuesAlone.{gives_behind}
use Rattle.told_codes.proofs.WritersPast.{writers_over}

-- ---- who is told a place is one of them

-- one that has its place, and is over
one_told : {C : Type 0} (s : Machine C) (h : History) (y : Who) (t m n : ℕ) (p : Place) (o : Option TxResult) (r : TxResult) → AmongDone y t m p o h.committed → is_over s y ≡ true → m ≡ n → o ≡ Some r → IsAmongDone n p r (told_places s h)
one_told s h y t m n p o r a i same q = record {
  done = a.done;
  front = filter (λ d. is_over s d.who) a.front;
  rest = filter (λ d. is_over s d.who) a.rest;
  splits = ap (filter (λ d. is_over s d.who)) a.splits ∙ (filter_join (λ d. is_over s d.who) a.front (a.done ∷ a.rest) ∙ ap (λ l. filter (λ d. is_over s d.who) a.front ++ l) own);
  tx = a.tx ∙ same;
  place = a.place;
  result = a.result ∙ q;
}
  where
    there : is_over s a.done.who ≡ true
    there = ap (is_over s) a.who ∙ i

    own : filter (λ d. is_over s d.who) (a.done ∷ a.rest) ≡ a.done ∷ filter (λ d. is_over s d.who) a.rest
    own = rw there refl

batch_told : {C : Type 0} (s : Machine C) (h : History) (n : ℕ) (b : Batch) → (is_settled b.stage ≡ true → is_over s (OfBatch b.bid) ≡ true) → BatchTold h.committed b.bid b → BatchSays n (λ p r. IsAmongDone n p r (told_places s h)) b
batch_told s h n b d t f = weaker _ _ b.pacts
    (λ p i q r o. one_told s h (OfBatch b.bid) p.tid p.tx n (pact_place b.bid p.tid) p.result r i.0 (d (ap is_settled f)) q o)
    (t (ap is_formed f))

act_told : {C : Type 0} (s : Machine C) (h : History) (n : ℕ) (x : Act) → (is_sealed x.status ≡ true → is_over s (OfAct x.tid) ≡ true) → ActTold h.committed x.tid x → ActSays n (λ p r. IsAmongDone n p r (told_places s h)) x
act_told s h n x d t q k f r o = one_told s h (OfAct x.tid) x.tid x.tx n (act_place x.m k) x.result r (t k (ap (has_number k) f ∙ eq-eqb k k refl)) (d (ap is_sealed f)) q o

told_at : {C : Type 0} (w : Fixed C) (Of : Tx → C → Type 0) (finish : C → List State → Alone) (s : Machine C) (h : History) → AllGood w Of finish s h → (n : ℕ) (v : Verdict) → verdict n s.book s.desk ≡ Some v → Says (λ p r. IsAmongDone n p r (told_places s h)) v
unfolding ActsTold PactsTold NoPlaces
told_at w Of finish s h g n v e = verdict_says n (λ p r. IsAmongDone n p r (told_places s h)) s v
    (both_all _ _ _ s.desk.batches (λ b p q. batch_told s h n b p q) (each_batch w s (λ k b. is_settled b.stage ≡ true → is_over s (OfBatch k) ≡ true) g.good.settling (λ k b f q. subst (λ z. holds (λ b. is_settled b.stage) z ≡ true) (sym f) q)) (each_batch w s (BatchTold h.committed) g.good.settling g.pacts_told))
    (both_all _ _ _ s.book.acts (λ x p q. act_told s h n x p q) (each_act s (λ t x. is_sealed x.status ≡ true → is_over s (OfAct t) ≡ true) g.ascend (λ t x f q. subst (λ z. holds (λ x. is_sealed x.status) z ≡ true) (sym f) q)) (each_act s (ActTold h.committed) g.ascend g.told)) g.no_places e

-- ---- and each of them is told so

some_act : (o : Option Act) → holds (λ x. is_sealed x.status) o ≡ true → (x : Act) × ((o ≡ Some x) × (is_decided x.status ≡ false))
some_act None e = absurd (true≢false (sym e))
some_act (Some x) e = (x, (refl, by x.status e))
  where
    by : (st : Status) → is_sealed st ≡ true → is_decided st ≡ false
    by Live e = refl
    by (Doomed v) e = refl
    by (Decided c) e = absurd (true≢false (sym e))
    by (Sealed c) e = refl

some_batch : (o : Option Batch) → holds (λ b. is_settled b.stage) o ≡ true → (b : Batch) × ((o ≡ Some b) × (is_settled b.stage ≡ true))
some_batch None e = absurd (true≢false (sym e))
some_batch (Some b) e = (b, (refl, e))

each_told : {C : Type 0} (w : Fixed C) (Of : Tx → C → Type 0) (finish : C → List State → Alone) (s : Machine C) (h : History) → AllGood w Of finish s h → TransactionsInOnePlace w s → AllByRecursion (λ d. verdict d.tx s.book s.desk ≡ ended_at d.place d.result) (told_places s h)
unfolding AllFrom PactsFrom
each_told {C} w Of finish s h g o = each h.committed g.from g.pacts_from
  where
    one : (d : Done) → ((t : ℕ) → d.who ≡ OfAct t → DoneFrom s.book.acts t d) → ((k : ℕ) → d.who ≡ OfBatch k → PactFrom s.desk.batches h.kept k d) → (y : Who) → d.who ≡ y → is_over s y ≡ true → verdict d.tx s.book s.desk ≡ ended_at d.place d.result
    one d a b (OfBatch k) e v = let c = some_batch (batch_of k s.desk.batches) v in pact_told w s h k d c.0 o g.good.settling c.1.1 c.1.0 (b k e)
    one d a b (OfAct t) e v = let x = some_act (act_of t s.book.acts) v in quiet.act_told w s t d x.0 o x.1.1 x.1.0 ((a t e).is_it t x.0 x.1.0 refl)

    each : (ds : List Done) → AllByRecursion (λ d. (t : ℕ) → d.who ≡ OfAct t → DoneFrom s.book.acts t d) ds → FromBatches s.desk.batches h.kept ds → AllByRecursion (λ d. verdict d.tx s.book s.desk ≡ ended_at d.place d.result) (filter (λ d. is_over s d.who) ds)
    each [] a b = tt
    each (d ∷ ds) a b = by (is_over s d.who) (one d a.0 b.0 d.who refl) (each ds a.1 b.1)
      where
        by : (i : Bool) → (i ≡ true → verdict d.tx s.book s.desk ≡ ended_at d.place d.result) → AllByRecursion (λ d. verdict d.tx s.book s.desk ≡ ended_at d.place d.result) (filter (λ d. is_over s d.who) ds)
            → AllByRecursion (λ d. verdict d.tx s.book s.desk ≡ ended_at d.place d.result) (if i then d ∷ filter (λ d. is_over s d.who) ds else filter (λ d. is_over s d.who) ds)
        by true k r = (k refl, r)
        by false k r = r

-- ---- over every run

pub places_stand : {C : Type 0} → AfterEveryRunWithHistory (ToldPlacesStand {C = C})
places_stand {C} w finish es f t run = by es run (length w.text.opening.states) refl
  where
    Of : Tx → C → Type 0
    Of = IsRest w.code (IsTxIn w.text)

    by : (es : List Event) → IsRun w es → (n : ℕ) → length w.text.opening.states ≡ n → ToldPlacesStand w finish (reached w es) (history w es)
    by es run (suc n) l =
        let v : Given w Of finish = record { text = t; actors = omega (arith, l); facts = f } in
        let s = reached w es in
        let h = history w es in
        let g = all_good w Of finish es v run in
        let facts = all_facts w Of finish es f t run in
        let runs = rest_serial w finish s h (λ d. is_over s d.who) facts (λ a k. none_behind (is_over s) (λ d. is_over s d.who) a h.committed (λ d q. q) (λ d q o. q) (writers_over w Of finish es v run a)) in
        record {
          among = λ n at c e. told_at w Of finish s h g n (verdicts.Code at c) e;
          are_told = each_told w Of finish s h g (transactions_in_one_place w es t run);
          serial = runs;
          code = λ n at c e. gives_behind w finish s h n at c facts.differ runs (told_at w Of finish s h g n (verdicts.Code at c) e);
        }
    by [] run zero l = record {
      among = λ n at c e. absurd (cc e);
      are_told = tt;
      serial = refl;
      code = λ n at c e. absurd (cc e);
    }
    by (e ∷ es) run zero l = absurd (none_allowed w e t l run.0)
