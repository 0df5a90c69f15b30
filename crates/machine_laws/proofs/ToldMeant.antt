-- Who is told a place is told what the language means there.
use Rattle.std.specs.Prelude.{◌≡◌, refl, ℕ, ◌<◌, Some, List, [], ◌∷◌, ◌++◌, length, map}
use Rattle.std.specs.List.{AllByRecursion}
use Rattle.std.proofs.Common.{sym, subst, ◌∙◌, ap}
use Rattle.snap_base.specs.declared.transactions.State.{State}
use Rattle.snap_base.specs.declared.transactions.Tx.{Tx}
use Rattle.snap_base.specs.declared.transactions.TxResult.{TxResult}
use Rattle.snap_base.specs.declared.transactions.TxResult.TheVariants.{Value}
use Rattle.snap_base.specs.declared.verdicts.Place.{Place}
use Rattle.snap_base.proofs.Lists.{each_at}
use Rattle.aml_tree.specs.Tree.{CheckedMethod}
use Rattle.aml_check.specs.Meaning as meaning
use Rattle.aml_check.specs.Transactions.{IsTransaction}
use Rattle.aml_slice.specs.Controls.{Rest}
use Rattle.protocol.specs.Fixed.{Code, Text, Fixed, no_tx, tx_at}
use Rattle.protocol.specs.Facts.{Alone, alone, Serial, serial}
use Rattle.protocol.specs.Parts.{Pact, Batch}
use Rattle.protocol.specs.Words.{batch_of}
use Rattle.protocol.specs.Runs.{reached}
use Rattle.protocol.specs.Events.{Event, Abort}
use Rattle.protocol.specs.History.{Done, history}
use Rattle.protocol.specs.Chains.{by_place, txs_of, IsSerial}
use Rattle.protocol_laws.specs.Told.{IsAmongDone}
use Rattle.protocol_laws.proofs.Lemmas.{all_join}
use Rattle.protocol_theorems.proofs.order.ByPlace.{all_sorted}
use Rattle.protocol_records.specs.AsTold.{told_committed, ToldStands}
use Rattle.protocol_verdicts.proofs.evidence.EvidenceSerial.{SplitAt, sorted_at}
use Rattle.protocol_verdicts.specs.EvidenceSerial.{HasResultThere, FailedAt, counts, counted, VerdictsTell}
use Rattle.machine_laws.specs.Meant.{IsAsMeant, HasMeantResult, FailedAsMeant, VerdictsAsMeant}
use Rattle.machine_laws.specs.Programs.{IsTextOf, with_code, finish_of}
use Rattle.machine_laws.proofs.AsMeant.{AreThere, SerialMeant, asked, all_filter}

-- ---- one of a list that gives its results gives its own, behind those before it

told_there : {C : Type 0} (w : Fixed C) (finish : C → List State → Alone) (world : List State) (front : List Done) (d : Done) (rest : List Done)
    → map Some (serial w.code finish world (txs_of w (front ++ d ∷ rest))).results ≡ map (λ d. d.result) (front ++ d ∷ rest)
    → Some (alone w.code finish (serial w.code finish world (txs_of w front)).world (tx_at w.text d.tx)).result ≡ d.result
told_there w finish world [] d rest e = cc e
told_there w finish world (f ∷ fs) d rest e = told_there w finish (alone w.code finish world (tx_at w.text f.tx)).world fs d rest (cc e)

meant_there : (p : List CheckedMethod) (w : Fixed Rest) (world : List State) (front : List Done) (d : Done) (rest : List Done)
    → map Some (meaning.serial p world (txs_of w (front ++ d ∷ rest))).results ≡ map (λ d. d.result) (front ++ d ∷ rest)
    → Some (meaning.alone p (meaning.serial p world (txs_of w front)).world (tx_at w.text d.tx)).result ≡ d.result
meant_there p w world [] d rest e = cc e
meant_there p w world (f ∷ fs) d rest e = meant_there p w (meaning.alone p world (tx_at w.text f.tx)).world fs d rest (cc e)

result_meant : (p : List CheckedMethod) (w : Fixed Rest) (finish : Rest → List State → Alone) (n : ℕ) (at : Place) (r : TxResult) (ds : List Done)
    → IsSerial w finish ds → IsAsMeant p w ds → HasResultThere w finish n at r ds → HasMeantResult p w n at r ds
result_meant p w finish n at r ds runs means h = record {
  done = h.done;
  front = h.front;
  rest = h.rest;
  splits = h.splits;
  tx = h.tx;
  place = h.place;
  means = same (subst (λ k. Some (meaning.alone p (meaning.serial p states (txs_of w h.front)).world (tx_at w.text k)).result ≡ Some r) h.tx (here ∙ sym there ∙ gives));
}
  where
    states : List State
    states = w.text.opening.states

    here : Some (meaning.alone p (meaning.serial p states (txs_of w h.front)).world (tx_at w.text h.done.tx)).result ≡ h.done.result
    here = meant_there p w states h.front h.done h.rest (subst (λ xs. map Some (meaning.serial p states (txs_of w xs)).results ≡ map (λ d. d.result) xs) h.splits means)

    there : Some (alone w.code finish (serial w.code finish states (txs_of w h.front)).world (tx_at w.text h.done.tx)).result ≡ h.done.result
    there = told_there w finish states h.front h.done h.rest (subst (λ xs. map Some (serial w.code finish states (txs_of w xs)).results ≡ map (λ d. d.result) xs) h.splits runs)

    gives : Some (alone w.code finish (serial w.code finish states (txs_of w h.front)).world (tx_at w.text h.done.tx)).result ≡ Some r
    gives = subst (λ k. Some (alone w.code finish (serial w.code finish states (txs_of w h.front)).world (tx_at w.text k)).result ≡ Some r) (sym h.tx) (ap Some h.gives)

    same : {x y : TxResult} → Some x ≡ Some y → x ≡ y
    same e = cc e

-- one among them, with its result
among_meant : (p : List CheckedMethod) (w : Fixed Rest) (n : ℕ) (at : Place) (r : TxResult) (ds : List Done) → IsAsMeant p w ds → IsAmongDone n at r ds → HasMeantResult p w n at r ds
among_meant p w n at r ds means i =
    let g = subst (λ z. SplitAt i.done (by_place z)) (sym i.splits) (sorted_at i.done i.front i.rest) in
    let here : Some (meaning.alone p (meaning.serial p w.text.opening.states (txs_of w g.front)).world (tx_at w.text i.done.tx)).result ≡ i.done.result =
    meant_there p w w.text.opening.states g.front i.done g.rest (subst (λ xs. map Some (meaning.serial p w.text.opening.states (txs_of w xs)).results ≡ map (λ d. d.result) xs) g.splits means) in
    record {
      done = i.done;
      front = g.front;
      rest = g.rest;
      splits = g.splits;
      tx = i.tx;
      place = i.place;
      means = same (subst (λ k. Some (meaning.alone p (meaning.serial p w.text.opening.states (txs_of w g.front)).world (tx_at w.text k)).result ≡ Some r) i.tx (here ∙ i.result));
    }
  where
    same : {x y : TxResult} → Some x ≡ Some y → x ≡ y
    same e = cc e

-- ---- a batch that failed

serial_join : {C : Type 0} (code : Code C) (finish : C → List State → Alone) (world : List State) (xs ys : List Tx)
    → (serial code finish world (xs ++ ys)).results ≡ (serial code finish world xs).results ++ (serial code finish (serial code finish world xs).world ys).results
serial_join code finish world [] ys = refl
serial_join code finish world (x ∷ xs) ys = ap (λ rs. (alone code finish world x).result ∷ rs) (serial_join code finish (alone code finish world x).world xs ys)

meant_join : (p : List CheckedMethod) (world : List State) (xs ys : List Tx) → (meaning.serial p world (xs ++ ys)).results ≡ (meaning.serial p world xs).results ++ (meaning.serial p (meaning.serial p world xs).world ys).results
meant_join p world [] ys = refl
meant_join p world (x ∷ xs) ys = ap (λ rs. (meaning.alone p world x).result ∷ rs) (meant_join p (meaning.alone p world x).world xs ys)

same_rest : (xs ys zs : List TxResult) → xs ++ ys ≡ xs ++ zs → ys ≡ zs
same_rest [] ys zs e = e
same_rest (x ∷ xs) ys zs e = same_rest xs ys zs (cc e)

-- what runs behind others means there what the machine has it give there
behind_meant : (p : List CheckedMethod) (w : Text) (xs ys : List Tx) → SerialMeant p → AllByRecursion (IsTransaction p (length w.opening.states)) xs → AllByRecursion (IsTransaction p (length w.opening.states)) ys
    → (serial (with_code p w).code (finish_of p w) (serial (with_code p w).code (finish_of p w) w.opening.states xs).world ys).results ≡ (meaning.serial p (meaning.serial p w.opening.states xs).world ys).results
behind_meant p w xs ys meant h k =
    let count = length w.opening.states in
    let first : serial (with_code p w).code (finish_of p w) w.opening.states xs ≡ meaning.serial p w.opening.states xs = meant count w.opening.states xs refl h in
    let both : serial (with_code p w).code (finish_of p w) w.opening.states (xs ++ ys) ≡ meaning.serial p w.opening.states (xs ++ ys) = meant count w.opening.states (xs ++ ys) refl (all_join (IsTransaction p count) xs ys h k) in
    let a = serial_join (with_code p w).code (finish_of p w) w.opening.states xs ys in
    let b = meant_join p w.opening.states xs ys in
    same_rest (meaning.serial p w.opening.states xs).results _ _
    (ap (λ (s : Serial). s.results ++ (serial (with_code p w).code (finish_of p w) (serial (with_code p w).code (finish_of p w) w.opening.states xs).world ys).results) (sym first)
    ∙ (sym a ∙ (ap (λ (s : Serial). s.results) both ∙ b)))

pacts_asked : (p : List CheckedMethod) (w : Text) (ps : List Pact) → IsTextOf p w → AllByRecursion (λ (q : Pact). q.tx < length w.txs) ps → AllByRecursion (IsTransaction p (length w.opening.states)) (map (λ (q : Pact). tx_at w q.tx) ps)
pacts_asked p w [] is h = tt
pacts_asked p w (q ∷ ps) is h = (each_at (IsTransaction p (length w.opening.states)) w.txs q.tx no_tx h.0 is.asks, pacts_asked p w ps is h.1)

failed_meant : (p : List CheckedMethod) (w : Text) (n k c code : ℕ) (es : List Event) → SerialMeant p → IsTextOf p w → AreThere w (history (with_code p w) es).committed
    → ((front later : List Event) → es ≡ front ++ later → (k : ℕ) (b : Batch) → batch_of k (reached (with_code p w) front).desk.batches ≡ Some b → AllByRecursion (λ (q : Pact). q.tx < length w.txs) b.pacts)
    → FailedAt (with_code p w) (finish_of p w) n k c code es → FailedAsMeant p (with_code p w) n k c code es
failed_meant p w n k c code es meant is there pacts h =
    let t = h.there in
    let ds = (history (with_code p w) es).committed in
    let ps = t.front ++ t.pact ∷ [] in
    let in_batch = subst (AllByRecursion (λ (q : Pact). q.tx < length w.txs)) t.splits (pacts h.front (Abort k ∷ h.later) h.splits k t.batch t.found) in
    let ours = first_with (λ (q : Pact). q.tx < length w.txs) t.front t.pact t.rest in_batch in
    let same = behind_meant p w (txs_of (with_code p w) (counted k c ds)) (map (λ (q : Pact). tx_at w q.tx) ps) meant
    (asked p w (counted k c ds) is (all_sorted (λ d. d.tx < length w.txs) _ (all_filter (λ d. d.tx < length w.txs) (counts k c) ds there))) (pacts_asked p w ps is ours) in
    record {
      front = h.front;
      later = h.later;
      splits = h.splits;
      next_c = h.next_c;
      there = record {
        batch = t.batch;
        pact = t.pact;
        front = t.front;
        rest = t.rest;
        found = t.found;
        splits = t.splits;
        by_tid = t.by_tid;
        tx = t.tx;
        values = t.values;
        fails = t.fails;
        settled = t.settled;
        means = subst (λ (rs : List TxResult). map Some rs ≡ map (λ (q : Pact). q.result) ps) same t.runs;
      };
    }
  where
    first_with : (P : Pact → Type 0) (front : List Pact) (x : Pact) (rest : List Pact) → AllByRecursion P (front ++ x ∷ rest) → AllByRecursion P (front ++ x ∷ [])
    first_with P [] x rest h = (h.0, tt)
    first_with P (y ∷ ys) x rest h = (h.0, first_with P ys x rest h.1)

pub verdicts_meant : (p : List CheckedMethod) (w : Text) (es : List Event) → SerialMeant p → IsTextOf p w → AreThere w (history (with_code p w) es).committed
    → ((front later : List Event) → es ≡ front ++ later → (k : ℕ) (b : Batch) → batch_of k (reached (with_code p w) front).desk.batches ≡ Some b → AllByRecursion (λ (q : Pact). q.tx < length w.txs) b.pacts)
    → IsSerial (with_code p w) (finish_of p w) (history (with_code p w) es).committed → IsAsMeant p (with_code p w) (history (with_code p w) es).committed → IsAsMeant p (with_code p w) (told_committed (reached (with_code p w) es) (history (with_code p w) es)) → ToldStands (with_code p w) (finish_of p w) (reached (with_code p w) es) (history (with_code p w) es)
    → VerdictsTell (with_code p w) (finish_of p w) es → VerdictsAsMeant p (with_code p w) (finish_of p w) es
verdicts_meant p w es meant is there pacts runs means means_told ts tells = record {
  value = λ n at v q. result_meant p (with_code p w) (finish_of p w) n at _ (history (with_code p w) es).committed runs means (tells.value n at v q);
  code = λ n at c q. result_meant p (with_code p w) (finish_of p w) n at _ (history (with_code p w) es).committed runs means (tells.code n at c q);
  value_told = λ n at v q. among_meant p (with_code p w) n at (Value v) _ means_told (ts.among n at v q);
  batch_code = λ n k c code q. failed_meant p w n k c code es meant is there pacts (tells.batch_code n k c code q);
}
