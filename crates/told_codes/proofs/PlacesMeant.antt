-- Who is told a place gives what the language means of it, with nobody else than those that are told one.
use Rattle.std.specs.Prelude.{◌≡◌, refl, ℕ, ◌<◌, Some, List, [], ◌∷◌, ◌++◌, length, map, filter}
use Rattle.std.specs.List.{AllByRecursion}
use Rattle.std.proofs.Common.{sym, ap, subst, ◌∙◌}
use Rattle.snap_base.specs.declared.transactions.Tx.{Tx}
use Rattle.snap_base.specs.declared.transactions.TxResult.{TxResult}
use Rattle.snap_base.specs.declared.transactions.TxResult.TheVariants.{Fail}
use Rattle.snap_base.specs.declared.verdicts.Place.{Place}
use Rattle.snap_base.proofs.Lists.{all_front, all_mid, each_at}
use Rattle.aml_tree.specs.Tree.{CheckedMethod}
use Rattle.aml_check.specs.Meaning as meaning
use Rattle.aml_check.specs.Transactions.{IsTransaction}
use Rattle.protocol.specs.Fixed.{Text, no_tx, tx_at}
use Rattle.protocol.specs.Facts.{Alone, alone, Serial, serial}
use Rattle.protocol.specs.Events.{Event, Abort}
use Rattle.protocol.specs.Parts.{Pact, Batch}
use Rattle.protocol.specs.Runs.{reached}
use Rattle.protocol.specs.Words.{batch_of}
use Rattle.protocol.specs.History.{Done, history}
use Rattle.protocol.specs.Chains.{by_place, txs_of, IsSerial}
use Rattle.protocol_laws.specs.Told.{IsAmongDone}
use Rattle.protocol_theorems.proofs.order.ByPlace.{all_sorted}
use Rattle.protocol_records.specs.AsTold.{is_over, told_committed}
use Rattle.machine_laws.specs.Meant.{IsAsMeant}
use Rattle.machine_laws.specs.MethodCode.{method_code, finish}
use Rattle.machine_laws.specs.Programs.{IsTextOf, with_code, finish_of}
use Rattle.machine_laws.proofs.AsMany.{serial_as_many}
use Rattle.machine_laws.proofs.AsMeant.{AreThere, AloneMeant, SerialMeant, asked, all_filter}
use Rattle.protocol_verdicts.specs.EvidenceSerial.{FailsInSerial, counts, counted}
use Rattle.told_codes.specs.Failures.{FailedBehind, ToldFailuresStand}
use Rattle.told_codes.specs.Meant.{MeansBehind, FailedBehindAsMeant, CodesAsMeant}
use Rattle.told_codes.specs.Places.{told_places, GivesBehind, ToldPlacesStand}

-- a list that gives its results means them
results_meant : (p : List CheckedMethod) (w : Text) (ds : List Done) → SerialMeant p → IsTextOf p w → AreThere w ds → IsSerial (with_code p w) (finish_of p w) ds → IsAsMeant p (with_code p w) ds
results_meant p w ds meant is there runs =
    subst (λ (x : Serial). map Some x.results ≡ map (λ d. d.result) (by_place ds)) (meant (length w.opening.states) w.opening.states (txs_of (with_code p w) (by_place ds)) refl (asked p w (by_place ds) is (all_sorted (λ d. d.tx < length w.txs) ds there))) runs

-- what one gives behind others it means behind them
behind_meant : (p : List CheckedMethod) (w : Text) (n : ℕ) (at : Place) (r : TxResult) (ds : List Done) → AloneMeant p → SerialMeant p → IsTextOf p w → AreThere w ds → n < length w.txs → GivesBehind (with_code p w) (finish_of p w) n at r ds → MeansBehind p (with_code p w) n at r ds
behind_meant p w n at r ds one meant is there below g = record {
  front = g.front;
  rest = g.rest;
  splits = g.splits;
  below = g.below;
  above = g.above;
  means = ap (λ (x : Serial). (meaning.alone p x.world (tx_at w n)).result) (sym same) ∙ (ap (λ (x : Alone). x.result) (sym own) ∙ g.gives);
}
  where
    count : ℕ
    count = length w.opening.states

    txs : List Tx
    txs = txs_of (with_code p w) g.front

    front_there : AreThere w g.front
    front_there = all_front (λ d. d.tx < length w.txs) g.front g.rest (subst (AllByRecursion (λ d. d.tx < length w.txs)) g.splits (all_sorted (λ d. d.tx < length w.txs) ds there))

    left : Serial
    left = serial (method_code p count) (finish p count) w.opening.states txs

    same : left ≡ meaning.serial p w.opening.states txs
    same = meant count w.opening.states txs refl (asked p w g.front is front_there)

    own : alone (method_code p count) (finish p count) left.world (tx_at w n) ≡ meaning.alone p left.world (tx_at w n)
    own = one count left.world (tx_at w n) (serial_as_many p count w.opening.states txs) (each_at (IsTransaction p count) w.txs n no_tx below is.asks)

-- one of these is a transaction of the text
is_there : (w : Text) (n : ℕ) (at : Place) (r : TxResult) (ds : List Done) → AreThere w ds → IsAmongDone n at r ds → n < length w.txs
is_there w n at r ds there i = subst (λ k. k < length w.txs) i.tx (all_mid (λ d. d.tx < length w.txs) i.done i.front i.rest (subst (AllByRecursion (λ d. d.tx < length w.txs)) i.splits there))

-- ---- a batch that failed

pacts_asked : (p : List CheckedMethod) (w : Text) (ps : List Pact) → IsTextOf p w → AllByRecursion (λ (q : Pact). q.tx < length w.txs) ps → AllByRecursion (IsTransaction p (length w.opening.states)) (map (λ (q : Pact). tx_at w q.tx) ps)
pacts_asked p w [] is h = tt
pacts_asked p w (q ∷ ps) is h = (each_at (IsTransaction p (length w.opening.states)) w.txs q.tx no_tx h.0 is.asks, pacts_asked p w ps is h.1)

up_to : (P : Pact → Type 0) (front : List Pact) (x : Pact) (rest : List Pact) → AllByRecursion P (front ++ x ∷ rest) → AllByRecursion P (front ++ x ∷ [])
up_to P [] x rest h = (h.0, tt)
up_to P (y ∷ front) x rest h = (h.0, up_to P front x rest h.1)

failed_meant : (p : List CheckedMethod) (w : Text) (n k c code : ℕ) (es : List Event) → SerialMeant p → IsTextOf p w → AreThere w (history (with_code p w) es).committed
    → ((front later : List Event) → es ≡ front ++ later → (k : ℕ) (b : Batch) → batch_of k (reached (with_code p w) front).desk.batches ≡ Some b → AllByRecursion (λ (q : Pact). q.tx < length w.txs) b.pacts)
    → FailedBehind (with_code p w) (finish_of p w) n k c code es → FailedBehindAsMeant p (with_code p w) n k c code es
failed_meant p w n k c code es meant is there pacts h = record {
  front = h.front;
  later = h.later;
  splits = h.splits;
  next_c = h.next_c;
  there = record {
    batch = t.batch;
    pact = t.pact;
    front = t.front;
    rest = t.rest;
    found = t.found;
    splits = t.splits;
    by_tid = t.by_tid;
    tx = t.tx;
    values = t.values;
    fails = t.fails;
    settled = t.settled;
    means = subst (λ (x : Serial). map Some (meaning.serial p x.world txs).results ≡ map (λ (q : Pact). q.result) ps) same (subst (λ (x : Serial). map Some x.results ≡ map (λ (q : Pact). q.result) ps) own t.runs);
  };
}
  where
    count : ℕ
    count = length w.opening.states

    ds : List Done
    ds = told_committed (reached (with_code p w) es) (history (with_code p w) es)

    t : FailsInSerial (with_code p w) (finish_of p w) n k c code (reached (with_code p w) h.front) ds
    t = h.there

    ps : List Pact
    ps = t.front ++ t.pact ∷ []

    txs : List Tx
    txs = map (λ (q : Pact). tx_at w q.tx) ps

    first : List Tx
    first = txs_of (with_code p w) (counted k c ds)

    first_asked : AllByRecursion (IsTransaction p count) first
    first_asked = asked p w (counted k c ds) is (all_sorted (λ d. d.tx < length w.txs) (filter (counts k c) ds) (all_filter (λ d. d.tx < length w.txs) (counts k c) ds (all_filter (λ d. d.tx < length w.txs) _ (history (with_code p w) es).committed there)))

    same : serial (method_code p count) (finish p count) w.opening.states first ≡ meaning.serial p w.opening.states first
    same = meant count w.opening.states first refl first_asked

    own : serial (method_code p count) (finish p count) (serial (method_code p count) (finish p count) w.opening.states first).world txs ≡ meaning.serial p (serial (method_code p count) (finish p count) w.opening.states first).world txs
    own = meant count (serial (method_code p count) (finish p count) w.opening.states first).world txs (serial_as_many p count w.opening.states first)
        (pacts_asked p w ps is (up_to (λ (q : Pact). q.tx < length w.txs) t.front t.pact t.rest (subst (AllByRecursion (λ (q : Pact). q.tx < length w.txs)) t.splits (pacts h.front (Abort k ∷ h.later) h.splits k t.batch t.found))))

pub codes_meant : (p : List CheckedMethod) (w : Text) (es : List Event) → AloneMeant p → SerialMeant p → IsTextOf p w → AreThere w (history (with_code p w) es).committed
    → ((front later : List Event) → es ≡ front ++ later → (k : ℕ) (b : Batch) → batch_of k (reached (with_code p w) front).desk.batches ≡ Some b → AllByRecursion (λ (q : Pact). q.tx < length w.txs) b.pacts)
    → ToldPlacesStand (with_code p w) (finish_of p w) (reached (with_code p w) es) (history (with_code p w) es) → ToldFailuresStand (with_code p w) (finish_of p w) es → CodesAsMeant p (with_code p w) (finish_of p w) es
codes_meant p w es one meant is there pacts stand fails =
    let s = reached (with_code p w) es in
    let h = history (with_code p w) es in
    let told_there : AreThere w (told_places s h) = all_filter (λ d. d.tx < length w.txs) (λ d. is_over s d.who) h.committed there in
    record {
      stand = stand;
      results = results_meant p w (told_places s h) meant is told_there stand.serial;
      code_told = λ n at c q. behind_meant p w n at (Fail c) (told_committed s h) one meant is (all_filter (λ d. d.tx < length w.txs) _ h.committed there) (is_there w n at (Fail c) (told_places s h) told_there (stand.among n at c q)) (stand.code n at c q);
      batch_code_told = λ n k c code q. failed_meant p w n k c code es meant is there pacts (fails n k c code q);
    }
