-- A batch that failed: what the events tell of it and of its Abort stays told, and it fails in a serial run of the report.
use Rattle.std.specs.Prelude.{◌≡◌, refl, ℕ, ◌-◌, ◌==◌, nat_lt, Bool, true, false, ◌&&◌, ◌||◌, if◌then◌else◌, Option, Some, is_some, List, [], ◌∷◌, ◌++◌, filter, find, map}
use Rattle.std.specs.List.{AllByRecursion, list_any}
use Rattle.std.proofs.Common.{sym, ap, subst, ◌∙◌}
use Rattle.std.proofs.lemmas.Bool.{and_from, eq-eqb, or_left, or_right}
use Rattle.snap_base.specs.declared.transactions.State.{State}
use Rattle.snap_base.specs.declared.transactions.Tx.{Tx}
use Rattle.snap_base.specs.declared.transactions.TxResult.{TxResult}
use Rattle.snap_base.specs.declared.transactions.TxResult.TheVariants.{Fail}
use Rattle.snap_base.specs.Outcomes.{Serial}
use Rattle.snap_base.proofs.Options.{none_is_some, same_some}
use Rattle.protocol.specs.Chains.{by_place, counts}
use Rattle.protocol.specs.Conditions.{IsAllowed}
use Rattle.protocol.specs.Events.{Event, Form, Abort}
use Rattle.protocol.specs.Facts.{Alone}
use Rattle.protocol.specs.Facts as facts
use Rattle.protocol.specs.Fixed.{Fixed, Text, tx_at}
use Rattle.protocol.specs.History.{Done, history}
use Rattle.protocol.specs.OnRing.{Formed}
use Rattle.protocol.specs.Parts.{Batch, Machine, Pact}
use Rattle.protocol.specs.Runs.{EachAllowed, IsRun, reached, opening, state_after}
use Rattle.protocol.specs.Verdicts.{or_else}
use Rattle.protocol.specs.Words.{batch_of, is_value}
use Rattle.protocol_verdicts.specs.EvidenceSerial.{FailedAt, world_before}
use Rattle.protocol_theorems.specs.Sizes.{AllFindRoom}
use Rattle.protocol_theorems.proofs.Lemmas.{all_sorted}
use Rattle.audit_words.specs.Clauses.{FailsItsBatch, FailsLast, Meaning, serial, world_left_below}
use Rattle.audit_words.specs.Happenings.{added, give_up, happened, may_abort, seen, seen_from, taken_by, with_cut}
use Rattle.audit_words.specs.Reports.{AllReplied, AnswersStand, CommittedStand, meaning_of, report_lines}
use Rattle.audit_words.specs.Seen.{Cut, Seen, batch_in, next_c, nothing_seen}
use Rattle.audit_words.specs.Serial.{txs}
use Rattle.audit_laws.specs.Acts.{ActsAreSeen}
use Rattle.audit_laws.specs.Names.{NamesAreSeen}
use Rattle.audit_laws.proofs.NamesSeen.{Frames, aborts, batches_stay, cuts_stay}
use Rattle.audit_laws.proofs.Reasons.{find_join}
use Rattle.audit_laws.proofs.ReportsMeaning.{heads, lines_located, mine, mine_result, serial_same, txs_mine}
use Rattle.audit_laws.proofs.RunsSeen.{any_join}
use Rattle.audit_laws.proofs.SortedFilter.{filter_by_place}

-- ---- what is told stays told

kept_found : {X : Type 0} (p : X → Bool) (x : X) (xs ys : List X) → find p xs ≡ Some x → find p (xs ++ ys) ≡ Some x
kept_found p x xs ys e = find_join p xs ys ∙ ap (λ o. or_else o (find p ys)) e

batch_kept : (r : Tx → Bool) (w : Text) (k : ℕ) (b : Formed) (e : Event) (t : Seen) → batch_in k t.batches ≡ Some b → batch_in k (happened r w e t).batches ≡ Some b
unfolding added
batch_kept r w k b (Form j) t h = kept_found (λ (x : Formed). x.bid == k) b t.batches _ h
batch_kept r w k b e t h = ap (batch_in k) (batches_stay r w e t refl) ∙ h

batch_stays : (r : Tx → Bool) (w : Text) (k : ℕ) (b : Formed) (es : List Event) (t : Seen) → batch_in k t.batches ≡ Some b → batch_in k (seen_from r w es t).batches ≡ Some b
batch_stays r w k b [] t h = h
batch_stays r w k b (e ∷ es) t h = batch_stays r w k b es (happened r w e t) (batch_kept r w k b e t h)

cut_kept : (r : Tx → Bool) (w : Text) (p : Cut → Bool) (e : Event) (t : Seen) → list_any p t.cuts ≡ true → list_any p (happened r w e t).cuts ≡ true
unfolding added
cut_kept r w p (Abort k) t h = by (may_abort k t)
  where
    x : Seen
    x = with_cut w k (give_up (taken_by k t) t)

    by : (b : Bool) → list_any p (if b then x else t).cuts ≡ true
    by true = any_join p t.cuts _ ∙ or_left (list_any p t.cuts) _ h
    by false = h
cut_kept r w p e t h = ap (list_any p) (cuts_stay r w e t refl) ∙ h

cut_stays : (r : Tx → Bool) (w : Text) (p : Cut → Bool) (es : List Event) (t : Seen) → list_any p t.cuts ≡ true → list_any p (seen_from r w es t).cuts ≡ true
cut_stays r w p [] t h = h
cut_stays r w p (e ∷ es) t h = cut_stays r w p es (happened r w e t) (cut_kept r w p e t h)

seen_join : (r : Tx → Bool) (w : Text) (es fs : List Event) (t : Seen) → seen_from r w (es ++ fs) t ≡ seen_from r w fs (seen_from r w es t)
seen_join r w [] fs t = refl
seen_join r w (e ∷ es) fs t = seen_join r w es fs (happened r w e t)

-- ---- the front of a run, and the event behind it

pub first_run : {C : Type 0} (w : Fixed C) (front : List Event) (e : Event) (later : List Event) (s : Machine C) → EachAllowed w (front ++ e ∷ later) s → EachAllowed w front s × IsAllowed w e (state_after w front s)
first_run w [] e later s run = (tt, run.0)
first_run w (d ∷ front) e later s run = let k = first_run w front e later _ run.1 in ((run.0, k.0), k.1)

-- the Abort is told, with the commit number that was next
cut_there : {C : Type 0} (w : Fixed C) (fr : Frames C) (k c : ℕ) (front : List Event) → AllFindRoom w (reached w front) → IsAllowed w (Abort k) (reached w front) → NamesAreSeen w front → ActsAreSeen w front → (reached w front).book.next_c ≡ c
    → list_any (λ x. (x.first == k) && (x.at == c)) (happened w.code.only_reads w.text (Abort k) (seen w.code.only_reads w.text front)).cuts ≡ true
unfolding added
cut_there w fr k c front room ok n a e =
    ap (λ (b : Bool). list_any test (if b then with_cut w.text k (give_up (taken_by k t) t) else t).cuts) (aborts w fr k (reached w front) t (room (Abort k) ok) ok n.names)
    ∙ (any_join test t.cuts (cut ∷ []) ∙ or_right (list_any test t.cuts) (test cut || false) (or_left (test cut) false (and_from (k == k) (next_c w.text t == c) (eq-eqb k k refl) (eq-eqb (next_c w.text t) c (a.next_c ∙ e)))))
  where
    t : Seen
    t = seen w.code.only_reads w.text front

    test : Cut → Bool
    test x = (x.first == k) && (x.at == c)

    cut : Cut
    cut = record { first = k; upto = t.ring.next_bid - 1; at = next_c w.text t }

-- ---- the batch with its PACTs

batch_pair : (k : ℕ) (b : Batch) (xs : List Formed) (bs : List Batch) → map (λ x. x.bid) xs ≡ map (λ c. c.bid) bs → map (λ x. map (λ p. p.tx) x.pacts) xs ≡ map (λ c. map (λ p. p.tx) c.pacts) bs → batch_of k bs ≡ Some b
    → (x : Formed) × ((batch_in k xs ≡ Some x) × (map (λ p. p.tx) x.pacts ≡ map (λ p. p.tx) b.pacts))
batch_pair k b [] [] e f i = absurd (none_is_some b i)
batch_pair k b [] (c ∷ bs) e f i = absurd (cc e)
batch_pair k b (x ∷ xs) [] e f i = absurd (cc e)
batch_pair k b (x ∷ xs) (c ∷ bs) e f i =
    let j : x.bid ≡ c.bid = cc e in
    let js : map (λ (y : Formed). y.bid) xs ≡ map (λ (y : Batch). y.bid) bs = cc e in
    let u : map (λ (p : Pact). p.tx) x.pacts ≡ map (λ (p : Pact). p.tx) c.pacts = cc f in
    let us : map (λ (y : Formed). map (λ (p : Pact). p.tx) y.pacts) xs ≡ map (λ (y : Batch). map (λ (p : Pact). p.tx) y.pacts) bs = cc f in
    by (c.bid == k) (ap (λ (m : ℕ). m == k) j) u i (batch_pair k b xs bs js us)
  where
    by : (q : Bool) → (x.bid == k) ≡ q → map (λ p. p.tx) x.pacts ≡ map (λ p. p.tx) c.pacts → (if q then Some c else batch_of k bs) ≡ Some b
        → (batch_of k bs ≡ Some b → (y : Formed) × ((batch_in k xs ≡ Some y) × (map (λ p. p.tx) y.pacts ≡ map (λ p. p.tx) b.pacts)))
        → (y : Formed) × ((batch_in k (x ∷ xs) ≡ Some y) × (map (λ p. p.tx) y.pacts ≡ map (λ p. p.tx) b.pacts))
    by true q u i r = (x, (ap (λ (d : Bool). if d then Some x else batch_in k xs) q, u ∙ ap (λ (z : Batch). map (λ (p : Pact). p.tx) z.pacts) (same_some c b i)))
    by false q u i r = let y = r i in (y.0, (ap (λ (d : Bool). if d then Some x else batch_in k xs) q ∙ y.1.0, y.1.1))

-- the same transactions, split at the same place
pub record SplitAs (w : Text) (ps front : List Pact) (pact : Pact) : Type 0 where
  pub first : List Pact
  pub one : Pact
  pub rest : List Pact
  pub splits : ps ≡ first ++ one ∷ rest
  pub tx : one.tx ≡ pact.tx
  pub same : map (λ q. tx_at w q.tx) (first ++ one ∷ []) ≡ map (λ q. tx_at w q.tx) (front ++ pact ∷ [])

-- one more transaction ahead of them
split_more : (w : Text) (p q : Pact) (ps front : List Pact) (pact : Pact) → p.tx ≡ q.tx → SplitAs w ps front pact → SplitAs w (p ∷ ps) (q ∷ front) pact
split_more w p q ps front pact i k = record {
  first = p ∷ k.first;
  one = k.one;
  rest = k.rest;
  splits = ap (λ (zs : List Pact). p ∷ zs) k.splits;
  tx = k.tx;
  same = ap (λ (n : ℕ). tx_at w n ∷ map (λ (x : Pact). tx_at w x.tx) (k.first ++ k.one ∷ [])) i ∙ ap (λ (zs : List Tx). tx_at w q.tx ∷ zs) k.same;
}

split_as : (w : Text) (ps front : List Pact) (pact : Pact) (rest : List Pact) → map (λ q. q.tx) ps ≡ map (λ q. q.tx) (front ++ pact ∷ rest) → SplitAs w ps front pact
split_as w [] [] pact rest e = absurd (cc e)
split_as w [] (q ∷ front) pact rest e = absurd (cc e)
split_as w (p ∷ ps) [] pact rest e =
    let i : p.tx ≡ pact.tx = cc e in
    record { first = []; one = p; rest = ps; splits = refl; tx = i; same = ap (λ (n : ℕ). tx_at w n ∷ []) i }
split_as w (p ∷ ps) (q ∷ front) pact rest e =
    let i : p.tx ≡ q.tx = cc e in
    let j : map (λ (x : Pact). x.tx) ps ≡ map (λ (x : Pact). x.tx) (front ++ pact ∷ rest) = cc e in
    split_more w p q ps front pact i (split_as w ps front pact rest j)

-- ---- all but the last are values

fails_last : (code : ℕ) (rs : List TxResult) (front : List Pact) (pact : Pact) → map Some rs ≡ map (λ p. p.result) (front ++ pact ∷ []) → AllByRecursion (λ p. is_value p.result ≡ true) front → pact.result ≡ Some (Fail code) → FailsLast code rs
fails_last code [] [] pact e a f = absurd (cc e)
fails_last code [] (p ∷ front) pact e a f = absurd (cc e)
fails_last code (r ∷ rs) [] pact e a f =
    let h = heads (Some r) pact.result (map Some rs) [] e in
    record { values = []; splits = ap (λ (x : TxResult). x ∷ rs) (same_some r (Fail code) (h.0 ∙ f)) ∙ ap (λ (xs : List TxResult). Fail code ∷ xs) (nothing rs h.1); all = tt }
  where
    nothing : (xs : List TxResult) → map Some xs ≡ [] → xs ≡ []
    nothing [] e = refl
    nothing (x ∷ xs) e = absurd (cc e)
fails_last code (r ∷ rs) (p ∷ front) pact e a f =
    let h = heads (Some r) p.result (map Some rs) (map (λ (x : Pact). x.result) (front ++ pact ∷ [])) e in
    let k = fails_last code rs front pact h.1 a.1 f in
    record { values = r ∷ k.values; splits = ap (λ (xs : List TxResult). r ∷ xs) k.splits; all = (subst (λ (o : Option TxResult). is_value o ≡ true) (sym h.0) a.0, k.all) }

-- ---- the states behind what counts

counts_mine : (k c : ℕ) (d : Done) → is_some d.result ≡ true → counts k c (mine d) ≡ counts k c d
counts_mine k c d h = ap (λ (o : Option TxResult). is_value o && (if d.place.side == 0 then nat_lt d.place.batch.0 k else nat_lt d.place.order c)) (mine_result d h)

filter_mine : (k c : ℕ) (ds : List Done) → AllByRecursion (λ d. is_some d.result ≡ true) ds → filter (counts k c) (map mine ds) ≡ map mine (filter (counts k c) ds)
filter_mine k c [] h = refl
filter_mine k c (d ∷ ds) h =
    ap (λ (b : Bool). if b then mine d ∷ filter (counts k c) (map mine ds) else filter (counts k c) (map mine ds)) (counts_mine k c d h.0) ∙ by (counts k c d) (filter_mine k c ds h.1)
  where
    by : (b : Bool) → filter (counts k c) (map mine ds) ≡ map mine (filter (counts k c) ds)
        → (if b then mine d ∷ filter (counts k c) (map mine ds) else filter (counts k c) (map mine ds)) ≡ map mine (if b then d ∷ filter (counts k c) ds else filter (counts k c) ds)
    by true r = ap (λ (zs : List Done). mine d ∷ zs) r
    by false r = r

-- By the lines of the report they are those that the committed ones leave.
world_told : {C : Type 0} (w : Fixed C) (finish : C → List State → Alone) (es : List Event) (k c : ℕ) → IsRun w es → AnswersStand w es → AllReplied w es → CommittedStand w finish es
    → world_left_below (meaning_of w finish) w.text k c (report_lines w es) ≡ world_before w finish k c (history w es).committed
world_told w finish es k c run a r i =
    let m : Meaning = meaning_of w finish in
    let opens = w.text.opening.states in
    let done = (history w es).committed in
    ap (λ (ds : List Done). (serial m opens (txs w.text (filter (counts k c) ds))).world) (lines_located w finish es run a r i)
    ∙ (ap (λ (ds : List Done). (serial m opens (txs w.text ds)).world) (filter_mine k c (by_place done) (all_sorted (λ (d : Done). is_some d.result ≡ true) done i.ended))
    ∙ (ap (λ (ts : List Tx). (serial m opens ts).world) (txs_mine w.text (filter (counts k c) (by_place done)))
    ∙ (ap (λ (ds : List Done). (serial m opens (txs w.text ds)).world) (filter_by_place (counts k c) done i.rise) ∙ ap (λ (x : Serial). x.world) (serial_same w finish opens (txs w.text (by_place (filter (counts k c) done)))))))

-- ---- in all

pub batch_fails : {C : Type 0} (w : Fixed C) (fr : Frames C) (finish : C → List State → Alone) (es : List Event) (n k c code : ℕ) → IsRun w es → AnswersStand w es → AllReplied w es → CommittedStand w finish es
    → ((fs : List Event) → IsRun w fs → AllFindRoom w (reached w fs)) → ((fs : List Event) → IsRun w fs → NamesAreSeen w fs) → ((fs : List Event) → IsRun w fs → ActsAreSeen w fs) → FailedAt w finish n k c code es
    → FailsItsBatch (meaning_of w finish) w.text (seen w.code.only_reads w.text es) (report_lines w es) n k c code
batch_fails {C} w fr finish es n k c code run a r i room names acts f =
    let reads = w.code.only_reads in
    let first = first_run w f.front (Abort k) f.later (opening w) (subst (IsRun w) f.splits run) in
    let t = seen reads w.text f.front in
    let x = happened reads w.text (Abort k) t in
    let all : seen reads w.text es ≡ seen_from reads w.text f.later x = ap (seen reads w.text) f.splits ∙ seen_join reads w.text f.front (Abort k ∷ f.later) (nothing_seen w.text) in
    let told = names f.front first.0 in
    let b = batch_pair k (f.there).batch t.batches (reached w f.front).desk.batches told.names.bids told.names.batch_txs (f.there).found in
    let q = split_as w.text (b.0).pacts (f.there).front (f.there).pact (f.there).rest (b.1.1 ∙ ap (map (λ (p : Pact). p.tx)) (f.there).splits) in
    let m : Meaning = meaning_of w finish in
    let world = world_before w finish k c (history w es).committed in
    let runs : (serial m (world_left_below m w.text k c (report_lines w es)) (map (λ (p : Pact). tx_at w.text p.tx) (q.first ++ q.one ∷ []))).results
    ≡ (facts.serial w.code finish world (map (λ (p : Pact). tx_at w.text p.tx) ((f.there).front ++ (f.there).pact ∷ []))).results =
    ap (λ (z : List State). (serial m z (map (λ (p : Pact). tx_at w.text p.tx) (q.first ++ q.one ∷ []))).results) (world_told w finish es k c run a r i)
    ∙ (ap (λ (ts : List Tx). (serial m world ts).results) q.same ∙ ap (λ (z : Serial). z.results) (serial_same w finish world (map (λ (p : Pact). tx_at w.text p.tx) ((f.there).front ++ (f.there).pact ∷ [])))) in
    record {
      batch = b.0;
      pact = q.one;
      front = q.first;
      rest = q.rest;
      aborted = ap (λ (z : Seen). list_any (λ (y : Cut). (y.first == k) && (y.at == c)) z.cuts) all ∙ cut_stays reads w.text (λ y. (y.first == k) && (y.at == c)) f.later x (cut_there w fr k c f.front (room f.front first.0) first.1 told (acts f.front first.0) f.next_c);
      found = ap (λ (z : Seen). batch_in k z.batches) all ∙ batch_stays reads w.text k b.0 f.later x (batch_kept reads w.text k b.0 (Abort k) t b.1.0);
      splits = q.splits;
      tx = q.tx ∙ (f.there).tx;
      fails = subst (FailsLast code) (sym runs) (fails_last code _ (f.there).front (f.there).pact (f.there).runs (f.there).values (f.there).fails);
    }
