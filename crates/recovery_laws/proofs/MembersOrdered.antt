-- What recovery gives of a run is its members, in the order of their places.
use Rattle.std.specs.Prelude.{◌≡◌, refl, ℕ, None, ◌%◌, ◌≤◌, ◌⊎◌, not, Bool, true, false, ◌&&◌, if◌then◌else◌, Option, Some, List, [], ◌∷◌, map, filter, Contains}
use Rattle.std.specs.List.{AllByRecursion, flat_map}
use Rattle.std.proofs.Common.{sym, ap, subst, inl, inr, ◌∙◌}
use Rattle.std.proofs.lemmas.Bool.{true≢false, and_parts, and_from, eqb-true}
use Rattle.snap_base.specs.declared.transactions.TxResult.{TxResult}
use Rattle.snap_base.specs.declared.transactions.TxResult.TheVariants.{Value, Fail}
use Rattle.snap_base.specs.declared.verdicts.Place.{Place}
use Rattle.snap_base.proofs.Lists.{weaker, both_all, all_map}
use Rattle.protocol.specs.Fixed.{Fixed}
use Rattle.protocol.specs.Records.{LogRecord}
use Rattle.protocol.specs.Parts.{Act, Batch, Pact, Status, Live, Doomed, Decided, Sealed, Who, OfBatch, OfAct, Machine}
use Rattle.protocol.specs.Words.{is_formed, is_value, value_of, act_of, batch_of}
use Rattle.protocol.specs.Verdicts.{pact_place, act_place}
use Rattle.protocol.specs.History.{Done, History}
use Rattle.protocol.specs.Chains.{is_place_below, put_by_place, by_place}
use Rattle.protocol_records.specs.Crash.{is_in, members}
use Rattle.protocol_laws.specs.Told.{AmongDone, has_number, PactTold, DoneFrom, IsDonePact, AnyPact, PactFrom, Valued, CommittedTold}
use Rattle.protocol_laws.specs.Linked.{PlacesDiffer}
use Rattle.protocol_laws.proofs.Lemmas.{all_filter, found_bid}
use Rattle.protocol_theorems.proofs.Lemmas.{all_sorted, rises_sorted}
use Rattle.txn_records.specs.declared.records.Record.{Record}
use Rattle.snap_recover.specs.declared.openings.Kept.{Kept}
use Rattle.snap_recover.specs.declared.openings.Opening.{Opening}
use Rattle.snap_recover.proofs.Lists.{all_contains, contains_cases, contains_here, contains_there, contains_none, contains_map, contains_middle}
use Rattle.recovery_laws.specs.Grown.{commit_number_of, told_value, answer_of, recovered_batch, recovered_act, recovered_batches, all_in, answers_of, answer_at}
use Rattle.recovery_laws.proofs.InOrder.{acts_all, acts_keep, acts_have}
use Rattle.recovery_laws.proofs.KnownLogs.{Known}
use Rattle.recovery_laws.proofs.CommittedGrown.{number_is, found_at, found_acts, one_is, known_commit, act_told, has_batch, new_kept_all}
use Rattle.recovery_laws.proofs.SpotsOrdered.{Spot, SpotsRise, same_spots, spots_all, spot_there, spots_rise, pact_answers, pacts_rise, dones_rise}

abbrev pub spot_of : Done → Spot
spot_of d = answer_at d

-- ---- members

contains_filter : (p : Done → Bool) (d : Done) (xs : List Done) → Contains xs d → p d ≡ true → Contains (filter p xs) d
contains_filter p d [] h e = absurd (contains_none d h)
contains_filter p d (x ∷ xs) h e = elim (contains_cases x d xs h) [
  | inl i ↦ here (p x) (ap p i ∙ e) i
  | inr q ↦ there (p x) (contains_filter p d xs q e)
]
  where
    here : (v : Bool) → v ≡ true → x ≡ d → Contains (if v then x ∷ filter p xs else filter p xs) d
    here true f i = subst (λ z. Contains (x ∷ filter p xs) z) i (contains_here x (filter p xs))
    here false f i = absurd (true≢false (sym f))

    there : (v : Bool) → Contains (filter p xs) d → Contains (if v then x ∷ filter p xs else filter p xs) d
    there true q = contains_there x d (filter p xs) q
    there false q = q

contains_put : (x d : Done) (xs : List Done) → Contains (x ∷ xs) d → Contains (put_by_place x xs) d
contains_put x d [] h = h
contains_put x d (y ∷ ys) h = by (is_place_below x.place y.place) (contains_put x d ys)
  where
    by : (v : Bool) → (Contains (x ∷ ys) d → Contains (put_by_place x ys) d) → Contains (if v then x ∷ y ∷ ys else y ∷ put_by_place x ys) d
    by true k = h
    by false k = elim (contains_cases x d (y ∷ ys) h) [
      | inl i ↦ contains_there y d (put_by_place x ys) (k (subst (λ z. Contains (x ∷ ys) z) i (contains_here x ys)))
      | inr q ↦ elim (contains_cases y d ys q) [
        | inl i ↦ subst (λ z. Contains (y ∷ put_by_place x ys) z) i (contains_here y (put_by_place x ys))
        | inr r ↦ contains_there y d (put_by_place x ys) (k (contains_there x d ys r))
      ]
    ]

contains_sorted : (d : Done) (xs : List Done) → Contains xs d → Contains (by_place xs) d
contains_sorted d [] h = h
contains_sorted d (x ∷ xs) h = contains_put x d (by_place xs) (elim (contains_cases x d xs h) [
  | inl i ↦ subst (λ z. Contains (x ∷ by_place xs) z) i (contains_here x (by_place xs))
  | inr q ↦ contains_there x d (by_place xs) (contains_sorted d xs q)
])

differ_filter : (p : Done → Bool) (ds : List Done) → PlacesDiffer ds → PlacesDiffer (filter p ds)
differ_filter p [] h = tt
differ_filter p (d ∷ ds) h = by (p d) (differ_filter p ds h.1)
  where
    by : (v : Bool) → PlacesDiffer (filter p ds) → PlacesDiffer (if v then d ∷ filter p ds else filter p ds)
    by true r = (all_filter (λ e. (is_place_below d.place e.place ≡ true) ⊎ (is_place_below e.place d.place ≡ true)) p ds h.0, r)
    by false r = r

all_filtered : (P : Done → Type 0) (p : Done → Bool) (ds : List Done) → AllByRecursion (λ d. p d ≡ true → P d) ds → AllByRecursion P (filter p ds)
all_filtered P p [] h = tt
all_filtered P p (d ∷ ds) h = by (p d) refl (all_filtered P p ds h.1)
  where
    by : (v : Bool) → p d ≡ v → AllByRecursion P (filter p ds) → AllByRecursion P (if v then d ∷ filter p ds else filter p ds)
    by true e r = (h.0 e, r)
    by false e r = r

-- one of these that committed with a value, and is in, is a member
member_spot : (many : ℕ) (logs : ℕ → List LogRecord) (h : History) (y : Who) (t n : ℕ) (p : Place) (r : Option TxResult) (a : AmongDone y t n p r h.committed) → is_in many logs y ≡ true → is_value a.done.result ≡ true → Contains (map spot_of (by_place (members many logs h))) (p, t, r)
member_spot many logs h y t n p r a i v =
    let test : Done → Bool = λ d. is_in many logs d.who && is_value d.result in
    let in' : is_in many logs a.done.who ≡ true = ap (is_in many logs) a.who ∙ i in
    let there : Contains h.committed a.done = subst (λ z. Contains z a.done) (sym a.splits) (contains_middle a.front a.done a.rest) in
    let m : Contains (members many logs h) a.done = contains_filter (λ d. is_in many logs d.who && is_value d.result) a.done h.committed there (and_from (is_in many logs a.done.who) (is_value a.done.result) in' v) in
    let c : Contains (map spot_of (by_place (members many logs h))) (a.done.place, a.done.tid, a.done.result) = contains_map spot_of (by_place (members many logs h)) a.done (contains_sorted a.done (members many logs h) m) in
    subst (λ z. Contains (map spot_of (by_place (members many logs h))) (z, t, r)) a.place (subst (λ z. Contains (map spot_of (by_place (members many logs h))) (a.done.place, z, r)) a.tid (subst (λ z. Contains (map spot_of (by_place (members many logs h))) (a.done.place, a.done.tid, z)) a.result c))

-- ---- from what is in to the members

batches_all : (P : Kept → Type 0) (many : ℕ) (logs : ℕ → List LogRecord) (bs : List Batch) → AllByRecursion (λ b. is_in many logs (OfBatch b.bid) ≡ true → P (recovered_batch b)) bs → AllByRecursion P (recovered_batches many logs bs)
batches_all P many logs [] h = tt
batches_all P many logs (b ∷ bs) h = by (is_in many logs (OfBatch b.bid)) refl (batches_all P many logs bs h.1)
  where
    by : (v : Bool) → is_in many logs (OfBatch b.bid) ≡ v → AllByRecursion P (recovered_batches many logs bs) → AllByRecursion P (if v then recovered_batch b ∷ recovered_batches many logs bs else recovered_batches many logs bs)
    by true e r = (h.0 e, r)
    by false e r = r

-- its places rise, and are members'
abbrev IsOfMembers : ℕ → (ℕ → List LogRecord) → History → Kept → Type 0
IsOfMembers many logs h k = SpotsRise (answers_of k) × AllByRecursion (Contains (map spot_of (by_place (members many logs h)))) (answers_of k)

has_value : (k : ℕ) (ds : List Done) (d : Done) → Valued ds → Contains ds d → d.who ≡ OfBatch k → is_value d.result ≡ true
has_value k ds d v c i = all_contains (λ d. (k : ℕ) → d.who ≡ OfBatch k → is_value d.result ≡ true) ds d v c k i

-- a value is told as it is
told_back : (r : Option TxResult) → is_value r ≡ true → r ≡ answer_of (told_value r)
told_back (Some (Value v)) e = refl
told_back (Some (Fail code)) e = absurd (true≢false (sym e))
told_back None e = absurd (true≢false (sym e))

value_back : (r : Option TxResult) → is_value r ≡ true → r ≡ answer_of (Some (value_of r))
value_back (Some (Value v)) e = refl
value_back (Some (Fail code)) e = absurd (true≢false (sym e))
value_back None e = absurd (true≢false (sym e))

pacts_spots : (many : ℕ) (logs : ℕ → List LogRecord) (h : History) (k : ℕ) (ps : List Pact) → Valued h.committed → is_in many logs (OfBatch k) ≡ true → AllByRecursion (PactTold h.committed k) ps → AllByRecursion (Contains (map spot_of (by_place (members many logs h)))) (pact_answers k ps)
pacts_spots many logs h k [] v i t = tt
pacts_spots many logs h k (p ∷ ps) v i t =
    let a = t.0.0 in
    let there : Contains h.committed a.done = subst (λ z. Contains z a.done) (sym a.splits) (contains_middle a.front a.done a.rest) in
    let value : is_value a.done.result ≡ true = has_value k h.committed a.done v there a.who in
    let back : p.result ≡ answer_of (Some (value_of p.result)) = value_back p.result (ap is_value (sym a.result) ∙ value) in
    (subst (λ z. Contains (map spot_of (by_place (members many logs h))) (pact_place k p.tid, p.tid, z)) back (member_spot many logs h (OfBatch k) p.tid p.tx (pact_place k p.tid) p.result a i value), pacts_spots many logs h k ps v i t.1)

number_at : (c : ℕ) (st : Status) → has_number c st ≡ true → (has_number (commit_number_of st) st ≡ true)
number_at c Live e = absurd (true≢false (sym e))
number_at c (Doomed v) e = absurd (true≢false (sym e))
number_at c (Decided d) e = Rattle.std.proofs.lemmas.Bool.eq-eqb d d refl
number_at c (Sealed d) e = Rattle.std.proofs.lemmas.Bool.eq-eqb d d refl

batch_of_members : {C : Type 0} (w : Fixed C) (earlier : List (List Record)) (o : Opening) (s : Machine C) (h : History) (logs : ℕ → List LogRecord) (b : Batch) → Known w earlier o s logs → CommittedTold s h → batch_of b.bid s.desk.batches ≡ Some b → is_in w.text.logs logs (OfBatch b.bid) ≡ true → IsOfMembers w.text.logs logs h (recovered_batch b)
batch_of_members w earlier o s h logs b g t f e =
    let c = known_commit s.desk.batches s.book.acts b.bid (logs (b.bid % w.text.logs)) (g.tells (b.bid % w.text.logs)) e in
    let n : not (is_formed b.stage) ≡ true = subst (λ z. Rattle.protocol.specs.Words.holds (λ b. not (is_formed b.stage)) z ≡ true) f c in
    (pacts_rise b.bid 0 b.pacts (t.numbered b.bid b f), pacts_spots w.text.logs logs h b.bid b.pacts t.values e (t.pacts_told b.bid b f (formed b.stage n)))
  where
    formed : (st : Rattle.protocol.specs.Parts.Stage) → not (is_formed st) ≡ true → is_formed st ≡ false
    formed st q = by (is_formed st) q
      where
        by : (v : Bool) → not v ≡ true → v ≡ false
        by true q = absurd (true≢false (sym q))
        by false q = refl

valued_too : (p q : Option TxResult) → p ≡ q → is_value q ≡ true → is_value p ≡ true
valued_too p q e v = ap is_value e ∙ v

act_of_members : {C : Type 0} (w : Fixed C) (earlier : List (List Record)) (o : Opening) (s : Machine C) (h : History) (logs : ℕ → List LogRecord) (x : Act) → Known w earlier o s logs → CommittedTold s h → act_of x.tid s.book.acts ≡ Some x → is_in w.text.logs logs (OfAct x.tid) ≡ true → IsOfMembers w.text.logs logs h (recovered_act x)
act_of_members w earlier o s h logs x g t f e =
    let y = act_told w earlier o s logs x.tid g e in
    let same : y.act ≡ x = (let q : Some y.act ≡ Some x = sym y.found ∙ f in cc q) in
    let n : has_number (commit_number_of x.status) x.status ≡ true = subst (λ z. has_number (commit_number_of z.status) z.status ≡ true) same (number_at (g.whole_acts x.tid e).c y.act.status y.c_is) in
    let a = t.acts_told x.tid x f (commit_number_of x.status) n in
    let value : is_value x.result ≡ true = ap (λ z. is_value z.result) (sym same) ∙ ap is_value y.result_is in
    let v : is_value a.done.result ≡ true = valued_too a.done.result x.result a.result value in
    ((tt, tt), (subst (λ z. Contains (map spot_of (by_place (members w.text.logs logs h))) (act_place x.m (commit_number_of x.status), x.tid, z)) (told_back x.result value) (member_spot w.text.logs logs h (OfAct x.tid) x.tid x.tx (act_place x.m (commit_number_of x.status)) x.result a e v), tt))

of_members : {C : Type 0} (w : Fixed C) (earlier : List (List Record)) (o : Opening) (s : Machine C) (h : History) (logs : ℕ → List LogRecord) → Known w earlier o s logs → CommittedTold s h → AllByRecursion (IsOfMembers w.text.logs logs h) (all_in w.text.logs logs s)
of_members w earlier o s h logs g t = acts_all (IsOfMembers w.text.logs logs h) w.text.logs logs s.book.acts (recovered_batches w.text.logs logs s.desk.batches)
    (weaker (λ x. act_of x.tid s.book.acts ≡ Some x) (λ x. is_in w.text.logs logs (OfAct x.tid) ≡ true → IsOfMembers w.text.logs logs h (recovered_act x)) s.book.acts (λ x f e. act_of_members w earlier o s h logs x g t f e) (found_acts s.book.acts g.apart))
    (batches_all (IsOfMembers w.text.logs logs h) w.text.logs logs s.desk.batches
    (weaker (λ b. (w.text.opening.next_bid ≤ b.bid) × (batch_of b.bid s.desk.batches ≡ Some b)) (λ b. is_in w.text.logs logs (OfBatch b.bid) ≡ true → IsOfMembers w.text.logs logs h (recovered_batch b)) s.desk.batches (λ b f e. batch_of_members w earlier o s h logs b g t f.1 e) (found_at w.text.opening.next_bid s.desk.batches g.bids)))

-- ---- from the members to what is in

moved : (xs : List Spot) (p q : Place) (t u : ℕ) (r v : Option TxResult) → p ≡ q → t ≡ u → r ≡ v → Contains xs (q, u, v) → Contains xs (p, t, r)
moved xs p q t u r v e f i h = subst (λ z. Contains xs (z, t, r)) (sym e) (subst (λ z. Contains xs (q, z, r)) (sym f) (subst (λ z. Contains xs (q, u, z)) (sym i) h))

any_spot : (k : ℕ) (d : Done) (ps : List Pact) → is_value d.result ≡ true → AnyPact (IsDonePact k d) ps → Contains (pact_answers k ps) (spot_of d)
any_spot k d [] v a = absurd a
any_spot k d (p ∷ ps) v (inl q) =
    let rest : List Spot = pact_answers k ps in
    let first : Spot = (pact_place k p.tid, p.tid, answer_of (Some (value_of p.result))) in
    moved (first ∷ rest) d.place (pact_place k p.tid) d.tid p.tid d.result (answer_of (Some (value_of p.result))) q.place q.tid (q.result ∙ value_back p.result (ap is_value (sym q.result) ∙ v)) (contains_here first rest)
any_spot k d (p ∷ ps) v (inr q) = contains_there {X = Spot} (pact_place k p.tid, p.tid, answer_of (Some (value_of p.result))) (spot_of d) (pact_answers k ps) (any_spot k d ps v q)

act_spot : (d : Done) (x : Act) (c : ℕ) → is_value d.result ≡ true → d.place ≡ act_place x.m c → d.tid ≡ x.tid → d.result ≡ x.result → commit_number_of x.status ≡ c → Contains (answers_of (recovered_act x)) (spot_of d)
act_spot d x c v p t r n =
    let first : Spot = (act_place x.m (commit_number_of x.status), x.tid, answer_of (told_value x.result)) in
    moved (answers_of (recovered_act x)) d.place (act_place x.m (commit_number_of x.status)) d.tid x.tid d.result (answer_of (told_value x.result)) (p ∙ ap (act_place x.m) (sym n)) t (r ∙ told_back x.result (ap is_value (sym r) ∙ v)) (contains_here first [])

done_there : {C : Type 0} (w : Fixed C) (earlier : List (List Record)) (o : Opening) (s : Machine C) (h : History) (logs : ℕ → List LogRecord) (d : Done) (y : Who) → Known w earlier o s logs → ((k : ℕ) → d.who ≡ OfBatch k → PactFrom s.desk.batches h.kept k d) → ((t : ℕ) → d.who ≡ OfAct t → DoneFrom s.book.acts t d) → d.who ≡ y → is_in w.text.logs logs y ≡ true → is_value d.result ≡ true
    → Contains (flat_map answers_of (all_in w.text.logs logs s)) (spot_of d)
done_there w earlier o s h logs d (OfBatch k) g p q i e v =
    let x = one_is (λ b. not (is_formed b.stage)) (batch_of k s.desk.batches) (known_commit s.desk.batches s.book.acts k (logs (k % w.text.logs)) (g.tells (k % w.text.logs)) e) in
    let same : x.0.bid ≡ k = eqb-true x.0.bid k (found_bid k x.0 s.desk.batches x.1) in
    let spot = subst (λ z. Contains (pact_answers z x.0.pacts) (spot_of d)) (sym same) (any_spot k d x.0.pacts v ((p k i).is_it k x.0 x.1 refl)) in
    spot_there (all_in w.text.logs logs s) (answers_of (recovered_batch x.0)) (spot_of d) (acts_keep answers_of w.text.logs logs s.book.acts (recovered_batches w.text.logs logs s.desk.batches) (answers_of (recovered_batch x.0)) (has_batch answers_of w.text.logs logs k x.0 s.desk.batches x.1 e)) spot
done_there w earlier o s h logs d (OfAct t) g p q i e v =
    let x = act_told w earlier o s logs t g e in
    let k = (q t i).is_it t x.act x.found refl in
    spot_there (all_in w.text.logs logs s) (answers_of (recovered_act x.act)) (spot_of d) (acts_have answers_of w.text.logs logs t x.act s.book.acts (recovered_batches w.text.logs logs s.desk.batches) x.found e) (act_spot d x.act k.c v k.place k.tid k.result (number_is k.c x.act.status k.at))

members_there : {C : Type 0} (w : Fixed C) (earlier : List (List Record)) (o : Opening) (s : Machine C) (h : History) (logs : ℕ → List LogRecord) → Known w earlier o s logs → CommittedTold s h → AllByRecursion (λ d. Contains (flat_map answers_of (all_in w.text.logs logs s)) (spot_of d)) (members w.text.logs logs h)
members_there w earlier o s h logs g t = all_filtered (λ d. Contains (flat_map answers_of (all_in w.text.logs logs s)) (spot_of d)) (λ d. is_in w.text.logs logs d.who && is_value d.result) h.committed
    (both_all (λ d. (k : ℕ) → d.who ≡ OfBatch k → PactFrom s.desk.batches h.kept k d) (λ d. (t : ℕ) → d.who ≡ OfAct t → DoneFrom s.book.acts t d) (λ d. (is_in w.text.logs logs d.who && is_value d.result) ≡ true → Contains (flat_map answers_of (all_in w.text.logs logs s)) (spot_of d)) h.committed
    (λ d p q e. let v = and_parts (is_in w.text.logs logs d.who) (is_value d.result) e in done_there w earlier o s h logs d d.who g p q refl v.0 v.1) t.pacts_from t.acts_from)

-- ---- the same

pub members_ordered : {C : Type 0} (w : Fixed C) (earlier : List (List Record)) (o : Opening) (s : Machine C) (h : History) (logs : ℕ → List LogRecord) → Known w earlier o s logs → CommittedTold s h
    → flat_map answers_of (all_in w.text.logs logs s) ≡ map answer_at (by_place (members w.text.logs logs h))
members_ordered w earlier o s h logs g t =
    let k = of_members w earlier o s h logs g t in
    let ks = all_in w.text.logs logs s in
    let ms = by_place (members w.text.logs logs h) in
    same_spots (flat_map answers_of ks) (map spot_of ms)
    (spots_rise ks (new_kept_all w earlier o s logs g).2 (weaker (IsOfMembers w.text.logs logs h) (λ k. SpotsRise (answers_of k)) ks (λ k q. q.0) k))
    (dones_rise ms (rises_sorted (members w.text.logs logs h) (differ_filter (λ d. is_in w.text.logs logs d.who && is_value d.result) h.committed t.differ)))
    (λ z c. all_contains (Contains (map spot_of ms)) (flat_map answers_of ks) z (spots_all (Contains (map spot_of ms)) ks (weaker (IsOfMembers w.text.logs logs h) (λ k. AllByRecursion (Contains (map spot_of ms)) (answers_of k)) ks (λ k q. q.1) k)) c)
    (λ z c. all_contains (Contains (flat_map answers_of ks)) (map spot_of ms) z (all_map spot_of (Contains (flat_map answers_of ks)) ms (all_sorted (λ d. Contains (flat_map answers_of ks) (spot_of d)) (members w.text.logs logs h) (members_there w earlier o s h logs g t))) c)
