-- What is committed in logs that a run grew, in the order of places.
use Rattle.std.specs.Prelude.{◌≡◌, ◌≢◌, refl, ℕ, ℤ, ◌+◌, ◌<◌, ◌≤◌, ◌%◌, ◌==◌, not, Bool, true, false, if◌then◌else◌, Option, Some, None, option_map, List, [], ◌∷◌, ◌++◌, length, map, Contains}
use Rattle.std.specs.List.{AllByRecursion, list_any}
use Rattle.std.proofs.Common.{arith, sym, ap, subst, inl, inr, ◌∙◌}
use Rattle.std.proofs.lemmas.Bool.{true≢false, or_cases, eqb-true, eq-eqb, ne_eqb}
use Rattle.std.proofs.lemmas.List.{map-append}
use Rattle.snap_base.specs.declared.ids.ActorId.{ActorId}
use Rattle.snap_base.specs.declared.ids.Bid.{Bid}
use Rattle.snap_base.specs.declared.ids.Tid.{Tid}
use Rattle.snap_base.proofs.Options.{some_mapped}
use Rattle.snap_base.proofs.Lists.{all_mid, all_join, weaker, both_all}
use Rattle.protocol.specs.Fixed.{Fixed, base}
use Rattle.protocol.specs.Numbers.{from}
use Rattle.protocol.specs.Records as machine
use Rattle.protocol.specs.Records.{LogRecord, is_commit}
use Rattle.protocol.specs.Parts.{Act, Status, Batch, Pact, OfBatch, OfAct, Machine}
use Rattle.protocol.specs.Words.{holds, is_formed, value_of, act_of, batch_of}
use Rattle.protocol_laws.specs.Told.{has_number}
use Rattle.protocol_records.specs.Crash.{is_in}
use Rattle.protocol_records.specs.RecordLaws.{batch_pact_tids, batch_results, valued, ActCommitted, TellsOf}
use Rattle.txn_records.specs.declared.records.Record.{Record}
use Rattle.txn_records.specs.declared.records.Record.TheVariants.{BatchDone}
use Rattle.txn_records.specs.declared.keys.Key.TheVariants as keys
use Rattle.snap_recover.specs.declared.openings.Kept.{Kept}
use Rattle.snap_recover.specs.declared.openings.Kept.TheVariants as kept
use Rattle.snap_recover.specs.declared.openings.Opening.{Opening}
use Rattle.snap_recover.specs.Logs.{all_of, tids_in, bids_in, commits_in}
use Rattle.snap_recover.specs.Opening.{IsIn, IsInfoOf, HasItsValues, IsActOf, act_record, commit_of, IsKeptIn, ComesBefore, IsCommitted}
use Rattle.snap_recover.proofs.Lists.{contains_here, contains_there, contains_left, contains_right}
use Rattle.snap_recover.proofs.Greatest.{each_below}
use Rattle.protocol_laws.proofs.Lemmas.{found_bid, found_tid}
use Rattle.log_set.specs.Told.{bid_of, tid_of, tids_of, actor_ids}
use Rattle.recovery_laws.specs.Grown.{grown, recovered_batch, commit_number_of, told_value, recovered_act, recovered_batches, all_in}
use Rattle.recovery_laws.proofs.KnownLogs.{Apart, Known, all_at, old_low, in_old, in_cases, in_stays, in_new, old_acts_low, act_cases}
use Rattle.recovery_laws.proofs.WholesGrown.{info_stays, info_new, done_stays, done_new, commit_stays, commit_new}
use Rattle.recovery_laws.proofs.WrittenLists.{DoneAt, done_at}
use Rattle.recovery_laws.proofs.InOrder.{Rises, rises_from, rises_to, IsOther, acts_all, acts_rise, acts_keep, acts_have, IsOld, IsNew, rises_join}

-- ---- what is committed

mapped_is : {X Y : Type 0} (f : X → Y) (o : Option X) (x : X) (y : Y) → o ≡ Some x → option_map f o ≡ Some y → f x ≡ y
mapped_is f None x y e h = absurd (cc e)
mapped_is f (Some z) x y e h = let i : z ≡ x = cc e in subst (λ q. f q ≡ y) i (cc h)

-- each batch is found under its number
pub found_at : (n : ℕ) (bs : List Batch) → map (λ b. b.bid) bs ≡ from n (length bs) → AllByRecursion (λ b. (n ≤ b.bid) × (batch_of b.bid bs ≡ Some b)) bs
found_at n [] e = tt
found_at n (x ∷ xs) e =
    let i : x.bid ≡ n = cc e in
    ((omega (arith, i), rw (eq-eqb x.bid x.bid refl) refl), weaker (λ b. (n + 1 ≤ b.bid) × (batch_of b.bid xs ≡ Some b)) (λ b. (n ≤ b.bid) × (batch_of b.bid (x ∷ xs) ≡ Some b)) xs (λ b h. (omega (arith, h.0), rw (ne_eqb x.bid b.bid (λ q. omega (arith, q, i, h.0))) h.1)) (found_at (n + 1) xs (cc e)))

-- each ACT is found under its tid
pub found_acts : (xs : List Act) → Apart xs → AllByRecursion (λ x. act_of x.tid xs ≡ Some x) xs
found_acts [] a = tt
found_acts (x ∷ xs) a = (rw (eq-eqb x.tid x.tid refl) refl, both_all (λ y. y.tid ≢ x.tid) (λ y. act_of y.tid xs ≡ Some y) (λ y. act_of y.tid (x ∷ xs) ≡ Some y) xs (λ y n e. rw (ne_eqb x.tid y.tid (λ q. n (sym q))) e) a.0 (found_acts xs a.1))

batches_rise : (many : ℕ) (logs : ℕ → List LogRecord) (n c : ℕ) (bs : List Batch) → map (λ b. b.bid) bs ≡ from n (length bs) → AllByRecursion (IsNew n c) (recovered_batches many logs bs) × Rises (recovered_batches many logs bs)
batches_rise many logs n c [] e = (tt, tt)
batches_rise many logs n c (x ∷ xs) e = by (is_in many logs (OfBatch x.bid)) (batches_rise many logs (n + 1) c xs (cc e))
  where
    i : x.bid ≡ n
    i = cc e

    lower : (y : Kept) → IsNew (n + 1) c y → IsNew n c y
    lower (kept.Batch b tids bv) q = omega (arith, q)
    lower (kept.Act t m d x1) q = (omega (arith, q.0), q.1)

    before : (bs : List Batch) → AllByRecursion (IsNew (n + 1) c) (recovered_batches many logs bs) → AllByRecursion (ComesBefore (recovered_batch x)) (recovered_batches many logs bs)
    before bs h = weaker (IsNew (n + 1) c) (ComesBefore (recovered_batch x)) (recovered_batches many logs bs) one h
      where
        one : (y : Kept) → IsNew (n + 1) c y → ComesBefore (recovered_batch x) y
        one (kept.Batch b tids bv) q = omega (arith, q, i)
        one (kept.Act t m d x1) q = omega (arith, q.0, i)

    by : (v : Bool) → AllByRecursion (IsNew (n + 1) c) (recovered_batches many logs xs) × Rises (recovered_batches many logs xs)
        → AllByRecursion (IsNew n c) (if v then recovered_batch x ∷ recovered_batches many logs xs else recovered_batches many logs xs) × Rises (if v then recovered_batch x ∷ recovered_batches many logs xs else recovered_batches many logs xs)
    by true h = ((omega (arith, i), weaker (IsNew (n + 1) c) (IsNew n c) (recovered_batches many logs xs) lower h.0), (before xs h.0, h.1))
    by false h = (weaker (IsNew (n + 1) c) (IsNew n c) (recovered_batches many logs xs) lower h.0, h.1)

-- a batch is no ACT
batches_other : (many : ℕ) (logs : ℕ → List LogRecord) (n : ℕ) (bs : List Batch) → AllByRecursion (IsOther n) (recovered_batches many logs bs)
batches_other many logs n [] = tt
batches_other many logs n (x ∷ xs) = by (is_in many logs (OfBatch x.bid)) (batches_other many logs n xs)
  where
    by : (v : Bool) → AllByRecursion (IsOther n) (recovered_batches many logs xs) → AllByRecursion (IsOther n) (if v then recovered_batch x ∷ recovered_batches many logs xs else recovered_batches many logs xs)
    by true h = (tt, h)
    by false h = h

-- ---- values

-- results that are values are these values
values_back : (ps : List Pact) (vs : List ℤ) → map (λ p. p.result) ps ≡ map valued vs → map (λ p. value_of p.result) ps ≡ vs
values_back [] [] e = refl
values_back [] (v ∷ vs) e = absurd (cc e)
values_back (p ∷ ps) [] e = absurd (cc e)
values_back (p ∷ ps) (v ∷ vs) e =
    let own : p.result ≡ valued v = cc e in
    let rest : map (λ p. p.result) ps ≡ map valued vs = cc e in
    rw own (ap (λ z. v ∷ z) (values_back ps vs rest))

as_long : (ps : List Pact) (vs : List ℤ) → map (λ p. p.result) ps ≡ map valued vs → length vs ≡ length (map (λ p. p.tid) ps)
as_long [] [] e = refl
as_long [] (v ∷ vs) e = absurd (cc e)
as_long (p ∷ ps) [] e = absurd (cc e)
as_long (p ∷ ps) (v ∷ vs) e =
    let rest : map (λ p. p.result) ps ≡ map valued vs = cc e in
    omega (arith, as_long ps vs rest)

tids_long : (ts : List ℕ) → length (tids_of ts) ≡ length ts
tids_long [] = refl
tids_long (t ∷ ts) = omega (arith, tids_long ts)

-- where the commit of a batch stands that is in, and that its values are the results of the batch
pub record DoneTold {C : Type 0} (w : Fixed C) (s : Machine C) (logs : ℕ → List LogRecord) (k : ℕ) : Type 0 where
  pub at : DoneAt k (logs (k % w.text.logs))
  pub results : option_map batch_results (batch_of k s.desk.batches) ≡ Some (map valued at.values)

pub done_told : {C : Type 0} (w : Fixed C) (earlier : List (List Record)) (o : Opening) (s : Machine C) (logs : ℕ → List LogRecord) (k : ℕ) → Known w earlier o s logs → is_in w.text.logs logs (OfBatch k) ≡ true → DoneTold w s logs k
done_told w earlier o s logs k g e =
    let d = done_at k (logs (k % w.text.logs)) e in
    let t = all_mid (TellsOf s.desk.batches s.book.acts) (machine.BatchDone k d.values) d.front d.rest (subst (AllByRecursion (TellsOf s.desk.batches s.book.acts)) d.splits (g.tells (k % w.text.logs))) in
    record { at = d; results = t.1 }

-- each batch that is in has as many values as transactions, where its commit tells them
pub valued_grown : {C : Type 0} (w : Fixed C) (earlier : List (List Record)) (o : Opening) (s : Machine C) (logs : ℕ → List LogRecord) (b : Bid) → Known w earlier o s logs → IsIn (grown earlier logs) b → HasItsValues (grown earlier logs) b
valued_grown {C} w earlier o s logs b g h = elim (in_cases w earlier o s logs b g h) [ inl q ↦ was (g.before.valued b q) (in_old w earlier o s logs b g q) | inr q ↦ is q ]
  where
    was : HasItsValues earlier b → b.0 < w.text.opening.next_bid → HasItsValues (grown earlier logs) b
    was v l = record { actors = v.actors; tids = v.tids; commit = v.commit; info_is = info_stays w earlier o s logs b v.actors v.tids g l v.info_is; commit_is = done_stays w earlier o s logs b v.commit g l v.commit_is; fits = v.fits }

    is : is_in w.text.logs logs (OfBatch b.0) ≡ true → HasItsValues (grown earlier logs) b
    is q =
        let x = g.whole b.0 q in
        let t = all_mid (TellsOf s.desk.batches s.book.acts) (machine.BatchInfo b.0 x.actors x.tids) x.front x.rest (subst (AllByRecursion (TellsOf s.desk.batches s.book.acts)) x.info (g.tells (b.0 % w.text.logs))) in
        let d = done_told w earlier o s logs b.0 g q in
        let y = some_mapped batch_pact_tids (batch_of b.0 s.desk.batches) x.tids t.1 in
        let r : batch_results y.0 ≡ map valued d.at.values = mapped_is batch_results (batch_of b.0 s.desk.batches) y.0 (map valued d.at.values) y.1 d.results in
        record {
          actors = actor_ids x.actors;
          tids = tids_of x.tids;
          commit = BatchDone (bid_of b.0) d.at.values;
          info_is = info_new w earlier o s logs b.0 x.actors x.tids x.front x.rest g x.info;
          commit_is = done_new w earlier o s logs b.0 d.at.values d.at.front d.at.rest g d.at.splits;
          fits = as_long y.0.pacts d.at.values r ∙ (ap length y.2 ∙ sym (tids_long x.tids));
        }

new_kept : {C : Type 0} (w : Fixed C) (earlier : List (List Record)) (o : Opening) (s : Machine C) (logs : ℕ → List LogRecord) (bs : List Batch) → Known w earlier o s logs → AllByRecursion (λ b. batch_of b.bid s.desk.batches ≡ Some b) bs → AllByRecursion (IsKeptIn (grown earlier logs)) (recovered_batches w.text.logs logs bs)
new_kept w earlier o s logs [] g h = tt
new_kept {C} w earlier o s logs (b ∷ bs) g h = by (is_in w.text.logs logs (OfBatch b.bid)) refl (new_kept w earlier o s logs bs g h.1)
  where
    by : (v : Bool) → is_in w.text.logs logs (OfBatch b.bid) ≡ v → AllByRecursion (IsKeptIn (grown earlier logs)) (recovered_batches w.text.logs logs bs) → AllByRecursion (IsKeptIn (grown earlier logs)) (if v then recovered_batch b ∷ recovered_batches w.text.logs logs bs else recovered_batches w.text.logs logs bs)
    by true e r =
        let x = g.whole b.bid e in
        let t = all_mid (TellsOf s.desk.batches s.book.acts) (machine.BatchInfo b.bid x.actors x.tids) x.front x.rest (subst (AllByRecursion (TellsOf s.desk.batches s.book.acts)) x.info (g.tells (b.bid % w.text.logs))) in
        let same : batch_pact_tids b ≡ x.tids = mapped_is batch_pact_tids (batch_of b.bid s.desk.batches) b x.tids h.0 t.1 in
        let d = done_told w earlier o s logs b.bid g e in
        let values : map (λ p. value_of p.result) b.pacts ≡ d.at.values = values_back b.pacts d.at.values (mapped_is batch_results (batch_of b.bid s.desk.batches) b (map valued d.at.values) h.0 d.results) in (
          (
            in_new w earlier o s logs b.bid g e,
            (actor_ids x.actors, subst (λ z. IsInfoOf (grown earlier logs) (bid_of b.bid) (actor_ids x.actors) (tids_of z)) (sym same) (info_new w earlier o s logs b.bid x.actors x.tids x.front x.rest g x.info)),
            (BatchDone (bid_of b.bid) d.at.values, done_new w earlier o s logs b.bid d.at.values d.at.front d.at.rest g d.at.splits, values),
          ),
          r,
        )
    by false e r = r

pub number_is : (c : ℕ) (st : Status) → has_number c st ≡ true → commit_number_of st ≡ c
number_is c Rattle.protocol.specs.Parts.Live e = absurd (true≢false (sym e))
number_is c (Rattle.protocol.specs.Parts.Doomed v) e = absurd (true≢false (sym e))
number_is c (Rattle.protocol.specs.Parts.Decided d) e = eqb-true d c e
number_is c (Rattle.protocol.specs.Parts.Sealed d) e = eqb-true d c e

-- its commit record tells an ACT as it is
pub act_told : {C : Type 0} (w : Fixed C) (earlier : List (List Record)) (o : Opening) (s : Machine C) (logs : ℕ → List LogRecord) (t : ℕ) (g : Known w earlier o s logs) (e : is_in w.text.logs logs (OfAct t) ≡ true) → (let y = g.whole_acts t e in ActCommitted s.book.acts t y.m y.c y.v y.actors)
act_told w earlier o s logs t g e =
    let y = g.whole_acts t e in
    all_mid (TellsOf s.desk.batches s.book.acts) (machine.ActDone t y.m y.c y.v y.actors) y.front y.rest (subst (AllByRecursion (TellsOf s.desk.batches s.book.acts)) y.commit (g.tells (t % w.text.logs)))

act_kept : {C : Type 0} (w : Fixed C) (earlier : List (List Record)) (o : Opening) (s : Machine C) (logs : ℕ → List LogRecord) (x : Act) → Known w earlier o s logs → act_of x.tid s.book.acts ≡ Some x → base w.text ≤ x.m → is_in w.text.logs logs (OfAct x.tid) ≡ true
    → IsKeptIn (grown earlier logs) (recovered_act x) × IsNew w.text.opening.next_bid w.text.opening.next_c (recovered_act x)
act_kept w earlier o s logs x g f l e =
    let y = g.whole_acts x.tid e in
    let t = act_told w earlier o s logs x.tid g e in
    let same : t.act ≡ x = (let q : Some t.act ≡ Some x = sym t.found ∙ f in cc q) in
    let m : x.m ≡ y.m = ap (λ z. z.m) (sym same) ∙ t.m_is in
    let n : has_number y.c x.status ≡ true = subst (λ z. has_number y.c z.status ≡ true) same t.c_is in
    let c : commit_number_of x.status ≡ y.c = number_is y.c x.status n in
    let commits : IsActOf (grown earlier logs) (tid_of x.tid) (bid_of y.m) y.c (Some y.v) (actor_ids y.actors) = commit_new w earlier o s logs x.tid y.m y.c y.v y.actors y.front y.rest g y.commit in
    let value : told_value x.result ≡ Some y.v = ap (λ z. told_value z.result) (sym same) ∙ ap told_value t.result_is in (
      (actor_ids y.actors, subst (λ z. IsActOf (grown earlier logs) (tid_of x.tid) (bid_of z) (commit_number_of x.status) (told_value x.result) (actor_ids y.actors)) (sym m) (subst (λ z. IsActOf (grown earlier logs) (tid_of x.tid) (bid_of y.m) z (told_value x.result) (actor_ids y.actors)) (sym c) (subst (λ z. IsActOf (grown earlier logs) (tid_of x.tid) (bid_of y.m) y.c z (actor_ids y.actors)) (sym value) commits))),
      (l, omega (arith, c, g.numbered x.tid x f y.c n)),
    )

-- the commits of ACTs of earlier runs have lower numbers
act_tids : (t : Tid) (m : Bid) (c : ℕ) (value : Option ℤ) (actors : List ActorId) → tids_in (act_record t m c value actors) ≡ t.0 ∷ []
act_tids t m c None actors = refl
act_tids t m c (Some v) actors = refl

act_bids : (t : Tid) (m : Bid) (c : ℕ) (value : Option ℤ) (actors : List ActorId) → bids_in (act_record t m c value actors) ≡ m.0 ∷ []
act_bids t m c None actors = refl
act_bids t m c (Some v) actors = refl

act_cs : (t : Tid) (m : Bid) (c : ℕ) (value : Option ℤ) (actors : List ActorId) → commits_in (act_record t m c value actors) ≡ c ∷ []
act_cs t m c None actors = refl
act_cs t m c (Some v) actors = refl

commit_of_act : {C : Type 0} (w : Fixed C) (earlier : List (List Record)) (o : Opening) (s : Machine C) (logs : ℕ → List LogRecord) (t : Tid) (m : Bid) (c : ℕ) (value : Option ℤ) (actors : List ActorId) → Known w earlier o s logs → IsActOf earlier t m c value actors → (t.0 < w.text.opening.next_tid) × (m.0 < w.text.opening.next_bid) × (c < w.text.opening.next_c)
commit_of_act w earlier o s logs t m c value actors g (front, behind, e, p, quiet) = (
  (subst (AllByRecursion (λ x. x < w.text.opening.next_tid)) (act_tids t m c value actors) (all_mid (λ r. AllByRecursion (λ x. x < w.text.opening.next_tid) (tids_in r)) (act_record t m c value actors) front behind (subst (AllByRecursion (λ r. AllByRecursion (λ x. x < w.text.opening.next_tid) (tids_in r))) e (old_acts_low w earlier o s logs t.0 g)))).0,
  (subst (AllByRecursion (λ x. x < w.text.opening.next_bid)) (act_bids t m c value actors) (all_mid (λ r. AllByRecursion (λ x. x < w.text.opening.next_bid) (bids_in r)) (act_record t m c value actors) front behind (subst (AllByRecursion (λ r. AllByRecursion (λ x. x < w.text.opening.next_bid) (bids_in r))) e (old_low w earlier o s logs t.0 g)))).0,
  (subst (AllByRecursion (λ x. x < w.text.opening.next_c)) (act_cs t m c value actors) (all_mid (λ r. AllByRecursion (λ x. x < w.text.opening.next_c) (commits_in r)) (act_record t m c value actors) front behind (subst (AllByRecursion (λ r. AllByRecursion (λ x. x < w.text.opening.next_c) (commits_in r))) e
      (all_at (λ r. AllByRecursion (λ x. x < w.text.opening.next_c) (commits_in r)) earlier (t.0 % length earlier) (each_below commits_in (all_of earlier) w.text.opening.next_c (omega (arith, g.before.next_c, g.begins.next_c))))))).0,
)

old_kept : {C : Type 0} (w : Fixed C) (earlier : List (List Record)) (o : Opening) (s : Machine C) (logs : ℕ → List LogRecord) (ks : List Kept) → Known w earlier o s logs → AllByRecursion (IsKeptIn earlier) ks → AllByRecursion (IsKeptIn (grown earlier logs)) ks × AllByRecursion (IsOld w.text.opening.next_bid w.text.opening.next_c) ks
old_kept w earlier o s logs [] g h = (tt, tt)
old_kept w earlier o s logs (kept.Batch b tids vs ∷ ks) g h =
    let r = old_kept w earlier o s logs ks g h.1 in
    let l = in_old w earlier o s logs b g h.0.0 in
    (((in_stays w earlier o s logs b g h.0.0, (h.0.1.0, info_stays w earlier o s logs b h.0.1.0 tids g l h.0.1.1), (h.0.2.0, done_stays w earlier o s logs b h.0.2.0 g l h.0.2.1, h.0.2.2)), r.0), (l, r.1))
old_kept w earlier o s logs (kept.Act t m c v ∷ ks) g h =
    let r = old_kept w earlier o s logs ks g h.1 in
    let l = commit_of_act w earlier o s logs t m c v h.0.0 g h.0.1 in
    (((h.0.0, commit_stays w earlier o s logs t m c v h.0.0 g l.0 h.0.1), r.0), ((l.1, l.2), r.1))

pub has_batch : {Y : Type 0} (f : Kept → Y) (many : ℕ) (logs : ℕ → List LogRecord) (k : ℕ) (b : Batch) (bs : List Batch) → batch_of k bs ≡ Some b → is_in many logs (OfBatch k) ≡ true → Contains (map f (recovered_batches many logs bs)) (f (recovered_batch b))
has_batch f many logs k b [] e h = absurd (cc e)
has_batch f many logs k b (x ∷ xs) e h = by (x.bid == k) refl e (has_batch f many logs k b xs)
  where
    skip : (v : Bool) → Contains (map f (recovered_batches many logs xs)) (f (recovered_batch b)) → Contains (map f (if v then recovered_batch x ∷ recovered_batches many logs xs else recovered_batches many logs xs)) (f (recovered_batch b))
    skip true r = contains_there (f (recovered_batch x)) (f (recovered_batch b)) (map f (recovered_batches many logs xs)) r
    skip false r = r

    here : (v : Bool) → x ≡ b → v ≡ true → Contains (map f (if v then recovered_batch x ∷ recovered_batches many logs xs else recovered_batches many logs xs)) (f (recovered_batch b))
    here true i q = subst (λ z. Contains (f (recovered_batch x) ∷ map f (recovered_batches many logs xs)) (f (recovered_batch z))) i (contains_here (f (recovered_batch x)) (map f (recovered_batches many logs xs)))
    here false i q = absurd (true≢false (sym q))

    by : (v : Bool) → (x.bid == k) ≡ v → (if v then Some x else batch_of k xs) ≡ Some b → (batch_of k xs ≡ Some b → is_in many logs (OfBatch k) ≡ true → Contains (map f (recovered_batches many logs xs)) (f (recovered_batch b))) → Contains (map f (recovered_batches many logs (x ∷ xs))) (f (recovered_batch b))
    by true q e r = let i : x ≡ b = cc e in here (is_in many logs (OfBatch x.bid)) i (subst (λ z. is_in many logs (OfBatch z) ≡ true) (sym (eqb-true x.bid k q)) h)
    by false q e r = skip (is_in many logs (OfBatch x.bid)) (r e h)

pub one_is : {X : Type 0} (p : X → Bool) (o : Option X) → holds p o ≡ true → (x : X) × (o ≡ Some x)
one_is p None e = absurd (true≢false (sym e))
one_is p (Some x) e = (x, refl)

pub known_commit : (bs : List Batch) (xs : List Act) (k : ℕ) (rs : List LogRecord) → AllByRecursion (TellsOf bs xs) rs → list_any (is_commit k) rs ≡ true → holds (λ b. not (is_formed b.stage)) (batch_of k bs) ≡ true
known_commit bs xs k [] h e = absurd (true≢false (sym e))
known_commit bs xs k (machine.BatchInfo j actors tids ∷ rs) h e = known_commit bs xs k rs h.1 e
known_commit bs xs k (machine.BatchComplete j a st ∷ rs) h e = known_commit bs xs k rs h.1 e
known_commit bs xs k (machine.BatchDone j vs ∷ rs) h e = elim (or_cases (j == k) _ e) [ inl q ↦ subst (λ z. holds (λ b. not (is_formed b.stage)) (batch_of z bs) ≡ true) (eqb-true j k q) h.0.0 | inr q ↦ known_commit bs xs k rs h.1 q ]
known_commit bs xs k (machine.ActPrepare t a st ∷ rs) h e = known_commit bs xs k rs h.1 e
known_commit bs xs k (machine.ActDone t m c v actors ∷ rs) h e = known_commit bs xs k rs h.1 e

-- what is in: each is kept, is of this run, and they rise
pub new_kept_all : {C : Type 0} (w : Fixed C) (earlier : List (List Record)) (o : Opening) (s : Machine C) (logs : ℕ → List LogRecord) → Known w earlier o s logs → AllByRecursion (IsKeptIn (grown earlier logs)) (all_in w.text.logs logs s) × AllByRecursion (IsNew w.text.opening.next_bid w.text.opening.next_c) (all_in w.text.logs logs s) × Rises (all_in w.text.logs logs s)
new_kept_all {C} w earlier o s logs g = (
  acts_all (IsKeptIn (grown earlier logs)) w.text.logs logs s.book.acts (recovered_batches w.text.logs logs s.desk.batches) (weaker Both (λ x. is_in w.text.logs logs (OfAct x.tid) ≡ true → IsKeptIn (grown earlier logs) (recovered_act x)) s.book.acts (λ x p e. (p e).0) each)
      (new_kept w earlier o s logs s.desk.batches g (weaker (λ b. (w.text.opening.next_bid ≤ b.bid) × (batch_of b.bid s.desk.batches ≡ Some b)) (λ b. batch_of b.bid s.desk.batches ≡ Some b) s.desk.batches (λ b h. h.1) (found_at w.text.opening.next_bid s.desk.batches g.bids))),
  acts_all (IsNew w.text.opening.next_bid w.text.opening.next_c) w.text.logs logs s.book.acts (recovered_batches w.text.logs logs s.desk.batches) (weaker Both (λ x. is_in w.text.logs logs (OfAct x.tid) ≡ true → IsNew w.text.opening.next_bid w.text.opening.next_c (recovered_act x)) s.book.acts (λ x p e. (p e).1) each) rise.0,
  acts_rise w.text.logs logs s.book.acts (recovered_batches w.text.logs logs s.desk.batches) g.apart (λ n. batches_other w.text.logs logs n s.desk.batches) rise.1,
)
  where
    Both : Act → Type 0
    Both x = is_in w.text.logs logs (OfAct x.tid) ≡ true → IsKeptIn (grown earlier logs) (recovered_act x) × IsNew w.text.opening.next_bid w.text.opening.next_c (recovered_act x)

    rise : AllByRecursion (IsNew w.text.opening.next_bid w.text.opening.next_c) (recovered_batches w.text.logs logs s.desk.batches) × Rises (recovered_batches w.text.logs logs s.desk.batches)
    rise = batches_rise w.text.logs logs w.text.opening.next_bid w.text.opening.next_c s.desk.batches g.bids

    each : AllByRecursion Both s.book.acts
    each = both_all (λ x. act_of x.tid s.book.acts ≡ Some x) (λ x. base w.text ≤ x.m) Both s.book.acts (λ x f l e. act_kept w earlier o s logs x g f l e) (found_acts s.book.acts g.apart) g.based

pub committed_grown : {C : Type 0} (w : Fixed C) (earlier : List (List Record)) (o : Opening) (s : Machine C) (logs : ℕ → List LogRecord) → Known w earlier o s logs → IsCommitted (grown earlier logs) (o.committed ++ all_in w.text.logs logs s)
committed_grown {C} w earlier o s logs g =
    let old = old_kept w earlier o s logs o.committed g g.before.committed.each in
    let new = new_kept_all w earlier o s logs g in
    let many = w.text.logs in
    record {
      ascend = rises_from (o.committed ++ all_in w.text.logs logs s) (rises_join w.text.opening.next_bid w.text.opening.next_c o.committed (all_in w.text.logs logs s) g.some_bid (rises_to o.committed g.before.committed.ascend) old.1 new.1 new.2);
      each = all_join (IsKeptIn (grown earlier logs)) o.committed (all_in w.text.logs logs s) old.0 new.0;
      all_batches = λ b h. subst (λ z. Contains z (keys.Commit b)) (sym (map-append commit_of o.committed (all_in w.text.logs logs s))) (elim (in_cases w earlier o s logs b g h) [
        | inl q ↦ contains_left (map commit_of o.committed) (map commit_of (all_in w.text.logs logs s)) (keys.Commit b) (g.before.committed.all_batches b q)
        | inr q ↦ contains_right (map commit_of o.committed) (map commit_of (all_in w.text.logs logs s)) (keys.Commit b) (batch_there b q)
      ]);
      all_acts = λ t h. subst (λ z. Contains z (keys.Act t)) (sym (map-append commit_of o.committed (all_in w.text.logs logs s))) (elim (act_cases w earlier o s logs t g h) [
        | inl q ↦ contains_left (map commit_of o.committed) (map commit_of (all_in w.text.logs logs s)) (keys.Act t) (g.before.committed.all_acts t q)
        | inr q ↦ contains_right (map commit_of o.committed) (map commit_of (all_in w.text.logs logs s)) (keys.Act t) (act_there t q)
      ]);
    }
  where
    batch_there : (b : Bid) → is_in w.text.logs logs (OfBatch b.0) ≡ true → Contains (map commit_of (all_in w.text.logs logs s)) (keys.Commit b)
    batch_there b q =
        let x = one_is (λ b. not (is_formed b.stage)) (batch_of b.0 s.desk.batches) (known_commit s.desk.batches s.book.acts b.0 (logs (b.0 % w.text.logs)) (g.tells (b.0 % w.text.logs)) q) in
        let there = acts_keep commit_of w.text.logs logs s.book.acts (recovered_batches w.text.logs logs s.desk.batches) (keys.Commit (bid_of x.0.bid)) (has_batch commit_of w.text.logs logs b.0 x.0 s.desk.batches x.1 q) in
        subst (λ z. Contains (map commit_of (all_in w.text.logs logs s)) (keys.Commit (bid_of z))) (eqb-true x.0.bid b.0 (found_bid b.0 x.0 s.desk.batches x.1)) there

    act_there : (t : Tid) → is_in w.text.logs logs (OfAct t.0) ≡ true → Contains (map commit_of (all_in w.text.logs logs s)) (keys.Act t)
    act_there t q =
        let x = act_told w earlier o s logs t.0 g q in
        subst (λ z. Contains (map commit_of (all_in w.text.logs logs s)) (keys.Act (tid_of z))) (found_tid t.0 x.act s.book.acts x.found) (acts_have commit_of w.text.logs logs t.0 x.act s.book.acts (recovered_batches w.text.logs logs s.desk.batches) x.found q)
