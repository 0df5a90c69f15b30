-- When one commits, all that committed before it on one of its actors is sure: it settled, was sealed, or left for good.
use Rattle.std.specs.Prelude.{◌≡◌, refl, ℕ, ◌+◌, ◌≤◌, ◌==◌, max, nat_le, not, Bool, true, false, ◌&&◌, ◌||◌, if◌then◌else◌, Option, Some, None, is_some, List, [], ◌∷◌, ◌++◌, map}
use Rattle.std.specs.List.{AllByRecursion, list_any, list_all}
use Rattle.std.proofs.Common.{arith, sym, ap, subst, inl, inr, ◌∙◌}
use Rattle.std.proofs.lemmas.List.{append-nil}
use Rattle.std.proofs.lemmas.Bool.{true≢false, or_cases, or_left, or_right, and_parts, eqb-true, leb-true, cases_Bool, false_from_ne_true, not-true}
use Rattle.snap_base.specs.declared.transactions.Tx.{Tx}
use Rattle.snap_base.specs.declared.transactions.State.{State}
use Rattle.protocol_laws.proofs.machine.ReadersSee.{ReadBy, not_read, reads_at}
use Rattle.protocol.specs.Facts.{Alone}
use Rattle.protocol.specs.Fixed.{Fixed, base}
use Rattle.protocol.specs.Parts.{Act, Batch, Stage, Formed, Committing, Settled, Cascade, Who, OfBatch, OfAct, Waiting, Machine}
use Rattle.protocol.specs.Events.{Event, Commit, Decide}
use Rattle.protocol.specs.Words.{holds, is_who, is_value, is_doomed, is_live_status, is_sealed, is_settled, is_committing, is_formed, is_open, is_next_to_commit, is_aborted, act_of, batch_of, declared_of, waiting_of}
use Rattle.protocol.specs.Conditions.{IsAllowed, conditions}
use Rattle.protocol.specs.Effects.{after, cell_at}
use Rattle.protocol.specs.History.{History, Ran, Stands, Gone, grown, kept_act, is_reader_act}
use Rattle.protocol_laws.specs.Tracks.{Key, keys_in, is_key_among, InOrder, has_read}
use Rattle.protocol_laws.specs.Commits.{is_kept, KeptFront}
use Rattle.protocol_laws.specs.Befores.{Befores}
use Rattle.protocol_laws.specs.Marks.{is_done, IsAbortedOrDone, Marked, Known}
use Rattle.protocol_laws.specs.FromDesk.{is_declared}
use Rattle.protocol_records.specs.Logged.{is_sure, is_on, GoneSure, AllGoneSure, KeptSure, AllKeptSure, BatchesSure, ActsSure}
use Rattle.protocol_laws.proofs.machine.TrackLists
use Rattle.protocol_laws.proofs.machine.TracksKept.{Tracked}
use Rattle.protocol_laws.proofs.machine.TurnsKept.{one_is}
use Rattle.protocol_laws.proofs.first.SettlingKept as settling
use Rattle.protocol_laws.proofs.first.SettlingKeys as keys
use Rattle.protocol_laws.proofs.machine.BatchesCommit.{KeyOrder, GoodKey, OfDesk, key_order}
use Rattle.protocol_laws.proofs.machine.CommitsKept.{Committed}
use Rattle.protocol_laws.proofs.machine.BeforesKept.{Numbers}
use Rattle.protocol_laws.proofs.machine.BehindKept.{Behind, AllBehind}
use Rattle.protocol_laws.proofs.machine.StartsKept.{Starts, Started, ran_there}
use Rattle.protocol_laws.proofs.machine.ActResults as results
use Rattle.protocol_laws.proofs.machine.ActsOwed.{top_at, sound_at, good_keys}
use Rattle.protocol_laws.proofs.machine.Good as whole
use Rattle.protocol_laws.proofs.machine.Good.{Given}
use Rattle.protocol_laws.proofs.machine.AllGood.{AllGood}
use Rattle.protocol_laws.proofs.machine.AllGood as all
use Rattle.protocol_records.proofs.crash.OnLong.{on_kept, on_key, on_stays}
use Rattle.protocol_records.proofs.crash.Durable.{sure_stays}
use Rattle.protocol_laws.proofs.first.Lists.{all_found, any_join, some_of}
use Rattle.protocol_laws.proofs.first.Statuses.{live_not_doomed, live_unordered}

-- ---- along one long schedule

pub same_who : (P : Who → Bool) (y z : Who) → is_who y z ≡ true → P y ≡ true → P z ≡ true
same_who P y z e h = subst (λ v. P v ≡ true) (TrackLists.is_who_true y z e) h

done_marks : (kept : List Who) (k : ℕ) (rs : List Ran) → is_kept (OfBatch k) kept ≡ false → KeptFront kept rs → is_done k rs ≡ true → list_any (λ x. x.complete) (keys_in rs) ≡ true
done_marks kept k [] n f d = absurd (true≢false (sym d))
done_marks kept k (Stands y c ss ∷ rs) n f d = elim (or_cases (c && is_who y (OfBatch k)) (is_done k rs) d) [ inl q ↦ or_left c _ (and_parts c (is_who y (OfBatch k)) q).0 | inr q ↦ or_right c _ (done_marks kept k rs n f.1 q) ]
done_marks kept k (Gone y ss ∷ rs) n f d = elim (or_cases (is_who y (OfBatch k)) (is_done k rs) d) [ inl q ↦ absurd (true≢false (sym (same_who (λ v. is_kept v kept) y (OfBatch k) q f.0) ∙ n)) | inr q ↦ done_marks kept k rs n f.1 q ]

-- a batch that is complete, and has not committed
ahead_of_batch : (sure : Who → Bool) (kept : List Who) (k a : ℕ) (bs : List Batch) (rs : List Ran) (z : Who) → is_kept (OfBatch k) kept ≡ false → ((j : ℕ) → is_kept (OfBatch j) kept ≡ true → sure (OfBatch j) ≡ true)
    → GoneSure sure rs → KeptFront kept rs → is_done k rs ≡ true → KeyOrder (keys_in rs) → AllByRecursion (GoodKey a bs) (keys_in rs) → is_kept z kept ≡ true → is_on z rs ≡ true → sure z ≡ true
ahead_of_batch sure kept k a bs [] z n b g f d o q i e = absurd (true≢false (sym e))
ahead_of_batch sure kept k a bs (Gone y ss ∷ rs) z n b g f d o q i e = elim (or_cases (is_who y z) (is_on z rs) e) [
  | inl v ↦ same_who sure y z v g.0
  | inr v ↦ elim (or_cases (is_who y (OfBatch k)) (is_done k rs) d) [
    | inl u ↦ absurd (true≢false (sym (same_who (λ v. is_kept v kept) y (OfBatch k) u f.0) ∙ n))
    | inr u ↦ ahead_of_batch sure kept k a bs rs z n b g.1 f.1 u o q i v
  ]
]
ahead_of_batch sure kept k a bs (Stands (OfBatch x) c ss ∷ rs) z n b g f d o q i e = elim (or_cases (is_who (OfBatch x) z) (is_on z rs) e) [
  | inl v ↦ same_who sure (OfBatch x) z v (b x (subst (λ y. is_kept y kept ≡ true) (sym (TrackLists.is_who_true (OfBatch x) z v)) i))
  | inr v ↦ elim (or_cases (c && (x == k)) (is_done k rs) d) [
    | inl u ↦ absurd (true≢false (sym (same_who (λ v. is_kept v kept) (OfBatch x) (OfBatch k) (and_parts c (x == k) u).1 (f.0 (on_kept kept z rs i v))) ∙ n))
    | inr u ↦ ahead_of_batch sure kept k a bs rs z n b g f.1 u o.1 q.1 i v
  ]
]
ahead_of_batch sure kept k a bs (Stands (OfAct t) c ss ∷ rs) z n b g f d o q i e = elim (or_cases (c && false) (is_done k rs) d) [
  | inl u ↦ absurd (true≢false (sym (and_parts c false u).1))
  | inr u ↦ absurd (true≢false (q.0.1 (o.0 (done_marks kept k rs n f.1 u))))
]

-- an ACT that ran, and has not committed
ahead_of_act : {C : Type 0} (sure : Who → Bool) (acts : List Act) (cs : List Cascade) (bs : List Batch) (kept : List Who) (a top : ℕ) (bad : Bool) (t : ℕ) (x : Act) (rd : ℕ → Bool) (xs : List (Waiting C)) (rs : List Ran) (z : Who) → act_of t acts ≡ Some x → is_doomed x.status ≡ false → is_some (waiting_of t xs) ≡ false
    → ((j : ℕ) → is_declared j a bs ≡ true → j ≤ x.m → is_aborted j cs ≡ false → sure (OfBatch j) ≡ true) → Befores acts top rs → Behind acts cs bad rs → InOrder rs → AllByRecursion (GoodKey a bs) (keys_in rs) → rd t ≡ false → Starts rd xs rs
    → GoneSure sure rs → KeptFront kept rs → is_kept (OfAct t) kept ≡ false → is_key_among (OfAct t) (keys_in rs) ≡ true → is_kept z kept ≡ true → is_on z rs ≡ true → sure z ≡ true
ahead_of_act sure acts cs bs kept a top bad t x rd xs [] z e d n j b h o q nr st g f u m i v = absurd (true≢false (sym v))
ahead_of_act sure acts cs bs kept a top bad t x rd xs (Gone (OfBatch k) ss ∷ rs) z e d n j b h o q nr st g f u m i v = elim (or_cases (is_who (OfBatch k) z) (is_on z rs) v) [
  | inl c ↦ same_who sure (OfBatch k) z c g.0
  | inr c ↦ ahead_of_act sure acts cs bs kept a (max top k) (bad || is_aborted k cs) t x rd xs rs z e d n j b h o q nr st g.1 f.1 u m i c
]
ahead_of_act sure acts cs bs kept a top bad t x rd xs (Gone (OfAct k) ss ∷ rs) z e d n j b h o q nr st g f u m i v = elim (or_cases (is_who (OfAct k) z) (is_on z rs) v) [
  | inl c ↦ same_who sure (OfAct k) z c g.0
  | inr c ↦ ahead_of_act sure acts cs bs kept a top bad t x rd xs rs z e d n j b h o q nr st g.1 f.1 u m i c
]
ahead_of_act sure acts cs bs kept a top bad t x rd xs (Stands (OfBatch k) true ss ∷ rs) z e d n j b h o q nr st g f u m i v = elim (or_cases (is_who (OfBatch k) z) (is_on z rs) v) [
  | inl c ↦ same_who sure (OfBatch k) z c (j k q.0.0 (omega (arith, top_at acts t (max top k) x rs e d b m)) (sound_at acts cs bad k t x rs e d h m))
  | inr c ↦ ahead_of_act sure acts cs bs kept a (max top k) (bad || is_aborted k cs) t x rd xs rs z e d n j b h o.1 q.1 nr st g f.1 u m i c
]
ahead_of_act sure acts cs bs kept a top bad t x rd xs (Stands (OfBatch k) false ss ∷ rs) z e d n j b h o q nr st g f u m i v = absurd (ran_there rd xs t rs n nr m st (o.0 refl))
ahead_of_act sure acts cs bs kept a top bad t x rd xs (Stands (OfAct k) true ss ∷ rs) z e d n j b h o q nr st g f u m i v = absurd (true≢false (q.0.1 refl))
ahead_of_act sure acts cs bs kept a top bad t x rd xs (Stands (OfAct k) false ss ∷ rs) z e d n j b h o q nr st g f u m i v = elim (or_cases (k == t) (is_key_among (OfAct t) (keys_in rs)) m) [
  | inl c ↦ elim (or_cases (is_who (OfAct k) z) (is_on z rs) v) [
    | inl p ↦ absurd (true≢false (sym (subst (λ y. is_kept y kept ≡ true) (sym (TrackLists.is_who_true (OfAct k) z p)) i) ∙ (ap (λ y. is_kept (OfAct y) kept) (eqb-true k t c) ∙ u)))
    | inr p ↦ absurd (true≢false (sym (f.0 (on_kept kept z rs i p)) ∙ (ap (λ y. is_kept (OfAct y) kept) (eqb-true k t c) ∙ u)))
  ]
  | inr c ↦ absurd (ran_there rd xs t rs n nr c st.1 (o.0 refl))
]

-- ---- in the order of commits

any_weaker : (p q : Who → Bool) (ys : List Who) (kept : List Who) → ((y : Who) → is_kept y kept ≡ true → p y ≡ true → q y ≡ true) → ((y : Who) → is_kept y ys ≡ true → is_kept y kept ≡ true) → list_any p ys ≡ true → list_any q ys ≡ true
any_weaker p q [] kept k i h = h
any_weaker p q (y ∷ ys) kept k i h = elim (or_cases (p y) (list_any p ys) h) [
  | inl e ↦ or_left (q y) _ (k y (i y (or_left (is_who y y) _ (TrackLists.is_who_refl y))) e)
  | inr e ↦ or_right (q y) _ (any_weaker p q ys kept k (λ z g. i z (or_right (is_who y z) _ g)) e)
]

pub kept_same : (sure sure' on on' : Who → Bool) (ys kept : List Who) → ((y : Who) → is_kept y kept ≡ true → on' y ≡ true → on y ≡ true) → ((y : Who) → sure y ≡ true → sure' y ≡ true) → ((y : Who) → is_kept y ys ≡ true → is_kept y kept ≡ true) → KeptSure sure on ys → KeptSure sure' on' ys
kept_same sure sure' on on' [] kept k l i h = tt
kept_same sure sure' on on' (y ∷ ys) kept k l i h =
    let j : (z : Who) → is_kept z ys ≡ true → is_kept z kept ≡ true = λ z g. i z (or_right (is_who y z) _ g) in
    ((λ e f. l y (h.0 (k y (i y (or_left (is_who y y) _ (TrackLists.is_who_refl y))) e) (any_weaker on' on ys kept k j f))), kept_same sure sure' on on' ys kept k l j h.1)

pub kept_more : (sure on : Who → Bool) (kept : List Who) (y : Who) → (on y ≡ true → (z : Who) → is_kept z kept ≡ true → on z ≡ true → sure z ≡ true) → KeptSure sure on kept → KeptSure sure on (kept ++ y ∷ [])
kept_more sure on [] y k h = ((λ e f. absurd (true≢false (sym f))), tt)
kept_more sure on (z ∷ zs) y k h = (
  (λ e f. elim (any_join on zs (y ∷ []) f) [ inl q ↦ h.0 e q | inr q ↦ elim (or_cases (on y) false q) [ inl v ↦ k v z (or_left (is_who z z) _ (TrackLists.is_who_refl z)) e | inr v ↦ absurd (true≢false (sym v)) ] ]),
  kept_more sure on zs y (λ e v g o. k e v (or_right (is_who z v) _ g) o) h.1,
)

-- ---- a batch commits

stage_cases : (st : Stage) → is_formed st ≡ false → is_committing st ≡ false → is_settled st ≡ true
stage_cases Formed e f = absurd (true≢false e)
stage_cases Committing e f = absurd (true≢false f)
stage_cases Settled e f = refl

pub there_is : {X : Type 0} (o : Option X) → is_some o ≡ true → holds (λ x. true) o ≡ true
there_is None q = absurd (true≢false (sym q))
there_is (Some x) q = refl

-- What is sure: what settled, what was sealed with a value, and what left for good.
pub record SureOf {C : Type 0} (sure : Who → Bool) (s : Machine C) (h : History) : Type 0 where
  pub settled : (k : ℕ) → holds (λ b. is_settled b.stage) (batch_of k s.desk.batches) ≡ true → sure (OfBatch k) ≡ true
  pub sealed : (t : ℕ) → holds (λ x. is_sealed x.status && is_value x.result) (act_of t s.book.acts) ≡ true → sure (OfAct t) ≡ true
  pub gone : (a : ℕ) → GoneSure sure (h.long a)

-- as what has a durable commit record is
pub sure_of : {C : Type 0} (w : Fixed C) (s : Machine C) (h : History) → BatchesSure w s → ActsSure w s → AllGoneSure w s h → SureOf (is_sure w.text.logs s.logs) s h
unfolding BatchesSure ActsSure AllGoneSure
sure_of w s h b su gs = record {
  settled = λ k q. let c = one_is (λ b. is_settled b.stage) (batch_of k s.desk.batches) q in (b k c.0 c.1).settled c.2;
  sealed = λ t q. let x = one_is (λ x. is_sealed x.status && is_value x.result) (act_of t s.book.acts) q in let v = and_parts (is_sealed x.0.status) (is_value x.0.result) x.2 in (su t x.0 x.1).sealed v.0 v.1;
  gone = gs;
}

-- when a batch commits, each batch that committed is settled
kept_settled : {C : Type 0} (w : Fixed C) (k j : ℕ) (s : Machine C) (h : History) → IsAllowed w (Commit k) s → settling.Settling w s → Known s h → Marked s h → is_kept (OfBatch j) h.kept ≡ true → holds (λ b. is_settled b.stage) (batch_of j s.desk.batches) ≡ true
unfolding conditions Known Marked settling.Settling keys.OverBelow
kept_settled w k j s h ok g n m q =
    let c = one_is (λ x. true) (batch_of j s.desk.batches) (there_is (batch_of j s.desk.batches) (n j q)) in
    let formed : is_formed c.0.stage ≡ false = not-true (is_formed c.0.stage) (sym (m j c.0 c.1).known ∙ q) in
    let y = one_is (λ b. is_open b && is_next_to_commit k s.desk.batches) (batch_of k s.desk.batches) ok.0 in
    let v = and_parts (is_open y.0) (is_next_to_commit k s.desk.batches) y.2 in
    let o = and_parts (is_formed y.0.stage) (not y.0.aborted) v.0 in
    let ky = settling.in_keys y.0 (λ x. x.bid == k) s.desk.batches y.1 in
    let kc = settling.in_keys c.0 (λ x. x.bid == j) s.desk.batches c.1 in
    subst (λ o. holds (λ b. is_settled b.stage) o ≡ true) (sym c.1) (elim (cases_Bool (is_committing c.0.stage)) [
      | inr f ↦ stage_cases c.0.stage formed f
      | inl f ↦ absurd (by c.0.stage y.0.stage (below c.0 y.0 kc.0 ky.0 kc.1 ky.1 formed f o.0 (not-true y.0.aborted o.1) v.1))
    ])
  where
    by : Stage → Stage → ⊥ → ⊥
    by st tt' e = e

    below : (c y : Batch) → keys.IsIn (settling.key_of c) (map settling.key_of s.desk.batches) → keys.IsIn (settling.key_of y) (map settling.key_of s.desk.batches) → (c.bid == j) ≡ true → (y.bid == k) ≡ true → is_formed c.stage ≡ false → is_committing c.stage ≡ true → is_formed y.stage ≡ true → y.aborted ≡ false → is_next_to_commit k s.desk.batches ≡ true → ⊥
    below c y ic iy ec ey f cm fy ay nx = elim (Rattle.std.proofs.lemmas.Bool.cases_lt c.bid y.bid) [
      | inl l ↦ elim (or_cases c.aborted (is_settled c.stage) (settling.next_over k s.desk.batches nx (settling.key_of c) ic (omega (arith, l, eqb-true y.bid k ey)))) [
        | inl u ↦ true≢false (sym (g.formed (settling.key_of c) ic u) ∙ f)
        | inr u ↦ not_both c.stage cm u
      ]
      | inr l ↦ elim (Rattle.std.proofs.lemmas.Bool.cases_lt y.bid c.bid) [
        | inl r ↦ elim (or_cases y.aborted (is_settled y.stage) (g.below_committing (settling.key_of c) ic cm (settling.key_of y) iy r)) [
          | inl u ↦ true≢false (sym u ∙ ay)
          | inr u ↦ not_formed y.stage fy u
        ]
        | inr r ↦ true≢false (sym fy ∙ (sym (ap (λ z. is_formed z.stage) (keys.one_key _ _ (settling.key_of c) (settling.key_of y) _ g.rises ic iy (omega (arith, l, r)))) ∙ f))
      ]
    ]
      where
        not_both : (st : Stage) → is_committing st ≡ true → is_settled st ≡ true → ⊥
        not_both Formed e f = true≢false (sym e)
        not_both Committing e f = true≢false (sym f)
        not_both Settled e f = true≢false (sym e)

        not_formed : (st : Stage) → is_formed st ≡ true → is_settled st ≡ true → ⊥
        not_formed Formed e f = true≢false (sym f)
        not_formed Committing e f = true≢false (sym e)
        not_formed Settled e f = true≢false (sym e)

pub list_all_at : {X : Type 0} (p q : X → Bool) (x : X) (xs : List X) → Rattle.std.specs.Prelude.find p xs ≡ Some x → list_all q xs ≡ true → q x ≡ true
list_all_at p q x [] f h = absurd (cc f)
list_all_at p q x (y ∷ ys) f h = let a = and_parts (q y) (list_all q ys) h in by (p y) f a.0 (λ g. list_all_at p q x ys g a.1)
  where
    by : (b : Bool) → (if b then Some y else Rattle.std.specs.Prelude.find p ys) ≡ Some x → q y ≡ true → (Rattle.std.specs.Prelude.find p ys ≡ Some x → q x ≡ true) → q x ≡ true
    by true f a k = let e : y ≡ x = cc f in subst (λ z. q z ≡ true) e a
    by false f a k = k f

pub declared_at : (a k : ℕ) (bs : List Batch) (ks : List Key) → is_key_among (OfBatch k) ks ≡ true → AllByRecursion (GoodKey a bs) ks → is_declared k a bs ≡ true
declared_at a k bs [] e f = absurd (true≢false (sym e))
declared_at a k bs (x ∷ xs) e f = elim (or_cases (is_who x.who (OfBatch k)) (is_key_among (OfBatch k) xs) e) [ inl q ↦ subst (OfDesk a bs) (TrackLists.is_who_true x.who (OfBatch k) q) f.0.0 | inr q ↦ declared_at a k bs xs q f.1 ]

pub record AtCommit {C : Type 0} (s : Machine C) (k : ℕ) : Type 0 where
  pub batch : Batch
  pub found : batch_of k s.desk.batches ≡ Some batch
  pub formed : is_formed batch.stage ≡ true
  pub sound : is_aborted k s.book.cascades ≡ false
  pub noted : list_all (λ p. p.noted) batch.places ≡ true

pub at_commit : {C : Type 0} (w : Fixed C) (k : ℕ) (s : Machine C) → IsAllowed w (Commit k) s → settling.Settling w s → AtCommit s k
unfolding conditions
at_commit w k s ok g =
    let y = one_is (λ b. is_open b && is_next_to_commit k s.desk.batches) (batch_of k s.desk.batches) ok.0 in
    let v = and_parts (is_open y.0) (is_next_to_commit k s.desk.batches) y.2 in
    let o = and_parts (is_formed y.0.stage) (not y.0.aborted) v.0 in
    record { batch = y.0; found = y.1; formed = o.0; sound = sym (settling.mark_is w s k y.0 y.1 g) ∙ not-true y.0.aborted o.1; noted = some_of (λ b. list_all (λ p. p.noted) b.places) (batch_of k s.desk.batches) y.0 y.1 ok.1.1.0 }

-- who is on the actor when a batch that is there commits
pub commit_sure : {C : Type 0} (w : Fixed C) (Of : Tx → C → Type 0) (finish : C → List State → Alone) (k a : ℕ) (s : Machine C) (h : History) → (sure : Who → Bool) → IsAllowed w (Commit k) s → AllGood w Of finish s h → SureOf sure s h
    → is_on (OfBatch k) (h.long a) ≡ true → (z : Who) → is_kept z h.kept ≡ true → is_on z (h.long a) ≡ true → sure z ≡ true
unfolding Tracked Marked Committed
commit_sure w Of finish k a s h sure ok g su on z kz oz =
    let c = at_commit w k s ok g.good.settling in
    let fresh : is_kept (OfBatch k) h.kept ≡ false = (g.good.marked k c.batch c.found).known ∙ ap not c.formed in
    let front = (g.good.committed a).front in
    let good : AllByRecursion (GoodKey a s.desk.batches) (keys_in (h.long a)) = subst (AllByRecursion (GoodKey a s.desk.batches)) (g.good.tracked a).stands (good_keys a s.desk.batches (cell_at s a).entries (g.good.from_desk.entries a)) in
    let d : is_declared k a s.desk.batches ≡ true = declared_at a k s.desk.batches (keys_in (h.long a)) (on_key h.kept (OfBatch k) (h.long a) fresh front on) good in
    let p = one_is (λ x. true) (declared_of a c.batch) (there_is (declared_of a c.batch) (some_of (λ b. is_some (declared_of a b)) (batch_of k s.desk.batches) c.batch c.found d)) in
    let over = all_found (λ p. p.noted ≡ true → IsAbortedOrDone k s.book.cascades (h.long p.actor)) (λ p. p.actor == a) c.batch.places p.0 (g.good.marked k c.batch c.found).noted p.1 in
    elim (subst (λ v. IsAbortedOrDone k s.book.cascades (h.long v)) (eqb-true p.0.actor a over.1) (over.0 (list_all_at (λ p. p.actor == a) (λ p. p.noted) p.0 c.batch.places p.1 c.noted))) [
      | inl q ↦ absurd (true≢false (sym q ∙ c.sound))
      | inr q ↦ ahead_of_batch sure h.kept k a s.desk.batches (h.long a) z fresh (λ j e. su.settled j (kept_settled w k j s h ok g.good.settling g.good.known g.good.marked e)) (su.gone a) front q (subst KeyOrder (g.good.tracked a).stands (key_order (cell_at s a).entries (g.good.from_desk.in_order a))) good kz oz
    ]

-- ---- an ACT gets its place

pub settled_low : {C : Type 0} (w : Fixed C) (s : Machine C) (k a : ℕ) → settling.Settling w s → is_declared k a s.desk.batches ≡ true → k ≤ s.desk.settled → is_aborted k s.book.cascades ≡ false → holds (λ b. is_settled b.stage) (batch_of k s.desk.batches) ≡ true
settled_low w s k a g e l n =
    let c = one_is (λ b. is_some (declared_of a b)) (batch_of k s.desk.batches) e in
    elim (or_cases c.0.aborted (is_settled c.0.stage) (settling.over_settled w s k c.0 c.1 g l)) [
      | inl q ↦ absurd (true≢false (sym q ∙ (settling.mark_is w s k c.0 c.1 g ∙ n)))
      | inr q ↦ subst (λ o. holds (λ b. is_settled b.stage) o ≡ true) (sym c.1) q
    ]

pub record AtDecide {C : Type 0} (s : Machine C) (h : History) (t : ℕ) : Type 0 where
  pub act : Act
  pub found : act_of t s.book.acts ≡ Some act
  pub tid : act.tid ≡ t
  pub has_result : is_some act.result ≡ true
  pub live : is_live_status act.status ≡ true
  pub low : act.m ≤ s.desk.settled
  pub fresh : is_kept (OfAct t) h.kept ≡ false
  pub away : (a : ℕ) → is_some (waiting_of t (cell_at s a).inbox) ≡ false

pub at_decide : {C : Type 0} (w : Fixed C) (Of : Tx → C → Type 0) (finish : C → List State → Alone) (t : ℕ) (s : Machine C) (h : History) → IsAllowed w (Decide t) s → AllGood w Of finish s h → AtDecide s h t
unfolding conditions Rattle.protocol_laws.proofs.machine.ActsKept.Acts
at_decide {C} w Of finish t s h ok g =
    let x = one_is (λ x. is_some x.result && is_live_status x.status) (act_of t s.book.acts) ok.0 in
    let v = and_parts (is_some x.0.result) (is_live_status x.0.status) x.2 in
    let l = leb-true x.0.m (max s.desk.settled (base w.text)) (some_of (λ x. nat_le x.m (max s.desk.settled (base w.text))) (act_of t s.book.acts) x.0 x.1 ok.1.1.0) in
    record {
      act = x.0;
      found = x.1;
      tid = Rattle.protocol_laws.proofs.machine.ActsFound.found_tid t x.0 s.book.acts x.1;
      has_result = v.0;
      live = v.1;
      low = omega (arith, l, g.sizes.based);
      fresh = (g.acts t x.0 x.1).known ∙ ap (λ q. q && (is_value x.0.result && not x.0.reader)) (live_unordered x.0.status v.1);
      away = λ a. false_from_ne_true (is_some (waiting_of t (cell_at s a).inbox)) (λ q. true≢false (sym v.0 ∙ ap is_some (results.waiting_none t a s q g.none t x.0 x.1 refl)));
    }

-- one that does not only read
pub decide_sure : {C : Type 0} (w : Fixed C) (Of : Tx → C → Type 0) (finish : C → List State → Alone) (t a : ℕ) (s : Machine C) (h : History) (sure : Who → Bool) → IsAllowed w (Decide t) s → AllGood w Of finish s h → SureOf sure s h
    → is_reader_act (act_of t s.book.acts) ≡ false → is_on (OfAct t) (h.long a) ≡ true → (z : Who) → is_kept z h.kept ≡ true → is_on z (h.long a) ≡ true → sure z ≡ true
unfolding Tracked Committed Numbers AllBehind Started ReadBy
decide_sure w Of finish t a s h sure ok g su nr on z kz oz =
    let x = at_decide w Of finish t s h ok g in
    let front = (g.good.committed a).front in
    ahead_of_act sure s.book.acts s.book.cascades s.desk.batches h.kept a 0 false t x.act (has_read (h.reads a)) (cell_at s a).inbox (h.long a) z x.found (live_not_doomed x.act.status x.live) (x.away a)
    (λ j e l n. su.settled j (settled_low w s j a g.good.settling e (omega (arith, l, x.low)) n)) (g.good.numbers a) (g.behind a) (g.good.tracked a).in_order
    (subst (AllByRecursion (GoodKey a s.desk.batches)) (g.good.tracked a).stands (good_keys a s.desk.batches (cell_at s a).entries (g.good.from_desk.entries a))) (not_read a t s.book.acts (h.reads a) (no_reads (act_of t s.book.acts) nr) (g.read_by a)) (g.started a) (su.gone a) front x.fresh (on_key h.kept (OfAct t) (h.long a) x.fresh front on) kz oz
  where
    no_reads : (o : Option Act) → is_reader_act o ≡ false → holds (reads_at a) o ≡ false
    no_reads None r = refl
    no_reads (Some x) r = rw r refl

-- ---- all events

self : (kept : List Who) (y : Who) → is_kept y kept ≡ true → is_kept y kept ≡ true
self kept y e = e

pub kept_sure : {C : Type 0} (w : Fixed C) (Of : Tx → C → Type 0) (finish : C → List State → Alone) (e : Event) (s : Machine C) (h : History) → Given w Of finish → IsAllowed w e s → AllGood w Of finish s h → SureOf (is_sure w.text.logs s.logs) s h → AllKeptSure w s h → AllKeptSure w (after w e s) (grown w e s h)
unfolding AllKeptSure grown
kept_sure w Of finish (Commit k) s h v ok g su q = λ a. kept_same (is_sure w.text.logs s.logs) (is_sure w.text.logs (after w (Commit k) s).logs) (λ y. is_on y (h.long a)) (λ y. is_on y (h.long a)) (h.kept ++ OfBatch k ∷ []) (h.kept ++ OfBatch k ∷ []) (λ y i o. o) (λ y i. sure_stays w (Commit k) s y i) (self _)
    (kept_more (is_sure w.text.logs s.logs) (λ y. is_on y (h.long a)) h.kept (OfBatch k) (λ o z kz oz. commit_sure w Of finish k a s h (is_sure w.text.logs s.logs) ok g su o z kz oz) (q a))
kept_sure w Of finish (Decide t) s h v ok g su q = λ a. kept_same (is_sure w.text.logs s.logs) (is_sure w.text.logs (after w (Decide t) s).logs) (λ y. is_on y (h.long a)) (λ y. is_on y (h.long a)) (h.kept ++ kept_act (act_of t s.book.acts)) (h.kept ++ kept_act (act_of t s.book.acts)) (λ y i o. o) (λ y i. sure_stays w (Decide t) s y i) (self _) (one a)
  where
    one : (a : ℕ) → KeptSure (is_sure w.text.logs s.logs) (λ y. is_on y (h.long a)) (h.kept ++ kept_act (act_of t s.book.acts))
    one a = let x = at_decide w Of finish t s h ok g in subst (λ o. KeptSure (is_sure w.text.logs s.logs) (λ y. is_on y (h.long a)) (h.kept ++ kept_act o)) (sym x.found) (by (is_value x.act.result) x.act.reader (ap is_reader_act x.found) x.act.tid x.tid)
      where
        by : (c v : Bool) → is_reader_act (act_of t s.book.acts) ≡ v → (u : ℕ) → u ≡ t → KeptSure (is_sure w.text.logs s.logs) (λ y. is_on y (h.long a)) (h.kept ++ (if c && not v then OfAct u ∷ [] else []))
        by true false r u e = kept_more (is_sure w.text.logs s.logs) (λ y. is_on y (h.long a)) h.kept (OfAct u) (λ o z kz oz. decide_sure w Of finish t a s h (is_sure w.text.logs s.logs) ok g su r (subst (λ i. is_on (OfAct i) (h.long a) ≡ true) e o) z kz oz) (q a)
        by true true r u e = subst (KeptSure (is_sure w.text.logs s.logs) (λ y. is_on y (h.long a))) (sym (append-nil h.kept)) (q a)
        by false v r u e = subst (KeptSure (is_sure w.text.logs s.logs) (λ y. is_on y (h.long a))) (sym (append-nil h.kept)) (q a)
kept_sure w Of finish e s h v ok g su q = λ a. kept_same (is_sure w.text.logs s.logs) (is_sure w.text.logs (after w e s).logs) (λ y. is_on y (h.long a)) (λ y. is_on y ((grown w e s h).long a)) h.kept h.kept
    (λ y i o. sym (on_stays w e s h a y (whole.for_chain w Of finish e s h v ok (all.owes w Of finish e s h v ok g) g.good) g.good.committed i) ∙ o) (λ y i. sure_stays w e s y i) (self h.kept) (q a)
