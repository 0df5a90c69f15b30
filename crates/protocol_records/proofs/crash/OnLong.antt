-- Who is on an actor's long schedule, and what left it for good.
use Rattle.std.specs.Prelude.{◌≡◌, refl, ℕ, ◌==◌, not, Bool, true, false, ◌&&◌, ◌||◌, if◌then◌else◌, Option, Some, None, is_some, List, [], ◌∷◌, ◌++◌, map}
use Rattle.std.proofs.Common.{sym, ap, subst, inl, inr, ◌∙◌}
use Rattle.std.proofs.lemmas.List.{append-nil}
use Rattle.std.proofs.lemmas.Bool.{true≢false, or_cases, or_left, or_right, or_parts, and_parts, eqb-true, false_from_ne_true}
use Rattle.protocol.specs.Fixed.{Fixed}
use Rattle.protocol.specs.Parts.{Cascade, Who, OfBatch, OfAct, Machine}
use Rattle.protocol.specs.Events.{Event, Arrive, Ask, Run, Complete, Rollback, Finish, Trim}
use Rattle.protocol.specs.Words.{holds, is_who, is_value, is_failure, is_doomed, is_sealed, is_settled, who_on, act_of, batch_of, declared_of, lock_of}
use Rattle.protocol.specs.Conditions.{IsAllowed, conditions}
use Rattle.protocol.specs.Effects.{after, cell_at}
use Rattle.protocol.specs.OnBook as book
use Rattle.protocol.specs.OnCell as cell
use Rattle.protocol.specs.OnCell.{is_cut}
use Rattle.protocol.specs.History.{History, Slice, Ran, Stands, Gone, grown, with_at, not_run, ran_in, completed, left_for_good, without_standing, long_staying, asks, is_traceless, ran_on}
use Rattle.protocol_laws.specs.Tracks.{keys_in, is_key_among}
use Rattle.protocol_laws.specs.Commits.{is_kept, has_kept, KeptFront}
use Rattle.protocol_records.specs.Logged.{is_sure, is_ran_of, is_on, GoneSure, AllGoneSure, BatchesSure, ActsSure}
use Rattle.protocol_laws.proofs.machine.TrackLists
use Rattle.protocol_laws.proofs.machine.TurnsKept.{one_is}
use Rattle.protocol_laws.proofs.machine.CommitsKept.{beside_carried, Committed}
use Rattle.protocol_laws.proofs.machine.CommitsKept as chain
use Rattle.protocol_laws.proofs.machine.ActsKept.{Acts}
use Rattle.protocol_records.proofs.crash.Durable.{sure_stays}

-- ---- who is on it

pub on_more : (y who : Who) (rs : List Ran) → is_who who y ≡ false → is_on y (rs ++ not_run who ∷ []) ≡ is_on y rs
on_more y who [] e = rw e refl
on_more y who (r ∷ rs) e = ap (λ z. is_ran_of y r || z) (on_more y who rs e)

pub on_map : (y : Who) (f : Ran → Ran) (rs : List Ran) → ((r : Ran) → is_ran_of y (f r) ≡ is_ran_of y r) → is_on y (map f rs) ≡ is_on y rs
on_map y f [] i = refl
on_map y f (r ∷ rs) i = rw (i r, on_map y f rs i) refl

pub ran_same : (y who : Who) (x : Slice) (r : Ran) → is_ran_of y (ran_in who x r) ≡ is_ran_of y r
ran_same y who x (Stands z c ss) = refl
ran_same y who x (Gone z ss) = refl

pub completed_same : (y : Who) (k : ℕ) (r : Ran) → is_ran_of y (completed k r) ≡ is_ran_of y r
completed_same y k (Stands z c ss) = refl
completed_same y k (Gone z ss) = refl

pub left_same : (y who : Who) (r : Ran) → is_ran_of y (left_for_good who r) ≡ is_ran_of y r
left_same y who (Stands z c ss) = by (is_who z who)
  where
    by : (b : Bool) → is_ran_of y (if b then Gone z ss else Stands z c ss) ≡ is_who z y
    by true = refl
    by false = refl
left_same y who (Gone z ss) = refl

other : (y z who : Who) → is_who who y ≡ false → is_who z who ≡ true → is_who z y ≡ false
other y z who e f = subst (λ v. is_who v y ≡ false) (sym (TrackLists.is_who_true z who f)) e

pub on_without : (y who : Who) (rs : List Ran) → is_who who y ≡ false → is_on y (without_standing who rs) ≡ is_on y rs
on_without y who [] e = refl
on_without y who (Stands z c ss ∷ rs) e = by (is_who z who) refl (on_without y who rs e)
  where
    by : (b : Bool) → is_who z who ≡ b → is_on y (without_standing who rs) ≡ is_on y rs → is_on y (if b then without_standing who rs else Stands z c ss ∷ without_standing who rs) ≡ (is_who z y || is_on y rs)
    by true f k = k ∙ sym (ap (λ v. v || is_on y rs) (other y z who e f))
    by false f k = ap (λ v. is_who z y || v) k
on_without y who (Gone z ss ∷ rs) e = ap (λ v. is_who z y || v) (on_without y who rs e)

kept_is : (y z : Who) (kept : List Who) → is_who z y ≡ true → is_kept y kept ≡ is_kept z kept
kept_is y z kept e = ap (λ v. is_kept v kept) (sym (TrackLists.is_who_true z y e))

pub on_kept : (kept : List Who) (y : Who) (rs : List Ran) → is_kept y kept ≡ true → is_on y rs ≡ true → has_kept kept rs ≡ true
on_kept kept y [] k e = absurd (true≢false (sym e))
on_kept kept y (Stands z c ss ∷ rs) k e = elim (or_cases (is_who z y) (is_on y rs) e) [ inl q ↦ or_left (is_kept z kept) _ (sym (kept_is y z kept q) ∙ k) | inr q ↦ or_right (is_kept z kept) _ (on_kept kept y rs k q) ]
on_kept kept y (Gone z ss ∷ rs) k e = refl

pub differs : (y z : Who) (kept : List Who) → is_kept y kept ≡ true → is_kept z kept ≡ false → is_who z y ≡ false
differs y z kept e f = false_from_ne_true (is_who z y) (λ q. true≢false (sym e ∙ (kept_is y z kept q ∙ f)))

pub on_staying : (kept : List Who) (cs : List Cascade) (y : Who) (rs : List Ran) → ((z : Who) → is_cut cs z ≡ true → is_kept z kept ≡ false) → is_kept y kept ≡ true → KeptFront kept rs → is_on y (long_staying cs rs) ≡ is_on y rs
on_staying kept cs y [] n e k = refl
on_staying kept cs y (Gone z ss ∷ rs) n e k = ap (λ v. is_who z y || v) (on_staying kept cs y rs n e k.1)
on_staying kept cs y (Stands z c ss ∷ rs) n e k = by (is_cut cs z) refl (on_staying kept cs y rs n e k.1)
  where
    by : (b : Bool) → is_cut cs z ≡ b → is_on y (long_staying cs rs) ≡ is_on y rs → is_on y (if b then [] else Stands z c ss ∷ long_staying cs rs) ≡ (is_who z y || is_on y rs)
    by true f g = let u = n z f in
        let none : is_on y rs ≡ false = false_from_ne_true (is_on y rs) (λ q. true≢false (sym (k.0 (on_kept kept y rs e q)) ∙ u)) in
        rw (differs y z kept e u, none) refl
    by false f g = ap (λ v. is_who z y || v) g

-- one that is there and did not commit stands there
pub on_key : (kept : List Who) (y : Who) (rs : List Ran) → is_kept y kept ≡ false → KeptFront kept rs → is_on y rs ≡ true → is_key_among y (keys_in rs) ≡ true
on_key kept y [] n k e = e
on_key kept y (Stands z c ss ∷ rs) n k e = elim (or_cases (is_who z y) (is_on y rs) e) [ inl q ↦ or_left (is_who z y) _ q | inr q ↦ or_right (is_who z y) _ (on_key kept y rs n k.1 q) ]
on_key kept y (Gone z ss ∷ rs) n k e = elim (or_cases (is_who z y) (is_on y rs) e) [ inl q ↦ absurd (true≢false (sym k.0 ∙ (sym (kept_is y z kept q) ∙ n))) | inr q ↦ on_key kept y rs n k.1 q ]

pub on_at : (y : Who) (b a : ℕ) (new : List Ran) (long : ℕ → List Ran) → is_on y new ≡ is_on y (long b) → is_on y (with_at b new long a) ≡ is_on y (long a)
on_at y b a new long k = by (a == b) refl
  where
    by : (v : Bool) → (a == b) ≡ v → is_on y (if v then new else long a) ≡ is_on y (long a)
    by true f = k ∙ ap (λ z. is_on y (long z)) (sym (eqb-true a b f))
    by false f = refl

-- Who committed with a value stays where it is, and comes nowhere.
pub on_stays : {C : Type 0} (w : Fixed C) (e : Event) (s : Machine C) (h : History) (a : ℕ) (y : Who) → chain.Assumed e s h → Committed w h → is_kept y h.kept ≡ true → is_on y ((grown w e s h).long a) ≡ is_on y (h.long a)
unfolding chain.Assumed Committed grown
on_stays w (Arrive k b) s h a y am c q = on_at y b a _ h.long (on_more y (OfBatch k) (h.long b) (differs y (OfBatch k) h.kept q am))
on_stays w (Ask t b) s h a y am c q = on_at y b a _ h.long (asked (book.in_the_way (lock_of t s.book.acts) (cell_at s b).entries))
  where
    asked : (o : Option ℕ) → is_on y (h.long b ++ map not_run (asks t o)) ≡ is_on y (h.long b)
    asked None = on_more y (OfAct t) (h.long b) (differs y (OfAct t) h.kept q am)
    asked (Some older) = ap (is_on y) (append-nil (h.long b))
on_stays w (Run t b) s h a y am c q = on_at y b a _ h.long (reads_on_same (cell.reads_on t (cell_at s b).entries))
  where
    reads_on_same : (v : Bool) → is_on y (ran_on v (who_on t (cell_at s b).entries) (record { tid = t; found = (cell_at s b).state; left = (cell.slice_run w.code t b (cell_at s b)).state }) (h.long b)) ≡ is_on y (h.long b)
    reads_on_same true = refl
    reads_on_same false = on_map y _ (h.long b) (λ r. ran_same y _ _ r)
on_stays w (Complete k b) s h a y am c q = on_at y b a _ h.long (on_map y (completed k) (h.long b) (completed_same y k))
on_stays w (Rollback b) s h a y am c q = on_at y b a _ h.long (on_staying h.kept s.book.cascades y (h.long b) am q (c b).front)
on_stays w (Finish t b) s h a y am c q = on_at y b a _ h.long (finish (is_traceless (act_of t s.book.acts)) am)
  where
    finish : (v : Bool) → is_kept (OfAct t) h.kept ≡ not v → is_on y (if v then without_standing (OfAct t) (h.long b) else map (left_for_good (OfAct t)) (h.long b)) ≡ is_on y (h.long b)
    finish true e = on_without y (OfAct t) (h.long b) (differs y (OfAct t) h.kept q e)
    finish false e = on_map y (left_for_good (OfAct t)) (h.long b) (left_same y (OfAct t))
on_stays w (Trim k b) s h a y am c q = on_at y b a _ h.long (on_map y (left_for_good (OfBatch k)) (h.long b) (left_same y (OfBatch k)))
on_stays w e s h a y am c q = refl

-- ---- what left for good is sure

gone_weaker : (f g : Who → Bool) (rs : List Ran) → ((y : Who) → f y ≡ true → g y ≡ true) → GoneSure f rs → GoneSure g rs
gone_weaker f g [] k h = tt
gone_weaker f g (Stands y c ss ∷ rs) k h = gone_weaker f g rs k h
gone_weaker f g (Gone y ss ∷ rs) k h = (k y h.0, gone_weaker f g rs k h.1)

gone_more : (f : Who → Bool) (who : Who) (rs : List Ran) → GoneSure f rs → GoneSure f (rs ++ not_run who ∷ [])
gone_more f who [] h = tt
gone_more f who (Stands y c ss ∷ rs) h = gone_more f who rs h
gone_more f who (Gone y ss ∷ rs) h = (h.0, gone_more f who rs h.1)

gone_ran : (f : Who → Bool) (who : Who) (x : Slice) (rs : List Ran) → GoneSure f rs → GoneSure f (map (ran_in who x) rs)
gone_ran f who x [] h = tt
gone_ran f who x (Stands y c ss ∷ rs) h = gone_ran f who x rs h
gone_ran f who x (Gone y ss ∷ rs) h = (h.0, gone_ran f who x rs h.1)

gone_complete : (f : Who → Bool) (k : ℕ) (rs : List Ran) → GoneSure f rs → GoneSure f (map (completed k) rs)
gone_complete f k [] h = tt
gone_complete f k (Stands y c ss ∷ rs) h = gone_complete f k rs h
gone_complete f k (Gone y ss ∷ rs) h = (h.0, gone_complete f k rs h.1)

gone_leave : (f : Who → Bool) (who : Who) (rs : List Ran) → f who ≡ true → GoneSure f rs → GoneSure f (map (left_for_good who) rs)
gone_leave f who [] e h = tt
gone_leave f who (Stands y c ss ∷ rs) e h = by (is_who y who) refl (gone_leave f who rs e h)
  where
    by : (b : Bool) → is_who y who ≡ b → GoneSure f (map (left_for_good who) rs) → GoneSure f ((if b then Gone y ss else Stands y c ss) ∷ map (left_for_good who) rs)
    by true q g = (subst (λ z. f z ≡ true) (sym (TrackLists.is_who_true y who q)) e, g)
    by false q g = g
gone_leave f who (Gone y ss ∷ rs) e h = (h.0, gone_leave f who rs e h.1)

gone_without : (f : Who → Bool) (who : Who) (rs : List Ran) → GoneSure f rs → GoneSure f (without_standing who rs)
gone_without f who [] h = tt
gone_without f who (Stands y c ss ∷ rs) h = by (is_who y who) (gone_without f who rs h)
  where
    by : (b : Bool) → GoneSure f (without_standing who rs) → GoneSure f (if b then without_standing who rs else Stands y c ss ∷ without_standing who rs)
    by true g = g
    by false g = g
gone_without f who (Gone y ss ∷ rs) h = (h.0, gone_without f who rs h.1)

gone_staying : (f : Who → Bool) (cs : List Cascade) (rs : List Ran) → GoneSure f rs → GoneSure f (long_staying cs rs)
gone_staying f cs [] h = tt
gone_staying f cs (Stands y c ss ∷ rs) h = by (is_cut cs y) (gone_staying f cs rs h)
  where
    by : (b : Bool) → GoneSure f (long_staying cs rs) → GoneSure f (if b then [] else Stands y c ss ∷ long_staying cs rs)
    by true g = tt
    by false g = g
gone_staying f cs (Gone y ss ∷ rs) h = (h.0, gone_staying f cs rs h.1)

pub value_of : (r : Option Rattle.snap_base.specs.declared.transactions.TxResult.TxResult) → is_some r ≡ true → is_failure r ≡ false → is_value r ≡ true
value_of None e f = e
value_of (Some (Rattle.snap_base.specs.declared.transactions.TxResult.TheVariants.Value v)) e f = refl
value_of (Some (Rattle.snap_base.specs.declared.transactions.TxResult.TheVariants.Fail v)) e f = absurd (true≢false f)

pub gone_kept : {C : Type 0} (w : Fixed C) (e : Event) (s : Machine C) (h : History) → IsAllowed w e s → Acts s h → BatchesSure w s → ActsSure w s → AllGoneSure w s h → AllGoneSure w (after w e s) (grown w e s h)
unfolding AllGoneSure BatchesSure ActsSure Acts conditions after grown
gone_kept w (Arrive k a) s h ok i b x g = beside_carried (λ c long. GoneSure (is_sure w.text.logs s.logs) long) a _ h.long (gone_more _ (OfBatch k) (h.long a)) g
gone_kept w (Ask t a) s h ok i b x g = beside_carried (λ c long. GoneSure (is_sure w.text.logs s.logs) long) a _ h.long (asked (book.in_the_way (lock_of t s.book.acts) (cell_at s a).entries)) g
  where
    asked : (o : Option ℕ) → GoneSure (is_sure w.text.logs s.logs) (h.long a) → GoneSure (is_sure w.text.logs s.logs) (h.long a ++ map not_run (asks t o))
    asked None z = gone_more _ (OfAct t) (h.long a) z
    asked (Some older) z = subst (GoneSure (is_sure w.text.logs s.logs)) (sym (append-nil (h.long a))) z
gone_kept w (Run t a) s h ok i b x g = beside_carried (λ c long. GoneSure (is_sure w.text.logs s.logs) long) a _ h.long (λ x. TrackLists.on_reads (GoneSure (is_sure w.text.logs s.logs)) (cell.reads_on t (cell_at s a).entries) _ _ (h.long a) (λ y. gone_ran _ _ _ (h.long a) y) x) g
gone_kept w (Complete k a) s h ok i b x g = λ c. gone_weaker (is_sure w.text.logs s.logs) (is_sure w.text.logs (after w (Complete k a) s).logs) (with_at a (map (completed k) (h.long a)) h.long c) (λ y q. sure_stays w (Complete k a) s y q) (beside_carried (λ c long. GoneSure (is_sure w.text.logs s.logs) long) a (map (completed k) (h.long a)) h.long (gone_complete _ k (h.long a)) g c)
gone_kept w (Rollback a) s h ok i b x g = beside_carried (λ c long. GoneSure (is_sure w.text.logs s.logs) long) a _ h.long (gone_staying _ s.book.cascades (h.long a)) g
gone_kept w (Finish t a) s h ok i b x g = beside_carried (λ c long. GoneSure (is_sure w.text.logs s.logs) long) a _ h.long (finish (is_traceless (act_of t s.book.acts)) refl) g
  where
    own : is_traceless (act_of t s.book.acts) ≡ false → is_sure w.text.logs s.logs (OfAct t) ≡ true
    own u =
        let y = one_is (λ x. is_doomed x.status || is_sealed x.status) (act_of t s.book.acts) ok.0 in
        let d = or_parts (is_doomed y.0.status) (is_failure y.0.result) (or_parts (is_doomed y.0.status || is_failure y.0.result) y.0.reader (sym (ap is_traceless y.1) ∙ u)).0 in
        let q : is_sealed y.0.status ≡ true = elim (or_cases (is_doomed y.0.status) (is_sealed y.0.status) y.2) [ inl v ↦ absurd (true≢false (sym v ∙ d.0)) | inr v ↦ v ] in
        (x t y.0 y.1).sealed q (value_of y.0.result ((i t y.0 y.1).ended (or_right (Rattle.protocol.specs.Words.is_decided y.0.status) _ q)) d.1)

    finish : (v : Bool) → is_traceless (act_of t s.book.acts) ≡ v → GoneSure (is_sure w.text.logs s.logs) (h.long a) → GoneSure (is_sure w.text.logs s.logs) (if v then without_standing (OfAct t) (h.long a) else map (left_for_good (OfAct t)) (h.long a))
    finish true e z = gone_without _ (OfAct t) (h.long a) z
    finish false e z = gone_leave _ (OfAct t) (h.long a) (own e) z
gone_kept w (Trim k a) s h ok i b x g = beside_carried (λ c long. GoneSure (is_sure w.text.logs s.logs) long) a _ h.long (gone_leave _ (OfBatch k) (h.long a) own) g
  where
    own : is_sure w.text.logs s.logs (OfBatch k) ≡ true
    own = let y = one_is (λ b. is_settled b.stage && (not b.aborted && holds (λ p. not p.trimmed) (declared_of a b))) (batch_of k s.desk.batches) ok.0 in
        (b k y.0 y.1).settled (and_parts (is_settled y.0.stage) _ y.2).0
gone_kept w e s h ok i b x g = λ c. gone_weaker (is_sure w.text.logs s.logs) (is_sure w.text.logs (after w e s).logs) (h.long c) (λ y q. sure_stays w e s y q) (g c)
