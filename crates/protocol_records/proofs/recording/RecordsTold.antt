-- What a record tells is so, from what is known of its log.
use Rattle.std.specs.Prelude.{◌≡◌, refl, ℕ, ℤ, ◌==◌, not, Bool, true, ◌&&◌, Option, Some, None, option_map, List, [], ◌∷◌, map}
use Rattle.std.specs.List.{AllByRecursion, list_any}
use Rattle.std.proofs.Common.{sym, subst, inl, inr, ◌∙◌}
use Rattle.std.proofs.lemmas.Bool.{or_cases, or_left, or_right, and_parts, and_from, eq-eqb}
use Rattle.snap_base.specs.declared.transactions.Tx.{Tx}
use Rattle.snap_base.specs.declared.transactions.State.{State}
use Rattle.protocol.specs.Facts.{Alone}
use Rattle.protocol.specs.Fixed.{Fixed}
use Rattle.protocol.specs.Records.{LogRecord, BatchInfo, BatchComplete, BatchDone, ActPrepare, ActDone, is_complete, is_commit, is_prepare}
use Rattle.protocol.specs.Parts.{Act, Joined, Batch, OfBatch, Machine}
use Rattle.protocol.specs.Words.{holds, is_among, is_value, is_formed, act_of, batch_of}
use Rattle.protocol.specs.Effects.{log_at}
use Rattle.protocol.specs.History.{History}
use Rattle.protocol_laws.specs.Told.{has_number}
use Rattle.protocol_laws.specs.Marks.{Known, Marked}
use Rattle.protocol_records.proofs.crash.KeptAll.{batch_kept}
use Rattle.protocol_records.specs.Logged.{actors_of_batch, has_joined, Infos, InfoIs, ActCommits, CommitIs, Prepared}
use Rattle.protocol_records.specs.RecordLaws.{home, record_key, batch_actors, act_actors, valued, TellsOf, RecordsTell}
use Rattle.protocol_laws.proofs.first.Lists.{both_all, some_of, weaker}
use Rattle.protocol_laws.proofs.machine.TurnsKept.{one_is}
use Rattle.protocol_laws.proofs.machine.AllGood.{AllGood}
use Rattle.protocol_laws.proofs.machine.ActsKept.{Acts}
use Rattle.protocol_records.proofs.crash.KeptSure.{there_is}
use Rattle.protocol_records.proofs.crash.RecordsKept.{RecordsAreKept}
use Rattle.protocol_records.proofs.crash.OnceKept.{Declares}
use Rattle.protocol_records.proofs.crash.NoneBehind.{Both}
use Rattle.protocol_records.proofs.recording.TellsTids.{AtHome, InfoTids, TidsAre, CommitNumbers, NumbersAre, is_placed}
use Rattle.protocol_records.proofs.recording.TellsValues.{CommitValues, ValuesAre}

-- each record is there
abbrev pub IsThere : List LogRecord → LogRecord → Type 0
IsThere rs r = (p : LogRecord → Bool) → p r ≡ true → list_any p rs ≡ true

all_there : (rs : List LogRecord) → AllByRecursion (IsThere rs) rs
all_there [] = tt
all_there (r ∷ rs) = ((λ p e. or_left (p r) _ e), weaker (IsThere rs) (IsThere (r ∷ rs)) rs (λ x k p e. or_right (p r) _ (k p e)) (all_there rs))

same_actors : (o : Option Batch) (xs : List ℕ) → actors_of_batch o ≡ Some xs → option_map batch_actors o ≡ Some xs
same_actors None xs e = absurd (cc e)
same_actors (Some b) xs e = e

of_actors : (a : ℕ) (o : Option Batch) (xs : List ℕ) → actors_of_batch o ≡ Some xs → is_among a xs ≡ true → holds (λ b. is_among a (batch_actors b)) o ≡ true
of_actors a None xs e i = absurd (cc e)
of_actors a (Some b) xs e i = let q : xs ≡ map (λ p. p.actor) b.places = cc (sym e) in subst (λ z. is_among a z ≡ true) q i

pub holds_weaker : {X : Type 0} (p q : X → Bool) (o : Option X) → ((x : X) → p x ≡ true → q x ≡ true) → holds p o ≡ true → holds q o ≡ true
holds_weaker p q None k e = e
holds_weaker p q (Some x) k e = k x e

place_among : (a : ℕ) (ps : List Joined) → list_any (λ p. p.actor == a) ps ≡ true → is_among a (map (λ p. p.actor) ps) ≡ true
place_among a [] e = e
place_among a (p ∷ ps) e = elim (or_cases (p.actor == a) _ e) [ inl q ↦ or_left (p.actor == a) _ q | inr q ↦ or_right (p.actor == a) _ (place_among a ps q) ]

-- what is known of one record of log l
record Facts (many : ℕ) (bs : List Batch) (xs : List Act) (rs : List LogRecord) (l : ℕ) (r : LogRecord) : Type 0 where
  there : IsThere rs r
  home : home many (record_key r) ≡ l
  info : InfoIs bs r
  tids : TidsAre bs r
  commit : CommitIs xs r
  numbers : NumbersAre xs r
  values : ValuesAre bs xs r

facts : {C : Type 0} (w : Fixed C) (s : Machine C) (h : History) (l : ℕ) → AtHome w s → InfoTids s → CommitNumbers s → CommitValues s → Both w s h → AllByRecursion (Facts w.text.logs s.desk.batches s.book.acts (log_at s l).records l) (log_at s l).records
unfolding AtHome InfoTids CommitNumbers CommitValues Infos ActCommits
facts w s h l home tids numbers values b = both_all _ _ _ rs (λ r (p : IsThere rs r × (Rattle.protocol_records.specs.RecordLaws.home w.text.logs (record_key r) ≡ l)) (q : (InfoIs bs r × TidsAre bs r) × (CommitIs xs r × (NumbersAre xs r × ValuesAre bs xs r))). record { there = p.0; home = p.1; info = q.0.0; tids = q.0.1; commit = q.1.0; numbers = q.1.1.0; values = q.1.1.1 })
    (both_all _ _ _ rs (λ r p q. (p, q)) (all_there rs) (home l))
    (both_all _ _ _ rs (λ r p q. (p, q)) (both_all _ _ _ rs (λ r p q. (p, q)) (b.logs.infos l) (tids l)) (both_all _ _ _ rs (λ r p q. (p, q)) (b.logs.commits l) (both_all _ _ _ rs (λ r p q. (p, q)) (numbers l) (values l))))
  where
    rs : List LogRecord
    rs = (log_at s l).records

    bs : List Batch
    bs = s.desk.batches

    xs : List Act
    xs = s.book.acts

self : (n : ℕ) → (n == n) ≡ true
self n = eq-eqb n n refl

pub told : {C : Type 0} (w : Fixed C) (Of : Tx → C → Type 0) (finish : C → List State → Alone) (s : Machine C) (h : History) → AllGood w Of finish s h → Both w s h → AtHome w s → RecordsAreKept s h → InfoTids s → CommitNumbers s → CommitValues s → RecordsTell w finish s h
unfolding RecordsAreKept Known Marked Declares Prepared Acts
told w Of finish s h g b home kept tids numbers values l = weaker (Facts w.text.logs s.desk.batches s.book.acts (log_at s l).records l) (TellsOf s.desk.batches s.book.acts) (log_at s l).records one (facts w s h l home tids numbers values b)
  where
    same : {v : ℤ} (x y : Act) → Some x ≡ Some y → y.result ≡ valued v → x.result ≡ valued v
    same {v} x y e r = let i : y ≡ x = cc (sym e) in subst (λ z. z.result ≡ valued v) i r

    one : (r : LogRecord) → Facts w.text.logs s.desk.batches s.book.acts (log_at s l).records l r → TellsOf s.desk.batches s.book.acts r
    one (BatchInfo k actors tids) f = (same_actors (batch_of k s.desk.batches) actors f.info, f.tids)
    one (BatchComplete k a st) f =
        let d = b.once.declares k a (subst (λ z. list_any (is_complete k a) (log_at s z).records ≡ true) (sym f.home) (f.there (is_complete k a) (and_from (k == k) (a == a) (self k) (self a)))) in
        of_actors a (batch_of k s.desk.batches) d.0 d.1 d.2
    one (BatchDone k vs) f =
        let q = batch_kept w Of finish s h k g (kept (OfBatch k) l (f.there (is_commit k) (self k))) in
        let x = one_is (λ x. true) (batch_of k s.desk.batches) (there_is (batch_of k s.desk.batches) (g.good.known k q)) in
        (subst (λ o. holds (λ b. not (is_formed b.stage)) o ≡ true) (sym x.1) (sym (g.good.marked k x.0 x.1).known ∙ q), f.values)
    one (ActPrepare t a st) f =
        let p = b.logs.prepared t a (subst (λ z. list_any (is_prepare t a) (log_at s z).records ≡ true) (sym f.home) (f.there (is_prepare t a) (and_from (t == t) (a == a) (self t) (self a)))) in
        holds_weaker (λ x. is_value x.result && has_joined a x) (λ x. is_value x.result && is_among a (act_actors x)) (act_of t s.book.acts) (λ x e. let v = and_parts (is_value x.result) (has_joined a x) e in and_from (is_value x.result) (is_among a (act_actors x)) v.0 (place_among a x.places v.1)) p
    one (ActDone t m c v actors) f =
        let x = f.commit in
        let n = some_of (is_placed m c) (act_of t s.book.acts) x.0 x.1 f.numbers in
        let v = and_parts (x.0.m == m) (has_number c x.0.status) n in
        record {
          act = x.0;
          found = x.1;
          m_is = Rattle.std.proofs.lemmas.Bool.eqb-true x.0.m m v.0;
          c_is = v.1;
          result_is = same x.0 f.values.0 (sym x.1 ∙ f.values.1) f.values.3;
          actors_are = x.3;
        }
