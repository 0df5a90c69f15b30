-- Lists of what lies at actors, of gains and of members, where what events tell is the history's.
use Rattle.std.specs.Prelude.{◌≡◌, refl, ℕ, ◌+◌, ◌<◌, ◌≤◌, ◌==◌, not, Bool, true, false, ◌||◌, if◌then◌else◌, Some, List, [], ◌∷◌, ◌++◌, filter, length, map, slice_index_or, suc, zero}
use Rattle.std.specs.List.{list_any}
use Rattle.std.proofs.Common.{arith, sym, ap, subst, ◌∙◌}
use Rattle.std.proofs.lemmas.Bool.{eqb-true}
use Rattle.protocol.specs.Effects.{no_cell}
use Rattle.protocol.specs.History.{Done, History, Ran, batches_in, carrying, done_batch, done_pact, gains_over, spread_sets, with_at}
use Rattle.protocol.specs.OnRing.{Formed}
use Rattle.protocol.specs.Parts.{Act, Batch, Cell, OfAct, OfBatch, Pact, Pair, Who}
use Rattle.protocol.specs.Verdicts.{pact_place}
use Rattle.protocol.specs.Words.{batch_of, count, is_act_who, is_who, who_of}
use Rattle.protocol_laws.specs.Highs.{doomed_at}
use Rattle.protocol_laws.proofs.machine.TracksKept.{filter_same}
use Rattle.audit_words.specs.Happenings as told
use Rattle.audit_words.specs.Happenings.{spread}
use Rattle.audit_words.specs.Seen.{Begun, Doom, Member, batch_in, has_its_place, was_given_up}
use Rattle.audit_laws.proofs.RunsSeen.{any_join}
use Rattle.audit_laws.proofs.Simulated.{EachSame}

-- ---- lists at an actor

pub at_both : {X : Type 0} (f g : ℕ → X) (a : ℕ) (x y : X) → x ≡ y → ((b : ℕ) → f b ≡ g b) → (b : ℕ) → with_at a x f b ≡ with_at a y g b
at_both f g a x y e h b = by (b == a)
  where
    by : (c : Bool) → (if c then x else f b) ≡ (if c then y else g b)
    by true = e
    by false = h b

pub at_right : {X : Type 0} (f g : ℕ → X) (a : ℕ) (y : X) → f a ≡ y → ((b : ℕ) → f b ≡ g b) → (b : ℕ) → f b ≡ with_at a y g b
at_right f g a y e h b = by (b == a) refl
  where
    by : (c : Bool) → (b == a) ≡ c → f b ≡ (if c then y else g b)
    by true q = ap f (eqb-true b a q) ∙ e
    by false q = h b

pub at_long : (a : ℕ) (rs : List Ran) (long : ℕ → List Ran) (f : ℕ → List ℕ) → batches_in rs ≡ batches_in (long a) → ((b : ℕ) → f b ≡ batches_in (long b)) → (b : ℕ) → f b ≡ batches_in (with_at a rs long b)
at_long a rs long f e h b = by (b == a) refl
  where
    by : (c : Bool) → (b == a) ≡ c → f b ≡ batches_in (if c then rs else long b)
    by true q = ap f (eqb-true b a q) ∙ (h a ∙ sym e)
    by false q = h b

pub at_long_both : (a : ℕ) (rs : List Ran) (long : ℕ → List Ran) (ks : List ℕ) (f : ℕ → List ℕ) → ks ≡ batches_in rs → ((b : ℕ) → f b ≡ batches_in (long b)) → (b : ℕ) → with_at a ks f b ≡ batches_in (with_at a rs long b)
at_long_both a rs long ks f e h b = by (b == a)
  where
    by : (c : Bool) → (if c then ks else f b) ≡ batches_in (if c then rs else long b)
    by true = e
    by false = h b

pub beyond_more : {X : Type 0} (n a : ℕ) (x : List X) (f : ℕ → List X) → a < n → ((b : ℕ) → n ≤ b → f b ≡ []) → (b : ℕ) → n ≤ b → with_at a x f b ≡ []
beyond_more n a x f l h b k = by (b == a) refl
  where
    by : (c : Bool) → (b == a) ≡ c → (if c then x else f b) ≡ []
    by true q = absurd (omega (arith, l, k, eqb-true b a q))
    by false q = h b k

-- the owners of entries, by the cells' content
pub owners_at : {C : Type 0} (xs ys : List (Cell C)) (a : ℕ) → map (λ c. map who_of c.entries) xs ≡ map (λ c. map who_of c.entries) ys → map who_of (slice_index_or xs a no_cell).entries ≡ map who_of (slice_index_or ys a no_cell).entries
owners_at [] [] a e = refl
owners_at [] (y ∷ ys) a e = absurd (cc e)
owners_at (x ∷ xs) [] a e = absurd (cc e)
owners_at {C} (x ∷ xs) (y ∷ ys) zero e = cc e
owners_at {C} (x ∷ xs) (y ∷ ys) (suc a) e =
    let j : map (λ (c : Cell C). map who_of c.entries) xs ≡ map (λ (c : Cell C). map who_of c.entries) ys = cc e in
    owners_at xs ys a j

-- ---- gains

pub still_gaining : (d : List Doom) (acts : List Act) (ps qs : List Pair) → ((u : ℕ) → was_given_up d u ≡ doomed_at acts u) → ps ≡ qs → filter (λ p. not (was_given_up d p.ahead)) ps ≡ carrying acts qs
still_gaining d acts ps qs h e =
    ap (filter (λ (p : Pair). not (was_given_up d p.ahead))) e ∙ filter_same (λ (p : Pair). not (was_given_up d p.ahead)) (λ (p : Pair). not (doomed_at acts p.ahead)) qs (λ p. ap not (h p.ahead))

pub spread_same : (ps : List Pair) (bs : List Begun) (xs : List Act) (f : ℕ → List ℕ) → map (λ x. x.tid) bs ≡ map (λ x. x.tid) xs → spread ps bs f ≡ spread_sets ps xs f
spread_same ps [] [] f e = refl
spread_same ps [] (x ∷ xs) f e = absurd (cc e)
spread_same ps (b ∷ bs) [] f e = absurd (cc e)
spread_same ps (b ∷ bs) (x ∷ xs) f e =
    let i : b.tid ≡ x.tid = cc e in
    let j : map (λ (y : Begun). y.tid) bs ≡ map (λ (y : Act). y.tid) xs = cc e in
    ap (λ (n : ℕ). gains_over ps n (spread ps bs f)) i ∙ ap (gains_over ps x.tid) (spread_same ps bs xs f j)

-- ---- who has its place

pub place_join : (who : Who) (ms ns : List Member) → has_its_place who (ms ++ ns) ≡ (has_its_place who ms || has_its_place who ns)
place_join who ms ns = any_join (λ (m : Member). is_who who m.who) ms ns

pub place_same : (who : Who) (ms : List Member) (ds : List Done) → EachSame ms ds → has_its_place who ms ≡ list_any (λ d. is_who who d.who) ds
place_same who [] [] h = refl
place_same who [] (d ∷ ds) h = absurd h
place_same who (m ∷ ms) [] h = absurd h
place_same who (m ∷ ms) (d ∷ ds) h = ap (λ (z : Who). is_who who z || has_its_place who ms) (h.0).who ∙ ap (λ (b : Bool). is_who who d.who || b) (place_same who ms ds h.1)

pub pacts_no_act : (u k : ℕ) (ps : List Pact) → has_its_place (OfAct u) (map (told.pact_member k) ps) ≡ false
pacts_no_act u k [] = refl
pacts_no_act u k (p ∷ ps) = pacts_no_act u k ps

pub count_join : (ms ns : List Member) → count (λ m. is_act_who m.who) (ms ++ ns) ≡ count (λ m. is_act_who m.who) ms + count (λ m. is_act_who m.who) ns
count_join [] ns = omega arith
count_join (m ∷ ms) ns = by (is_act_who m.who) (count_join ms ns)
  where
    by : (b : Bool) → count (λ m. is_act_who m.who) (ms ++ ns) ≡ count (λ m. is_act_who m.who) ms + count (λ m. is_act_who m.who) ns
        → length (if b then m ∷ filter (λ m. is_act_who m.who) (ms ++ ns) else filter (λ m. is_act_who m.who) (ms ++ ns)) ≡ length (if b then m ∷ filter (λ m. is_act_who m.who) ms else filter (λ m. is_act_who m.who) ms) + count (λ m. is_act_who m.who) ns
    by true e = omega (arith, e)
    by false e = e

pub count_pacts : (k : ℕ) (ps : List Pact) → count (λ m. is_act_who m.who) (map (told.pact_member k) ps) ≡ 0
count_pacts k [] = refl
count_pacts k (p ∷ ps) = count_pacts k ps

pub pacts_same : (k : ℕ) (h : History) (ps qs : List Pact) → map (λ p. p.tid) ps ≡ map (λ p. p.tid) qs → map (λ p. p.tx) ps ≡ map (λ p. p.tx) qs → EachSame (map (told.pact_member k) ps) (map (done_pact k h) qs)
pacts_same k h [] [] e f = tt
pacts_same k h [] (q ∷ qs) e f = absurd (cc e)
pacts_same k h (p ∷ ps) [] e f = absurd (cc e)
pacts_same k h (p ∷ ps) (q ∷ qs) e f =
    let i : p.tid ≡ q.tid = cc e in
    let j : map (λ (z : Pact). z.tid) ps ≡ map (λ (z : Pact). z.tid) qs = cc e in
    let u : p.tx ≡ q.tx = cc f in
    let v : map (λ (z : Pact). z.tx) ps ≡ map (λ (z : Pact). z.tx) qs = cc f in
    (record { who = refl; tid = i; tx = u; place = ap (λ (n : ℕ). pact_place k n) i; reader = refl }, pacts_same k h ps qs j v)

pub committing_same : (k : ℕ) (h : History) (ms : List Member) (bs : List Formed) (cs : List Batch) → map (λ b. b.bid) bs ≡ map (λ b. b.bid) cs → map (λ b. map (λ p. p.tid) b.pacts) bs ≡ map (λ b. map (λ p. p.tid) b.pacts) cs
    → map (λ b. map (λ p. p.tx) b.pacts) bs ≡ map (λ b. map (λ p. p.tx) b.pacts) cs → has_its_place (OfBatch k) ms ≡ false → EachSame (told.committing k (batch_in k bs) ms) (done_batch k h (batch_of k cs))
committing_same k h ms [] [] e f g n = tt
committing_same k h ms [] (c ∷ cs) e f g n = absurd (cc e)
committing_same k h ms (b ∷ bs) [] e f g n = absurd (cc e)
committing_same k h ms (b ∷ bs) (c ∷ cs) e f g n =
    let i : b.bid ≡ c.bid = cc e in
    let j : map (λ (x : Formed). x.bid) bs ≡ map (λ (x : Batch). x.bid) cs = cc e in
    let p : map (λ (x : Pact). x.tid) b.pacts ≡ map (λ (x : Pact). x.tid) c.pacts = cc f in
    let q : map (λ (x : Formed). map (λ (y : Pact). y.tid) x.pacts) bs ≡ map (λ (x : Batch). map (λ (y : Pact). y.tid) x.pacts) cs = cc f in
    let u : map (λ (x : Pact). x.tx) b.pacts ≡ map (λ (x : Pact). x.tx) c.pacts = cc g in
    let v : map (λ (x : Formed). map (λ (y : Pact). y.tx) x.pacts) bs ≡ map (λ (x : Batch). map (λ (y : Pact). y.tx) x.pacts) cs = cc g in
    subst (λ (m : ℕ). EachSame (told.committing k (if m == k then Some b else batch_in k bs) ms) (done_batch k h (if c.bid == k then Some c else batch_of k cs))) (sym i)
    (by (c.bid == k) (subst (λ (z : Bool). EachSame (if z then [] else map (told.pact_member k) b.pacts) (map (done_pact k h) c.pacts)) (sym n) (pacts_same k h b.pacts c.pacts p u)) (committing_same k h ms bs cs j q v n))
  where
    by : (z : Bool) → EachSame (if has_its_place (OfBatch k) ms then [] else map (told.pact_member k) b.pacts) (map (done_pact k h) c.pacts) → EachSame (told.committing k (batch_in k bs) ms) (done_batch k h (batch_of k cs))
        → EachSame (told.committing k (if z then Some b else batch_in k bs) ms) (done_batch k h (if z then Some c else batch_of k cs))
    by true x r = x
    by false x r = r
