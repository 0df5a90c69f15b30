-- Where what committed still shows, along one long schedule.
use Rattle.std.specs.Prelude.{◌≡◌, refl, ℕ, ◌==◌, nat_le, Bool, true, false, ◌||◌, ◌⊎◌, if◌then◌else◌, List, [], ◌∷◌, ◌++◌, map}
use Rattle.std.specs.List.{AllByRecursion}
use Rattle.std.proofs.Common.{sym, subst, inl, inr, ◌∙◌}
use Rattle.std.proofs.lemmas.Bool.{eqb-true, or_cases, or_left, or_right, or_parts, true≢false, false_from_ne_true}
use Rattle.protocol.specs.Parts.{Act, Batch, Cascade, Who, OfBatch, OfAct, Entry, BatchEntry, ActEntry}
use Rattle.protocol.specs.Words.{is_among, is_aborted, is_who}
use Rattle.protocol.specs.OnCell.{is_cut}
use Rattle.protocol.specs.History.{Slice, Ran, Stands, Gone, ran_in, completed, left_for_good, without_standing, long_staying, batches_in}
use Rattle.protocol_laws.specs.Tracks.{keys_in, is_key_among}
use Rattle.protocol_laws.specs.Turns.{Turns}
use Rattle.protocol_laws.specs.Commits.{is_kept, KeptFront, has_kept}
use Rattle.protocol_laws.specs.FromDesk.{is_declared, EntryOf}
use Rattle.protocol_laws.specs.Highs.{doomed_at, AllDoomed, TakenAlong, is_above_or_aborted, StandsBelow}
use Rattle.protocol_laws.proofs.machine.PlaceLists
use Rattle.protocol_laws.proofs.first.SettlingKeys as keys
use Rattle.protocol_laws.proofs.first.Lists.{all_join, weaker}
pub use Rattle.protocol_laws.proofs.machine.PlaceLists.{stay_all}

abbrev pub IsClearOf : List Cascade → ℕ → List Ran → Type 0
IsClearOf cs n rs = AllByRecursion (λ k. is_above_or_aborted cs n k ≡ true) (batches_in rs)

clear_more : (cs : List Cascade) (n : ℕ) (rs xs : List Ran) → IsClearOf cs n rs → IsClearOf cs n xs → IsClearOf cs n (rs ++ xs)
clear_more cs n rs xs h k = subst (λ z. AllByRecursion (λ k. is_above_or_aborted cs n k ≡ true) z) (sym (PlaceLists.batches_join rs xs)) (all_join (λ k. is_above_or_aborted cs n k ≡ true) (batches_in rs) (batches_in xs) h k)

-- more at the end
pub below_more : (cs : List Cascade) (n u : ℕ) (rs xs : List Ran) → IsClearOf cs n xs → StandsBelow cs n u rs → StandsBelow cs n u (rs ++ xs)
below_more cs n u [] xs k h = absurd h
below_more cs n u (Stands (OfBatch j) c ss ∷ rs) xs k h = below_more cs n u rs xs k h
below_more cs n u (Stands (OfAct t) c ss ∷ rs) xs k h = elim h [ inl p ↦ inl (p.0, clear_more cs n rs xs p.1 k) | inr q ↦ inr (below_more cs n u rs xs k q) ]
below_more cs n u (Gone y ss ∷ rs) xs k h = below_more cs n u rs xs k h

clear_same : (cs : List Cascade) (n : ℕ) (rs rs' : List Ran) → batches_in rs' ≡ batches_in rs → IsClearOf cs n rs → IsClearOf cs n rs'
clear_same cs n rs rs' e h = rw e h

pub below_ran : (cs : List Cascade) (n u : ℕ) (who : Who) (x : Slice) (rs : List Ran) → StandsBelow cs n u rs → StandsBelow cs n u (map (ran_in who x) rs)
below_ran cs n u who x [] h = absurd h
below_ran cs n u who x (Stands (OfBatch j) c ss ∷ rs) h = below_ran cs n u who x rs h
below_ran cs n u who x (Stands (OfAct t) c ss ∷ rs) h = elim h [ inl p ↦ inl (p.0, clear_same cs n rs (map (ran_in who x) rs) (PlaceLists.batches_ran who x rs) p.1) | inr q ↦ inr (below_ran cs n u who x rs q) ]
below_ran cs n u who x (Gone y ss ∷ rs) h = below_ran cs n u who x rs h

pub below_completed : (cs : List Cascade) (n u k : ℕ) (rs : List Ran) → StandsBelow cs n u rs → StandsBelow cs n u (map (completed k) rs)
below_completed cs n u k [] h = absurd h
below_completed cs n u k (Stands (OfBatch j) c ss ∷ rs) h = below_completed cs n u k rs h
below_completed cs n u k (Stands (OfAct t) c ss ∷ rs) h = elim h [ inl p ↦ inl (p.0, clear_same cs n rs (map (completed k) rs) (PlaceLists.batches_completed k rs) p.1) | inr q ↦ inr (below_completed cs n u k rs q) ]
below_completed cs n u k (Gone y ss ∷ rs) h = below_completed cs n u k rs h

-- somebody else leaves
pub below_left : (cs : List Cascade) (n u : ℕ) (who : Who) (rs : List Ran) → is_who (OfAct u) who ≡ false → StandsBelow cs n u rs → StandsBelow cs n u (map (left_for_good who) rs)
below_left cs n u who [] e h = absurd h
below_left cs n u who (Stands (OfBatch j) c ss ∷ rs) e h = by (is_who (OfBatch j) who) (below_left cs n u who rs e h)
  where
    by : (b : Bool) → StandsBelow cs n u (map (left_for_good who) rs) → StandsBelow cs n u ((if b then Gone (OfBatch j) ss else Stands (OfBatch j) c ss) ∷ map (left_for_good who) rs)
    by true g = g
    by false g = g
below_left cs n u who (Stands (OfAct t) c ss ∷ rs) e h = elim h [ inl p ↦ here p.0 (clear_same cs n rs (map (left_for_good who) rs) (PlaceLists.batches_left who rs) p.1) | inr q ↦ by (is_who (OfAct t) who) (below_left cs n u who rs e q) ]
  where
    by : (b : Bool) → StandsBelow cs n u (map (left_for_good who) rs) → StandsBelow cs n u ((if b then Gone (OfAct t) ss else Stands (OfAct t) c ss) ∷ map (left_for_good who) rs)
    by true g = g
    by false g = inr g

    here : t ≡ u → IsClearOf cs n (map (left_for_good who) rs) → StandsBelow cs n u ((if is_who (OfAct t) who then Gone (OfAct t) ss else Stands (OfAct t) c ss) ∷ map (left_for_good who) rs)
    here i k = rw (subst (λ z. is_who (OfAct z) who ≡ false) (sym i) e) (inl (i, k))
below_left cs n u who (Gone y ss ∷ rs) e h = below_left cs n u who rs e h

pub below_undone : (cs : List Cascade) (n u t : ℕ) (rs : List Ran) → (u == t) ≡ false → StandsBelow cs n u rs → StandsBelow cs n u (without_standing (OfAct t) rs)
below_undone cs n u t [] e h = absurd h
below_undone cs n u t (Stands (OfBatch j) c ss ∷ rs) e h = below_undone cs n u t rs e h
below_undone cs n u t (Stands (OfAct v) c ss ∷ rs) e h = elim h [ inl p ↦ here p.0 (clear_same cs n rs (without_standing (OfAct t) rs) (PlaceLists.batches_without_act t rs) p.1) | inr q ↦ by (v == t) (below_undone cs n u t rs e q) ]
  where
    by : (b : Bool) → StandsBelow cs n u (without_standing (OfAct t) rs) → StandsBelow cs n u (if b then without_standing (OfAct t) rs else Stands (OfAct v) c ss ∷ without_standing (OfAct t) rs)
    by true g = g
    by false g = inr g

    here : v ≡ u → IsClearOf cs n (without_standing (OfAct t) rs) → StandsBelow cs n u (if v == t then without_standing (OfAct t) rs else Stands (OfAct v) c ss ∷ without_standing (OfAct t) rs)
    here i k = rw (subst (λ z. (z == t) ≡ false) (sym i) e) (inl (i, k))
below_undone cs n u t (Gone y ss ∷ rs) e h = below_undone cs n u t rs e h

none_doomed : (cs : List Cascade) (acts : List Act) (n u : ℕ) (rs : List Ran) → (doomed_at acts u ≡ true → ⊥) → AllDoomed acts rs → StandsBelow cs n u rs → ⊥
none_doomed cs acts n u [] d a h = h
none_doomed cs acts n u (Stands (OfBatch j) c ss ∷ rs) d a h = none_doomed cs acts n u rs d a h
none_doomed cs acts n u (Stands (OfAct t) c ss ∷ rs) d a h = elim h [ inl p ↦ d (subst (λ z. doomed_at acts z ≡ true) p.0 a.0) | inr q ↦ none_doomed cs acts n u rs d a.1 q ]
none_doomed cs acts n u (Gone y ss ∷ rs) d a h = none_doomed cs acts n u rs d a h

-- one that is not doomed stays where a rollback cuts
pub below_staying : (cs : List Cascade) (acts : List Act) (n u : ℕ) (rs : List Ran) → (doomed_at acts u ≡ true → ⊥) → TakenAlong cs acts rs → StandsBelow cs n u rs → StandsBelow cs n u (long_staying cs rs)
below_staying cs acts n u [] d a h = absurd h
below_staying cs acts n u (Stands (OfBatch j) c ss ∷ rs) d a h = by (is_aborted j cs) refl (below_staying cs acts n u rs d a.1 h)
  where
    by : (b : Bool) → is_aborted j cs ≡ b → StandsBelow cs n u (long_staying cs rs) → StandsBelow cs n u (if b then [] else Stands (OfBatch j) c ss ∷ long_staying cs rs)
    by true e g = absurd (none_doomed cs acts n u rs d (a.0 e) h)
    by false e g = g
below_staying cs acts n u (Stands (OfAct t) c ss ∷ rs) d a h = elim h [ inl p ↦ inl (p.0, stay_all (λ k. is_above_or_aborted cs n k ≡ true) cs rs p.1) | inr q ↦ inr (below_staying cs acts n u rs d a.1 q) ]
below_staying cs acts n u (Gone y ss ∷ rs) d a h = below_staying cs acts n u rs d a h

-- a cascade
pub below_cascade : (cs : List Cascade) (c : Cascade) (n u : ℕ) (rs : List Ran) → StandsBelow cs n u rs → StandsBelow (cs ++ c ∷ []) n u rs
below_cascade cs c n u [] h = absurd h
below_cascade cs c n u (Stands (OfBatch j) d ss ∷ rs) h = below_cascade cs c n u rs h
below_cascade cs c n u (Stands (OfAct t) d ss ∷ rs) h = elim h [ inl p ↦ inl (p.0, weaker (λ k. is_above_or_aborted cs n k ≡ true) (λ k. is_above_or_aborted (cs ++ c ∷ []) n k ≡ true) (batches_in rs) (λ k q. one k (or_cases (is_aborted k cs) (nat_le n k) q)) p.1) | inr q ↦ inr (below_cascade cs c n u rs q) ]
  where
    one : (k : ℕ) → (is_aborted k cs ≡ true) ⊎ (nat_le n k ≡ true) → is_above_or_aborted (cs ++ c ∷ []) n k ≡ true
    one k (inl a) = or_left (is_aborted k (cs ++ c ∷ [])) _ (keys.aborted_more k cs c ∙ or_left (is_aborted k cs) _ a)
    one k (inr l) = or_right (is_aborted k (cs ++ c ∷ [])) (nat_le n k) l
below_cascade cs c n u (Gone y ss ∷ rs) h = below_cascade cs c n u rs h

-- ---- batches that committed stay

pub among_more : (k : ℕ) (ks js : List ℕ) → is_among k ks ≡ true → is_among k (ks ++ js) ≡ true
among_more k [] js h = absurd (true≢false (sym h))
among_more k (x ∷ xs) js h = elim (or_cases (x == k) (is_among k xs) h) [ inl e ↦ or_left (x == k) _ e | inr e ↦ or_right (x == k) _ (among_more k xs js e) ]

among_has : (kept : List Who) (k : ℕ) (rs : List Ran) → is_kept (OfBatch k) kept ≡ true → is_among k (batches_in rs) ≡ true → has_kept kept rs ≡ true
among_has kept k [] e h = absurd (true≢false (sym h))
among_has kept k (Stands (OfBatch j) c ss ∷ rs) e h = elim (or_cases (j == k) (is_among k (batches_in rs)) h) [
  | inl i ↦ or_left (is_kept (OfBatch j) kept) _ (subst (λ z. is_kept (OfBatch z) kept ≡ true) (sym (eqb-true j k i)) e)
  | inr i ↦ or_right (is_kept (OfBatch j) kept) _ (among_has kept k rs e i)
]
among_has kept k (Stands (OfAct t) c ss ∷ rs) e h = or_right (is_kept (OfAct t) kept) _ (among_has kept k rs e h)
among_has kept k (Gone y ss ∷ rs) e h = refl

pub among_staying : (kept : List Who) (cs : List Cascade) (k : ℕ) (rs : List Ran) → ((y : Who) → is_cut cs y ≡ true → is_kept y kept ≡ false) → KeptFront kept rs → is_kept (OfBatch k) kept ≡ true → is_among k (batches_in rs) ≡ true → is_among k (batches_in (long_staying cs rs)) ≡ true
among_staying kept cs k [] n f e h = h
among_staying kept cs k (Stands (OfBatch j) c ss ∷ rs) n f e h = by (is_aborted j cs) refl (or_cases (j == k) (is_among k (batches_in rs)) h) (among_staying kept cs k rs n f.1 e)
  where
    by : (b : Bool) → is_aborted j cs ≡ b → ((j == k) ≡ true) ⊎ (is_among k (batches_in rs) ≡ true) → (is_among k (batches_in rs) ≡ true → is_among k (batches_in (long_staying cs rs)) ≡ true)
        → is_among k (batches_in (if b then [] else Stands (OfBatch j) c ss ∷ long_staying cs rs)) ≡ true
    by true q (inl i) r = absurd (true≢false (sym (subst (λ z. is_kept (OfBatch z) kept ≡ true) (sym (eqb-true j k i)) e) ∙ n (OfBatch j) q))
    by true q (inr i) r = absurd (true≢false (sym (f.0 (among_has kept k rs e i)) ∙ n (OfBatch j) q))
    by false q (inl i) r = or_left (j == k) _ i
    by false q (inr i) r = or_right (j == k) _ (r i)
among_staying kept cs k (Stands (OfAct t) c ss ∷ rs) n f e h = among_staying kept cs k rs n f.1 e h
among_staying kept cs k (Gone (OfBatch j) ss ∷ rs) n f e h = elim (or_cases (j == k) (is_among k (batches_in rs)) h) [ inl i ↦ or_left (j == k) _ i | inr i ↦ or_right (j == k) _ (among_staying kept cs k rs n f.1 e i) ]
among_staying kept cs k (Gone (OfAct t) ss ∷ rs) n f e h = among_staying kept cs k rs n f.1 e h

pub key_among : (k : ℕ) (rs : List Ran) → is_key_among (OfBatch k) (keys_in rs) ≡ true → is_among k (batches_in rs) ≡ true
key_among k [] h = h
key_among k (Stands (OfBatch j) c ss ∷ rs) h = elim (or_cases (j == k) (is_key_among (OfBatch k) (keys_in rs)) h) [ inl e ↦ or_left (j == k) _ e | inr e ↦ or_right (j == k) _ (key_among k rs e) ]
key_among k (Stands (OfAct t) c ss ∷ rs) h = key_among k rs h
key_among k (Gone (OfBatch j) ss ∷ rs) h = or_right (j == k) _ (key_among k rs h)
key_among k (Gone (OfAct t) ss ∷ rs) h = key_among k rs h

-- ---- an ACT that gets its place: batches behind it have not committed

-- batches that have not committed, as the desk has them
pub clear_behind : (kept : List Who) (cs : List Cascade) (bs : List Batch) (a n : ℕ) (rs : List Ran) (es : List Entry)
    → ((k : ℕ) → is_declared k a bs ≡ true → is_kept (OfBatch k) kept ≡ false → is_above_or_aborted cs n k ≡ true)
    → has_kept kept rs ≡ false → Turns rs es → AllByRecursion (EntryOf a bs) es → IsClearOf cs n rs
clear_behind kept cs bs a n [] es k e t d = tt
clear_behind kept cs bs a n (Gone y ss ∷ rs) es k e t d = absurd (true≢false e)
clear_behind kept cs bs a n (Stands y c ss ∷ rs) [] k e t d = absurd t
clear_behind kept cs bs a n (Stands (OfBatch j) c ss ∷ rs) (ActEntry x ∷ es) k e t d = absurd (cc t.0)
clear_behind kept cs bs a n (Stands (OfBatch j) c ss ∷ rs) (BatchEntry b ∷ es) k e t d =
    let i : b.bid ≡ j = cc t.0 in
    let p = or_parts (is_kept (OfBatch j) kept) (has_kept kept rs) e in
    (k j (subst (λ z. is_declared z a bs ≡ true) i d.0.0) p.0, clear_behind kept cs bs a n rs es k p.1 t.2 d.1)
clear_behind kept cs bs a n (Stands (OfAct v) c ss ∷ rs) (BatchEntry b ∷ es) k e t d = absurd (cc t.0)
clear_behind kept cs bs a n (Stands (OfAct v) c ss ∷ rs) (ActEntry x ∷ es) k e t d = clear_behind kept cs bs a n rs es k (or_parts (is_kept (OfAct v) kept) (has_kept kept rs) e).1 t.2 d.1

pub decides_below : (kept : List Who) (cs : List Cascade) (bs : List Batch) (a n u : ℕ) (rs : List Ran) (es : List Entry)
    → ((k : ℕ) → is_declared k a bs ≡ true → is_kept (OfBatch k) kept ≡ false → is_above_or_aborted cs n k ≡ true)
    → is_kept (OfAct u) kept ≡ false → KeptFront kept rs → Turns rs es → AllByRecursion (EntryOf a bs) es → is_key_among (OfAct u) (keys_in rs) ≡ true → StandsBelow cs n u rs
decides_below kept cs bs a n u [] es k f g t d h = absurd (true≢false (sym h))
decides_below kept cs bs a n u (Gone y ss ∷ rs) es k f g t d h = decides_below kept cs bs a n u rs es k f g.1 t d h
decides_below kept cs bs a n u (Stands y c ss ∷ rs) [] k f g t d h = absurd t
decides_below kept cs bs a n u (Stands (OfBatch j) c ss ∷ rs) (x ∷ es) k f g t d h = decides_below kept cs bs a n u rs es k f g.1 t.2 d.1 h
decides_below kept cs bs a n u (Stands (OfAct v) c ss ∷ rs) (x ∷ es) k f g t d h = by (v == u) refl h (decides_below kept cs bs a n u rs es k f g.1 t.2 d.1)
  where
    by : (b : Bool) → (v == u) ≡ b → (b || is_key_among (OfAct u) (keys_in rs)) ≡ true → (is_key_among (OfAct u) (keys_in rs) ≡ true → StandsBelow cs n u rs) → StandsBelow cs n u (Stands (OfAct v) c ss ∷ rs)
    by true e h r = let i : v ≡ u = eqb-true v u e in inl (i, clear_behind kept cs bs a n rs es k (false_from_ne_true (has_kept kept rs) (λ q. true≢false (sym (g.0 q) ∙ subst (λ z. is_kept (OfAct z) kept ≡ false) (sym i) f))) t.2 d.1)
    by false e h r = inr (r h)
