-- Places with tids, in order.
use Rattle.std.specs.Prelude.{◌≡◌, refl, ℕ, ℤ, Option, Some, None, ◌+◌, ◌<◌, ◌≤◌, ◌==◌, nat_lt, ◌⊎◌, Bool, true, false, ◌&&◌, ◌||◌, List, [], ◌∷◌, ◌++◌, map, Contains}
use Rattle.std.specs.List.{AllByRecursion, flat_map}
use Rattle.std.proofs.Common.{arith, ap, sym, subst, inl, inr, ◌∙◌}
use Rattle.std.proofs.lemmas.Bool.{or_cases, and_parts, ltb-true}
use Rattle.snap_base.specs.declared.ids.Tid.{Tid}
use Rattle.snap_base.specs.declared.transactions.TxResult.{TxResult}
use Rattle.snap_base.specs.declared.verdicts.Place.{Place}
use Rattle.snap_base.proofs.Lists.{all_join, both_all}
use Rattle.protocol.specs.Parts.{Pact}
use Rattle.protocol.specs.Words.{value_of}
use Rattle.protocol.specs.Verdicts.{pact_place, act_place}
use Rattle.protocol.specs.History.{Done}
use Rattle.protocol.specs.Chains.{is_place_below, IsBelowAll, PlacesRise}
use Rattle.protocol_laws.specs.Told.{PactsAscend}
use Rattle.protocol_laws.proofs.Lemmas.{by_batch, by_side, by_order}
use Rattle.protocol_theorems.proofs.Lemmas.{before_trans}
use Rattle.snap_recover.specs.declared.openings.Kept.{Kept}
use Rattle.snap_recover.specs.declared.openings.Kept.TheVariants as kept
use Rattle.snap_recover.specs.Opening.{ComesBefore}
use Rattle.snap_recover.proofs.Lists.{all_of_each, all_contains, contains_cases, contains_here, contains_there, contains_none, contains_left, contains_right}
use Rattle.log_set.specs.Told.{tids_of}
use Rattle.recovery_laws.specs.Grown.{PlacedResult, answer_of, answer_at, batch_answers, answers_of}
use Rattle.recovery_laws.proofs.InOrder.{Rises}

abbrev pub Spot : Type 0
Spot = PlacedResult

-- by place, and at one place by tid
abbrev pub Lower : Spot → Spot → Type 0
Lower x y = (is_place_below x.0 y.0 ≡ true) ⊎ ((x.0 ≡ y.0) × (x.1 < y.1))

abbrev pub SpotsRise : List Spot → Type 0
SpotsRise [] = Unit {0}
SpotsRise (x ∷ xs) = AllByRecursion (Lower x) xs × SpotsRise xs

-- ---- places

pact_before_act : (k t m c : ℕ) → k ≤ m → is_place_below (pact_place k t) (act_place m c) ≡ true
pact_before_act k t m c l = by (nat_lt k m) refl
  where
    by : (v : Bool) → nat_lt k m ≡ v → is_place_below (pact_place k t) (act_place m c) ≡ true
    by true e = by_batch (pact_place k t) (act_place m c) (ltb-true k m e)
    by false e = by_side (pact_place k t) (act_place m c) (omega (arith, l, Rattle.std.proofs.lemmas.Bool.ltb-false k m e)) (omega arith)

not_itself : (p : Place) → is_place_below p p ≡ true → ⊥
not_itself p e = elim (or_cases (nat_lt p.batch.0 p.batch.0) _ e) [
  | inl q ↦ omega (arith, ltb-true p.batch.0 p.batch.0 q)
  | inr q ↦ elim (or_cases (nat_lt p.side p.side) _ (and_parts (p.batch.0 == p.batch.0) (nat_lt p.side p.side || ((p.side == p.side) && nat_lt p.order p.order)) q).1) [
    | inl r ↦ omega (arith, ltb-true p.side p.side r)
    | inr r ↦ omega (arith, ltb-true p.order p.order (and_parts (p.side == p.side) (nat_lt p.order p.order) r).1)
  ]
]

not_both : (x y : Spot) → Lower x y → Lower y x → ⊥
not_both x y (inl a) (inl b) = not_itself x.0 (before_trans x.0 y.0 x.0 a b)
not_both x y (inl a) (inr b) = not_itself x.0 (subst (λ z. is_place_below x.0 z ≡ true) b.0 a)
not_both x y (inr a) (inl b) = not_itself y.0 (subst (λ z. is_place_below y.0 z ≡ true) a.0 b)
not_both x y (inr a) (inr b) = omega (arith, a.1, b.1)

-- ---- two lists that rise and have the same in them

abbrev Within : List Spot → List Spot → Type 0
Within xs ys = (z : Spot) → Contains xs z → Contains ys z

heads_meet : (x y : Spot) (xs ys : List Spot) → SpotsRise (x ∷ xs) → SpotsRise (y ∷ ys) → Within (x ∷ xs) (y ∷ ys) → Within (y ∷ ys) (x ∷ xs) → x ≡ y
heads_meet x y xs ys p q f g = elim (contains_cases y x ys (f x (contains_here x xs))) [
  | inl e ↦ sym e
  | inr m ↦ elim (contains_cases x y xs (g y (contains_here y ys))) [
    | inl e ↦ e
    | inr n ↦ absurd (not_both x y (all_contains (Lower x) xs y p.0 n) (all_contains (Lower y) ys x q.0 m))
  ]
]

tails_within : (x y : Spot) (xs ys : List Spot) → SpotsRise (x ∷ xs) → x ≡ y → Within (x ∷ xs) (y ∷ ys) → Within xs ys
tails_within x y xs ys p e f z m = elim (contains_cases y z ys (f z (contains_there x z xs m))) [
  | inl i ↦ absurd (let here : Lower z z = subst (λ u. Lower u z) (e ∙ i) (all_contains (Lower x) xs z p.0 m) in not_both z z here here)
  | inr n ↦ n
]

pub same_spots : (xs ys : List Spot) → SpotsRise xs → SpotsRise ys → Within xs ys → Within ys xs → xs ≡ ys
same_spots [] [] p q f g = refl
same_spots [] (y ∷ ys) p q f g = absurd (contains_none y (g y (contains_here y ys)))
same_spots (x ∷ xs) [] p q f g = absurd (contains_none x (f x (contains_here x xs)))
same_spots (x ∷ xs) (y ∷ ys) p q f g =
    let first : x ≡ y = heads_meet x y xs ys p q f g in
    let rest : xs ≡ ys = same_spots xs ys p.1 q.1 (tails_within x y xs ys p first f) (tails_within y x ys xs q (sym first) g) in
    ap (λ z. x ∷ z) rest ∙ ap (λ z. z ∷ ys) first

-- ---- what is kept

pub spots_all : (P : Spot → Type 0) (ks : List Kept) → AllByRecursion (λ k. AllByRecursion P (answers_of k)) ks → AllByRecursion P (flat_map answers_of ks)
spots_all P [] h = tt
spots_all P (k ∷ ks) h = all_join P (answers_of k) (flat_map answers_of ks) h.0 (spots_all P ks h.1)

pub spot_there : (ks : List Kept) (zs : List Spot) (z : Spot) → Contains (map answers_of ks) zs → Contains zs z → Contains (flat_map answers_of ks) z
spot_there [] zs z h m = absurd (contains_none zs h)
spot_there (k ∷ ks) zs z h m = elim (contains_cases (answers_of k) zs (map answers_of ks) h) [
  | inl e ↦ contains_left (answers_of k) (flat_map answers_of ks) z (subst (λ u. Contains u z) (sym e) m)
  | inr q ↦ contains_right (answers_of k) (flat_map answers_of ks) z (spot_there ks zs z q m)
]

each_tid : (P : Spot → Type 0) (k : ℕ) (ts : List Tid) (vs : List ℤ) → ((t : Tid) (r : Option TxResult) → P (pact_place k t.0, t.0, r)) → AllByRecursion P (batch_answers k ts vs)
each_tid P k [] vs h = tt
each_tid P k (t ∷ ts) [] h = (h t None, each_tid P k ts [] h)
each_tid P k (t ∷ ts) (v ∷ vs) h = (h t (answer_of (Some v)), each_tid P k ts vs h)

crosses : (k j : Kept) → ComesBefore k j → AllByRecursion (λ x. AllByRecursion (Lower x) (answers_of j)) (answers_of k)
crosses (kept.Batch b ts xs) (kept.Batch c us ys) l = each_tid (λ x. AllByRecursion (Lower x) (answers_of (kept.Batch c us ys))) b.0 ts xs (λ t r. each_tid (Lower (pact_place b.0 t.0, t.0, r)) c.0 us ys (λ u q. inl (by_batch (pact_place b.0 t.0) (pact_place c.0 u.0) l)))
crosses (kept.Batch b ts xs) (kept.Act t m c v) l = each_tid (λ x. AllByRecursion (Lower x) (answers_of (kept.Act t m c v))) b.0 ts xs (λ u r. (inl (pact_before_act b.0 u.0 m.0 c l), tt))
crosses (kept.Act t m c v) (kept.Batch b us ys) l = (each_tid (Lower (act_place m.0 c, t.0, answer_of v)) b.0 us ys (λ u r. inl (by_batch (act_place m.0 c) (pact_place b.0 u.0) l)), tt)
crosses (kept.Act t m c v) (kept.Act u n d w) (inl l) = ((inl (by_batch (act_place m.0 c) (act_place n.0 d) l), tt), tt)
crosses (kept.Act t m c v) (kept.Act u n d w) (inr (e, inl l)) = ((inl (by_order (act_place m.0 c) (act_place n.0 d) e refl l), tt), tt)
crosses (kept.Act t m c v) (kept.Act u n d w) (inr (e, inr (f, l))) = ((inr (ap (λ z. act_place z c) e ∙ ap (λ z. act_place n.0 z) f, l), tt), tt)

crosses_all : (k : Kept) (ks : List Kept) → AllByRecursion (ComesBefore k) ks → AllByRecursion (λ x. AllByRecursion (Lower x) (flat_map answers_of ks)) (answers_of k)
crosses_all k [] h = all_of_each (λ x. AllByRecursion (Lower x) []) (answers_of k) (λ x. tt)
crosses_all k (j ∷ js) h = both_all (λ x. AllByRecursion (Lower x) (answers_of j)) (λ x. AllByRecursion (Lower x) (flat_map answers_of js)) (λ x. AllByRecursion (Lower x) (flat_map answers_of (j ∷ js))) (answers_of k)
    (λ x a b. all_join (Lower x) (answers_of j) (flat_map answers_of js) a b) (crosses k j h.0) (crosses_all k js h.1)

spots_join : (xs ys : List Spot) → SpotsRise xs → SpotsRise ys → AllByRecursion (λ x. AllByRecursion (Lower x) ys) xs → SpotsRise (xs ++ ys)
spots_join [] ys p q h = q
spots_join (x ∷ xs) ys p q h = (all_join (Lower x) xs ys p.0 h.0, spots_join xs ys p.1 q h.1)

pub spots_rise : (ks : List Kept) → Rises ks → AllByRecursion (λ k. SpotsRise (answers_of k)) ks → SpotsRise (flat_map answers_of ks)
spots_rise [] r h = tt
spots_rise (k ∷ ks) r h = spots_join (answers_of k) (flat_map answers_of ks) h.0 (spots_rise ks r.1 h.1) (crosses_all k ks r.0)

-- ---- PACTs by their tids

-- the answers of these PACTs, as they are told
abbrev pub pact_answers : ℕ → List Pact → List Spot
pact_answers k ps = batch_answers k (tids_of (map (λ p. p.tid) ps)) (map (λ p. value_of p.result) ps)

pacts_above : (k t low : ℕ) (r : Option TxResult) (ps : List Pact) → t < low → PactsAscend low ps → AllByRecursion (Lower (pact_place k t, t, r)) (pact_answers k ps)
pacts_above k t low r [] l h = tt
pacts_above k t low r (p ∷ ps) l h = (inl (by_order (pact_place k t) (pact_place k p.tid) refl refl (omega (arith, l, h.0))), pacts_above k t (p.tid + 1) r ps (omega (arith, l, h.0)) h.1)

pub pacts_rise : (k low : ℕ) (ps : List Pact) → PactsAscend low ps → SpotsRise (pact_answers k ps)
pacts_rise k low [] h = tt
pacts_rise k low (p ∷ ps) h = (pacts_above k p.tid (p.tid + 1) (answer_of (Some (value_of p.result))) ps (omega arith) h.1, pacts_rise k (p.tid + 1) ps h.1)

-- ---- what committed

dones_above : (d : Done) (ds : List Done) → IsBelowAll d.place ds → AllByRecursion (Lower (answer_at d)) (map answer_at ds)
dones_above d [] h = tt
dones_above d (x ∷ xs) h = (inl h.0, dones_above d xs h.1)

pub dones_rise : (ds : List Done) → PlacesRise ds → SpotsRise (map answer_at ds)
dones_rise [] h = tt
dones_rise (d ∷ ds) h = (dones_above d ds h.0, dones_rise ds h.1)
