-- Before numbers along one long schedule.
use Rattle.std.specs.Prelude.{◌≡◌, refl, ℕ, ◌≤◌, ◌==◌, nat_le, max, not, Bool, true, false, ◌&&◌, ◌||◌, ◌⊎◌, if◌then◌else◌, Option, Some, None, List, [], ◌∷◌, ◌++◌, map, filter}
use Rattle.std.specs.List.{AllByRecursion, list_any}
use Rattle.std.proofs.Common.{arith, sym, ap, subst, inl, inr, ◌∙◌}
use Rattle.std.proofs.lemmas.Bool.{eqb-true, leb-true, le-leb, and_parts, or_cases, or_left, or_right, or_parts, and_from, eq-eqb, true≢false, false_from_ne_true}
use Rattle.protocol.specs.Rivals.{Lock, rivals}
use Rattle.protocol.specs.Parts.{Act, Pair, Cascade, Who, OfBatch, OfAct, Entry, BatchEntry, ActEntry}
use Rattle.protocol.specs.Words.{holds, is_doomed, is_live_status, is_aborted, act_of, group_behind, is_who}
use Rattle.protocol.specs.OnBook as book
use Rattle.protocol.specs.History.{Slice, Ran, Stands, Gone, not_run, ran_in, completed, left_for_good, without_standing, long_staying, batches_in}
use Rattle.protocol_laws.specs.Tracks.{keys_in, is_key_among}
use Rattle.protocol_laws.specs.Turns.{Turns}
use Rattle.protocol_laws.specs.Commits.{is_kept, KeptAhead, KeptFront, has_kept}
use Rattle.protocol_laws.specs.Befores.{is_above, Befores}
use Rattle.protocol_laws.specs.Highs.{is_free, is_free_or_above, reads_in, both_read, AllOver, doomed_at, is_pair, has_pair, is_paired, Paired, Grouped, AllDoomed, TakenAlong, is_above_or_aborted, StandsBelow}
use Rattle.protocol_laws.proofs.machine.ActsGrow.{Later, Grows, grown_holds}

-- ---- live ACTs are high

free_later : (kd : Bool) (x y : Act) → Later x y → is_free kd x ≡ true → is_free kd y ≡ true
free_later kd x y k h = elim (or_cases (kd && x.reader) (not (is_live_status x.status)) h) [
  | inl q ↦ or_left (kd && y.reader) _ (subst (λ z. (kd && z) ≡ true) (sym k.reader) q)
  | inr q ↦ or_right (kd && y.reader) _ (by (is_live_status y.status) refl q)
]
  where
    by : (b : Bool) → is_live_status y.status ≡ b → not (is_live_status x.status) ≡ true → not b ≡ true
    by false e q = refl
    by true e q = absurd (true≢false (sym q ∙ ap not (k.live e)))

over_later : (kd : Bool) (high : ℕ) (x y : Act) → Later x y → is_free_or_above kd high x ≡ true → is_free_or_above kd high y ≡ true
over_later kd high x y k h = elim (or_cases (is_free kd x) (nat_le high x.m) h) [
  | inl q ↦ or_left (is_free kd y) _ (free_later kd x y k q)
  | inr q ↦ or_right (is_free kd y) (nat_le high y.m) (le-leb high y.m (omega (arith, leb-true high x.m q, k.rises)))
]

pub over_grow : (kd : Bool) (acts acts' : List Act) (high : ℕ) (rs : List Ran) → Grows acts acts' → AllOver kd acts high rs → AllOver kd acts' high rs
over_grow kd acts acts' high [] g h = tt
over_grow kd acts acts' high (Stands (OfBatch k) c ss ∷ rs) g h = over_grow kd acts acts' high rs g h
over_grow kd acts acts' high (Stands (OfAct t) c ss ∷ rs) g h = (grown_holds (is_free_or_above kd high) acts acts' t (over_later kd high) g h.0, over_grow kd acts acts' high rs g h.1)
over_grow kd acts acts' high (Gone y ss ∷ rs) g h = over_grow kd acts acts' high rs g h

-- from one test to another, at one that is there
holds_to : (p q : Act → Bool) (o : Option Act) → ((x : Act) → p x ≡ true → q x ≡ true) → holds p o ≡ true → holds q o ≡ true
holds_to p q None k h = h
holds_to p q (Some x) k h = k x h

holds_two : (p q r : Act → Bool) (o : Option Act) → ((x : Act) → p x ≡ true → q x ≡ true → r x ≡ true) → holds p o ≡ true → holds q o ≡ true → holds r o ≡ true
holds_two p q r None k h g = h
holds_two p q r (Some x) k h g = k x h g

less_over : (kd : Bool) (low high : ℕ) (x : Act) → low ≤ high → is_free_or_above kd high x ≡ true → is_free_or_above kd low x ≡ true
less_over kd low high x l h = elim (or_cases (is_free kd x) (nat_le high x.m) h) [ inl q ↦ or_left (is_free kd x) _ q | inr q ↦ or_right (is_free kd x) (nat_le low x.m) (le-leb low x.m (omega (arith, l, leb-true high x.m q))) ]

pub over_less : (kd : Bool) (acts : List Act) (low high : ℕ) (rs : List Ran) → low ≤ high → AllOver kd acts high rs → AllOver kd acts low rs
over_less kd acts low high [] l h = tt
over_less kd acts low high (Stands (OfBatch k) c ss ∷ rs) l h = over_less kd acts low high rs l h
over_less kd acts low high (Stands (OfAct t) c ss ∷ rs) l h = (holds_to (is_free_or_above kd high) (is_free_or_above kd low) (act_of t acts) (λ x. less_over kd low high x l) h.0, over_less kd acts low high rs l h.1)
over_less kd acts low high (Gone y ss ∷ rs) l h = over_less kd acts low high rs l h

pub over_batch : (kd : Bool) (acts : List Act) (high k : ℕ) (rs : List Ran) → AllOver kd acts high rs → AllOver kd acts high (rs ++ not_run (OfBatch k) ∷ [])
over_batch kd acts high k [] h = tt
over_batch kd acts high k (Stands (OfBatch j) c ss ∷ rs) h = over_batch kd acts high k rs h
over_batch kd acts high k (Stands (OfAct t) c ss ∷ rs) h = (h.0, over_batch kd acts high k rs h.1)
over_batch kd acts high k (Gone y ss ∷ rs) h = over_batch kd acts high k rs h

pub over_act : (kd : Bool) (acts : List Act) (high t : ℕ) (rs : List Ran) → holds (is_free_or_above kd high) (act_of t acts) ≡ true → AllOver kd acts high rs → AllOver kd acts high (rs ++ not_run (OfAct t) ∷ [])
over_act kd acts high t [] q h = (q, tt)
over_act kd acts high t (Stands (OfBatch j) c ss ∷ rs) q h = over_act kd acts high t rs q h
over_act kd acts high t (Stands (OfAct u) c ss ∷ rs) q h = (h.0, over_act kd acts high t rs q h.1)
over_act kd acts high t (Gone y ss ∷ rs) q h = over_act kd acts high t rs q h

pub over_ran : (kd : Bool) (acts : List Act) (high : ℕ) (who : Who) (x : Slice) (rs : List Ran) → AllOver kd acts high rs → AllOver kd acts high (map (ran_in who x) rs)
over_ran kd acts high who x [] h = tt
over_ran kd acts high who x (Stands (OfBatch j) c ss ∷ rs) h = over_ran kd acts high who x rs h
over_ran kd acts high who x (Stands (OfAct u) c ss ∷ rs) h = (h.0, over_ran kd acts high who x rs h.1)
over_ran kd acts high who x (Gone y ss ∷ rs) h = over_ran kd acts high who x rs h

pub over_completed : (kd : Bool) (acts : List Act) (high k : ℕ) (rs : List Ran) → AllOver kd acts high rs → AllOver kd acts high (map (completed k) rs)
over_completed kd acts high k [] h = tt
over_completed kd acts high k (Stands (OfBatch j) c ss ∷ rs) h = over_completed kd acts high k rs h
over_completed kd acts high k (Stands (OfAct u) c ss ∷ rs) h = (h.0, over_completed kd acts high k rs h.1)
over_completed kd acts high k (Gone y ss ∷ rs) h = over_completed kd acts high k rs h

pub over_left : (kd : Bool) (acts : List Act) (high : ℕ) (who : Who) (rs : List Ran) → AllOver kd acts high rs → AllOver kd acts high (map (left_for_good who) rs)
over_left kd acts high who [] h = tt
over_left kd acts high who (Stands (OfBatch j) c ss ∷ rs) h = by (is_who (OfBatch j) who) (over_left kd acts high who rs h)
  where
    by : (b : Bool) → AllOver kd acts high (map (left_for_good who) rs) → AllOver kd acts high ((if b then Gone (OfBatch j) ss else Stands (OfBatch j) c ss) ∷ map (left_for_good who) rs)
    by true g = g
    by false g = g
over_left kd acts high who (Stands (OfAct u) c ss ∷ rs) h = by (is_who (OfAct u) who) (over_left kd acts high who rs h.1)
  where
    by : (b : Bool) → AllOver kd acts high (map (left_for_good who) rs) → AllOver kd acts high ((if b then Gone (OfAct u) ss else Stands (OfAct u) c ss) ∷ map (left_for_good who) rs)
    by true g = g
    by false g = (h.0, g)
over_left kd acts high who (Gone y ss ∷ rs) h = over_left kd acts high who rs h

pub over_without : (kd : Bool) (acts : List Act) (high t : ℕ) (rs : List Ran) → AllOver kd acts high rs → AllOver kd acts high (without_standing (OfAct t) rs)
over_without kd acts high t [] h = tt
over_without kd acts high t (Stands (OfBatch j) c ss ∷ rs) h = over_without kd acts high t rs h
over_without kd acts high t (Stands (OfAct u) c ss ∷ rs) h = by (u == t) (over_without kd acts high t rs h.1)
  where
    by : (b : Bool) → AllOver kd acts high (without_standing (OfAct t) rs) → AllOver kd acts high (if b then without_standing (OfAct t) rs else Stands (OfAct u) c ss ∷ without_standing (OfAct t) rs)
    by true g = g
    by false g = (h.0, g)
over_without kd acts high t (Gone y ss ∷ rs) h = over_without kd acts high t rs h

pub over_staying : (kd : Bool) (acts : List Act) (high : ℕ) (cs : List Cascade) (rs : List Ran) → AllOver kd acts high rs → AllOver kd acts high (long_staying cs rs)
over_staying kd acts high cs [] h = tt
over_staying kd acts high cs (Stands (OfBatch j) c ss ∷ rs) h = by (is_aborted j cs) (over_staying kd acts high cs rs h)
  where
    by : (b : Bool) → AllOver kd acts high (long_staying cs rs) → AllOver kd acts high (if b then [] else Stands (OfBatch j) c ss ∷ long_staying cs rs)
    by true g = tt
    by false g = g
over_staying kd acts high cs (Stands (OfAct u) c ss ∷ rs) h = (h.0, over_staying kd acts high cs rs h.1)
over_staying kd acts high cs (Gone y ss ∷ rs) h = over_staying kd acts high cs rs h

-- ---- higher

doomed_free : (kd : Bool) (x : Act) → is_doomed x.status ≡ true → is_free kd x ≡ true
doomed_free kd x d = or_right (kd && x.reader) _ (by x.status d)
  where
    by : (st : Rattle.protocol.specs.Parts.Status) → is_doomed st ≡ true → not (is_live_status st) ≡ true
    by Rattle.protocol.specs.Parts.Live e = absurd (true≢false (sym e))
    by (Rattle.protocol.specs.Parts.Doomed v) e = refl
    by (Rattle.protocol.specs.Parts.Decided d) e = refl
    by (Rattle.protocol.specs.Parts.Sealed d) e = refl

both_over : (kd : Bool) (top high k : ℕ) (x : Act) → k ≤ top → is_above top x ≡ true → is_free_or_above kd high x ≡ true → is_free_or_above kd (max high k) x ≡ true
both_over kd top high k x l a o = elim (or_cases (is_free kd x) (nat_le high x.m) o) [
  | inl q ↦ or_left (is_free kd x) _ q
  | inr q ↦ elim (or_cases (is_doomed x.status) (nat_le top x.m) a) [
    | inl d ↦ or_left (is_free kd x) _ (doomed_free kd x d)
    | inr d ↦ or_right (is_free kd x) _ (le-leb (max high k) x.m (omega (arith, leb-true high x.m q, leb-true top x.m d, l)))
  ]
]

-- behind a batch that is at least so great
pub over_top : (kd : Bool) (acts : List Act) (top high n : ℕ) (rs : List Ran) → n ≤ top → Befores acts top rs → AllOver kd acts high rs → AllOver kd acts (max high n) rs
over_top kd acts top high n [] l b h = tt
over_top kd acts top high n (Stands (OfBatch k) c ss ∷ rs) l b h = over_top kd acts (max top k) high n rs (omega (arith, l)) b h
over_top kd acts top high n (Stands (OfAct t) c ss ∷ rs) l b h = (holds_two (is_above top) (is_free_or_above kd high) (is_free_or_above kd (max high n)) (act_of t acts) (λ x. both_over kd top high n x l) b.0 h.0, over_top kd acts top high n rs l b.1 h.1)
over_top kd acts top high n (Gone (OfBatch k) ss ∷ rs) l b h = over_top kd acts (max top k) high n rs (omega (arith, l)) b h
over_top kd acts top high n (Gone (OfAct t) ss ∷ rs) l b h = over_top kd acts top high n rs l b h

abbrev pub NotLive : List Act → ℕ → Type 0
NotLive acts t = holds (λ x. not (is_live_status x.status)) (act_of t acts) ≡ true

pub not_live_over : (kd : Bool) (acts : List Act) (high t : ℕ) → NotLive acts t → holds (is_free_or_above kd high) (act_of t acts) ≡ true
not_live_over kd acts high t h = holds_to (λ x. not (is_live_status x.status)) (is_free_or_above kd high) (act_of t acts) (λ x q. or_left (is_free kd x) _ (or_right (kd && x.reader) _ q)) h

-- it need not be over
abbrev pub FreeAt : Bool → List Act → ℕ → Type 0
FreeAt kd acts t = holds (is_free kd) (act_of t acts) ≡ true

free_over : (kd : Bool) (acts : List Act) (high t : ℕ) → FreeAt kd acts t → holds (is_free_or_above kd high) (act_of t acts) ≡ true
free_over kd acts high t h = holds_to (is_free kd) (is_free_or_above kd high) (act_of t acts) (λ x q. or_left (is_free kd x) _ q) h

-- all ACTs ahead of this one need not be over
abbrev pub FreeAhead : Bool → List Act → ℕ → List Ran → Type 0
FreeAhead kd acts u [] = Unit {0}
FreeAhead kd acts u (Stands (OfBatch k) c ss ∷ rs) = FreeAhead kd acts u rs
FreeAhead kd acts u (Stands (OfAct t) c ss ∷ rs) = (is_key_among (OfAct u) (keys_in rs) ≡ true → FreeAt kd acts t) × FreeAhead kd acts u rs
FreeAhead kd acts u (Gone y ss ∷ rs) = FreeAhead kd acts u rs

-- a batch commits: what is ahead of it committed, and what is behind it is high
pub over_commit : (kd : Bool) (acts : List Act) (kept : List Who) (k top high : ℕ) (rs : List Ran) → ((t : ℕ) → is_kept (OfAct t) kept ≡ true → NotLive acts t) → is_key_among (OfBatch k) (keys_in rs) ≡ true → KeptAhead kept (OfBatch k) rs → Befores acts top rs → AllOver kd acts high rs → AllOver kd acts (max high k) rs
over_commit kd acts kept k top high [] n i q b h = absurd (true≢false (sym i))
over_commit kd acts kept k top high (Stands (OfBatch j) c ss ∷ rs) n i q b h = by (j == k) refl i (λ v. over_commit kd acts kept k (max top j) high rs n v q.1 b h)
  where
    by : (v : Bool) → (j == k) ≡ v → (v || is_key_among (OfBatch k) (keys_in rs)) ≡ true → (is_key_among (OfBatch k) (keys_in rs) ≡ true → AllOver kd acts (max high k) rs) → AllOver kd acts (max high k) rs
    by true e i r = over_top kd acts (max top j) high k rs (omega (arith, eqb-true j k e)) b h
    by false e i r = r i
over_commit kd acts kept k top high (Stands (OfAct t) c ss ∷ rs) n i q b h = (not_live_over kd acts (max high k) t (n t (q.0 i)), over_commit kd acts kept k top high rs n i q.1 b.1 h.1)
over_commit kd acts kept k top high (Gone (OfBatch j) ss ∷ rs) n i q b h = over_commit kd acts kept k (max top j) high rs n i q b h
over_commit kd acts kept k top high (Gone (OfAct t) ss ∷ rs) n i q b h = over_commit kd acts kept k top high rs n i q b h

doomed_over : (kd : Bool) (acts : List Act) (high : ℕ) (rs : List Ran) → AllDoomed acts rs → AllOver kd acts high rs
doomed_over kd acts high [] h = tt
doomed_over kd acts high (Stands (OfBatch k) c ss ∷ rs) h = doomed_over kd acts high rs h
doomed_over kd acts high (Stands (OfAct t) c ss ∷ rs) h = (holds_to (λ x. is_doomed x.status) (is_free_or_above kd high) (act_of t acts) (λ x q. or_left (is_free kd x) _ (doomed_free kd x q)) h.0, doomed_over kd acts high rs h.1)
doomed_over kd acts high (Gone y ss ∷ rs) h = doomed_over kd acts high rs h

-- behind an ACT that gets its place with the number n: its pairs, and then what is behind a batch
over_behind : (kd : Bool) (acts : List Act) (kept : List Who) (a : ℕ) (ps : List Pair) (cs : List Cascade) (u n top high : ℕ) (rs : List Ran)
    → ((t : ℕ) → is_paired a ps acts u t ≡ true → holds (is_free_or_above kd high) (act_of t acts) ≡ true → holds (is_free_or_above kd (max high n)) (act_of t acts) ≡ true)
    → has_kept kept rs ≡ false → Paired a ps acts u rs → AllByRecursion (λ k. is_above_or_aborted cs n k ≡ true) (batches_in rs) → TakenAlong cs acts rs → Befores acts top rs → AllOver kd acts high rs → AllOver kd acts (max high n) rs
over_behind kd acts kept a ps cs u n top high [] r e p q x b h = tt
over_behind kd acts kept a ps cs u n top high (Stands (OfBatch k) c ss ∷ rs) r e p q x b h = elim (or_cases (is_aborted k cs) (nat_le n k) q.0) [
  | inl v ↦ doomed_over kd acts (max high n) rs (x.0 v)
  | inr v ↦ over_top kd acts (max top k) high n rs (omega (arith, leb-true n k v)) b h
]
over_behind kd acts kept a ps cs u n top high (Stands (OfAct t) c ss ∷ rs) r e p q x b h = (r t p.0 h.0, over_behind kd acts kept a ps cs u n top high rs r (or_parts (is_kept (OfAct t) kept) (has_kept kept rs) e).1 p.1 q x.1 b.1 h.1)
over_behind kd acts kept a ps cs u n top high (Gone y ss ∷ rs) r e p q x b h = absurd (true≢false e)

below_among : (cs : List Cascade) (n u : ℕ) (rs : List Ran) → StandsBelow cs n u rs → is_key_among (OfAct u) (keys_in rs) ≡ true
below_among cs n u [] h = absurd h
below_among cs n u (Stands (OfBatch k) c ss ∷ rs) h = below_among cs n u rs h
below_among cs n u (Stands (OfAct t) c ss ∷ rs) h = elim h [ inl p ↦ or_left (t == u) _ (eq-eqb t u p.0) | inr q ↦ or_right (t == u) (is_key_among (OfAct u) (keys_in rs)) (below_among cs n u rs q) ]
below_among cs n u (Gone y ss ∷ rs) h = below_among cs n u rs h

-- an ACT gets its place: what is ahead of it committed, and what is behind it is high
pub over_decide : (kd : Bool) (acts : List Act) (kept : List Who) (a : ℕ) (ps : List Pair) (cs : List Cascade) (u n top high : ℕ) (rs : List Ran)
    → ((t : ℕ) → is_paired a ps acts u t ≡ true → holds (is_free_or_above kd high) (act_of t acts) ≡ true → holds (is_free_or_above kd (max high n)) (act_of t acts) ≡ true)
    → (holds (is_free_or_above kd high) (act_of u acts) ≡ true → holds (is_free_or_above kd (max high n)) (act_of u acts) ≡ true)
    → is_kept (OfAct u) kept ≡ false → KeptFront kept rs → FreeAhead kd acts u rs → Grouped a ps acts rs → StandsBelow cs n u rs
    → TakenAlong cs acts rs → Befores acts top rs → AllOver kd acts high rs → AllOver kd acts (max high n) rs
over_decide kd acts kept a ps cs u n top high [] q o f front ahead g st x b h = absurd st
over_decide kd acts kept a ps cs u n top high (Stands (OfBatch k) c ss ∷ rs) q o f front ahead g st x b h = over_decide kd acts kept a ps cs u n (max top k) high rs q o f front.1 ahead g st x.1 b h
over_decide kd acts kept a ps cs u n top high (Stands (OfAct t) c ss ∷ rs) q o f front ahead g st x b h = elim st [
  | inl p ↦
      let none : has_kept kept rs ≡ false = false_from_ne_true (has_kept kept rs) (λ v. true≢false (sym (front.0 v) ∙ subst (λ z. is_kept (OfAct z) kept ≡ false) (sym p.0) f)) in (
        subst (λ z. holds (is_free_or_above kd high) (act_of z acts) ≡ true → holds (is_free_or_above kd (max high n)) (act_of z acts) ≡ true) (sym p.0) o h.0,
        over_behind kd acts kept a ps cs u n top high rs q none (subst (λ z. Paired a ps acts z rs) p.0 g.0) p.1 x.1 b.1 h.1,
      )
  | inr v ↦ (free_over kd acts (max high n) t (ahead.0 (below_among cs n u rs v)), over_decide kd acts kept a ps cs u n top high rs q o f front.1 ahead.1 g.1 v x.1 b.1 h.1)
]
over_decide kd acts kept a ps cs u n top high (Gone (OfBatch k) ss ∷ rs) q o f front ahead g st x b h = over_decide kd acts kept a ps cs u n (max top k) high rs q o f front.1 ahead g st x b h
over_decide kd acts kept a ps cs u n top high (Gone (OfAct t) ss ∷ rs) q o f front ahead g st x b h = over_decide kd acts kept a ps cs u n top high rs q o f front.1 ahead g st x b h

-- ---- ACTs with no batch between them are pairs

doomed_later : (x y : Act) → Later x y → is_doomed x.status ≡ true → is_doomed y.status ≡ true
doomed_later x y k h = k.doomed h

paired_to : (p p' q q' r r' : Bool) → (p ≡ true → p' ≡ true) → (q ≡ true → q' ≡ true) → (r ≡ true → r' ≡ true) → (p || (q || r)) ≡ true → (p' || (q' || r')) ≡ true
paired_to p p' q q' r r' k l m h = elim (or_cases p (q || r) h) [
  | inl e ↦ or_left p' _ (k e)
  | inr e ↦ or_right p' (q' || r') (elim (or_cases q r e) [ inl f ↦ or_left q' _ (l f) | inr f ↦ or_right q' r' (m f) ])
]

either : (p p' q q' : Bool) → (p ≡ true → p' ≡ true) → (q ≡ true → q' ≡ true) → (p || q) ≡ true → (p' || q') ≡ true
either p p' q q' k l h = elim (or_cases p q h) [ inl e ↦ or_left p' _ (k e) | inr e ↦ or_right p' q' (l e) ]

pub both_later : (acts acts' : List Act) (u t : ℕ) → Grows acts acts' → both_read acts u t ≡ true → both_read acts' u t ≡ true
both_later acts acts' u t g h =
    let p = and_parts (reads_in acts u) (reads_in acts t) h in
    and_from (reads_in acts' u) (reads_in acts' t) (grown_holds (λ x. x.reader) acts acts' u (λ x y k q. k.reader ∙ q) g p.0) (grown_holds (λ x. x.reader) acts acts' t (λ x y k q. k.reader ∙ q) g p.1)

-- the book changes: who was doomed is, and what pairs there are stay where they are asked for
pub paired_change : (a : ℕ) (ps ps' : List Pair) (acts acts' : List Act) (u : ℕ) (rs : List Ran) → Grows acts acts' → ((t : ℕ) → has_pair a t u ps ≡ true → has_pair a t u ps' ≡ true) → Paired a ps acts u rs → Paired a ps' acts' u rs
paired_change a ps ps' acts acts' u [] g k h = tt
paired_change a ps ps' acts acts' u (Stands (OfBatch j) c ss ∷ rs) g k h = tt
paired_change a ps ps' acts acts' u (Stands (OfAct t) c ss ∷ rs) g k h = (
  either (both_read acts u t) (both_read acts' u t) _ _ (both_later acts acts' u t g) (paired_to (doomed_at acts u) (doomed_at acts' u) (doomed_at acts t) (doomed_at acts' t) (has_pair a t u ps) (has_pair a t u ps') (grown_holds (λ x. is_doomed x.status) acts acts' u doomed_later g) (grown_holds (λ x. is_doomed x.status) acts acts' t doomed_later g) (k t)) h.0,
  paired_change a ps ps' acts acts' u rs g k h.1,
)
paired_change a ps ps' acts acts' u (Gone (OfBatch j) ss ∷ rs) g k h = tt
paired_change a ps ps' acts acts' u (Gone (OfAct t) ss ∷ rs) g k h = paired_change a ps ps' acts acts' u rs g k h

pub grouped_change : (a : ℕ) (ps ps' : List Pair) (acts acts' : List Act) (rs : List Ran) → Grows acts acts' → ((u t : ℕ) → has_pair a t u ps ≡ true → has_pair a t u ps' ≡ true) → Grouped a ps acts rs → Grouped a ps' acts' rs
grouped_change a ps ps' acts acts' [] g k h = tt
grouped_change a ps ps' acts acts' (Stands (OfBatch j) c ss ∷ rs) g k h = grouped_change a ps ps' acts acts' rs g k h
grouped_change a ps ps' acts acts' (Stands (OfAct u) c ss ∷ rs) g k h = (paired_change a ps ps' acts acts' u rs g (k u) h.0, grouped_change a ps ps' acts acts' rs g k h.1)
grouped_change a ps ps' acts acts' (Gone y ss ∷ rs) g k h = grouped_change a ps ps' acts acts' rs g k h

paired_batch : (a : ℕ) (ps : List Pair) (acts : List Act) (u k : ℕ) (rs : List Ran) → Paired a ps acts u rs → Paired a ps acts u (rs ++ not_run (OfBatch k) ∷ [])
paired_batch a ps acts u k [] h = tt
paired_batch a ps acts u k (Stands (OfBatch j) c ss ∷ rs) h = tt
paired_batch a ps acts u k (Stands (OfAct t) c ss ∷ rs) h = (h.0, paired_batch a ps acts u k rs h.1)
paired_batch a ps acts u k (Gone (OfBatch j) ss ∷ rs) h = tt
paired_batch a ps acts u k (Gone (OfAct t) ss ∷ rs) h = paired_batch a ps acts u k rs h

pub grouped_batch : (a : ℕ) (ps : List Pair) (acts : List Act) (k : ℕ) (rs : List Ran) → Grouped a ps acts rs → Grouped a ps acts (rs ++ not_run (OfBatch k) ∷ [])
grouped_batch a ps acts k [] h = tt
grouped_batch a ps acts k (Stands (OfBatch j) c ss ∷ rs) h = grouped_batch a ps acts k rs h
grouped_batch a ps acts k (Stands (OfAct u) c ss ∷ rs) h = (paired_batch a ps acts u k rs h.0, grouped_batch a ps acts k rs h.1)
grouped_batch a ps acts k (Gone y ss ∷ rs) h = grouped_batch a ps acts k rs h

paired_act : (a : ℕ) (ps : List Pair) (acts : List Act) (u t : ℕ) (rs : List Ran) → (batches_in rs ≡ [] → is_paired a ps acts u t ≡ true) → Paired a ps acts u rs → Paired a ps acts u (rs ++ not_run (OfAct t) ∷ [])
paired_act a ps acts u t [] k h = (k refl, tt)
paired_act a ps acts u t (Stands (OfBatch j) c ss ∷ rs) k h = tt
paired_act a ps acts u t (Stands (OfAct v) c ss ∷ rs) k h = (h.0, paired_act a ps acts u t rs k h.1)
paired_act a ps acts u t (Gone (OfBatch j) ss ∷ rs) k h = tt
paired_act a ps acts u t (Gone (OfAct v) ss ∷ rs) k h = paired_act a ps acts u t rs k h

-- this ACT is among some
abbrev pub is_lock_among : ℕ → List Lock → Bool
is_lock_among u xs = list_any (λ x. x.tid == u) xs

lock_more : (u : ℕ) (xs ys : List Lock) → is_lock_among u xs ≡ true → is_lock_among u (xs ++ ys) ≡ true
lock_more u [] ys h = absurd (true≢false (sym h))
lock_more u (x ∷ xs) ys h = elim (or_cases (x.tid == u) (is_lock_among u xs) h) [ inl e ↦ or_left (x.tid == u) _ e | inr e ↦ or_right (x.tid == u) _ (lock_more u xs ys e) ]

pub lock_last : (x : Lock) (xs : List Lock) → is_lock_among x.tid (xs ++ x ∷ []) ≡ true
lock_last x [] = or_left (x.tid == x.tid) _ (eq-eqb x.tid x.tid refl)
lock_last x (y ∷ ys) = or_right (y.tid == x.tid) _ (lock_last x ys)

-- with no batch behind it, it stays in the group
pub in_tail : (u : ℕ) (seen : List Lock) (rs : List Ran) (es : List Entry) → batches_in rs ≡ [] → Turns rs es → is_lock_among u seen ≡ true → is_lock_among u (group_behind seen es) ≡ true
in_tail u seen [] [] e t h = h
in_tail u seen [] (x ∷ es) e t h = absurd t
in_tail u seen (Gone (OfBatch j) ss ∷ rs) es e t h = absurd (cc e)
in_tail u seen (Gone (OfAct v) ss ∷ rs) es e t h = in_tail u seen rs es e t h
in_tail u seen (Stands y c ss ∷ rs) [] e t h = absurd t
in_tail u seen (Stands (OfBatch j) c ss ∷ rs) (x ∷ es) e t h = absurd (cc e)
in_tail u seen (Stands (OfAct v) c ss ∷ rs) (BatchEntry b ∷ es) e t h = absurd (cc t.0)
in_tail u seen (Stands (OfAct v) c ss ∷ rs) (ActEntry x ∷ es) e t h = in_tail u (seen ++ x ∷ []) rs es e t.2 (lock_more u seen (x ∷ []) h)

-- who is placed is paired with those of the group at the end
pub grouped_act : (a : ℕ) (ps : List Pair) (acts : List Act) (t : ℕ) (group seen : List Lock) (rs : List Ran) (es : List Entry) → Turns rs es → group_behind seen es ≡ group → ((u : ℕ) → is_lock_among u group ≡ true → is_paired a ps acts u t ≡ true)
    → Grouped a ps acts rs → Grouped a ps acts (rs ++ not_run (OfAct t) ∷ [])
grouped_act a ps acts t group seen [] es r e k h = (tt, tt)
grouped_act a ps acts t group seen (Gone y ss ∷ rs) es r e k h = grouped_act a ps acts t group seen rs es r e k h
grouped_act a ps acts t group seen (Stands y c ss ∷ rs) [] r e k h = absurd r
grouped_act a ps acts t group seen (Stands (OfBatch j) c ss ∷ rs) (ActEntry x ∷ es) r e k h = absurd (cc r.0)
grouped_act a ps acts t group seen (Stands (OfBatch j) c ss ∷ rs) (BatchEntry b ∷ es) r e k h = grouped_act a ps acts t group [] rs es r.2 e k h
grouped_act a ps acts t group seen (Stands (OfAct v) c ss ∷ rs) (BatchEntry b ∷ es) r e k h = absurd (cc r.0)
grouped_act a ps acts t group seen (Stands (OfAct v) c ss ∷ rs) (ActEntry x ∷ es) r e k h =
    let i : x.tid ≡ v = cc r.0 in (
      paired_act a ps acts v t rs (λ n. k v (subst (λ z. is_lock_among v z ≡ true) e (in_tail v (seen ++ x ∷ []) rs es n r.2 (subst (λ z. is_lock_among z (seen ++ x ∷ []) ≡ true) i (lock_last x seen))))) h.0,
      grouped_act a ps acts t group (seen ++ x ∷ []) rs es r.2 e k h.1,
    )

paired_ran : (a : ℕ) (ps : List Pair) (acts : List Act) (u : ℕ) (who : Who) (x : Slice) (rs : List Ran) → Paired a ps acts u rs → Paired a ps acts u (map (ran_in who x) rs)
paired_ran a ps acts u who x [] h = tt
paired_ran a ps acts u who x (Stands (OfBatch j) c ss ∷ rs) h = tt
paired_ran a ps acts u who x (Stands (OfAct t) c ss ∷ rs) h = (h.0, paired_ran a ps acts u who x rs h.1)
paired_ran a ps acts u who x (Gone (OfBatch j) ss ∷ rs) h = tt
paired_ran a ps acts u who x (Gone (OfAct t) ss ∷ rs) h = paired_ran a ps acts u who x rs h

pub grouped_ran : (a : ℕ) (ps : List Pair) (acts : List Act) (who : Who) (x : Slice) (rs : List Ran) → Grouped a ps acts rs → Grouped a ps acts (map (ran_in who x) rs)
grouped_ran a ps acts who x [] h = tt
grouped_ran a ps acts who x (Stands (OfBatch j) c ss ∷ rs) h = grouped_ran a ps acts who x rs h
grouped_ran a ps acts who x (Stands (OfAct u) c ss ∷ rs) h = (paired_ran a ps acts u who x rs h.0, grouped_ran a ps acts who x rs h.1)
grouped_ran a ps acts who x (Gone y ss ∷ rs) h = grouped_ran a ps acts who x rs h

paired_completed : (a : ℕ) (ps : List Pair) (acts : List Act) (u k : ℕ) (rs : List Ran) → Paired a ps acts u rs → Paired a ps acts u (map (completed k) rs)
paired_completed a ps acts u k [] h = tt
paired_completed a ps acts u k (Stands (OfBatch j) c ss ∷ rs) h = tt
paired_completed a ps acts u k (Stands (OfAct t) c ss ∷ rs) h = (h.0, paired_completed a ps acts u k rs h.1)
paired_completed a ps acts u k (Gone (OfBatch j) ss ∷ rs) h = tt
paired_completed a ps acts u k (Gone (OfAct t) ss ∷ rs) h = paired_completed a ps acts u k rs h

pub grouped_completed : (a : ℕ) (ps : List Pair) (acts : List Act) (k : ℕ) (rs : List Ran) → Grouped a ps acts rs → Grouped a ps acts (map (completed k) rs)
grouped_completed a ps acts k [] h = tt
grouped_completed a ps acts k (Stands (OfBatch j) c ss ∷ rs) h = grouped_completed a ps acts k rs h
grouped_completed a ps acts k (Stands (OfAct u) c ss ∷ rs) h = (paired_completed a ps acts u k rs h.0, grouped_completed a ps acts k rs h.1)
grouped_completed a ps acts k (Gone y ss ∷ rs) h = grouped_completed a ps acts k rs h

paired_left : (a : ℕ) (ps : List Pair) (acts : List Act) (u : ℕ) (who : Who) (rs : List Ran) → Paired a ps acts u rs → Paired a ps acts u (map (left_for_good who) rs)
paired_left a ps acts u who [] h = tt
paired_left a ps acts u who (Stands (OfBatch j) c ss ∷ rs) h = by (is_who (OfBatch j) who)
  where
    by : (b : Bool) → Paired a ps acts u ((if b then Gone (OfBatch j) ss else Stands (OfBatch j) c ss) ∷ map (left_for_good who) rs)
    by true = tt
    by false = tt
paired_left a ps acts u who (Stands (OfAct t) c ss ∷ rs) h = by (is_who (OfAct t) who) (paired_left a ps acts u who rs h.1)
  where
    by : (b : Bool) → Paired a ps acts u (map (left_for_good who) rs) → Paired a ps acts u ((if b then Gone (OfAct t) ss else Stands (OfAct t) c ss) ∷ map (left_for_good who) rs)
    by true g = g
    by false g = (h.0, g)
paired_left a ps acts u who (Gone (OfBatch j) ss ∷ rs) h = tt
paired_left a ps acts u who (Gone (OfAct t) ss ∷ rs) h = paired_left a ps acts u who rs h

pub grouped_left : (a : ℕ) (ps : List Pair) (acts : List Act) (who : Who) (rs : List Ran) → Grouped a ps acts rs → Grouped a ps acts (map (left_for_good who) rs)
grouped_left a ps acts who [] h = tt
grouped_left a ps acts who (Stands (OfBatch j) c ss ∷ rs) h = by (is_who (OfBatch j) who) (grouped_left a ps acts who rs h)
  where
    by : (b : Bool) → Grouped a ps acts (map (left_for_good who) rs) → Grouped a ps acts ((if b then Gone (OfBatch j) ss else Stands (OfBatch j) c ss) ∷ map (left_for_good who) rs)
    by true g = g
    by false g = g
grouped_left a ps acts who (Stands (OfAct u) c ss ∷ rs) h = by (is_who (OfAct u) who) (grouped_left a ps acts who rs h.1)
  where
    by : (b : Bool) → Grouped a ps acts (map (left_for_good who) rs) → Grouped a ps acts ((if b then Gone (OfAct u) ss else Stands (OfAct u) c ss) ∷ map (left_for_good who) rs)
    by true g = g
    by false g = (paired_left a ps acts u who rs h.0, g)
grouped_left a ps acts who (Gone y ss ∷ rs) h = grouped_left a ps acts who rs h

-- the pairs of one that leaves go
abbrev pub pairs_left : ℕ → ℕ → List Pair → List Pair
pairs_left t a ps = filter (λ p. not ((p.ahead == t) && (p.actor == a))) ps

pub pair_stays : (t a b v u : ℕ) (ps : List Pair) → ((u == t) && (b == a)) ≡ false → has_pair b v u ps ≡ true → has_pair b v u (pairs_left t a ps) ≡ true
pair_stays t a b v u [] n h = h
pair_stays t a b v u (p ∷ ps) n h = by ((p.ahead == t) && (p.actor == a)) refl (or_cases (is_pair b v u p) (has_pair b v u ps) h) (pair_stays t a b v u ps n)
  where
    by : (q : Bool) → ((p.ahead == t) && (p.actor == a)) ≡ q → (is_pair b v u p ≡ true) ⊎ (has_pair b v u ps ≡ true) → (has_pair b v u ps ≡ true → has_pair b v u (pairs_left t a ps) ≡ true)
        → has_pair b v u (if not q then p ∷ pairs_left t a ps else pairs_left t a ps) ≡ true
    by true e (inl i) r =
        let x = and_parts (p.behind == v) ((p.ahead == u) && (p.actor == b)) i in
        let y = and_parts (p.ahead == u) (p.actor == b) x.1 in
        absurd (true≢false (sym (subst (λ z. ((z == t) && (b == a)) ≡ true) (eqb-true p.ahead u y.0) (subst (λ z. ((p.ahead == t) && (z == a)) ≡ true) (eqb-true p.actor b y.1) e)) ∙ n))
    by true e (inr i) r = r i
    by false e (inl i) r = or_left (is_pair b v u p) _ i
    by false e (inr i) r = or_right (is_pair b v u p) (has_pair b v u (pairs_left t a ps)) (r i)

-- on another actor, and of other ACTs, they stay
paired_other : (t a b : ℕ) (ps : List Pair) (acts : List Act) (u : ℕ) (rs : List Ran) → ((u == t) && (b == a)) ≡ false → Paired b ps acts u rs → Paired b (pairs_left t a ps) acts u rs
paired_other t a b ps acts u rs n h = by rs h
  where
    by : (rs : List Ran) → Paired b ps acts u rs → Paired b (pairs_left t a ps) acts u rs
    by [] h = tt
    by (Stands (OfBatch j) c ss ∷ rs) h = tt
    by (Stands (OfAct v) c ss ∷ rs) h = (either (both_read acts u v) (both_read acts u v) _ _ (λ e. e) (paired_to (doomed_at acts u) (doomed_at acts u) (doomed_at acts v) (doomed_at acts v) (has_pair b v u ps) (has_pair b v u (pairs_left t a ps)) (λ e. e) (λ e. e) (pair_stays t a b v u ps n)) h.0, by rs h.1)
    by (Gone (OfBatch j) ss ∷ rs) h = tt
    by (Gone (OfAct v) ss ∷ rs) h = by rs h

pub grouped_other : (t a b : ℕ) (ps : List Pair) (acts : List Act) (rs : List Ran) → (b == a) ≡ false → Grouped b ps acts rs → Grouped b (pairs_left t a ps) acts rs
grouped_other t a b ps acts [] n h = tt
grouped_other t a b ps acts (Stands (OfBatch j) c ss ∷ rs) n h = grouped_other t a b ps acts rs n h
grouped_other t a b ps acts (Stands (OfAct u) c ss ∷ rs) n h = (paired_other t a b ps acts u rs (rw n (and_false (u == t))) h.0, grouped_other t a b ps acts rs n h.1)
  where
    and_false : (x : Bool) → (x && false) ≡ false
    and_false true = refl
    and_false false = refl
grouped_other t a b ps acts (Gone y ss ∷ rs) n h = grouped_other t a b ps acts rs n h

paired_undone : (a : ℕ) (ps : List Pair) (acts : List Act) (u t : ℕ) (rs : List Ran) → Paired a ps acts u rs → Paired a ps acts u (without_standing (OfAct t) rs)
paired_undone a ps acts u t [] h = tt
paired_undone a ps acts u t (Stands (OfBatch j) c ss ∷ rs) h = tt
paired_undone a ps acts u t (Stands (OfAct v) c ss ∷ rs) h = by (v == t) (paired_undone a ps acts u t rs h.1)
  where
    by : (b : Bool) → Paired a ps acts u (without_standing (OfAct t) rs) → Paired a ps acts u (if b then without_standing (OfAct t) rs else Stands (OfAct v) c ss ∷ without_standing (OfAct t) rs)
    by true g = g
    by false g = (h.0, g)
paired_undone a ps acts u t (Gone (OfBatch j) ss ∷ rs) h = tt
paired_undone a ps acts u t (Gone (OfAct v) ss ∷ rs) h = paired_undone a ps acts u t rs h

pub grouped_undone : (a : ℕ) (ps : List Pair) (acts : List Act) (t : ℕ) (rs : List Ran) → Grouped a ps acts rs → Grouped a (pairs_left t a ps) acts (without_standing (OfAct t) rs)
grouped_undone a ps acts t [] h = tt
grouped_undone a ps acts t (Stands (OfBatch j) c ss ∷ rs) h = grouped_undone a ps acts t rs h
grouped_undone a ps acts t (Stands (OfAct u) c ss ∷ rs) h = by (u == t) refl (grouped_undone a ps acts t rs h.1)
  where
    by : (b : Bool) → (u == t) ≡ b → Grouped a (pairs_left t a ps) acts (without_standing (OfAct t) rs) → Grouped a (pairs_left t a ps) acts (if b then without_standing (OfAct t) rs else Stands (OfAct u) c ss ∷ without_standing (OfAct t) rs)
    by true e g = g
    by false e g = (paired_other t a a ps acts u (without_standing (OfAct t) rs) (rw e refl) (paired_undone a ps acts u t rs h.0), g)
grouped_undone a ps acts t (Gone y ss ∷ rs) h = grouped_undone a ps acts t rs h

pub grouped_goes : (a : ℕ) (ps : List Pair) (acts : List Act) (t : ℕ) (rs : List Ran) → Grouped a ps acts rs → Grouped a (pairs_left t a ps) acts (map (left_for_good (OfAct t)) rs)
grouped_goes a ps acts t [] h = tt
grouped_goes a ps acts t (Stands (OfBatch j) c ss ∷ rs) h = grouped_goes a ps acts t rs h
grouped_goes a ps acts t (Stands (OfAct u) c ss ∷ rs) h = by (u == t) refl (grouped_goes a ps acts t rs h.1)
  where
    by : (b : Bool) → (u == t) ≡ b → Grouped a (pairs_left t a ps) acts (map (left_for_good (OfAct t)) rs) → Grouped a (pairs_left t a ps) acts ((if b then Gone (OfAct u) ss else Stands (OfAct u) c ss) ∷ map (left_for_good (OfAct t)) rs)
    by true e g = g
    by false e g = (paired_other t a a ps acts u (map (left_for_good (OfAct t)) rs) (rw e refl) (paired_left a ps acts u (OfAct t) rs h.0), g)
grouped_goes a ps acts t (Gone y ss ∷ rs) h = grouped_goes a ps acts t rs h

paired_staying : (a : ℕ) (ps : List Pair) (acts : List Act) (u : ℕ) (cs : List Cascade) (rs : List Ran) → Paired a ps acts u rs → Paired a ps acts u (long_staying cs rs)
paired_staying a ps acts u cs [] h = tt
paired_staying a ps acts u cs (Stands (OfBatch j) c ss ∷ rs) h = by (is_aborted j cs)
  where
    by : (b : Bool) → Paired a ps acts u (if b then [] else Stands (OfBatch j) c ss ∷ long_staying cs rs)
    by true = tt
    by false = tt
paired_staying a ps acts u cs (Stands (OfAct v) c ss ∷ rs) h = (h.0, paired_staying a ps acts u cs rs h.1)
paired_staying a ps acts u cs (Gone (OfBatch j) ss ∷ rs) h = tt
paired_staying a ps acts u cs (Gone (OfAct v) ss ∷ rs) h = paired_staying a ps acts u cs rs h

pub grouped_staying : (a : ℕ) (ps : List Pair) (acts : List Act) (cs : List Cascade) (rs : List Ran) → Grouped a ps acts rs → Grouped a ps acts (long_staying cs rs)
grouped_staying a ps acts cs [] h = tt
grouped_staying a ps acts cs (Stands (OfBatch j) c ss ∷ rs) h = by (is_aborted j cs) (grouped_staying a ps acts cs rs h)
  where
    by : (b : Bool) → Grouped a ps acts (long_staying cs rs) → Grouped a ps acts (if b then [] else Stands (OfBatch j) c ss ∷ long_staying cs rs)
    by true g = tt
    by false g = g
grouped_staying a ps acts cs (Stands (OfAct u) c ss ∷ rs) h = (paired_staying a ps acts u cs rs h.0, grouped_staying a ps acts cs rs h.1)
grouped_staying a ps acts cs (Gone y ss ∷ rs) h = grouped_staying a ps acts cs rs h

-- the pairs that an Ask makes
pub new_pair : (t a u : ℕ) (group : List Lock) (acts : List Act) → is_lock_among u group ≡ true → doomed_at acts u ≡ false → has_pair a t u (book.new_pairs t a group acts) ≡ true
new_pair t a u [] acts i d = absurd (true≢false (sym i))
new_pair t a u (x ∷ xs) acts i d = by (book.is_doomed_act acts x) refl (or_cases (x.tid == u) (is_lock_among u xs) i) (λ v. new_pair t a u xs acts v d)
  where
    by : (q : Bool) → book.is_doomed_act acts x ≡ q → ((x.tid == u) ≡ true) ⊎ (is_lock_among u xs ≡ true) → (is_lock_among u xs ≡ true → has_pair a t u (book.new_pairs t a xs acts) ≡ true)
        → has_pair a t u (map (λ x. record { behind = t; ahead = x.tid; actor = a }) (if not q then x ∷ filter (λ x. not (book.is_doomed_act acts x)) xs else filter (λ x. not (book.is_doomed_act acts x)) xs)) ≡ true
    by true e (inl j) r = absurd (true≢false (sym (subst (λ z. holds (λ y. is_doomed y.status) (act_of z acts) ≡ true) (eqb-true x.tid u j) e) ∙ d))
    by true e (inr j) r = r j
    by false e (inl j) r = or_left (is_pair a t u (record { behind = t; ahead = x.tid; actor = a })) _ (and_from (t == t) _ (eq-eqb t t refl) (and_from (x.tid == u) (a == a) j (eq-eqb a a refl)))
    by false e (inr j) r = or_right (is_pair a t u (record { behind = t; ahead = x.tid; actor = a })) _ (r j)

-- of these locks each tells whether its ACT reads
abbrev pub LocksTell : List Act → List Lock → Type 0
LocksTell acts xs = AllByRecursion (λ x. x.reader ≡ reads_in acts x.tid) xs

-- one of them that does not share the actor with this one is among its rivals
pub among_rivals : (l : Lock) (u : ℕ) (acts : List Act) (xs : List Lock) → LocksTell acts xs → (reads_in acts u && l.reader) ≡ false → is_lock_among u xs ≡ true → is_lock_among u (filter (rivals l) xs) ≡ true
among_rivals l u acts [] k n h = h
among_rivals l u acts (x ∷ xs) k n h = by (rivals l x) refl (or_cases (x.tid == u) (is_lock_among u xs) h) (λ q. among_rivals l u acts xs k.1 n q)
  where
    apart : (p q v : Bool) → p ≡ q → (q && v) ≡ false → not (v && p) ≡ true
    apart true true true i e = absurd (true≢false e)
    apart true true false i e = refl
    apart true false v i e = absurd (true≢false i)
    apart false q true i e = refl
    apart false q false i e = refl

    by : (v : Bool) → rivals l x ≡ v → ((x.tid == u) ≡ true) ⊎ (is_lock_among u xs ≡ true) → (is_lock_among u xs ≡ true → is_lock_among u (filter (rivals l) xs) ≡ true) → is_lock_among u (if v then x ∷ filter (rivals l) xs else filter (rivals l) xs) ≡ true
    by true i (inl e) r = or_left (x.tid == u) _ e
    by true i (inr e) r = or_right (x.tid == u) _ (r e)
    by false i (inl e) r = absurd (true≢false (sym (apart x.reader (reads_in acts u) l.reader (k.0 ∙ ap (reads_in acts) (eqb-true x.tid u e)) n) ∙ i))
    by false i (inr e) r = r e

pub pair_more : (a t u : ℕ) (ps qs : List Pair) → has_pair a t u ps ≡ true → has_pair a t u (ps ++ qs) ≡ true
pair_more a t u [] qs h = absurd (true≢false (sym h))
pair_more a t u (p ∷ ps) qs h = elim (or_cases (is_pair a t u p) (has_pair a t u ps) h) [ inl e ↦ or_left (is_pair a t u p) _ e | inr e ↦ or_right (is_pair a t u p) _ (pair_more a t u ps qs e) ]

pub pair_last : (a t u : ℕ) (ps qs : List Pair) → has_pair a t u qs ≡ true → has_pair a t u (ps ++ qs) ≡ true
pair_last a t u [] qs h = h
pair_last a t u (p ∷ ps) qs h = or_right (is_pair a t u p) _ (pair_last a t u ps qs h)
