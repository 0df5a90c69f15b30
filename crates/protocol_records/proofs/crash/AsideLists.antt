-- What the records of readers tell, over lists.
use Rattle.std.specs.Prelude.{◌≡◌, refl, ℕ, ◌==◌, not, Bool, true, false, ◌&&◌, ◌||◌, ◌⊎◌, if◌then◌else◌, List, [], ◌∷◌, ◌++◌, filter}
use Rattle.std.specs.List.{AllByRecursion, list_any}
use Rattle.std.proofs.Common.{sym, ap, subst, inl, inr, ◌∙◌}
use Rattle.std.proofs.lemmas.Bool.{true≢false, or_cases, or_left, or_right, or_parts, and_parts, and_from, eqb-true, eq-eqb, cases_Bool, false_from_ne_true, not-true}
use Rattle.snap_base.specs.declared.transactions.State.{State}
use Rattle.protocol.specs.Parts.{Act, Who, OfAct}
use Rattle.protocol.specs.Words.{is_who}
use Rattle.protocol.specs.History.{Done, Slice, Ran, Stands, Gone}
use Rattle.protocol_laws.specs.Tracks.{keys_in, is_key_among, has_read}
use Rattle.protocol_laws.specs.Commits.{is_kept, KeptFront, KeptOrReads, reads_who}
use Rattle.protocol_records.specs.Logged.{is_on, KeptSure}
use Rattle.protocol_records.specs.Telling.{One, FrontIn, names, end_state, TellsState, AllTells, last_one, is_uncommitted_writer, NoneLater}
use Rattle.protocol_laws.proofs.machine.TrackLists
use Rattle.protocol_theorems.proofs.sets.RowsAgree.{filter_same}
use Rattle.protocol_records.proofs.crash.Durable.{any_back}
use Rattle.protocol_records.proofs.crash.RecoverLists.{Commits1, kept_end, same_test, none_behind, tells_it, filter_none}
use Rattle.protocol_records.proofs.crash.TellLists.{Unmarked}
use Rattle.protocol_laws.proofs.first.Lists.{all_join, any_front, both_all, weaker}

-- ---- who is open

pub open_less : (rd rd' : Who → Bool) (kept kept' : List Who) (long long' : List Ran) (y : Who) → (is_on y long' ≡ true → is_on y long ≡ true) → (is_kept y kept ≡ true → is_kept y kept' ≡ true) → (rd y ≡ true → rd' y ≡ true) → is_uncommitted_writer rd' kept' long' y ≡ true → is_uncommitted_writer rd kept long y ≡ true
open_less rd rd' kept kept' long long' y o k r h =
    let p = and_parts (is_on y long') (not (is_kept y kept') && not (rd' y)) h in
    let q = and_parts (not (is_kept y kept')) (not (rd' y)) p.1 in
    and_from (is_on y long) (not (is_kept y kept) && not (rd y)) (o p.0) (and_from (not (is_kept y kept)) (not (rd y)) (ap not (back (is_kept y kept) (is_kept y kept') k (not-true (is_kept y kept') q.0))) (ap not (back (rd y) (rd' y) r (not-true (rd' y) q.1))))
  where
    back : (a b : Bool) → (a ≡ true → b ≡ true) → b ≡ false → a ≡ false
    back true b f e = absurd (true≢false (sym (f refl) ∙ e))
    back false b f e = refl

pub none_weaker : (f g : Who → Bool) (readers : List Who) (os : List One) → AllByRecursion (λ o. g o.who ≡ true → f o.who ≡ true) os → NoneLater f readers os → NoneLater g readers os
none_weaker f g readers [] k h = tt
none_weaker f g readers (o ∷ os) k h = ((λ e. h.0 (k.0 e)), none_weaker f g readers os k.1 h.1)

pub none_more : (f : Who → Bool) (readers : List Who) (os : List One) (n : One) → is_kept n.who readers ≡ false → NoneLater f readers os → NoneLater f readers (os ++ n ∷ [])
none_more f readers [] n e h = ((λ q. tt), tt)
none_more f readers (o ∷ os) n e h = ((λ q. all_join (λ v. is_kept v.who readers ≡ false) os (n ∷ []) (h.0 q) (e, tt)), none_more f readers os n e h.1)

-- a reader commits that has no record, or where none is open
other_reader : (t : Who) (readers : List Who) (os : List One) → names t os ≡ false → AllByRecursion (λ v. is_kept v.who readers ≡ false) os → AllByRecursion (λ v. is_kept v.who (readers ++ t ∷ []) ≡ false) os
other_reader t readers [] n h = tt
other_reader t readers (v ∷ os) n h =
    let p = or_parts (is_who t v.who) (names t os) n in
    (false_from_ne_true (is_kept v.who (readers ++ t ∷ [])) (λ q. elim (kept_end t v.who readers q) [ inl i ↦ true≢false (sym i ∙ h.0) | inr i ↦ true≢false (sym i ∙ p.0) ]), other_reader t readers os p.1 h.1)

none_named : (f : Who → Bool) (t : Who) (readers : List Who) (os : List One) → names t os ≡ false → NoneLater f readers os → NoneLater f (readers ++ t ∷ []) os
none_named f t readers [] n h = tt
none_named f t readers (o ∷ os) n h = let p = or_parts (is_who t o.who) (names t os) n in ((λ e. other_reader t readers os p.1 (h.0 e)), none_named f t readers os p.1 h.1)

none_open : (f : Who → Bool) (readers : List Who) (os : List One) → AllByRecursion (λ o. f o.who ≡ false) os → NoneLater f readers os
none_open f readers [] h = tt
none_open f readers (o ∷ os) h = ((λ e. absurd (true≢false (sym e ∙ h.0))), none_open f readers os h.1)

pub reader_commits : (f : Who → Bool) (t : Who) (readers : List Who) (os : List One) → (names t os ≡ true → AllByRecursion (λ o. f o.who ≡ false) os) → NoneLater f readers os → NoneLater f (readers ++ t ∷ []) os
reader_commits f t readers os k h = elim (cases_Bool (names t os)) [ inl e ↦ none_open f (readers ++ t ∷ []) os (k e) | inr e ↦ none_named f t readers os e h ]

-- Where a reader stands, and all ahead of it committed or read, none that has a record there is open.
pub none_is_open : (acts : List Act) (kept : List Who) (t y : Who) (s : State) (st : State) (later : List One) (rs : List Ran) → is_who t y ≡ false → KeptFront kept rs → Unmarked t rs → KeptOrReads kept acts t rs → is_key_among t (keys_in rs) ≡ true → TellsState s y st later rs → is_on y rs ≡ true → is_kept y kept ≡ false → reads_who acts y ≡ false → ⊥
none_is_open acts kept t y s st later [] n f u k i h o ky ry = true≢false (sym o)
none_is_open acts kept t y s st later (Gone z ss ∷ rs) n f u k i h o ky ry =
    let e : is_who z y ≡ false = false_from_ne_true (is_who z y) (λ q. true≢false (sym (subst (λ v. is_kept v kept ≡ true) (TrackLists.is_who_true z y q) f.0) ∙ ky)) in
    none_is_open acts kept t y (end_state s ss) st later rs n f.1 u k i (h.2 e) (elim (or_cases (is_who z y) (is_on y rs) o) [ inl q ↦ absurd (true≢false (sym q ∙ e)) | inr q ↦ q ]) ky ry
none_is_open acts kept t y s st later (Stands z c ss ∷ rs) n f u k i h o ky ry = elim (cases_Bool (is_who z y)) [
  | inl q ↦
      let j : z ≡ y = TrackLists.is_who_true z y q in
      let behind : is_key_among t (keys_in rs) ≡ true = elim (or_cases (is_who z t) (is_key_among t (keys_in rs)) i) [
        | inl v ↦ absurd (true≢false (sym (TrackLists.is_who_refl t) ∙ (ap (λ w. is_who t w) (sym (TrackLists.is_who_true z t v) ∙ j) ∙ n)))
        | inr v ↦ v
      ] in
      elim (or_cases (is_kept z kept) (reads_who acts z) (k.0 behind)) [
        | inl v ↦ true≢false (sym (subst (λ w. is_kept w kept ≡ true) j v) ∙ ky)
        | inr v ↦ true≢false (sym (subst (λ w. reads_who acts w ≡ true) j v) ∙ ry)
      ]
  | inr q ↦
      let oy : is_on y rs ≡ true = elim (or_cases (is_who z y) (is_on y rs) o) [ inl v ↦ absurd (true≢false (sym v ∙ q)) | inr v ↦ v ] in
      elim (or_cases (is_who z t) (is_key_among t (keys_in rs)) i) [
        | inl v ↦ true≢false (sym (h.2 q oy).0 ∙ u.0 v)
        | inr v ↦ none_is_open acts kept t y (end_state s ss) st later rs n f.1 u.1 k.1 v (h.3 q) oy ky ry
      ]
]

-- ---- what is told last

last_same : (s z L : State) (xs : List One) → z ≡ L → last_one s xs ≡ L → last_one z xs ≡ L
last_same s z L [] e h = e
last_same s z L (x ∷ xs) e h = h

-- more are counted, each with the state that is the last one already
pub mixed : (p q : One → Bool) (L : State) (os : List One) (s : State) → AllByRecursion (λ o. (p o ≡ true → q o ≡ true) × (q o ≡ true → (p o ≡ true) ⊎ (o.state ≡ L))) os → last_one s (filter p os) ≡ L → last_one s (filter q os) ≡ L
mixed p q L [] s k h = h
mixed p q L (o ∷ os) s k h = by (p o) refl (q o) refl (λ z. mixed p q L os z k.1) h
  where
    by : (b : Bool) → p o ≡ b → (c : Bool) → q o ≡ c → ((z : State) → last_one z (filter p os) ≡ L → last_one z (filter q os) ≡ L) → last_one s (if b then o ∷ filter p os else filter p os) ≡ L → last_one s (if c then o ∷ filter q os else filter q os) ≡ L
    by true e true f r h = r o.state h
    by true e false f r h = absurd (true≢false (sym (k.0.0 e) ∙ f))
    by false e true f r h = elim (k.0.1 f) [ inl u ↦ absurd (true≢false (sym u ∙ e)) | inr u ↦ r o.state (last_same s o.state L (filter p os) u h) ]
    by false e false f r h = r s h

-- both end with the last record of one
both_land : (rd open_there : Who → Bool) (first : State) (y : Who) (kept readers : List Who) (p q : One → Bool) (long : List Ran) (os : List One) (s z : State) → rd y ≡ false → is_kept y kept ≡ false → KeptFront kept long → is_on y long ≡ true → open_there y ≡ true
    → AllByRecursion (λ o. p o ≡ true → (is_kept o.who kept ≡ true) × (is_on o.who long ≡ true) ⊎ (is_who y o.who ≡ true)) os → ((o : One) → is_who y o.who ≡ true → p o ≡ true) → ((o : One) → p o ≡ true → q o ≡ true) → ((o : One) → q o ≡ true → (p o ≡ true) ⊎ (is_kept o.who readers ≡ true))
    → names y os ≡ true → AllTells rd first os long → NoneLater open_there readers os → last_one s (filter q os) ≡ last_one z (filter p os)
both_land rd open_there first y kept readers p q long [] s z ry n f o op al own up down h t k = absurd (true≢false (sym h))
both_land rd open_there first y kept readers p q long (x ∷ os) s z ry n f o op al own up down h t k = by (names y os) refl (is_who y x.who) refl (λ s z g. both_land rd open_there first y kept readers p q long os s z ry n f o op al.1 own up down g t.1 k.1)
  where
    start : (b c : Bool) → ((s z : State) → last_one s (filter q os) ≡ last_one z (filter p os)) → last_one s (if b then x ∷ filter q os else filter q os) ≡ last_one z (if c then x ∷ filter p os else filter p os)
    start true true r = r x.state x.state
    start true false r = r x.state z
    start false true r = r s x.state
    start false false r = r s z

    by : (b : Bool) → names y os ≡ b → (c : Bool) → is_who y x.who ≡ c → ((s z : State) → names y os ≡ true → last_one s (filter q os) ≡ last_one z (filter p os)) → last_one s (filter q (x ∷ os)) ≡ last_one z (filter p (x ∷ os))
    by true g c e r = start (q x) (p x) (λ s z. r s z g)
    by false g true e r =
        let np : AllByRecursion (λ o. p o ≡ false) os = none_behind first y x.state kept p long os n f o (tells_it rd first y x os long ry e t) al.1 g in
        let nr : AllByRecursion (λ v. is_kept v.who readers ≡ false) os = k.0 (subst (λ v. open_there v ≡ true) (TrackLists.is_who_true y x.who e) op) in
        let nq : AllByRecursion (λ o. q o ≡ false) os = both_all (λ o. p o ≡ false) (λ v. is_kept v.who readers ≡ false) (λ o. q o ≡ false) os (λ o u v. false_from_ne_true (q o) (λ w. elim (down o w) [ inl i ↦ true≢false (sym i ∙ u) | inr i ↦ true≢false (sym i ∙ v) ])) np nr in
        rw (up x (own x e), own x e, filter_none q os nq, filter_none p os np) refl
    by false g false e r = absurd (true≢false (sym h ∙ rw (e, g) refl))

-- one that does not only read commits
pub aside_commits : (a : ℕ) (rd open_there : Who → Bool) (first : State) (kept readers : List Who) (committed ds : List Done) (y : Who) (long : List Ran) (os : List One) (P : Who → Bool) → Commits1 a rd first kept committed ds y long os → (is_on y long ≡ true → open_there y ≡ true) → NoneLater open_there readers os
    → last_one first (filter (λ o. P o.who && (is_kept o.who kept || is_kept o.who readers)) os) ≡ last_one first (filter (λ o. P o.who && is_kept o.who kept) os)
    → last_one first (filter (λ o. P o.who && (is_kept o.who (kept ++ y ∷ []) || is_kept o.who readers)) os) ≡ last_one first (filter (λ o. P o.who && is_kept o.who (kept ++ y ∷ [])) os)
aside_commits a rd open_there first kept readers committed ds y long os P c op k r = elim (cases_Bool (P y && is_on y long)) [ inl e ↦ let v = and_parts (P y) (is_on y long) e in whole v.0 v.1 | inr e ↦ same e ]
  where
    self_kept : is_kept y (kept ++ y ∷ []) ≡ true
    self_kept = any_back (λ z. is_who z y) kept (y ∷ []) (or_left (is_who y y) false (TrackLists.is_who_refl y))

    split : (u v w : Bool) → (u && (v || w)) ≡ true → ((u && v) ≡ true) ⊎ (w ≡ true)
    split true true w e = inl refl
    split true false w e = inr e
    split false v w e = absurd (true≢false (sym e))

    more : (u v w : Bool) → (u && v) ≡ true → (u && (v || w)) ≡ true
    more true true w e = refl
    more true false w e = absurd (true≢false (sym e))
    more false v w e = e

    whole : P y ≡ true → is_on y long ≡ true → last_one first (filter (λ o. P o.who && (is_kept o.who (kept ++ y ∷ []) || is_kept o.who readers)) os) ≡ last_one first (filter (λ o. P o.who && is_kept o.who (kept ++ y ∷ [])) os)
    whole py oy =
        both_land rd open_there first y kept readers (λ o. P o.who && is_kept o.who (kept ++ y ∷ [])) (λ o. P o.who && (is_kept o.who (kept ++ y ∷ []) || is_kept o.who readers)) long os first first c.other c.fresh c.front oy (op oy)
        (weaker (λ o. is_kept o.who (kept ++ y ∷ []) ≡ true → is_on o.who long ≡ true) (λ o. (P o.who && is_kept o.who (kept ++ y ∷ [])) ≡ true → (is_kept o.who kept ≡ true) × (is_on o.who long ≡ true) ⊎ (is_who y o.who ≡ true)) os
        (λ o k v. let u = and_parts (P o.who) (is_kept o.who (kept ++ y ∷ [])) v in elim (kept_end y o.who kept u.1) [ inl i ↦ inl (i, k u.1) | inr i ↦ inr i ]) c.recorded)
        (λ o e. let j = TrackLists.is_who_true y o.who e in and_from (P o.who) (is_kept o.who (kept ++ y ∷ [])) (subst (λ z. P z ≡ true) j py) (subst (λ z. is_kept z (kept ++ y ∷ []) ≡ true) j self_kept))
        (λ o e. more (P o.who) (is_kept o.who (kept ++ y ∷ [])) (is_kept o.who readers) e) (λ o e. split (P o.who) (is_kept o.who (kept ++ y ∷ [])) (is_kept o.who readers) e) (c.has_record oy) c.tells k

    with_readers : (u v v' w : Bool) → (u && v) ≡ (u && v') → (u && (v || w)) ≡ (u && (v' || w))
    with_readers true v v' w e = ap (λ z. z || w) e
    with_readers false v v' w e = refl

    same : (P y && is_on y long) ≡ false → last_one first (filter (λ o. P o.who && (is_kept o.who (kept ++ y ∷ []) || is_kept o.who readers)) os) ≡ last_one first (filter (λ o. P o.who && is_kept o.who (kept ++ y ∷ [])) os)
    same e =
        let test = weaker (λ o. is_kept o.who (kept ++ y ∷ []) ≡ true → is_on o.who long ≡ true) (λ o. (P o.who && is_kept o.who (kept ++ y ∷ [])) ≡ (P o.who && is_kept o.who kept)) os (λ o k. same_test P y o.who kept long e k) c.recorded in
        ap (last_one first) (filter_same (λ o. P o.who && (is_kept o.who (kept ++ y ∷ []) || is_kept o.who readers)) (λ o. P o.who && (is_kept o.who kept || is_kept o.who readers)) os (weaker (λ o. (P o.who && is_kept o.who (kept ++ y ∷ [])) ≡ (P o.who && is_kept o.who kept)) (λ o. (P o.who && (is_kept o.who (kept ++ y ∷ []) || is_kept o.who readers)) ≡ (P o.who && (is_kept o.who kept || is_kept o.who readers))) os (λ o q. with_readers (P o.who) (is_kept o.who (kept ++ y ∷ [])) (is_kept o.who kept) (is_kept o.who readers) q) test))
        ∙ (r ∙ sym (ap (last_one first) (filter_same (λ o. P o.who && is_kept o.who (kept ++ y ∷ [])) (λ o. P o.who && is_kept o.who kept) os test)))

-- ---- what a reader read

pub told_now : (t : ℕ) (st now : State) (zs : List Slice) → has_read zs t ≡ true → AllByRecursion (λ z. is_who (OfAct t) (OfAct z.tid) ≡ true → z.found ≡ st) zs → AllByRecursion (λ z. z.tid ≡ t → (z.found ≡ now) × (z.left ≡ now)) zs → st ≡ now
told_now t st now [] e h k = absurd (true≢false (sym e))
told_now t st now (z ∷ zs) e h k = elim (or_cases (z.tid == t) (has_read zs t) e) [
  | inl q ↦ let i : z.tid ≡ t = eqb-true z.tid t q in sym (h.0 (eq-eqb t z.tid (sym i))) ∙ (k.0 i).0
  | inr q ↦ told_now t st now zs q h.1 k.1
]

-- a reader commits
pub aside_reads : (first now : State) (kept readers : List Who) (t : Who) (os : List One) (P : Who → Bool) → (names t os ≡ true → P t ≡ true → last_one first (filter (λ o. P o.who && is_kept o.who kept) os) ≡ now) → (names t os ≡ true → AllByRecursion (λ o. is_who t o.who ≡ true → o.state ≡ now) os)
    → last_one first (filter (λ o. P o.who && (is_kept o.who kept || is_kept o.who readers)) os) ≡ last_one first (filter (λ o. P o.who && is_kept o.who kept) os)
    → last_one first (filter (λ o. P o.who && (is_kept o.who kept || is_kept o.who (readers ++ t ∷ []))) os) ≡ last_one first (filter (λ o. P o.who && is_kept o.who kept) os)
aside_reads first now kept readers t os P last tells r = elim (cases_Bool (P t && names t os)) [
  | inl e ↦ let v = and_parts (P t) (names t os) e in all_now v.0 v.1
  | inr e ↦ ap (last_one first) (filter_same (λ o. P o.who && (is_kept o.who kept || is_kept o.who (readers ++ t ∷ []))) (λ o. P o.who && (is_kept o.who kept || is_kept o.who readers)) os (unnamed os (λ q. away e q))) ∙ r
]
  where
    more : (y : Who) → is_kept y readers ≡ true → is_kept y (readers ++ t ∷ []) ≡ true
    more y q = any_front (λ z. is_who z y) readers (t ∷ []) q

    all_now : P t ≡ true → names t os ≡ true → last_one first (filter (λ o. P o.who && (is_kept o.who kept || is_kept o.who (readers ++ t ∷ []))) os) ≡ last_one first (filter (λ o. P o.who && is_kept o.who kept) os)
    all_now pt n = mixed (λ o. P o.who && (is_kept o.who kept || is_kept o.who readers)) (λ o. P o.who && (is_kept o.who kept || is_kept o.who (readers ++ t ∷ []))) now os first
        (weaker (λ o. is_who t o.who ≡ true → o.state ≡ now) (λ o. ((P o.who && (is_kept o.who kept || is_kept o.who readers)) ≡ true → (P o.who && (is_kept o.who kept || is_kept o.who (readers ++ t ∷ []))) ≡ true) × ((P o.who && (is_kept o.who kept || is_kept o.who (readers ++ t ∷ []))) ≡ true → ((P o.who && (is_kept o.who kept || is_kept o.who readers)) ≡ true) ⊎ (o.state ≡ now))) os
        (λ o k. ((λ q. up (P o.who) (is_kept o.who kept) (is_kept o.who readers) (is_kept o.who (readers ++ t ∷ [])) (more o.who) q), (λ q. down (P o.who) (is_kept o.who kept) (is_kept o.who readers) (is_kept o.who (readers ++ t ∷ [])) (λ w. elim (kept_end t o.who readers w) [ inl i ↦ inl i | inr i ↦ inr (k i) ]) q))) (tells n)) (r ∙ last n pt)
        ∙ sym (last n pt)
      where
        up : (u v w x : Bool) → (w ≡ true → x ≡ true) → (u && (v || w)) ≡ true → (u && (v || x)) ≡ true
        up true true w x f e = refl
        up true false w x f e = f e
        up false v w x f e = e

        down : {X : Type 0} (u v w x : Bool) → (x ≡ true → (w ≡ true) ⊎ X) → (u && (v || x)) ≡ true → ((u && (v || w)) ≡ true) ⊎ X
        down true true w x f e = inl refl
        down true false w x f e = f e
        down false v w x f e = absurd (true≢false (sym e))

    -- one that is not in the set, or has no record
    away : (P t && names t os) ≡ false → (names t os ≡ true) → P t ≡ false
    away e n = false_from_ne_true (P t) (λ q. true≢false (sym (and_from (P t) (names t os) q n) ∙ e))

    unnamed : (zs : List One) → (names t zs ≡ true → P t ≡ false) → AllByRecursion (λ o. (P o.who && (is_kept o.who kept || is_kept o.who (readers ++ t ∷ []))) ≡ (P o.who && (is_kept o.who kept || is_kept o.who readers))) zs
    unnamed [] k = tt
    unnamed (o ∷ zs) k = (one (is_who t o.who) refl, unnamed zs (λ q. k (or_right (is_who t o.who) _ q)))
      where
        one : (b : Bool) → is_who t o.who ≡ b → (P o.who && (is_kept o.who kept || is_kept o.who (readers ++ t ∷ []))) ≡ (P o.who && (is_kept o.who kept || is_kept o.who readers))
        one true e = let out : P o.who ≡ false = subst (λ z. P z ≡ false) (TrackLists.is_who_true t o.who e) (k (or_left (is_who t o.who) _ e)) in rw out refl
        one false e = ap (λ z. P o.who && (is_kept o.who kept || z)) (same (is_kept o.who (readers ++ t ∷ [])) refl)
          where
            same : (b : Bool) → is_kept o.who (readers ++ t ∷ []) ≡ b → is_kept o.who (readers ++ t ∷ []) ≡ is_kept o.who readers
            same true f = f ∙ sym (elim (kept_end t o.who readers f) [ inl i ↦ i | inr i ↦ absurd (true≢false (sym i ∙ e)) ])
            same false f = f ∙ sym (false_from_ne_true (is_kept o.who readers) (λ q. true≢false (sym (more o.who q) ∙ f)))

-- ---- closed sets of members

pub front_of : (sure P on : Who → Bool) (ys : List Who) → ((y : Who) → sure y ≡ true → P y ≡ true) → KeptSure sure on ys → FrontIn P on ys
front_of sure P on [] k h = tt
front_of sure P on (y ∷ ys) k h = ((λ e q. k y (h.0 e (any ys q))), front_of sure P on ys k h.1)
  where
    any : (zs : List Who) → list_any (λ z. on z && P z) zs ≡ true → list_any on zs ≡ true
    any [] q = q
    any (z ∷ zs) q = elim (or_cases (on z && P z) _ q) [ inl v ↦ or_left (on z) _ (and_parts (on z) (P z) v).0 | inr v ↦ or_right (on z) _ (any zs v) ]
