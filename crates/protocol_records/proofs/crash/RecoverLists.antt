-- What the records of those that committed recover, when one more commits.
use Rattle.std.specs.Prelude.{◌≡◌, refl, ℕ, Bool, true, false, ◌&&◌, ◌⊎◌, if◌then◌else◌, Option, Some, None, is_some, List, [], ◌∷◌, ◌++◌, filter}
use Rattle.std.specs.List.{AllByRecursion}
use Rattle.std.proofs.Common.{sym, ap, subst, inl, inr, ◌∙◌}
use Rattle.std.proofs.lemmas.Bool.{true≢false, or_cases, or_left, or_parts, and_parts, cases_Bool, false_from_ne_true, and_from}
use Rattle.snap_base.specs.declared.transactions.State.{State}
use Rattle.protocol.specs.Parts.{Who}
use Rattle.protocol.specs.Words.{is_who, is_value}
use Rattle.protocol.specs.History.{View, Done, Slice, Ran, Stands, Gone, slices_of}
use Rattle.protocol_laws.specs.Tracks.{keys_in, Linked, Differ}
use Rattle.protocol_laws.specs.Commits.{left_as, left_of, StatesLink, last_state, is_kept, has_kept, KeptFront, KeptAhead, kept_slices}
use Rattle.protocol_records.specs.Logged.{is_on}
use Rattle.protocol_records.specs.Telling.{One, names, end_state, TellsState, AllTells, FrontIn, last_one, writes, RecoversAt}
use Rattle.protocol_laws.proofs.machine.TrackLists
use Rattle.protocol_laws.proofs.machine.CommitLists.{slices_commit, last_more, none_kept}
use Rattle.protocol_records.proofs.crash.OnLong.{on_key}
use Rattle.protocol_records.proofs.crash.TellLists.{linked_end, none_later, not_gone}
use Rattle.protocol_records.proofs.crash.Durable.{any_back}
use Rattle.protocol_laws.proofs.first.Lists.{all_join, any_front, any_join, filter_join, join_assoc, weaker}
use Rattle.protocol_theorems.proofs.sets.RowsAgree.{filter_same}
use Rattle.protocol_theorems.specs.Order.{LeavesIt}
use Rattle.protocol_theorems.proofs.order.OrderImplied.{passes, still_left}

-- ---- the state that is told when it commits

pub end_join : (s : State) (xs ys : List Slice) → end_state s (xs ++ ys) ≡ end_state (end_state s xs) ys
end_join s [] ys = refl
end_join s (x ∷ xs) ys = end_join x.left xs ys

pub told_is : (s : State) (y : Who) (st : State) (os : List One) (kept : List Who) (rs : List Ran) → is_on y rs ≡ true → is_kept y kept ≡ false → KeptFront kept rs → KeptAhead kept y rs → TellsState s y st os rs → st ≡ end_state s (kept_slices kept rs ++ slices_of y rs)
told_is s y st os kept [] o n f a h = absurd (true≢false (sym o))
told_is s y st os kept (Stands x c ss ∷ rs) o n f a h = by (is_who x y) refl (λ e i. told_is (end_state s ss) y st os kept rs i n f.1 a.1 (h.3 e))
  where
    by : (b : Bool) → is_who x y ≡ b → (is_who x y ≡ false → is_on y rs ≡ true → st ≡ end_state (end_state s ss) (kept_slices kept rs ++ slices_of y rs)) → st ≡ end_state s ((if is_kept x kept then ss ++ kept_slices kept rs else kept_slices kept rs) ++ (if b then ss else slices_of y rs))
    by true e r =
        let u : is_kept x kept ≡ false = ap (λ z. is_kept z kept) (TrackLists.is_who_true x y e) ∙ n in
        let g : has_kept kept rs ≡ false = false_from_ne_true (has_kept kept rs) (λ q. true≢false (sym (f.0 q) ∙ u)) in
        rw (u, none_kept kept rs g) (h.0 e)
    by false e r =
        let i : is_on y rs ≡ true = elim (or_cases (is_who x y) (is_on y rs) o) [ inl q ↦ absurd (true≢false (sym q ∙ e)) | inr q ↦ q ] in
        let u : is_kept x kept ≡ true = a.0 (on_key kept y rs n f.1 i) in
        rw u (r e i ∙ (sym (end_join s ss (kept_slices kept rs ++ slices_of y rs)) ∙ ap (end_state s) (sym (join_assoc ss (kept_slices kept rs) (slices_of y rs)))))
told_is s y st os kept (Gone x ss ∷ rs) o n f a h =
    let e : is_who x y ≡ false = not_gone kept x y f.0 n in
    let i : is_on y rs ≡ true = elim (or_cases (is_who x y) (is_on y rs) o) [ inl q ↦ absurd (true≢false (sym q ∙ e)) | inr q ↦ q ] in
    told_is (end_state s ss) y st os kept rs i n f.1 a (h.2 e) ∙ (sym (end_join s ss (kept_slices kept rs ++ slices_of y rs)) ∙ ap (end_state s) (sym (join_assoc ss (kept_slices kept rs) (slices_of y rs))))

-- ---- filters

-- who came nowhere leaves nothing
leaves_none : (a : ℕ) (p : Done → Bool) (s : State) (ds : List Done) → AllByRecursion (λ d. p d ≡ true → is_some (d.views a) ≡ false) ds → last_state a s (filter p ds) ≡ s
leaves_none a p s [] h = refl
leaves_none a p s (d ∷ ds) h = by (p d) refl (leaves_none a p s ds h.1)
  where
    none : (o : Option View) → is_some o ≡ false → (b : Bool) → left_as b o s ≡ s
    none None e true = refl
    none None e false = refl
    none (Some v) e b = absurd (true≢false e)

    by : (b : Bool) → p d ≡ b → last_state a s (filter p ds) ≡ s → last_state a s (if b then d ∷ filter p ds else filter p ds) ≡ s
    by true e k = ap (λ z. last_state a z (filter p ds)) (none (d.views a) (h.0 e) (is_value d.result)) ∙ k
    by false e k = k

-- who is left out leaves what it finds
pub all_in : (a : ℕ) (p : Done → Bool) (s : State) (ds : List Done) → AllByRecursion (λ d. is_some (d.views a) ≡ true → writes d ≡ true → p d ≡ true) ds → AllByRecursion (λ d. d.reader ≡ true → LeavesIt (d.views a)) ds → StatesLink a s ds → last_state a s (filter p ds) ≡ last_state a s ds
all_in a p s [] h v l = refl
all_in a p s (d ∷ ds) h v l = by (p d) refl (all_in a p (left_of a d s) ds h.1 v.1 l.1)
  where
    out : p d ≡ false → left_of a d s ≡ s
    out e = elim (cases_Bool (is_some (d.views a))) [
      | inr c ↦ passes a d s c
      | inl c ↦ elim (cases_Bool (is_value d.result)) [
        | inr n ↦ ap (λ b. left_as b (d.views a) s) n
        | inl n ↦ elim (cases_Bool d.reader) [
          | inl r ↦ still_left a d s (v.0 r) l.0
          | inr r ↦ absurd (true≢false (sym (h.0 c (rw (n, r) refl)) ∙ e))
        ]
      ]
    ]

    by : (b : Bool) → p d ≡ b → last_state a (left_of a d s) (filter p ds) ≡ last_state a (left_of a d s) ds → last_state a s (if b then d ∷ filter p ds else filter p ds) ≡ last_state a (left_of a d s) ds
    by true e k = k
    by false e k = ap (λ z. last_state a z (filter p ds)) (sym (out e)) ∙ k

pub filter_none : {X : Type 0} (p : X → Bool) (xs : List X) → AllByRecursion (λ x. p x ≡ false) xs → filter p xs ≡ []
filter_none p [] h = refl
filter_none p (x ∷ xs) h = rw h.0 (filter_none p xs h.1)

-- ---- closed sets of members

pub front_part : (P on : Who → Bool) (xs : List Who) (y : Who) → FrontIn P on (xs ++ y ∷ []) → FrontIn P on xs
front_part P on [] y h = tt
front_part P on (x ∷ xs) y h = ((λ e q. h.0 e (any_front (λ z. on z && P z) xs (y ∷ []) q)), front_part P on xs y h.1)

pub front_all : (P on : Who → Bool) (xs : List Who) (y z : Who) → FrontIn P on (xs ++ y ∷ []) → on y ≡ true → P y ≡ true → is_kept z xs ≡ true → on z ≡ true → P z ≡ true
front_all P on [] y z h o p k oz = absurd (true≢false (sym k))
front_all P on (x ∷ xs) y z h o p k oz = elim (or_cases (is_who x z) (is_kept z xs) k) [
  | inl q ↦ let j = TrackLists.is_who_true x z q in subst (λ v. P v ≡ true) j (h.0 (subst (λ v. on v ≡ true) (sym j) oz) (any_back (λ z. on z && P z) xs (y ∷ []) (or_left (on y && P y) false (and_from (on y) (P y) o p))))
  | inr q ↦ front_all P on xs y z h.1 o p q oz
]

pub kept_end : (y z : Who) (kept : List Who) → is_kept z (kept ++ y ∷ []) ≡ true → (is_kept z kept ≡ true) ⊎ (is_who y z ≡ true)
kept_end y z kept h = elim (any_join (λ v. is_who v z) kept (y ∷ []) h) [ inl q ↦ inl q | inr q ↦ elim (or_cases (is_who y z) false q) [ inl v ↦ inr v | inr v ↦ absurd (true≢false (sym v)) ] ]

-- ---- the last record of a closed set whose last member is this one

-- behind the last record of one that commits there is none of one that committed before
pub none_behind : (first : State) (y : Who) (st : State) (kept : List Who) (q : One → Bool) (long : List Ran) (os : List One) → is_kept y kept ≡ false → KeptFront kept long → is_on y long ≡ true → TellsState first y st os long
    → AllByRecursion (λ o. q o ≡ true → (is_kept o.who kept ≡ true) × (is_on o.who long ≡ true) ⊎ (is_who y o.who ≡ true)) os → names y os ≡ false → AllByRecursion (λ o. q o ≡ false) os
none_behind first y st kept q long os n f o t al g = all os (λ z kz oz. none_later first y st os z kept long n f o kz oz t) g al
  where
    all : (zs : List One) → ((z : Who) → is_kept z kept ≡ true → is_on z long ≡ true → names z zs ≡ false) → names y zs ≡ false → AllByRecursion (λ o. q o ≡ true → (is_kept o.who kept ≡ true) × (is_on o.who long ≡ true) ⊎ (is_who y o.who ≡ true)) zs → AllByRecursion (λ o. q o ≡ false) zs
    all [] r g a = tt
    all (z ∷ zs) r g a =
        let p = or_parts (is_who y z.who) (names y zs) g in (
          false_from_ne_true (q z) (λ v. elim (a.0 v) [
            | inl i ↦ true≢false (sym (or_left (is_who z.who z.who) (names z.who zs) (TrackLists.is_who_refl z.who)) ∙ r z.who i.0 i.1)
            | inr i ↦ true≢false (sym i ∙ p.0)
          ]),
          all zs (λ v kv ov. (or_parts (is_who v z.who) (names v zs) (r v kv ov)).1) p.1 a.1,
        )

-- what is told of one that is no reader
pub tells_it : (rd : Who → Bool) (first : State) (y : Who) (x : One) (os : List One) (long : List Ran) → rd y ≡ false → is_who y x.who ≡ true → AllTells rd first (x ∷ os) long → TellsState first y x.state os long
tells_it rd first y x os long ry e t = subst (λ v. TellsState first v x.state os long) (sym (TrackLists.is_who_true y x.who e)) (t.0 (subst (λ v. rd v ≡ false) (TrackLists.is_who_true y x.who e) ry))

lands : (rd : Who → Bool) (first : State) (y : Who) (X : State) (kept : List Who) (q : One → Bool) (long : List Ran) (os : List One) (s : State) → rd y ≡ false → is_kept y kept ≡ false → KeptFront kept long → is_on y long ≡ true
    → ((st : State) (later : List One) → TellsState first y st later long → st ≡ X) → AllByRecursion (λ o. q o ≡ true → (is_kept o.who kept ≡ true) × (is_on o.who long ≡ true) ⊎ (is_who y o.who ≡ true)) os → ((o : One) → is_who y o.who ≡ true → q o ≡ true)
    → names y os ≡ true → AllTells rd first os long → last_one s (filter q os) ≡ X
lands rd first y X kept q long [] s ry n f o k al own h t = absurd (true≢false (sym h))
lands rd first y X kept q long (x ∷ os) s ry n f o k al own h t = by (names y os) refl (is_who y x.who) refl (λ s g. lands rd first y X kept q long os s ry n f o k al.1 own g t.1)
  where
    start : (b : Bool) → ((s : State) → last_one s (filter q os) ≡ X) → last_one s (if b then x ∷ filter q os else filter q os) ≡ X
    start true r = r x.state
    start false r = r s

    by : (b : Bool) → names y os ≡ b → (c : Bool) → is_who y x.who ≡ c → ((s : State) → names y os ≡ true → last_one s (filter q os) ≡ X) → last_one s (filter q (x ∷ os)) ≡ X
    by true g c e r = start (q x) (λ s. r s g)
    by false g true e r = let i = tells_it rd first y x os long ry e t in rw (own x e, filter_none q os (none_behind first y x.state kept q long os n f o i al.1 g)) (k x.state os i)
    by false g false e r = absurd (true≢false (sym h ∙ rw (e, g) refl))

-- ---- one commits with a value

pub record Commits1 (a : ℕ) (rd : Who → Bool) (first : State) (kept : List Who) (committed ds : List Done) (y : Who) (long : List Ran) (os : List One) : Type 0 where
  pub fresh : is_kept y kept ≡ false
  pub front : KeptFront kept long
  pub ahead : KeptAhead kept y long
  pub differ : Differ (keys_in long)
  pub ends : Linked first (kept_slices (kept ++ y ∷ []) long) (last_state a first (committed ++ ds))
  pub there : AllByRecursion (λ d. is_some (d.views a) ≡ true → writes d ≡ true → (is_kept d.who kept ≡ true) × (is_on d.who long ≡ true)) committed
  pub links : StatesLink a first (committed ++ ds)
  pub still : AllByRecursion (λ d. d.reader ≡ true → LeavesIt (d.views a)) (committed ++ ds)
  pub own : AllByRecursion (λ d. d.who ≡ y) ds
  pub came : AllByRecursion (λ d. is_some (d.views a) ≡ true → is_on y long ≡ true) ds
  pub tells : AllTells rd first os long
  pub other : rd y ≡ false
  pub recorded : AllByRecursion (λ o. is_kept o.who (kept ++ y ∷ []) ≡ true → is_on o.who long ≡ true) os
  pub has_record : is_on y long ≡ true → names y os ≡ true

-- one that is not in the set, or not there, changes no test
pub same_test : (P : Who → Bool) (y z : Who) (kept : List Who) (long : List Ran) → (P y && is_on y long) ≡ false → (is_kept z (kept ++ y ∷ []) ≡ true → is_on z long ≡ true) → (P z && is_kept z (kept ++ y ∷ [])) ≡ (P z && is_kept z kept)
same_test P y z kept long e k = by (P z) (is_kept z (kept ++ y ∷ [])) (is_kept z kept) refl refl refl
  where
    by : (u v t : Bool) → P z ≡ u → is_kept z (kept ++ y ∷ []) ≡ v → is_kept z kept ≡ t → (u && v) ≡ (u && t)
    by false v t a b d = refl
    by true true true a b d = refl
    by true false false a b d = refl
    by true false true a b d = absurd (true≢false (sym (any_front (λ v. is_who v z) kept (y ∷ []) d) ∙ b))
    by true true false a b d = elim (kept_end y z kept b) [
      | inl i ↦ absurd (true≢false (sym i ∙ d))
      | inr i ↦ let j = TrackLists.is_who_true y z i in absurd (true≢false (sym (and_from (P y) (is_on y long) (subst (λ v. P v ≡ true) (sym j) a) (subst (λ v. is_on v long ≡ true) (sym j) (k b))) ∙ e))
    ]

pub recovers_commit : (a : ℕ) (rd : Who → Bool) (first : State) (kept : List Who) (committed ds : List Done) (y : Who) (long : List Ran) (os : List One) → Commits1 a rd first kept committed ds y long os → RecoversAt a first kept committed long os → RecoversAt a first (kept ++ y ∷ []) (committed ++ ds) long os
recovers_commit a rd first kept committed ds y long os c r P f = elim (cases_Bool (P y && is_on y long)) [ inl e ↦ let v = and_parts (P y) (is_on y long) e in whole v.0 v.1 | inr e ↦ same e ]
  where
    p : Done → Bool
    p d = P d.who && writes d

    q : One → Bool
    q o = P o.who && is_kept o.who (kept ++ y ∷ [])

    self_kept : is_kept y (kept ++ y ∷ []) ≡ true
    self_kept = any_back (λ z. is_who z y) kept (y ∷ []) (or_left (is_who y y) false (TrackLists.is_who_refl y))

    whole : P y ≡ true → is_on y long ≡ true → last_one first (filter (λ o. P o.who && is_kept o.who (kept ++ y ∷ [])) os) ≡ last_state a first (filter (λ d. P d.who && writes d) (committed ++ ds))
    whole py oy =
        lands rd first y (last_state a first (committed ++ ds)) kept (λ o. P o.who && is_kept o.who (kept ++ y ∷ [])) long os first c.other c.fresh c.front oy
        (λ st later t. told_is first y st later kept long oy c.fresh c.front c.ahead t ∙ (ap (end_state first) (sym (slices_commit kept y long c.fresh c.differ c.ahead c.front)) ∙ sym (linked_end first (last_state a first (committed ++ ds)) (kept_slices (kept ++ y ∷ []) long) c.ends)))
        (weaker (λ o. is_kept o.who (kept ++ y ∷ []) ≡ true → is_on o.who long ≡ true) (λ o. (P o.who && is_kept o.who (kept ++ y ∷ [])) ≡ true → (is_kept o.who kept ≡ true) × (is_on o.who long ≡ true) ⊎ (is_who y o.who ≡ true)) os
        (λ o k v. let u = and_parts (P o.who) (is_kept o.who (kept ++ y ∷ [])) v in elim (kept_end y o.who kept u.1) [ inl i ↦ inl (i, k u.1) | inr i ↦ inr i ]) c.recorded)
        (λ o e. let j = TrackLists.is_who_true y o.who e in and_from (P o.who) _ (subst (λ z. P z ≡ true) j py) (subst (λ z. is_kept z (kept ++ y ∷ []) ≡ true) j self_kept))
        (c.has_record oy) c.tells
        ∙ sym (all_in a (λ d. P d.who && writes d) first (committed ++ ds) (all_join (λ d. is_some (d.views a) ≡ true → writes d ≡ true → (P d.who && writes d) ≡ true) committed ds (weaker _ _ committed (λ d k v u. let i = k v u in and_from (P d.who) (writes d) (front_all P (λ z. is_on z long) kept y d.who f oy py i.0 i.1) u) c.there) (weaker (λ d. d.who ≡ y) (λ d. is_some (d.views a) ≡ true → writes d ≡ true → (P d.who && writes d) ≡ true) ds (λ d i v u. and_from (P d.who) (writes d) (subst (λ z. P z ≡ true) (sym i) py) u) c.own)) c.still c.links)

    same : (P y && is_on y long) ≡ false → last_one first (filter (λ o. P o.who && is_kept o.who (kept ++ y ∷ [])) os) ≡ last_state a first (filter (λ d. P d.who && writes d) (committed ++ ds))
    same e =
        ap (last_one first) (filter_same (λ o. P o.who && is_kept o.who (kept ++ y ∷ [])) (λ o. P o.who && is_kept o.who kept) os (weaker (λ o. is_kept o.who (kept ++ y ∷ []) ≡ true → is_on o.who long ≡ true) (λ o. (P o.who && is_kept o.who (kept ++ y ∷ [])) ≡ (P o.who && is_kept o.who kept)) os (λ o k. same_test P y o.who kept long e k) c.recorded))
        ∙ (r P (front_part P (λ z. is_on z long) kept y f)
        ∙ sym (ap (last_state a first) (filter_join (λ d. P d.who && writes d) committed ds) ∙ (last_more a first (filter (λ d. P d.who && writes d) committed) (filter (λ d. P d.who && writes d) ds)
        ∙ leaves_none a (λ d. P d.who && writes d) _ ds (away ds c.own c.came))))
      where
        away : (zs : List Done) → AllByRecursion (λ d. d.who ≡ y) zs → AllByRecursion (λ d. is_some (d.views a) ≡ true → is_on y long ≡ true) zs → AllByRecursion (λ d. (P d.who && writes d) ≡ true → is_some (d.views a) ≡ false) zs
        away [] i j = tt
        away (d ∷ zs) i j = ((λ v. false_from_ne_true (is_some (d.views a)) (λ u. true≢false (sym (and_from (P y) (is_on y long) (subst (λ z. P z ≡ true) i.0 (and_parts (P d.who) (writes d) v).0) (j.0 u)) ∙ e))), away zs i.1 j.1)
