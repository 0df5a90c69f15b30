-- What the events do to who was placed, beside who stands there and what committed.
use Rattle.std.specs.Prelude.{◌≡◌, refl, ℕ, Bool, true, false, ◌||◌, ◌⊎◌, if◌then◌else◌, List, [], ◌∷◌, ◌++◌, map, filter, ◌&&◌, not}
use Rattle.std.specs.List.{AllByRecursion, list_any}
use Rattle.std.proofs.Common.{sym, ap, subst, inl, inr, ◌∙◌}
use Rattle.std.proofs.lemmas.Bool.{true≢false, and_parts, and_from, cases_Bool, or_cases, or_parts, or_from, or_left, or_right, false_from_ne_true}
use Rattle.protocol.specs.Parts.{Cascade, Who}
use Rattle.protocol.specs.Words.{is_who}
use Rattle.protocol.specs.OnCell.{is_cut}
use Rattle.protocol.specs.History.{Done}
use Rattle.protocol.specs.Chains.{stands_for}
use Rattle.protocol_laws.specs.Tracks.{Key, is_key_among}
use Rattle.protocol_laws.specs.Commits.{is_kept}
use Rattle.protocol_laws.specs.Linked.{came_to, visitors}
use Rattle.protocol_theorems.specs.Order.{Shuffled, Put}
use Rattle.protocol_theorems.specs.Placed.{is_placed, PlacedOnce, InOrderOf, has_done, is_done_at, is_other_at, DoneFront, walk, ChainIs}
use Rattle.protocol_laws.proofs.machine.TrackLists.{is_who_true, is_who_sym, keys_without, keys_staying, key_completed}
use Rattle.protocol_laws.proofs.first.Lists.{all_join, weaker, any_front, any_join, filter_join, join_assoc, join_nil}
pub use Rattle.protocol_laws.proofs.machine.TrackLists.{among_completed}

-- ---- tests over lists

none_filtered : {X : Type 0} (p : X → Bool) (xs : List X) → list_any p xs ≡ false → filter p xs ≡ []
none_filtered p [] h = refl
none_filtered p (x ∷ xs) h = let q = or_parts (p x) (list_any p xs) h in rw q.0 (none_filtered p xs q.1)

any_filtered : {X : Type 0} (p : X → Bool) (xs : List X) → filter p xs ≡ [] → list_any p xs ≡ false
any_filtered p [] h = refl
any_filtered p (x ∷ xs) h = by (p x) h (any_filtered p xs)
  where
    by : (b : Bool) → (if b then x ∷ filter p xs else filter p xs) ≡ [] → (filter p xs ≡ [] → list_any p xs ≡ false) → (b || list_any p xs) ≡ false
    by true q k = absurd (cc q)
    by false q k = k q

-- ---- keys

pub in_order_in : (who : Who) (ys : List Who) (ks : List Key) → InOrderOf ys ks → is_key_among who ks ≡ true → is_placed who ys ≡ true
in_order_in who [] [] h e = e
in_order_in who [] (k ∷ ks) h e = absurd h
in_order_in who (y ∷ ys) [] h e = absurd (true≢false (sym e))
in_order_in who (y ∷ ys) (k ∷ ks) (inl h) e = elim (or_cases (is_who k.who who) (is_key_among who ks) e) [
  | inl q ↦ or_left (is_who y who) _ (subst (λ z. is_who z who ≡ true) h.0 q)
  | inr q ↦ or_right (is_who y who) _ (in_order_in who ys ks h.1 q)
]
in_order_in who (y ∷ ys) (k ∷ ks) (inr h) e = or_right (is_who y who) _ (in_order_in who ys (k ∷ ks) h e)

skip : (y : Who) (ys : List Who) (ks : List Key) → InOrderOf ys ks → InOrderOf (y ∷ ys) ks
skip y ys [] h = tt
skip y ys (k ∷ ks) h = inr h

one_more : (k : Key) (ys : List Who) (ks : List Key) → InOrderOf ys ks → InOrderOf (ys ++ k.who ∷ []) (ks ++ k ∷ [])
one_more k [] [] h = inl (refl, tt)
one_more k [] (x ∷ xs) h = absurd h
one_more k (y ∷ ys) [] h = inr (one_more k ys [] (nothing ys))
  where
    nothing : (ys : List Who) → InOrderOf ys []
    nothing [] = tt
    nothing (y ∷ ys) = tt
one_more k (y ∷ ys) (x ∷ xs) (inl h) = inl (h.0, one_more k ys xs h.1)
one_more k (y ∷ ys) (x ∷ xs) (inr h) = inr (one_more k ys (x ∷ xs) h)

fewer_without : (v : Who) (ys : List Who) (ks : List Key) → InOrderOf ys ks → InOrderOf ys (keys_without v ks)
fewer_without v [] [] h = h
fewer_without v [] (k ∷ ks) h = absurd h
fewer_without v (y ∷ ys) [] h = h
fewer_without v (y ∷ ys) (k ∷ ks) (inl h) = by (is_who k.who v) (fewer_without v ys ks h.1)
  where
    by : (b : Bool) → InOrderOf ys (keys_without v ks) → InOrderOf (y ∷ ys) (if b then keys_without v ks else k ∷ keys_without v ks)
    by true g = skip y ys (keys_without v ks) g
    by false g = inl (h.0, g)
fewer_without v (y ∷ ys) (k ∷ ks) (inr h) = skip y ys (keys_without v (k ∷ ks)) (fewer_without v ys (k ∷ ks) h)

fewer_staying : (cs : List Cascade) (ys : List Who) (ks : List Key) → InOrderOf ys ks → InOrderOf ys (keys_staying cs ks)
fewer_staying cs [] [] h = h
fewer_staying cs [] (k ∷ ks) h = absurd h
fewer_staying cs (y ∷ ys) [] h = h
fewer_staying cs (y ∷ ys) (k ∷ ks) (inl h) = by (is_cut cs k.who) (fewer_staying cs ys ks h.1)
  where
    by : (b : Bool) → InOrderOf ys (keys_staying cs ks) → InOrderOf (y ∷ ys) (if b then [] else k ∷ keys_staying cs ks)
    by true g = tt
    by false g = inl (h.0, g)
fewer_staying cs (y ∷ ys) (k ∷ ks) (inr h) = skip y ys (keys_staying cs (k ∷ ks)) (fewer_staying cs ys (k ∷ ks) h)

same_completed : (j : ℕ) (ys : List Who) (ks : List Key) → InOrderOf ys ks → InOrderOf ys (map (key_completed j) ks)
same_completed j [] [] h = h
same_completed j [] (k ∷ ks) h = absurd h
same_completed j (y ∷ ys) [] h = h
same_completed j (y ∷ ys) (k ∷ ks) (inl h) = inl (h.0, same_completed j ys ks h.1)
same_completed j (y ∷ ys) (k ∷ ks) (inr h) = inr (same_completed j ys (k ∷ ks) h)

pub among_without : (v who : Who) (ks : List Key) → is_key_among who (keys_without v ks) ≡ true → is_key_among who ks ≡ true
among_without v who [] e = e
among_without v who (k ∷ ks) e = by (is_who k.who v) e (among_without v who ks)
  where
    by : (b : Bool) → is_key_among who (if b then keys_without v ks else k ∷ keys_without v ks) ≡ true → (is_key_among who (keys_without v ks) ≡ true → is_key_among who ks ≡ true) → (is_who k.who who || is_key_among who ks) ≡ true
    by true e g = or_right (is_who k.who who) _ (g e)
    by false e g = elim (or_cases (is_who k.who who) (is_key_among who (keys_without v ks)) e) [ inl q ↦ or_left (is_who k.who who) _ q | inr q ↦ or_right (is_who k.who who) _ (g q) ]

pub among_staying : (cs : List Cascade) (who : Who) (ks : List Key) → is_key_among who (keys_staying cs ks) ≡ true → is_key_among who ks ≡ true
among_staying cs who [] e = e
among_staying cs who (k ∷ ks) e = by (is_cut cs k.who) e (among_staying cs who ks)
  where
    by : (b : Bool) → is_key_among who (if b then [] else k ∷ keys_staying cs ks) ≡ true → (is_key_among who (keys_staying cs ks) ≡ true → is_key_among who ks ≡ true) → (is_who k.who who || is_key_among who ks) ≡ true
    by true e g = absurd (true≢false (sym e))
    by false e g = elim (or_cases (is_who k.who who) (is_key_among who (keys_staying cs ks)) e) [ inl q ↦ or_left (is_who k.who who) _ q | inr q ↦ or_right (is_who k.who who) _ (g q) ]

-- ---- fewer stand there

front_fewer : (a : ℕ) (rd : Who → Bool) (kept : List Who) (ds : List Done) (keys new : List Key) (ys : List Who) → ((who : Who) → is_key_among who new ≡ true → is_key_among who keys ≡ true) → DoneFront a rd kept ds keys ys → DoneFront a rd kept ds new ys
front_fewer a rd kept ds keys new [] f h = tt
front_fewer a rd kept ds keys new (y ∷ ys) f h = ((λ e k. h.0 e (f y k)), (λ e k. h.1 e (f y k)), front_fewer a rd kept ds keys new ys f h.2)

pub fewer : (a : ℕ) (rd : Who → Bool) (kept : List Who) (ds : List Done) (ys : List Who) (keys new : List Key) → ((who : Who) → is_key_among who new ≡ true → is_key_among who keys ≡ true) → InOrderOf ys new → ChainIs a rd kept ds ys keys → ChainIs a rd kept ds ys new
fewer a rd kept ds ys keys new f i h = record { once = h.once; in_order = i; front = front_fewer a rd kept ds keys new ys f h.front; chain = h.chain }

pub completes : (a : ℕ) (rd : Who → Bool) (kept : List Who) (ds : List Done) (ys : List Who) (keys : List Key) (j : ℕ) → ChainIs a rd kept ds ys keys → ChainIs a rd kept ds ys (map (key_completed j) keys)
completes a rd kept ds ys keys j h = fewer a rd kept ds ys keys _ (λ who e. sym (among_completed j who keys) ∙ e) (same_completed j ys keys h.in_order) h

pub leaves : (a : ℕ) (rd : Who → Bool) (kept : List Who) (ds : List Done) (ys : List Who) (keys : List Key) (v : Who) → ChainIs a rd kept ds ys keys → ChainIs a rd kept ds ys (keys_without v keys)
leaves a rd kept ds ys keys v h = fewer a rd kept ds ys keys _ (λ who e. among_without v who keys e) (fewer_without v ys keys h.in_order) h

pub stays : (a : ℕ) (rd : Who → Bool) (kept : List Who) (ds : List Done) (ys : List Who) (keys : List Key) (cs : List Cascade) → ChainIs a rd kept ds ys keys → ChainIs a rd kept ds ys (keys_staying cs keys)
stays a rd kept ds ys keys cs h = fewer a rd kept ds ys keys _ (λ who e. among_staying cs who keys e) (fewer_staying cs ys keys h.in_order) h

-- ---- more of them are known as readers

front_later : (a : ℕ) (rd rd' : Who → Bool) (kept : List Who) (ds : List Done) (keys : List Key) (ys : List Who) → ((y : Who) → rd y ≡ true → rd' y ≡ true) → DoneFront a rd kept ds keys ys → DoneFront a rd' kept ds keys ys
front_later a rd rd' kept ds keys [] g h = tt
front_later a rd rd' kept ds keys (y ∷ ys) g h = (
  (λ e k. elim (or_cases (is_kept y kept || has_done ds y) (rd y) (h.0 e k)) [ inl q ↦ or_left (is_kept y kept || has_done ds y) _ q | inr q ↦ or_right (is_kept y kept || has_done ds y) _ (g y q) ]),
  h.1,
  front_later a rd rd' kept ds keys ys g h.2,
)

pub later : (a : ℕ) (rd rd' : Who → Bool) (kept : List Who) (ds : List Done) (ys : List Who) (keys : List Key) → ((y : Who) → rd y ≡ true → rd' y ≡ true) → ChainIs a rd kept ds ys keys → ChainIs a rd' kept ds ys keys
later a rd rd' kept ds ys keys g h = record { once = h.once; in_order = h.in_order; front = front_later a rd rd' kept ds keys ys g h.front; chain = h.chain }

-- ---- one more is placed

placed_more : (who y : Who) (ys : List Who) → is_placed who (ys ++ y ∷ []) ≡ true → (is_placed who ys ≡ true) ⊎ (is_who y who ≡ true)
placed_more who y ys e = elim (any_join (λ z. is_who z who) ys (y ∷ []) e) [ inl q ↦ inl q | inr q ↦ elim (or_cases (is_who y who) false q) [ inl r ↦ inr r | inr r ↦ absurd (true≢false (sym r)) ] ]

once_more : (y : Who) (ys : List Who) → is_placed y ys ≡ false → PlacedOnce ys → PlacedOnce (ys ++ y ∷ [])
once_more y [] n h = (refl, tt)
once_more y (z ∷ zs) n h =
    let p = or_parts (is_who z y) (is_placed y zs) n in
    (false_from_ne_true (is_placed z (zs ++ y ∷ [])) (λ e. elim (placed_more z y zs e) [ inl q ↦ true≢false (sym q ∙ h.0) | inr q ↦ true≢false (sym (is_who_sym z y ∙ q) ∙ p.0) ]), once_more y zs p.1 h.1)

among_more : (who : Who) (ks : List Key) (k : Key) → is_key_among who (ks ++ k ∷ []) ≡ true → (is_key_among who ks ≡ true) ⊎ (is_who k.who who ≡ true)
among_more who [] k e = elim (or_cases (is_who k.who who) false e) [ inl q ↦ inr q | inr q ↦ inl q ]
among_more who (x ∷ xs) k e = elim (or_cases (is_who x.who who) (is_key_among who (xs ++ k ∷ [])) e) [
  | inl q ↦ inl (or_left (is_who x.who who) _ q)
  | inr q ↦ elim (among_more who xs k q) [ inl r ↦ inl (or_right (is_who x.who who) _ r) | inr r ↦ inr r ]
]

-- nobody that committed is at the place of one that did not
not_done_at : (a : ℕ) (ds : List Done) (who : Who) → has_done ds who ≡ false → is_done_at a ds who ≡ false
not_done_at a [] who e = refl
not_done_at a (d ∷ ds) who e = let p = or_parts (is_who who d.who) (has_done ds who) e in or_from (stands_for a who d) (is_done_at a ds who) (rw p.0 refl) (not_done_at a ds who p.1)

-- who does not only read and committed there, committed there
other_done : (a : ℕ) (ds : List Done) (who : Who) → is_other_at a ds who ≡ true → is_done_at a ds who ≡ true
other_done a [] who e = e
other_done a (d ∷ ds) who e = elim (or_cases (stands_for a who d && not d.reader) (is_other_at a ds who) e) [ inl q ↦ or_left (stands_for a who d) _ (and_parts (stands_for a who d) (not d.reader) q).0 | inr q ↦ or_right (stands_for a who d) _ (other_done a ds who q) ]

front_more : (a : ℕ) (rd : Who → Bool) (kept : List Who) (ds : List Done) (keys : List Key) (k : Key) (ys : List Who) → has_done ds k.who ≡ false → is_placed k.who ys ≡ false → DoneFront a rd kept ds keys ys → DoneFront a rd kept ds (keys ++ k ∷ []) (ys ++ k.who ∷ [])
front_more a rd kept ds keys k [] n p h = ((λ e q. absurd (true≢false (sym e))), (λ e q. absurd (true≢false (sym e))), tt)
front_more a rd kept ds keys k (y ∷ ys) n p h = (
  (λ e i. h.0 (there (is_done_at a ds) (not_done_at a ds k.who n) e) (key i)),
  (λ e i. h.1 (there (is_other_at a ds) (false_from_ne_true (is_other_at a ds k.who) (λ v. true≢false (sym (other_done a ds k.who v) ∙ not_done_at a ds k.who n))) e) (key i)),
  front_more a rd kept ds keys k ys n q.1 h.2,
)
  where
    q : (is_who y k.who ≡ false) × (is_placed k.who ys ≡ false)
    q = or_parts (is_who y k.who) (is_placed k.who ys) p

    there : (t : Who → Bool) → t k.who ≡ false → list_any t (ys ++ k.who ∷ []) ≡ true → list_any t ys ≡ true
    there t v e = elim (any_join t ys (k.who ∷ []) e) [ inl r ↦ r | inr r ↦ elim (or_cases (t k.who) false r) [ inl w ↦ absurd (true≢false (sym w ∙ v)) | inr w ↦ absurd (true≢false (sym w)) ] ]

    key : is_key_among y (keys ++ k ∷ []) ≡ true → is_key_among y keys ≡ true
    key i = elim (among_more y keys k i) [ inl r ↦ r | inr r ↦ absurd (true≢false (sym (is_who_sym y k.who ∙ r) ∙ q.0)) ]

walk_join : (a : ℕ) (ds : List Done) (xs ys : List Who) → walk a ds (xs ++ ys) ≡ walk a ds xs ++ walk a ds ys
walk_join a ds [] ys = refl
walk_join a ds (x ∷ xs) ys = ap (λ l. filter (stands_for a x) ds ++ l) (walk_join a ds xs ys) ∙ sym (join_assoc (filter (stands_for a x) ds) (walk a ds xs) (walk a ds ys))

pub places : (a : ℕ) (rd : Who → Bool) (kept : List Who) (ds : List Done) (ys : List Who) (keys : List Key) (k : Key) → has_done ds k.who ≡ false → is_placed k.who ys ≡ false → ChainIs a rd kept ds ys keys → ChainIs a rd kept ds (ys ++ k.who ∷ []) (keys ++ k ∷ [])
places a rd kept ds ys keys k n p h = record {
  once = once_more k.who ys p h.once;
  in_order = one_more k ys keys h.in_order;
  front = front_more a rd kept ds keys k ys n p h.front;
  chain = subst (λ z. Shuffled z (visitors a ds)) (sym (walk_join a ds ys (k.who ∷ []) ∙ (ap (λ l. walk a ds ys ++ (l ++ [])) (none_filtered (stands_for a k.who) ds (not_done_at a ds k.who n)) ∙ join_nil (walk a ds ys)))) h.chain;
}

-- ---- who commits

-- of all ahead of one that stands there this holds
abbrev pub AheadKept : (Who → Bool) → Who → List Key → Type 0
AheadKept p who [] = Unit {0}
AheadKept p who (k ∷ ks) = (is_key_among who ks ≡ true → p k.who ≡ true) × AheadKept p who ks

-- what commits is of this one
abbrev pub OfIt : Who → List Done → Type 0
OfIt who ds = AllByRecursion (λ d. d.who ≡ who) ds

none_of_other : (a : ℕ) (who y : Who) (new : List Done) → is_who y who ≡ false → OfIt who new → filter (stands_for a y) new ≡ []
none_of_other a who y [] n h = refl
none_of_other a who y (d ∷ ds) n h = rw (h.0, n) (none_of_other a who y ds n h.1)

-- of who is ahead of it where they were placed, and stands there, this holds
abbrev pub FrontKept : (Who → Bool) → Who → List Key → List Who → Type 0
FrontKept p who keys [] = Unit {0}
FrontKept p who keys (y ∷ ys) = (is_placed who ys ≡ true → is_key_among y keys ≡ true → p y ≡ true) × FrontKept p who keys ys

-- one key less, of one that was placed before these
fewer_keys : (f : Who → Bool) (who : Who) (k : Key) (ks : List Key) (ys : List Who) → is_placed k.who ys ≡ false → FrontKept f who ks ys → FrontKept f who (k ∷ ks) ys
fewer_keys f who k ks [] n h = tt
fewer_keys f who k ks (y ∷ ys) n h =
    let p = or_parts (is_who y k.who) (is_placed k.who ys) n in
    (λ e i. h.0 e (elim (or_cases (is_who k.who y) (is_key_among y ks) i) [ inl q ↦ absurd (true≢false (sym (is_who_sym y k.who ∙ q) ∙ p.0)) | inr q ↦ q ]), fewer_keys f who k ks ys p.1 h.1)

not_there : (f : Who → Bool) (who : Who) (keys : List Key) (ys : List Who) → is_placed who ys ≡ false → FrontKept f who keys ys
not_there f who keys [] n = tt
not_there f who keys (y ∷ ys) n = let p = or_parts (is_who y who) (is_placed who ys) n in (λ e. absurd (true≢false (sym e ∙ p.1)), not_there f who keys ys p.1)

pub front_kept : (f : Who → Bool) (who : Who) (ys : List Who) (ks : List Key) → PlacedOnce ys → InOrderOf ys ks → AheadKept f who ks → is_key_among who ks ≡ true → FrontKept f who ks ys
front_kept f who [] ks o i k e = tt
front_kept f who (y ∷ ys) [] o i k e = absurd (true≢false (sym e))
front_kept f who (y ∷ ys) (x ∷ xs) o (inl i) k e = elim (or_cases (is_who x.who who) (is_key_among who xs) e) [
  | inl q ↦ let gone : is_placed who ys ≡ false = subst (λ z. is_placed z ys ≡ false) (sym i.0 ∙ is_who_true x.who who q) o.0 in (λ v. absurd (true≢false (sym v ∙ gone)), not_there f who (x ∷ xs) ys gone)
  | inr q ↦ (λ v w. subst (λ z. f z ≡ true) i.0 (k.0 q), fewer_keys f who x xs ys (subst (λ z. is_placed z ys ≡ false) (sym i.0) o.0) (front_kept f who ys xs o.1 i.1 k.1 q))
]
front_kept f who (y ∷ ys) (x ∷ xs) o (inr i) k e = (λ v w. absurd (true≢false (sym (in_order_in y ys (x ∷ xs) i w) ∙ o.0)), front_kept f who ys (x ∷ xs) o.1 i k e)

has_more : (ds new : List Done) (who : Who) → has_done ds who ≡ true → has_done (ds ++ new) who ≡ true
has_more ds new who e = any_front (λ d. is_who who d.who) ds new e

pub kept_grows : (kept more : List Who) (who : Who) → is_kept who kept ≡ true → is_kept who (kept ++ more) ≡ true
kept_grows kept more who e = any_front (λ y. is_who y who) kept more e

over_grows : (kept more : List Who) (ds new : List Done) (y : Who) → (is_kept y kept || has_done ds y) ≡ true → (is_kept y (kept ++ more) || has_done (ds ++ new) y) ≡ true
over_grows kept more ds new y e = elim (or_cases (is_kept y kept) (has_done ds y) e) [ inl q ↦ or_left _ _ (kept_grows kept more y q) | inr q ↦ or_right (is_kept y (kept ++ more)) _ (has_more ds new y q) ]

-- those of the new ones that came are of this one
done_of_new : (a : ℕ) (who : Who) (ds new : List Done) (ys : List Who) → OfIt who new → list_any (is_done_at a (ds ++ new)) ys ≡ true → (list_any (is_done_at a ds) ys ≡ true) ⊎ ((is_placed who ys ≡ true) × (is_done_at a new who ≡ true))
done_of_new a who ds new [] o e = absurd (true≢false (sym e))
done_of_new a who ds new (y ∷ ys) o e = elim (or_cases (is_done_at a (ds ++ new) y) (list_any (is_done_at a (ds ++ new)) ys) e) [
  | inl q ↦ elim (any_join (stands_for a y) ds new q) [
    | inl r ↦ inl (or_left (is_done_at a ds y) _ r)
    | inr r ↦ elim (cases_Bool (is_who y who)) [
      | inl v ↦ inr (or_left (is_who y who) _ v, subst (λ z. is_done_at a new z ≡ true) (is_who_true y who v) r)
      | inr v ↦ absurd (true≢false (sym r ∙ any_filtered (stands_for a y) new (none_of_other a who y new v o)))
    ]
  ]
  | inr q ↦ elim (done_of_new a who ds new ys o q) [ inl r ↦ inl (or_right (is_done_at a ds y) _ r) | inr r ↦ inr (or_right (is_who y who) _ r.0, r.1) ]
]

other_of_new : (a : ℕ) (who : Who) (ds new : List Done) (ys : List Who) → OfIt who new → list_any (is_other_at a (ds ++ new)) ys ≡ true → (list_any (is_other_at a ds) ys ≡ true) ⊎ ((is_placed who ys ≡ true) × (is_other_at a new who ≡ true))
other_of_new a who ds new [] o e = absurd (true≢false (sym e))
other_of_new a who ds new (y ∷ ys) o e = elim (or_cases (is_other_at a (ds ++ new) y) (list_any (is_other_at a (ds ++ new)) ys) e) [
  | inl q ↦ elim (any_join (λ d. stands_for a y d && not d.reader) ds new q) [
    | inl r ↦ inl (or_left (is_other_at a ds y) _ r)
    | inr r ↦ elim (cases_Bool (is_who y who)) [
      | inl v ↦ inr (or_left (is_who y who) _ v, subst (λ z. is_other_at a new z ≡ true) (is_who_true y who v) r)
      | inr v ↦ absurd (true≢false (sym (other_done a new y r) ∙ any_filtered (stands_for a y) new (none_of_other a who y new v o)))
    ]
  ]
  | inr q ↦ elim (other_of_new a who ds new ys o q) [ inl r ↦ inl (or_right (is_other_at a ds y) _ r) | inr r ↦ inr (or_right (is_who y who) _ r.0, r.1) ]
]

over_grows_or : (kept more : List Who) (ds new : List Done) (y : Who) (v : Bool) → ((is_kept y kept || has_done ds y) || v) ≡ true → ((is_kept y (kept ++ more) || has_done (ds ++ new) y) || v) ≡ true
over_grows_or kept more ds new y v e = elim (or_cases (is_kept y kept || has_done ds y) v e) [ inl q ↦ or_left (is_kept y (kept ++ more) || has_done (ds ++ new) y) _ (over_grows kept more ds new y q) | inr q ↦ or_right (is_kept y (kept ++ more) || has_done (ds ++ new) y) v q ]

front_grows : (a : ℕ) (rd : Who → Bool) (who : Who) (kept more : List Who) (ds new : List Done) (keys : List Key) (ys : List Who) → OfIt who new → (is_done_at a new who ≡ true → FrontKept (λ y. is_kept y kept) who keys ys) → DoneFront a rd kept ds keys ys → DoneFront a rd (kept ++ more) (ds ++ new) keys ys
front_grows a rd who kept more ds new keys [] o f h = tt
front_grows a rd who kept more ds new keys (y ∷ ys) o f h = (
  (λ e i. elim (done_of_new a who ds new ys o e) [ inl q ↦ over_grows_or kept more ds new y (rd y) (h.0 q i) | inr q ↦ or_left (is_kept y (kept ++ more) || has_done (ds ++ new) y) _ (or_left _ _ (kept_grows kept more y ((f q.1).0 q.0 i))) ]),
  (λ e i. elim (other_of_new a who ds new ys o e) [ inl q ↦ over_grows kept more ds new y (h.1 q i) | inr q ↦ or_left _ _ (kept_grows kept more y ((f (other_done a new who q.1)).0 q.0 i)) ]),
  front_grows a rd who kept more ds new keys ys o (λ q. (f q).1) h.2,
)

-- a reader commits: ahead of it are readers too
front_reads : (a : ℕ) (rd : Who → Bool) (who : Who) (kept more : List Who) (ds new : List Done) (keys : List Key) (ys : List Who) → OfIt who new → is_other_at a new who ≡ false → (is_done_at a new who ≡ true → FrontKept (λ y. is_kept y kept || rd y) who keys ys) → DoneFront a rd kept ds keys ys → DoneFront a rd (kept ++ more) (ds ++ new) keys ys
front_reads a rd who kept more ds new keys [] o n f h = tt
front_reads a rd who kept more ds new keys (y ∷ ys) o n f h = (
  (λ e i. elim (done_of_new a who ds new ys o e) [ inl q ↦ over_grows_or kept more ds new y (rd y) (h.0 q i) | inr q ↦ one ((f q.1).0 q.0 i) ]),
  (λ e i. elim (other_of_new a who ds new ys o e) [ inl q ↦ over_grows kept more ds new y (h.1 q i) | inr q ↦ absurd (true≢false (sym q.1 ∙ n)) ]),
  front_reads a rd who kept more ds new keys ys o n (λ q. (f q).1) h.2,
)
  where
    one : (is_kept y kept || rd y) ≡ true → ((is_kept y (kept ++ more) || has_done (ds ++ new) y) || rd y) ≡ true
    one e = elim (or_cases (is_kept y kept) (rd y) e) [ inl q ↦ or_left (is_kept y (kept ++ more) || has_done (ds ++ new) y) _ (or_left (is_kept y (kept ++ more)) _ (kept_grows kept more y q)) | inr q ↦ or_right (is_kept y (kept ++ more) || has_done (ds ++ new) y) (rd y) q ]

-- ---- the chain grows by what commits

walk_old : (a : ℕ) (who : Who) (ds new : List Done) (ys : List Who) → OfIt who new → is_placed who ys ≡ false → walk a (ds ++ new) ys ≡ walk a ds ys
walk_old a who ds new [] o n = refl
walk_old a who ds new (y ∷ ys) o n =
    let p = or_parts (is_who y who) (is_placed who ys) n in
    ap (λ l. l ++ walk a (ds ++ new) ys) (filter_join (stands_for a y) ds new ∙ (ap (λ l. filter (stands_for a y) ds ++ l) (none_of_other a who y new p.0 o) ∙ join_nil (filter (stands_for a y) ds)))
    ∙ ap (λ l. filter (stands_for a y) ds ++ l) (walk_old a who ds new ys o p.1)

walk_none : (a : ℕ) (ds : List Done) (ys : List Who) → list_any (is_done_at a ds) ys ≡ false → walk a ds ys ≡ []
walk_none a ds [] n = refl
walk_none a ds (y ∷ ys) n = let p = or_parts (is_done_at a ds y) (list_any (is_done_at a ds) ys) n in ap (λ l. l ++ walk a ds ys) (none_filtered (stands_for a y) ds p.0) ∙ walk_none a ds ys p.1

-- nobody behind it committed
walk_last : (a : ℕ) (rd : Who → Bool) (who : Who) (kept : List Who) (ds new : List Done) (keys : List Key) (ys : List Who) → OfIt who new → PlacedOnce ys → is_placed who ys ≡ true → is_key_among who keys ≡ true → ((is_kept who kept || has_done ds who) || rd who) ≡ false → DoneFront a rd kept ds keys ys
    → walk a (ds ++ new) ys ≡ walk a ds ys ++ filter (stands_for a who) new
walk_last a rd who kept ds new keys [] o u e k n h = absurd (true≢false (sym e))
walk_last a rd who kept ds new keys (y ∷ ys) o u e k n h = elim (cases_Bool (is_who y who)) [ inl q ↦ here q | inr q ↦ there q (λ p. walk_last a rd who kept ds new keys ys o u.1 p k n h.2) ]
  where
    here : is_who y who ≡ true → walk a (ds ++ new) (y ∷ ys) ≡ walk a ds (y ∷ ys) ++ filter (stands_for a who) new
    here q =
        let i : y ≡ who = is_who_true y who q in
        let none : is_placed who ys ≡ false = subst (λ z. is_placed z ys ≡ false) i u.0 in
        let behind : list_any (is_done_at a ds) ys ≡ false = false_from_ne_true (list_any (is_done_at a ds) ys) (λ v. true≢false (sym (subst (λ z. ((is_kept z kept || has_done ds z) || rd z) ≡ true) i (h.0 v (subst (λ z. is_key_among z keys ≡ true) (sym i) k))) ∙ n)) in
        let own : filter (stands_for a who) ds ≡ [] = none_filtered (stands_for a who) ds (not_done_at a ds who (or_parts (is_kept who kept) (has_done ds who) (or_parts (is_kept who kept || has_done ds who) (rd who) n).0).1) in
        let rest : walk a (ds ++ new) ys ≡ [] = walk_old a who ds new ys o none ∙ walk_none a ds ys behind in
        let old : walk a ds (y ∷ ys) ≡ [] = ap (λ z. filter (stands_for a z) ds ++ walk a ds ys) i ∙ (ap (λ l. l ++ walk a ds ys) own ∙ walk_none a ds ys behind) in
        ap (λ z. filter (stands_for a z) (ds ++ new) ++ walk a (ds ++ new) ys) i
        ∙ (ap (λ l. filter (stands_for a who) (ds ++ new) ++ l) rest
        ∙ (join_nil (filter (stands_for a who) (ds ++ new))
        ∙ (filter_join (stands_for a who) ds new
        ∙ (ap (λ l. l ++ filter (stands_for a who) new) own
        ∙ ap (λ l. l ++ filter (stands_for a who) new) (sym old)))))

    there : is_who y who ≡ false → (is_placed who ys ≡ true → walk a (ds ++ new) ys ≡ walk a ds ys ++ filter (stands_for a who) new) → walk a (ds ++ new) (y ∷ ys) ≡ walk a ds (y ∷ ys) ++ filter (stands_for a who) new
    there q r =
        let p : is_placed who ys ≡ true = elim (or_cases (is_who y who) (is_placed who ys) e) [ inl v ↦ absurd (true≢false (sym v ∙ q)) | inr v ↦ v ] in
        ap (λ l. l ++ walk a (ds ++ new) ys) (filter_join (stands_for a y) ds new ∙ (ap (λ l. filter (stands_for a y) ds ++ l) (none_of_other a who y new q o) ∙ join_nil (filter (stands_for a y) ds)))
        ∙ (ap (λ l. filter (stands_for a y) ds ++ l) (r p)
        ∙ sym (join_assoc (filter (stands_for a y) ds) (walk a ds ys) (filter (stands_for a who) new)))

-- who committed there only reads
walk_readers : (a : ℕ) (ds : List Done) (ys : List Who) → list_any (is_other_at a ds) ys ≡ false → AllByRecursion (λ x. x.reader ≡ true) (walk a ds ys)
walk_readers a ds [] n = tt
walk_readers a ds (y ∷ ys) n = let p = or_parts (is_other_at a ds y) (list_any (is_other_at a ds) ys) n in all_join (λ x. x.reader ≡ true) (filter (stands_for a y) ds) (walk a ds ys) (each ds p.0) (walk_readers a ds ys p.1)
  where
    each : (ds : List Done) → list_any (λ d. stands_for a y d && not d.reader) ds ≡ false → AllByRecursion (λ x. x.reader ≡ true) (filter (stands_for a y) ds)
    each [] n = tt
    each (d ∷ ds) n = let p = or_parts (stands_for a y d && not d.reader) (list_any (λ d. stands_for a y d && not d.reader) ds) n in by (stands_for a y d) p.0 (each ds p.1)
      where
        not_not : (b : Bool) → not b ≡ false → b ≡ true
        not_not true e = refl
        not_not false e = absurd (true≢false e)

        by : (b : Bool) → (b && not d.reader) ≡ false → AllByRecursion (λ x. x.reader ≡ true) (filter (stands_for a y) ds) → AllByRecursion (λ x. x.reader ≡ true) (if b then d ∷ filter (stands_for a y) ds else filter (stands_for a y) ds)
        by true e r = (not_not d.reader e, r)
        by false e r = r

-- where one is put in
pub record PutIn (d : Done) (old new : List Done) : Type 0 where
  pub front : List Done
  pub back : List Done
  pub before : old ≡ front ++ back
  pub behind : new ≡ front ++ d ∷ back
  pub readers : AllByRecursion (λ x. x.reader ≡ true) back

-- behind a reader that stands there readers alone committed
walk_put : (a : ℕ) (rd : Who → Bool) (who : Who) (kept : List Who) (ds : List Done) (d : Done) (keys : List Key) (ys : List Who) → d.who ≡ who → stands_for a who d ≡ true → PlacedOnce ys → is_placed who ys ≡ true → is_key_among who keys ≡ true → (is_kept who kept || has_done ds who) ≡ false → DoneFront a rd kept ds keys ys
    → PutIn d (walk a ds ys) (walk a (ds ++ d ∷ []) ys)
walk_put a rd who kept ds d keys [] o c u e k n h = absurd (true≢false (sym e))
walk_put a rd who kept ds d keys (y ∷ ys) o c u e k n h = elim (cases_Bool (is_who y who)) [ inl q ↦ here q | inr q ↦ there q (walk_put a rd who kept ds d keys ys o c u.1 (rest q) k n h.2) ]
  where
    rest : is_who y who ≡ false → is_placed who ys ≡ true
    rest q = elim (or_cases (is_who y who) (is_placed who ys) e) [ inl v ↦ absurd (true≢false (sym v ∙ q)) | inr v ↦ v ]

    here : is_who y who ≡ true → PutIn d (walk a ds (y ∷ ys)) (walk a (ds ++ d ∷ []) (y ∷ ys))
    here q =
        let i : y ≡ who = is_who_true y who q in
        let none : is_placed who ys ≡ false = subst (λ z. is_placed z ys ≡ false) i u.0 in
        let behind : list_any (is_other_at a ds) ys ≡ false = false_from_ne_true (list_any (is_other_at a ds) ys) (λ v. true≢false (sym (subst (λ z. (is_kept z kept || has_done ds z) ≡ true) i (h.1 v (subst (λ z. is_key_among z keys ≡ true) (sym i) k))) ∙ n)) in
        let own : filter (stands_for a who) ds ≡ [] = none_filtered (stands_for a who) ds (not_done_at a ds who (or_parts (is_kept who kept) (has_done ds who) n).1) in
        let one : filter (stands_for a who) (d ∷ []) ≡ d ∷ [] = rw c refl in
        record {
          front = [];
          back = walk a ds ys;
          before = ap (λ z. filter (stands_for a z) ds ++ walk a ds ys) i ∙ ap (λ l. l ++ walk a ds ys) own;
          behind = ap (λ z. filter (stands_for a z) (ds ++ d ∷ []) ++ walk a (ds ++ d ∷ []) ys) i
              ∙ (ap (λ l. l ++ walk a (ds ++ d ∷ []) ys) (filter_join (stands_for a who) ds (d ∷ []) ∙ (ap (λ l. l ++ filter (stands_for a who) (d ∷ [])) own ∙ one))
              ∙ ap (λ l. d ∷ l) (walk_old a who ds (d ∷ []) ys (o, tt) none));
          readers = walk_readers a ds ys behind;
        }

    there : is_who y who ≡ false → PutIn d (walk a ds ys) (walk a (ds ++ d ∷ []) ys) → PutIn d (walk a ds (y ∷ ys)) (walk a (ds ++ d ∷ []) (y ∷ ys))
    there q r = record {
      front = filter (stands_for a y) ds ++ r.front;
      back = r.back;
      before = ap (λ l. filter (stands_for a y) ds ++ l) r.before ∙ sym (join_assoc (filter (stands_for a y) ds) r.front r.back);
      behind = ap (λ l. l ++ walk a (ds ++ d ∷ []) ys) (filter_join (stands_for a y) ds (d ∷ []) ∙ (ap (λ l. filter (stands_for a y) ds ++ l) (none_of_other a who y (d ∷ []) q (o, tt)) ∙ join_nil (filter (stands_for a y) ds)))
          ∙ (ap (λ l. filter (stands_for a y) ds ++ l) r.behind ∙ sym (join_assoc (filter (stands_for a y) ds) r.front (d ∷ r.back)));
      readers = r.readers;
    }

-- nobody was placed for them, or they did not come
walk_same : (a : ℕ) (who : Who) (ds new : List Done) (ys : List Who) → OfIt who new → filter (stands_for a who) new ≡ [] → walk a (ds ++ new) ys ≡ walk a ds ys
walk_same a who ds new [] o n = refl
walk_same a who ds new (y ∷ ys) o n =
    ap (λ l. l ++ walk a (ds ++ new) ys) (filter_join (stands_for a y) ds new ∙ (ap (λ l. filter (stands_for a y) ds ++ l) none ∙ join_nil (filter (stands_for a y) ds)))
    ∙ ap (λ l. filter (stands_for a y) ds ++ l) (walk_same a who ds new ys o n)
  where
    none : filter (stands_for a y) new ≡ []
    none = elim (cases_Bool (is_who y who)) [ inl q ↦ subst (λ z. filter (stands_for a z) new ≡ []) (sym (is_who_true y who q)) n | inr q ↦ none_of_other a who y new q o ]

-- What commits for one on an actor: it stands there, and what stands for it is what came; or nothing came, and
-- nothing stands for it, or it was not placed.
pub data CommitsFor (a : ℕ) (who : Who) (new : List Done) (ys : List Who) (keys : List Key) : Type 0 where
  Came : is_key_among who keys ≡ true → filter (stands_for a who) new ≡ visitors a new → CommitsFor a who new ys keys
  NotCame : filter (stands_for a who) new ≡ [] → visitors a new ≡ [] → CommitsFor a who new ys keys
  NotPlaced : is_placed who ys ≡ false → visitors a new ≡ [] → CommitsFor a who new ys keys

-- ---- one list grows with the other

shuffled_more : (cs us vs : List Done) → Shuffled cs us → Shuffled (cs ++ vs) (us ++ vs)
shuffled_more cs us [] h = subst (λ z. Shuffled z (us ++ [])) (sym (join_nil cs)) (subst (Shuffled cs) (sym (join_nil us)) h)
shuffled_more cs us (v ∷ vs) h =
    let one : Shuffled (cs ++ v ∷ []) (us ++ v ∷ []) = Put (cs ++ v ∷ []) (us ++ v ∷ []) cs [] us v refl refl tt (subst (λ z. Shuffled z us) (sym (join_nil cs)) h) in
    subst (λ z. Shuffled z (us ++ v ∷ vs)) (join_assoc cs (v ∷ []) vs) (subst (Shuffled ((cs ++ v ∷ []) ++ vs)) (join_assoc us (v ∷ []) vs) (shuffled_more (cs ++ v ∷ []) (us ++ v ∷ []) vs one))

-- what came grows by what commits
came_more : (a : ℕ) (ds new vs : List Done) → visitors a new ≡ vs → visitors a (ds ++ new) ≡ visitors a ds ++ vs
came_more a ds new vs e = filter_join (came_to a) ds new ∙ ap (λ l. visitors a ds ++ l) e

none_more : (a : ℕ) (ds new : List Done) → visitors a new ≡ [] → visitors a (ds ++ new) ≡ visitors a ds
none_more a ds new e = came_more a ds new [] e ∙ join_nil (visitors a ds)

same_shuffle : (a : ℕ) (ds new : List Done) (ys : List Who) → walk a (ds ++ new) ys ≡ walk a ds ys → visitors a new ≡ [] → Shuffled (walk a ds ys) (visitors a ds) → Shuffled (walk a (ds ++ new) ys) (visitors a (ds ++ new))
same_shuffle a ds new ys e v h = subst (λ z. Shuffled z (visitors a (ds ++ new))) (sym e) (subst (Shuffled (walk a ds ys)) (sym (none_more a ds new v)) h)

pub commits : (a : ℕ) (rd : Who → Bool) (who : Who) (kept more : List Who) (ds new : List Done) (ys : List Who) (keys : List Key) → OfIt who new → ((is_kept who kept || has_done ds who) || rd who) ≡ false → AheadKept (λ y. is_kept y kept) who keys → CommitsFor a who new ys keys
    → ChainIs a rd kept ds ys keys → ChainIs a rd (kept ++ more) (ds ++ new) ys keys
commits a rd who kept more ds new ys keys o n k (Came e v) h = record {
  once = h.once;
  in_order = h.in_order;
  front = front_grows a rd who kept more ds new keys ys o (λ q. front_kept (λ y. is_kept y kept) who ys keys h.once h.in_order k e) h.front;
  chain = subst (λ z. Shuffled z (visitors a (ds ++ new))) (sym (walk_last a rd who kept ds new keys ys o h.once (in_order_in who ys keys h.in_order e) e n h.front ∙ ap (λ l. walk a ds ys ++ l) v))
      (subst (Shuffled (walk a ds ys ++ visitors a new)) (sym (filter_join (came_to a) ds new)) (shuffled_more (walk a ds ys) (visitors a ds) (visitors a new) h.chain));
}
commits a rd who kept more ds new ys keys o n k (NotCame e v) h = record {
  once = h.once;
  in_order = h.in_order;
  front = front_grows a rd who kept more ds new keys ys o (λ q. absurd (true≢false (sym q ∙ any_filtered (stands_for a who) new e))) h.front;
  chain = same_shuffle a ds new ys (walk_same a who ds new ys o e) v h.chain;
}
commits a rd who kept more ds new ys keys o n k (NotPlaced e v) h = record {
  once = h.once;
  in_order = h.in_order;
  front = front_grows a rd who kept more ds new keys ys o (λ q. not_there (λ y. is_kept y kept) who keys ys e) h.front;
  chain = same_shuffle a ds new ys (walk_old a who ds new ys o e) v h.chain;
}

-- A reader commits.
pub reads : (a : ℕ) (rd : Who → Bool) (who : Who) (kept more : List Who) (ds : List Done) (d : Done) (ys : List Who) (keys : List Key) → d.who ≡ who → d.reader ≡ true → (is_kept who kept || has_done ds who) ≡ false → (came_to a d ≡ true → AheadKept (λ y. is_kept y kept || rd y) who keys) → CommitsFor a who (d ∷ []) ys keys
    → ChainIs a rd kept ds ys keys → ChainIs a rd (kept ++ more) (ds ++ d ∷ []) ys keys
reads a rd who kept more ds d ys keys o r n k c h = by c
  where
    no_other : is_other_at a (d ∷ []) who ≡ false
    no_other = rw r (none (stands_for a who d))
      where
        none : (b : Bool) → ((b && false) || false) ≡ false
        none true = refl
        none false = refl

    none_came : filter (stands_for a who) (d ∷ []) ≡ [] → visitors a (d ∷ []) ≡ [] → ChainIs a rd (kept ++ more) (ds ++ d ∷ []) ys keys
    none_came e v = record {
      once = h.once;
      in_order = h.in_order;
      front = front_reads a rd who kept more ds (d ∷ []) keys ys (o, tt) no_other (λ q. absurd (true≢false (sym q ∙ any_filtered (stands_for a who) (d ∷ []) e))) h.front;
      chain = same_shuffle a ds (d ∷ []) ys (walk_same a who ds (d ∷ []) ys (o, tt) e) v h.chain;
    }

    by : CommitsFor a who (d ∷ []) ys keys → ChainIs a rd (kept ++ more) (ds ++ d ∷ []) ys keys
    by (NotCame e v) = none_came e v
    by (NotPlaced e v) = record {
      once = h.once;
      in_order = h.in_order;
      front = front_reads a rd who kept more ds (d ∷ []) keys ys (o, tt) no_other (λ q. not_there (λ y. is_kept y kept || rd y) who keys ys e) h.front;
      chain = same_shuffle a ds (d ∷ []) ys (walk_old a who ds (d ∷ []) ys (o, tt) e) v h.chain;
    }
    by (Came e v) = elim (cases_Bool (came_to a d)) [
      | inr f ↦ none_came (v ∙ rw f refl) (rw f refl)
      | inl f ↦
          let one : visitors a (d ∷ []) ≡ d ∷ [] = rw f refl in
          let stands : stands_for a who d ≡ true = first (v ∙ one) in
          let put = walk_put a rd who kept ds d keys ys o stands h.once (in_order_in who ys keys h.in_order e) e n h.front in
          record {
            once = h.once;
            in_order = h.in_order;
            front = front_reads a rd who kept more ds (d ∷ []) keys ys (o, tt) no_other (λ q. front_kept (λ y. is_kept y kept || rd y) who ys keys h.once h.in_order (k f) e) h.front;
            chain = Put (walk a (ds ++ d ∷ []) ys) (visitors a (ds ++ d ∷ [])) put.front put.back (visitors a ds) d put.behind (came_more a ds (d ∷ []) (d ∷ []) one)
                (weaker (λ x. x.reader ≡ true) (λ x. (x.reader && d.reader) ≡ true) put.back (λ x q. and_from x.reader d.reader q r) put.readers) (subst (λ z. Shuffled z (visitors a ds)) put.before h.chain);
          }
    ]
      where
        first : filter (stands_for a who) (d ∷ []) ≡ d ∷ [] → stands_for a who d ≡ true
        first q = test (stands_for a who d) q
          where
            test : (b : Bool) → (if b then d ∷ [] else []) ≡ d ∷ [] → b ≡ true
            test true q = refl
            test false q = absurd (cc q)
